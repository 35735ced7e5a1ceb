use Rattle.std.proofs.Common.{◌≡◌, refl, subst, ap, ◌∙◌, arith}
use Rattle.fdc_chip.proofs.Common.{ChipState, chip_state, SwallowsBy, Busy, Verify}
use Rattle.fdc_chip.proofs.Lists.{swallows_none, swallows_more}
use Rattle.fdc_chip.proofs.chip.Chip.swallow_all.Goals as goal

pub loop-place-init : goal.loop-place-init
loop-place-init g c = (swallows_none c.args.left (chip_state g.D.Drive.state c.args.self.now).front, refl)

pub loop-place-preserved : goal.loop-place-preserved
loop-place-preserved g c = (
  swallows_more c.loop-place._place c.args.left c.loop-place.now c.swallow-now.result (chip_state g.D.Drive.state c.args.self.now).front
      (chip_state g.D.Drive.state c.loop-place.self).front (chip_state g.D.Drive.state c.swallow-now.new.self).front c.loop-place.invariant.0 c.swallow-now.ensures.swallows,
  c.swallow-now.ensures.rest ∙ ap (λ (chip : ChipState). record chip { front = (chip_state g.D.Drive.state c.swallow-now.new.self).front }) c.loop-place.invariant.1,
)

pub returns : goal.returns
returns g c =
    let all : c.loop-place._place ≡ 16 = omega arith in
    record {
      now = c.loop-place.now;
      front = (chip_state g.D.Drive.state c.loop-place.self).front;
      swallows = subst (λ n. SwallowsBy n c.args.left (chip_state g.D.Drive.state c.args.self.now).front c.loop-place.now (chip_state g.D.Drive.state c.loop-place.self).front) all c.loop-place.invariant.0;
      after = ap (λ (chip : ChipState). record chip { stage = Busy (Verify c.loop-place.now) }) c.loop-place.invariant.1;
    }
