use Rattle.std.proofs.Common.{arith, min, sym, ap, subst, ◌∙◌}
use Rattle.fdc_chip.proofs.Common.{chip_state, IsQuietFor}
use Rattle.fdc_chip.proofs.Dues.{due_quiet, quiet_due}
use Rattle.fdc_chip.proofs.Quieting.{settled_of, settled_quiet, still_quiet, telling_quiet}
use Rattle.fdc_chip.proofs.chip.Chip.quiet_idle.Goals as goal

pub returns-then-is_still-clause-lines : goal.returns-then-is_still-clause-lines
returns-then-is_still-clause-lines g c = still_quiet c.args.most (chip_state g.D.Drive.state c.args.self.now) (c.is_still.ensures.still c.if-is_still.true)

pub returns-then-is_settled-clause-lines : goal.returns-then-is_settled-clause-lines
returns-then-is_settled-clause-lines g c =
    let chip = chip_state g.D.Drive.state c.args.self.now in
    settled_quiet c.args.most chip (settled_of chip (sym c.is_settled.ensures ∙ c.if-is_settled.true))

pub returns-then-tells_alone-clause-lines : goal.returns-then-tells_alone-clause-lines
returns-then-tells_alone-clause-lines g c =
    telling_quiet c.args.most (chip_state g.D.Drive.state c.args.self.now) (sym c.tells_alone.ensures ∙ c.if-tells_alone.true)

pub returns-clause-few : goal.returns-clause-few
returns-clause-few g c = omega (arith, c.min.ensures)

pub returns-clause-value : goal.returns-clause-value
returns-clause-value g c =
    let chip = chip_state g.D.Drive.state c.args.self.now in
    c.min.ensures
    ∙ (ap (min c.args.most) c.due_steps.ensures
    ∙ sym (quiet_due c.args.most chip (sym c.is_still.ensures.value ∙ c.if-is_still.false) (sym c.is_settled.ensures ∙ c.if-is_settled.false) (sym c.tells_alone.ensures ∙ c.if-tells_alone.false)))

pub returns-clause-lines : goal.returns-clause-lines
returns-clause-lines g c =
    let chip = chip_state g.D.Drive.state c.args.self.now in
    subst (λ n. IsQuietFor n chip) (sym (c.min.ensures ∙ ap (min c.args.most) c.due_steps.ensures)) (due_quiet c.args.most chip c.keep_ranges.ensures)
