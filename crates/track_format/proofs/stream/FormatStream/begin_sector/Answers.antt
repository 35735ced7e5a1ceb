use Rattle.std.proofs.Common.{◌-◌, ◌<◌, refl, sym, subst, ◌∙◌, arith}
use Rattle.track_format.proofs.Common.{IsInAddress}
use Rattle.track_format.proofs.Steps.{next_sector, no_sector}
use Rattle.track_format.proofs.stream.FormatStream.begin_sector.Goals as goal

pub returns-then-self-eq0 : goal.returns-then-self-eq0
returns-then-self-eq0 c = λ left first h.
    let stream = c.args.self.now in
    record { bit = refl; within = omega arith; part = no_sector stream.size stream.gap3 stream.fill h.0 left (h.1 ∙ c.if-self-eq0.true) h.2 }

pub returns-else-self-eq0 : goal.returns-else-self-eq0
returns-else-self-eq0 c = λ left first h.
    let stream = c.args.self.now in
    let some : 0 < stream.sectors = omega (arith, c.if-self-eq0.false) in
    let begun = next_sector stream.sectors stream.size stream.gap3 stream.fill stream.place stream.check h.0 left h.1 some h.2 in
    record { bit = refl; within = omega arith; part = subst (λ place. IsInAddress (stream.sectors - 1) stream.size stream.gap3 stream.fill place stream.check left) (sym first) begun }
