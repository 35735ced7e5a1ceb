use Rattle.std.proofs.Common.{◌≡◌, refl, sym, length, ap, ◌∙◌}
use Rattle.imagedisk.proofs.Common.{eqb-true}
use Rattle.imagedisk.proofs.Held.{none_there}
use Rattle.imagedisk.proofs.taking.take_track.Goals as goal

pub returns-then-is_empty : goal.returns-then-is_empty
returns-then-is_empty c =
    let fields = c.in_ok-listed.listed.items in
    let none : length c.as_slice-fields.result.now ≡ 0 = eqb-true (length c.as_slice-fields.result.now) 0 (sym c.is_empty.ensures ∙ c.if-is_empty.true) in
    none_there c.args.words.now fields c.in_ok-listed.ensures (ap length (sym c.as_slice-fields.ensures.value) ∙ none)

pub returns-in-None : goal.returns-in-None
returns-in-None c = (refl, refl, (c.in_ok-listed.listed.items, c.in_ok-listed.ensures, rw (← c.as_slice-fields.ensures.value) c.in-None.ensures))
