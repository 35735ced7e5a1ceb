use Rattle.std.proofs.Common.{ℕ, true, List, slice_set, ap, ◌∙◌}
use Rattle.remaster.proofs.Protected.{protected_spells, same_read}
use Rattle.remaster.proofs.disk.protect.Goals as goal

pub returns-in-Ok : goal.returns-in-Ok
returns-in-Ok c =
    let medium = c.args.medium.now in
    same_read (record medium { protected = true }) c.in-Ok.after
    (c.in-Ok.ensures.only (record medium { protected = true }) (protected_spells medium c.deref.result.now c.words-words.ensures.valid (c.deref.ensures.value ∙ ap (λ (bytes : List ℕ). slice_set bytes 8 1) c.in_ok-image.ensures.spelled)))
