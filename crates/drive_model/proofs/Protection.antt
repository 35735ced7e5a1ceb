-- A protected medium stays as it is.
use Rattle.std.proofs.Common.{◌≡◌, ℕ, true, false, not, ◌&&◌, Option, Some, None, refl, ap, ◌∙◌, inl, inr}
use Rattle.std.proofs.lemmas.Bool.{cond-false, cond_both}
use Rattle.raw_image.specs.Disk.{Disk}
use Rattle.drive_model.specs.Drive.{DriveState, Writes, is_protected, has_track, rewritten, can_write}

rewritten-protected : (medium : Option Disk) (c h place word : ℕ) → is_protected medium ≡ true → rewritten medium c h place word ≡ medium
rewritten-protected None c h place word covered = refl
rewritten-protected (Some d) c h place word covered =
    let stays : (not d.protected && has_track (Some d) c h) ≡ false = rw covered refl in
    cond-false _ _ _ stays

pub protected-stays : (old new : DriveState) (head word : ℕ) → is_protected old.medium ≡ true → Writes head word old new → new.medium ≡ old.medium
protected-stays old new head word covered (inl wrote) =
    ap (λ (s : DriveState). s.medium) wrote.becomes
    ∙ cond_both (can_write old) _ _ (λ (m : Option Disk). m ≡ old.medium) (λ e. rewritten-protected old.medium old.cylinder head old.place word covered) (λ e. refl)
protected-stays old new head word covered (inr cut) = ap (λ (s : DriveState). s.medium) cut.1.becomes
