-- What a read tells of a track on which no address field can be mistaken.
use Rattle.std.proofs.Common.{arith, ◌≡◌, ◌+◌, ◌<◌, ◌≤◌, ℕ, Bool, List, [], ◌∷◌, refl, inl, inr}
use Rattle.flop_base.specs.Counts.{RoseBy, last_count}
use Rattle.laws_commands.proofs.Common.{Chrn, Code, Look, Found, NoMark, NoSector, NoData, BadCrc, IsAddressAt, LookFor, IsFirstAddress, HasAddressMark, IsPlain, IsSector, IsUndisturbed, faults_of, HasNoClearMark, HasClearAddress, StationState, IsReadCause, told_of}
use Rattle.track_model.proofs.Sectored.{plain_clear}
use Rattle.flop_base.specs.declared.answers.Code.TheVariants as code

pub rose_by : (n before now : ℕ) → RoseBy n before now → now < last_count → before + n ≤ now
rose_by n before now rose below = omega (arith, rose, below)

module _ (track : List ℕ) (key : Chrn) (plain : IsPlain track) (single : (p q : ℕ) → IsAddressAt track p key → IsAddressAt track q key → p ≡ q) where
  first_of : (p : ℕ) → IsAddressAt track p key → IsFirstAddress track key p
  first_of p address = record {
    address = address;
    none_before = λ k before other. let same = single k p other address in absurd (omega arith);
  }

  -- a sector that the track has is found by the look for its key
  pub found_look : (deleted : Bool) (content : List ℕ) → IsSector track key deleted content → (place : ℕ) × LookFor track key (Found deleted place)
  found_look deleted content (p, place, address, look, is) = (place, (p, first_of p address, look))

  -- if no address mark is Clear, the look for a key answers NoMark
  no_mark : HasNoClearMark track → LookFor track key NoMark
  no_mark none (p, mark) = none p (plain_clear track p plain mark)

  no_sector : HasAddressMark track → (HasClearAddress track key → ⊥) → LookFor track key NoSector
  no_sector marked none = (marked, λ p address. none (p, record { clear = plain_clear track p plain address.mark; address = address }))

  -- the code with which an undisturbed read was refused is that of the look for its key
  pub cause_look : (tries bay : ℕ) (cause : Code) (old new : StationState) → IsReadCause track key tries bay old cause new
      → IsUndisturbed bay old.counters new.counters → old.counters.stalls ≤ new.counters.stalls
      → faults_of old.counters bay ≤ faults_of new.counters bay
      → (look : Look) × LookFor track key look × (told_of key look ≡ (key, cause) ∷ [])
  cause_look tries bay code.NoMark old new is quiet fell kept = elim (is.no_mark refl quiet) [
    | inl none ↦ (NoMark, no_mark none, refl)
    | inr bad ↦ (NoData, (bad.0, first_of bad.0 bad.1, bad.2), refl)
  ]
  cause_look tries bay code.NotFound old new is quiet fell kept = let none = is.not_found refl quiet in (NoSector, no_sector none.0 none.1, refl)
  cause_look tries bay code.BadCrc old new is quiet fell kept = let bad = is.bad_data refl quiet in (BadCrc, (bad.0, first_of bad.0 bad.1, bad.2), refl)
  cause_look tries bay code.Overrun old new is quiet fell kept = let rose = rose_by 1 _ _ (is.overrun refl) quiet.stalls in absurd (omega (arith, quiet.together))
  cause_look tries bay code.Seek old new is quiet fell kept = let rose = rose_by 77 _ _ (is.lost refl) quiet.faults in absurd (omega (arith, quiet.together))
  cause_look tries bay _ old new is quiet fell kept = absurd is.device
