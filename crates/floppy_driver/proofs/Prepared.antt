-- How driver and machine agree once an attempt is prepared.
use Rattle.std.proofs.Common.{◌≡◌, ℕ, ◌<◌, ◌≤◌, Bool, true, Option, Some, None, IsSome, refl, sym, ap, ◌∙◌, subst, arith}
use Rattle.floppy_driver.proofs.Common.{last_count, Disk, Prepare, Two, in_bay, faults_of, faults_go_on, Rig, MovesHeads, Notes, Driver, notes_of, is_held, with_notes, IsAttached, IsPrepared}
use Rattle.floppy_driver.specs.declared.retry_plan.Prepare.TheVariants as prepare
use Rattle.floppy_driver.proofs.Shows.{IsNotedAt, noted_at, held_lines_stay, spun_at, attached_noted}

-- what the notes know of the cylinder is true of the drive
record IsKnown (known : Option ℕ) (pcn cylinder kept faults : ℕ) : Type 0 where
  number : (c : ℕ) → known ≡ Some c → pcn ≡ c
  range : (c : ℕ) → known ≡ Some c → c ≤ 79
  stands : (c : ℕ) → known ≡ Some c → faults ≡ kept → faults < last_count → cylinder ≡ c

module _ (driver after : Driver) (old new : Rig) (bay : ℕ) (in_range : bay ≤ 1) (held : is_held (notes_of driver bay) (in_bay old.changes bay) ≡ true) (moves : MovesHeads bay old new) (attached : IsAttached driver old) where
  noted : IsNotedAt driver old bay
  noted = noted_at driver old bay attached

  known_by : (known : Option ℕ) → after ≡ with_notes driver bay (record (notes_of driver bay) { known = known }) → IsKnown known (in_bay new.numbers bay) (in_bay new.cylinders bay) (notes_of driver bay).kept (faults_of new.counters bay) → IsAttached after new
  known_by known is knows =
      let notes = notes_of driver bay in
      let lines = held_lines_stay old bay new notes held moves in
      let line : in_bay new.changes bay ≡ in_bay old.changes bay = ap (λ (t : Two Bool). in_bay t bay) lines in
      attached_noted driver after old new bay (record notes { known = known }) in_range is moves
      (record {
        empty = λ none. line ∙ noted.empty (ap (λ (t : Two (Option Disk)). in_bay t bay) (sym moves.media) ∙ none);
        spun = λ h. spun_at old.spun new.spun bay moves.spun (noted.spun held);
        kept = λ h. let k = noted.kept held in let f = faults_go_on old.counters new.counters bay moves.counts in omega arith;
        number = knows.number;
        range = knows.range;
        stands = λ c e h. knows.stands c e;
      })
      attached

  -- track 0 wasn't reached
  pub attached_lost : after ≡ with_notes driver bay (record (notes_of driver bay) { known = None }) → IsAttached after new
  attached_lost is =
      known_by None is (record { number = λ c e. absurd (cc e); range = λ c e. absurd (cc e); stands = λ c e. absurd (cc e) })

  -- the heads stand at the target if no fault came since the bay was acknowledged
  attached_at : (target : ℕ) → target ≤ 79 → after ≡ with_notes driver bay (record (notes_of driver bay) { known = Some target }) → in_bay new.numbers bay ≡ target → (faults_of new.counters bay ≡ (notes_of driver bay).kept → faults_of new.counters bay < last_count → in_bay new.cylinders bay ≡ target) → IsAttached after new
  attached_at target most is number stands =
      let same : (c : ℕ) → Some target ≡ Some c → target ≡ c = λ c e. cc e in
      known_by (Some target) is
      (record {
        number = λ c e. number ∙ same c e;
        range = λ c e. subst (λ (n : ℕ). n ≤ 79) (same c e) most;
        stands = λ c e counted below. stands counted below ∙ same c e;
      })

  -- if the cylinder of the heads was known, they stood at the controller's number, unless a fault came since the bay
  -- was acknowledged
  stood_at_number : IsSome (notes_of driver bay).known → faults_of old.counters bay ≡ (notes_of driver bay).kept → faults_of old.counters bay < last_count → in_bay old.cylinders bay ≡ in_bay old.numbers bay
  stood_at_number known = at (notes_of driver bay).known refl known
    where
      at : (o : Option ℕ) → (notes_of driver bay).known ≡ o → IsSome o → faults_of old.counters bay ≡ (notes_of driver bay).kept → faults_of old.counters bay < last_count → in_bay old.cylinders bay ≡ in_bay old.numbers bay
      at (Some c) is some counted below = noted.stands c is held counted below ∙ sym (noted.number c is)
      at None is some counted below = absurd (cc some)

  -- the heads of a bay stand at the target if no fault came since the bay was acknowledged
  pub prepared_stands : (target : ℕ) (way : Prepare) (shown : Notes) → (way ≡ prepare.Seek → IsSome (notes_of driver bay).known) → IsPrepared bay target way old (notes_of driver bay) true new shown → faults_of new.counters bay ≡ (notes_of driver bay).kept → faults_of new.counters bay < last_count → in_bay new.cylinders bay ≡ target
  prepared_stands target way shown known prepared = by_way way refl
    where
      by_way : (w : Prepare) → way ≡ w → faults_of new.counters bay ≡ (notes_of driver bay).kept → faults_of new.counters bay < last_count → in_bay new.cylinders bay ≡ target
      by_way prepare.Seek is_way counted below =
          let k = noted.kept held in
          let f = faults_go_on old.counters new.counters bay moves.counts in
          prepared.stepped refl (stood_at_number (known is_way) (omega arith) (omega arith)) (omega arith, below)
      by_way prepare.RecalibrateAndSeek is_way counted below =
          let k = noted.kept held in
          let f = faults_go_on old.counters new.counters bay moves.counts in
          prepared.surely refl is_way (omega arith, below)

  pub attached_ready : (target : ℕ) (way : Prepare) (shown : Notes) → target ≤ 79 → (way ≡ prepare.Seek → IsSome (notes_of driver bay).known) → after ≡ with_notes driver bay (record (notes_of driver bay) { known = Some target }) → IsPrepared bay target way old (notes_of driver bay) true new shown → IsAttached after new
  attached_ready target way shown most known is prepared =
      attached_at target most is (prepared.number refl) (prepared_stands target way shown known prepared)
