-- What the attempts of a call have in common.
use Rattle.std.proofs.Common.{◌≡◌, ◌↔◌, ℕ, ◌+◌, ◌≤◌, IsTrue, Bool, true, List, Some, IsSome, refl, sym, ap, ◌∙◌, subst, arith, inl, inr}
use Rattle.floppy_driver.proofs.Common.{cases_lt, Prepare, Two, in_bay, DriveCounts, Counters, faults_of, DisturbedLess, IsUndisturbed, GoesOn, faults_go_on, Rig, IsSound, HeadsStay, Bay, StationState, IsSteady, spoilable, Notes, Driver, notes_of, is_held, shown, with_notes, HasAsked, IsAttached, IsPrepared, CanTry, IsSure}
use Rattle.floppy_driver.specs.declared.retry_plan.Prepare.TheVariants as prepare
use Rattle.floppy_driver.proofs.SureAttempts.{sure_attempts}
use Rattle.floppy_driver.proofs.Shows.{held_bay_shown, held_lines_stay, moved_shown, known_shown, waiting_goes_on, waiting_driven, noted_at, disturbed_less_more}
use Rattle.floppy_driver.proofs.Prepared.{prepared_stands}

-- ---- how many attempts can be spoilt

pub sure_way : (way : Prepare) (tries attempt : ℕ) (known : Bool) → (way ≡ prepare.Seek) ↔ ((attempt ≡ 1) × IsTrue known × (2 ≤ tries)) → IsSure tries attempt → way ≡ prepare.RecalibrateAndSeek
sure_way prepare.RecalibrateAndSeek tries attempt known plan sure = refl
sure_way prepare.Seek tries attempt known plan (inl single) = let by = plan.0 refl in absurd (omega (arith, by.2))
sure_way prepare.Seek tries attempt known plan (inr later) = let by = plan.0 refl in absurd (omega (arith, by.0))

pub spoilt_none : (tries bay : ℕ) (old new : Counters) → GoesOn old new → DisturbedLess (sure_attempts tries 0) bay old new → ⊥
spoilt_none tries bay old new goes less =
    let f = faults_go_on old new bay goes in
    let s = goes.stalls in
    let t = less.together in
    omega arith

-- one more attempt, which was disturbed if it was sure
pub spoilt_more : (tries count bay : ℕ) (a b c : Counters) → 1 ≤ tries → GoesOn a b → GoesOn b c → GoesOn a c → (DisturbedLess (sure_attempts tries count) bay a b → ⊥) → (IsSure tries (count + 1) → IsUndisturbed bay b c → ⊥) → DisturbedLess (sure_attempts tries (count + 1)) bay a c → ⊥
spoilt_more tries count bay a b c some one two all spoilt sure =
    elim (cases_lt count 1) [
      | inl first ↦ elim (cases_lt 1 tries) [
        | inl many ↦
            let none : sure_attempts tries (count + 1) ≡ sure_attempts tries 0 = omega arith in
            λ less. spoilt_none tries bay a c all (subst (λ (n : ℕ). DisturbedLess n bay a c) none less)
        | inr single ↦ one_more (omega arith) (inl (omega arith))
      ]
      | inr later ↦ one_more (omega arith) (inr (omega arith))
    ]
  where
    one_more : sure_attempts tries (count + 1) ≡ sure_attempts tries count + 1 → IsSure tries (count + 1) → DisturbedLess (sure_attempts tries (count + 1)) bay a c → ⊥
    one_more more is_sure less =
        disturbed_less_more (sure_attempts tries count) bay a b c one two spoilt (sure is_sure)
        (subst (λ (n : ℕ). DisturbedLess n bay a c) more less)

pub all_sure : (tries : ℕ) → 1 ≤ tries → sure_attempts tries tries ≡ spoilable tries
all_sure tries some = omega arith

pub last_sure : (tries : ℕ) → 1 ≤ tries → IsSure tries tries
last_sure tries some =
    elim (cases_lt 1 tries) [
      | inl many ↦ inr (omega arith)
      | inr single ↦ inl (omega arith)
    ]

-- ---- a bay in which an attempt can be made

pub can_try_stays : (driver : Driver) (old new : Rig) (bay : ℕ) → CanTry driver old bay → HeadsStay old new → IsAttached driver new → IsSound new → CanTry driver new bay
can_try_stays driver old new bay can heads attached sound = record {
  in_range = can.in_range;
  held = ap (λ (t : Two Bool). is_held (notes_of driver bay) (in_bay t bay)) heads.changes ∙ can.held;
  attached = attached;
  sound = sound;
}

-- ---- an attempt is prepared

module _ (driver after : Driver) (old new : Rig) (bay target : ℕ) (way : Prepare) (ready : Bool) (can : CanTry driver old bay) (is : after ≡ with_notes driver bay (notes_of after bay)) (prepared : IsPrepared bay target way old (notes_of driver bay) ready new (notes_of after bay)) where
  prepared_notes : after ≡ with_notes driver bay (record (notes_of driver bay) { known = (notes_of after bay).known })
  prepared_notes = is ∙ ap (λ (n : Notes). with_notes driver bay n) prepared.notes_are

  prepared_held : is_held (notes_of after bay) (in_bay new.changes bay) ≡ true
  prepared_held = rw (prepared.notes_are, held_lines_stay old bay new (notes_of driver bay) can.held prepared.moves) can.held

  pub prepared_ready : IsAttached after new → IsSound new → CanTry after new bay
  prepared_ready attached sound = record { in_range = can.in_range; held = prepared_held; attached = attached; sound = sound }

  -- only counters changed in the station that is shown
  pub prepared_shown : (spares : ℕ) (waiting : List DriveCounts) → HasAsked (shown driver old spares waiting) (shown after new spares waiting)
  prepared_shown spares waiting = record {
    stays =
        known_shown driver after new spares waiting bay (notes_of after bay).known prepared_notes
        ∙ moved_shown driver old new spares waiting bay can.held prepared.moves;
    counts = waiting_goes_on old.counters new.counters waiting prepared.moves.counts;
    idle = waiting_driven 0 old.counters new.counters waiting prepared.moves.driven;
  }

  -- in a call that ends steady, the heads stand at the target
  pub prepared_steady : (spares : ℕ) (waiting : List DriveCounts) (later : StationState) → ready ≡ true → (way ≡ prepare.Seek → IsSome (notes_of driver bay).known) → faults_of new.counters bay ≤ faults_of later.counters bay → IsSteady bay (shown driver old spares waiting) later → in_bay new.cylinders bay ≡ target
  prepared_steady spares waiting later is_ready known goes steady =
      let was = held_bay_shown driver old spares waiting bay can.held in
      let acknowledged : Some (notes_of driver bay).kept ≡ Some steady.kept = ap (λ (b : Bay). b.acknowledged) (sym was) ∙ steady.acknowledged in
      let same : (notes_of driver bay).kept ≡ steady.kept = cc acknowledged in
      let k = (noted_at driver old bay can.attached).kept can.held in
      let f = faults_go_on old.counters new.counters bay prepared.moves.counts in
      let counted = steady.count in
      let below = steady.below in
      prepared_stands driver after old new bay can.in_range can.held prepared.moves can.attached target way (notes_of after bay) known
      (subst (λ (r : Bool). IsPrepared bay target way old (notes_of driver bay) r new (notes_of after bay)) is_ready prepared)
      (omega arith) (omega arith)
