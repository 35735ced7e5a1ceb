-- The attempts of a write, one after the other.
use Rattle.std.proofs.Common.{◌≡◌, ℕ, ◌+◌, ◌^◌, ◌<◌, ◌≤◌, Bool, List, drop, get_or, Some, Result, Ok, Err, refl, sym, ap, ◌∙◌, subst, arith, inl, inr}
use Rattle.floppy_driver.proofs.Common.{cases_lt, length-take, length-drop, get_or-take, get_or-drop, get_or_past, Chrn, Code, content_size, DriveCounts, faults_of, CostsUpTo, GoesOn, user_bytes, bytes_from, goes_on_after, goes_on_itself, Written, FitsKey, Bay, StationState, bay_of, write_port_accesses, write_time, WritesDrive, written_from, Rig, AreBytes, Driver, notes_of, shown, HasAsked, IsSure, CanWrite, TriesWrite}
use Rattle.sector_model.specs.Asked.{IsAsked}
use Rattle.floppy_driver.proofs.TriedWrites.{IsWriteStart, HasTriedWrite, BetweenWrites}
use Rattle.floppy_driver.proofs.Shows.{bay_shown_at, held_bay_shown, noted_at, sound_disk}
use Rattle.floppy_driver.proofs.WriteSteps.{tried_more}
use Rattle.floppy_driver.proofs.WriteEnds.{tried_none, ends_tried, ends_done}

-- ---- what is written

below_byte : (bytes : List ℕ) (k : ℕ) → ((j : ℕ) → get_or bytes j 0 < 2 ^ 8) → (address count : ℕ) → get_or (bytes_from bytes address count) k 0 < 2 ^ 8
below_byte bytes k each address count = elim (cases_lt k count) [
  | inl h ↦ subst (λ n. n < 2 ^ 8) (sym (get_or-take count (drop address bytes) k 0 h ∙ get_or-drop address bytes k 0)) (each (address + k))
  | inr h ↦ subst (λ n. n < 2 ^ 8) (sym (get_or_past (bytes_from bytes address count) k 0 (omega (arith, length-take count (drop address bytes))))) (omega arith)
]

fits_key : (memory : List ℕ) (key : Chrn) (deleted : Bool) (address : ℕ) → AreBytes memory user_bytes → address + content_size key.n ≤ user_bytes → FitsKey (record { key = key; deleted = deleted; content = bytes_from memory address (content_size key.n) })
fits_key memory key deleted address sized within = record {
  size = let long = sized.length in omega (arith, length-take (content_size key.n) (drop address memory), length-drop address memory);
  bytes = λ k. below_byte memory k sized.bytes address (content_size key.n);
}

-- ---- the start

module _ (driver : Driver) (rig : Rig) (bay : ℕ) (key : Chrn) (address : ℕ) (deleted : Bool) (can : CanWrite driver rig bay) (within : address + content_size key.n ≤ user_bytes) (start : StationState) (spares : ℕ) (waiting : List DriveCounts) (asked : HasAsked start (shown driver rig spares waiting)) where
  same_memory : rig.memory ≡ start.memory
  same_memory = ap (λ (s : StationState). s.memory) asked.stays

  pub same_tries : driver.tries ≡ start.tries
  same_tries = ap (λ (s : StationState). s.tries) asked.stays

  same_bay : bay_of (shown driver rig spares waiting) bay ≡ bay_of start bay
  same_bay = ap (λ (s : StationState). bay_of s bay) asked.stays

  -- what is written is the same from the station's memory and from the machine's
  pub same_written : written_from start key address deleted ≡ record { key = key; deleted = deleted; content = bytes_from rig.memory address (content_size key.n) }
  same_written = ap (λ m. let written : Written = record { key = key; deleted = deleted; content = bytes_from m address (content_size key.n) } in written) (sym same_memory)

  pub is_start : IsWriteStart (written_from start key address deleted) bay start
  is_start = record {
    fits = subst FitsKey (sym same_written) (fits_key rig.memory key deleted address can.ready.sound.memory within);
    valid = λ disk is.
        sound_disk rig bay disk can.ready.sound (ap (λ (b : Bay). b.medium) (sym (bay_shown_at driver rig spares waiting bay) ∙ same_bay) ∙ is);
    some_tries = let some = driver.some_tries in let same = same_tries in omega arith;
  }

  kept_below : (kept : ℕ) → (bay_of start bay).acknowledged ≡ Some kept → kept ≤ faults_of rig.counters bay
  kept_below kept is =
      let noted : Some (notes_of driver bay).kept ≡ Some kept = ap (λ (b : Bay). b.acknowledged) (sym (held_bay_shown driver rig spares waiting bay can.ready.held) ∙ same_bay) ∙ is in
      let same : (notes_of driver bay).kept ≡ kept = cc noted in
      let less = (noted_at driver rig bay can.ready.attached).kept can.ready.held in
      omega arith

  begun : (code : Code) → HasTriedWrite (written_from start key address deleted) bay 0 start code (shown driver rig spares waiting)
  begun code = tried_none (written_from start key address deleted) bay start (shown driver rig spares waiting) asked code kept_below

-- before the first attempt
pub between_none : (driver : Driver) (rig : Rig) (bay : ℕ) (key : Chrn) (address : ℕ) (deleted : Bool) (code : Code) → CanWrite driver rig bay → IsAsked bay key address → BetweenWrites driver rig bay key address deleted 0 code driver rig
between_none driver rig bay key address deleted code can asked = record {
  tries = refl;
  memory = refl;
  counts = goes_on_itself rig.counters;
  ready = can;
  tried = λ start spares waiting so. begun driver rig bay key address deleted can asked.within start spares waiting so code;
}

-- ---- one more attempt

module _ (first : Driver) (from : Rig) (bay : ℕ) (key : Chrn) (address : ℕ) (deleted : Bool) (count attempt : ℕ) (before : Code) (driver : Driver) (rig : Rig) (can : CanWrite first from bay) (asked : IsAsked bay key address) (between : BetweenWrites first from bay key address deleted count before driver rig) (number : attempt ≡ count + 1) (answer : Result (Unit {0}) Code) (after : Driver) (new : Rig) (tries : (spares : ℕ) (waiting : List DriveCounts) → TriesWrite (IsSure driver.tries attempt) (record { key = key; deleted = deleted; content = bytes_from rig.memory address (content_size key.n) }) bay (shown driver rig spares waiting) answer (shown after new spares waiting)) where
  module _ (start : StationState) (spares : ℕ) (waiting : List DriveCounts) (so : HasAsked start (shown first from spares waiting)) where
    attempt_since : TriesWrite (IsSure start.tries (count + 1)) (written_from start key address deleted) bay (shown driver rig spares waiting) answer (shown after new spares waiting)
    attempt_since =
        let written : record { key = key; deleted = deleted; content = bytes_from rig.memory address (content_size key.n) } ≡ written_from start key address deleted = ap (λ m. let w : Written = record { key = key; deleted = deleted; content = bytes_from m address (content_size key.n) } in w) between.memory ∙ sym (same_written first from bay key address deleted can asked.within start spares waiting so) in
        let sure : IsSure driver.tries attempt ≡ IsSure start.tries (count + 1) = ap (λ n. IsSure n attempt) (between.tries ∙ same_tries first from bay key address deleted can asked.within start spares waiting so) ∙ ap (λ n. IsSure start.tries n) number in
        subst (λ s. TriesWrite s (written_from start key address deleted) bay (shown driver rig spares waiting) answer (shown after new spares waiting)) sure
        (subst (λ w. TriesWrite (IsSure driver.tries attempt) w bay (shown driver rig spares waiting) answer (shown after new spares waiting)) written (tries spares waiting))

    done_since : answer ≡ Ok tt → count + 1 ≤ first.tries → CostsUpTo (write_time start bay) (write_port_accesses start) start.counters new.counters → WritesDrive (written_from start key address deleted) bay start (Ok tt) (shown after new spares waiting)
    done_since ok few costs =
        let all = same_tries first from bay key address deleted can asked.within start spares waiting so in
        let attempt_ok : TriesWrite (IsSure start.tries (count + 1)) (written_from start key address deleted) bay (shown driver rig spares waiting) (Ok tt) (shown after new spares waiting) = subst (λ (r : Result (Unit {0}) Code). TriesWrite (IsSure start.tries (count + 1)) (written_from start key address deleted) bay (shown driver rig spares waiting) r (shown after new spares waiting)) ok attempt_since in
        ends_done (written_from start key address deleted) bay start (shown driver rig spares waiting) (shown after new spares waiting) count before (IsSure start.tries (count + 1))
        (is_start first from bay key address deleted can asked.within start spares waiting so) (between.tried start spares waiting so) attempt_ok (omega arith) costs

    refused_since : (code : Code) → answer ≡ Err code → HasTriedWrite (written_from start key address deleted) bay (count + 1) start code (shown after new spares waiting)
    refused_since code is =
        let attempt_err : TriesWrite (IsSure start.tries (count + 1)) (written_from start key address deleted) bay (shown driver rig spares waiting) (Err code) (shown after new spares waiting) = subst (λ (r : Result (Unit {0}) Code). TriesWrite (IsSure start.tries (count + 1)) (written_from start key address deleted) bay (shown driver rig spares waiting) r (shown after new spares waiting)) is attempt_since in
        tried_more (written_from start key address deleted) bay start (shown driver rig spares waiting) (shown after new spares waiting) count before code
        (is_start first from bay key address deleted can asked.within start spares waiting so) (between.tried start spares waiting so) attempt_err

  -- the attempt was done
  pub between_done : answer ≡ Ok tt → attempt ≤ first.tries → (start : StationState) (spares : ℕ) (waiting : List DriveCounts) → HasAsked start (shown first from spares waiting) → CostsUpTo (write_time start bay) (write_port_accesses start) start.counters new.counters → WritesDrive (written_from start key address deleted) bay start (Ok tt) (shown after new spares waiting)
  between_done ok few start spares waiting so costs = done_since start spares waiting so ok (omega arith) costs

  pub between_counts : GoesOn rig.counters new.counters → GoesOn from.counters new.counters
  between_counts counts = goes_on_after from.counters rig.counters new.counters between.counts counts

  -- the attempt was refused
  pub between_more : (next : ℕ) (code : Code) → next ≡ count + 1 → answer ≡ Err code → after.tries ≡ driver.tries → new.memory ≡ rig.memory → GoesOn rig.counters new.counters → CanWrite after new bay → BetweenWrites first from bay key address deleted next code after new
  between_more next code more is same memory counts ready = record {
    tries = same ∙ between.tries;
    memory = memory ∙ between.memory;
    counts = between_counts counts;
    ready = ready;
    tried = λ start spares waiting so.
        subst (λ (n : ℕ). HasTriedWrite (written_from start key address deleted) bay n start code (shown after new spares waiting)) (sym more)
        (refused_since start spares waiting so code is);
  }

-- all attempts were refused
pub between_all : (first : Driver) (from : Rig) (bay : ℕ) (key : Chrn) (address : ℕ) (deleted : Bool) (count : ℕ) (code : Code) (driver : Driver) (rig : Rig) → CanWrite first from bay → IsAsked bay key address → BetweenWrites first from bay key address deleted count code driver rig → count ≡ first.tries → (start : StationState) (spares : ℕ) (waiting : List DriveCounts) → HasAsked start (shown first from spares waiting) → CostsUpTo (write_time start bay) (write_port_accesses start) start.counters rig.counters → WritesDrive (written_from start key address deleted) bay start (Err code) (shown driver rig spares waiting)
between_all first from bay key address deleted count code driver rig can asked between all start spares waiting so costs =
    let tried = between.tried start spares waiting so in
    let count_is : count ≡ start.tries = all ∙ same_tries first from bay key address deleted can asked.within start spares waiting so in
    ends_tried (written_from start key address deleted) bay start (shown driver rig spares waiting) code
    (is_start first from bay key address deleted can asked.within start spares waiting so)
    (subst (λ (n : ℕ). HasTriedWrite (written_from start key address deleted) bay n start code (shown driver rig spares waiting)) count_is tried) costs
