-- Memory that is set byte by byte.
use Rattle.std.proofs.Common.{◌≡◌, ℕ, ◌+◌, ◌-◌, ◌<◌, List, [], ◌∷◌, ◌++◌, length, take, drop, min, suc, replicate, get_or, refl, sym, ap, ◌∙◌, subst, arith, append_assoc, slice_set, length-append, length-take, length-drop}
use Rattle.floppy_session.proofs.Common.{take-append-drop, replicate-append-replicate, length-replicate, user_bytes, StationState, SetsMemory, State, Fills, costs_after, costs_none, goes_on_after, goes_on_itself}
use Rattle.std.proofs.Math.Seq.{drop-cons, set-append_seam}
use Rattle.flop_base.specs.Lists.{with_items}
use Rattle.flop_base.specs.Counters.{GoesOn}

module _ (memory : List ℕ) (address : ℕ) where
  -- setting no bytes changes nothing
  pub with_items-nil : with_items memory address [] ≡ memory
  unfolding with_items
  with_items-nil =
      let e : address + 0 ≡ address = omega arith in
      ap (λ n. take address memory ++ drop n memory) e ∙ take-append-drop address memory

  pub length-with_items : (bytes : List ℕ) → length (with_items memory address bytes) ≡ min address (length memory) + (length bytes + (length memory - (address + length bytes)))
  unfolding with_items
  length-with_items bytes = simp (length-append, length-take, length-drop)

  -- one more byte is set, right behind those that were set
  pub set-with_items : (bytes : List ℕ) (byte : ℕ) → address + length bytes < length memory → slice_set (with_items memory address bytes) (address + length bytes) byte ≡ with_items memory address (bytes ++ byte ∷ [])
  unfolding with_items
  set-with_items bytes byte inside =
      let front : List ℕ = take address memory ++ bytes in
      let here : ℕ = address + length bytes in
      let old : ℕ = get_or memory here 0 in
      let behind : List ℕ = drop (suc here) memory in
      let long : length front ≡ here = simp (length-append, length-take) (omega arith) in
      let cut : take address memory ++ (bytes ++ drop here memory) ≡ front ++ (old ∷ behind) =
      ap (λ s. take address memory ++ (bytes ++ s)) (drop-cons memory here 0 inside) ∙ sym (append_assoc (take address memory) bytes (old ∷ behind)) in
      let put : slice_set (front ++ (old ∷ behind)) here byte ≡ front ++ (byte ∷ behind) =
      subst (λ (k : ℕ). slice_set (front ++ (old ∷ behind)) k byte ≡ front ++ (byte ∷ behind)) long (set-append_seam front old behind byte) in
      let after : address + length (bytes ++ byte ∷ []) ≡ suc here = simp length-append (omega arith) in
      let back : front ++ (byte ∷ behind) ≡ take address memory ++ ((bytes ++ byte ∷ []) ++ drop (address + length (bytes ++ byte ∷ [])) memory) =
      append_assoc (take address memory) bytes (byte ∷ behind)
      ∙ ap (λ s. take address memory ++ s) (sym (append_assoc bytes (byte ∷ []) behind))
      ∙ ap (λ n. take address memory ++ ((bytes ++ byte ∷ []) ++ drop n memory)) (sym after) in
      ap (λ s. slice_set s here byte) cut ∙ put ∙ back

  -- one more byte of a fill
  pub set-filled : (i byte : ℕ) → address + i < length (with_items memory address (replicate i byte)) → slice_set (with_items memory address (replicate i byte)) (address + i) byte ≡ with_items memory address (replicate (i + 1) byte)
  set-filled i byte inside =
      let size : length (replicate i byte) ≡ i = length-replicate i byte in
      let room : address + length (replicate i byte) < length memory = omega (arith, inside, size, length-with_items (replicate i byte)) in
      ap (λ n. slice_set (with_items memory address (replicate i byte)) (address + n) byte) (sym size)
      ∙ set-with_items (replicate i byte) byte room
      ∙ ap (λ bytes. with_items memory address bytes) (replicate-append-replicate i 1 byte)

-- a fill of no bytes so far
pub fills_none : (old : State) (address byte : ℕ) → Fills address 0 byte old old
fills_none old address byte = record {
  names = refl;
  becomes = ap (λ (memory : List ℕ). let station : StationState = record old.station { memory = memory } in station) (sym (with_items-nil old.station.memory address));
  access = record { accesses = omega arith; no_commands = refl; no_cost = costs_none 0 0 old.station.counters };
  counts = goes_on_itself old.station.counters;
}

-- one more byte is filled, right behind those that were filled
pub fills_more : (old mid new : State) (address i byte : ℕ) → Fills address i byte old mid → new.names ≡ mid.names → SetsMemory (address + i) byte mid.station new.station → GoesOn mid.station.counters new.station.counters → length mid.station.memory ≡ user_bytes → address + i < 983040 → Fills address (i + 1) byte old new
fills_more old mid new address i byte filled names sets counts size inside =
    let memory : mid.station.memory ≡ with_items old.station.memory address (replicate i byte) = ap (λ (s : StationState). s.memory) filled.becomes in
    let long : length (with_items old.station.memory address (replicate i byte)) ≡ 983040 = ap length (sym memory) ∙ size in
    let more = set-filled old.station.memory address i byte (omega (arith, long, inside)) in
    record {
      names = names ∙ filled.names;
      becomes =
          sets.becomes
          ∙ ap (λ (s : StationState). let t : StationState = record s { memory = slice_set s.memory (address + i) byte; counters = new.station.counters } in t) filled.becomes
          ∙ ap (λ (m : List ℕ). let t : StationState = record old.station { memory = m; counters = new.station.counters } in t) more;
      access = record {
        accesses = omega (arith, filled.access.accesses, sets.access.accesses);
        no_commands = sets.access.no_commands ∙ filled.access.no_commands;
        no_cost = costs_after 0 0 old.station.counters mid.station.counters new.station.counters filled.access.no_cost sets.access.no_cost;
      };
      counts = goes_on_after _ _ _ filled.counts counts;
    }
