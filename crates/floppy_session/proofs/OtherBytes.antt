-- A read of a sector changes no bytes of memory but those of the sector.
use Rattle.std.proofs.Common.{◌≡◌, ℕ, ◌+◌, ◌-◌, ◌*◌, ◌^◌, ◌<◌, ◌≤◌, Bool, List, ◌++◌, length, take, drop, get_or, refl, sym, ap, ◌∙◌, subst, arith, inl, inr, Result, Ok, Err, length-append, length-take, length-drop}
use Rattle.floppy_session.proofs.Common.{get_or-take, get_or-drop, get_or_append_left, get_or-append-add, Chrn, Code, track_of, SameOutside, StationState, read_refusal, Reads, ReadsDrive}
use Rattle.std.proofs.lemmas.List.FromFn.{length-map-range_with_len}
use Rattle.flop_base.specs.Lists.{with_items}
use Rattle.floppy_session.proofs.Named.{by_refusal}

module _ (memory : List ℕ) (a : ℕ) (bytes : List ℕ) (fits : a + length bytes ≤ length memory) where
  front : length (take a memory) ≡ a
  front = omega (arith, length-take a memory)

  length-written : length (with_items memory a bytes) ≡ length memory
  unfolding with_items
  length-written =
      omega (arith, front, length-append (take a memory) (bytes ++ drop (a + length bytes) memory), length-append bytes (drop (a + length bytes) memory), length-drop (a + length bytes) memory)

  written_outside : SameOutside a (length bytes) memory (with_items memory a bytes)
  unfolding with_items
  written_outside = record {
    length = length-written;
    others = λ k where_is.
        let rest = drop (a + length bytes) memory in
        elim where_is [
          | inl low ↦
              let within : k < length (take a memory) = omega (arith, front) in
              get_or_append_left (take a memory) (bytes ++ rest) 0 k within ∙ get_or-take a memory k 0 low
          | inr high ↦
              let i = k - (a + length bytes) in
              let place : k ≡ length (take a memory) + (length bytes + i) = omega (arith, front) in
              let back : a + length bytes + i ≡ k = omega arith in
              ap (λ j. get_or (take a memory ++ (bytes ++ rest)) j 0) place
              ∙ get_or-append-add (take a memory) (bytes ++ rest) (length bytes + i) 0
              ∙ get_or-append-add bytes rest i 0
              ∙ get_or-drop (a + length bytes) memory i 0
              ∙ ap (λ j. get_or memory j 0) back
        ];
  }

-- memory that stays as it was changed no bytes
pub outside_itself : (memory : List ℕ) (address count : ℕ) → SameOutside address count memory memory
outside_itself memory address count = record { length = refl; others = λ k is. refl }

-- a read of 512 bytes changes no other bytes
read_outside : (old new : StationState) (bay : ℕ) (key : Chrn) (address : ℕ) (answer : Result Bool Code) → ReadsDrive bay key address old answer new → key.n ≡ 2 → address + 512 ≤ length old.memory → SameOutside address 512 old.memory new.memory
read_outside old new bay key address (Ok deleted) reads size room =
    let read = reads.found in
    let track : List ℕ = track_of read.disk read.cylinder key.h in
    let long : length read.content ≡ 128 * 2 ^ key.n = ap length read.whole.content_is ∙ length-map-range_with_len _ 0 (128 * 2 ^ key.n) in
    let size : length read.content ≡ 512 = long ∙ ap (λ n. 128 * 2 ^ n) size in
    subst (λ m. SameOutside address 512 old.memory m) (sym (ap (λ (s : StationState). s.memory) read.becomes))
    (subst (λ k. SameOutside address k old.memory (with_items old.memory address read.content)) size
    (written_outside old.memory address read.content (omega (arith, room, size))))
read_outside old new bay key address (Err code) reads size room =
    subst (λ n. SameOutside address (128 * 2 ^ n) old.memory new.memory) size reads.refused.memory

pub reads_outside : (old new : StationState) (bay : ℕ) (key : Chrn) (address : ℕ) (answer : Result Bool Code) → Reads bay key address old answer new → key.n ≡ 2 → address + 512 ≤ length old.memory → SameOutside address 512 old.memory new.memory
reads_outside old new bay key address answer reads size room =
    by_refusal (read_refusal old bay key address) _ _ reads
    (λ read. read_outside old new bay key address answer read size room)
    (λ code refused. subst (λ m. SameOutside address 512 old.memory m) (sym (ap (λ (s : StationState). s.memory) refused.stays)) (outside_itself old.memory address 512))
