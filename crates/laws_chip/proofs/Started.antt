-- The sectors of a command: from each sector to the next there is one fewer, and there are at most 512.
use Rattle.std.proofs.Common.{◌≡◌, inl, inr, ℕ, zero, suc, ◌+◌, ◌-◌, ◌%◌, ◌<◌, ◌≤◌, Bool, true, false, not, ◌&&◌, ◌||◌, ◌==◌, if◌then◌else◌, List, [], ◌∷◌, ◌++◌, replicate, refl, sym, ◌∙◌, ap, arith, ◌⊎◌, nat_le, Option, None, length, subst, zero-add}
use Rattle.std.specs.Int.Bits.{bit_xor}
use Rattle.std.specs.Prelude.{bit_and}
use Rattle.laws_chip.proofs.Common.{cases_lt, cases_order, eqb-false, eqb-true, false≢true, ne_eqb, not-false, is_last, is_second_head, next_cylinder, next_of, next_record, other_head, Transfer, Steps, HasByteRecords, goes_to_other, records_from, sectors_from, SectorCallsCall as Call, chip_steps_in as steps_in, and_from, and_parts, leb-true, Chrn, IsSizeCode, content_size, emptied, seek_bits, is_begun, Invalid, Command, ReadData, WriteData, WriteDeleted, Past, new_past, BeginsData, TakesAs, answered, told_count, ReadsField, address_words, heard_words, Sent, told_in, is_executing, is_taking, TakesWhole, is_idle, mark_of, MayWrite, Short, Fdc, Lines, Result, AdapterState, moving_of, sector_alone, told_if, Accounts, Carries, IsFree, IsOfOther, MayMove, bytes_moved, sent_of, command_for, command_of, is_skipping, size_of, Operation, Read, Write, MovingSector, ReadyCommand as Ready, SeekCommand as Seek, FdcObeys as Obeys}
use Rattle.std.proofs.lemmas.Nat.Bits.{and_pow, bit_at-lt, bit_at_xor}
use Rattle.std.specs.Int.{bit_at}
use Rattle.fdc_core.specs.Heard.{MayRead}
use Rattle.laws_chip.proofs.Known.{clash, either_way, told_busy, told_on}
use Rattle.laws_chip.proofs.Marks.{fresh_mark, told_mark}

records_step : (last r next more now : ℕ) → (r + 1) % 256 ≡ next → (last + 256 - next) % 256 ≡ more → (last + 256 - r) % 256 ≡ now → more + 1 ≡ now → records_from last ((r + 1) % 256) + 1 ≡ records_from last r
records_step last r next more now next_is more_is now_is one = grind arith

-- the record after FF is 00
records_around : (last r : ℕ) → last < r → r < 256 → records_from last ((r + 1) % 256) + 1 ≡ records_from last r
records_around last r above few = elim (cases_lt r 255) [
  | inl more ↦ records_step last r (r + 1) (last + 256 - (r + 1)) (last + 256 - r) (omega arith) (omega arith) (omega arith) (omega arith)
  | inr over ↦ records_step last r 0 last (last + 1) (omega arith) (omega arith) (omega arith) (omega arith)
]

records_next : (last r : ℕ) → last < 256 → r < 256 → (r ≡ last → ⊥) → records_from last ((r + 1) % 256) + 1 ≡ records_from last r
records_next last r few small other = elim (cases_order r last) [
  | inl same ↦ absurd (other same)
  | inr (inl below) ↦ records_step last r (r + 1) (last - (r + 1)) (last - r) (omega arith) (omega arith) (omega arith) (omega arith)
  | inr (inr above) ↦ records_around last r above small
]

-- after head 0 comes head 1
other_side : (head_drive : ℕ) → is_second_head head_drive ≡ false → is_second_head (bit_xor head_drive 4) ≡ true
other_side head_drive first =
    let before = and_pow head_drive 2 in
    let after = and_pow (bit_xor head_drive 4) 2 in
    let flips = bit_at_xor head_drive 4 2 in
    let one : bit_at 4 2 ≡ 1 = refl in
    let none : bit_and head_drive 4 ≡ 0 = eqb-true (bit_and head_drive 4) 0 (not-false (bit_and head_drive 4 == 0) first) in
    let few = bit_at-lt head_drive 2 in
    ap not (ne_eqb (bit_and (bit_xor head_drive 4) 4) 0 (λ zero_is. omega (arith, before, after, flips, one, none, few, zero_is)))

none_behind : (b c : Bool) (n : ℕ) → c ≡ true → (if b && not c then n else 0) ≡ 0
none_behind true true n is = refl
none_behind false true n is = refl
none_behind b false n is = absurd (false≢true is)

some_behind : (b c : Bool) (n : ℕ) → b ≡ true → c ≡ false → (if b && not c then n else 0) ≡ n
some_behind true false n is other = refl
some_behind true true n is other = absurd (false≢true (sym other))
some_behind false c n is other = absurd (false≢true is)

first_head : (a b c : Bool) → (a && (not b || c)) ≡ false → a ≡ true → b ≡ true → c ≡ false
first_head true true c goes one two = goes
first_head true false c goes one two = absurd (false≢true two)
first_head false b c goes one two = absurd (false≢true one)

is_multitrack : (a b c : Bool) → (a && (not b || c)) ≡ false → a ≡ true → b ≡ false → ⊥
is_multitrack true false c goes one two = false≢true (sym goes)
is_multitrack true true c goes one two = false≢true (sym two)
is_multitrack false b c goes one two = false≢true one

same_behind : (before after behind : ℕ) → after + 1 ≡ before → after + behind + 1 ≡ before + behind
same_behind before after behind one = omega arith

head_over : (before after records here : ℕ) → after ≡ records + 0 → before ≡ here + records → here ≡ 1 → after + 1 ≡ before
head_over before after records here after_is before_is one = omega arith

-- from the next sector on there is one sector fewer
pub sectors_next : (at : Transfer) → HasByteRecords at → is_last at ≡ false → sectors_from (next_of at) + 1 ≡ sectors_from at
sectors_next at (small, few) goes = by_place (at.key.r == at.last_sector) at.opcode.multitrack refl refl
  where
    by_place : (a b : Bool) → (at.key.r == at.last_sector) ≡ a → at.opcode.multitrack ≡ b → sectors_from (if a then (if b then other_head at else next_cylinder at) else next_record at) + 1 ≡ sectors_from at
    by_place false b place many =
        same_behind (records_from at.last_sector at.key.r) (records_from at.last_sector ((at.key.r + 1) % 256)) (if goes_to_other at then records_from at.last_sector 1 else 0)
        (records_next at.last_sector at.key.r few small (eqb-false at.key.r at.last_sector place))
    by_place true false place many = absurd (is_multitrack (at.key.r == at.last_sector) at.opcode.multitrack (is_second_head at.head_drive) goes place many)
    by_place true true place many =
        let records = records_from at.last_sector 1 in
        let side = first_head (at.key.r == at.last_sector) at.opcode.multitrack (is_second_head at.head_drive) goes place many in
        let after = ap (λ n. records + n) (none_behind at.opcode.multitrack (is_second_head (bit_xor at.head_drive 4)) records (other_side at.head_drive side)) in
        let before = ap (λ n. records_from at.last_sector at.key.r + n) (some_behind at.opcode.multitrack (is_second_head at.head_drive) records many side) in
        head_over (sectors_from at) (sectors_from (other_head at)) records (records_from at.last_sector at.key.r) after before
        (ap (records_from at.last_sector) (eqb-true at.key.r at.last_sector place) ∙ (omega arith))

both_few : (b : Bool) (n m : ℕ) → n ≤ 256 → m ≤ 256 → n + (if b then m else 0) ≤ 512
both_few true n m here there = omega arith
both_few false n m here there = omega arith

pub sectors_few : (at : Transfer) → sectors_from at ≤ 512
sectors_few at = both_few (goes_to_other at) (records_from at.last_sector at.key.r) (records_from at.last_sector 1) (omega arith) (omega arith)

pub sectors_some : (at : Transfer) → 1 ≤ sectors_from at
sectors_some at = omega arith

-- the numbers of the next sector are bytes too
pub next_bytes : (at : Transfer) → HasByteRecords at → HasByteRecords (next_of at)
next_bytes at (small, few) = by_place (at.key.r == at.last_sector) at.opcode.multitrack
  where
    first : 1 < 256
    first = omega arith

    next : (at.key.r + 1) % 256 < 256
    next = omega arith

    by_place : (a b : Bool) → HasByteRecords (if a then (if b then other_head at else next_cylinder at) else next_record at)
    by_place true true = (first, few)
    by_place true false = (first, few)
    by_place false b = (next, few)

-- how many of the calls are device steps
pub steps_run : (n : ℕ) → steps_in (replicate n Steps) ≡ n
steps_run zero = refl
steps_run (suc n) = let rest = steps_run n in omega arith

pub steps_both : (first second : List Call) → steps_in (first ++ second) ≡ steps_in first + steps_in second
steps_both [] second = omega arith
steps_both (call ∷ first) second = let rest = steps_both first second in omega arith

-- ---- how the controller's own command for a sector begins

-- ---- sizes

-- the bytes of a sector
pub size_is : (n : ℕ) → IsSizeCode n → size_of n ≡ content_size n
size_is zero (some, few) = absurd (omega arith)
size_is (suc (suc (suc (suc (suc (suc (suc n))))))) (some, few) = absurd (omega arith)
size_is _ sized = refl

pub size_some : (n : ℕ) → IsSizeCode n → (size_of n == 0) ≡ false
size_some zero (some, few) = absurd (omega arith)
size_some (suc (suc (suc (suc (suc (suc (suc n))))))) (some, few) = absurd (omega arith)
size_some _ sized = refl

pub in_range : (n : ℕ) → (nat_le 1 n && nat_le n 6) ≡ true → IsSizeCode n
in_range n is = let (some, few) = and_parts (nat_le 1 n) (nat_le n 6) is in (leb-true 1 n some, leb-true n 6 few)

-- ---- the command is taken

-- 80 is answered in place of a command
abbrev IsAnswered : Fdc → Type 0
IsAnswered fdc = fdc.phase ≡ Result (Short 0x80 None)

-- nothing stands in the way of the command, if the controller executes it
module _ (P : Type 0) (seeks : ℕ) (non_dma : Bool) (old new : Fdc) where
  abbrev May : Type 0
  May = (seeks ≡ 0 → (non_dma ≡ true → new ≡ answered 0x80 None old) × (non_dma ≡ false → P)) × ((seeks == 0) ≡ false → new ≡ answered 0x80 None old)

  -- the command begins, or 80 is answered
  begins_or : May → (P × (seeks ≡ 0) × (non_dma ≡ false)) ⊎ IsAnswered new
  begins_or (resting, seeking) = either_way (seeks == 0)
      (λ none. let rests = eqb-true seeks 0 none in let begins = resting rests in either_way non_dma (λ set. inr (ap (λ fdc. fdc.phase) (begins.0 set))) (λ clear. inl (begins.1 clear, rests, clear)))
      (λ some. inr (ap (λ fdc. fdc.phase) (seeking some)))

sized_or : (b : Bool) (command : Command) (lines : Lines) (old new : Fdc) → TakesAs (if b then Ready command else Invalid) lines old new
    → ((b ≡ true) × Obeys command lines old new) ⊎ IsAnswered new
sized_or true command lines old new takes = inl (refl, takes)
sized_or false command lines old new takes = inr (ap (λ fdc. fdc.phase) takes)

-- the command is executed, and nothing was heard or moved
pub record Begun (operation : Operation) (sent : Sent) (new : Fdc) : Type 0 where
  pub sized : IsSizeCode sent.key.n
  pub moves : MayMove operation new_past sent new
  pub busy : is_executing new.phase ≡ true
  pub free : IsFree new

module _ (head_drive : ℕ) (key : Chrn) (last_sector gap length_code : ℕ) (lines : Lines) (old new : Fdc) where
  abbrev sends : Sent
  sends = record { head_drive = head_drive; key = key; last_sector = last_sector }

  read_begins : (wanted skip : Bool) → IsSizeCode key.n → IsFree old → BeginsData (ReadData head_drive key last_sector gap length_code) old new → Begun (Read wanted skip) sends new
  read_begins wanted skip sized free (task, is, waits, after) = record {
    sized = sized;
    moves = subst (MayRead new_past sends) (sym after) is;
    busy = ap (λ fdc. is_executing fdc.phase) after;
    free = subst IsFree (sym after) (record { rests = free.rests; by_dma = free.by_dma });
  }

  write_begins : IsSizeCode key.n → IsFree old → BeginsData (WriteData head_drive key last_sector gap length_code) old new → Begun (Write false) sends new
  write_begins sized free (task, is, waits, after) = record {
    sized = sized;
    moves = subst (MayWrite new_past sends false) (sym after) (is (emptied old.fifo.on old.fifo.threshold) false refl);
    busy = ap (λ fdc. is_executing fdc.phase) after;
    free = subst IsFree (sym after) (record { rests = free.rests; by_dma = free.by_dma });
  }

  deleted_begins : IsSizeCode key.n → IsFree old → BeginsData (WriteDeleted head_drive key last_sector gap length_code) old new → Begun (Write true) sends new
  deleted_begins sized free (task, is, waits, after) = record {
    sized = sized;
    moves = subst (MayWrite new_past sends true) (sym after) (is (emptied old.fifo.on old.fifo.threshold) false refl);
    busy = ap (λ fdc. is_executing fdc.phase) after;
    free = subst IsFree (sym after) (record { rests = free.rests; by_dma = free.by_dma });
  }

  read_taken : (wanted skip : Bool) → TakesAs (if nat_le 1 key.n && nat_le key.n 6 then Ready (ReadData head_drive key last_sector gap length_code) else Invalid) lines old new
      → Begun (Read wanted skip) sends new ⊎ IsAnswered new
  read_taken wanted skip takes = elim (sized_or (nat_le 1 key.n && nat_le key.n 6) (ReadData head_drive key last_sector gap length_code) lines old new takes) [
    | inr answers ↦ inr answers
    | inl (sized, obeys) ↦ elim (begins_or (BeginsData (ReadData head_drive key last_sector gap length_code) old new) (seek_bits old.seeks) old.non_dma old new obeys) [
      | inr answers ↦ inr answers
      | inl (begins, rests, by_dma) ↦ inl (read_begins wanted skip (in_range key.n sized) (record { rests = rests; by_dma = by_dma }) begins)
    ]
  ]

  write_taken : TakesAs (if nat_le 1 key.n && nat_le key.n 6 then Ready (WriteData head_drive key last_sector gap length_code) else Invalid) lines old new → Begun (Write false) sends new ⊎ IsAnswered new
  write_taken takes = elim (sized_or (nat_le 1 key.n && nat_le key.n 6) (WriteData head_drive key last_sector gap length_code) lines old new takes) [
    | inr answers ↦ inr answers
    | inl (sized, obeys) ↦ elim (begins_or (BeginsData (WriteData head_drive key last_sector gap length_code) old new) (seek_bits old.seeks) old.non_dma old new obeys) [
      | inr answers ↦ inr answers
      | inl (begins, rests, by_dma) ↦ inl (write_begins (in_range key.n sized) (record { rests = rests; by_dma = by_dma }) begins)
    ]
  ]

  deleted_taken : TakesAs (if nat_le 1 key.n && nat_le key.n 6 then Ready (WriteDeleted head_drive key last_sector gap length_code) else Invalid) lines old new → Begun (Write true) sends new ⊎ IsAnswered new
  deleted_taken takes = elim (sized_or (nat_le 1 key.n && nat_le key.n 6) (WriteDeleted head_drive key last_sector gap length_code) lines old new takes) [
    | inr answers ↦ inr answers
    | inl (sized, obeys) ↦ elim (begins_or (BeginsData (WriteDeleted head_drive key last_sector gap length_code) old new) (seek_bits old.seeks) old.non_dma old new obeys) [
      | inr answers ↦ inr answers
      | inl (begins, rests, by_dma) ↦ inl (deleted_begins (in_range key.n sized) (record { rests = rests; by_dma = by_dma }) begins)
    ]
  ]

-- without the bytes of a command that has begun
abbrev pub without_bytes : Fdc → Fdc
without_bytes old = record old { command = [] }

taken_by : (operation : Operation) (at : Transfer) (lines : Lines) (old new : Fdc) → TakesWhole (Ready (command_for operation at.head_drive at.key at.last_sector at.gap at.length)) lines old new
    → Begun operation (sent_of at) new ⊎ IsAnswered new
taken_by (Read wanted skip) at lines old new takes = read_taken at.head_drive at.key at.last_sector at.gap at.length lines (without_bytes old) new wanted skip takes
taken_by (Write false) at lines old new takes = write_taken at.head_drive at.key at.last_sector at.gap at.length lines (without_bytes old) new takes
taken_by (Write true) at lines old new takes = deleted_taken at.head_drive at.key at.last_sector at.gap at.length lines (without_bytes old) new takes

-- the controller's own command for a sector begins, or 80 is answered
pub command_taken : (at : Transfer) (lines : Lines) (old new : Fdc) → TakesWhole (Ready (command_of at)) lines old new → Begun at.opcode.operation (sent_of at) new ⊎ IsAnswered new
command_taken at lines old new takes = taken_by at.opcode.operation at lines old new takes

pub answered_idle : (at : Transfer) (lines : Lines) (old new : Fdc) → TakesWhole (Ready (command_of at)) lines old new → is_executing new.phase ≡ false → IsAnswered new
answered_idle at lines old new takes idle = elim (command_taken at lines old new takes) [
  | inl begun ↦ clash (is_executing new.phase) idle begun.busy
  | inr answers ↦ answers
]

pub begun_busy : (at : Transfer) (lines : Lines) (old new : Fdc) → TakesWhole (Ready (command_of at)) lines old new → is_executing new.phase ≡ true → Begun at.opcode.operation (sent_of at) new
begun_busy at lines old new takes busy = elim (command_taken at lines old new takes) [
  | inl begun ↦ begun
  | inr answers ↦ clash (is_executing new.phase) (ap is_executing answers) busy
]

-- ---- the seek that comes before

-- 80 is answered if the controller took commands before this one and takes none after it
pub seek_answered : (head_drive cylinder : ℕ) (lines : Lines) (old new : Fdc) → TakesWhole (Ready (Seek head_drive cylinder)) lines old new → is_idle old ≡ true → is_idle new ≡ false
    → new.phase ≡ Result (Short 0x80 None)
seek_answered head_drive cylinder lines old new takes idle busy = either_way (seek_bits old.seeks == 0)
    (λ none.
    let is = takes.0 (eqb-true (seek_bits old.seeks) 0 none) in
    let taking = (and_parts (is_taking old) (not (is_begun old.command)) idle).0 in
    clash (is_idle new) busy (ap is_idle is ∙ and_from (is_taking old) true taking refl))
    (λ some. ap (λ fdc. fdc.phase) (takes.1 some))

-- ---- the sector is then under way

none_moved : (operation : Operation) (counted : Bool) → bytes_moved operation (told_in counted new_past) ≡ []
none_moved (Read wanted skip) true = refl
none_moved (Read wanted skip) false = refl
none_moved (Write deleted) true = refl
none_moved (Write deleted) false = refl

begun_told : (counted : Bool) (n : ℕ) → IsSizeCode n → (told_in counted new_past).counted ≡ (counted || (size_of n == 0))
begun_told true n sized = refl
begun_told false n sized = sym (size_some n sized)

begun_accounts : (operation : Operation) (met : Bool) (at : Transfer) (counted : Bool) (mark : Option Bool) → IsSizeCode at.key.n → Accounts operation met (moving_of at counted met) (told_in counted new_past) mark
begun_accounts operation met at counted mark sized = record {
  sized = sized;
  bytes = inl (refl, refl, ap (λ bytes. length bytes + size_of at.key.n) (none_moved operation counted) ∙ (zero-add (size_of at.key.n) ∙ size_is at.key.n sized));
  clean = λ skips other. none_moved operation counted;
  told = begun_told counted at.key.n sized;
}

-- no mark is known
begun_mark : (operation : Operation) (sent : Sent) (fdc : Fdc) → MayMove operation new_past sent fdc → is_skipping operation ≡ true → IsOfOther operation (mark_of fdc) → ⊥
begun_mark (Read wanted skip) sent fdc moves skips (marked, is, other) = cc (fresh_mark sent fdc.phase fdc.asking fdc.fifo.bytes moves, is)
begun_mark (Write deleted) sent fdc moves skips other = false≢true skips

-- the controller is given the terminal count
pub told_carries : (operation : Operation) (met : Bool) (moving : MovingSector) (past : Past) (fdc : Fdc) → MayMove operation past (sent_of moving.transfer) fdc → is_executing fdc.phase ≡ true → IsFree fdc
    → Accounts operation met moving (told_in true past) (mark_of fdc) → (is_skipping operation ≡ true → IsOfOther operation (mark_of fdc) → moving.left ≡ 0)
    → Carries operation met moving (told_in true past) (told_count fdc)
told_carries operation met moving past fdc moves busy free accounts passes = record {
  moves = told_on operation past (sent_of moving.transfer) fdc busy moves;
  busy = told_busy fdc.phase busy;
  free = record { rests = free.rests; by_dma = free.by_dma };
  accounts = subst (Accounts operation met moving (told_in true past)) (sym (told_mark fdc.phase)) accounts;
  passes = λ skips other. passes skips (subst (IsOfOther operation) (told_mark fdc.phase) other);
}

pub begun_carries : (operation : Operation) (met : Bool) (at : Transfer) (counted : Bool) (between : AdapterState) → Begun operation (sent_of at) between.controller
    → Carries operation met (moving_of at counted met) (told_in counted new_past) (told_if counted between).controller
begun_carries operation met at true between begun =
    told_carries operation met (moving_of at true met) new_past between.controller begun.moves begun.busy begun.free
    (begun_accounts operation met at true (mark_of between.controller) begun.sized)
    (λ skips other. absurd (begun_mark operation (sent_of at) between.controller begun.moves skips other))
begun_carries operation met at false between begun = record {
  moves = begun.moves;
  busy = begun.busy;
  free = begun.free;
  accounts = begun_accounts operation met at false (mark_of between.controller) begun.sized;
  passes = λ skips other. absurd (begun_mark operation (sent_of at) between.controller begun.moves skips other);
}

-- ---- a sector whose address field has just passed

-- the words of the address field are what was heard
pub field_carries : (head_drive : ℕ) (key : Chrn) (old new : Fdc) → IsSizeCode key.n → IsFree old → ReadsField (sent_of (sector_alone head_drive key)) old new
    → Carries (Read false false) false (moving_of (sector_alone head_drive key) false false) (heard_words (address_words key)) new
field_carries head_drive key old new sized free (task, is, after) = record {
  moves = subst (MayRead (heard_words (address_words key)) (sent_of (sector_alone head_drive key))) (sym after) is;
  busy = ap (λ fdc. is_executing fdc.phase) after;
  free = subst IsFree (sym after) (record { rests = free.rests; by_dma = free.by_dma });
  accounts = record {
    sized = sized;
    bytes = inl (refl, refl, zero-add (size_of key.n) ∙ size_is key.n sized);
    clean = λ skips other. refl;
    told = sym (size_some key.n sized);
  };
  passes = λ skips other. absurd (false≢true skips);
}
