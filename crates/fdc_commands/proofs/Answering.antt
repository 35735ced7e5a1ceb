-- What the first bytes of the array come to is what the row of their code makes of the whole array.
use Rattle.std.proofs.Common.{◌≡◌, ◌∙◌, sym, ap, refl, ℕ, ◌+◌, ◌<◌, ◌≤◌, Bool, true, false, List, [], ◌∷◌, ◌++◌, Option, Some, None, length, take, slice_index, slice_set, arith, if◌then◌else◌, nat_le, ◌==◌, option_map, inl, inr}
use Rattle.std.proofs.Math.ListN.{length-set}
use Rattle.std.specs.List.{find}
use Rattle.std.specs.Option.{IfSome, option_map_or}
use Rattle.std.proofs.lemmas.List.{get_or-take, take_more_set, length-take-le}
use Rattle.std.proofs.lemmas.Bool.{le-leb, lt-leb, cases_lt}
use Rattle.fdc_commands.specs.declared.bytes.Accepted.{Accepted}
use Rattle.fdc_commands.specs.declared.bytes.Accepted.TheVariants.{More, Invalid}
use Rattle.flop_base.specs.declared.key.Chrn.{Chrn}
use Rattle.fdc_commands.specs.declared.command.Command.{Command}
use Rattle.fdc_commands.specs.declared.command.Command.TheVariants.{Specify, SenseDrive, Recalibrate, Seek, Configure, ReadId, ReadData, WriteData, WriteDeleted, FormatTrack}
use Rattle.fdc_commands.specs.Table.{Row, row, nth, key_of, table, row_of, whole, answer_by, answer}

-- a row reads no byte of the array after those that follow its code
abbrev pub ReadsItsBytes : Row → Type 0
ReadsItsBytes r = (n : ℕ) (bytes : List ℕ) → r.count < n → r.spells (take n bytes) ≡ r.spells bytes

-- each element of a list has the property
abbrev Each : {A : Type 0} → (A → Type 0) → List A → Type 0
Each P [] = Unit {0}
Each P (x ∷ xs) = P x × Each P xs

found_of_each : {A : Type 0} (test : A → Bool) (P : A → Type 0) (xs : List A) → Each P xs → IfSome (find test xs) P
found_of_each test P [] each = tt
found_of_each test P (x ∷ xs) each =
    elim (test x) as (λ b. IfSome (if b then Some x else find test xs) P) [
      | true ↦ each.0
      | false ↦ found_of_each test P xs each.1
    ]

byte-take : (n i : ℕ) (bytes : List ℕ) → i < n → slice_index (take n bytes) i ≡ slice_index bytes i
byte-take n i bytes within = get_or-take n bytes i 0 within

key_of-take : (n : ℕ) (b : List ℕ) → 5 < n → key_of (take n b) ≡ key_of b
key_of-take n b h =
    let cylinder = byte-take n 2 b (omega arith) in
    let head = byte-take n 3 b (omega arith) in
    let sector = byte-take n 4 b (omega arith) in
    let size = byte-take n 5 b h in
    λ i. record { c = cylinder i; h = head i; r = sector i; n = size i }

-- a data command of nine bytes
data_read : (make : ℕ → Chrn → ℕ → ℕ → ℕ → Command)
    → ReadsItsBytes (row 0 8 (λ b. make (nth b 1) (key_of b) (nth b 6) (nth b 7) (nth b 8)))
data_read make n b h = λ i.
    make (byte-take n 1 b (omega arith) i) (key_of-take n b (omega arith) i)
    (byte-take n 6 b (omega arith) i) (byte-take n 7 b (omega arith) i) (byte-take n 8 b (omega arith) i)

rows_read : Each ReadsItsBytes table
rows_read = (
  (λ n b h i. Specify (byte-take n 1 b (omega arith) i) (byte-take n 2 b (omega arith) i)),
  (
    (λ n b h i. SenseDrive (byte-take n 1 b h i)),
    (
      (λ n b h i. Recalibrate (byte-take n 1 b h i)),
      (
        (λ n b h. refl),
        (
          (λ n b h i. Seek (byte-take n 1 b (omega arith) i) (byte-take n 2 b (omega arith) i)),
          (
            (λ n b h. refl),
            (
              (λ n b h i. Configure (byte-take n 1 b (omega arith) i) (byte-take n 2 b (omega arith) i) (byte-take n 3 b (omega arith) i)),
              (
                (λ n b h i. ReadId (byte-take n 1 b h i)),
                (
                  data_read ReadData,
                  (
                    data_read WriteData,
                    (
                      data_read WriteDeleted,
                      (
                        (λ n b h i. FormatTrack (byte-take n 1 b (omega arith) i) (byte-take n 2 b (omega arith) i)
                            (byte-take n 3 b (omega arith) i) (byte-take n 4 b (omega arith) i) (byte-take n 5 b (omega arith) i)),
                        tt,
                      ),
                    ),
                  ),
                ),
              ),
            ),
          ),
        ),
      ),
    ),
  ),
)

row_reads : (code : ℕ) → IfSome (row_of code) ReadsItsBytes
row_reads code = found_of_each (λ r. r.code == code) ReadsItsBytes table rows_read

-- what the first n bytes of an array come to, by the row of their code
abbrev pub verdict : Option Row → ℕ → List ℕ → Accepted
verdict o n bytes = option_map_or (λ r. if nat_le n r.count then More else whole (r.spells bytes)) o Invalid

-- if there are no more bytes than the row counts, more bytes are wanted
few : {A : Type 0} (n count : ℕ) (x y : A) → n ≤ count → (if nat_le n count then x else y) ≡ x
few n count x y h = rw (le-leb n count h) refl

-- with one byte more than the row counts, the command is whole
enough : {A : Type 0} (n count : ℕ) (x y : A) → count < n → (if nat_le n count then x else y) ≡ y
enough n count x y h = rw (lt-leb n count h) refl

by_row : (r : Row) (n : ℕ) (bytes : List ℕ) → ReadsItsBytes r → n ≤ length bytes
    → answer_by r (take n bytes) ≡ (if nat_le n r.count then More else whole (r.spells bytes))
by_row r n bytes reads within =
    ap (λ m. if nat_le m r.count then More else whole (r.spells (take n bytes))) (length-take-le n bytes within)
    ∙ elim (cases_lt r.count n) [
      | inl more ↦ enough n r.count More (whole (r.spells (take n bytes))) more ∙ ap whole (reads n bytes more)
          ∙ sym (enough n r.count More (whole (r.spells bytes)) more)
      | inr less ↦ few n r.count More (whole (r.spells (take n bytes))) less
          ∙ sym (few n r.count More (whole (r.spells bytes)) less)
    ]

by_option : (o : Option Row) (n : ℕ) (bytes : List ℕ) → IfSome o ReadsItsBytes → n ≤ length bytes
    → option_map_or (λ r. answer_by r (take n bytes)) o Invalid ≡ verdict o n bytes
by_option None n bytes reads within = refl
by_option (Some r) n bytes reads within = by_row r n bytes reads within

-- what the first n bytes of an array come to
answer-take : (n : ℕ) (bytes : List ℕ) → 0 < n → n ≤ length bytes
    → answer (take n bytes) ≡ verdict (row_of (slice_index bytes 0)) n bytes
unfolding answer
answer-take n bytes some within =
    ap (λ code. option_map_or (λ r. answer_by r (take n bytes)) (row_of code) Invalid) (byte-take n 0 bytes some)
    ∙ by_option (row_of (slice_index bytes 0)) n bytes (row_reads (slice_index bytes 0)) within

-- what an array comes to once a byte is put behind the bytes that are kept
pub answer_with_byte : (bytes old : List ℕ) (count byte : ℕ) → take count bytes ≡ old → count < length bytes
    → verdict (row_of (slice_index (slice_set bytes count byte) 0)) (count + 1) (slice_set bytes count byte)
    ≡ answer (old ++ byte ∷ [])
answer_with_byte bytes old count byte kept within =
    let after = slice_set bytes count byte in
    let same : length after ≡ length bytes = simp length-set in
    sym (answer-take (count + 1) after (omega arith) (omega arith))
    ∙ ap answer (take_more_set bytes count byte within) ∙ ap (λ front. answer (front ++ byte ∷ [])) kept

pub verdict_more : (o : Option Row) (n p : ℕ) (bytes : List ℕ) → option_map (λ r. r.count) o ≡ Some p → n ≤ p
    → More ≡ verdict o n bytes
verdict_more None n p bytes e h = cc
verdict_more (Some r) n p bytes e h =
    sym (few n r.count More (whole (r.spells bytes)) (let same : r.count ≡ p = cc in omega arith))

pub verdict_whole : (o : Option Row) (n p : ℕ) (bytes : List ℕ) → option_map (λ r. r.count) o ≡ Some p → p < n
    → option_map_or (λ r. whole (r.spells bytes)) o Invalid ≡ verdict o n bytes
verdict_whole None n p bytes e h = cc
verdict_whole (Some r) n p bytes e h =
    sym (enough n r.count More (whole (r.spells bytes)) (let same : r.count ≡ p = cc in omega arith))

pub verdict_none : (o : Option Row) (n : ℕ) (bytes : List ℕ) → option_map (λ r. r.count) o ≡ None → Invalid ≡ verdict o n bytes
verdict_none None n bytes e = refl
verdict_none (Some r) n bytes e = cc
