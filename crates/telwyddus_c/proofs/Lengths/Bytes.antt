-- How many bytes numbers and lists have in a state.
use Rattle.std.proofs.Common.{◌≡◌, ◌+◌, ◌*◌, ◌≤◌, ◌∷◌, ℕ, Bool, List, [], Option, None, Some, length, arith, length-append}
use Rattle.flop_base.specs.declared.key.Chrn.{Chrn}
use Rattle.saved_state.specs.Saved.{spelled_byte, spelled_word, spelled_double, spelled_count, spelled_cells, spelled_flag, spelled_option, spelled_bytes, spelled_each, spelled_key}

pub length-byte : (n : ℕ) (rest : List ℕ) → length (spelled_byte n rest) ≡ 1 + length rest
unfolding spelled_byte
length-byte n rest = omega arith

pub length-word : (n : ℕ) (rest : List ℕ) → length (spelled_word n rest) ≡ 2 + length rest
unfolding spelled_word
length-word n rest = omega arith

pub length-double : (n : ℕ) (rest : List ℕ) → length (spelled_double n rest) ≡ 4 + length rest
unfolding spelled_double
length-double n rest = omega (arith, length-word)

pub length-count : (n : ℕ) (rest : List ℕ) → length (spelled_count n rest) ≡ 8 + length rest
unfolding spelled_count
length-count n rest = omega (arith, length-double)

pub length-cells : (n : ℕ) (rest : List ℕ) → length (spelled_cells n rest) ≡ 16 + length rest
unfolding spelled_cells
length-cells n rest = omega (arith, length-count)

pub length-flag : (flag : Bool) (rest : List ℕ) → length (spelled_flag flag rest) ≡ 1 + length rest
unfolding spelled_flag
length-flag flag rest = omega arith

pub length-key : (key : Chrn) (rest : List ℕ) → length (spelled_key key rest) ≡ 4 + length rest
unfolding spelled_key
length-key key rest = omega (arith, length-byte)

-- bytes, their number first
pub length-bytes : (bytes rest : List ℕ) → length (spelled_bytes bytes rest) ≡ 8 + length bytes + length rest
unfolding spelled_bytes
length-bytes bytes rest = omega (arith, length-count, length-append bytes rest)

-- a value has at most so many bytes
abbrev pub HasMost : {A : Type 0} → (A → List ℕ → List ℕ) → ℕ → Type 0
HasMost {A} spelled most = (value : A) (rest : List ℕ) → length (spelled value rest) ≤ most + length rest

-- a value that may be missing has one byte more
pub most-option : {A : Type 0} (spelled : A → List ℕ → List ℕ) (most : ℕ) → HasMost spelled most → HasMost (spelled_option spelled) (1 + most)
unfolding spelled_option
most-option spelled most each None rest = omega arith
most-option spelled most each (Some value) rest = omega (arith, each value rest)

pub most-byte : HasMost spelled_byte 1
most-byte n rest = omega (arith, length-byte)

-- bytes one after the other
pub length-each : (bytes rest : List ℕ) → length (spelled_each spelled_byte bytes rest) ≡ length bytes + length rest
unfolding spelled_each
length-each [] rest = omega arith
length-each (byte ∷ bytes) rest = omega (arith, length-byte byte (spelled_each spelled_byte bytes rest), length-each bytes rest)

-- bytes that may be missing
pub most-each : (values : List (Option ℕ)) (rest : List ℕ) → length (spelled_each (spelled_option spelled_byte) values rest) ≤ 2 * length values + length rest
unfolding spelled_each
most-each [] rest = omega arith
most-each (value ∷ values) rest =
    omega (arith, most-option spelled_byte 1 most-byte value (spelled_each (spelled_option spelled_byte) values rest), most-each values rest)
