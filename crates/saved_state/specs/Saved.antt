-- What is written of a state, and what is read of it.
use Rattle.std.specs.Prelude.{◌≡◌, ℕ, List, [], ◌++◌, ◌∷◌, length, Option, Some, None, IfSome, Bool, true, false, ⊤, ◌/◌, ◌%◌}
use Rattle.flop_base.specs.declared.key.Chrn.{Chrn}

-- what was written, with `rest` after it, is `all`, unless memory ran out
abbrev pub Awaits : Option (List ℕ) → List ℕ → List ℕ → Type 0
Awaits written all rest = IfSome written (λ bytes. bytes ++ rest ≡ all)

-- these bytes were written between `old` and `new`; `bytes` puts them before a rest
abbrev pub Adds : (List ℕ → List ℕ) → Option (List ℕ) → Option (List ℕ) → Type 0
Adds bytes old new = (all rest : List ℕ) → Awaits old all (bytes rest) → Awaits new all rest

-- if the bytes that are left begin with those of a value, that value is read, and the rest is left
abbrev pub Gives : {A : Type 0} → (A → Type 0) → (A → List ℕ → List ℕ) → List ℕ → A → List ℕ → Type 0
Gives {A = A} fits spelled old result new =
    (value : A) (rest : List ℕ) → fits value → old ≡ spelled value rest → (result ≡ value) × (new ≡ rest)

-- numbers, the low byte first
unfoldable pub spelled_byte : ℕ → List ℕ → List ℕ
spelled_byte n rest = n ∷ rest

unfoldable pub spelled_word : ℕ → List ℕ → List ℕ
spelled_word n rest = n % 256 ∷ n / 256 ∷ rest

unfoldable pub spelled_double : ℕ → List ℕ → List ℕ
spelled_double n rest = spelled_word (n % 65536) (spelled_word (n / 65536) rest)

unfoldable pub spelled_count : ℕ → List ℕ → List ℕ
spelled_count n rest = spelled_double (n % 4294967296) (spelled_double (n / 4294967296) rest)

unfoldable pub spelled_cells : ℕ → List ℕ → List ℕ
spelled_cells n rest = spelled_count (n % 18446744073709551616) (spelled_count (n / 18446744073709551616) rest)

-- a truth value
abbrev pub flag_byte : Bool → ℕ
flag_byte true = 1
flag_byte false = 0

unfoldable pub spelled_flag : Bool → List ℕ → List ℕ
spelled_flag flag rest = flag_byte flag ∷ rest

-- a value that may be missing: 1 and then the value, or 0 if it is missing
unfoldable pub spelled_option : {A : Type 0} → (A → List ℕ → List ℕ) → Option A → List ℕ → List ℕ
spelled_option spelled None rest = 0 ∷ rest
spelled_option spelled (Some value) rest = 1 ∷ spelled value rest

-- bytes, their number first
unfoldable pub spelled_bytes : List ℕ → List ℕ → List ℕ
spelled_bytes bytes rest = spelled_count (length bytes) (bytes ++ rest)

-- a list of values: 1 before each, and 0 after the last
unfoldable pub spelled_list : {A : Type 0} → (A → List ℕ → List ℕ) → List A → List ℕ → List ℕ
spelled_list spelled [] rest = 0 ∷ rest
spelled_list spelled (value ∷ values) rest = 1 ∷ spelled value (spelled_list spelled values rest)

-- values one after the other, whose number is known
unfoldable pub spelled_each : {A : Type 0} → (A → List ℕ → List ℕ) → List A → List ℕ → List ℕ
spelled_each spelled [] rest = rest
spelled_each spelled (value ∷ values) rest = spelled value (spelled_each spelled values rest)

-- each value of a list fits
abbrev pub EachFits : {A : Type 0} → (A → Type 0) → List A → Type 0
EachFits fits [] = ⊤
EachFits fits (value ∷ values) = fits value × EachFits fits values

-- the key of a sector
unfoldable pub spelled_key : Chrn → List ℕ → List ℕ
spelled_key key rest = spelled_byte key.c (spelled_byte key.h (spelled_byte key.r (spelled_byte key.n rest)))
