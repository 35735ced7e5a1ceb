-- Names of files.
use Rattle.std.specs.Prelude.{ℕ, ◌==◌, Bool, ◌&&◌, ◌||◌, not, List, length, Option, Some, None, nat_le, slice_index, IsTrue, if◌then◌else◌}
use Rattle.std.specs.List.{list_all}
use Rattle.std.specs.Char.{is_ascii_alphanumeric}

-- a byte of a name: a letter, a digit, '.', '_' or '-'
abbrev pub is_name_byte : ℕ → Bool
is_name_byte c = is_ascii_alphanumeric c || c == 46 || c == 95 || c == 45

-- a name: 1 to 64 such bytes, of which the first isn't '.' or '-'
unfoldable pub is_name_text : List ℕ → Bool
is_name_text bytes = nat_le 1 (length bytes) && nat_le (length bytes) 64 && not (slice_index bytes 0 == 46)
    && not (slice_index bytes 0 == 45) && list_all is_name_byte bytes

-- the name that a word is
unfoldable pub name_of : List ℕ → Option (List ℕ)
name_of word = if is_name_text word then Some word else None

abbrev pub IsName : List ℕ → Type 0
IsName bytes = IsTrue (is_name_text bytes)
