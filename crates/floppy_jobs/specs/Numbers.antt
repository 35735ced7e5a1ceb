-- What words of digits spell.
use Rattle.std.specs.Prelude.{ℕ, Bool, ◌&&◌, List, length, Option, Some, None, nat_le, if◌then◌else◌}
use Rattle.std.specs.List.{list_all}
use Rattle.std.specs.Char.{is_digit}
use Rattle.std.specs.Str.Parse.{digits_value}

-- whether each byte is a digit of the base, of either case
abbrev pub all_digits : ℕ → List ℕ → Bool
all_digits base word = list_all (λ c. is_digit c base) word

-- the number that a word spells, if it has `fewest` to `most` digits of the base and its value is from `least` to
-- `greatest`
unfoldable pub number_of : ℕ → ℕ → ℕ → ℕ → ℕ → List ℕ → Option ℕ
number_of base fewest most least greatest word =
    if nat_le fewest (length word) && nat_le (length word) most && all_digits base word
    && nat_le least (digits_value base word) && nat_le (digits_value base word) greatest
    then Some (digits_value base word) else None

-- one to three decimal digits, at most 255
unfoldable pub byte_of : List ℕ → Option ℕ
byte_of word = number_of 10 1 3 0 255 word

-- one to five hexadecimal digits
unfoldable pub address_of : List ℕ → Option ℕ
address_of word = number_of 16 1 5 0 0xFFFFF word

-- one to five decimal digits, 1 to 65,536
unfoldable pub length_of : List ℕ → Option ℕ
length_of word = number_of 10 1 5 1 65536 word

-- two hexadecimal digits
unfoldable pub hex_byte_of : List ℕ → Option ℕ
hex_byte_of word = number_of 16 2 2 0 0xFF word

-- one or two decimal digits, 1 to 10
unfoldable pub tries_of : List ℕ → Option ℕ
tries_of word = number_of 10 1 2 1 10 word

-- ---- numbers of port accesses and calls alone

-- one to four hexadecimal digits
unfoldable pub port_of : List ℕ → Option ℕ
port_of word = number_of 16 1 4 0 0xFFFF word

-- one to five decimal digits, at most 65,535
unfoldable pub steps_of : List ℕ → Option ℕ
steps_of word = number_of 10 1 5 0 65535 word

-- four hexadecimal digits
unfoldable pub register_of : List ℕ → Option ℕ
register_of word = number_of 16 4 4 0 0xFFFF word
