-- The plain spelling of a request has one space between words and decimals without leading zeros. An address has five
-- hexadecimal digits and a byte of memory has two, in upper case.
use Rattle.std.specs.Prelude.{ℕ, ◌/◌, ◌%◌, true, List, [], ◌∷◌, ◌++◌, codes}
use Rattle.std.specs.Fmt.{decimal, digits}
use Rattle.std.specs.List.{join_with_byte}
use Rattle.flop_base.specs.declared.key.Chrn.{Chrn}
use Rattle.flop_base.specs.declared.answers.Rate.{Rate}
use Rattle.flop_base.specs.declared.answers.Rate.TheVariants.{R500, R250}
use Rattle.floppy_jobs.specs.declared.request.Request.{Request}
use Rattle.floppy_jobs.specs.declared.request.Request.TheVariants.{Insert, Blank, BlankDd, Eject, Ack, Read, Write, WriteDeleted, Format, Fill, Dump, Unit, SetRate, Tries}

-- the last hexadecimal digit of a number, in upper case
abbrev pub hex_digit : ℕ → List ℕ
hex_digit n = digits 16 true (n % 16)

-- a number as two hexadecimal digits
abbrev pub hex2 : ℕ → List ℕ
hex2 n = hex_digit (n / 16) ++ hex_digit n

-- a number as five hexadecimal digits
abbrev pub hex5 : ℕ → List ℕ
hex5 n = hex_digit (n / 65536) ++ (hex_digit (n / 4096) ++ (hex_digit (n / 256) ++ (hex_digit (n / 16) ++ hex_digit n)))

-- the rate in kbit/s
abbrev pub rate_text : Rate → List ℕ
rate_text R500 = codes "500"
rate_text R250 = codes "250"

-- the first word of a request's line
abbrev pub verb_text : Request → List ℕ
verb_text (Insert bay name) = codes "insert"
verb_text (Blank bay name cylinders) = codes "blank"
verb_text (BlankDd bay name cylinders) = codes "blankdd"
verb_text (Eject bay) = codes "eject"
verb_text (Ack bay) = codes "ack"
verb_text (Read bay key address) = codes "read"
verb_text (Write bay key address) = codes "write"
verb_text (WriteDeleted bay key address) = codes "writedel"
verb_text (Format bay c h) = codes "format"
verb_text (Fill address length byte) = codes "fill"
verb_text (Dump address length) = codes "dump"
verb_text (Unit bay) = codes "unit"
verb_text (SetRate bay rate) = codes "rate"
verb_text (Tries tries) = codes "tries"

-- the words for a bay, a key and an address
abbrev pub sector_texts : ℕ → Chrn → ℕ → List (List ℕ)
sector_texts bay key address =
    decimal bay ∷ decimal key.c ∷ decimal key.h ∷ decimal key.r ∷ decimal key.n ∷ hex5 address ∷ []

-- the words of a request after the first
abbrev pub field_texts : Request → List (List ℕ)
field_texts (Insert bay name) = decimal bay ∷ name ∷ []
field_texts (Blank bay name cylinders) = decimal bay ∷ name ∷ decimal cylinders ∷ []
field_texts (BlankDd bay name cylinders) = decimal bay ∷ name ∷ decimal cylinders ∷ []
field_texts (Eject bay) = decimal bay ∷ []
field_texts (Ack bay) = decimal bay ∷ []
field_texts (Read bay key address) = sector_texts bay key address
field_texts (Write bay key address) = sector_texts bay key address
field_texts (WriteDeleted bay key address) = sector_texts bay key address
field_texts (Format bay c h) = decimal bay ∷ decimal c ∷ decimal h ∷ []
field_texts (Fill address length byte) = hex5 address ∷ decimal length ∷ hex2 byte ∷ []
field_texts (Dump address length) = hex5 address ∷ decimal length ∷ []
field_texts (Unit bay) = decimal bay ∷ []
field_texts (SetRate bay rate) = decimal bay ∷ rate_text rate ∷ []
field_texts (Tries tries) = decimal tries ∷ []

-- the plain spelling of a request, without a line feed
unfoldable pub spelling : Request → List ℕ
spelling request = join_with_byte 32 (verb_text request ∷ field_texts request)
