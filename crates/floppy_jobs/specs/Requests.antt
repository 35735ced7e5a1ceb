-- What the lines of a job spell. D, C, H, R, N and CYLS are bytes in decimal, ADDR and BYTE are hexadecimal.
use Rattle.std.specs.Prelude.{ℕ, List, [], ◌∷◌, Option, Some, None, option_and_then, codes, if◌then◌else◌}
use Rattle.std.specs.Str.{bytes_eq}
use Rattle.floppy_jobs.specs.Names.{name_of}
use Rattle.floppy_jobs.specs.Numbers.{byte_of, address_of, length_of, hex_byte_of, tries_of}
use Rattle.flop_base.specs.declared.key.Chrn.{Chrn}
use Rattle.flop_base.specs.declared.answers.Rate.{Rate}
use Rattle.flop_base.specs.declared.answers.Rate.TheVariants.{R500, R250}
use Rattle.floppy_jobs.specs.declared.request.Request.{Request}
use Rattle.floppy_jobs.specs.declared.request.Request.TheVariants as request

infixl 10 ◌>>=◌
abbrev pub ◌>>=◌ : {A B : Type 0} → Option A → (A → Option B) → Option B
o >>= f = option_and_then f o

-- insert D NAME
unfoldable pub insert_of : List (List ℕ) → Option Request
insert_of (d ∷ word ∷ []) = do
  bay ← byte_of d
  name ← name_of word
  Some (request.Insert bay name)
insert_of _ = None

-- blank D NAME CYLS
unfoldable pub blank_of : List (List ℕ) → Option Request
blank_of (d ∷ word ∷ count ∷ []) = do
  bay ← byte_of d
  name ← name_of word
  cylinders ← byte_of count
  Some (request.Blank bay name cylinders)
blank_of _ = None

-- blankdd D NAME CYLS
unfoldable pub blankdd_of : List (List ℕ) → Option Request
blankdd_of (d ∷ word ∷ count ∷ []) = do
  bay ← byte_of d
  name ← name_of word
  cylinders ← byte_of count
  Some (request.BlankDd bay name cylinders)
blankdd_of _ = None

-- eject D
unfoldable pub eject_of : List (List ℕ) → Option Request
eject_of (d ∷ []) = do
  bay ← byte_of d
  Some (request.Eject bay)
eject_of _ = None

-- ack D
unfoldable pub ack_of : List (List ℕ) → Option Request
ack_of (d ∷ []) = do
  bay ← byte_of d
  Some (request.Ack bay)
ack_of _ = None

-- what the words D C H R N ADDR name: a bay, a key and an address
unfoldable pub sector_of : List (List ℕ) → Option (ℕ × Chrn × ℕ)
sector_of (d ∷ cylinder ∷ head ∷ sector ∷ size ∷ place ∷ []) = do
  bay ← byte_of d
  c ← byte_of cylinder
  h ← byte_of head
  r ← byte_of sector
  n ← byte_of size
  address ← address_of place
  Some (bay, record { c = c; h = h; r = r; n = n }, address)
sector_of _ = None

-- read D C H R N ADDR
unfoldable pub read_of : List (List ℕ) → Option Request
read_of fields = do
  at ← sector_of fields
  Some (request.Read at.0 at.1 at.2)

-- write D C H R N ADDR
unfoldable pub write_of : List (List ℕ) → Option Request
write_of fields = do
  at ← sector_of fields
  Some (request.Write at.0 at.1 at.2)

-- writedel D C H R N ADDR
unfoldable pub writedel_of : List (List ℕ) → Option Request
writedel_of fields = do
  at ← sector_of fields
  Some (request.WriteDeleted at.0 at.1 at.2)

-- format D C H
unfoldable pub format_of : List (List ℕ) → Option Request
format_of (d ∷ cylinder ∷ head ∷ []) = do
  bay ← byte_of d
  c ← byte_of cylinder
  h ← byte_of head
  Some (request.Format bay c h)
format_of _ = None

-- fill ADDR LEN BYTE
unfoldable pub fill_of : List (List ℕ) → Option Request
fill_of (place ∷ count ∷ value ∷ []) = do
  address ← address_of place
  length ← length_of count
  byte ← hex_byte_of value
  Some (request.Fill address length byte)
fill_of _ = None

-- dump ADDR LEN
unfoldable pub dump_of : List (List ℕ) → Option Request
dump_of (place ∷ count ∷ []) = do
  address ← address_of place
  length ← length_of count
  Some (request.Dump address length)
dump_of _ = None

-- unit D
unfoldable pub unit_of : List (List ℕ) → Option Request
unit_of (d ∷ []) = do
  bay ← byte_of d
  Some (request.Unit bay)
unit_of _ = None

-- the rate that K names, in kbit/s
unfoldable pub rate_word_of : List ℕ → Option Rate
rate_word_of word =
    if bytes_eq word (codes "500") then Some R500
    else (if bytes_eq word (codes "250") then Some R250 else None)

-- rate D K
unfoldable pub rate_of : List (List ℕ) → Option Request
rate_of (d ∷ word ∷ []) = do
  bay ← byte_of d
  rate ← rate_word_of word
  Some (request.SetRate bay rate)
rate_of _ = None

-- tries K
unfoldable pub tries_line_of : List (List ℕ) → Option Request
tries_line_of (word ∷ []) = do
  tries ← tries_of word
  Some (request.Tries tries)
tries_line_of _ = None

-- the requests without a name, by their verbs
unfoldable pub plain_of : List ℕ → List (List ℕ) → Option Request
plain_of verb fields =
    if bytes_eq verb (codes "eject") then eject_of fields
    else (if bytes_eq verb (codes "ack") then ack_of fields
    else (if bytes_eq verb (codes "read") then read_of fields
    else (if bytes_eq verb (codes "write") then write_of fields
    else (if bytes_eq verb (codes "writedel") then writedel_of fields
    else (if bytes_eq verb (codes "format") then format_of fields
    else (if bytes_eq verb (codes "fill") then fill_of fields
    else (if bytes_eq verb (codes "dump") then dump_of fields
    else (if bytes_eq verb (codes "unit") then unit_of fields
    else (if bytes_eq verb (codes "rate") then rate_of fields
    else (if bytes_eq verb (codes "tries") then tries_line_of fields
    else None))))))))))

-- any request of a job
unfoldable pub request_of : List (List ℕ) → Option Request
request_of [] = None
request_of (verb ∷ fields) =
    if bytes_eq verb (codes "insert") then insert_of fields
    else (if bytes_eq verb (codes "blank") then blank_of fields
    else (if bytes_eq verb (codes "blankdd") then blankdd_of fields
    else plain_of verb fields))
