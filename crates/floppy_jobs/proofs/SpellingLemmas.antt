-- The plain spelling of a request is a job of that request alone.
use Rattle.std.proofs.Common.{◌≡◌, ℕ, ◌+◌, ◌<◌, ◌≤◌, true, List, [], ◌∷◌, length, Some, Ok, refl, arith, length-append}
use Rattle.std.specs.Fmt.{decimal}
use Rattle.std.specs.List.{join_with_byte}
use Rattle.flop_base.specs.declared.key.Chrn.{Chrn}
use Rattle.flop_base.specs.declared.answers.Rate.TheVariants.{R500, R250}
use Rattle.floppy_jobs.specs.declared.request.Request.{Request}
use Rattle.floppy_jobs.specs.declared.request.Request.TheVariants.{Insert, Blank, BlankDd, Eject, Ack, Read, Write, WriteDeleted, Format, Fill, Dump, Unit, SetRate, Tries}
use Rattle.floppy_jobs.specs.Lines.{line_of}
use Rattle.floppy_jobs.specs.Requests.{insert_of, blank_of, blankdd_of, eject_of, ack_of, sector_of, read_of, write_of, writedel_of, format_of, fill_of, dump_of, unit_of, rate_word_of, rate_of, tries_line_of, plain_of, request_of}
use Rattle.floppy_jobs.specs.Spelling.{verb_text, sector_texts, field_texts, spelling}
use Rattle.floppy_jobs.specs.Texts.{job_of}
use Rattle.floppy_jobs.specs.Valid.{IsRequest, IsSector}
use Rattle.floppy_jobs.proofs.WordLemmas.{is_word, AreWords, byte-decimal, length-decimal, tries-decimal, decimal-word, hex_byte-hex2, address-hex5, hex2-word, hex5-word, length-byte, length-length, length-hex2, length-hex5, name-reads, name-word, name-length, words_of-join, joined, first_ink, no_shorter, line_of-words, text_of-words}

-- the words of a sector are read back as this sector
sector-reads : (bay : ℕ) (key : Chrn) (address : ℕ) → IsSector bay key address → sector_of (sector_texts bay key address) ≡ Some (bay, key, address)
unfolding sector_of
sector-reads bay key address h =
    rw (byte-decimal bay h.0, byte-decimal key.c h.1, byte-decimal key.h h.2, byte-decimal key.r h.3, byte-decimal key.n h.4, address-hex5 address h.5) refl

-- the words of a request spell this request
reads_back : (r : Request) → IsRequest r → request_of (verb_text r ∷ field_texts r) ≡ Some r
unfolding request_of plain_of insert_of blank_of blankdd_of eject_of ack_of read_of write_of writedel_of format_of fill_of dump_of unit_of rate_word_of rate_of tries_line_of
reads_back (Insert bay name) h = rw (byte-decimal bay h.0, name-reads name h.1) refl
reads_back (Blank bay name cylinders) h = rw (byte-decimal bay h.0, name-reads name h.1, byte-decimal cylinders h.2) refl
reads_back (BlankDd bay name cylinders) h = rw (byte-decimal bay h.0, name-reads name h.1, byte-decimal cylinders h.2) refl
reads_back (Eject bay) h = rw (byte-decimal bay h) refl
reads_back (Ack bay) h = rw (byte-decimal bay h) refl
reads_back (Read bay key address) h = rw (sector-reads bay key address h) refl
reads_back (Write bay key address) h = rw (sector-reads bay key address h) refl
reads_back (WriteDeleted bay key address) h = rw (sector-reads bay key address h) refl
reads_back (Format bay c h) k = rw (byte-decimal bay k.0, byte-decimal c k.1, byte-decimal h k.2) refl
reads_back (Fill address length byte) h = rw (address-hex5 address h.0, length-decimal length h.1, hex_byte-hex2 byte h.2) refl
reads_back (Dump address length) h = rw (address-hex5 address h.0, length-decimal length h.1) refl
reads_back (Unit bay) h = rw (byte-decimal bay h) refl
reads_back (SetRate bay R500) h = rw (byte-decimal bay h) refl
reads_back (SetRate bay R250) h = rw (byte-decimal bay h) refl
reads_back (Tries tries) h = rw (tries-decimal tries h) refl

byte-word : (n : ℕ) → n < 256 → is_word (decimal n) ≡ true
byte-word n h = decimal-word n (omega arith)

sector-words : (bay : ℕ) (key : Chrn) (address : ℕ) → IsSector bay key address → AreWords (sector_texts bay key address)
sector-words bay key address h =
    (byte-word bay h.0, (byte-word key.c h.1, (byte-word key.h h.2, (byte-word key.r h.3, (byte-word key.n h.4, (hex5-word address, tt))))))

-- what a request spells is a list of words
words : (r : Request) → IsRequest r → AreWords (verb_text r ∷ field_texts r)
words (Insert bay name) h = (refl, (byte-word bay h.0, (name-word name h.1, tt)))
words (Blank bay name cylinders) h = (refl, (byte-word bay h.0, (name-word name h.1, (byte-word cylinders h.2, tt))))
words (BlankDd bay name cylinders) h = (refl, (byte-word bay h.0, (name-word name h.1, (byte-word cylinders h.2, tt))))
words (Eject bay) h = (refl, (byte-word bay h, tt))
words (Ack bay) h = (refl, (byte-word bay h, tt))
words (Read bay key address) h = (refl, sector-words bay key address h)
words (Write bay key address) h = (refl, sector-words bay key address h)
words (WriteDeleted bay key address) h = (refl, sector-words bay key address h)
words (Format bay c h) k = (refl, (byte-word bay k.0, (byte-word c k.1, (byte-word h k.2, tt))))
words (Fill address length byte) h = (refl, (hex5-word address, (decimal-word length (omega arith), (hex2-word byte, tt))))
words (Dump address length) h = (refl, (hex5-word address, (decimal-word length (omega arith), tt)))
words (Unit bay) h = (refl, (byte-word bay h, tt))
words (SetRate bay R500) h = (refl, (byte-word bay h, (refl, tt)))
words (SetRate bay R250) h = (refl, (byte-word bay h, (refl, tt)))
words (Tries tries) h = (refl, (decimal-word tries (omega arith), tt))

-- the number of bytes of joined words, with one space for each
abbrev total : List (List ℕ) → ℕ
total [] = 0
total (w ∷ ws) = length w + 1 + total ws

length-join : (ws : List (List ℕ)) → length (join_with_byte 32 ws) ≤ total ws
length-join (w ∷ v ∷ vs) = omega (arith, length-append w (32 ∷ join_with_byte 32 (v ∷ vs)), length-join (v ∷ vs))
length-join _ = omega arith

sector-short : (bay : ℕ) (key : Chrn) (address : ℕ) → IsSector bay key address → total (sector_texts bay key address) ≤ 26
sector-short bay key address h =
    omega (arith, length-byte bay h.0, length-byte key.c h.1, length-byte key.h h.2, length-byte key.r h.3, length-byte key.n h.4, length-hex5 address)

-- no request has more than 200 bytes
short : (r : Request) → IsRequest r → total (verb_text r ∷ field_texts r) ≤ 200
short (Insert bay name) h = omega (arith, length-byte bay h.0, name-length name h.1)
short (Blank bay name cylinders) h = omega (arith, length-byte bay h.0, name-length name h.1, length-byte cylinders h.2)
short (BlankDd bay name cylinders) h = omega (arith, length-byte bay h.0, name-length name h.1, length-byte cylinders h.2)
short (Eject bay) h = omega (arith, length-byte bay h)
short (Ack bay) h = omega (arith, length-byte bay h)
short (Read bay key address) h = omega (arith, sector-short bay key address h)
short (Write bay key address) h = omega (arith, sector-short bay key address h)
short (WriteDeleted bay key address) h = omega (arith, sector-short bay key address h)
short (Format bay c h) k = omega (arith, length-byte bay k.0, length-byte c k.1, length-byte h k.2)
short (Fill address length byte) h = omega (arith, length-hex5 address, length-length length (omega arith), length-hex2 byte)
short (Dump address length) h = omega (arith, length-hex5 address, length-length length (omega arith))
short (Unit bay) h = omega (arith, length-byte bay h)
short (SetRate bay R500) h = omega (arith, length-byte bay h)
short (SetRate bay R250) h = omega (arith, length-byte bay h)
short (Tries tries) h = omega (arith, length-length tries (omega arith))

-- a line with the plain spelling of a request says this request
pub spelling-line : (r : Request) → IsRequest r → line_of request_of (spelling r) ≡ Some (Some r)
unfolding spelling
spelling-line r h =
    let ws = words r h in
    line_of-words request_of r (join_with_byte 32 (verb_text r ∷ field_texts r)) (verb_text r) (field_texts r)
    (omega (arith, length-join (verb_text r ∷ field_texts r), short r h))
    (first_ink (verb_text r) (field_texts r) ws.0) (words_of-join (verb_text r) (field_texts r) ws) (reads_back r h)

-- a text with the plain spelling of a request alone is a job of this request alone
pub spelling-job : (r : Request) → IsRequest r → job_of (spelling r) ≡ Ok (r ∷ [])
unfolding spelling job_of
spelling-job r h =
    let ws = words r h in
    text_of-words request_of r (join_with_byte 32 (verb_text r ∷ field_texts r))
    (no_shorter (verb_text r) (field_texts r) ws.0)
    (omega (arith, length-join (verb_text r ∷ field_texts r), short r h))
    (joined (verb_text r ∷ field_texts r) ws) (spelling-line r h)
