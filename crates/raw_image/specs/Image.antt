-- Image files: which bytes are the file of a medium, and what is wrong with all others.
use Rattle.std.specs.Prelude.{◌≡◌, ℕ, ◌+◌, ◌*◌, Bool, true, false, List, ◌∷◌, ◌++◌, length, drop, take, nat_lt, if◌then◌else◌, Result, Ok, Err, ◌⊎◌}
use Rattle.std.specs.Int.{w16, to_be_bytes}
use Rattle.flop_base.specs.declared.answers.Rate.{Rate}
use Rattle.flop_base.specs.declared.answers.Rate.TheVariants.{R500, R250}
use Rattle.raw_image.specs.declared.error.ImageError.{ImageError}
use Rattle.raw_image.specs.declared.error.ImageError.TheVariants.{TooShort, BadMagic, BadField, Trailing, NoMemory}
use Rattle.raw_image.specs.declared.header.Version.{Version}
use Rattle.raw_image.specs.declared.header.Version.TheVariants.{First, Second}
use Rattle.raw_image.specs.Disk.{Disk, IsDisk}
use Rattle.raw_image.specs.Words.{words_of, bytes_of}
use Rattle.raw_image.specs.Header.{Header, word_count, magic, header_of, ◌>>=◌}

-- the byte of flags
abbrev pub flag : Bool → ℕ
flag true = 1
flag false = 0

-- the byte of a rate
abbrev pub rate_byte : Rate → ℕ
rate_byte R500 = 0
rate_byte R250 = 2

-- the header of a medium
abbrev pub header_bytes : Version → Disk → List ℕ
header_bytes version d =
    magic version ++ flag d.protected ∷ d.cylinders ∷ d.heads ∷ rate_byte d.rate ∷ to_be_bytes w16 d.words_per_track

-- the file of a medium: its header, and its words
abbrev pub spelling : Version → Disk → List ℕ
spelling version d = header_bytes version d ++ bytes_of d.words

-- the one file that is written of a medium, in version 2
abbrev pub file_of : Disk → List ℕ
file_of d = spelling Second d

-- the bytes are the file of this medium, in version 2, or in version 1 if its rate is 500 kbit/s
abbrev pub Spells : List ℕ → Disk → Type 0
Spells bytes d = IsDisk d × ((bytes ≡ spelling Second d) ⊎ ((d.rate ≡ R500) × (bytes ≡ spelling First d)))

-- the medium of a header and the words after it
abbrev pub disk_of : Header → List ℕ → Disk
disk_of h words = record {
  protected = h.protected;
  cylinders = h.cylinders;
  heads = h.heads;
  rate = h.rate;
  words_per_track = h.words_per_track;
  words = words;
}

-- how long the file with this header is
abbrev pub whole_length : Header → ℕ
whole_length h = 14 + 2 * word_count h

-- the medium of a file with this header, if the file is as long as its header says
abbrev pub body_of : List ℕ → Header → Result Disk ImageError
body_of bytes h =
    if nat_lt (length bytes) (whole_length h) then Err (TooShort (whole_length h) (length bytes))
    else (if nat_lt (whole_length h) (length bytes) then Err (Trailing (whole_length h))
    else Ok (disk_of h (words_of (drop 14 bytes))))

-- the medium that bytes spell, or the first thing that is wrong with the bytes
unfoldable pub image_of : List ℕ → Result Disk ImageError
image_of bytes =
    if nat_lt (length bytes) 14 then Err (TooShort 14 (length bytes))
    else (header_of (take 14 bytes) >>= body_of bytes)

-- the fact holds, unless the error is that memory ran out
abbrev pub OrNoMemory : ImageError → Type 0 → Type 0
OrNoMemory NoMemory P = Unit {0}
OrNoMemory (TooShort need have) P = P
OrNoMemory BadMagic P = P
OrNoMemory (BadField offset) P = P
OrNoMemory (Trailing offset) P = P

-- what was answered is what the format says, unless memory ran out
abbrev pub Reads : Result Disk ImageError → Result Disk ImageError → Type 0
Reads image (Ok d) = image ≡ Ok d
Reads image (Err e) = OrNoMemory e (image ≡ Err e)
