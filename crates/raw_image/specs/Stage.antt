-- The stages of a reader, seen as its progress.
use Rattle.std.specs.Prelude.{◌≡◌, ℕ, ◌+◌, ◌<◌, List, ◌++◌, length, option_to_list, Result, Ok, Err}
use Rattle.raw_image.specs.declared.error.ImageError.{ImageError}
use Rattle.raw_image.specs.declared.error.ImageError.TheVariants.{TooShort, Trailing}
use Rattle.raw_image.specs.declared.stage.Body.{Body}
use Rattle.raw_image.specs.declared.stage.ReaderStage.{ReaderStage}
use Rattle.raw_image.specs.declared.stage.ReaderStage.TheVariants as stage
use Rattle.raw_image.specs.Words.{words_of, bytes_of}
use Rattle.raw_image.specs.Disk.{Disk}
use Rattle.raw_image.specs.Header.{Header}
use Rattle.raw_image.specs.Shape.{header_view}
use Rattle.raw_image.specs.Image.{whole_length, disk_of}
use Rattle.raw_image.specs.Progress.{Progress, Begun, Going, Failed}

-- the bytes after the header
abbrev pub body_bytes : Body → List ℕ
body_bytes b = bytes_of b.words.items ++ option_to_list b.high

-- how far a reader in this stage has come
abbrev pub progress_of : ReaderStage → Progress
progress_of (stage.Begun front) = Begun front.bytes.items
progress_of (stage.Going body) = Going (header_view body.shape) (body_bytes body)
progress_of (stage.Failed e) = Failed e

-- how far a reader has come that gave this answer
abbrev pub after : Result ReaderStage ImageError → Progress
after (Ok s) = progress_of s
after (Err e) = Failed e

-- with this piece there are more bytes than the header tells of
abbrev pub IsTooLong : Body → List ℕ → ImageError → Type 0
IsTooLong b piece e =
    let whole = whole_length (header_view b.shape) in
    (e ≡ Trailing whole) × (whole < 14 + length (body_bytes b ++ piece))

-- the answer if the file ends here: the medium if all its words are there, and otherwise how many bytes are missing
abbrev pub Finishes : Header → List ℕ → Result Disk ImageError → Type 0
Finishes h body (Ok d) = (14 + length body ≡ whole_length h) × (d ≡ disk_of h (words_of body))
Finishes h body (Err e) = (14 + length body < whole_length h) × (e ≡ TooShort (whole_length h) (14 + length body))
