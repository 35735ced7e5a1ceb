-- What is left of a file while its parts are read in order.
use Rattle.std.specs.Prelude.{◌≡◌, ℕ, ◌+◌, List, length, take, drop, nat_lt, if◌then◌else◌, Result, Ok, Err}
use Rattle.imagedisk.specs.Common.{ImageError, TooShort}
use Rattle.raw_image.specs.Image.{OrNoMemory}
use Rattle.imagedisk.specs.declared.left.Left.{Left}

-- the bytes of a file from an offset on
pub record Rest : Type 0 where
  pub offset : ℕ
  pub bytes : List ℕ

abbrev pub rest_of : Left → Rest
rest_of left = record { offset = left.offset; bytes = left.bytes.now }

-- the next part, of this many bytes, and what is left after it
abbrev pub part : ℕ → Rest → Result (List ℕ × Rest) ImageError
part count rest =
    if nat_lt (length rest.bytes) count
    then Err (TooShort (rest.offset + count) (rest.offset + length rest.bytes))
    else Ok (take count rest.bytes, record { offset = rest.offset + count; bytes = drop count rest.bytes })

-- What was answered, seen by `view`, is what reading gives, unless memory ran out.
abbrev pub Gives : {A B : Type 0} → (A → B) → Result A ImageError → Result B ImageError → Type 0
Gives view (Ok x) read = read ≡ Ok (view x)
Gives view (Err e) read = OrNoMemory e (read ≡ Err e)
