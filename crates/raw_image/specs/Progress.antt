-- How far a reader of an image file has come.
use Rattle.std.specs.Prelude.{◌≡◌, ℕ, ◌<◌, ◌≤◌, List, [], ◌∷◌, ◌++◌, length, take, drop, Ok, Err}
use Rattle.raw_image.specs.declared.error.ImageError.{ImageError}
use Rattle.raw_image.specs.Header.{Header, header_of}
use Rattle.raw_image.specs.Image.{image_of, whole_length, OrNoMemory}

pub data Progress : Type 0 where
  -- the bytes so far, which are fewer than a header has
  Begun : List ℕ → Progress
  -- a whole header, and these bytes after it
  Going : Header → List ℕ → Progress
  -- something is wrong
  Failed : ImageError → Progress

-- this error is what is wrong with the file, however it goes on
abbrev pub IsWrong : List ℕ → ImageError → Type 0
IsWrong bytes e = (more : List ℕ) → image_of (bytes ++ more) ≡ Err e

-- a reader that was fed these bytes, in whatever pieces, may have come this far
abbrev pub IsFed : List ℕ → Progress → Type 0
IsFed bytes (Begun front) = (bytes ≡ front) × (length bytes < 14)
IsFed bytes (Going h body) =
    (14 ≤ length bytes) × (header_of (take 14 bytes) ≡ Ok h) × (drop 14 bytes ≡ body)
    × (length bytes ≤ whole_length h)
IsFed bytes (Failed e) = OrNoMemory e (IsWrong bytes e)

-- whatever bytes were fed before: feeding this piece after them leads from the old progress to the new one
abbrev pub Feeds : List ℕ → Progress → Progress → Type 0
Feeds piece old new = (bytes : List ℕ) → IsFed bytes old → IsFed (bytes ++ piece) new

-- feeding the pieces, one after the other, leads from the old progress to the new one
abbrev pub FeedsAll : List (List ℕ) → Progress → Progress → Type 0
FeedsAll [] old new = old ≡ new
FeedsAll (piece ∷ pieces) old new = (next : Progress) × Feeds piece old next × FeedsAll pieces next new

-- no fault was found so far
abbrev pub IsSound : Progress → Type 0
IsSound (Begun front) = Unit {0}
IsSound (Going h body) = Unit {0}
IsSound (Failed e) = ⊥
