-- What the words of a line spell, and where a text's first line ends.
use Rattle.std.specs.Prelude.{◌≡◌, ℕ, ◌==◌, ◌&&◌, List, [], ◌∷◌, ◌++◌, length, slice_index, nat_lt, Option, Some, None, codes, if◌then◌else◌}
use Rattle.std.specs.List.{slice_split}
use Rattle.std.specs.Str.{bytes_eq}
use Rattle.flop_base.specs.declared.answers.Code.{Code}
use Rattle.flop_base.specs.declared.answers.Code.TheVariants.{NoMark, NotFound, Overrun, BadCrc, Seek}
use Rattle.floppy_jobs.specs.Numbers.{number_of}
use Rattle.floppy_jobs.specs.Requests.{◌>>=◌}
use Rattle.rescue.specs.Log.{line_text, IsLogLine}
use Rattle.rescue.specs.declared.line.LogLine.{LogLine}

-- a decimal number without leading zeros, from least to greatest
unfoldable pub plain_of : ℕ → ℕ → List ℕ → Option ℕ
plain_of least greatest word =
    if nat_lt 1 (length word) && (slice_index word 0 == 48) then None else number_of 10 1 3 least greatest word

-- the refusal of a drive that a word spells
unfoldable pub code_of : List ℕ → Option Code
code_of word =
    if bytes_eq word (codes "02") then Some NoMark
    else (if bytes_eq word (codes "04") then Some NotFound
    else (if bytes_eq word (codes "08") then Some Overrun
    else (if bytes_eq word (codes "10") then Some BadCrc
    else (if bytes_eq word (codes "40") then Some Seek else None))))

-- C H R CODE
unfoldable pub line_of : ℕ → List (List ℕ) → Option LogLine
line_of sectors (cylinder ∷ head ∷ number ∷ code ∷ []) = do
  c ← plain_of 0 79 cylinder
  h ← plain_of 0 1 head
  r ← plain_of 1 sectors number
  refusal ← code_of code
  Some (record { key = record { c = c; h = h; r = r; n = 2 }; code = refusal })
line_of sectors _ = None

-- what stands between spaces
abbrev pub words_of : List ℕ → List (List ℕ)
words_of line = slice_split (λ b. b == 32) line

-- what stands between line feeds
abbrev pub pieces_of : List ℕ → List (List ℕ)
pieces_of text = slice_split (λ b. b == 10) text

-- a text begins with a line of a log
pub record BeginsWith (sectors : ℕ) (text : List ℕ) (line : LogLine) (others : List ℕ) : Type 0 where
  pub begins : text ≡ line_text line ++ (10 ∷ others)
  pub valid : IsLogLine sectors line

-- a text doesn't begin with a line of a log
abbrev pub BeginsWithNone : ℕ → List ℕ → Type 0
BeginsWithNone sectors text = (line : LogLine) (others : List ℕ) → ¬ (BeginsWith sectors text line others)
