-- The log of a rescue: the records that weren't read, each with the drive's refusal.
use Rattle.std.specs.Prelude.{◌≡◌, ℕ, ◌+◌, ◌-◌, ◌<◌, ◌≤◌, ◌⊎◌, List, [], ◌∷◌, ◌++◌, length, slice_get, All, IfSome, Result, Ok, Err}
use Rattle.std.specs.Fmt.{decimal}
use Rattle.std.specs.List.{AllPairs, flat_map, join_with_byte}
use Rattle.flop_base.specs.Numbers.{code_number}
use Rattle.flop_base.specs.declared.key.Chrn.{Chrn}
use Rattle.flop_base.specs.declared.answers.Code.{Code}
use Rattle.floppy_jobs.specs.Spelling.{hex2}
use Rattle.sector_model.specs.Orders.{IsDeviceRefusal}
use Rattle.rescue.specs.declared.line.LogLine.{LogLine}
use Rattle.rescue.specs.declared.read.LogError.{LogError}
use Rattle.rescue.specs.declared.read.LogError.TheVariants.{BadLine, NoMemory}

-- a refusal's status code, in two hexadecimal digits
abbrev pub code_text : Code → List ℕ
code_text code = hex2 (code_number code)

-- the words C H R CODE
abbrev pub line_words : LogLine → List (List ℕ)
line_words line =
    decimal line.key.c ∷ decimal line.key.h ∷ decimal line.key.r ∷ code_text line.code ∷ []

-- a line, with one space between its words
abbrev pub line_text : LogLine → List ℕ
line_text line = join_with_byte 32 (line_words line)

-- the text of a log: a line feed ends each line
abbrev pub log_text : List LogLine → List ℕ
log_text lines = flat_map (λ line. line_text line ++ 10 ∷ []) lines

-- a standard record of a diskette with so many sectors on a track, and a refusal of the drive
pub record IsLogLine (sectors : ℕ) (line : LogLine) : Type 0 where
  pub cylinder : line.key.c ≤ 79
  pub head : line.key.h ≤ 1
  pub first : 1 ≤ line.key.r
  pub last : line.key.r ≤ sectors
  pub size : line.key.n ≡ 2
  pub refused : IsDeviceRefusal line.code

-- the order of records: by cylinder, then by head, then by number
abbrev pub IsBefore : Chrn → Chrn → Type 0
IsBefore a b = (a.c < b.c) ⊎ ((a.c ≡ b.c) × ((a.h < b.h) ⊎ ((a.h ≡ b.h) × (a.r < b.r))))

-- the lines of a log: each is a line that may stand in a log, and its record is before all later ones
pub record IsLog (sectors : ℕ) (lines : List LogLine) : Type 0 where
  pub each : All (IsLogLine sectors) lines
  pub rising : AllPairs (λ a b. IsBefore a.key b.key) lines

-- a line may follow these: its record is after that of the last line, if there is one
abbrev pub IsAfterLast : List LogLine → LogLine → Type 0
IsAfterLast lines line = IfSome (slice_get lines (length lines - 1)) (λ last. IsBefore last.key line.key)

-- line n is the first bad one: the lines before it are a log, and no line that may follow them comes next
pub record IsFirstBadLine (sectors : ℕ) (text : List ℕ) (n : ℕ) : Type 0 where
  pub lines : List LogLine
  pub rest : List ℕ
  pub begins : text ≡ log_text lines ++ rest
  pub good : IsLog sectors lines
  pub number : n ≡ length lines + 1
  pub more : 0 < length rest
  pub bad : (line : LogLine) (others : List ℕ) → rest ≡ line_text line ++ (10 ∷ others)
      → ¬ (IsLog sectors (lines ++ line ∷ []))

-- a text was read as the log that it spells, or refused at its first bad line, unless memory ran out
abbrev pub ReadsLog : {A : Type 0} → (A → List LogLine) → ℕ → List ℕ → Result A LogError → Type 0
ReadsLog items sectors text (Ok kept) = IsLog sectors (items kept) × (text ≡ log_text (items kept))
ReadsLog items sectors text (Err (BadLine n)) = IsFirstBadLine sectors text n
ReadsLog items sectors text (Err NoMemory) = Unit {0}
