-- The file of a log: what is found under its name, and why no log can be read.
use Rattle.std.specs.Prelude.{◌≡◌, ℕ, ◌≤◌, ◌⊎◌, List, length, Vec, Option, Some, None, Result, Ok, Err, IfSome, IsSomeAnd}
use Rattle.std.specs.Option.{option_map}
use Rattle.disk_commands.specs.Common.{Global, Files, file_at, sectors_at, Rate, LoadError, IsAbsent, IsLonger, IsLog, IsFirstBadLine, log_text, LogLine}
use Rattle.flop_base.specs.declared.answers.LoadError.TheVariants as load
use Rattle.rescue.specs.declared.read.LogError.{LogError}
use Rattle.rescue.specs.declared.read.LogError.TheVariants as bad
use Rattle.disk_commands.specs.declared.logs.NoLog.{NoLog}
use Rattle.disk_commands.specs.declared.logs.NoLog.TheVariants as missing

-- the most bytes of a log's text
abbrev pub most_log_bytes : ℕ
most_log_bytes = 65536

-- the told file of this name has such a text, and the text is no longer than a log may be
abbrev pub HasText : Option Files → List ℕ → (List ℕ → Type 0) → Type 0
HasText told name Such =
    IfSome told (λ files. IsSomeAnd (file_at files name) (λ text. (length text ≤ most_log_bytes) × Such text))

-- what is under the name of a log: nothing, or a log of these lines
abbrev pub IsLogFound : Option Files → List ℕ → ℕ → Option (List LogLine) → Type 0
IsLogFound told name sectors None = IsAbsent told name
IsLogFound told name sectors (Some lines) = HasText told name (λ text. IsLog sectors lines × (text ≡ log_text lines))

-- the lines of a log that was found
abbrev pub lines_found : Option (Vec LogLine Global) → Option (List LogLine)
lines_found found = option_map (λ lines. lines.items) found

-- the same for an answer about a log
abbrev pub answer_found : Result (Option (Vec LogLine Global)) NoLog → Result (Option (List LogLine)) NoLog
answer_found (Ok found) = Ok (lines_found found)
answer_found (Err cause) = Err cause

-- the number of the first line of a log that isn't understood, or 0 if the text is too long
abbrev pub IsBadLog : Option Files → List ℕ → ℕ → ℕ → Type 0
IsBadLog told name sectors n =
    ((n ≡ 0) × IsLonger told name most_log_bytes) ⊎ HasText told name (λ text. IsFirstBadLine sectors text n)

-- why there is no log to go by
abbrev pub IsNoLog : Option Files → List ℕ → ℕ → NoLog → Type 0
IsNoLog told name sectors (missing.BadLine n) = IsBadLog told name sectors n
IsNoLog told name sectors missing.FileFault = Unit {0}
IsNoLog told name sectors missing.NoMemory = Unit {0}

-- what is found under the name of a log: a log or nothing, or why there is none to go by
abbrev pub IsFound : Option Files → List ℕ → ℕ → Result (Option (List LogLine)) NoLog → Type 0
IsFound told name sectors (Ok found) = IsLogFound told name sectors found
IsFound told name sectors (Err cause) = IsNoLog told name sectors cause

-- this is what is found as the log of a disk, for each rate of the disk
abbrev pub AreFound : Option Files → List ℕ → (Rate → Result (Option (List LogLine)) NoLog) → Type 0
AreFound told name found = (rate : Rate) → IsFound told name (sectors_at rate) (found rate)

-- the answer for a text that isn't a log
abbrev pub NotUnderstood : LogError → NoLog → Type 0
NotUnderstood (bad.BadLine n) cause = cause ≡ missing.BadLine n
NotUnderstood bad.NoMemory cause = cause ≡ missing.NoMemory

-- the answer for a file that wasn't loaded
abbrev pub NotLoaded : LoadError → Result (Option (Vec LogLine Global)) NoLog → Type 0
NotLoaded load.Absent answer = answer ≡ Ok None
NotLoaded load.TooLong answer = answer ≡ Err (missing.BadLine 0)
NotLoaded load.Failed answer = answer ≡ Err missing.FileFault
NotLoaded load.NoMemory answer = answer ≡ Err missing.NoMemory
