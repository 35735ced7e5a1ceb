-- What comes after the disk was put in: a rescue by the log that was found, or the last line if there is no log to go
-- by.
use Rattle.std.proofs.Common.{arith, ◌≡◌, ◌<◌, ◌≤◌, List, [], ◌∷◌, ℕ, length, Option, Some, None, Result, Ok, Err, inl, inr, subst}
use Rattle.std.specs.Prelude.{IsSomeAnd}
use Rattle.disk_commands.proofs.Common.{Files, file_at, sectors_at, Rate, R500, R250, Shape, Script, Ends, Fails, IsLog, IsFirstBadLine, log_text, LogLine, NoLog, IsLogFound, IsBadLog, IsFound, most_log_bytes, rescue_found, bad_log_text, rescue_rest}
use Rattle.flop_base.specs.declared.answers.Status.TheVariants as status
use Rattle.sector_model.specs.Steps.{IsAbsent}
use Rattle.rescue.proofs.LawLemmas.{understood}
use Rattle.disk_commands.specs.declared.logs.NoLog.TheVariants as missing
use Rattle.disk_commands.specs.Rescue.{tells_no_log}

pub by_rest : (told : Option Files) (to log : List ℕ) (shape : Shape) (P : Script → Type 0)
    → ((found : Option (List LogLine)) → IsLogFound told log (sectors_at shape.rate) found → P (rescue_found to log shape found))
    → ((line : List (List ℕ)) → P (Ends line status.BadJob)) → P (Fails status.FileFault) → P (Fails status.NoMemory)
    → (answer : Result (Option (List LogLine)) NoLog) → IsFound told log (sectors_at shape.rate) answer → P (rescue_rest to log shape answer)
unfolding tells_no_log
by_rest told to log shape P rescued line fault memory (Ok found) there = rescued found there
by_rest told to log shape P rescued line fault memory (Err (missing.BadLine n)) there = line (bad_log_text n ∷ [])
by_rest told to log shape P rescued line fault memory (Err missing.FileFault) there = fault
by_rest told to log shape P rescued line fault memory (Err missing.NoMemory) there = memory

no_such_file : (Such : List ℕ → Type 0) (o : Option (List ℕ)) → o ≡ None → IsSomeAnd o Such → ⊥
no_such_file Such None absent some = some
no_such_file Such (Some bytes) absent some = absurd (cc absent)

-- If no file has the log's name, a new rescue comes after the disk was put in, or a failure of the outside.
pub by_absent : (files : Files) (to log : List ℕ) (shape : Shape) (P : Script → Type 0) → file_at files log ≡ None
    → P (rescue_found to log shape None) → P (Fails status.FileFault) → P (Fails status.NoMemory)
    → (answer : Result (Option (List LogLine)) NoLog) → IsFound (Some files) log (sectors_at shape.rate) answer → P (rescue_rest to log shape answer)
unfolding tells_no_log
by_absent files to log shape P absent rescued fault memory (Ok None) there = rescued
by_absent files to log shape P absent rescued fault memory (Ok (Some lines)) there = absurd (no_such_file _ (file_at files log) absent there)
by_absent files to log shape P absent rescued fault memory (Err (missing.BadLine n)) (inl long) = absurd (no_such_file _ (file_at files log) absent long.1)
by_absent files to log shape P absent rescued fault memory (Err (missing.BadLine n)) (inr bad) = absurd (no_such_file _ (file_at files log) absent bad)
by_absent files to log shape P absent rescued fault memory (Err missing.FileFault) there = fault
by_absent files to log shape P absent rescued fault memory (Err missing.NoMemory) there = memory

-- ---- the file is a log

few_sectors : (rate : Rate) → sectors_at rate < 256
few_sectors R500 = omega arith
few_sectors R250 = omega arith

module _ (files : Files) (log : List ℕ) (sectors : ℕ) (few : sectors < 256) (lines : List LogLine) (found : IsLogFound (Some files) log sectors (Some lines)) where
  is_there : IsAbsent (Some files) log → ⊥
  is_there absent = go (file_at files log) found absent
    where
      go : (o : Option (List ℕ)) → IsSomeAnd o (λ text. (length text ≤ most_log_bytes) × (IsLog sectors lines × (text ≡ log_text lines))) → o ≡ None → ⊥
      go None one two = one
      go (Some text) one two = absurd (cc two)

  is_log : (n : ℕ) → IsBadLog (Some files) log sectors n → ⊥
  is_log n (inl longer) = go (file_at files log) found longer.1
    where
      go : (o : Option (List ℕ)) → IsSomeAnd o (λ text. (length text ≤ most_log_bytes) × (IsLog sectors lines × (text ≡ log_text lines)))
          → IsSomeAnd o (λ text. most_log_bytes < length text) → ⊥
      go None one two = one
      go (Some text) one two = absurd (omega (arith, one.0, two))
  is_log n (inr bad) = go (file_at files log) found bad
    where
      go : (o : Option (List ℕ)) → IsSomeAnd o (λ text. (length text ≤ most_log_bytes) × (IsLog sectors lines × (text ≡ log_text lines)))
          → IsSomeAnd o (λ text. (length text ≤ most_log_bytes) × IsFirstBadLine sectors text n) → ⊥
      go None one two = one
      go (Some text) one two = understood sectors n lines few one.1.0 (subst (λ (t : List ℕ). IsFirstBadLine sectors t n) one.1.1 two.1)

-- After the disk was put in, a rescue by a log then comes, or a failure of the outside.
pub by_log : (files : Files) (to log : List ℕ) (shape : Shape) (P : Script → Type 0) (lines : List LogLine)
    → IsLogFound (Some files) log (sectors_at shape.rate) (Some lines) → ((asked : List LogLine) → P (rescue_found to log shape (Some asked)))
    → P (Fails status.FileFault) → P (Fails status.NoMemory)
    → (answer : Result (Option (List LogLine)) NoLog) → IsFound (Some files) log (sectors_at shape.rate) answer → P (rescue_rest to log shape answer)
unfolding tells_no_log
by_log files to log shape P lines found rescued fault memory (Ok None) there =
    absurd (is_there files log (sectors_at shape.rate) (few_sectors shape.rate) lines found there)
by_log files to log shape P lines found rescued fault memory (Ok (Some asked)) there = rescued asked
by_log files to log shape P lines found rescued fault memory (Err (missing.BadLine n)) there =
    absurd (is_log files log (sectors_at shape.rate) (few_sectors shape.rate) lines found n there)
by_log files to log shape P lines found rescued fault memory (Err missing.FileFault) there = fault
by_log files to log shape P lines found rescued fault memory (Err missing.NoMemory) there = memory
