-- What the words of a plan's lines spell.
use Rattle.std.specs.Prelude.{◌==◌, ℕ, List, Option, option_map, if◌then◌else◌}
use Rattle.floppy_jobs.specs.Numbers.{number_of}
use Rattle.fault_plan.specs.declared.line.PlannedDrive.{PlannedDrive}
use Rattle.fault_plan.specs.declared.line.PlannedDrive.TheVariants.{Bay0, Bay1, Spare0, Spare1}

-- 0 and 1 name the bays, 2 and 3 the spares
abbrev pub drive_named : ℕ → PlannedDrive
drive_named d = if d == 0 then Bay0 else (if d == 1 then Bay1 else (if d == 2 then Spare0 else Spare1))

-- D: 0 to 3
unfoldable pub drive_of : List ℕ → Option PlannedDrive
drive_of word = option_map drive_named (number_of 10 1 1 0 3 word)

-- C: 0 to 82
unfoldable pub cylinder_of : List ℕ → Option ℕ
cylinder_of word = number_of 10 1 2 0 82 word

-- H: 0 or 1
unfoldable pub head_of : List ℕ → Option ℕ
head_of word = number_of 10 1 1 0 1 word

-- WORD: 0 to 16,383
unfoldable pub word_of : List ℕ → Option ℕ
word_of word = number_of 10 1 5 0 16383 word

-- COUNT: 1 to 10,000
unfoldable pub count_of : List ℕ → Option ℕ
count_of word = number_of 10 1 5 1 10000 word

-- S: 1 to 65,535
unfoldable pub span_of : List ℕ → Option ℕ
span_of word = number_of 10 1 5 1 65535 word
