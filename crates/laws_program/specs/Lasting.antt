-- What a run over a machine costs at most.
use Rattle.std.specs.Prelude.{ℕ, ◌+◌, ◌≤◌}
use Rattle.laws_program.specs.Common.{Board, clock_of, Uses}

-- a run lasts at most so many device steps, besides those of gaps, and makes at most so many port accesses, besides one
-- for each interrupt
abbrev pub CostsRun : ℕ → ℕ → Board → Board → Type 0
CostsRun steps accesses old new = (clock_of new ≤ clock_of old + steps) × Uses accesses old new
