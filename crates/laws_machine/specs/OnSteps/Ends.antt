-- How long a command lasts, whatever is done in the meantime.
use Rattle.std.specs.Prelude.{◌≡◌, ◌⊎◌, ◌≤◌, ◌+◌, ◌-◌, ℕ, min, false, true, Option, Some, None, IsSomeAnd}
use Rattle.laws_machine.specs.Common.{last_count, Rose, RoseBy, is_seeking, is_executing, data_commands_of, steps_left, IsCounted, Board, controller_of}
use Rattle.fdc_commands.specs.declared.motion.Motion.{Motion}
use Rattle.fdc_commands.specs.declared.motion.Motion.TheVariants.{Outward, Toward, Ended}
use Rattle.fdc_commands.specs.declared.motion.Seek.{Seek}
use Rattle.laws_machine.specs.OnSteps.Moves.{Goes}

-- a course of `n` device steps passes a board for which P holds, after at most `most` of them
pub record Meets (P : Board → Type 0) (most : ℕ) (start : Board) (n : ℕ) (now : Board) : Type 0 where
  pub mid : Board
  pub first : ℕ
  pub behind : ℕ
  pub goes : Goes start first mid
  pub goes_on : Goes mid behind now
  pub all : first + behind ≡ n
  pub within : first ≤ most
  pub holds : P mid

-- ---- data commands

-- `n` device steps have passed since, and each took one of those that were left of the data command in execution
pub record Lessens (start : Board) (n : ℕ) (now : Board) : Type 0 where
  pub left : steps_left (controller_of now).phase ≤ steps_left (controller_of start).phase - n
  -- the command's count is below 65,536, as after every device step
  pub counted : IsCounted (controller_of start).phase ⊎ (1 ≤ n) → IsCounted (controller_of now).phase

-- a data command began since
abbrev pub Began : Board → Board → Type 0
Began start now = Rose (data_commands_of (controller_of start)) (data_commands_of (controller_of now))

-- `n` device steps were taken from what was left of the data command, or another one began
pub record Elapses (start : Board) (n : ℕ) (now : Board) : Type 0 where
  pub rises : min (data_commands_of (controller_of start)) last_count ≤ data_commands_of (controller_of now)
  pub left : Lessens start n now ⊎ Began start now

-- no data command is in execution, unless another one began
abbrev pub IsOver : Board → Board → Type 0
IsOver start now = (is_executing (controller_of now).phase ≡ false) ⊎ Began start now

-- ---- seeks

-- the device steps that a seek still takes
abbrev pub motion_left : Motion → ℕ
motion_left (Outward pulses) = pulses + 1
motion_left (Toward cylinder target) = (cylinder - target) + (target - cylinder) + 1
motion_left Ended = 0

abbrev pub seek_left : Option Seek → ℕ
seek_left None = 0
seek_left (Some seek) = motion_left seek.motion

abbrev pub pulses_left : Board → ℕ
pulses_left board = seek_left (controller_of board).seeks.seek

abbrev pub seeks : Board → Type 0
seeks board = is_seeking (controller_of board).seeks ≡ true

-- no seek runs
abbrev pub RunsNoSeek : Board → Type 0
RunsNoSeek board = is_seeking (controller_of board).seeks ≡ false

-- the seek is a RECALIBRATE's
abbrev pub Recalibrates : Board → Type 0
Recalibrates board = IsSomeAnd (controller_of board).seeks.seek (λ seek. (pulses : ℕ) × (seek.motion ≡ Outward pulses))

-- ---- the count of device steps

-- the count of device steps rose by `n`, up to its last value
pub record Counts (n : ℕ) (old new : Board) : Type 0 where
  pub least : RoseBy n old.bus.steps new.bus.steps
  pub most : new.bus.steps ≤ old.bus.steps + n
