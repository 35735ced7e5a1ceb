-- Calls on the machine.
use Rattle.std.specs.Prelude.{◌≡◌, ◌≤◌, ◌<◌, ◌+◌, ◌-◌, ◌==◌, ◌⊎◌, ℕ, min, false, List, [], length, slice_index, Option, Some, MatchBool, if◌then◌else◌}
use Rattle.std.specs.Fn.{iterate}
use Rattle.telwyddus_c.specs.Common.{MachineValue, TrayValue, total_left, script_state, told, Plan, Board, board, drive_in, latch_of, memory_of, IsNew, Touches, RunsToIrq}
use Rattle.drive_model.specs.Mechanics.{at_rest}
use Rattle.flop_base.specs.Memory.{user_bytes}
use Rattle.irq_events.specs.Holds.{counted}
use Rattle.irq_events.specs.declared.pace.Pace.{Pace}
use Rattle.telwyddus_c.specs.Media.{Inserts, Ejects}

-- the chips and the states of both drives
abbrev pub board_of : MachineValue → Board
board_of machine = board script_state machine

-- ---- new ones

-- a new machine whose drives have no faults, and which nothing delays or disturbs
pub record IsPlain (machine : MachineValue) : Type 0 where
  pub pace : Pace
  pub gaps : pace.gaps.items ≡ []
  pub holds : pace.holds.items ≡ []
  pub strays : pace.strays.items ≡ []
  pub new : IsNew pace (at_rest (Some 0)) (at_rest (Some 0)) (board_of machine)

-- a new machine at a plan's pace, whose drives have as many faults to come as the plan has for them
pub record IsPlanned (plan : Plan) (machine : MachineValue) : Type 0 where
  pub pace : Pace
  pub gaps : pace.gaps.items ≡ plan.gaps
  pub holds : pace.holds.items ≡ plan.holds
  pub strays : pace.strays.items ≡ plan.strays
  pub new : IsNew pace (at_rest (told 0 (total_left plan.bay0))) (at_rest (told 0 (total_left plan.bay1))) (board_of machine)

-- ---- device steps

-- device steps are made until the latch is set, at most `most`. How many were made is reported, and 1 or 0 says whether
-- the latch is set
pub record WaitsTelling (most made is_set : ℕ) (old new : Board) : Type 0 where
  pub steps : RunsToIrq most old made new
  pub set : (is_set == 1) ≡ (latch_of new).is_set
  pub bit : is_set ≤ 1

-- ---- memory

-- these are the bytes from an address on
pub record Copied (memory : List ℕ) (address : ℕ) (old new : List ℕ) : Type 0 where
  pub within : address + length old ≤ 1048576
  pub all : length new ≡ length old
  pub each : (k : ℕ) → k < length old → slice_index new k ≡ slice_index memory (address + k)

-- a range of memory is copied out: code 0. If the range isn't within memory, the code is 4 and the buffer stays
abbrev pub CopiesOut : ℕ → List ℕ → ℕ → List ℕ → List ℕ → Type 0
CopiesOut address memory code old new =
    MatchBool (code == 0) (Copied memory address old new) (MatchBool (code == 4) ((1048576 < address + length old) × (new ≡ old)) ⊥)

-- memory, where so many bytes from an address on are replaced by these
pub record IsStored (address count : ℕ) (bytes old new : List ℕ) : Type 0 where
  pub inside : (k : ℕ) → k < count → slice_index new (address + k) ≡ slice_index bytes k
  pub outside : (k : ℕ) → (k < address) ⊎ (address + count ≤ k) → slice_index new k ≡ slice_index old k

-- how many of so many bytes from an address on lie in user memory
abbrev pub in_user_memory : (address count : ℕ) → ℕ
in_user_memory address count = min count (user_bytes - address)

-- so many bytes of memory from an address on were set, each once. Those in user memory are counted as accesses past the
-- controller. If at least one byte was set, the machine isn't fresh any more. Except for memory, all else is as it was
abbrev pub CountsBytes : (address count : ℕ) → Board → Board → Type 0
CountsBytes address count old new = new ≡ record old {
  bus = record old.bus {
    chips = record old.bus.chips { memory = memory_of new };
    direct = iterate counted (in_user_memory address count) old.bus.direct;
    fresh = if count == 0 then old.bus.fresh else false;
  };
}

-- bytes are in memory from an address on
pub record Stores (address : ℕ) (bytes : List ℕ) (old new : Board) : Type 0 where
  pub within : address + length bytes ≤ 1048576
  pub stored : IsStored address (length bytes) bytes (memory_of old) (memory_of new)
  pub rest : CountsBytes address (length bytes) old new

-- bytes are copied into memory: code 0. If their range isn't within memory, the code is 4 and the machine stays
abbrev pub CopiesIn : ℕ → List ℕ → ℕ → MachineValue → MachineValue → Type 0
CopiesIn address bytes code old new =
    MatchBool (code == 0) (Stores address bytes (board_of old) (board_of new))
    (MatchBool (code == 4) ((1048576 < address + length bytes) × (new ≡ old)) ⊥)

-- ---- media

-- the medium of a tray goes into a bay. If the tray has none, the machine stays
pub record InsertsAt (bay code : ℕ) (tray left : Option TrayValue) (old new : MachineValue) : Type 0 where
  pub drive : Inserts code tray left (drive_in (board_of old) bay) (drive_in (board_of new) bay)
  pub beside : MatchBool (code == 7) (new ≡ old) (Touches bay (board_of old) (board_of new))

-- the medium of a bay goes into a tray. If no tray can be made, the machine stays
pub record EjectsAt (bay code : ℕ) (tray left : Option TrayValue) (old new : MachineValue) : Type 0 where
  pub drive : Ejects code tray left (drive_in (board_of old) bay) (drive_in (board_of new) bay)
  pub beside : MatchBool (code == 2) (new ≡ old) (MatchBool (code == 3) (new ≡ old) (Touches bay (board_of old) (board_of new)))
