-- The machine as its driver sees it.
use Rattle.std.specs.Prelude.{ℕ, Bool, List, [], length, take, drop, slice_index, nat_lt, count_by}
use Rattle.machine_commands.specs.Common.{Counters, user_bytes, DriveState, at_speed, data_commands_of, Board, board, controller_of, memory_of, holds_of, clock_of, Rig, counts_of}
use Rattle.machine_commands.specs.Ready.{IsIdle}
use Rattle.machine_commands.specs.declared.machine.CommandedMachine.{CommandedMachine}

-- a medium is in, and turns at speed
abbrev pub is_spun : DriveState → Bool
is_spun drive = at_speed drive

-- the user's part of memory, below F0000
unfoldable pub user_part : List ℕ → List ℕ
user_part memory = take user_bytes memory

-- the driver's part
unfoldable pub page_part : List ℕ → List ℕ
page_part memory = drop user_bytes memory

-- the DMA latencies that are late (stalls)
abbrev pub stalls_left : List ℕ → ℕ
stalls_left entries = count_by (λ hold. nat_lt 8 hold) entries

-- what a machine counts; it has no spare drives
abbrev pub counters_of : Board → Counters
counters_of board = record {
  drives = record { first = counts_of board.first; second = counts_of board.second };
  spares = [];
  stalls = (holds_of board).stalls;
  stalls_left = stalls_left (holds_of board).entries;
  data_commands = data_commands_of (controller_of board);
  taken = board.bus.taken;
  direct = board.bus.direct;
  clock = clock_of board;
  gaps = length board.bus.gaps;
}

-- the number that the controller keeps of a drive's cylinder
abbrev pub number_of : Board → ℕ → ℕ
number_of board drive = slice_index (controller_of board).seeks.cylinders drive

abbrev pub rig_of : Board → Rig
rig_of board = record {
  media = record { first = board.first.medium; second = board.second.medium };
  cylinders = record { first = board.first.cylinder; second = board.second.cylinder };
  numbers = record { first = number_of board 0; second = number_of board 1 };
  changes = record { first = board.first.change; second = board.second.change };
  spun = record { first = is_spun board.first; second = is_spun board.second };
  memory = user_part (memory_of board);
  page = page_part (memory_of board);
  counters = counters_of board;
}

-- ---- of a machine whose drives have these states

abbrev pub board_of : {D : Type 0} → (D → DriveState) → CommandedMachine D → Board
board_of state machine = board state machine.machine

abbrev pub rig_shown : {D : Type 0} → (D → DriveState) → CommandedMachine D → Rig
rig_shown state machine = rig_of (board_of state machine)

abbrev pub is_idle : {D : Type 0} → (D → DriveState) → CommandedMachine D → Type 0
is_idle state machine = IsIdle machine.motors (board_of state machine)
