-- A machine on a bench, with no driver: its board, the name of the file that each medium came from, and the files.
use Rattle.std.specs.Prelude.{◌≡◌, ℕ, Bool, List, Option, None, is_some}
use Rattle.text_commands.specs.Common.{Two, in_bay, Files, DriveState, Board, board, MachineOf}

-- the names of the media that are in, one for each bay
abbrev pub Names : Type 0
Names = Two (Option (List ℕ))

-- all that a line may change, apart from the report
pub record Bench : Type 0 where
  pub board : Board
  pub names : Names
  pub files : Option Files

abbrev pub bench_of : {D S : Type 0} → (D → DriveState) → (S → Option Files) → MachineOf D → Names → S → Bench
bench_of state told machine names shelf = record { board = board state machine; names = names; files = told shelf }

-- a bay has a name, and so a medium
abbrev pub is_loaded : Names → ℕ → Bool
is_loaded names bay = is_some (in_bay names bay)

-- a bay has a name if and only if a medium is in
pub record AreNamed (names : Names) (board : Board) : Type 0 where
  pub first : is_some names.first ≡ is_some board.first.medium
  pub second : is_some names.second ≡ is_some board.second.medium

-- no medium is in, as in a new machine
pub record IsBare (board : Board) : Type 0 where
  pub first : board.first.medium ≡ None
  pub second : board.second.medium ≡ None

-- no bay has a name
abbrev pub no_names : Names
no_names = record { first = None; second = None }
