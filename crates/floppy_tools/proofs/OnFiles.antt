-- A subcommand on files alone is a run without requests.
use Rattle.std.proofs.Common.{[], refl}
use Rattle.floppy_tools.proofs.Common.{Status, State, Runs, Outside, OnFiles}
use Rattle.text_commands.specs.JobRounds.{world}

pub on_files : (Does : Outside → Outside → Status → Type 0) (state : State) (old new : Outside) (ended : Status) → Does old new ended → Runs (OnFiles Does) (world state old.files old.report) (world state new.files new.report) ended
on_files Does state old new ended does = record {
  course = [];
  does = record { nothing = refl; state = refl; does = does };
}
