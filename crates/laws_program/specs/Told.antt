-- What the subcommands (forms) of the program print, by the report before and after.
use Rattle.std.specs.Prelude.{◌≡◌, ℕ, List, [], ◌∷◌, length, nat_le, Option}
use Rattle.laws_program.specs.Common.{grown, Code, Status, Chrn, Disk, Request, Reason, whole_status, shape_of, Outside, verify_report}
use Rattle.commands.specs.LastLines.{stopped_text}
use Rattle.disk_commands.specs.Disks.{sectors_of}

-- the report lists these failing sector IDs of a disk and no others, and the status says whether there are any
pub record ListsFailing (disk : Disk) (failed : List (Chrn × Code)) (before after : Outside) (ended : Status) : Type 0 where
  pub report : after.report ≡ grown before.report (verify_report (sectors_of (shape_of disk)) failed)
  pub status : ended ≡ whole_status (nat_le 1 (length failed))

-- the report doesn't say that a refusal stopped the subcommand
abbrev pub IsNotToldStopped : Option (List (List ℕ)) → Option (List (List ℕ)) → Type 0
IsNotToldStopped before after = (asked : Request) (cause : Reason) → after ≡ grown before (stopped_text asked cause ∷ []) → ⊥
