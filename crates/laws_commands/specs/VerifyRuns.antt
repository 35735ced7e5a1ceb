-- What a verify prints.
use Rattle.std.specs.Prelude.{◌≡◌, ℕ, ◌-◌, nat_le, List, [], ◌∷◌, ◌++◌, length, map}
use Rattle.laws_commands.specs.Common.{grown, Chrn, Code, Status, Disk, World, whole_status, shape_of, failure_line, verify_text}
use Rattle.flop_base.specs.declared.answers.Status.TheVariants as status
use Rattle.sector_model.specs.declared.reply.Reason.TheVariants as reason
use Rattle.disk_commands.specs.Disks.{sectors_of}

-- the line of a key that can't be read, with its code
abbrev pub failing_line : Chrn × Code → List ℕ
failing_line failed = failure_line failed.0 (reason.Driver failed.1)

-- a line for each key that can't be read, and then one that says how many of all sectors can be read
abbrev pub verify_report : ℕ → List (Chrn × Code) → List (List ℕ)
verify_report all failed = map failing_line failed ++ verify_text (all - length failed) all ∷ []

-- A verify of a disk printed these failing keys and no others. Its status says whether there are any.
pub record TellsFailing (disk : Disk) (failed : List (Chrn × Code)) (old new : World) (ended : Status) : Type 0 where
  pub report : new.report ≡ grown old.report (verify_report (sectors_of (shape_of disk)) failed)
  pub status : ended ≡ whole_status (nat_le 1 (length failed))

-- the status of a command that went on to its end
abbrev pub IsEndStatus : Status → Type 0
IsEndStatus status.AllOk = Unit {0}
IsEndStatus status.SomeRefused = Unit {0}
IsEndStatus _ = ⊥
