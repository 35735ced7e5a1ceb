-- How code goes through a rescue, part by part.
use Rattle.std.specs.Prelude.{◌≡◌, ℕ, List, Vec, Option, Result, Ok, Err, IsErrOf}
use Rattle.disk_commands.specs.Common.{Global, sectors_at, Status, Blames, World, HasTries, Shape, Part, Hand, IsSameHand, Goes, Finishes, LogLine, AfterRead}
use Rattle.rescue.specs.declared.course.AfterRead.TheVariants as next
use Rattle.disk_commands.specs.declared.logs.NoLog.{NoLog}
use Rattle.disk_commands.specs.declared.logs.NoLog.TheVariants as missing
use Rattle.disk_commands.specs.Logs.{IsFound, answer_found}
use Rattle.disk_commands.specs.Rescue.{rescue_rest}

-- a part was gone through and found the lines of a log, or ended the script
abbrev pub LogGoes : Part (List LogLine) → World → Result (Vec LogLine Global) Status → World → Type 0
LogGoes part old (Ok log) new = Goes part old (Ok log.items) new
LogGoes part old (Err ended) new = Goes part old (Err ended) new

-- what comes next has a number of tries that a request may have
abbrev pub HasNextTries : AfterRead → Type 0
HasNextTries (next.Write asked) = HasTries asked
HasNextTries (next.Log line) = Unit {0}
HasNextTries (next.Stop code) = Unit {0}

-- A log was looked for under a name. The world stays as it was. A fault of the shelf was counted once if the answer
-- tells of one, and otherwise none was.
pub record Finds {R : Type 0} (hand : R → Hand) (name : List ℕ) (sectors : ℕ) (old : R) (result : Result (Option (Vec LogLine Global)) NoLog) (new : R) : Type 0 where
  pub found : IsFound (hand old).world.files name sectors (answer_found result)
  pub stays : (hand new).world ≡ (hand old).world
  pub shelf_faults : Blames (IsErrOf result missing.FileFault) (hand old).shelf_faults (hand new).shelf_faults
  pub no_fault : (hand new).sink_faults ≡ (hand old).sink_faults
  pub same : IsSameHand (hand old) (hand new)

-- what comes after the disk was put in has ended, by what was found under the name of its log
abbrev pub FinishesFound : List ℕ → List ℕ → Shape → World → World → Status → Type 0
FinishesFound to log shape old new ended =
    (found : Result (Option (List LogLine)) NoLog) × IsFound old.files log (sectors_at shape.rate) found
    × Finishes (rescue_rest to log shape found) old new ended
