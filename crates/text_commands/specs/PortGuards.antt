-- What port accesses can't do, whatever they are: limits on what they change of media, and on the count of device
-- steps.
use Rattle.std.specs.Prelude.{◌≡◌, ◌≤◌, ℕ, true, List, [], ◌∷◌}
use Rattle.flop_base.specs.Counts.{RoseBy}
use Rattle.text_commands.specs.Common.{Status, is_protected, Board, drive_in, PortLine}
use Rattle.text_commands.specs.Benches.{Bench, Names}
use Rattle.text_commands.specs.PortCourses.{Taken, waits_of}
use Rattle.text_commands.specs.PortFinishes.{EndInTime}
use Rattle.text_commands.specs.PortLines.{leaves_bay}
use Rattle.text_commands.specs.PortPlays.{World, Plays}

-- both media are as they were
pub record SameMedia (old new : Board) : Type 0 where
  pub first : new.first.medium ≡ old.first.medium
  pub second : new.second.medium ≡ old.second.medium

-- if the medium of a bay is protected, it is as it was
abbrev pub GuardsBay : ℕ → Board → Board → Type 0
GuardsBay bay old new = is_protected (drive_in old bay).medium ≡ true → (drive_in new bay).medium ≡ (drive_in old bay).medium

-- a line leaves protected media as they are, unless it takes them out
abbrev pub GuardsLine : PortLine → Bench → Bench → Type 0
GuardsLine asked old new =
    (bay : ℕ) → bay ≤ 1 → leaves_bay bay asked ≡ true → GuardsBay bay old.board new.board

-- each line of a course leaves protected media in this way
abbrev pub GuardsCourse : Bench → List Taken → Type 0
GuardsCourse old [] = Unit {0}
GuardsCourse old (taken ∷ later) = GuardsLine taken.asked old taken.after × GuardsCourse taken.after later

-- how a file of port accesses is run. At least as many device steps passed as its lines waited, protected media stayed
-- as they were, and each command finished in time
pub record RunsPorts (name : List ℕ) (old new : World) (ended : Status) : Type 0 where
  pub course : List Taken
  pub plays : Plays name old course new ended
  pub steps : RoseBy (waits_of course) old.bench.board.bus.steps new.bench.board.bus.steps
  pub media : GuardsCourse old.bench course
  pub ends : EndInTime old.bench course new.bench

-- a world whose media are in under these names
abbrev pub with_names : Names → World → World
with_names names world = record world { bench = record world.bench { names = names } }

-- a file of port accesses is run on a machine whose media have no names at first; at the end they have some names
abbrev pub RunsBare : List ℕ → World → World → Status → Type 0
RunsBare name old new ended = (names : Names) × RunsPorts name old (with_names names new) ended
