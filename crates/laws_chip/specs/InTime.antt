-- A host that serves each request in time.
use Rattle.std.specs.Prelude.{◌≡◌, ◌≤◌, false, List, [], ◌∷◌}
use Rattle.laws_chip.specs.Common.{selected_at, asks_outside, ChipState}
use Rattle.laws_chip.specs.Calls as call
use Rattle.laws_chip.specs.Calls.{Call, Does, IsServing, WritesByte}

-- no byte is asked for, and DOR selects one of the two drives
pub record IsPrompt (chip : ChipState) : Type 0 where
  pub served : asks_outside chip.front ≡ false
  pub drive : selected_at chip.front.adapter ≤ 1

-- a device step is made only where no byte is asked for
abbrev pub PromptAt : Call → ChipState → Type 0
PromptAt call.Steps old = IsPrompt old
PromptAt _ old = Unit {0}

-- these calls: after each of them the command is under way, and each device step is made where no byte is asked for
abbrev pub AreInTime : List Call → ChipState → ChipState → Type 0
AreInTime [] old new = new ≡ old
AreInTime (made ∷ calls) old new =
    (between : ChipState) × Does made old between × WritesByte made × PromptAt made old × IsServing between × AreInTime calls between new
