-- What is known after a word time, and in the transfers that follow it.
use Rattle.std.proofs.Common.{◌≡◌, ◌≤◌, Bool, true, length, ◌∙◌, subst, ℕ, false, List}
use Rattle.laws_machine.proofs.Common.{DriveState, Becomes, at_index, Past, heard, is_executing, SeesUnder, stepped, let_pass, WordTime, after_time, WritesIn, Fdc, Execution, Execute, Fifo, Works, Chips, led, Scene, IsScene, head_sent, IsAtDrive, refuses, Laid, Window, Track, Order, MayLayIn, MayLay, LaysOn, AtDrive, IsDoneBy}

-- what is known of the chips, with a property of the past and of whether the command is in execution, as the drive has
-- it
pub record IsDoing (order : Order) (scene : Scene) (P : Past → Bool → Type 0) (chips : Chips) : Type 0 where
  pub past : Past
  pub known : IsDoneBy order scene past chips
  pub at : P past (is_executing chips.controller.phase)

-- what is known of the chips and of the drive that is selected
abbrev pub IsBehind : Order → Scene → Chips → DriveState → Type 0
IsBehind order scene chips drive = IsDoing order scene (λ past executes. AtDrive order scene past executes drive) chips

-- bytes that were moved play no part in the property
pub record IsOfWords (P : Past → Bool → Type 0) : Type 0 where
  pub bytes : (past : Past) (given taken : List ℕ) (counted executes : Bool) → P past executes → P (record past { given = given; taken = taken; counted = counted }) executes

-- what a word that a command hears leaves of a property of the past and the drive, and what a word time leaves of the
-- property once the command is over
pub record Listening (scene : Scene) (P : Past → Bool → DriveState → Type 0) : Type 0 where
  pub hears : (past : Past) (drive after : DriveState) (word : ℕ) (executes : Bool) → P past true drive → SeesUnder scene.rate (head_sent scene.sent) drive word after
      → Becomes (let_pass drive) drive after → P (heard (at_index drive) word (stepped past)) executes after
  pub rests : (past : Past) (drive after : DriveState) → P past false drive → drive.faults ≤ after.faults → P past false after

-- a command that writes made this word time
pub record IsTimed (laid : Laid) (scene : Scene) (P : Past → Bool → Type 0) (past : Past) (between : Fdc) : Type 0 where
  pub time : WordTime
  pub may : MayLay laid scene (after_time time past) between
  pub covered : refuses between.phase ≡ true → scene.disk.protected ≡ true
  pub at : P (after_time time past) (is_executing between.phase)

-- a command that writes made this word time after `lead` words 0000, and this is known of the drive after it
pub record IsTimedLed (laid : Laid) (scene : Scene) (lead : ℕ) (late : Past) (between : Fdc) (after : DriveState) : Type 0 where
  pub time : WordTime
  pub may : MayLay laid scene (after_time time (led lead late)) between
  pub covered : refuses between.phase ≡ true → scene.disk.protected ≡ true
  pub at : LaysOn laid scene (after_time time late) (is_executing between.phase) after

-- what a word time of a command that writes leaves of a property of the past and the drive
pub record Laying (laid : Laid) (scene : Scene) (P : Past → Bool → DriveState → Type 0) : Type 0 where
  pub works : (past : Past) (drive after : DriveState) (polls between : Fdc) (asking : Bool) (fifo : Fifo) → polls.rate ≡ scene.rate → P past true drive → (execution : Execution)
      → MayLayIn laid scene past (Execute execution) asking fifo → WritesIn (Execute execution) asking fifo polls drive after between → IsTimed laid scene (λ now executes. P now executes after) past between
  pub rests : (past : Past) (drive after : DriveState) → P past false drive → after.medium ≡ drive.medium → drive.faults ≤ after.faults → P past false after

-- what is known of the drive goes on: through word times, bytes that were moved, and the command's end
pub record KeepsOn (order : Order) (scene : Scene) (On : Past → Bool → DriveState → Type 0) : Type 0 where
  pub word_time : (past : Past) (chips : Chips) (drive : DriveState) (between : Fdc) (after : DriveState) → IsScene scene → IsDoneBy order scene past chips
      → On past (is_executing chips.controller.phase) drive → Works chips.controller drive between after → IsDoing order scene (λ now executes. On now executes after) (record chips { controller = between })
  pub bytes : (drive : DriveState) → IsOfWords (λ past executes. On past executes drive)
  pub less : (past : Past) (before now : Bool) (drive : DriveState) → (now ≡ true → before ≡ true) → On past before drive → On past now drive

-- what the drive record of a FORMAT keeps, that of a window keeps too, if no word was written
pub laid_on : (laid : Laid) (scene : Scene) (past now : Past) (executes later : Bool) (before after : DriveState) → (IsAtDrive scene past executes before → IsAtDrive scene now later after)
    → now.words ≡ past.words → now.barred ≡ past.barred → LaysOn laid scene past executes before → LaysOn laid scene now later after
laid_on (Window deleted) scene past now executes later before after on words barred was =
    record { at = on was.at; there = λ some. was.there (subst (λ w. 1 ≤ length w) words some); unbarred = barred ∙ was.unbarred }
laid_on (Track numbers) scene past now executes later before after on words barred was = on was
