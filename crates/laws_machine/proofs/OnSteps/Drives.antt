-- The word time of a device step, at both drives. What holds of a drive over a word that passes after a pulse or
-- without one, over a word that is heard, and over a word time of a command that records.
use Rattle.std.proofs.Common.{ℕ, ◌/◌, ◌%◌, Bool, Option, None, subst}
use Rattle.laws_machine.proofs.Common.{Becomes, DriveState, Fifo, let_pass, is_listening, polled, Moves, MovesIn, MovesTask, WordTime, IsTime, WritesIn, WritesTask, Fdc, Phase, Execute, Task, ReadId, DataRate, Board, controller_of, Works, Step, ReadTask as Read}
use Rattle.laws_machine.proofs.Facts.{polled_phase}
use Rattle.laws_machine.proofs.OnSteps.Words.{drives}

module _ (D : DriveState → DriveState → Type 0) (moved : (pulse : Option Bool) (before after : DriveState) → Moves pulse before after → D before after)
    (heard : (before after : DriveState) → Becomes (let_pass before) before after → D before after)
    (timed : (time : WordTime) (rate : DataRate) (head : ℕ) (before after : DriveState) → IsTime time rate head before after → D before after) where
  by_task : (task : Task) (head_drive steps : ℕ) (asking : Bool) (fifo : Fifo) (polls : Fdc) (before after : DriveState) (new : Fdc)
      → MovesTask (is_listening task) before after
      → WritesTask task head_drive steps asking fifo polls before after new → D before after
  by_task (ReadId search) head_drive steps asking fifo polls before after new moves writes = heard before after moves
  by_task (Read reading) head_drive steps asking fifo polls before after new moves writes = heard before after moves
  by_task _ head_drive steps asking fifo polls before after new moves writes =
      timed writes.step.does.time polls.rate (head_drive / 4 % 2) before after writes.step.does.is

  by_phase : (phase : Phase) (asking : Bool) (fifo : Fifo) (polls : Fdc) (before after : DriveState) (new : Fdc) → MovesIn phase polls before after
      → WritesIn phase asking fifo polls before after new → D before after
  by_phase (Execute execution) asking fifo polls before after new moves writes =
      by_task execution.task execution.head_drive execution.steps asking fifo polls before after new moves writes
  by_phase _ asking fifo polls before after new moves writes = moved _ before after moves

  worked : (old : Fdc) (before : DriveState) (new : Fdc) (after : DriveState) → Works old before new after → D before after
  worked old before new after works =
      by_phase old.phase old.asking old.fifo (polled old) before after new
      (subst (λ phase. MovesIn phase (polled old) before after) (polled_phase old) works.drive) works.writes

  pub both : (old new : Board) → Step old new → D old.first new.first × D old.second new.second
  both old new step = drives D old new step (λ before after. worked (controller_of old) before step.between after) (moved None)
