-- Device steps of the commands that write: their word time, and what is then known of them.
use Rattle.std.specs.Prelude.{ℕ, Bool}
use Rattle.fdc_core.specs.Common.{DriveState, Fifo, Past, Numbers, Sent, MayWriteIn, MayWriteTask, MayFormatIn, MayFormatTask, Phase, Execute, Task, ReadId, Read, Write, Format, Formatting, Writing}
use Rattle.fdc_core.specs.Formatting.{IsFormatStep}
use Rattle.fdc_core.specs.Times.{after_time}
use Rattle.fdc_core.specs.Writing.{IsWriteStep}
use Rattle.fdc_core.specs.Written.{MayWrite, MayFormat}
use Rattle.fdc_core.specs.declared.controller.Fdc.{Fdc}

-- a device step of a write, once the poll is done, and what is then known of it
pub record StepWrites (head_drive steps : ℕ) (writing : Writing) (asking : Bool) (fifo : Fifo) (polls : Fdc) (before after : DriveState) (new : Fdc) : Type 0 where
  pub step : IsWriteStep head_drive steps writing polls before after new
  pub writes : (past : Past) (sent : Sent) (deleted : Bool) → MayWriteTask past sent deleted head_drive steps (Write writing) asking fifo → MayWrite (after_time step.does.time past) sent deleted new

-- a device step of a FORMAT, once the poll is done, and what is then known of it
pub record StepFormats (head_drive steps : ℕ) (formatting : Formatting) (asking : Bool) (fifo : Fifo) (polls : Fdc) (before after : DriveState) (new : Fdc) : Type 0 where
  pub step : IsFormatStep head_drive steps formatting polls before after new
  pub formats : (past : Past) (sent : ℕ) (numbers : Numbers) → MayFormatTask past sent numbers head_drive steps (Format formatting) asking fifo → MayFormat (after_time step.does.time past) sent numbers new

abbrev pub WritesTask : Task → ℕ → ℕ → Bool → Fifo → Fdc → DriveState → DriveState → Fdc → Type 0
WritesTask (ReadId _) head_drive steps asking fifo polls before after new = Unit {0}
WritesTask (Read _) head_drive steps asking fifo polls before after new = Unit {0}
WritesTask (Write writing) head_drive steps asking fifo polls before after new =
    StepWrites head_drive steps writing asking fifo polls before after new
WritesTask (Format formatting) head_drive steps asking fifo polls before after new =
    StepFormats head_drive steps formatting asking fifo polls before after new

-- outside execution nothing is changed of what is known
pub record RestsWritten (phase : Phase) (asking : Bool) (fifo : Fifo) (new : Fdc) : Type 0 where
  pub writes : (past : Past) (sent : Sent) (deleted : Bool) → MayWriteIn past sent deleted phase asking fifo → MayWrite past sent deleted new
  pub formats : (past : Past) (sent : ℕ) (numbers : Numbers) → MayFormatIn past sent numbers phase asking fifo → MayFormat past sent numbers new

abbrev pub WritesIn : Phase → Bool → Fifo → Fdc → DriveState → DriveState → Fdc → Type 0
WritesIn (Execute execution) asking fifo polls before after new =
    WritesTask execution.task execution.head_drive execution.steps asking fifo polls before after new
WritesIn phase asking fifo polls before after new = RestsWritten phase asking fifo new

abbrev pub WritesOn : Fdc → Fdc → DriveState → DriveState → Fdc → Type 0
WritesOn polls old before after new = WritesIn old.phase old.asking old.fifo polls before after new
