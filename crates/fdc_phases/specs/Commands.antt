-- The data commands as they begin.
use Rattle.std.specs.Prelude.{◌≡◌, ℕ, Bool, true, false, []}
use Rattle.fdc_phases.specs.Common.{Fifo, new_past, Numbers}
use Rattle.fdc_phases.specs.Heard.{Sent, MayReadTask, MayReadIdTask}
use Rattle.fdc_phases.specs.declared.phases.Task.{Task}
use Rattle.fdc_phases.specs.Dma.{task_asks}
use Rattle.fdc_phases.specs.Waiting.{TaskWaits}
use Rattle.fdc_phases.specs.Written.{MayWriteTask, MayFormatTask}

-- the task is a READ ID that has heard nothing
abbrev pub IsReadingId : ℕ → Task → Type 0
IsReadingId head_drive task = MayReadIdTask new_past head_drive head_drive 0 task

-- the task is a READ DATA of what was sent; it has heard and given nothing
abbrev pub IsReadingData : Sent → Task → Type 0
IsReadingData sent task = MayReadTask new_past sent sent.head_drive 0 task false []

-- the task can wait nine device steps for DMA, where the FIFO is on and empty
abbrev pub WaitsAtFirst : Task → Type 0
WaitsAtFirst task = (fifo : Fifo) → fifo.bytes ≡ [] → fifo.on ≡ true → TaskWaits 9 task fifo

-- the task is a WRITE DATA or WRITE DELETED of what was sent; it has heard, taken and written nothing
abbrev pub IsWritingData : Sent → Bool → Task → Type 0
IsWritingData sent deleted task = (fifo : Fifo) (asking : Bool) → fifo.bytes ≡ [] → MayWriteTask new_past sent deleted sent.head_drive 0 task (task_asks task asking fifo) fifo

-- the task is a FORMAT TRACK with these numbers; it has heard, taken and written nothing
abbrev pub IsFormattingTrack : ℕ → Numbers → Task → Type 0
IsFormattingTrack head_drive numbers task = (fifo : Fifo) (asking : Bool) → fifo.bytes ≡ [] → MayFormatTask new_past head_drive numbers head_drive 0 task (task_asks task asking fifo) fifo
