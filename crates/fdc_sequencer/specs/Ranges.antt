-- The numbers of a command of several sectors.
use Rattle.std.specs.Prelude.{◌<◌}
use Rattle.fdc_sequencer.specs.declared.stage.FrontStage.{FrontStage}
use Rattle.fdc_sequencer.specs.declared.stage.FrontStage.TheVariants.{Seeking, Moving}
use Rattle.fdc_sequencer.specs.declared.transfer.Transfer.{Transfer}

-- the numbers of the command's record and of its last record are bytes
abbrev pub HasByteRecords : Transfer → Type 0
HasByteRecords at = (at.key.r < 256) × (at.last_sector < 256)

-- these numbers are bytes in a command that is under way
abbrev pub HasByteNumbers : FrontStage → Type 0
HasByteNumbers (Seeking transfer _) = HasByteRecords transfer
HasByteNumbers (Moving moving) = HasByteRecords moving.transfer
HasByteNumbers _ = Unit {0}
