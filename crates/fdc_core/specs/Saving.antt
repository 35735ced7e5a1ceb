-- The bytes of a controller that is saved.
use Rattle.std.specs.Prelude.{ℕ, List}
use Rattle.saved_state.specs.Saved.{spelled_byte, spelled_bytes, spelled_count, spelled_flag}
use Rattle.fdc_commands.specs.Saving.{IsPart}
use Rattle.fdc_registers.specs.Saving.{spelled_fifo, IsFifo}
use Rattle.fdc_commands.specs.Saving.{spelled_seeking}
use Rattle.fdc_commands.specs.Seeking.{InRange}
use Rattle.fdc_core.specs.declared.controller.Fdc.{Fdc}
use Rattle.fdc_phases.specs.Saving.{spelled_rate, spelled_phase}

-- what holds of the parts of each controller
pub record FdcFits (fdc : Fdc) : Type 0 where
  pub seeks : InRange fdc.seeks
  pub command : IsPart fdc.command
  pub fifo : IsFifo fdc.fifo

-- the lines that are kept
unfoldable pub spelled_flags : Fdc → List ℕ → List ℕ
spelled_flags fdc rest =
    spelled_flag fdc.non_dma (spelled_flag fdc.polling (spelled_flag fdc.poll_due
    (spelled_flag fdc.interrupt (spelled_flag fdc.asking rest))))

-- a controller, field by field
unfoldable pub spelled_fdc : Fdc → List ℕ → List ℕ
spelled_fdc fdc rest =
    spelled_byte fdc.dor.0 (spelled_rate fdc.rate (spelled_flags fdc (spelled_phase fdc.phase
    (spelled_seeking fdc.seeks (spelled_bytes fdc.command (spelled_fifo fdc.fifo (spelled_count fdc.data_commands rest)))))))
