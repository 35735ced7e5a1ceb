-- What the words of this crate cite of others.
pub use Rattle.drive_model.specs.Drive.{DriveState, InRange, at_speed}
pub use Rattle.fdc_commands.specs.Writes.{write_code}
pub use Rattle.fdc_core.specs.State.{data_commands_of, dor_of, is_held}
pub use Rattle.flop_base.specs.Bays.{Two, both, in_bay, with_bay}
pub use Rattle.flop_base.specs.Counters.{CostsUpTo, Counters, DriveCounts, DriveGoesOn, DriveTells, GoesOn, IsPastDriver}
pub use Rattle.flop_base.specs.Memory.{user_bytes}
pub use Rattle.flop_base.specs.Standard.{read_gap_at, sectors_at, standard_code}
pub use Rattle.flop_base.specs.declared.answers.Code.{Code}
pub use Rattle.flop_base.specs.declared.answers.Rate.{Rate}
pub use Rattle.flop_base.specs.declared.answers.Rate.TheVariants.{R250, R500}
pub use Rattle.flop_base.specs.declared.key.Chrn.{Chrn}
pub use Rattle.floppy_driver.specs.Attached.{CanSetUp, IsAttached}
pub use Rattle.floppy_driver.specs.Rigs.{IsSound, Rig}
pub use Rattle.floppy_driver.specs.Shown.{notes_of, shown, with_waiting}
pub use Rattle.irq_events.specs.Holds.{AreShort}
pub use Rattle.laws_machine.specs.OnSteps.Lasts.{Lasts, clock_of}
pub use Rattle.pc_bus.specs.Boards.{AreSetIfEmpty, Board, IsEmpty, IsNew, board, channel_of, controller_of, drive_in, holds_of, latch_of, memory_of}
pub use Rattle.pc_bus.specs.Counts.{counts_of}
pub use Rattle.pc_bus.specs.Ports.{Inputs, Outputs}
pub use Rattle.pc_bus.specs.Steps.{Runs, Waits, stirred}
pub use Rattle.sector_model.specs.Stations.{Bay, IsFresh, StationState}
pub use Rattle.track_model.specs.Fields.{IsSizeCode, content_size}
