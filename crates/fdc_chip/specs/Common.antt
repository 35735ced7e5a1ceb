-- What the words of this crate cite of others.
pub use Rattle.std.specs.Int.RustNames.{bit_or}
pub use Rattle.std.specs.Option.{option_copied, option_map_or}
pub use Rattle.drive_model.specs.Drive.{DriveState, forgotten, place_under, rate_of, with_protection}
pub use Rattle.fdc_core.specs.Dma.{to_memory_of}
pub use Rattle.fdc_registers.specs.Dor.{gate}
pub use Rattle.fdc_registers.specs.St0.{abnormal, seek_end}
pub use Rattle.fdc_sequencer.specs.Adapters.{SameDrives, controller_of, drive_at, drive_held, lines_at, selected_at}
pub use Rattle.fdc_sequencer.specs.Fronts.{Front, GivesCommand, GivesFront, GivesTransfer, IsNewFront, KeepsFront, ReadsSector, TakesFront, WritesFront, adapter_of, asks_outside, drive_bit, front_state, front_with_drive, interrupts_outside, is_ready, is_through, results_outside, results_taken, sector_alone, told_front, value_outside}
pub use Rattle.fdc_sequencer.specs.Handling.{Exchanges, PutsIn, Sets, TakesOut}
pub use Rattle.fdc_sequencer.specs.Quiet.{ForeseesBehind, IsLongestBehind, IsQuietBehind, seeks_at}
pub use Rattle.fdc_sequencer.specs.Senses.{pending_outside, recalibrated_outside, sensed_outside}
pub use Rattle.fdc_sequencer.specs.Transfers.{size_of, transfer_with}
pub use Rattle.flop_base.specs.declared.key.Chrn.{Chrn}
