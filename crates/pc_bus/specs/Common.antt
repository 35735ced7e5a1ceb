-- What the words of this crate cite of others.
pub use Rattle.dma_8237.specs.Channel.{Channel, after_read, after_transfer, after_write, grants, place_of, power_up, reads_memory, value_read, writes_memory}
pub use Rattle.drive_model.specs.Drive.{DriveState, InRange, loaded, rate_of, unloaded, with_motor}
pub use Rattle.fdc_core.specs.Dma.{byte_out, taken_in, taken_out, to_memory_of, told_count}
pub use Rattle.fdc_core.specs.Drives.Following.{FollowsMotor, FollowsWrite}
pub use Rattle.fdc_core.specs.State.{asks, at_power_up, data_commands_of, interrupts}
pub use Rattle.fdc_core.specs.declared.controller.Fdc.{Fdc}
pub use Rattle.fdc_core.specs.declared.controller.Lines.{Lines}
pub use Rattle.flop_base.specs.Counts.{last_count}
pub use Rattle.flop_base.specs.Memory.{user_bytes, zeroes}
pub use Rattle.irq_events.specs.Entries.{AreQuiet, is_stray_due, next_entry, rest_of, strays_after, strays_later}
pub use Rattle.irq_events.specs.Holds.{AreShort, Holds, counted, is_due, looked, shown}
pub use Rattle.irq_events.specs.Latch.{Latch}
pub use Rattle.irq_events.specs.declared.holding.DmaRequest.TheVariants.{Low}
