-- What the words of this crate cite of others.
pub use Rattle.std.specs.Global.{Box, Vec}
pub use Rattle.std.specs.Option.{option_copied}
pub use Rattle.c_bay_drive.specs.Bays.{bay_state, drive_in_bay, drive_within, faults_in_bay, is_attached, new_in_bay, state_replanned, state_with_cable, tracks_in_bay, without_tracks}
pub use Rattle.c_bay_drive.specs.Saving.{BayFits, spelled_bay}
pub use Rattle.c_bay_drive.specs.WithMedium.{BayWithMedium}
pub use Rattle.c_slots.specs.Controllers.{ControllerValue}
pub use Rattle.c_slots.specs.Machines.{MachineValue}
pub use Rattle.c_slots.specs.Trays.{TrayValue}
pub use Rattle.drive_model.specs.Drive.{DriveState, forgotten, loaded, same_length, unloaded, with_protection}
pub use Rattle.drive_model.specs.Fault.{total_left}
pub use Rattle.drive_model.specs.ScriptDrive.{script_state, told}
pub use Rattle.fault_plan.specs.Plan.{Plan, lists_of, plan_spelled}
pub use Rattle.fdc_chip.specs.Chips.{ChipState, IsNewChip, KeepsChip, asks_chip, behind_of, chip_state, chip_with_drive, indexes_chip, interrupts_chip}
pub use Rattle.fdc_chip.specs.Ports.{GivesChip, ReadsChip, TakesChip, WritesChip, told_chip}
pub use Rattle.fdc_chip.specs.Saving.{ChipFits, spelled_chip}
pub use Rattle.fdc_core.specs.State.{data_rate, dor_of}
pub use Rattle.fdc_sequencer.specs.Adapters.{SameDrives, drive_at, drive_held, selected_at}
pub use Rattle.fdc_sequencer.specs.Fronts.{adapter_of}
pub use Rattle.flat_files.specs.Files.{GivesFlat, GivesForm}
pub use Rattle.flop_base.specs.Shelf.{file_at, no_files, stored}
pub use Rattle.flop_base.specs.declared.answers.Rate.{Rate}
pub use Rattle.flop_base.specs.declared.answers.Rate.TheVariants.{R250, R500}
pub use Rattle.imagedisk.specs.Made.{IsFirstCrowded, MakesDisk}
pub use Rattle.memory_files.specs.Shelves.{RanPlain, files_in, outside_in, report_in}
pub use Rattle.pc_bus.specs.Boards.{Board, IsNew, board, drive_in, latch_of, memory_of}
pub use Rattle.pc_bus.specs.Handling.{Touches, irq_taken}
pub use Rattle.pc_bus.specs.Steps.{Runs, RunsToIrq, stirred}
pub use Rattle.raw_image.specs.Disk.{Disk, HasTrack, IsWithTrack, blank_disk, tabbed, track_of}
pub use Rattle.raw_image.specs.declared.error.ImageError.{ImageError}
pub use Rattle.sector_model.specs.Orders.{is_size_code, is_size_code as is_size_code_of}
pub use Rattle.track_format.specs.Gaps.{narrow_gap}
pub use Rattle.track_model.specs.Fields.{IsSizeCode, content_size}
