-- What the lemmas of this crate cite of others, and of its own words.
pub use Rattle.std.proofs.lemmas.Bool.{and_from, cases_eq, cases_lt, cond-false, cond_above, cond_below, eq-eqb, eqb-true}
pub use Rattle.std.proofs.lemmas.Grind.{get_or-set_at}
pub use Rattle.std.proofs.lemmas.List.{append-nil, drop_all, get_or-set_other, length-set, length-take}
pub use Rattle.std.specs.Option.{ForSome, is_some}
pub use Rattle.telwyddus_c.specs.Bare.{BareBytes, HasMedia, HasMedium, IsBared, IsRefilled, RestoresBare, alike, media_alike, medium_in, same_rate, spelled_bare, stand_in_for, with_writes_at, with_writes_of}
pub use Rattle.telwyddus_c.specs.Blocks.{GivesBlock, GivesFirst, TakesBlock, TakesSome}
pub use Rattle.telwyddus_c.specs.Controllers.{IsPlain, KeepsDrives, state_of}
pub use Rattle.telwyddus_c.specs.Drives.{IsPlanned, Replans, held, replanned}
pub use Rattle.telwyddus_c.specs.Machines.{CountsBytes, IsStored, board_of, in_user_memory}
pub use Rattle.telwyddus_c.specs.States.{ControllerFits, HasBytes, WritesState, behind, spelled_controller}
pub use Rattle.c_bay_drive.specs.Bays.{bay_state, drive_in_bay, drive_within, faults_by, faults_in_bay, is_attached, left_by, new_in_bay, state_replanned, state_with_cable, tracks_in_bay, without_tracks}
pub use Rattle.c_bay_drive.specs.declared.bay.BayDrive.{BayDrive}
pub use Rattle.c_bay_drive.specs.declared.cable.Pulled.{Pulled}
pub use Rattle.c_slots.specs.Controllers.{ControllerValue}
pub use Rattle.drive_model.specs.Drive.{DriveState, same_length, with_motor}
pub use Rattle.drive_model.specs.Fault.{total_left}
pub use Rattle.drive_model.specs.ScriptDrive.{script_of, told}
pub use Rattle.drive_model.specs.declared.fault.Fault.{Fault}
pub use Rattle.fault_plan.specs.Plan.{Plan, lists_of}
pub use Rattle.fdc_chip.specs.Chips.{ChipState, KeepsChip, chip_with_drive, with_front}
pub use Rattle.fdc_chip.specs.declared.chip.Chip.{Chip}
pub use Rattle.fdc_sequencer.specs.declared.adapter.DisketteAdapter.{DisketteAdapter}
pub use Rattle.pc_bus.specs.Boards.{Board, memory_of}
pub use Rattle.raw_image.specs.Disk.{Disk, IsDisk, IsWithTrack, track_of}
pub use Rattle.saved_state.specs.Saved.{spelled_byte, spelled_bytes, spelled_count, spelled_each, spelled_flag, spelled_option, spelled_word}
