-- What the lemmas of this crate cite of others, and of its own words.
pub use Rattle.std.proofs.lemmas.Bool.{eqb-true, false≢true, true≢false}
pub use Rattle.drive_model.specs.Drive.{DriveState}
pub use Rattle.fdc_commands.specs.Seeking.{Seeking as SeekState, ended, has_ended_seek, neighbour, pulse_due, pulse_of, pulses_ahead, pulses_from, recalibrated, seek_bits, sensed, sought, stepped, stepped_seek, with_motion, with_polls, without_ended}
pub use Rattle.fdc_core.proofs.Foreseeing.{nothing_foreseen}
pub use Rattle.fdc_core.proofs.drives.PassedTimes.{dor_stays, rate_stays, rate_stays_on, times_none}
pub use Rattle.fdc_core.specs.Courses.{HoldsLines, IsStill, Works, WorksAlone}
pub use Rattle.fdc_core.specs.Drives.WordTimes.{PassesWordTime}
pub use Rattle.fdc_core.specs.Listening.{is_executing}
pub use Rattle.fdc_core.specs.State.{asks, data_rate, interrupts, is_held, reset}
pub use Rattle.fdc_core.specs.Steps.{EndsIn, Moves, MovesIn, RestsIn, Stays, polled, seek_stepped}
pub use Rattle.fdc_core.specs.Whole.{ending_told, given_up, given_up_if, looked_at, mark_of, results_of_phase, without_seek}
pub use Rattle.fdc_core.specs.declared.controller.Fdc.{Fdc}
pub use Rattle.fdc_phases.specs.Phases.{ending_of_phase}
pub use Rattle.fdc_phases.specs.declared.phases.Phase.{Phase}
pub use Rattle.fdc_phases.specs.declared.phases.Phase.TheVariants.{Execute, Result}
pub use Rattle.fdc_sequencer.specs.AdapterStill.{Stands, heads_at, steps_ahead}
pub use Rattle.fdc_sequencer.specs.Adapters.{AdapterState, HasLines, RunsTo, RunsWith, StepsAdapter, adapter_state, drive_at, selected_at}
pub use Rattle.fdc_sequencer.specs.Fronts.{Front, KeepsFront, asks_at, asks_outside, begun_if, front_state, interrupts_at, interrupts_outside, moving_of, results_at}
pub use Rattle.fdc_sequencer.specs.Moves.{FollowsStep, HasLinesOutside, IsUnderWay, MovesAlong, MovesOn, RunsFront, RunsFrontWith, SeeksOn, StepsFront, is_unwanted, judged_if, passed_over_if}
pub use Rattle.fdc_sequencer.specs.Quiet.{ForeseesAt, ForeseesBehind, GoesAlong, GoesAlongFor, IsInCommand, IsLongestAt, IsQuietAt, IsQuietBehind, drive_selected, executes_at, seeks_at}
pub use Rattle.fdc_sequencer.specs.WordTimes.{nanoseconds}
pub use Rattle.fdc_sequencer.specs.declared.stage.FrontStage.{FrontStage}
pub use Rattle.fdc_sequencer.specs.declared.stage.FrontStage.TheVariants.{Moving, Seeking, Through}
pub use Rattle.fdc_sequencer.specs.declared.transfer.Transfer.{Transfer}
