-- What the lemmas of this crate cite of others, and of its own words.
pub use Rattle.std.proofs.lemmas.Bool.{and_from, and_parts, and_right, eqb-true, false≢true, not-true, or_right, true≢false}
pub use Rattle.std.proofs.lemmas.Bool.Decides.{nat_tests}
pub use Rattle.std.specs.Option.{ForSome, option_map_or}
pub use Rattle.fdc_chip.specs.Chips.{ChipState, KeepsChip, KeepsRest, asks_chip, chip_state, interrupts_chip, passes, passes_at, passes_by_channel, passes_by_port, shows_behind, with_front}
pub use Rattle.fdc_chip.specs.Doing.{AttendsIf, AttendsTo, drained, drained_by, drained_one, is_moving, is_told, kept, moves_heads, moving, needs_heads}
pub use Rattle.fdc_chip.specs.Ending.{EndsAs, MayEnd, judged, results_judged}
pub use Rattle.fdc_chip.specs.Paces.{EndsAt, GoesOn, GoesOnIf, Paces, PulsesIf, is_due, is_over, pulses_left, pulses_to, stepped, steps_left, target_of}
pub use Rattle.fdc_chip.specs.Quiet.{IsQuietFor, IsSettled, IsStill, awaits_heads, awaits_results, due_steps, head_steps, is_busy, is_for_heads, is_settled, is_still_at, quiet_steps, rests_at, takes_none, tells_alone, waits_at}
pub use Rattle.fdc_chip.specs.Settings.{is_by_port, step_words}
pub use Rattle.fdc_chip.specs.Steps.{Follows, FollowsTask, HasLinesChip, RunsChipWith, StepsChip, Swallows, SwallowsAll, SwallowsAs, SwallowsBy}
pub use Rattle.fdc_chip.specs.declared.pace.PacedSeek.{PacedSeek}
pub use Rattle.fdc_chip.specs.declared.stage.ChipStage.{ChipStage}
pub use Rattle.fdc_chip.specs.declared.stage.ChipStage.TheVariants.{Busy, Held, Ready, Telling}
pub use Rattle.fdc_chip.specs.declared.stage.ChipTask.TheVariants.{Refused, Sent, Sought, Track, Verify}
pub use Rattle.fdc_commands.specs.Seeking.{ended, first_pending, has_ended, is_seeking, neighbour, pulse_due, pulse_of, pulses_ahead, pulses_from, pulses_within, recalibrated, seek_bits, sought, stepped_seek, with_motion, with_polls}
pub use Rattle.fdc_commands.specs.declared.motion.Motion.TheVariants.{Ended, Outward, Toward}
pub use Rattle.fdc_commands.specs.declared.motion.Seek.{Seek as DriveSeek}
pub use Rattle.fdc_core.specs.Courses.{Works, awaits_nothing, comes_poll}
pub use Rattle.fdc_core.specs.State.{is_gated, is_held}
pub use Rattle.fdc_core.specs.Whole.{is_idle, mark_of}
pub use Rattle.fdc_core.specs.declared.controller.Fdc.{Fdc}
pub use Rattle.fdc_phases.specs.declared.phases.Phase.{Phase}
pub use Rattle.fdc_phases.specs.declared.phases.Phase.TheVariants.{Command as Taking}
pub use Rattle.fdc_sequencer.specs.AdapterStill.{heads_at, steps_ahead}
pub use Rattle.fdc_sequencer.specs.Adapters.{AdapterState, StepsAdapter, lines_at, selected_at}
pub use Rattle.fdc_sequencer.specs.Fronts.{Commands, CommandsIf, Front, GivesCommand, KeepsFront, TakesAt, asks_at, asks_outside, interrupts_at, interrupts_outside, is_ready, is_ready_at, results_at, results_outside, status_at, with_controller}
pub use Rattle.fdc_sequencer.specs.Moves.{FollowsStep, HasLinesOutside, MovesAlong, RunsFront, StepsFront}
pub use Rattle.fdc_sequencer.specs.Senses.{pending_outside, recalibrated_at, recalibrated_outside, sensed_outside}
pub use Rattle.fdc_sequencer.specs.declared.stage.FrontStage.{FrontStage}
pub use Rattle.fdc_sequencer.specs.declared.stage.FrontStage.TheVariants.{Moving, Seeking, Through}
