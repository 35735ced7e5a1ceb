-- The bytes in which a chip is saved.
use Rattle.std.specs.Prelude.{ℕ, List, ◌∷◌}
use Rattle.saved_state.specs.Saved.{spelled_byte, spelled_double, spelled_each, spelled_flag, spelled_key, spelled_option, spelled_word}
use Rattle.fdc_commands.specs.Saving.{spelled_results}
use Rattle.fdc_sequencer.specs.Saving.{spelled_sequencer, SequencerFits}
use Rattle.fdc_chip.specs.declared.answer.ChipAnswer.{ChipAnswer}
use Rattle.fdc_chip.specs.declared.answer.ChipAnswer.TheVariants as answer
use Rattle.fdc_chip.specs.declared.answer.Registers.{Registers}
use Rattle.fdc_chip.specs.declared.chip.Chip.{Chip}
use Rattle.fdc_chip.specs.Interrupts.{Interrupting, AreFour}
use Rattle.fdc_chip.specs.declared.order.Order.{Order}
use Rattle.fdc_chip.specs.declared.pace.PacedSeek.{PacedSeek}
use Rattle.fdc_chip.specs.declared.settings.Settings.{Settings}
use Rattle.fdc_chip.specs.declared.stage.Place.{Place}
use Rattle.fdc_chip.specs.declared.stage.Place.TheVariants as place
use Rattle.fdc_chip.specs.declared.stage.ChipStage.{ChipStage}
use Rattle.fdc_chip.specs.declared.stage.ChipStage.TheVariants as stage
use Rattle.fdc_chip.specs.declared.stage.ChipTask.{ChipTask}
use Rattle.fdc_chip.specs.declared.stage.ChipTask.TheVariants as task
use Rattle.fdc_chip.specs.declared.stage.Track.{Track}

-- the bytes of a command
unfoldable pub spelled_order : Order → List ℕ → List ℕ
spelled_order order rest =
    spelled_byte order.code (spelled_byte order.unit (spelled_key order.key (spelled_byte order.last_sector (spelled_byte order.gap (spelled_byte order.length rest)))))

-- results, cylinders and the interrupt line
unfoldable pub spelled_interrupts : Interrupting → List ℕ → List ℕ
spelled_interrupts interrupts rest =
    spelled_each (spelled_option spelled_byte) interrupts.pending (spelled_each spelled_byte interrupts.cylinders (spelled_flag interrupts.line rest))

-- what commands set
unfoldable pub spelled_settings : Settings → List ℕ → List ℕ
spelled_settings settings rest =
    spelled_byte settings.step_rate (spelled_byte settings.head_load (spelled_byte settings.last_sector (spelled_flag settings.locked
    (spelled_byte settings.perpendicular (spelled_byte settings.options (spelled_byte settings.precompensation (spelled_flag settings.forgotten rest)))))))

-- what DUMPREG gives
unfoldable pub spelled_registers : Registers → List ℕ → List ℕ
spelled_registers registers rest =
    spelled_byte registers.first (spelled_byte registers.second (spelled_byte registers.third (spelled_byte registers.fourth
    (spelled_settings registers.settings rest))))

-- what the host reads
unfoldable pub spelled_answer : ChipAnswer → List ℕ → List ℕ
spelled_answer (answer.Byte byte) rest = 0 ∷ spelled_byte byte rest
spelled_answer (answer.Sensed status cylinder) rest = 1 ∷ spelled_byte status (spelled_byte cylinder rest)
spelled_answer (answer.Results results) rest = 2 ∷ spelled_results results rest
spelled_answer (answer.Registers registers) rest = 3 ∷ spelled_registers registers rest

-- a READ TRACK
unfoldable pub spelled_place : Place → List ℕ → List ℕ
spelled_place place.Index rest = 0 ∷ rest
spelled_place place.Address rest = 1 ∷ rest
spelled_place place.Data rest = 2 ∷ rest

unfoldable pub spelled_track : Track → List ℕ → List ℕ
spelled_track track rest =
    spelled_byte track.unit (spelled_key track.key (spelled_word track.left (spelled_place track.place (spelled_flag track.counted
    (spelled_flag track.met (spelled_flag track.seeks (spelled_byte track.st1.0 (spelled_byte track.st2.0 rest))))))))

-- what the inner controller executes
unfoldable pub spelled_task : ChipTask → List ℕ → List ℕ
spelled_task task.Sent rest = 0 ∷ rest
spelled_task (task.Sought results) rest = 1 ∷ spelled_results results rest
spelled_task (task.Refused unit key mfm) rest = 2 ∷ spelled_byte unit (spelled_key key (spelled_flag mfm rest))
spelled_task (task.Verify left) rest = 3 ∷ spelled_double left rest
spelled_task (task.Track track) rest = 4 ∷ spelled_track track rest

-- a seek whose pulses come in the time that SPECIFY sets
unfoldable pub spelled_pace : PacedSeek → List ℕ → List ℕ
spelled_pace pace rest =
    spelled_byte pace.unit (spelled_byte pace.cylinder (spelled_option spelled_byte pace.goal (spelled_byte pace.left (spelled_word pace.wait rest))))

-- what is under way
unfoldable pub spelled_stage : ChipStage → List ℕ → List ℕ
spelled_stage stage.Ready rest = 0 ∷ rest
spelled_stage stage.Held rest = 1 ∷ rest
spelled_stage (stage.Busy task) rest = 2 ∷ spelled_task task rest
spelled_stage (stage.Telling answer read) rest = 3 ∷ spelled_answer answer (spelled_byte read rest)

-- the inner controller fits, and there are four drives
abbrev pub ChipFits : {D : Type 0} → (D → Type 0) → Chip D → Type 0
ChipFits fits chip = SequencerFits fits chip.behind × AreFour chip.interrupts

-- the letter H, then the inner controller, and then what the chip keeps
unfoldable pub spelled_chip : {D : Type 0} → (D → List ℕ → List ℕ) → Chip D → List ℕ → List ℕ
spelled_chip spelled chip rest =
    72 ∷ spelled_sequencer spelled chip.behind (spelled_stage chip.stage (spelled_order chip.order (spelled_byte chip.count
    (spelled_interrupts chip.interrupts (spelled_settings chip.settings (spelled_flag chip.strapped (spelled_word chip.keys
    (spelled_flag chip.gated (spelled_option spelled_pace chip.pace (spelled_flag chip.paced
    (spelled_byte chip.tape rest)))))))))))
