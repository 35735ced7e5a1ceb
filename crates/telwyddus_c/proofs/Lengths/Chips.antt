-- How many bytes the whole controller has in a state, except for its drives.
use Rattle.std.proofs.Common.{◌+◌, ◌≤◌, ℕ, List, length, arith}
use Rattle.fdc_sequencer.specs.AdapterSaving.{AdapterFits, spelled_adapter}
use Rattle.telwyddus_c.proofs.Common.{DisketteAdapter, Chip, spelled_byte, spelled_each, spelled_flag, spelled_option, spelled_word}
use Rattle.fdc_chip.specs.Interrupts.{AreFour, Interrupting}
use Rattle.fdc_chip.specs.Saving as chips
use Rattle.fdc_chip.specs.Saving.{ChipFits, spelled_answer, spelled_chip, spelled_interrupts, spelled_order, spelled_pace, spelled_place, spelled_registers, spelled_settings, spelled_task, spelled_track}
use Rattle.fdc_chip.specs.declared.answer.ChipAnswer.TheVariants as answers
use Rattle.fdc_chip.specs.declared.stage.Place.TheVariants as places
use Rattle.fdc_chip.specs.declared.stage.ChipStage.TheVariants as stages
use Rattle.fdc_chip.specs.declared.stage.ChipTask.TheVariants as tasks
use Rattle.fdc_sequencer.specs.Saving.{SequencerFits, spelled_moving, spelled_opcode, spelled_operation, spelled_sequencer, spelled_stage, spelled_transfer}
use Rattle.fdc_sequencer.specs.declared.opcode.Operation.TheVariants.{Read, Write}
use Rattle.fdc_sequencer.specs.declared.sequencer.Sequencer.{Sequencer}
use Rattle.fdc_sequencer.specs.declared.stage.FrontStage.TheVariants.{Through, Seeking, Moving, Telling}
use Rattle.telwyddus_c.proofs.Lengths.Bytes.{HasMost, length-byte, length-double, length-each, length-flag, length-key, length-word, most-byte, most-each, most-option}
use Rattle.telwyddus_c.proofs.Lengths.Fdcs.{most-fdc, most-results}

-- a drive has at most so many bytes
abbrev IsWithin : {D : Type 0} → (D → List ℕ → List ℕ) → D → ℕ → Type 0
IsWithin spelled drive most = (rest : List ℕ) → length (spelled drive rest) ≤ most + length rest

most-adapter : {D : Type 0} (spelled : D → List ℕ → List ℕ) (fits : D → Type 0) (adapter : DisketteAdapter D) (first second : ℕ) (rest : List ℕ)
    → AdapterFits fits adapter → IsWithin spelled adapter.first first → IsWithin spelled adapter.second second
    → length (spelled_adapter spelled adapter rest) ≤ 115 + first + second + length rest
unfolding spelled_adapter
most-adapter spelled fits adapter first second rest is one two =
    let behind = spelled adapter.second rest in
    omega (arith, most-fdc adapter.controller (spelled adapter.first behind) is.0, one behind, two rest)

-- ---- the sequencer

most-operation : HasMost spelled_operation 3
unfolding spelled_operation
most-operation (Read deleted skip) rest = omega (arith, length-flag)
most-operation (Write deleted) rest = omega (arith, length-flag)

most-opcode : HasMost spelled_opcode 4
unfolding spelled_opcode
most-opcode opcode rest = omega (arith, most-operation, length-flag)

most-transfer : HasMost spelled_transfer 13
unfolding spelled_transfer
most-transfer transfer rest = omega (arith, most-opcode, length-byte, length-key, length-flag)

most-moving : HasMost spelled_moving 18
unfolding spelled_moving
most-moving moving rest = omega (arith, most-transfer, length-word, length-flag)

most-front_stage : HasMost spelled_stage 19
unfolding spelled_stage
most-front_stage Through rest = omega arith
most-front_stage (Seeking transfer counted) rest = omega (arith, most-transfer, length-flag)
most-front_stage (Moving moving) rest = omega (arith, most-moving)
most-front_stage (Telling results) rest = omega (arith, most-results)

most-sequencer : {D : Type 0} (spelled : D → List ℕ → List ℕ) (fits : D → Type 0) (sequencer : Sequencer D) (first second : ℕ) (rest : List ℕ)
    → SequencerFits fits sequencer → IsWithin spelled sequencer.adapter.first first → IsWithin spelled sequencer.adapter.second second
    → length (spelled_sequencer spelled sequencer rest) ≤ 135 + first + second + length rest
unfolding spelled_sequencer
most-sequencer spelled fits sequencer first second rest is one two =
    omega (
      arith,
      most-adapter spelled fits sequencer.adapter first second (spelled_stage sequencer.stage rest) is one two,
      most-front_stage sequencer.stage rest,
    )

-- ---- the chip

most-order : HasMost spelled_order 9
unfolding spelled_order
most-order order rest = omega (arith, length-byte, length-key)

most-interrupts : (interrupts : Interrupting) (rest : List ℕ) → AreFour interrupts → length (spelled_interrupts interrupts rest) ≤ 13 + length rest
unfolding spelled_interrupts
most-interrupts interrupts rest four =
    let line = spelled_flag interrupts.line rest in
    omega (
      arith,
      most-each interrupts.pending (spelled_each spelled_byte interrupts.cylinders line),
      length-each interrupts.cylinders line,
      length-flag,
      four.pending,
      four.cylinders,
    )

most-settings : HasMost spelled_settings 8
unfolding spelled_settings
most-settings settings rest = omega (arith, length-byte, length-flag)

most-registers : HasMost spelled_registers 12
unfolding spelled_registers
most-registers registers rest = omega (arith, length-byte, most-settings)

most-answer : HasMost spelled_answer 13
unfolding spelled_answer
most-answer (answers.Results results) rest = omega (arith, most-results)
most-answer (answers.Registers registers) rest = omega (arith, most-registers)
most-answer _ rest = omega (arith, length-byte)

most-place : HasMost spelled_place 1
unfolding spelled_place
most-place places.Index rest = omega arith
most-place places.Address rest = omega arith
most-place places.Data rest = omega arith

most-track : HasMost spelled_track 13
unfolding spelled_track
most-track track rest = omega (arith, length-byte, length-key, length-word, most-place, length-flag)

most-task : HasMost spelled_task 14
unfolding spelled_task
most-task tasks.Sent rest = omega arith
most-task (tasks.Sought results) rest = omega (arith, most-results)
most-task (tasks.Refused unit key mfm) rest = omega (arith, length-byte, length-key, length-flag)
most-task (tasks.Verify left) rest = omega (arith, length-double)
most-task (tasks.Track track) rest = omega (arith, most-track)

most-pace : HasMost spelled_pace 7
unfolding spelled_pace
most-pace pace rest =
    omega (arith, length-byte, length-word, most-option spelled_byte 1 most-byte pace.goal (spelled_byte pace.left (spelled_word pace.wait rest)))

most-stage : HasMost chips.spelled_stage 15
unfolding chips.spelled_stage
most-stage (stages.Busy task) rest = omega (arith, most-task)
most-stage (stages.Telling answer read) rest = omega (arith, most-answer, length-byte)
most-stage _ rest = omega arith

pub most-chip : {D : Type 0} (spelled : D → List ℕ → List ℕ) (fits : D → Type 0) (chip : Chip D) (first second : ℕ) (rest : List ℕ)
    → ChipFits fits chip → ((left : List ℕ) → length (spelled chip.behind.adapter.first left) ≤ first + length left)
    → ((left : List ℕ) → length (spelled chip.behind.adapter.second left) ≤ second + length left)
    → length (spelled_chip spelled chip rest) ≤ 196 + first + second + length rest
unfolding spelled_chip
most-chip spelled fits chip first second rest is one two =
    let paced = spelled_flag chip.paced (spelled_byte chip.tape rest) in
    let pace = spelled_option spelled_pace chip.pace paced in
    let keys = spelled_word chip.keys (spelled_flag chip.gated pace) in
    let settings = spelled_settings chip.settings (spelled_flag chip.strapped keys) in
    let interrupts = spelled_interrupts chip.interrupts settings in
    let order = spelled_order chip.order (spelled_byte chip.count interrupts) in
    omega (
      arith,
      most-sequencer spelled fits chip.behind first second (chips.spelled_stage chip.stage order) is.0 one two,
      most-stage,
      most-order,
      length-byte,
      most-interrupts chip.interrupts settings is.1,
      most-settings,
      length-flag,
      length-word,
      most-option spelled_pace 7 most-pace chip.pace paced,
    )
