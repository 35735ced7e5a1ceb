-- How many bytes the controller of one sector a command has in a state.
use Rattle.std.proofs.Common.{◌+◌, ◌≤◌, ℕ, Bool, true, false, List, length, arith}
use Rattle.fdc_commands.specs.Saving.{spelled_results}
use Rattle.fdc_core.specs.Saving.{FdcFits, spelled_fdc, spelled_flags}
use Rattle.fdc_core.specs.declared.controller.Fdc.{Fdc}
use Rattle.fdc_registers.specs.Fifo.{Fifo, room_of}
use Rattle.fdc_registers.specs.Saving.{IsFifo, spelled_fifo}
use Rattle.fdc_phases.specs.Saving.{spelled_answer, spelled_execution, spelled_formatting, spelled_phase, spelled_rate, spelled_reading, spelled_sized_key, spelled_task, spelled_writing}
use Rattle.fdc_phases.specs.declared.answers.Answer.TheVariants as answers
use Rattle.fdc_phases.specs.declared.phases.Phase.TheVariants as phases
use Rattle.fdc_phases.specs.declared.phases.Task.TheVariants as tasks
use Rattle.fdc_phases.specs.declared.rates.DataRate.TheVariants as rates
use Rattle.fdc_commands.specs.Saving.{spelled_motion, spelled_seek, spelled_seeking}
use Rattle.fdc_commands.specs.Seeking.{InRange, Seeking}
use Rattle.fdc_commands.specs.declared.motion.Motion.TheVariants as motions
use Rattle.telwyddus_c.proofs.Common.{spelled_byte, spelled_bytes, spelled_count, spelled_each, spelled_option}
use Rattle.telwyddus_c.proofs.Lengths.Bytes.{HasMost, length-byte, length-bytes, length-count, length-each, length-flag, length-key, length-word, most-byte, most-each, most-option}
use Rattle.telwyddus_c.proofs.Lengths.Stages.{most-ending, most-format, most-read, most-search, most-write}

pub most-results : HasMost spelled_results 7
unfolding spelled_results
most-results results rest = omega (arith, length-byte, length-key)

-- ---- the phase

most-sized_key : HasMost spelled_sized_key 4
unfolding spelled_sized_key
most-sized_key sized rest = omega (arith, length-key)

most-rate : HasMost spelled_rate 1
unfolding spelled_rate
most-rate rates.Kbit500 rest = omega arith
most-rate rates.Kbit300 rest = omega arith
most-rate rates.Kbit250 rest = omega arith
most-rate rates.Mbit1 rest = omega arith

most-answer : HasMost spelled_answer 11
unfolding spelled_answer
most-answer (answers.Short next last) rest = omega (arith, length-byte, most-option spelled_byte 1 most-byte last rest)
most-answer (answers.Long ending results read) rest = omega (arith, most-ending, most-results, length-byte)

most-reading : HasMost spelled_reading 35
unfolding spelled_reading
most-reading reading rest = omega (arith, most-sized_key, length-byte, length-flag, most-read)

most-writing : HasMost spelled_writing 36
unfolding spelled_writing
most-writing writing rest = omega (arith, most-sized_key, length-byte, length-flag, most-write)

most-formatting : HasMost spelled_formatting 30
unfolding spelled_formatting
most-formatting formatting rest = omega (arith, length-flag, most-format)

most-task : HasMost spelled_task 37
unfolding spelled_task
most-task (tasks.ReadId search) rest = omega (arith, most-search)
most-task (tasks.Read reading) rest = omega (arith, most-reading)
most-task (tasks.Write writing) rest = omega (arith, most-writing)
most-task (tasks.Format formatting) rest = omega (arith, most-formatting)

most-execution : HasMost spelled_execution 40
unfolding spelled_execution
most-execution execution rest = omega (arith, length-byte, length-word, most-task)

most-phase : HasMost spelled_phase 41
unfolding spelled_phase
most-phase phases.Command rest = omega arith
most-phase (phases.Execute execution) rest = omega (arith, most-execution)
most-phase (phases.Result answer) rest = omega (arith, most-answer)

-- ---- seeks

most-motion : HasMost spelled_motion 3
unfolding spelled_motion
most-motion motions.Ended rest = omega arith
most-motion _ rest = omega (arith, length-byte)

most-seek : HasMost spelled_seek 4
unfolding spelled_seek
most-seek seek rest = omega (arith, length-byte, most-motion)

most-seeking : (seeking : Seeking) (rest : List ℕ) → InRange seeking → length (spelled_seeking seeking rest) ≤ 17 + length rest
unfolding spelled_seeking
most-seeking seeking rest is =
    let pending = spelled_each (spelled_option spelled_byte) seeking.pending rest in
    omega (
      arith,
      length-each seeking.cylinders (spelled_option spelled_seek seeking.seek pending),
      most-option spelled_seek 4 most-seek seeking.seek pending,
      most-each seeking.pending rest,
      is.cylinders,
      is.pending,
    )

-- ---- the controller

room_is : (on : Bool) → room_of on ≤ 16
room_is true = omega arith
room_is false = omega arith

most-fifo : (fifo : Fifo) (rest : List ℕ) → IsFifo fifo → length (spelled_fifo fifo rest) ≤ 26 + length rest
unfolding spelled_fifo
most-fifo fifo rest is = omega (arith, length-flag, length-byte, length-bytes, is.room, room_is fifo.on)

most-flags : HasMost spelled_flags 5
unfolding spelled_flags
most-flags fdc rest = omega (arith, length-flag)

pub most-fdc : (fdc : Fdc) (rest : List ℕ) → FdcFits fdc → length (spelled_fdc fdc rest) ≤ 115 + length rest
unfolding spelled_fdc
most-fdc fdc rest fits =
    let last = spelled_count fdc.data_commands rest in
    let behind = spelled_bytes fdc.command (spelled_fifo fdc.fifo last) in
    omega (
      arith,
      length-byte,
      most-rate,
      most-flags,
      most-phase,
      most-seeking fdc.seeks behind fits.seeks,
      length-bytes,
      fits.command,
      most-fifo fdc.fifo last fits.fifo,
      length-count,
    )
