-- Whole commands and their endings, for a layer in front of the controller that collects the bytes itself.
use Rattle.std.specs.Prelude.{ℕ, ◌%◌, Bool, not, ◌&&◌, ◌==◌, Option, Some, None, false, [], if◌then◌else◌}
use Rattle.fdc_core.specs.Common.{is_begun, whole, Accepted, Ready, Outward, seek_bits, has_ended_seek, pulses_within, with_motion, without_ended, Ending, Results, Long, Short, Phase, Taking, Waiting, ending_of_phase, mark_of_phase}
use Rattle.fdc_core.specs.Commands.{TakesAs}
use Rattle.fdc_core.specs.Ports.{is_taking}
use Rattle.fdc_core.specs.declared.controller.Fdc.{Fdc}
use Rattle.fdc_core.specs.declared.controller.Lines.{Lines}
use Rattle.fdc_phases.specs.declared.answers.Answer.{Answer}

-- the data port takes a byte, and no byte of a command has come
abbrev pub is_idle : Fdc → Bool
is_idle fdc = is_taking fdc && not (is_begun fdc.command)

-- what the bytes of a command came to, once the size code of a whole command is checked
abbrev pub looked_at : Accepted → Accepted
looked_at (Ready command) = whole command
looked_at accepted = accepted

-- the controller does what these bytes came to, in place of those that came to the data port
abbrev pub TakesWhole : Accepted → Lines → Fdc → Fdc → Type 0
TakesWhole accepted lines old new = TakesAs (looked_at accepted) lines (record old { command = [] }) new

abbrev pub ending_told : Fdc → Option Ending
ending_told fdc = ending_of_phase fdc.phase

-- the results of a data command, while the host may read them
abbrev pub results_of_answer : Answer → Option Results
results_of_answer (Long _ results _) = Some results
results_of_answer (Short _ _) = None

abbrev pub results_of_phase : Phase → Option Results
results_of_phase (Waiting answer) = results_of_answer answer
results_of_phase _ = None

abbrev pub results_waiting : Fdc → Option Results
results_waiting fdc = results_of_phase fdc.phase

-- the results of a data command are given up: INT falls, and the controller takes commands
abbrev pub given_up_if : Option Ending → Fdc → Fdc
given_up_if None old = old
given_up_if (Some _) old = record old { phase = Taking; interrupt = false }

abbrev pub given_up : Fdc → Fdc
given_up old = given_up_if (ending_told old) old

abbrev pub mark_of : Fdc → Option Bool
mark_of fdc = mark_of_phase fdc.phase

-- a seek that has ended is forgotten with its result, and INT falls
abbrev pub without_seek : Fdc → Fdc
without_seek old =
    if has_ended_seek old.seeks then record old { seeks = without_ended old.seeks; interrupt = false } else old

-- a RECALIBRATE begins that gives at most so many pulses, where the first byte of a command may come and no seek bit is
-- set
abbrev pub recalibrated_within : ℕ → ℕ → Fdc → Fdc
recalibrated_within drive pulses old =
    if is_idle old && (seek_bits old.seeks == 0) then record old { seeks = with_motion old.seeks (drive % 4) (Outward (pulses_within pulses)) }
    else old
