-- What a line of port accesses prints.
use Rattle.std.specs.Prelude.{ℕ, ◌/◌, Bool, true, false, List, [], ◌∷◌, ◌++◌, codes, nat_lt, if◌then◌else◌}
use Rattle.text_commands.specs.Common.{hex_digit, hex2, PortLine, reason_text, line_end}
use Rattle.floppy_jobs.specs.declared.ports.PortLine.TheVariants as line
use Rattle.text_commands.specs.declared.ports.answer.LineAnswer.{LineAnswer}
use Rattle.text_commands.specs.declared.ports.answer.LineAnswer.TheVariants as answer

-- a port in three hexadecimal digits, from 1000 on in four
abbrev pub port_text : ℕ → List ℕ
port_text port =
    if nat_lt port 4096 then hex_digit (port / 256) ++ (hex_digit (port / 16) ++ hex_digit port)
    else hex_digit (port / 4096) ++ (hex_digit (port / 256) ++ (hex_digit (port / 16) ++ hex_digit port))

-- the first word of a line
abbrev pub verb_text : PortLine → List ℕ
verb_text (line.In port) = codes "in"
verb_text (line.Out port value) = codes "out"
verb_text (line.Wait steps) = codes "wait"
verb_text line.Irq = codes "irq"
verb_text (line.Insert bay name) = codes "insert"
verb_text (line.Eject bay) = codes "eject"

-- whether the latch was set
abbrev pub latch_text : Bool → List ℕ
latch_text true = codes "irq 1\n"
latch_text false = codes "irq 0\n"

-- the line for a line's answer, if it has one; where a medium was put in or taken out, or was not, it is that of a
-- batch job
unfoldable pub answer_lines : PortLine → LineAnswer → List (List ℕ)
answer_lines asked answer.Nothing = []
answer_lines asked (answer.Byte port value) = (codes "in " ++ (port_text port ++ (codes " " ++ (hex2 value ++ line_end)))) ∷ []
answer_lines asked (answer.Latch set) = latch_text set ∷ []
answer_lines asked answer.Done = (verb_text asked ++ codes " ok\n") ∷ []
answer_lines asked (answer.Refused cause) = (verb_text asked ++ (codes " refused " ++ (reason_text cause ++ line_end))) ∷ []
