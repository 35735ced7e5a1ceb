-- What the host reads after a command.
use Rattle.std.specs.Prelude.{ℕ, Bool, true, false, List, [], ◌∷◌, if◌then◌else◌, bit_and}
use Rattle.fdc_chip.specs.Common.{bit_or}
use Rattle.fdc_commands.specs.Results.{result_bytes}
use Rattle.fdc_chip.specs.declared.answer.ChipAnswer.{ChipAnswer}
use Rattle.fdc_chip.specs.declared.answer.ChipAnswer.TheVariants as answer
use Rattle.fdc_chip.specs.declared.answer.Registers.{Registers}

-- DUMPREG: the present cylinder numbers; SRT and HUT; HLT and ND; SC or EOT; LOCK, which drives are perpendicular, GAP
-- and WGATE; EIS, EFIFO, POLL and FIFOTHR; PRETRK
abbrev pub register_bytes : Registers → List ℕ
register_bytes registers = let settings = registers.settings in
    registers.first ∷ registers.second ∷ registers.third ∷ registers.fourth
    ∷ settings.step_rate ∷ settings.head_load ∷ settings.last_sector
    ∷ bit_or (if settings.locked then 0x80 else 0) settings.perpendicular
    ∷ bit_and settings.options 0x7F ∷ settings.precompensation ∷ []

abbrev pub answer_bytes : ChipAnswer → List ℕ
answer_bytes (answer.Byte byte) = byte ∷ []
answer_bytes (answer.Sensed status cylinder) = status ∷ cylinder ∷ []
answer_bytes (answer.Results results) = result_bytes results
answer_bytes (answer.Registers registers) = register_bytes registers

-- whether it is the answer of a data command
abbrev pub is_of_data : ChipAnswer → Bool
is_of_data (answer.Results _) = true
is_of_data _ = false
