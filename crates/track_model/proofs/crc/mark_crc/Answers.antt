use Rattle.std.proofs.Common.{◌∷◌, [], sym, ◌∙◌, arith}
use Rattle.track_model.proofs.CrcSteps.{crc-marks, marks_crc}
use Rattle.track_model.proofs.crc.mark_crc.Goals as goal

pub returns-clause-is_crc : goal.returns-clause-is_crc
returns-clause-is_crc c = c.crc_step.ensures.extends (0xA1 ∷ 0xA1 ∷ 0xA1 ∷ []) (omega arith) (sym marks_crc)

pub returns-clause-goes_on : goal.returns-clause-goes_on
returns-clause-goes_on c = λ rest. sym (crc-marks (c.args.mark ∷ rest) ∙ c.crc_step.ensures.goes_on rest)
