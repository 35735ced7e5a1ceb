use Rattle.std.proofs.Common.{◌≡◌, take}
use Rattle.telwyddus_c.specs.Surveys.{survey_bytes}
use Rattle.telwyddus_c.proofs.survey.survey_bytes.Given as goal

abbrev pub invariant-loop-line : goal.invariant-loop-line
invariant-loop-line l = l.bytes.items ≡ survey_bytes (take l.line-index l.lines)
