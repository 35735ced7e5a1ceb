use Rattle.std.proofs.Common.{[], take}
use Rattle.fdc_core.proofs.Common.{IsReading, heard_words}
use Rattle.fdc_core.proofs.fields.stage_behind.Given as goal

abbrev pub invariant-loop-word : goal.invariant-loop-word
invariant-loop-word l = IsReading (heard_words (take l.word-index l.words)) l.key [] l.stage
