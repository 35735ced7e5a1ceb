use Rattle.std.proofs.Common.{arith}
use Rattle.sector_map.proofs.Looked.{no_data_mark, none_more}
use Rattle.sector_map.proofs.Common.{IsDataMark}
use Rattle.sector_map.proofs.looking.first_data_mark.Goals as goal

pub loop-q-preserved : goal.loop-q-preserved
loop-q-preserved c = λ k deleted. none_more (λ q. IsDataMark c.args.words.now c.args.place q deleted) c.loop-q.q (λ j. c.loop-q.invariant j deleted) (λ mark. c.in_default.ensures deleted mark.run) k

pub returns : goal.returns
returns c = no_data_mark c.args.words.now c.args.place c.min-past.result c.loop-q.q c.min-past.ensures (omega arith) c.loop-q.invariant
