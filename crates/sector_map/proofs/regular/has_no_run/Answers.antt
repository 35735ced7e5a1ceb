use Rattle.std.proofs.Common.{refl, arith}
use Rattle.sector_map.proofs.RegularPlaces.{not_true, no_run_more, no_run_beyond}
use Rattle.sector_map.proofs.regular.has_no_run.Goals as goal

pub loop-q-preserved : goal.loop-q-preserved
loop-q-preserved c =
    no_run_more c.args.words.now c.args.from c.loop-q.q (λ run. not_true c.is_run.result c.if-is_run.false (c.is_run.ensures.1 run)) c.loop-q.invariant

pub returns : goal.returns
returns c = (
  λ t. no_run_beyond c.args.words.now c.args.from c.min-q-end.result c.args.to c.loop-q.q c.min-q-end.ensures (omega arith) c.loop-q.invariant,
  λ none. refl,
)
