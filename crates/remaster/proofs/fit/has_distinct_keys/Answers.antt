use Rattle.std.proofs.Common.{arith, sym, refl, ◌∙◌}
use Rattle.remaster.proofs.Common.{false≢true}
use Rattle.remaster.proofs.Fits.{distinct_more, distinct_new, distinct_all}
use Rattle.remaster.proofs.fit.has_distinct_keys.Goals as goal

pub returns-then-not-is_new_key : goal.returns-then-not-is_new_key
returns-then-not-is_new_key c = (
  λ t. absurd (false≢true t),
  λ distinct. absurd (false≢true (sym c.if-not-is_new_key.true ∙ c.is_new_key.ensures.1 (distinct_new c.args.sectors.now c.loop-i.i c.index-sectors-i.result (omega arith) distinct))),
)

pub loop-i-preserved : goal.loop-i-preserved
loop-i-preserved c =
    distinct_more c.args.sectors.now c.loop-i.i c.index-sectors-i.result (omega arith) c.loop-i.invariant (c.is_new_key.ensures.0 c.if-not-is_new_key.false)

pub returns : goal.returns
returns c = (λ t. distinct_all c.args.sectors.now c.loop-i.i (omega arith) c.loop-i.invariant, λ distinct. refl)
