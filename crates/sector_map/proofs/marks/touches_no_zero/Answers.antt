use Rattle.std.proofs.Common.{arith}
use Rattle.sector_map.proofs.Common.{false≢true, zero_word_touched}
use Rattle.sector_map.proofs.marks.touches_no_zero.Goals as goal

pub returns-then-words-k-eq0 : goal.returns-then-words-k-eq0
returns-then-words-k-eq0 c = (
  λ e. absurd (false≢true e),
  λ h. absurd (zero_word_touched c.args.words.now c.args.p c.args.count c.loop-k.k (omega arith) (omega arith) (omega arith) (omega arith) h),
)
