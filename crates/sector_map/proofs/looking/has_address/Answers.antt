use Rattle.std.proofs.Common.{arith, sym, ◌∙◌}
use Rattle.sector_map.proofs.Common.{false≢true, IsAddress, IsAddressAt}
use Rattle.sector_map.proofs.Looked.{none_more, none_given}
use Rattle.sector_map.proofs.looking.has_address.Goals as goal

pub loop-p-preserved : goal.loop-p-preserved
loop-p-preserved c =
    none_more (λ p. IsAddress c.args.words.now p) c.loop-p.p c.loop-p.invariant
    (λ address. none_given c.address_at.result (λ key. IsAddressAt c.args.words.now c.loop-p.p key) (sym c.is_some.ensures ∙ c.if-is_some.false) c.address_at.ensures address.0 address.1)

pub returns : goal.returns
returns c = (
  λ e. absurd (false≢true e),
  λ found. let inside = found.1.1.sound.inside in absurd (c.loop-p.invariant found.0 (omega arith) found.1),
)
