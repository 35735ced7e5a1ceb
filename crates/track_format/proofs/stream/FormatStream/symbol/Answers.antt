use Rattle.std.proofs.Common.{◌+◌, inl, inr, ap}
use Rattle.track_format.proofs.Steps.{symbol_in_start, symbol_in_address, symbol_in_data}
use Rattle.track_format.proofs.stream.FormatStream.symbol.Goals as goal
use Rattle.track_format.proofs.stream.FormatStream.symbol.Goals.{then-is_first, else-is_first, then-is_first-2, else-is_first-2}

pub returns-in-Start : goal.returns-in-Start
returns-in-Start c = λ last left gives is.
    let stream = c.args.self.now in
    symbol_in_start stream.part stream.sectors stream.size stream.gap3 stream.fill stream.place stream.check left c.start_symbol.result c.in-Start.is gives.within gives.part c.start_symbol.ensures

pub returns-after-is_first : goal.returns-after-is_first
returns-after-is_first c = λ last left gives is.
    let stream = c.args.self.now in
    symbol_in_address stream.part stream.sectors stream.size stream.gap3 stream.fill stream.place stream.check c.args.byte left c.if-is_first.inner c.field_symbol.result c.in-Address.is gives.within gives.part is
    (elim c.if-is_first.branch [ then-is_first w ↦ inl (w.if-is_first.true, w.inner-is) | else-is_first w ↦ inr (w.if-is_first.false, w.inner-is) ])
    c.field_symbol.ensures

pub returns-after-is_first-2 : goal.returns-after-is_first-2
returns-after-is_first-2 c = λ last left gives is.
    let stream = c.args.self.now in
    symbol_in_data stream.part stream.sectors stream.size stream.gap3 stream.fill stream.place stream.check (c.from.result + 1) c.if-is_first-2.inner left c.field_symbol-in-Data.result c.in-Data.is (ap (λ k. k + 1) c.from.ensures) gives.within gives.part
    (elim c.if-is_first-2.branch [ then-is_first-2 w ↦ inl (w.if-is_first-2.true, w.inner-is) | else-is_first-2 w ↦ inr (w.if-is_first-2.false, w.inner-is) ])
    c.field_symbol-in-Data.ensures
