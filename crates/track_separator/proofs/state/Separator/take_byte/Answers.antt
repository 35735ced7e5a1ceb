use Rattle.std.proofs.Common.{sym, ◌∙◌}
use Rattle.track_separator.proofs.Hunted.{taken_other, taken_mark, taken_address, taken_damaged}
use Rattle.track_separator.proofs.state.Separator.take_byte.Goals as goal

pub returns-then-byte_before-clause-taken : goal.returns-then-byte_before-clause-taken
returns-then-byte_before-clause-taken c = λ fed p at.
    taken_other fed c.args.self.now.cells p c.args.bytes c.args.self.now.back at c.if-bytes-eq0.true (λ e. c.if-byte_before.true (c.byte_before.ensures ∙ e))

pub returns-then-bytes-eq0-clause-taken : goal.returns-then-bytes-eq0-clause-taken
returns-then-bytes-eq0-clause-taken c = λ fed p at.
    taken_mark fed c.args.self.now.cells p c.args.bytes c.args.self.now.back at c.if-bytes-eq0.true (sym c.byte_before.ensures ∙ c.if-byte_before.false)

pub returns-in-Some-clause-taken : goal.returns-in-Some-clause-taken
returns-in-Some-clause-taken c = λ fed p at.
    taken_address fed c.args.self.now.cells p c.args.bytes c.args.self.now.back at c.in-Some.key c.if-bytes-lt-BYTES_BEFORE_LAST.false c.in-Some.ensures

pub returns-in-None-clause-taken : goal.returns-in-None-clause-taken
returns-in-None-clause-taken c = λ fed p at.
    taken_damaged fed c.args.self.now.cells p c.args.bytes c.args.self.now.back at c.if-bytes-lt-BYTES_BEFORE_LAST.false c.in-None.ensures
