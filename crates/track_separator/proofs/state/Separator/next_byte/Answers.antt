use Rattle.std.proofs.Common.{ℕ, sym, subst}
use Rattle.track_separator.proofs.Common.{Byte, Stage, with_word, ReadsIn, SReadSeen, IsReading, AwaitsByteIn}
use Rattle.track_separator.proofs.Told.{fed_byte}
use Rattle.track_separator.proofs.state.Separator.next_byte.Goals as goal

pub returns-else-taken-size-clause-reads : goal.returns-else-taken-size-clause-reads
returns-else-taken-size-clause-reads c = λ fed p q deleted size taken reads.
    let old = c.args.self.now in
    let At : Stage → Type 0 = λ stage. ReadsIn fed old.cells old.back p q deleted size taken stage in
    let known = subst At c.in-Content.is reads in
    let Was : ℕ → ℕ → Type 0 = λ asked passed. IsReading fed old.cells old.back p q deleted asked passed c.in-Content.check c.in-Content.touched in
    let For : ℕ → ℕ → Type 0 = λ asked passed. SReadSeen (with_word fed c.args.word) p q deleted asked passed c.content_byte.new.self (Byte c.content_byte.result) in
    let was : Was c.in-Content.size c.in-Content.taken = subst (λ asked. Was asked c.in-Content.taken) (sym known.0) (subst (λ passed. Was size passed) (sym known.1) known.2) in
    subst (λ passed. For size passed) known.1 (subst (λ asked. For asked c.in-Content.taken) known.0 (c.content_byte.ensures fed p q deleted was))

pub returns-else-taken-size-clause-any : goal.returns-else-taken-size-clause-any
returns-else-taken-size-clause-any c = λ fed h.
    (fed_byte c.args.self.now c.content_byte.new.self c.args.word c.content_byte.result (subst AwaitsByteIn (sym c.in-Content.is) c.if-taken-size.false) (returns-else-taken-size-clause-reads c) fed h).0

pub returns-else-taken-size-clause-told : goal.returns-else-taken-size-clause-told
returns-else-taken-size-clause-told c = λ fed h.
    (fed_byte c.args.self.now c.content_byte.new.self c.args.word c.content_byte.result (subst AwaitsByteIn (sym c.in-Content.is) c.if-taken-size.false) (returns-else-taken-size-clause-reads c) fed h).1
