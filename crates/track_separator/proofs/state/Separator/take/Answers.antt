use Rattle.std.proofs.Common.{ℕ, sym, subst}
use Rattle.track_separator.proofs.Common.{Stage, with_word, WaitsIn, ReadsIn, SWaitSeen, SReadSeen, IsReading}
use Rattle.track_separator.proofs.state.Separator.take.Goals as goal

pub returns-in-Waiting-clause-waits : goal.returns-in-Waiting-clause-waits
returns-in-Waiting-clause-waits c = λ fed p size waits.
    let old = c.args.self.now in
    let At : Stage → Type 0 = λ stage. WaitsIn fed old.cells old.back p size stage in
    let known = subst At c.in-Waiting.is waits in
    let For : ℕ → Type 0 = λ asked. SWaitSeen (with_word fed c.args.word) p asked c.wait_word.new.self c.wait_word.result in
    subst For known.0 (c.wait_word.ensures fed p known.1)

pub returns-in-Content-clause-reads : goal.returns-in-Content-clause-reads
returns-in-Content-clause-reads c = λ fed p q deleted size taken reads.
    let old = c.args.self.now in
    let At : Stage → Type 0 = λ stage. ReadsIn fed old.cells old.back p q deleted size taken stage in
    let known = subst At c.in-Content.is reads in
    let Was : ℕ → ℕ → Type 0 = λ asked passed. IsReading fed old.cells old.back p q deleted asked passed c.in-Content.check c.in-Content.touched in
    let For : ℕ → ℕ → Type 0 = λ asked passed. SReadSeen (with_word fed c.args.word) p q deleted asked passed c.read_word.new.self c.read_word.result in
    let was : Was c.in-Content.size c.in-Content.taken = subst (λ asked. Was asked c.in-Content.taken) (sym known.0) (subst (λ passed. Was size passed) (sym known.1) known.2) in
    subst (λ passed. For size passed) known.1 (subst (λ asked. For asked c.in-Content.taken) known.0 (c.read_word.ensures fed p q deleted was))
