use Rattle.std.proofs.Common.{◌≤◌, ◌+◌, ◌*◌, sym, ap, ◌∙◌, ℕ, ◌∷◌, arith, drop}
use Rattle.std.proofs.lemmas.List.{at_drop_more, at_drop_all}
use Rattle.std.specs.Char.{digit_value}
use Rattle.floppy_jobs.proofs.NumberLemmas.{read_on, read_on-over, read_on-stop, read_on-digit, read_on-low, read_on-end, not_below, number_of-short, number_of-long, number_of-read}
use Rattle.floppy_jobs.proofs.numbers.number.Goals as goal
use Rattle.floppy_jobs.proofs.numbers.number.Goals.{then-word-fewest-via-then-word-fewest, then-word-fewest-via-else-word-fewest+then-word-most}

pub returns-then-word-fewest-clause-value : goal.returns-then-word-fewest-clause-value
returns-then-word-fewest-clause-value c =
    let a = c.args in
    elim c.then-word-fewest.branch [
      | then-word-fewest-via-then-word-fewest w ↦ sym (number_of-short a.base a.fewest a.most a.least a.greatest a.word.now (omega arith))
      | then-word-fewest-via-else-word-fewest+then-word-most w ↦ sym (number_of-long a.base a.fewest a.most a.least a.greatest a.word.now (omega arith))
    ]

pub returns-in_err-digit-clause-value : goal.returns-in_err-digit-clause-value
returns-in_err-digit-clause-value c =
    let a = c.args in
    let l = c.loop-byte in
    let whole = number_of-read a.base a.fewest a.most a.least a.greatest a.word.now (omega arith) (omega arith) in
    let more = at_drop_more (read_on a.base a.least a.greatest l.value) a.word.now l.byte-index 0 (omega arith) in
    let here = ap (λ (b : ℕ). read_on a.base a.least a.greatest l.value (b ∷ drop (l.byte-index + 1) a.word.now)) c.from.ensures in
    let none : a.base ≤ digit_value c.from.result = not_below _ _ c.in_err-digit.ensures.value in
    let stop = read_on-stop a.base a.least a.greatest l.value c.from.result (drop (l.byte-index + 1) a.word.now) none in
    c.from_residual.ensures ∙ sym stop ∙ here ∙ sym more ∙ l.invariant.same ∙ sym whole

pub returns-then-value-greatest-clause-value : goal.returns-then-value-greatest-clause-value
returns-then-value-greatest-clause-value c =
    let a = c.args in
    let l = c.loop-byte in
    let whole = number_of-read a.base a.fewest a.most a.least a.greatest a.word.now (omega arith) (omega arith) in
    let more = at_drop_more (read_on a.base a.least a.greatest l.value) a.word.now l.byte-index 0 (omega arith) in
    let here = ap (λ (b : ℕ). read_on a.base a.least a.greatest l.value (b ∷ drop (l.byte-index + 1) a.word.now)) c.from.ensures in
    let digit = read_on-digit a.base a.least a.greatest l.value c.from.result (drop (l.byte-index + 1) a.word.now) c.in_ok-digit.ensures.value.0 in
    let over = read_on-over a.base a.least a.greatest (l.value * a.base + c.in_ok-digit.digit) (drop (l.byte-index + 1) a.word.now) (omega arith) c.if-value-greatest.true in
    let same = ap (λ (d : ℕ). read_on a.base a.least a.greatest (l.value * a.base + d) (drop (l.byte-index + 1) a.word.now)) c.in_ok-digit.ensures.value.1 in
    sym over ∙ same ∙ sym digit ∙ here ∙ sym more ∙ l.invariant.same ∙ sym whole

pub returns-then-value-least-clause-value : goal.returns-then-value-least-clause-value
returns-then-value-least-clause-value c =
    let a = c.args in
    let l = c.loop-byte in
    let whole = number_of-read a.base a.fewest a.most a.least a.greatest a.word.now (omega arith) (omega arith) in
    let done = at_drop_all (read_on a.base a.least a.greatest l.value) a.word.now l.byte-index (omega arith) in
    let end = read_on-low a.base a.least a.greatest l.value (omega arith) in
    sym end ∙ sym done ∙ l.invariant.same ∙ sym whole

pub returns-else-value-least-clause-value : goal.returns-else-value-least-clause-value
returns-else-value-least-clause-value c =
    let a = c.args in
    let l = c.loop-byte in
    let whole = number_of-read a.base a.fewest a.most a.least a.greatest a.word.now (omega arith) (omega arith) in
    let done = at_drop_all (read_on a.base a.least a.greatest l.value) a.word.now l.byte-index (omega arith) in
    let end = read_on-end a.base a.least a.greatest l.value (omega arith) l.invariant.bounded in
    sym end ∙ sym done ∙ l.invariant.same ∙ sym whole
