use Rattle.std.proofs.Common.{◌≡◌, ◌∙◌, arith, length, subst, sym}
use Rattle.fdc_core.proofs.Common.{false≢true, AreAhead, words_left, Format}
use Rattle.fdc_core.proofs.Foreseeing.{nothing_foreseen}
use Rattle.fdc_core.proofs.Laying.{laying_foreseen, none_taken}
use Rattle.fdc_core.proofs.Longest.{asking_longest, first_format, laying_longest, listening_longest}
use Rattle.fdc_core.proofs.controller.Fdc.quiet_formatting.Goals as goal

pub returns-then-asks-clause-foresees : goal.returns-then-asks-clause-foresees
returns-then-asks-clause-foresees g c = nothing_foreseen c.args.self.now (g.D.Drive.state c.args.drive.now)

pub returns-then-asks-clause-longest : goal.returns-then-asks-clause-longest
returns-then-asks-clause-longest g c =
    asking_longest c.args.self.now c.args.execution.now c.args.most 0 (g.D.Drive.state c.args.drive.now) c.requires.executes (Format c.args.formatting.now) c.requires.formats (sym c.wants-asks.ensures ∙ c.if-asks.true)

pub returns-then-execution-eq0-clause-foresees : goal.returns-then-execution-eq0-clause-foresees
returns-then-execution-eq0-clause-foresees g c = nothing_foreseen c.args.self.now (g.D.Drive.state c.args.drive.now)

pub returns-then-execution-eq0-clause-longest : goal.returns-then-execution-eq0-clause-longest
returns-then-execution-eq0-clause-longest g c =
    first_format c.args.self.now c.args.execution.now c.args.most 0 (g.D.Drive.state c.args.drive.now) c.requires.executes c.args.formatting.now c.requires.formats (omega arith)

pub returns-then-not-is_due-clause-foresees : goal.returns-then-not-is_due-clause-foresees
returns-then-not-is_due-clause-foresees g c =
    let before = g.D.Drive.state c.args.drive.now in
    let words = c.first_words-words in
    let ahead = c.ahead.result.now in
    laying_foreseen c.args.self.now c.args.execution.now (length words.result.now) words.result.now ahead before c.requires.quiet c.requires.fits c.requires.executes words.ensures.first words.ensures.left (omega arith)
    (subst (λ head. AreAhead head ahead before) c.head_of-head.ensures c.ahead.ensures.ahead) c.args.formatting.now 0 c.requires.formats (omega arith) (none_taken c.args.formatting.now.counted c.args.self.now.fifo (sym c.wants-asks.ensures ∙ c.if-asks.false))
    (λ due. absurd (false≢true (sym c.if-not-is_due.true ∙ c.is_due.ensures ∙ due)))

pub returns-then-not-is_due-clause-longest : goal.returns-then-not-is_due-clause-longest
returns-then-not-is_due-clause-longest g c =
    let before = g.D.Drive.state c.args.drive.now in
    let words = c.first_words-words in
    let ahead = c.ahead.result.now in
    listening_longest c.args.self.now c.args.execution.now c.args.most (length words.result.now) before c.requires.executes c.args.formatting.now c.requires.formats c.args.most words.result.now ahead words.ensures.first words.ensures.all
    (subst (λ head. AreAhead head ahead before) c.head_of-head.ensures c.ahead.ensures.ahead) (λ faultless. subst (λ head. length ahead ≡ words_left head before) c.head_of-head.ensures (c.ahead.ensures.all faultless)) (omega arith) (sym c.is_due.ensures ∙ c.if-not-is_due.true) (omega arith)

pub returns-clause-foresees : goal.returns-clause-foresees
returns-clause-foresees g c =
    let before = g.D.Drive.state c.args.drive.now in
    let words = c.first_words-words in
    let ahead = c.ahead.result.now in
    laying_foreseen c.args.self.now c.args.execution.now c.count_laying.result words.result.now ahead before c.requires.quiet c.requires.fits c.requires.executes words.ensures.first words.ensures.left (omega arith)
    (subst (λ head. AreAhead head ahead before) c.head_of-head.ensures c.ahead.ensures.ahead) c.args.formatting.now c.supply_for-bytes.result c.requires.formats (omega arith) c.supply_for-bytes.ensures.supply (λ due. c.count_laying.ensures.lays)

pub returns-clause-longest : goal.returns-clause-longest
returns-clause-longest g c =
    let before = g.D.Drive.state c.args.drive.now in
    let words = c.first_words-words in
    let ahead = c.ahead.result.now in
    laying_longest c.args.self.now c.args.execution.now c.args.most c.count_laying.result before c.requires.executes c.args.formatting.now c.requires.formats c.args.most words.result.now ahead words.ensures.first words.ensures.all
    (subst (λ head. AreAhead head ahead before) c.head_of-head.ensures c.ahead.ensures.ahead) (λ faultless. subst (λ head. length ahead ≡ words_left head before) c.head_of-head.ensures (c.ahead.ensures.all faultless)) (omega arith) (sym c.is_due.ensures ∙ c.if-not-is_due.false) c.supply_for-bytes.result c.supply_for-bytes.ensures.longest c.count_laying.ensures.longest
