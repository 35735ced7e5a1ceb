use Rattle.std.proofs.Common.{◌≡◌, ◌≤◌, ◌∙◌, arith, length, subst, sym}
use Rattle.fdc_core.proofs.Common.{AreAhead, words_left, Write}
use Rattle.fdc_core.proofs.Filling.{found_stage}
use Rattle.fdc_core.proofs.Foreseeing.{nothing_foreseen}
use Rattle.fdc_core.proofs.Tellings.{write_foreseen}
use Rattle.fdc_core.proofs.Longest.{asking_longest, first_longest, search_longest}
use Rattle.fdc_core.proofs.controller.Fdc.quiet_writing.Goals as goal

pub returns-then-asks-clause-foresees : goal.returns-then-asks-clause-foresees
returns-then-asks-clause-foresees g c = nothing_foreseen c.args.self.now (g.D.Drive.state c.args.drive.now)

pub returns-then-asks-clause-longest : goal.returns-then-asks-clause-longest
returns-then-asks-clause-longest g c =
    asking_longest c.args.self.now c.args.execution.now c.args.most 0 (g.D.Drive.state c.args.drive.now) c.requires.executes (Write c.args.writing.now) c.requires.writes (sym c.wants-asks.ensures ∙ c.if-asks.true)

pub returns-then-execution-eq0-clause-foresees : goal.returns-then-execution-eq0-clause-foresees
returns-then-execution-eq0-clause-foresees g c = nothing_foreseen c.args.self.now (g.D.Drive.state c.args.drive.now)

pub returns-then-execution-eq0-clause-longest : goal.returns-then-execution-eq0-clause-longest
returns-then-execution-eq0-clause-longest g c =
    first_longest c.args.self.now c.args.execution.now c.args.most 0 (g.D.Drive.state c.args.drive.now) c.requires.executes c.args.writing.now c.requires.writes (omega arith)

pub returns-in-Search-clause-foresees : goal.returns-in-Search-clause-foresees
returns-in-Search-clause-foresees g c =
    let before = g.D.Drive.state c.args.drive.now in
    let words = c.first_words-words in
    let counts = c.count_searching in
    let ahead = c.ahead.result.now in
    let some : 1 ≤ c.args.execution.now.steps = omega arith in
    write_foreseen c.args.self.now c.args.execution.now counts.result words.result.now ahead before c.requires.quiet c.requires.fits c.requires.range c.requires.executes words.ensures.first words.ensures.left counts.ensures.within
    (subst (λ head. AreAhead head ahead before) c.head_of-head.ensures c.ahead.ensures.ahead) c.args.writing.now c.in-Search.search c.requires.writes c.in-Search.is (sym c.wants-asks.ensures ∙ c.if-asks.false) some counts.ensures.meets

pub returns-in-Search-clause-longest : goal.returns-in-Search-clause-longest
returns-in-Search-clause-longest g c =
    let before = g.D.Drive.state c.args.drive.now in
    let words = c.first_words-words in
    let counts = c.count_searching in
    let ahead = c.ahead.result.now in
    search_longest c.args.self.now c.args.execution.now c.args.most counts.result before c.requires.executes c.args.writing.now c.requires.writes c.args.most words.result.now ahead words.ensures.first words.ensures.all
    (subst (λ head. AreAhead head ahead before) c.head_of-head.ensures c.ahead.ensures.ahead) (λ faultless. subst (λ head. length ahead ≡ words_left head before) c.head_of-head.ensures (c.ahead.ensures.all faultless)) (omega arith) c.in-Search.search c.in-Search.is counts.ensures.longest

pub quiet_filling-requires-clause-found : goal.quiet_filling-requires-clause-found
quiet_filling-requires-clause-found g c = found_stage c.args.writing.now.stage c.in_default.not-Search
