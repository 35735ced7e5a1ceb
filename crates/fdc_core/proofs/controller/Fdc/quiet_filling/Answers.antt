use Rattle.std.proofs.Common.{◌≡◌, ◌∙◌, arith, length, subst}
use Rattle.fdc_core.proofs.Common.{AreAhead, words_left}
use Rattle.fdc_core.proofs.Filling.{filling_foreseen}
use Rattle.fdc_core.proofs.Longest.{filling_longest}
use Rattle.fdc_core.proofs.controller.Fdc.quiet_filling.Goals as goal

pub returns-clause-foresees : goal.returns-clause-foresees
returns-clause-foresees g c =
    let before = g.D.Drive.state c.args.drive.now in
    let words = c.first_words-words in
    let ahead = c.ahead.result.now in
    filling_foreseen c.args.self.now c.args.execution.now c.min.result words.result.now ahead before c.requires.quiet c.requires.fits c.requires.executes words.ensures.first words.ensures.left (omega arith)
    (subst (λ head. AreAhead head ahead before) c.head_of-head.ensures c.ahead.ensures.ahead) c.args.writing.now c.supply_for-bytes.result c.requires.writes c.requires.found c.requires.later c.supply_for-bytes.ensures.supply (omega (arith, c.words_with-filled.ensures))

pub returns-clause-longest : goal.returns-clause-longest
returns-clause-longest g c =
    let before = g.D.Drive.state c.args.drive.now in
    let words = c.first_words-words in
    let ahead = c.ahead.result.now in
    filling_longest c.args.self.now c.args.execution.now c.args.most c.min.result before c.requires.executes c.args.writing.now c.requires.writes c.args.most words.result.now ahead words.ensures.first words.ensures.all
    (subst (λ head. AreAhead head ahead before) c.head_of-head.ensures c.ahead.ensures.ahead) (λ faultless. subst (λ head. length ahead ≡ words_left head before) c.head_of-head.ensures (c.ahead.ensures.all faultless)) (omega arith) c.requires.found c.supply_for-bytes.result c.supply_for-bytes.ensures.longest (omega (arith, c.words_with-filled.ensures))
