use Rattle.std.proofs.Common.{◌≡◌, arith, length, subst}
use Rattle.fdc_core.proofs.Common.{AreAhead, words_left}
use Rattle.fdc_core.proofs.Foreseen.{id_foreseen}
use Rattle.fdc_core.proofs.Longest.{id_longest}
use Rattle.fdc_core.proofs.controller.Fdc.quiet_identifying.Goals as goal

pub returns-clause-foresees : goal.returns-clause-foresees
returns-clause-foresees g c =
    let before = g.D.Drive.state c.args.drive.now in
    let words = c.first_words-words in
    let counts = c.count_searching in
    let ahead = c.ahead.result.now in
    id_foreseen c.args.self.now c.args.execution.now counts.result words.result.now ahead before c.requires.quiet c.requires.fits c.requires.range c.requires.executes words.ensures.first words.ensures.left counts.ensures.within
    (subst (λ head. AreAhead head ahead before) c.head_of-head.ensures c.ahead.ensures.ahead) c.args.search c.requires.identifies counts.ensures.meets

pub returns-clause-longest : goal.returns-clause-longest
returns-clause-longest g c =
    let before = g.D.Drive.state c.args.drive.now in
    let words = c.first_words-words in
    let counts = c.count_searching in
    let ahead = c.ahead.result.now in
    id_longest c.args.self.now c.args.execution.now c.args.most counts.result before c.requires.executes c.args.most words.result.now ahead words.ensures.first words.ensures.all
    (subst (λ head. AreAhead head ahead before) c.head_of-head.ensures c.ahead.ensures.ahead) (λ faultless. subst (λ head. length ahead ≡ words_left head before) c.head_of-head.ensures (c.ahead.ensures.all faultless)) (omega arith) c.args.search c.requires.identifies counts.ensures.longest
