use Rattle.std.proofs.Common.{◌≡◌, ◌≤◌, ◌∙◌, ap, arith, length, subst, sym}
use Rattle.fdc_core.proofs.Common.{AreAhead, words_left, IsContent, mark_at, Read, Foresees}
use Rattle.fdc_core.proofs.Foreseeing.{nothing_foreseen}
use Rattle.fdc_core.proofs.Foreseen.{by_count, content_foreseen, not_marked, unmarked_foreseen}
use Rattle.fdc_core.proofs.Longest.{asking_longest, content_longest, over_longest, unmarked_longest}
use Rattle.fdc_core.proofs.controller.Fdc.quiet_reading.Goals as goal

pub returns-then-wants-clause-foresees : goal.returns-then-wants-clause-foresees
returns-then-wants-clause-foresees g c = nothing_foreseen c.args.self.now (g.D.Drive.state c.args.drive.now)

pub returns-then-wants-clause-longest : goal.returns-then-wants-clause-longest
returns-then-wants-clause-longest g c =
    asking_longest c.args.self.now c.args.execution.now c.args.most 0 (g.D.Drive.state c.args.drive.now) c.requires.executes (Read c.args.reading.now) c.requires.reads (sym c.wants.ensures ∙ c.if-wants.true)

pub returns-in-Content-clause-foresees : goal.returns-in-Content-clause-foresees
returns-in-Content-clause-foresees g c =
    let old = c.args.self.now in
    let before = g.D.Drive.state c.args.drive.now in
    let words = c.first_words-words in
    let bytes = c.count_bytes in
    let count = c.saturating_sub.result in
    let ahead = c.ahead.result.now in
    let reading = c.args.reading.now in
    let within : count ≤ length words.result.now = omega arith in
    let short : count ≤ c.room_for-room.result = omega arith in
    let content : IsContent reading.stage = subst IsContent (sym c.in-Content.is) tt in
    by_count (λ n. Foresees n old before) count bytes.result c.saturating_sub.ensures (nothing_foreseen old before)
    (λ less. content_foreseen old c.args.execution.now count words.result.now ahead before c.requires.quiet c.requires.fits c.requires.range c.requires.executes words.ensures.first words.ensures.left within
    (subst (λ head. AreAhead head ahead before) c.head_of-head.ensures c.ahead.ensures.ahead) reading c.requires.reads (sym c.wants.ensures ∙ c.if-wants.false) c.in-Content.deleted c.room_for-room.result bytes.result content (ap mark_at c.in-Content.is)
    c.room_for-room.ensures.room short less bytes.ensures.left)

pub returns-in-Content-clause-longest : goal.returns-in-Content-clause-longest
returns-in-Content-clause-longest g c =
    let before = g.D.Drive.state c.args.drive.now in
    let words = c.first_words-words in
    let bytes = c.count_bytes in
    let ahead = c.ahead.result.now in
    let reading = c.args.reading.now in
    let content : IsContent reading.stage = subst IsContent (sym c.in-Content.is) tt in
    content_longest c.args.self.now c.args.execution.now c.args.most c.saturating_sub.result before c.requires.executes reading c.requires.reads c.saturating_add-more.result words.result.now ahead words.ensures.first words.ensures.all
    (subst (λ head. AreAhead head ahead before) c.head_of-head.ensures c.ahead.ensures.ahead) (λ faultless. subst (λ head. length ahead ≡ words_left head before) c.head_of-head.ensures (c.ahead.ensures.all faultless)) c.room_for-room.result bytes.result content (omega arith) c.room_for-room.ensures.longest c.saturating_sub.ensures bytes.ensures.longest

pub returns-in-Over-clause-foresees : goal.returns-in-Over-clause-foresees
returns-in-Over-clause-foresees g c = nothing_foreseen c.args.self.now (g.D.Drive.state c.args.drive.now)

pub returns-in-Over-clause-longest : goal.returns-in-Over-clause-longest
returns-in-Over-clause-longest g c =
    over_longest c.args.self.now c.args.execution.now c.args.most 0 (g.D.Drive.state c.args.drive.now) c.requires.executes c.args.reading.now c.requires.reads c.in-Over.deleted c.in-Over.good c.in-Over.is

pub returns-in_default-clause-foresees : goal.returns-in_default-clause-foresees
returns-in_default-clause-foresees g c =
    let before = g.D.Drive.state c.args.drive.now in
    let words = c.first_words-words-in_default in
    let counts = c.count_unmarked in
    let ahead = c.ahead-in_default.result.now in
    let reading = c.args.reading.now in
    unmarked_foreseen c.args.self.now c.args.execution.now counts.result words.result.now ahead before c.requires.quiet c.requires.fits c.requires.range c.requires.executes words.ensures.first words.ensures.left counts.ensures.within
    (subst (λ head. AreAhead head ahead before) c.head_of-head.ensures c.ahead-in_default.ensures.ahead) reading c.requires.reads (sym c.wants.ensures ∙ c.if-wants.false)
    (not_marked reading.stage c.in_default.not-Content c.in_default.not-Over) counts.ensures.marks

pub returns-in_default-clause-longest : goal.returns-in_default-clause-longest
returns-in_default-clause-longest g c =
    let before = g.D.Drive.state c.args.drive.now in
    let words = c.first_words-words-in_default in
    let counts = c.count_unmarked in
    let ahead = c.ahead-in_default.result.now in
    let reading = c.args.reading.now in
    unmarked_longest c.args.self.now c.args.execution.now c.args.most counts.result before c.requires.executes reading c.requires.reads c.args.most words.result.now ahead words.ensures.first words.ensures.all
    (subst (λ head. AreAhead head ahead before) c.head_of-head.ensures c.ahead-in_default.ensures.ahead) (λ faultless. subst (λ head. length ahead ≡ words_left head before) c.head_of-head.ensures (c.ahead-in_default.ensures.all faultless)) (omega arith)
    (not_marked reading.stage c.in_default.not-Content c.in_default.not-Over) counts.ensures.longest
