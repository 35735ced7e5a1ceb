use Rattle.std.proofs.Common.{rules, ◌≡◌, ◌<◌, ◌≤◌, false, true, refl, sym, ap, ◌∙◌, arith}
use Rattle.drive_model.specs.Drive.{turns, track_words}
use Rattle.drive_model.specs.Mechanics.{state_of}
use Rattle.drive_model.proofs.Alone.{lets_pass_nothing, lets_pass_still, lets_pass_turning}
use Rattle.drive_model.proofs.mechanics.Mechanics.let_pass.Goals as goal

pub returns-then-count-eq0 : goal.returns-then-count-eq0
returns-then-count-eq0 c = λ faults left. lets_pass_nothing c.args.count (state_of c.args.self.now faults left) c.if-count-eq0.true

pub returns-in_default : goal.returns-in_default
returns-in_default c = λ faults left.
    let off : turns (state_of c.args.self.now faults left) ≡ false = rw c.in_default.is (search rules) in
    lets_pass_still c.args.count (state_of c.args.self.now faults left) (omega (arith, c.if-count-eq0.false)) off

pub returns-then-not-self : goal.returns-then-not-self
returns-then-not-self c = λ faults left.
    let off : turns (state_of c.args.self.now faults left) ≡ false = rw c.if-not-self.true refl in
    lets_pass_still c.args.count (state_of c.args.self.now faults left) (omega (arith, c.if-count-eq0.false)) off

pub returns : goal.returns
returns c = λ faults left.
    let s = state_of c.args.self.now faults left in
    let on : turns s ≡ true = rw (c.if-not-self.false, c.in-Some.is) refl in
    let words : c.from-words.result ≡ track_words s.medium =
    c.from-words.ensures ∙ c.words.ensures.value ∙ ap track_words (sym c.in-Some.is) in
    let some : 64 ≤ c.from-words.result = omega (arith, c.from-words.ensures, c.words.ensures.value, c.words.ensures.valid.words_per_track.0) in
    let within : s.place < c.from-words.result = omega (arith, words, some, c.args.self.now.on_the_track) in
    lets_pass_turning c.args.count c.min-spinning.result c.from-words.result _ _ s
    (omega (arith, c.if-count-eq0.false)) on words within c.args.self.now.spun_up
    (rw c.from.ensures at c.min-spinning.ensures) refl (rw (c.from-2.ensures, c.from-3.ensures) refl)
