use Rattle.std.proofs.Common.{◌∙◌, ap, ◌-◌, length, min, arith}
use Rattle.test_driver.proofs.Common.{length-track_of}
use Rattle.test_driver.proofs.Putting.{put_cut}
use Rattle.test_driver.proofs.writing.put_window.Goals as goal

pub window_word-start-requires : goal.window_word-start-requires
window_word-start-requires c =
    let inside = c.requires.address.sound.inside in
    omega (arith, length-track_of c.args.medium.now c.args.c c.args.key.h c.words.ensures.valid c.requires.track)

pub returns-clause-puts : goal.returns-clause-puts
returns-clause-puts c =
    put_cut c.args.medium.now c.args.c c.args.key.h c.args.place c.window_word-start.result c.min-cut.result c.args.words.now c.set_words.new.self
    c.words.ensures.valid c.requires.track c.window_word-start.ensures (omega arith)
    (c.min-cut.ensures ∙ ap (λ n. min (length c.args.words.now) (n - c.window_word-start.result)) (c.from-length.ensures ∙ c.words.ensures.value)) c.set_words.ensures.becomes
