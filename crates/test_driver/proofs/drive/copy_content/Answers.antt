use Rattle.std.proofs.Common.{◌++◌, ◌∷◌, [], ap, sym, ◌∙◌, arith}
use Rattle.test_driver.proofs.Common.{take_more_set, bytes_at}
use Rattle.track_model.proofs.Places.{bytes_at-more}
use Rattle.test_driver.proofs.drive.copy_content.Goals as goal

pub loop-i-preserved : goal.loop-i-preserved
loop-i-preserved c =
    let track = c.args.track.now in
    let i = c.loop-i.i in
    take_more_set c.loop-i.content i c.content_byte.result (omega arith)
    ∙ ap (λ bytes. bytes ++ c.content_byte.result ∷ []) c.loop-i.invariant
    ∙ ap (λ byte. bytes_at track c.args.place i ++ byte ∷ []) c.content_byte.ensures
    ∙ sym (bytes_at-more track c.args.place i)
