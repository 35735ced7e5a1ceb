use Rattle.std.proofs.Common.{◌∙◌, ap, sym, List, ℕ, [], ◌++◌, ◌∷◌}
use Rattle.imagedisk.proofs.Common.{bytes_at}
use Rattle.imagedisk.proofs.Held.{one_more_byte}
use Rattle.imagedisk.proofs.fields.content_bytes.Goals as goal

pub loop-i-preserved : goal.loop-i-preserved
loop-i-preserved c =
    c.in_ok-push.ensures.items ∙ ap (λ (bytes : List ℕ). bytes ++ c.content_byte.result ∷ []) c.loop-i.invariant
    ∙ ap (λ (byte : ℕ). bytes_at c.args.words.now c.args.place c.loop-i.i ++ byte ∷ []) c.content_byte.ensures ∙ sym (one_more_byte c.args.words.now c.args.place c.loop-i.i)
