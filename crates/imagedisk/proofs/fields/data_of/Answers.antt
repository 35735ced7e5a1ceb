use Rattle.imagedisk.proofs.Held.{is_absent}
use Rattle.imagedisk.proofs.fields.data_of.Goals as goal

pub returns-in_ok-copy-in_default : goal.returns-in_ok-copy-in_default
returns-in_ok-copy-in_default c =
    (is_absent c.args.words.now c.args.field.place c.args.field.key.n c.look_at.result c.look_at.ensures (λ deleted place. c.in_default.not-Found deleted place) c.in_default.not-BadCrc, c.in_ok-copy-in_default.ensures)
