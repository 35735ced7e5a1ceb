use Rattle.imagedisk.proofs.Held.{damaged_inside}
use Rattle.imagedisk.proofs.fields.damaged_data.Goals as goal

pub content_bytes-requires-clause-inside : goal.content_bytes-requires-clause-inside
content_bytes-requires-clause-inside c =
    let mark = c.in-Some.ensures in
    rw mark.1 (damaged_inside c.args.words.now c.args.field.place c.args.field.key.n c.in-Some.deleted mark.0 c.requires.damaged mark.2)
