use Rattle.drive_model.proofs.Saved.{gives_medium}
use Rattle.drive_model.proofs.media.load_medium.Goals as goal

pub returns-clause-gives : goal.returns-clause-gives
returns-clause-gives c =
    gives_medium c.load_image.result _ _ _ _ _ c.byte.ensures.gives c.if-byte-ne1.false c.load_bytes-bytes.ensures.gives c.load_image.ensures.only
