use Rattle.std.proofs.Common.{arith}
use Rattle.sector_map.proofs.Looked.{field_outside}
use Rattle.sector_map.proofs.looking.look_at.Goals as goal

pub returns-in_default : goal.returns-in_default
returns-in_default c = λ q deleted field. c.in_default.ensures q deleted field.first.mark

pub returns-then-content-sector_size : goal.returns-then-content-sector_size
returns-then-content-sector_size c =
    field_outside c.args.words.now c.args.place c.args.n c.in-Some.mark.place c.in-Some.mark.deleted c.in-Some.ensures (omega arith)
