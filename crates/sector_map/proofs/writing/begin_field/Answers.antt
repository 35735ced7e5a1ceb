use Rattle.std.proofs.Common.{false, [], ◌++◌, replicate, ap, ◌∙◌, arith}
use Rattle.sector_map.proofs.Common.{legal}
use Rattle.sector_map.proofs.Pushed.{begun}
use Rattle.sector_map.proofs.writing.begin_field.Goals as goal

pub returns : goal.returns
returns c =
    begun c.fill_bytes.new.words c.args.words.now (replicate 12 0) c.copy_from_slice.new.self c.fill_bytes.result (omega arith) (omega arith) (c.fill_bytes.ensures [])
    ∙ ap (λ marks. legal false (replicate 12 0) ++ marks) c.copy_from_slice.ensures.after
