use Rattle.std.proofs.Common.{◌∙◌, sym}
use Rattle.memory_files.proofs.Cuts.{lengths-lines}
use Rattle.memory_files.proofs.lines.PrintedLines.lengths.Goals as goal

pub returns : goal.returns
returns c =
    c.as_slice.ensures.value
    ∙ sym (lengths-lines c.args.self.now.bytes.items c.args.self.now.lengths.items c.args.self.now.all)
