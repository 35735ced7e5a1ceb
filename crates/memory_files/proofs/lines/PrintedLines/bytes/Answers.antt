use Rattle.std.proofs.Common.{◌∙◌, sym}
use Rattle.memory_files.proofs.Cuts.{joined-lines}
use Rattle.memory_files.proofs.lines.PrintedLines.bytes.Goals as goal

pub returns : goal.returns
returns c =
    c.as_slice.ensures.value
    ∙ sym (joined-lines c.args.self.now.bytes.items c.args.self.now.lengths.items c.args.self.now.all)
