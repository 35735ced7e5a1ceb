use Rattle.std.proofs.Common.{◌∙◌, ◌++◌, [], ℕ, List, ap}
use Rattle.memory_files.specs.Lines.{lines_in}
use Rattle.memory_files.proofs.Cuts.{lines-more}
use Rattle.memory_files.proofs.lines.PrintedLines.push.Goals as goal

pub returns-in-Ok-clause-ok : goal.returns-in-Ok-clause-ok
returns-in-Ok-clause-ok c =
    ap (λ (bytes : List ℕ). lines_in bytes c.push.new.self.items) c.in_ok-extend_from_slice.ensures.items
    ∙ ap (lines_in (c.args.self.now.bytes.items ++ c.args.line.now)) c.in-Ok.ensures.items
    ∙ lines-more c.args.self.now.bytes.items c.args.line.now c.args.self.now.lengths.items c.args.self.now.all
