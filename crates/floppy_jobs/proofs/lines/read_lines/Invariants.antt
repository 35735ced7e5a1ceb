use Rattle.std.proofs.Common.{◌≡◌, ◌+◌, ◌≤◌, length}
use Rattle.floppy_jobs.specs.Lines.{lines_of, lines_say}
use Rattle.floppy_jobs.proofs.LineLemmas.{in_front}
use Rattle.floppy_jobs.proofs.lines.read_lines.Given as goal

-- the items so far, in front of what the other lines say, are what all lines say
abbrev pub invariant-loop-first : goal.invariant-loop-first
invariant-loop-first g l = record {
  counted : l.line + length l.rest ≤ length l.text;
  small : length l.text ≤ 4194304;
  said : in_front l.items.items (lines_say g.L.Line.spelled l.most_lines (l.line + 1) (lines_of l.rest))
      ≡ lines_say g.L.Line.spelled l.most_lines 1 (lines_of l.text);
}

abbrev pub decreases-loop-first : goal.decreases-loop-first
decreases-loop-first g l = length l.rest
