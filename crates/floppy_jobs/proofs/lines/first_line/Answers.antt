use Rattle.std.proofs.Common.{sym, ◌∙◌, length, arith}
use Rattle.std.specs.List.{position_or_len}
use Rattle.std.proofs.lemmas.Bool.Decides.{nat_tests}
use Rattle.std.proofs.lemmas.List.{drop-drop}
use Rattle.floppy_jobs.proofs.LineLemmas.{feed, lines_of-first, lines_of-last, none_past, some_at}
use Rattle.floppy_jobs.proofs.lines.first_line.Goals as goal

pub returns-in-None-clause-split : goal.returns-in-None-clause-split
returns-in-None-clause-split c =
    let text = c.args.text.now in
    lines_of-last text (none_past (position_or_len feed text) (length text) (sym c.line_end.ensures ∙ c.in-None.is))
    (grind (arith, nat_tests))

pub returns-in-Some-clause-split : goal.returns-in-Some-clause-split
returns-in-Some-clause-split c =
    let text = c.args.text.now in
    let at = some_at (position_or_len feed text) (length text) c.in-Some.end (sym c.line_end.ensures ∙ c.in-Some.is) in
    let rest = drop-drop 1 c.in-Some.end text in
    let whole = lines_of-first text at.1 in
    cc
