use Rattle.std.proofs.Common.{sym, ◌∙◌, arith}
use Rattle.rescue.proofs.TextLemmas.{begins, begins_unended, begins_unread}
use Rattle.rescue.proofs.read.next_line.Goals as goal

pub returns-in_default : goal.returns-in_default
returns-in_default c = begins_unended c.args.sectors c.args.text.now (omega arith) c.in_default.ensures.pieces

pub returns-in-Some-2 : goal.returns-in-Some-2
returns-in-Some-2 c =
    begins c.args.sectors c.args.text.now c.in-Some.line.now c.in-Some.others.now c.in-Some-2.line (omega arith) c.in-Some.ensures.joined
    (sym c.in_ok-line.ensures ∙ c.in-Some-2.is)

pub returns-in-None : goal.returns-in-None
returns-in-None c =
    begins_unread c.args.sectors c.args.text.now c.in-Some.line.now c.in-Some.others.now (omega arith) c.in-Some.ensures.pieces
    (sym c.in_ok-line.ensures ∙ c.in-None.is)
