use Rattle.std.proofs.Common.{sym, ◌∙◌}
use Rattle.rescue.proofs.TextLemmas.{pieces_of-whole, first_piece}
use Rattle.rescue.proofs.read.split_line.Goals as goal

pub returns-in_err-line_end-clause-pieces : goal.returns-in_err-line_end-clause-pieces
returns-in_err-line_end-clause-pieces c =
    rw c.from_residual.ensures (pieces_of-whole c.args.text.now (sym c.line_end.ensures ∙ c.in_err-line_end.was))

pub returns-clause-pieces : goal.returns-clause-pieces
returns-clause-pieces c =
    (first_piece c.args.text.now c.split_at.result.0.now c.split_at.result.1.now c.split_at-2.result.1.now c.in_ok-line_end.field-0
    (sym c.line_end.ensures ∙ c.in_ok-line_end.was) c.split_at.ensures.front c.split_at.ensures.back c.split_at-2.ensures.back).0

pub returns-clause-joined : goal.returns-clause-joined
returns-clause-joined c =
    (first_piece c.args.text.now c.split_at.result.0.now c.split_at.result.1.now c.split_at-2.result.1.now c.in_ok-line_end.field-0
    (sym c.line_end.ensures ∙ c.in_ok-line_end.was) c.split_at.ensures.front c.split_at.ensures.back c.split_at-2.ensures.back).1
