use Rattle.std.proofs.Common.{◌∙◌, sym, arith, slice_index, slice_set, ◌+◌}
use Rattle.fdc_commands.specs.Table.{row_of}
use Rattle.fdc_commands.proofs.Answering.{answer_with_byte, verdict_more, verdict_whole, verdict_none}
use Rattle.fdc_commands.proofs.bytes.CommandBytes.accept.Goals as goal

pub returns-in-Some-clause-accepted : goal.returns-in-Some-clause-accepted
returns-in-Some-clause-accepted c =
    let after = slice_set c.self.inside.bytes c.self.inside.count c.args.byte in
    verdict_more (row_of (slice_index after 0)) (c.self.inside.count + 1) c.in-Some.parameters after
    (sym c.parameter_count.ensures.count ∙ c.in-Some.is) c.if-self-parameters.true
    ∙ answer_with_byte c.self.inside.bytes c.args.self.now c.self.inside.count c.args.byte c.self.view_is (omega arith)

pub returns-in-Some-2-clause-accepted : goal.returns-in-Some-2-clause-accepted
returns-in-Some-2-clause-accepted c =
    let after = slice_set c.self.inside.bytes c.self.inside.count c.args.byte in
    c.whole.ensures.accepted
    ∙ verdict_whole (row_of (slice_index after 0)) (c.self.inside.count + 1) c.in-Some.parameters after
    (sym c.parameter_count.ensures.count ∙ c.in-Some.is) c.if-self-parameters.false
    ∙ answer_with_byte c.self.inside.bytes c.args.self.now c.self.inside.count c.args.byte c.self.view_is (omega arith)

pub returns-in-None-clause-accepted : goal.returns-in-None-clause-accepted
returns-in-None-clause-accepted c =
    let after = slice_set c.self.inside.bytes c.self.inside.count c.args.byte in
    verdict_none (row_of (slice_index after 0)) (c.self.inside.count + 1) after
    (sym c.parameter_count.ensures.count ∙ c.in-None.is)
    ∙ answer_with_byte c.self.inside.bytes c.args.self.now c.self.inside.count c.args.byte c.self.view_is (omega arith)
