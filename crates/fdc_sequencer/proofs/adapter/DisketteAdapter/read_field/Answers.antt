use Rattle.std.proofs.Common.{◌∙◌, sym, ap}
use Rattle.fdc_sequencer.proofs.Common.{data_rate, Fdc, nanoseconds}
use Rattle.fdc_sequencer.proofs.adapter.DisketteAdapter.read_field.Goals as goal

pub invariant_of-self : goal.invariant_of-self
invariant_of-self g c = record {
  at_rate = c.args.self.now.at_rate ∙ sym (ap (λ (fdc : Fdc). nanoseconds (data_rate fdc)) c.read_field.ensures.2);
}
