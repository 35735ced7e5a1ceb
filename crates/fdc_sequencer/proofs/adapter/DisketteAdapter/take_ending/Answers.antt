use Rattle.std.proofs.Common.{◌∙◌, sym, ap}
use Rattle.fdc_sequencer.proofs.Common.{nanoseconds, data_rate}
use Rattle.fdc_sequencer.proofs.RateLemmas.{given_up_rate}
use Rattle.fdc_sequencer.proofs.adapter.DisketteAdapter.take_ending.Goals as goal

pub invariant_of-self : goal.invariant_of-self
invariant_of-self g c = record {
  at_rate = c.args.self.now.at_rate ∙ sym (ap nanoseconds (ap data_rate c.take_ending.ensures.after ∙ given_up_rate c.args.self.now.controller));
}
