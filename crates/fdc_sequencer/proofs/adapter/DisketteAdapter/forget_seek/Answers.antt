use Rattle.std.proofs.Common.{◌∙◌, sym, ap}
use Rattle.fdc_sequencer.proofs.Common.{nanoseconds, data_rate}
use Rattle.fdc_sequencer.proofs.RateLemmas.{without_seek_rate}
use Rattle.fdc_sequencer.proofs.adapter.DisketteAdapter.forget_seek.Goals as goal

pub invariant_of-self : goal.invariant_of-self
invariant_of-self g c = record {
  at_rate = c.args.self.now.at_rate ∙ sym (ap nanoseconds (ap data_rate c.forget_seek.ensures.after ∙ without_seek_rate c.args.self.now.controller));
}
