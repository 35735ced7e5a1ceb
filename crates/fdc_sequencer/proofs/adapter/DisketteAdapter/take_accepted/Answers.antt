use Rattle.std.proofs.Common.{◌∙◌, sym, ap, []}
use Rattle.fdc_sequencer.proofs.Common.{nanoseconds, looked_at}
use Rattle.fdc_sequencer.proofs.RateLemmas.{taken_as}
use Rattle.fdc_sequencer.proofs.adapter.DisketteAdapter.take_accepted.Goals as goal

pub invariant_of-self : goal.invariant_of-self
invariant_of-self g c = record {
  at_rate = c.args.self.now.at_rate ∙ sym (ap nanoseconds (taken_as (looked_at c.args.accepted) _ (record c.args.self.now.controller { command = [] }) _ c.take_accepted.ensures));
}
