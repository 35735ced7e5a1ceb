use Rattle.std.proofs.Common.{◌∙◌}
use Rattle.fdc_sequencer.proofs.RateLemmas.{time_after}
use Rattle.fdc_sequencer.proofs.adapter.DisketteAdapter.write_controller.Goals as goal

pub invariant_of-self : goal.invariant_of-self
invariant_of-self g c = record {
  at_rate = c.word_time_after-self.ensures ∙ time_after c.args.port c.args.value _ c.args.lines _ _ c.write.ensures.writes c.args.self.now.at_rate;
}
