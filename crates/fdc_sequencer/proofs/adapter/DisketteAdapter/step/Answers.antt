use Rattle.std.proofs.Common.{sym, ap, ◌∙◌}
use Rattle.fdc_sequencer.proofs.Common.{adapter_state, selected_at, nanoseconds, rate_stays}
use Rattle.fdc_sequencer.proofs.adapter.DisketteAdapter.step.Goals as goal

pub invariant_of-self : goal.invariant_of-self
invariant_of-self g c = record {
  at_rate = c.args.self.now.at_rate ∙ sym (ap nanoseconds (rate_stays (selected_at (adapter_state g.D.Drive.state c.args.self.now))
      c.args.self.now.controller (g.D.Drive.state c.args.self.now.first) (g.D.Drive.state c.args.self.now.second)
      c.pass_word_time.new.controller (g.D.Drive.state c.pass_word_time.new.first) (g.D.Drive.state c.pass_word_time.new.second)
      c.pass_word_time.ensures));
}
