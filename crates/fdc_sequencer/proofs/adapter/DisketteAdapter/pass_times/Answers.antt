use Rattle.std.proofs.Common.{sym, ap, ◌∙◌}
use Rattle.fdc_sequencer.proofs.Common.{adapter_state, selected_at, nanoseconds, rate_stays_on, times_none}
use Rattle.fdc_sequencer.proofs.adapter.DisketteAdapter.pass_times.Goals as goal

pub returns-then-not-may_leap-clause-passes : goal.returns-then-not-may_leap-clause-passes
returns-then-not-may_leap-clause-passes g c = times_none _ _ _ _

pub invariant_of-self : goal.invariant_of-self
invariant_of-self g c = record {
  at_rate = c.args.self.now.at_rate ∙ sym (ap nanoseconds (rate_stays_on c.pass_word_times.result (selected_at (adapter_state g.D.Drive.state c.args.self.now))
      c.args.self.now.controller (g.D.Drive.state c.args.self.now.first) (g.D.Drive.state c.args.self.now.second)
      c.pass_word_times.new.controller (g.D.Drive.state c.pass_word_times.new.first) (g.D.Drive.state c.pass_word_times.new.second)
      c.pass_word_times.ensures.passes));
}
