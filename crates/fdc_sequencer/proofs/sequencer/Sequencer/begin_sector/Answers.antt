use Rattle.std.proofs.Common.{ap, ◌∙◌}
use Rattle.fdc_sequencer.proofs.Common.{adapter_state, is_executing, front_state}
use Rattle.fdc_sequencer.proofs.Begun.{begun_over}
use Rattle.fdc_sequencer.proofs.sequencer.Sequencer.begin_sector.Goals as goal

pub returns : goal.returns
returns g c =
    let between = adapter_state g.D.Drive.state c.take_accepted.new.self in
    record {
      between = between;
      takes = record {
        takes = rw c.command.ensures at c.take_accepted.ensures.takes;
        first = ap g.D.Drive.state c.take_accepted.ensures.drives.first;
        second = ap g.D.Drive.state c.take_accepted.ensures.drives.second;
      };
      begun = c.follow_begun.ensures
          ∙ begun_over (is_executing between.controller.phase) c.args.transfer c.args.counted c.args.passed_over between (front_state g.D.Drive.state c.args.self.now);
    }
