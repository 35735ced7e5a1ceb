use Rattle.std.proofs.Common.{false, ap, ◌∙◌}
use Rattle.fdc_sequencer.proofs.Common.{adapter_state, front_state, moving_of, Moving, Transfer}
use Rattle.fdc_sequencer.proofs.sequencer.Sequencer.read_field.Goals as goal

pub returns : goal.returns
returns g c =
    let between = adapter_state g.D.Drive.state c.read_field.new.self in
    record {
      between = between;
      reads = record {
        reads = c.read_field.ensures.reads;
        first = ap g.D.Drive.state c.read_field.ensures.drives.first;
        second = ap g.D.Drive.state c.read_field.ensures.drives.second;
      };
      begun = ap (λ moving. record (front_state g.D.Drive.state c.args.self.now) { adapter = between; stage = Moving moving }) c.of.ensures
          ∙ ap (λ (at : Transfer). record (front_state g.D.Drive.state c.args.self.now) { adapter = between; stage = Moving (moving_of at false false) }) c.sector_alone-transfer.ensures;
    }
