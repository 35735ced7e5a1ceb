use Rattle.std.proofs.Common.{ap}
use Rattle.sector_desk.proofs.Common.{DriveState, plain_state}
use Rattle.sector_desk.proofs.desk.SectorDesk.new.Goals as goal

pub set_up-station-requires-clause-machine : goal.set_up-station-requires-clause-machine
set_up-station-requires-clause-machine c = record {
  pace = c.no_delays-pace.result;
  bay0 = plain_state c.new.result;
  bay1 = plain_state c.new-2.result;
  first = record { medium = ap (λ (s : DriveState). s.medium) c.new.ensures; change = ap (λ (s : DriveState). s.change) c.new.ensures };
  second = record { medium = ap (λ (s : DriveState). s.medium) c.new-2.ensures; change = ap (λ (s : DriveState). s.change) c.new-2.ensures };
  new = c.in_ok-machine.ensures;
}
