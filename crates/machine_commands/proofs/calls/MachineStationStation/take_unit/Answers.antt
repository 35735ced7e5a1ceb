use Rattle.std.proofs.Common.{length, sym}
use Rattle.std.specs.Prelude.{◌∷◌, None}
use Rattle.machine_commands.proofs.Common.{All-head, All-rest, All-same, IsEmpty, fresh_bay, counts_of, rig_shown, flags_of, flags_shown, all_counts, station_shown}
use Rattle.floppy_driver.specs.Shown.{shown}
use Rattle.machine_commands.proofs.Selecting.{flags_set}
use Rattle.machine_commands.proofs.StationHandling.{attached_unit}
use Rattle.machine_commands.proofs.Landing.{unit_taken, flags_unit}
use Rattle.machine_commands.proofs.calls.MachineStationStation.take_unit.Goals as goal

pub exchange-requires-clause-empty : goal.exchange-requires-clause-empty
exchange-requires-clause-empty g c =
    let state = g.D.Drive.state in
    let rest = c.pop_front.new.self.items in
    All-head (λ drive. IsEmpty (state drive)) c.in-Some.drive rest
    (All-same (λ drive. IsEmpty (state drive)) (c.in-Some.drive ∷ rest) c.args.self.now.spare.items (sym c.in-Some.ensures.items) c.requires.ready.spare)

pub returns-clause-step : goal.returns-clause-step
returns-clause-step g c =
    let state = g.D.Drive.state in
    let self = c.args.self.now in
    unit_taken state self.driver (rig_shown state self.machine) (rig_shown state c.exchange.new.self) c.args.bay c.in-Some.drive self.spare.items c.pop_front.new.self.items c.in-Some.ensures.items c.exchange.ensures.step

pub returns-clause-ready : goal.returns-clause-ready
returns-clause-ready g c =
    let state = g.D.Drive.state in
    let self = c.args.self.now in
    let rest = c.pop_front.new.self.items in
    let old = station_shown state self in
    let new = shown self.driver (rig_shown state c.exchange.new.self) (length rest) (all_counts state rest) in
    record {
      idle = c.exchange.ensures.idle c.requires.ready.idle;
      attached = attached_unit self.driver (rig_shown state self.machine) (rig_shown state c.exchange.new.self) c.args.bay (counts_of (state c.in-Some.drive)) c.requires.bay c.exchange.ensures.step c.requires.ready.attached;
      flags = flags_set self.flags.bays c.exchange_drive.new.self.bays c.args.bay (flags_shown old) (flags_shown new)
          (flags_of (fresh_bay None)) c.exchange_drive.ensures c.requires.ready.flags
          (flags_unit old c.args.bay new (unit_taken state self.driver (rig_shown state self.machine) (rig_shown state c.exchange.new.self) c.args.bay c.in-Some.drive self.spare.items rest c.in-Some.ensures.items c.exchange.ensures.step));
      spare = All-rest (λ drive. IsEmpty (state drive)) c.in-Some.drive rest self.spare.items c.in-Some.ensures.items c.requires.ready.spare;
    }
