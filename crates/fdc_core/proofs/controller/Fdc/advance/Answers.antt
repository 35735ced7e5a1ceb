use Rattle.fdc_core.proofs.Common.{at_index}
use Rattle.std.proofs.Common.{◌==◌}
use Rattle.fdc_core.proofs.Staying.{executes_left, executes_stays, executes_flows, executes_moves, executes_feeds}
use Rattle.fdc_core.proofs.Feeding.{executes_hears, rests_hears, executes_writes, rests_writes, rest_feeds}
use Rattle.fdc_core.proofs.Waiting.{executes_lasts}
use Rattle.fdc_core.proofs.Words.{steps_are}
use Rattle.fdc_core.proofs.controller.Fdc.advance.Goals as goal

pub returns-in-Execute-clause-reads : goal.returns-in-Execute-clause-reads
returns-in-Execute-clause-reads g c =
    executes_hears c.args.self.now c.execute.new.self (g.D.Drive.state c.args.drive.now) (g.D.Drive.state c.execute.new.drive) c.in-Execute.execution c.in-Execute.is (steps_are c.args.self.now c.execute.new.self (g.D.Drive.state c.args.drive.now) (g.D.Drive.state c.execute.new.drive) c.in-Execute.execution c.in-Execute.is c.execute.ensures)

pub returns-in-Execute-clause-drive : goal.returns-in-Execute-clause-drive
returns-in-Execute-clause-drive g c =
    executes_moves c.args.self.now c.execute.new.self (g.D.Drive.state c.args.drive.now) (g.D.Drive.state c.execute.new.drive) c.in-Execute.execution c.in-Execute.is (steps_are c.args.self.now c.execute.new.self (g.D.Drive.state c.args.drive.now) (g.D.Drive.state c.execute.new.drive) c.in-Execute.execution c.in-Execute.is c.execute.ensures)

pub returns-in-Execute-clause-ends : goal.returns-in-Execute-clause-ends
returns-in-Execute-clause-ends g c =
    executes_left c.args.self.now c.execute.new.self (g.D.Drive.state c.args.drive.now) (g.D.Drive.state c.execute.new.drive) c.in-Execute.execution c.in-Execute.is (steps_are c.args.self.now c.execute.new.self (g.D.Drive.state c.args.drive.now) (g.D.Drive.state c.execute.new.drive) c.in-Execute.execution c.in-Execute.is c.execute.ensures)

pub returns-in-Execute-clause-stays : goal.returns-in-Execute-clause-stays
returns-in-Execute-clause-stays g c =
    executes_stays c.args.self.now c.execute.new.self (g.D.Drive.state c.args.drive.now) (g.D.Drive.state c.execute.new.drive) c.in-Execute.execution c.in-Execute.is (steps_are c.args.self.now c.execute.new.self (g.D.Drive.state c.args.drive.now) (g.D.Drive.state c.execute.new.drive) c.in-Execute.execution c.in-Execute.is c.execute.ensures)

pub returns-in-Execute-clause-flows : goal.returns-in-Execute-clause-flows
returns-in-Execute-clause-flows g c =
    executes_flows c.args.self.now c.execute.new.self (g.D.Drive.state c.args.drive.now) (g.D.Drive.state c.execute.new.drive) c.in-Execute.execution c.in-Execute.is (steps_are c.args.self.now c.execute.new.self (g.D.Drive.state c.args.drive.now) (g.D.Drive.state c.execute.new.drive) c.in-Execute.execution c.in-Execute.is c.execute.ensures)

pub returns-in_default-clause-reads : goal.returns-in_default-clause-reads
returns-in_default-clause-reads g c =
    let drive = g.D.Drive.state c.args.drive.now in
    rests_hears (drive.cylinder == 0) (at_index drive) c.args.self.now c.rest.new.self drive (g.D.Drive.state c.rest.new.drive) c.rest.ensures.state c.in_default.not-Execute

pub returns-in-Execute-clause-writes : goal.returns-in-Execute-clause-writes
returns-in-Execute-clause-writes g c =
    executes_writes c.args.self.now c.execute.new.self (g.D.Drive.state c.args.drive.now) (g.D.Drive.state c.execute.new.drive) c.in-Execute.execution c.in-Execute.is (steps_are c.args.self.now c.execute.new.self (g.D.Drive.state c.args.drive.now) (g.D.Drive.state c.execute.new.drive) c.in-Execute.execution c.in-Execute.is c.execute.ensures)

pub returns-in_default-clause-writes : goal.returns-in_default-clause-writes
returns-in_default-clause-writes g c =
    let drive = g.D.Drive.state c.args.drive.now in
    rests_writes (drive.cylinder == 0) c.args.self.now c.rest.new.self drive (g.D.Drive.state c.rest.new.drive) c.rest.ensures.state c.in_default.not-Execute

pub returns-in-Execute-clause-lasts : goal.returns-in-Execute-clause-lasts
returns-in-Execute-clause-lasts g c =
    executes_lasts c.args.self.now c.execute.new.self (g.D.Drive.state c.args.drive.now) (g.D.Drive.state c.execute.new.drive) c.in-Execute.execution c.in-Execute.is (steps_are c.args.self.now c.execute.new.self (g.D.Drive.state c.args.drive.now) (g.D.Drive.state c.execute.new.drive) c.in-Execute.execution c.in-Execute.is c.execute.ensures)

pub returns-in-Execute-clause-feeds : goal.returns-in-Execute-clause-feeds
returns-in-Execute-clause-feeds g c =
    executes_feeds c.args.self.now c.execute.new.self (g.D.Drive.state c.args.drive.now) (g.D.Drive.state c.execute.new.drive) c.in-Execute.execution c.in-Execute.is (steps_are c.args.self.now c.execute.new.self (g.D.Drive.state c.args.drive.now) (g.D.Drive.state c.execute.new.drive) c.in-Execute.execution c.in-Execute.is c.execute.ensures)

pub returns-in_default-clause-feeds : goal.returns-in_default-clause-feeds
returns-in_default-clause-feeds g c =
    let drive = g.D.Drive.state c.args.drive.now in rest_feeds (drive.cylinder == 0) c.args.self.now c.rest.new.self c.rest.ensures.state
