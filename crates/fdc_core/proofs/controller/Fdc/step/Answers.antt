use Rattle.fdc_core.proofs.Common.{at_index}
use Rattle.fdc_core.proofs.Feeding.{polled_hears, polled_writes, polled_feeds}
use Rattle.fdc_core.proofs.Staying.{polled_stays}
use Rattle.fdc_core.proofs.Waiting.{polled_lasts}
use Rattle.fdc_core.proofs.controller.Fdc.step.Goals as goal

pub returns-clause-reads : goal.returns-clause-reads
returns-clause-reads g c =
    let drive = g.D.Drive.state c.args.drive.now in
    polled_hears (at_index drive) c.args.self.now c.poll.new.self c.advance.new.self drive (g.D.Drive.state c.advance.new.drive) c.poll.ensures.state c.advance.ensures.reads

pub returns-clause-stays : goal.returns-clause-stays
returns-clause-stays g c = polled_stays c.args.self.now c.poll.new.self c.advance.new.self c.poll.ensures.state c.advance.ensures.stays

pub returns-clause-writes : goal.returns-clause-writes
returns-clause-writes g c =
    polled_writes c.args.self.now c.poll.new.self c.advance.new.self (g.D.Drive.state c.args.drive.now) (g.D.Drive.state c.advance.new.drive) c.poll.ensures.state c.advance.ensures.writes

pub returns-clause-lasts : goal.returns-clause-lasts
returns-clause-lasts g c = polled_lasts c.args.self.now c.poll.new.self c.advance.new.self c.poll.ensures.state c.advance.ensures.lasts

pub returns-clause-feeds : goal.returns-clause-feeds
returns-clause-feeds g c = polled_feeds c.args.self.now c.poll.new.self c.advance.new.self c.poll.ensures.state c.advance.ensures.feeds
