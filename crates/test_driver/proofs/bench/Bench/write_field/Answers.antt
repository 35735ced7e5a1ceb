use Rattle.std.proofs.Common.{ap}
use Rattle.test_driver.proofs.Common.{content_size, written_under}
use Rattle.test_driver.proofs.WriteSteps.{bench_writes, bytes_part}
use Rattle.test_driver.proofs.bench.Bench.write_field.Goals as goal

pub returns : goal.returns
returns c =
    let self = c.args.self.now in
    bench_writes self.drives c.take-drive.new.drives c.replace.new.self self.memory.items self.page.items self.counts c.send.new.self c.args.bay c.args.rate _ _
    c.take-drive.result c.write-answer.new.self c.write-answer.result c.requires.bay c.send.ensures c.take-drive.ensures.taken c.take-drive.ensures.left c.replace.ensures.is
    c.write-answer.ensures.same
    (ap (written_under c.args.key c.args.deleted) (bytes_part self.memory.items c.deref.result.now c.args.address c.sector_size-size.result (content_size c.args.key.n) c.deref.ensures.value c.sector_size-size.ensures.size))
    c.write-answer.ensures.writes
