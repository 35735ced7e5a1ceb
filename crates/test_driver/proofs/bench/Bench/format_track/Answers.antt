use Rattle.test_driver.proofs.FormatSteps.{bench_formats}
use Rattle.test_driver.proofs.bench.Bench.format_track.Goals as goal

pub returns : goal.returns
returns c =
    let self = c.args.self.now in
    bench_formats self.drives c.take-drive.new.drives c.replace.new.self self.memory.items self.page.items self.counts c.send.new.self c.args.bay _
    c.take-drive.result c.format-answer.new.self c.format-answer.result c.requires.bay c.send.ensures c.take-drive.ensures.taken c.take-drive.ensures.left c.replace.ensures.is
    c.format-answer.ensures.same c.format-answer.ensures.formats
