use Rattle.std.proofs.Common.{None, length, ap, arith}
use Rattle.test_driver.proofs.Common.{content_size_bound, Written, FitsKey}
use Rattle.track_model.proofs.Written.{length-window}
use Rattle.test_driver.proofs.WriteSteps.{wrote_absent, field_here, wrote_cut, wrote_whole}
use Rattle.test_driver.proofs.drive.BenchDrive.write.Goals as goal

pub returns-in-Err-clause-writes : goal.returns-in-Err-clause-writes
returns-in-Err-clause-writes c =
    let written : Written = record { key = c.args.key; deleted = c.args.deleted; content = c.args.content.now } in
    let drive = c.args.self.now in
    (None, wrote_absent drive.medium c.args.rate drive.cylinder written c.in-Err.code c.in-Err.ensures)

pub put_window-requires-clause-short : goal.put_window-requires-clause-short
put_window-requires-clause-short c =
    omega (arith, ap length c.fill_field_words.ensures, length-window c.args.deleted c.args.content.now, content_size_bound c.args.key.n c.requires.coded.1)

pub returns-then-put_window-clause-writes : goal.returns-then-put_window-clause-writes
returns-then-put_window-clause-writes c =
    let written : Written = record { key = c.args.key; deleted = c.args.deleted; content = c.args.content.now } in
    let fits : FitsKey written = record { size = c.requires.content; bytes = λ j. let byte = c.type_inv.content j in omega (arith, byte) } in
    let drive = c.args.self.now in
    let d = c.in-Some.medium in
    wrote_whole written fits c.args.rate drive.cylinder c.in-Ok.place d c.put_window.new.medium drive.medium c.in-Some.is (drive.valid d c.in-Some.is)
    (field_here drive.medium c.args.rate drive.cylinder c.args.key c.in-Ok.place d c.in-Ok.ensures c.in-Some.is)
    c.fill_field_words.new.words c.fill_field_words.ensures c.if-put_window.ensures.puts

pub returns-else-put_window-clause-writes : goal.returns-else-put_window-clause-writes
returns-else-put_window-clause-writes c =
    let written : Written = record { key = c.args.key; deleted = c.args.deleted; content = c.args.content.now } in
    let fits : FitsKey written = record { size = c.requires.content; bytes = λ j. let byte = c.type_inv.content j in omega (arith, byte) } in
    let drive = c.args.self.now in
    let d = c.in-Some.medium in
    wrote_cut written fits c.args.rate drive.cylinder c.in-Ok.place d c.put_window.new.medium drive.medium c.in-Some.is (drive.valid d c.in-Some.is)
    (field_here drive.medium c.args.rate drive.cylinder c.args.key c.in-Ok.place d c.in-Ok.ensures c.in-Some.is)
    c.fill_field_words.new.words c.fill_field_words.ensures c.if-put_window.ensures.puts
