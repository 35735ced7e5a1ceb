use Rattle.std.proofs.Common.{arith}
use Rattle.sector_map.proofs.Common.{written_under, change_at}
use Rattle.sector_map.proofs.Writable.{FitsKey}
use Rattle.sector_map.proofs.Changed.{change_keeps_sectors, disk_is_written, written_on_map}
use Rattle.sector_map.proofs.Joined.{join_on_disk}
use Rattle.sector_map.proofs.laws.changes.change_keeps.Goals as goal

pub returns-clause-sectors : goal.returns-clause-sectors
returns-clause-sectors c =
    let written = written_under c.args._key c.args._deleted c.args._content.now in
    let fits : FitsKey written = record { size = c.requires.size; bytes = λ j. let byte = c.type_inv._content j in omega (arith, byte) } in
    change_keeps_sectors written c.args._medium.now (change_at c.args._cylinder c.args._place c.args._words) c.args._after.now
    c.requires.change c.requires.regular fits c.requires.safe

pub returns-clause-written : goal.returns-clause-written
returns-clause-written c = λ whole.
    let written = written_under c.args._key c.args._deleted c.args._content.now in
    let fits : FitsKey written = record { size = c.requires.size; bytes = λ j. let byte = c.type_inv._content j in omega (arith, byte) } in
    disk_is_written written c.args._medium.now (change_at c.args._cylinder c.args._place c.args._words) c.args._after.now
    c.requires.change c.requires.regular fits whole

pub returns-clause-entry : goal.returns-clause-entry
returns-clause-entry c = λ whole.
    let written = written_under c.args._key c.args._deleted c.args._content.now in
    let fits : FitsKey written = record { size = c.requires.size; bytes = λ j. let byte = c.type_inv._content j in omega (arith, byte) } in
    written_on_map written c.args._medium.now (change_at c.args._cylinder c.args._place c.args._words) c.args._after.now
    c.requires.change c.requires.regular fits whole

pub returns-clause-later : goal.returns-clause-later
returns-clause-later c = λ change last second.
    let written = written_under c.args._key c.args._deleted c.args._content.now in
    let fits : FitsKey written = record { size = c.requires.size; bytes = λ j. let byte = c.type_inv._content j in omega (arith, byte) } in
    join_on_disk written c.args._medium.now (change_at c.args._cylinder c.args._place c.args._words) c.args._after.now change last
    c.requires.change second fits c.requires.safe c.requires.regular
