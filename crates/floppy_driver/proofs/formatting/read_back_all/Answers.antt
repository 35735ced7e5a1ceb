use Rattle.std.proofs.Common.{arith, ◌+◌, ◌-◌, rules}
use Rattle.floppy_driver.proofs.Common.{common_steps, err_from_is_err_and, sectors_at, track_under, key_of, IsBlankUnder, HoldsRecord, HoldsRecords}
use Rattle.floppy_driver.proofs.Lasting.{costs_fewer, costs_next}
use Rattle.floppy_driver.proofs.ReadBacks.{reads_failed, held_next, blank_next}
use Rattle.floppy_driver.proofs.formatting.read_back_all.Goals as goal

pub returns-in_err-read_back_filled-clause-reads : goal.returns-in_err-read_back_filled-clause-reads
returns-in_err-read_back_filled-clause-reads g c =
    let p = err_from_is_err_and c.from_residual.result c.from_residual.ensures.1 in
    let asked = c.args.asked in
    let old = g.C.Commands.rig c.args.machine.now in
    let middle = g.C.Commands.rig c.loop-r.machine in
    let new = g.C.Commands.rig c.read_back_filled.new.machine in
    let so_far = c.loop-r.invariant.reads in
    rw (p.1, p.2)
    (reads_failed old middle new c.args.bay (c.loop-r.r - 1) (sectors_at asked.rate)
    (IsBlankUnder old c.args.bay asked.rate asked.h) (IsBlankUnder middle c.args.bay asked.rate asked.h)
    (HoldsRecords (track_under old c.args.bay asked.rate asked.h) asked.c asked.h (sectors_at asked.rate) asked.fill)
    (HoldsRecord (track_under middle c.args.bay asked.rate asked.h) (key_of asked.c asked.h c.loop-r.r) asked.fill)
    c.in_err-read_back_filled.field-0.0 (omega arith)
    (blank_next old middle c.args.bay asked.rate asked.h so_far.heads so_far.media)
    (held_next old middle c.args.bay asked.rate asked.c asked.h (sectors_at asked.rate) asked.fill c.loop-r.r so_far.heads so_far.media (omega arith) (omega arith))
    so_far c.in_err-read_back_filled.ensures.reads)

pub loop-r-preserved : goal.loop-r-preserved
loop-r-preserved g c =
    let cost =
    costs_next c.args.bay 2 261 29 (c.loop-r.r - 1) (c.loop-r.r + 1 - 1) _ _ _ (omega arith) c.loop-r.invariant.cost c.read_back_filled.ensures.costs in
    first_of (search rules, grind (arith, common_steps))

pub returns-in_err-read_back_filled-clause-costs : goal.returns-in_err-read_back_filled-clause-costs
returns-in_err-read_back_filled-clause-costs g c =
    costs_fewer c.args.bay 2 261 29 c.loop-r.r (sectors_at c.args.asked.rate) _ _ (omega arith)
    (costs_next c.args.bay 2 261 29 (c.loop-r.r - 1) c.loop-r.r _ _ _ (omega arith) c.loop-r.invariant.cost c.read_back_filled.ensures.costs)

pub returns-clause-costs : goal.returns-clause-costs
returns-clause-costs g c =
    costs_fewer c.args.bay 2 261 29 (c.loop-r.r - 1) (sectors_at c.args.asked.rate) _ _ (omega arith) c.loop-r.invariant.cost
