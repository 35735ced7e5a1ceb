use Rattle.std.proofs.Common.{arith}
use Rattle.remaster.proofs.Common.{err_from_is_err_and}
use Rattle.remaster.proofs.Disks.{cylinders_more, first_unfit}
use Rattle.remaster.proofs.disk.remaster.Goals as goal

pub returns-in_err-remaster_cylinder : goal.returns-in_err-remaster_cylinder
returns-in_err-remaster_cylinder c =
    let disk = c.args.medium.now in
    let p = err_from_is_err_and c.from_residual-in_err-remaster_cylinder.result c.from_residual-in_err-remaster_cylinder.ensures.1 in
    let value = c.cylinders-c-end.ensures.value in
    rw (p.1, p.2)
    (first_unfit disk c.loop-c.after c.loop-c.c c.in_err-remaster_cylinder.field-0.0 (omega arith) c.loop-c.invariant.done c.in_err-remaster_cylinder.ensures.unfit)

pub loop-c-preserved : goal.loop-c-preserved
loop-c-preserved c =
    let disk = c.args.medium.now in
    let value = c.cylinders-c-end.ensures.value in
    record {
      shape = c.remaster_cylinder.ensures.shape;
      done = cylinders_more disk c.loop-c.after c.remaster_cylinder.new.after c.loop-c.c c.loop-c.invariant.done (omega arith) c.in_ok-remaster_cylinder.ensures.done c.in_ok-remaster_cylinder.ensures.others;
    }
