use Rattle.std.proofs.Common.{arith, ◌∙◌}
use Rattle.remaster.proofs.Common.{err_from_is_err_and, IsUnfitIn}
use Rattle.remaster.proofs.Disks.{err_goes_on, heads_more, unfit_in}
use Rattle.remaster.proofs.disk.remaster_cylinder.Goals as goal

pub returns-in_err-remaster_on-clause-unfit : goal.returns-in_err-remaster_on-clause-unfit
returns-in_err-remaster_on-clause-unfit c =
    let disk = c.args.medium.now in
    let p = err_from_is_err_and c.from_residual.result c.from_residual.ensures.1 in
    let value = c.heads-h-end.ensures.value in
    err_goes_on (IsUnfitIn disk c.args.c) c.from_residual.result c.in_err-remaster_on.field-0.0 p.0 p.1 p.2
    (unfit_in disk c.loop-h.after c.args.c c.loop-h.h c.in_err-remaster_on.field-0.0 (omega arith) c.loop-h.invariant.done c.in_err-remaster_on.ensures.unfit)

pub loop-h-preserved : goal.loop-h-preserved
loop-h-preserved c =
    let disk = c.args.medium.now in
    let value = c.heads-h-end.ensures.value in
    record {
      shape = c.remaster_on.ensures.shape;
      done = heads_more disk c.loop-h.after c.remaster_on.new.after c.args.c c.loop-h.h c.loop-h.invariant.done c.requires.cylinder (omega arith) c.in_ok-remaster_on.ensures.done c.in_ok-remaster_on.ensures.others;
      others = λ b g has apart. c.in_ok-remaster_on.ensures.others b g has (λ same head. apart same) ∙ c.loop-h.invariant.others b g has apart;
    }
