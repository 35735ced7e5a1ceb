use Rattle.std.proofs.Common.{subst}
use Rattle.bios_int13.proofs.Common.{Work, DoesWork}
use Rattle.bios_int13.proofs.service.serve.Goals as goal

pub returns : goal.returns
returns g c = λ told.
    let does = c.do_work-code.ensures.does told in (
      does.0,
      record {
        code = c.do_work-code.result.code;
        moved = c.do_work-code.result.moved;
        work = subst (λ (w : Work). DoesWork w c.args.session.now told does.0 c.do_work-code.result.code c.do_work-code.result.moved
            c.do_work-code.new.session) c.plan.ensures.work does.1;
        answer = record {
          in_ah = c.finish.ensures.in_ah;
          in_al = c.finish.ensures.in_al;
          in_bx = c.finish.ensures.in_bx;
          in_cx = c.finish.ensures.in_cx;
          in_dx = c.finish.ensures.in_dx;
          in_es = c.finish.ensures.in_es;
          carry = c.finish.ensures.carry;
          kept_is = c.finish.ensures.status;
        };
      },
    )
