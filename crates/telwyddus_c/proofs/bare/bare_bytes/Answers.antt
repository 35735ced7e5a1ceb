use Rattle.std.proofs.Common.{subst}
use Rattle.telwyddus_c.proofs.Common.{ControllerValue, HasMedium}
use Rattle.telwyddus_c.proofs.Bared.{back_again, ok_both}
use Rattle.telwyddus_c.proofs.bare.bare_bytes.Goals as goal

pub returns-clause-same : goal.returns-clause-same
returns-clause-same c =
    back_again 0 c.args.controller.now c.take_out.new.controller c.exchange.new.controller c.in_ok-first.first
    c.in_ok-first.ensures.done.0 c.in_ok-first.ensures.done.1
    (subst (λ (between : ControllerValue). HasMedium c.in_ok-first.first 0 between c.exchange.new.controller)
    c.bytes_without_second-bytes.ensures.same c.exchange.ensures.has)

pub returns-clause-bytes : goal.returns-clause-bytes
returns-clause-bytes c =
    ok_both c.bytes_without_second-bytes.result (λ it. it.items) c.args.controller.now c.take_out.new.controller
    c.in_ok-first.ensures.done.1 c.bytes_without_second-bytes.ensures.bytes
