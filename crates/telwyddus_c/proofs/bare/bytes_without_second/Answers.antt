use Rattle.telwyddus_c.proofs.Common.{medium_in, stand_in_for, HasMedium}
use Rattle.telwyddus_c.proofs.Bared.{back_again, ok_second}
use Rattle.telwyddus_c.proofs.bare.bytes_without_second.Goals as goal

pub returns-clause-same : goal.returns-clause-same
returns-clause-same c =
    back_again 1 c.args.controller.now c.take_out.new.controller c.exchange.new.controller c.in_ok-second.second
    c.in_ok-second.ensures.done.0 c.in_ok-second.ensures.done.1 c.exchange.ensures.has

pub returns-clause-bytes : goal.returns-clause-bytes
returns-clause-bytes c =
    ok_second c.save_behind-bytes.result (λ it. it.items) (HasMedium (stand_in_for (medium_in c.args.controller.now 1)) 1 c.args.controller.now)
    c.take_out.new.controller c.in_ok-second.ensures.done.1 c.save_behind-bytes.ensures.fits c.save_behind-bytes.ensures.spelled
