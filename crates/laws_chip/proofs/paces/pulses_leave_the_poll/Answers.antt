use Rattle.laws_chip.proofs.Paced.{paces_take, poll_told, pulse_untold}
use Rattle.laws_chip.proofs.paces.pulses_leave_the_poll.Goals as goal

pub returns-clause-polls : goal.returns-clause-polls
returns-clause-polls c = poll_told

pub returns-clause-pulses : goal.returns-clause-pulses
returns-clause-pulses c = pulse_untold

pub returns-clause-taken : goal.returns-clause-taken
returns-clause-taken c = paces_take
