use Rattle.laws_chip.proofs.Polled.{polls_come, poll_interrupts}
use Rattle.laws_chip.proofs.resets.a_reset_comes_to_its_poll.Goals as goal

pub returns-clause-polls : goal.returns-clause-polls
returns-clause-polls c = polls_come

pub returns-clause-interrupt : goal.returns-clause-interrupt
returns-clause-interrupt c = poll_interrupts
