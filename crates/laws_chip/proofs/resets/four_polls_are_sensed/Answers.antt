use Rattle.laws_chip.proofs.Polled.{poll_sends, poll_status, poll_cylinder, poll_steps}
use Rattle.laws_chip.proofs.resets.four_polls_are_sensed.Goals as goal

pub returns-clause-sends : goal.returns-clause-sends
returns-clause-sends c = poll_sends

pub returns-clause-status : goal.returns-clause-status
returns-clause-status c = poll_status

pub returns-clause-cylinder : goal.returns-clause-cylinder
returns-clause-cylinder c = poll_cylinder

pub returns-clause-steps : goal.returns-clause-steps
returns-clause-steps c = poll_steps
