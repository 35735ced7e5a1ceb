use Rattle.floppy_session.proofs.Endings.{step_at}
use Rattle.floppy_session.proofs.session.Session.run.Goals as goal

pub returns-in-Ack-clause-step : goal.returns-in-Ack-clause-step
returns-in-Ack-clause-step g c = step_at _ _ _ _ _ _ c.in-Ack.is (c.ack.ensures _)

pub returns-in-Read-clause-step : goal.returns-in-Read-clause-step
returns-in-Read-clause-step g c = step_at _ _ _ _ _ _ c.in-Read.is (c.read.ensures _)

pub returns-in-Write-clause-step : goal.returns-in-Write-clause-step
returns-in-Write-clause-step g c = step_at _ _ _ _ _ _ c.in-Write.is (c.write.ensures _)

pub returns-in-WriteDeleted-clause-step : goal.returns-in-WriteDeleted-clause-step
returns-in-WriteDeleted-clause-step g c = step_at _ _ _ _ _ _ c.in-WriteDeleted.is (c.write_deleted.ensures _)

pub returns-in-Format-clause-step : goal.returns-in-Format-clause-step
returns-in-Format-clause-step g c = step_at _ _ _ _ _ _ c.in-Format.is (c.format.ensures _)

pub returns-in-SetRate-clause-step : goal.returns-in-SetRate-clause-step
returns-in-SetRate-clause-step g c = step_at _ _ _ _ _ _ c.in-SetRate.is (c.set_rate.ensures _)

pub returns-in-Tries-clause-step : goal.returns-in-Tries-clause-step
returns-in-Tries-clause-step g c = step_at _ _ _ _ _ _ c.in-Tries.is (c.set_tries.ensures _)
