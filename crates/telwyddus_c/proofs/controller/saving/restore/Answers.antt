use Rattle.telwyddus_c.proofs.controller.saving.restore.Goals as goal

pub returns-in-Ok : goal.returns-in-Ok
returns-in-Ok c = (_, c.put.ensures, c.in-Ok.ensures)
