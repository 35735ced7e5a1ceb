use Rattle.telwyddus_c.proofs.controller.saving.telwyddus_controller_restore.Goals as goal

pub returns-clause-restores : goal.returns-clause-restores
returns-clause-restores c = rw c.tell_lines.ensures.stays c.restore-code.ensures

pub returns-clause-told : goal.returns-clause-told
returns-clause-told c = rw c.tell_lines.ensures.stays c.tell_lines.ensures.told
