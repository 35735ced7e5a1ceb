use Rattle.memory_files.proofs.session.MachineSession.end.Goals as goal

pub returns-clause-stop : goal.returns-clause-stop
returns-clause-stop g c = rw (← c.self.view_is) c.end.ensures.stop
