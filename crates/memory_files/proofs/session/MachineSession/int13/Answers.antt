use Rattle.memory_files.proofs.session.MachineSession.int13.Goals as goal

pub returns : goal.returns
returns g c = rw (← c.self.view_is) c.serve.ensures
