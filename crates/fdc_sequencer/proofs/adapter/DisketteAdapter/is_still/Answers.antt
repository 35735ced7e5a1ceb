use Rattle.fdc_sequencer.proofs.AdapterStanding.{stands}
use Rattle.fdc_sequencer.proofs.adapter.DisketteAdapter.is_still.Goals as goal

pub returns-clause-still : goal.returns-clause-still
returns-clause-still g c = λ is. stands c.args.self.now.controller (c.is_still.ensures.still is)
