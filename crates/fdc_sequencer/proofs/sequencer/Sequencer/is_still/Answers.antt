use Rattle.std.proofs.Common.{sym, ◌∙◌}
use Rattle.fdc_sequencer.proofs.Common.{front_state}
use Rattle.fdc_sequencer.proofs.Standing.{stands_front}
use Rattle.fdc_sequencer.proofs.sequencer.Sequencer.is_still.Goals as goal

pub returns-then-rests-clause-still : goal.returns-then-rests-clause-still
returns-then-rests-clause-still g c = λ is.
    stands_front (front_state g.D.Drive.state c.args.self.now) (sym c.rests.ensures ∙ c.if-rests.true) (c.is_still.ensures.still is)
