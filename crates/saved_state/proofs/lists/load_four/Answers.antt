use Rattle.saved_state.proofs.Reading.{four_values}
use Rattle.saved_state.proofs.lists.load_four.Goals as goal

pub returns-clause-gives : goal.returns-clause-gives
returns-clause-gives g c values rest fits left =
    four_values g.T.Saved.Fits g.T.Saved.spelled values _ _ _ _ _ rest _ _ _ _ fits.0 fits.1 left
    c.load-first.ensures.gives c.load-second.ensures.gives c.load-third.ensures.gives c.load-fourth.ensures.gives
