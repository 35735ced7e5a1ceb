use Rattle.std.proofs.Common.{rules}
use Rattle.saved_state.proofs.Reading.{next_value, no_value}
use Rattle.saved_state.proofs.lists.load_list.Goals as goal

pub loop-list-preserved : goal.loop-list-preserved
loop-list-preserved g c values rest fits left =
    next_value g.T.Saved.Fits g.T.Saved.spelled values _ _ _ _ _ _ rest _ (c.loop-list.invariant values rest fits left) c.byte.ensures.gives (search rules)
    c.load.ensures.gives (search rules)

pub returns : goal.returns
returns g c values rest fits left =
    no_value g.T.Saved.Fits g.T.Saved.spelled values _ _ _ rest _ (c.loop-list.invariant values rest fits left) c.byte.ensures.gives (search rules)
