use Rattle.std.proofs.Common.{◌≡◌, [], Ok, inl, refl, sym, ◌∙◌, ap, rules}
use Rattle.telwyddus_c.proofs.Common.{behind}
use Rattle.telwyddus_c.proofs.state.restore_behind.Goals as goal

pub returns-then-eq-clause-only : goal.returns-then-eq-clause-only
returns-then-eq-clause-only g c state fits is =
    let left = c.part.ensures.gives c.args.name.now (g.T.SavedWhole.spelled state []) refl (c.new-from.ensures ∙ is) in
    inl (ap Ok (c.in_ok-state.ensures.gives state [] fits left.1).0)

-- the bytes that are spelled again are the same, so they are equal to the given ones
pub returns-else-eq-clause-only : goal.returns-else-eq-clause-only
returns-else-eq-clause-only g c state fits is =
    let left = c.part.ensures.gives c.args.name.now (g.T.SavedWhole.spelled state []) refl (c.new-from.ensures ∙ is) in
    let found = (c.in_ok-state.ensures.gives state [] fits left.1).0 in
    let same : c.in_ok-again.again.items ≡ c.args.bytes.now = c.in_ok-again.ensures.spelled ∙ ap (λ it. behind c.args.name.now g.T.SavedWhole.spelled it []) found ∙ sym is in
    search rules
