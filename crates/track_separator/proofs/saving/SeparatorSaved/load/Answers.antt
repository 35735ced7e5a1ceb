use Rattle.std.proofs.Common.{arith, sym, ◌∙◌, subst, ◌<◌, ◌≤◌}
use Rattle.track_separator.proofs.Common.{size_in, since_in}
use Rattle.track_separator.specs.Saving.{spelled_separator}
use Rattle.track_separator.proofs.Saved.{same_separator}
use Rattle.track_separator.proofs.saving.SeparatorSaved.load.Goals as goal

pub returns-clause-gives : goal.returns-clause-gives
unfolding spelled_separator
returns-clause-gives c value rest fits left =
    let cells = c.load-cells.ensures.gives value.cells _ fits left in
    let back = c.load.ensures.gives value.back _ fits cells.1 in
    let stage = c.load-2.ensures.gives value.stage rest fits back.1 in
    let small : size_in c.load-2.result ≤ 8192 = subst (λ s. size_in s ≤ 8192) (sym stage.0) value.small in
    let early : since_in c.load-2.result < 1023 = subst (λ s. since_in s < 1023) (sym stage.0) value.early in
    let few : c.load.result < 16 = omega (arith, back.0, value.few) in (
      same_separator value _ _ _ _ _ _ (sym cells.0) (sym (c.limited_place-back.ensures.same few ∙ back.0))
          (sym (c.limited-stage.ensures.same small early ∙ stage.0)),
      stage.1,
    )
