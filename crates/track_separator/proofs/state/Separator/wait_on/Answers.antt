use Rattle.std.proofs.Common.{refl, sym, subst, arith}
use Rattle.track_separator.proofs.Common.{HasTail, IsFull}
use Rattle.track_separator.proofs.state.Separator.wait_on.Goals as goal

pub returns-then-since : goal.returns-then-since
returns-then-since c = λ fed p next.
    let place = next.place in (
      record { far = omega arith; none = next.none },
      record { inside = omega arith; last = omega (arith, c.requires.early) },
      c.hunt.ensures.hunts fed,
    )

pub returns : goal.returns
returns c = λ fed p next.
    let same = sym c.see_run-marked.ensures.kept in (
      refl,
      record {
        place = next.place;
        early = omega arith;
        tail = subst (HasTail fed) same next.tail;
        full = subst (λ cells. IsFull fed cells p) same next.full;
        none = next.none;
        pending = c.see_run-marked.ensures.marked fed p next;
      },
    )
