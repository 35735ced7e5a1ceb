-- Results that are taken over one by one, and bytes that go nowhere one by one.
use Rattle.std.specs.Prelude.{Option, ⊤}
use Rattle.fdc_chip.proofs.Common.{ForSome, Front, ChipState, drained_one, Swallows}
use Rattle.std.proofs.Common.{◌≡◌, ℕ, ◌+◌, refl, ap, ◌∙◌, add-one}
use Rattle.fdc_chip.specs.Doing.{drained_by}
use Rattle.fdc_chip.specs.Steps.{SwallowsBy}

-- ---- results

pub drained_none : (chip : ChipState) → chip ≡ drained_by 0 chip
unfolding drained_by
drained_none chip = refl

pub drained_more : (n : ℕ) (start between new : ChipState) → between ≡ drained_by n start → new ≡ drained_one between → new ≡ drained_by (n + 1) start
unfolding drained_by
drained_more n start between new was is = rw add-one (is ∙ ap drained_one was)

-- ---- a value that may be missing, of which each value fits

pub all_fit : {A : Type 0} (value : Option A) → ForSome value (λ _. ⊤)
all_fit value = λ some is. tt

-- ---- bytes that go nowhere

pub swallows_none : (left : ℕ) (front : Front) → SwallowsBy 0 left front left front
unfolding SwallowsBy
swallows_none left front = (refl, refl)

pub swallows_more : (n left some now : ℕ) (old between new : Front) → SwallowsBy n left old some between → Swallows some between now new
    → SwallowsBy (n + 1) left old now new
unfolding SwallowsBy
swallows_more n left some now old between new was one = rw add-one (some, between, was, one)
