-- The bytes of a latch that is saved.
use Rattle.std.specs.Prelude.{ℕ, List}
use Rattle.saved_state.specs.Saved.{spelled_flag}
use Rattle.irq_events.specs.Latch.{Latch}

abbrev pub spelled_latch : Latch → List ℕ → List ℕ
spelled_latch latch rest = spelled_flag latch.is_set (spelled_flag latch.level rest)
