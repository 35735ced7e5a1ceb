-- The bytes of a separator that is saved.
use Rattle.std.specs.Prelude.{ℕ, List, ◌∷◌}
use Rattle.saved_state.specs.Saved.{spelled_byte, spelled_word, spelled_flag, spelled_cells}
use Rattle.track_separator.specs.declared.state.Stage.{Stage}
use Rattle.track_separator.specs.declared.state.Stage.TheVariants.{Hunting, Reading, Addressed, TurnEnded, Waiting, Content}
use Rattle.track_separator.specs.declared.state.Separator.{Separator}

-- a stage: its number, and what it keeps
unfoldable pub spelled_stage : Stage → List ℕ → List ℕ
spelled_stage Hunting rest = 0 ∷ rest
spelled_stage (Reading bytes) rest = 1 ∷ spelled_byte bytes rest
spelled_stage Addressed rest = 2 ∷ rest
spelled_stage TurnEnded rest = 3 ∷ rest
spelled_stage (Waiting size since marked) rest = 4 ∷ spelled_word size (spelled_word since (spelled_flag marked rest))
spelled_stage (Content size taken check touched) rest =
    5 ∷ spelled_word size (spelled_word taken (spelled_word check (spelled_flag touched rest)))

-- a separator: its cells, its place, and its stage
unfoldable pub spelled_separator : Separator → List ℕ → List ℕ
spelled_separator separator rest =
    spelled_cells separator.cells (spelled_word separator.back (spelled_stage separator.stage rest))
