-- Numbers that a stage keeps within bounds.
use Rattle.std.specs.Prelude.{ℕ}
use Rattle.track_separator.specs.declared.state.Stage.{Stage}
use Rattle.track_separator.specs.declared.state.Stage.TheVariants.{Waiting, Content}

-- the size of the field that is asked for
abbrev pub size_in : Stage → ℕ
size_in (Waiting size since marked) = size
size_in (Content size taken check touched) = size
size_in _ = 0

-- the cells that passed since the address field
abbrev pub since_in : Stage → ℕ
since_in (Waiting size since marked) = since
since_in _ = 0
