-- A text that a command needs, and that wasn't loaded.
use Rattle.std.specs.Prelude.{◌≡◌, ℕ, List, [], ◌∷◌, Option}
use Rattle.commands.specs.Common.{LoadError, Status, absent_text, bad_line_text, Prints}
use Rattle.flop_base.specs.declared.answers.LoadError.TheVariants as load
use Rattle.flop_base.specs.declared.answers.Status.TheVariants as status

-- why a text wasn't loaded, and what was printed of this; for a text that is too long, line 0 is bad
abbrev pub MissesText : LoadError → List ℕ → Option (List (List ℕ)) → Option (List (List ℕ)) → Status → Type 0
MissesText load.Absent name old new ended = Prints (absent_text name ∷ []) status.Absent old new ended
MissesText load.TooLong name old new ended = Prints (bad_line_text 0 ∷ []) status.BadJob old new ended
MissesText load.Failed name old new ended = (new ≡ old) × (ended ≡ status.FileFault)
MissesText load.NoMemory name old new ended = (new ≡ old) × (ended ≡ status.NoMemory)
