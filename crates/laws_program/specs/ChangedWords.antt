-- How many words of the media device steps may change.
use Rattle.std.specs.Prelude.{ℕ, zero, suc}
use Rattle.laws_program.specs.Common.{Board, SameMedia}
use Rattle.laws_machine.specs.OnWrites.Guards.{GuardsMedia}

-- in so many device steps each medium changed by at most one word in each step, and not at all while it is protected
unfoldable pub ChangesWords : ℕ → Board → Board → Type 0
ChangesWords zero old new = SameMedia old new
ChangesWords (suc n) old new = (between : Board) × ChangesWords n old between × GuardsMedia between new
