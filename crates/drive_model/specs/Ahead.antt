-- Word times in a row: a drive that is let alone, and the words that are certain to pass.
use Rattle.std.specs.Prelude.{◌≡◌, ℕ, zero, suc, ◌-◌, false, if◌then◌else◌, List, [], ◌∷◌, length}
use Rattle.drive_model.specs.Drive.{DriveState, at_index, at_speed, passed, with_gate, word_under, words_on}

-- so many word times pass with the gate closed, and no fault comes
unfoldable pub LetsPass : ℕ → DriveState → DriveState → Type 0
LetsPass zero old new = new ≡ old
LetsPass (suc count) old new = LetsPass count (passed (with_gate false old)) new

-- these words pass next under a head, and the index follows none of them
unfoldable pub AreAhead : ℕ → List ℕ → DriveState → Type 0
AreAhead head [] s = Unit {0}
AreAhead head (word ∷ rest) s = (word_under s head ≡ word) × (at_index s ≡ false) × AreAhead head rest (passed s)

-- how many words of its track pass under a head before the last one. There are none if the medium isn't at speed, or has
-- no such track
abbrev pub words_left : ℕ → DriveState → ℕ
words_left head s = if at_speed s then length (words_on s.medium s.cylinder head) - 1 - s.place else 0
