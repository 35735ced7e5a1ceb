-- Words that pass by a hunt.
use Rattle.std.specs.Prelude.{◌≡◌, ℕ, ◌^◌, ◌<◌, List, [], ◌∷◌}
use Rattle.track_separator.specs.declared.state.Seen.TheVariants.{Nothing}
use Rattle.track_separator.specs.declared.state.Separator.{Separator}
use Rattle.track_separator.specs.Register.{IsNext, HasRunBits}
use Rattle.track_separator.specs.Turns.{IsHunted}

-- nothing was seen in any of these words, all inside the revolution
unfoldable pub HuntsPast : List ℕ → Separator → Separator → Type 0
HuntsPast [] old new = new ≡ old
HuntsPast (word ∷ rest) old new = (mid : Separator) × IsHunted old word mid Nothing × HuntsPast rest mid new

-- no run of marks ends in the last word of the register
abbrev pub EndsNoRun : ℕ → Type 0
EndsNoRun cells = (back : ℕ) → back < 16 → HasRunBits cells back → ⊥

-- these words bring the register to `after`, and no run of marks ends in any of them
unfoldable pub BringsNoRun : List ℕ → ℕ → ℕ → Type 0
BringsNoRun [] cells after = after ≡ cells
BringsNoRun (word ∷ rest) cells after = (mid : ℕ) × IsNext cells word mid × (mid < 2 ^ 128) × EndsNoRun mid × BringsNoRun rest mid after
