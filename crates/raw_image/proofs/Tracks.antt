-- A word written into one track, and what each track then is.
use Rattle.std.proofs.Common.{◌≡◌, ℕ, ◌+◌, ◌-◌, ◌*◌, ◌<◌, ◌≤◌, List, take, drop, ap, ◌∙◌, arith, ◌⊎◌, inl, inr}
use Rattle.raw_image.proofs.Common.{set, cases_lt, drop-set-add, drop-set-lt, take-set-le, Disk, HasTrack, track_start, track_of, with_word}
use Rattle.std.proofs.Math.Nat.{mul-le-mul_left}
use Rattle.std.proofs.lemmas.Nat.{mul-add-lt}

-- a track that begins before another one ends before it begins, at any number of words per track
pub rows_apart : (r s w : ℕ) → r < s → r * w + w ≤ s * w
rows_apart r s w lt =
    let more : r + 1 ≤ s = omega arith in
    omega (arith, mul-le-mul_left w more)

-- a track of a lower cylinder has a lower number among all tracks
row_below : (b c g h heads : ℕ) → g < heads → b < c → b * heads + g < c * heads + h
row_below b c g h heads g_in lt = omega (arith, mul-add-lt b heads g c lt g_in)

pub apart : (b g c h heads : ℕ) → g < heads → h < heads → (b ≡ c → g ≡ h → ⊥) → (b * heads + g < c * heads + h) ⊎ (c * heads + h < b * heads + g)
apart b g c h heads g_in h_in other =
    elim (cases_lt b c) [
      | inl lt ↦ inl (row_below b c g h heads g_in lt)
      | inr ge ↦ elim (cases_lt c b) [
        | inl gt ↦ inr (row_below c b h g heads h_in gt)
        | inr le ↦ same b g c h heads (omega arith) other
      ]
    ]
  where
    same : (b g c h heads : ℕ) → b ≡ c → (b ≡ c → g ≡ h → ⊥) → (b * heads + g < c * heads + h) ⊎ (c * heads + h < b * heads + g)
    same b g c h heads equal other =
        let rows : b * heads ≡ c * heads = ap (λ n. n * heads) equal in
        elim (cases_lt g h) [
          | inl lt ↦ inl (omega (arith, rows))
          | inr ge ↦ elim (cases_lt h g) [
            | inl gt ↦ inr (omega (arith, rows))
            | inr le ↦ absurd (other equal (omega arith))
          ]
        ]

-- each other track is as it was
pub track_of-others : (d : Disk) (c h place word : ℕ) → HasTrack d c h → place < d.words_per_track → (b g : ℕ) → HasTrack d b g → (b ≡ c → g ≡ h → ⊥)
    → track_of (with_word d c h place word) b g ≡ track_of d b g
track_of-others d c h place word has within b g had other =
    let w = d.words_per_track in
    let start = track_start d c h in
    let from = track_start d b g in
    elim (apart b g c h d.heads had.1 has.1 other) [
      | inl before ↦ beyond from start w place word d.words (rows_apart (b * d.heads + g) (c * d.heads + h) w before)
      | inr after ↦ ap (take w) (drop-set-lt from d.words (start + place) word (omega (arith, rows_apart (c * d.heads + h) (b * d.heads + g) w after)))
    ]
  where
    beyond : (from start w place word : ℕ) (words : List ℕ) → from + w ≤ start → take w (drop from (set words (start + place) word)) ≡ take w (drop from words)
    beyond from start w place word words le =
        let later : start + place ≡ from + (start + place - from) = omega arith in
        ap (λ (n : ℕ). take w (drop from (set words n word))) later ∙ ap (take w) (drop-set-add from words (start + place - from) word) ∙ take-set-le w (drop from words) (start + place - from) word (omega arith)
