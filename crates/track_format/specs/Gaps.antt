-- The gap behind each sector.
use Rattle.std.specs.Prelude.{ℕ, ◌+◌, ◌-◌, ◌≤◌}
use Rattle.flop_base.specs.declared.answers.Rate.{Rate}
use Rattle.flop_base.specs.Standard.{words_at, gap_at}
use Rattle.track_model.specs.Layouts.{laid_words}

-- so many sectors fit on the track with this gap, and behind the last one there is room for the end of a write
pub record Suits (n sectors words gap3 : ℕ) : Type 0 where
  pub fits : laid_words sectors n gap3 ≤ words
  pub room : 27 ≤ gap3 + (words - laid_words sectors n gap3)

-- the least gap 3 with which the sectors of a track keep their distance
abbrev pub wide_gap : ℕ
wide_gap = 16

-- the least gap 3 with which a write over a data field ends one byte or more before the next sector
abbrev pub narrow_gap : ℕ
narrow_gap = 1

-- the largest of the gaps that suit, from `least` on
pub record IsLargestGap (least n sectors : ℕ) (rate : Rate) (gap : ℕ) : Type 0 where
  pub enough : least ≤ gap
  pub most : gap ≤ gap_at rate
  pub suits : Suits n sectors (words_at rate) gap
  pub largest : (other : ℕ) → other ≤ gap_at rate → Suits n sectors (words_at rate) other → other ≤ gap
