-- Torn tracks: regular formatted tracks, and what writes make of them. A write may stop at any word, but not short of
-- an earlier one at its place that stopped.
use Rattle.std.specs.Prelude.{◌≡◌, ℕ, ◌≤◌, ◌==◌, Bool, if◌then◌else◌, List, [], ◌∷◌, length}
use Rattle.track_model.specs.Writing.{window}
use Rattle.track_model.specs.Windows.{cut_of, IsCuttable, HasFieldFor}
use Rattle.track_model.specs.Laid.{IsSomeRegularLay}

-- a write over the data field of the address field at a place; its first `count` words are written
pub record TornWrite : Type 0 where
  pub place : ℕ
  pub deleted : Bool
  pub content : List ℕ
  pub count : ℕ

-- all words of that write
abbrev pub words_of : TornWrite → List ℕ
words_of write = window write.deleted write.content

-- the track with the words that are written
abbrev pub with_torn : List ℕ → TornWrite → List ℕ
with_torn track write = cut_of track write.place write.count (words_of write)

-- how many words the last write at each place left there, or 0 if it was whole or there was none
abbrev pub stops_after : (ℕ → ℕ) → TornWrite → ℕ → ℕ
stops_after stops write q = if q == write.place then (if write.count == length (words_of write) then 0 else write.count) else stops q

-- the write is at an address field, and its content has the size that the field names. It goes at least as far as the
-- last write there, if that one stopped
pub record IsOver (stops : ℕ → ℕ) (track : List ℕ) (write : TornWrite) : Type 0 where
  pub field : HasFieldFor track write.place write.content
  pub cuttable : IsCuttable track write.place write.count (words_of write)
  pub over : stops write.place ≤ write.count

-- `after` comes from the track by these writes one after the other
abbrev pub ComesTorn : (ℕ → ℕ) → List ℕ → List TornWrite → List ℕ → Type 0
ComesTorn stops track [] after = after ≡ track
ComesTorn stops track (write ∷ rest) after =
    IsOver stops track write × ComesTorn (stops_after stops write) (with_torn track write) rest after

-- `stops` after these writes: the words that the last write at each place left there, or 0 if it was whole
abbrev pub stops_of : (ℕ → ℕ) → List TornWrite → ℕ → ℕ
stops_of stops [] = stops
stops_of stops (write ∷ rest) = stops_of (stops_after stops write) rest

-- Torn: a regular formatted track, or what comes from one by such writes
pub record IsTorn (track : List ℕ) : Type 0 where
  pub formatted : List ℕ
  pub lay : IsSomeRegularLay formatted
  pub writes : List TornWrite
  pub written : ComesTorn (λ p. 0) formatted writes track
