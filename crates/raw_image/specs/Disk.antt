-- What a medium is, apart from how it lies in memory.
use Rattle.std.specs.Prelude.{ℕ, ◌+◌, ◌*◌, ◌^◌, ◌<◌, ◌≤◌, ◌≡◌, Bool, false, List, length, take, drop, replicate, slice_index, slice_set}
use Rattle.flop_base.specs.declared.answers.Rate.{Rate}

-- a medium: its protection, its shape, its rate, and the words of all its tracks, by cylinder, then head
pub record Disk : Type 0 where
  pub protected : Bool
  pub cylinders : ℕ
  pub heads : ℕ
  pub rate : Rate
  pub words_per_track : ℕ
  pub words : List ℕ

-- the ranges of a medium's fields; it has as many words, of 16 bits each, as all its tracks together
pub record IsDisk (d : Disk) : Type 0 where
  pub cylinders : (1 ≤ d.cylinders) × (d.cylinders ≤ 80)
  pub heads : (1 ≤ d.heads) × (d.heads ≤ 2)
  pub words_per_track : (64 ≤ d.words_per_track) × (d.words_per_track ≤ 16384)
  pub count : length d.words ≡ d.cylinders * d.heads * d.words_per_track
  pub each : (k : ℕ) → slice_index d.words k < 2 ^ 16

-- where a track begins among all words
abbrev pub track_start : Disk → ℕ → ℕ → ℕ
track_start d c h = (c * d.heads + h) * d.words_per_track

-- the words of the track of this cylinder and head
abbrev pub track_of : Disk → ℕ → ℕ → List ℕ
track_of d c h = take d.words_per_track (drop (track_start d c h) d.words)

-- the medium has the track of this cylinder and head
abbrev pub HasTrack : Disk → ℕ → ℕ → Type 0
HasTrack d c h = (c < d.cylinders) × (h < d.heads)

-- an unprotected medium whose words are all 0000
abbrev pub blank_disk : ℕ → ℕ → ℕ → Rate → Disk
blank_disk cylinders heads words rate = record {
  protected = false;
  cylinders = cylinders;
  heads = heads;
  rate = rate;
  words_per_track = words;
  words = replicate (cylinders * heads * words) 0;
}

-- the medium with one word of one track replaced
abbrev pub with_word : Disk → ℕ → ℕ → ℕ → ℕ → Disk
with_word d c h place word = record d { words = slice_set d.words (track_start d c h + place) word }

-- the medium with its tab moved, so that it is write-protected, or not
abbrev pub tabbed : Bool → Disk → Disk
tabbed on d = record d { protected = on }

-- `after` is the disk with these words as the track of this cylinder and head, and is otherwise unchanged
pub record IsWithTrack (d : Disk) (c h : ℕ) (track : List ℕ) (after : Disk) : Type 0 where
  pub valid : IsDisk after
  pub protected : after.protected ≡ d.protected
  pub cylinders : after.cylinders ≡ d.cylinders
  pub heads : after.heads ≡ d.heads
  pub rate : after.rate ≡ d.rate
  pub words_per_track : after.words_per_track ≡ d.words_per_track
  pub has : track_of after c h ≡ track
  pub others : (b g : ℕ) → HasTrack d b g → (b ≡ c → g ≡ h → ⊥) → track_of after b g ≡ track_of d b g
