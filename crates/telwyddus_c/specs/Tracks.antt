-- The words of one track.
use Rattle.std.specs.Prelude.{◌≡◌, ℕ, List, length, Option, None, Some, MatchOption}
use Rattle.telwyddus_c.specs.Common.{TrayValue, Disk, HasTrack, IsWithTrack, track_of}
use Rattle.telwyddus_c.specs.Buffers.{WritesBytes}
use Rattle.telwyddus_c.specs.Slots.{DoneOr}

-- the words of a track of a medium are written to a buffer of words, and their number is reported: code 0, or 10 if the
-- buffer is too short. If the medium has no such track, the code is 4 and all stays
pub record WritesTrackOf (disk : Disk) (c h code : ℕ) (old new : List ℕ) (was told : ℕ) : Type 0 where
  pub there : HasTrack disk c h → WritesBytes (track_of disk c h) code old new told
  pub absent : (HasTrack disk c h → ⊥) → (code ≡ 4) × (new ≡ old) × (told ≡ was)

-- the words of a track are written to a buffer. If there is no medium, the code is 7
abbrev pub WritesTrack : Option Disk → (c h code : ℕ) → List ℕ → List ℕ → (was told : ℕ) → Type 0
WritesTrack None c h code old new was told = (code ≡ 7) × (new ≡ old) × (told ≡ was)
WritesTrack (Some disk) c h code old new was told = WritesTrackOf disk c h code old new was told

-- a track of a medium gets these words: code 0. If the medium has no such track, or if its tracks have another number
-- of words, the code is 4 and the medium stays
abbrev pub ReplacesTrack : (c h : ℕ) → List ℕ → ℕ → Disk → Disk → Type 0
ReplacesTrack c h words code old new =
    DoneOr 4 code (IsWithTrack old c h words new)
    ((HasTrack old c h → length words ≡ old.words_per_track → ⊥) × (new ≡ old))

-- a track of the medium in a tray gets these words. If there is no medium, the code is 7
abbrev pub SetsTrack : (c h : ℕ) → List ℕ → ℕ → TrayValue → TrayValue → Type 0
SetsTrack c h words code old new =
    MatchOption old.medium ((code ≡ 7) × (new ≡ old)) (λ disk. (after : Disk) × (new.medium ≡ Some after) × ReplacesTrack c h words code disk after)
