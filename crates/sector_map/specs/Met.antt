-- What a command meets on a track of a disk, and terms for it.
use Rattle.std.specs.Prelude.{ℕ, ◌&&◌, Bool, true, false, List, replicate, nat_lt, Option, if◌then◌else◌}
use Rattle.std.specs.Option.{option_map_or}
use Rattle.sector_map.specs.Common.{Chrn, Rate, Disk, track_of, Look, IsAddressAt, LookAt, IsClear}
use Rattle.flop_base.specs.declared.answers.Rate.TheVariants.{R500, R250}
use Rattle.track_model.specs.declared.Look.TheVariants as look

-- a track of words 0000, on which nothing is recorded
unfoldable pub unrecorded : ℕ → List ℕ
unrecorded words = replicate words 0

-- both rates are the same
abbrev pub same_rate : Rate → Rate → Bool
same_rate R500 R500 = true
same_rate R250 R250 = true
same_rate _ _ = false

-- What a command at this rate meets on a track. Nothing is recorded if the disk has no such track, or has another rate.
abbrev pub met_on : Disk → Rate → ℕ → ℕ → List ℕ
met_on disk rate c h =
    if nat_lt c disk.cylinders && nat_lt h disk.heads && same_rate disk.rate rate
    then track_of disk c h else unrecorded disk.words_per_track

-- What a command meets in a drive. If no medium is in, nothing is recorded.
abbrev pub met_in : Option Disk → Rate → ℕ → ℕ → List ℕ
met_in medium rate c h = option_map_or (λ disk. met_on disk rate c h) medium (unrecorded 64)

-- no address mark of the track is Clear
abbrev pub HasNoClearMark : List ℕ → Type 0
HasNoClearMark track = (p : ℕ) → IsClear track p → ⊥

-- a Clear address field of the key is at p
pub record IsClearAddress (track : List ℕ) (key : Chrn) (p : ℕ) : Type 0 where
  pub clear : IsClear track p
  pub address : IsAddressAt track p key

-- the track has a Clear address field of the key
abbrev pub HasClearAddress : List ℕ → Chrn → Type 0
HasClearAddress track key = (p : ℕ) × IsClearAddress track key p

-- the look at some address field of the key has this answer
abbrev pub HasLook : List ℕ → Chrn → Look → Type 0
HasLook track key answer = (p : ℕ) × IsAddressAt track p key × LookAt track p key.n answer

-- the look at each address field of the key finds its data
abbrev pub AllFound : List ℕ → Chrn → Type 0
AllFound track key =
    (p : ℕ) → IsAddressAt track p key → (deleted : Bool) × (place : ℕ) × LookAt track p key.n (look.Found deleted place)
