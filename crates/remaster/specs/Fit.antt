-- When the sectors of a track can be laid out anew, so that each can be written over.
use Rattle.std.specs.Prelude.{◌≡◌, ◌≢◌, ℕ, ◌<◌, ◌≤◌, ◌⊎◌, List, length, All, AllPairs}
use Rattle.remaster.specs.Common.{gap_at, words_at, Chrn, Rate, Disk, HasTrack, track_of, IsSizeCode, content_size, Suits, wide_gap, IsLargestGap}
use Rattle.remaster.specs.declared.sectors.Sector.{Sector}
use Rattle.remaster.specs.Sectors.{AreSectors}

-- the key names the track's own cylinder and head
abbrev pub IsOwnKey : ℕ → ℕ → Chrn → Type 0
IsOwnKey c h key = (key.c ≡ c) × (key.h ≡ h)

-- some wide gap 3 suits this many sectors of size code n
abbrev pub HasGap : Rate → ℕ → ℕ → Type 0
HasGap rate n sectors = (gap3 : ℕ) × (wide_gap ≤ gap3) × (gap3 ≤ gap_at rate) × Suits n sectors (words_at rate) gap3

-- The sectors of the track of a cylinder and a head are fit. No two have the same key, each key names this track, and
-- all have one size. There are at most 255, and some gap suits them.
pub record IsFit (rate : Rate) (c h : ℕ) (sectors : List Sector) : Type 0 where
  pub distinct : AllPairs (λ a b. a.key ≢ b.key) sectors
  pub own : All (λ sector. IsOwnKey c h sector.key) sectors
  pub one_size : AllPairs (λ a b. a.key.n ≡ b.key.n) sectors
  pub few : length sectors ≤ 255
  pub gap : All (λ sector. HasGap rate sector.key.n (length sectors)) sectors

-- the sectors of the track of a cylinder and a head are fit
abbrev pub IsFitTrack : Rate → ℕ → ℕ → List ℕ → Type 0
IsFitTrack rate c h track = (sectors : List Sector) × AreSectors track sectors × IsFit rate c h sectors

-- the sectors of the track of a cylinder and a head aren't fit
abbrev pub IsUnfitTrack : Rate → ℕ → ℕ → List ℕ → Type 0
IsUnfitTrack rate c h track = (sectors : List Sector) × AreSectors track sectors × (IsFit rate c h sectors → ⊥)

-- one track comes before another: by cylinder, then head
abbrev pub IsBefore : ℕ → ℕ → ℕ → ℕ → Type 0
IsBefore b g c h = (b < c) ⊎ ((b ≡ c) × (g < h))

-- the first track that isn't fit
pub record IsFirstUnfit (disk : Disk) (c h : ℕ) : Type 0 where
  pub track : HasTrack disk c h
  pub unfit : IsUnfitTrack disk.rate c h (track_of disk c h)
  pub before : (b g : ℕ) → HasTrack disk b g → IsBefore b g c h → IsFitTrack disk.rate b g (track_of disk b g)

-- the sector's content has the size that its key names
pub record HasSize (sector : Sector) : Type 0 where
  pub coded : IsSizeCode sector.key.n
  pub size : length sector.content ≡ content_size sector.key.n

-- the sector has this size code
abbrev pub HasSizeCode : ℕ → Sector → Type 0
HasSizeCode n sector = sector.key.n ≡ n

-- Sectors may be on one track together, if it has room for them. No two have the same key, each key names this track,
-- and all have this size code. There are at most 255.
pub record MayShare (n c h : ℕ) (sectors : List Sector) : Type 0 where
  pub distinct : AllPairs (λ a b. a.key ≢ b.key) sectors
  pub own : All (λ sector. IsOwnKey c h sector.key) sectors
  pub one_size : All (HasSizeCode n) sectors
  pub few : length sectors ≤ 255

-- the sectors are fit, have this size code, and this is the largest wide gap that suits them
pub record IsPlanned (rate : Rate) (c h : ℕ) (sectors : List Sector) (n gap3 : ℕ) : Type 0 where
  pub fit : IsFit rate c h sectors
  pub one_size : All (HasSizeCode n) sectors
  pub gap : IsLargestGap wide_gap n (length sectors) rate gap3
