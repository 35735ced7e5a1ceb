-- The fields of a formatted track, by the places of the layout.
use Rattle.std.specs.Prelude.{◌≡◌, ℕ, ◌+◌, ◌-◌, ◌*◌, ◌<◌, ◌≤◌, List, false, length, replicate, slice_index_or}
use Rattle.flop_base.specs.declared.key.Chrn.{Chrn}
use Rattle.track_model.specs.declared.Look.TheVariants.{Found}
use Rattle.track_model.specs.Fields.{IsAddressAt, content_size, content_at}
use Rattle.track_model.specs.Looks.{LookAt}
use Rattle.track_model.specs.Layouts.{laid_words}

-- the address field of a sector, counted from 0, begins behind the sectors before it and twelve words of sync
abbrev pub sector_place : ℕ → ℕ → ℕ → ℕ
sector_place n gap3 i = 16 * (laid_words i n gap3 + 12)

-- its data field begins 44 words later, and its content behind four words of marks
abbrev pub content_place : ℕ → ℕ → ℕ → ℕ
content_place n gap3 i = 16 * (laid_words i n gap3 + 56) + 64

-- the track has exactly the sectors of these keys, each at its place, not deleted and with the fill
pub record HasLaidFields (track : List ℕ) (keys : List Chrn) (n gap3 fill : ℕ) : Type 0 where
  pub each : (i : ℕ) (d : Chrn) → i < length keys → IsAddressAt track (sector_place n gap3 i) (slice_index_or keys i d)
  pub only : (p : ℕ) (key : Chrn) → IsAddressAt track p key → (i : ℕ) × (i < length keys) × (p ≡ sector_place n gap3 i)
  pub found : (i : ℕ) → i < length keys → LookAt track (sector_place n gap3 i) n (Found false (content_place n gap3 i))
  pub filled : (i : ℕ) → i < length keys → content_at track (content_place n gap3 i) n ≡ replicate (content_size n) fill

-- the four numbers of a key are bytes
pub record IsKey (key : Chrn) : Type 0 where
  pub cylinder : key.c < 256
  pub head : key.h < 256
  pub sector : key.r < 256
  pub size : key.n < 256

-- gap 3 and gap 4b together are so long that a write over the last data field ends before the index
abbrev pub HasEndRoom : ℕ → ℕ → ℕ → ℕ → Type 0
HasEndRoom sectors n gap3 words = 27 ≤ gap3 + (words - laid_words sectors n gap3)
