-- Flat files: 80 cylinders, 2 heads, 9 or 18 sectors of 512 bytes on each track.
use Rattle.std.specs.Prelude.{◌≡◌, ℕ, ◌+◌, ◌-◌, ◌*◌, ◌<◌, ◌≤◌, ◌==◌, ◌⊎◌, nat_lt, Result, Ok, Err, if◌then◌else◌}
use Rattle.raw_image.specs.declared.error.ImageError.{ImageError}
use Rattle.raw_image.specs.declared.error.ImageError.TheVariants.{TooShort, Trailing}

-- the sectors on each track are 9 or 18
abbrev pub IsDensity : ℕ → Type 0
IsDensity sectors = (sectors ≡ 9) ⊎ (sectors ≡ 18)

-- a file with this many sectors on each track has this sector
pub record IsSector (sectors c h r : ℕ) : Type 0 where
  pub cylinder : c < 80
  pub head : h < 2
  pub from_first : 1 ≤ r
  pub to_last : r ≤ sectors

-- the length in bytes of a file with this many sectors on each track
abbrev pub flat_length : ℕ → ℕ
flat_length sectors = 80 * 2 * sectors * 512

-- the sectors on each track of a file with this many bytes, or what is wrong with the file
abbrev pub sectors_told : ℕ → Result ℕ ImageError
sectors_told have =
    if have == 737280 then Ok 9
    else (if have == 1474560 then Ok 18
    else (if nat_lt have 737280 then Err (TooShort 737280 have)
    else (if nat_lt have 1474560 then Err (TooShort 1474560 have)
    else Err (Trailing 1474560))))

-- where a sector begins: cylinder by cylinder, head by head, record by record
abbrev pub sector_place : ℕ → ℕ → ℕ → ℕ → ℕ
sector_place sectors c h r = ((c * 2 + h) * sectors + r - 1) * 512

-- the sectors that begin at p and q have no byte in common
abbrev pub AreApart : ℕ → ℕ → Type 0
AreApart p q = (p + 512 ≤ q) ⊎ (q + 512 ≤ p)
