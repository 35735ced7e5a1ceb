-- The five bytes that a track begins with.
use Rattle.std.specs.Prelude.{ℕ, ◌+◌, ◌%◌, Bool, ◌&&◌, List, ◌==◌, nat_le, slice_index, if◌then◌else◌, Option, Some, None, Result, Ok}
use Rattle.imagedisk.specs.Common.{list_any, Rate, R500, R250, ImageError}
use Rattle.raw_image.specs.Header.{◌>>=◌, field}
use Rattle.imagedisk.specs.declared.header.HeadByte.{HeadByte}
use Rattle.imagedisk.specs.declared.header.Header.{Header}
use Rattle.imagedisk.specs.declared.track.ImdTrack.{ImdTrack}
use Rattle.imagedisk.specs.Left.{Rest, part}

-- the mode byte of a rate, with MFM
abbrev pub mode_byte : Rate → ℕ
mode_byte R500 = 3
mode_byte R250 = 5

-- the rate that a mode byte tells, if the tracks before have the same rate
abbrev pub rate_of : Option Rate → ℕ → Option Rate
rate_of None mode = if mode == 3 then Some R500 else (if mode == 5 then Some R250 else None)
rate_of (Some rate) mode = if mode == mode_byte rate then Some rate else None

-- the cylinder, which is at most 79
abbrev pub cylinder_of : ℕ → Option ℕ
cylinder_of byte = if nat_le byte 79 then Some byte else None

-- the size code, which is from 1 to 6
abbrev pub size_code_of : ℕ → Option ℕ
size_code_of byte = if nat_le 1 byte && nat_le byte 6 then Some byte else None

-- The head byte. Bit 0 is the head. Bit 7 says that a map of cylinders follows, and bit 6 that a map of heads follows.
-- All other bits are 0.
abbrev pub head_of : ℕ → Option HeadByte
head_of byte =
    if nat_le (byte % 64) 1
    then Some (record { has_cylinders = nat_le 128 byte; has_heads = nat_le 64 (byte % 128); head = byte % 64 })
    else None

-- whether a track of this cylinder and head came already
abbrev pub has_track : List ImdTrack → ℕ → ℕ → Bool
has_track tracks c h = list_any (λ (track : ImdTrack). (track.c == c) && (track.h == h)) tracks

-- the head byte, if it is valid and no track of this cylinder and head came already
abbrev pub new_head_of : List ImdTrack → ℕ → ℕ → Option HeadByte
new_head_of tracks c byte = if has_track tracks c (byte % 64) then None else head_of byte

-- The five bytes: mode, cylinder, head byte, count of sectors, size code. The answer is an error for the first of them
-- that isn't allowed there.
unfoldable pub header_at : Option Rate → List ImdTrack → Rest → Result (Header × Rest) ImageError
header_at before tracks rest = do
  five ← part 5 rest
  rate ← field rest.offset (rate_of before (slice_index five.0 0))
  c ← field (rest.offset + 1) (cylinder_of (slice_index five.0 1))
  head ← field (rest.offset + 2) (new_head_of tracks c (slice_index five.0 2))
  n ← field (rest.offset + 4) (size_code_of (slice_index five.0 4))
  Ok (
    record {
      rate = rate;
      c = c;
      h = head.head;
      has_cylinders = head.has_cylinders;
      has_heads = head.has_heads;
      sectors = slice_index five.0 3;
      n = n;
    },
    five.1,
  )
