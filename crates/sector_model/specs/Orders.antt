-- Which refusal comes before a command reaches a drive: the first line of the order that applies.
use Rattle.std.specs.Prelude.{◌≡◌, ℕ, ◌+◌, ◌-◌, ◌/◌, ◌==◌, ◌&&◌, Bool, false, not, nat_le, is_some, Option, Some, None, Result, Err, if◌then◌else◌}
use Rattle.sector_model.specs.Common.{option_map_or, Chrn, Rate, R500, R250, Code, BadRequest, NoMark, Protected, NotFound, Changed, Overrun, Page, BadCrc, Seek, content_size, IsDriven, CostsUpTo, user_bytes}
use Rattle.sector_model.specs.Stations.{StationState, Stays, bay_of}

-- there are bays 0 and 1
abbrev pub is_bay : ℕ → Bool
is_bay bay = nat_le bay 1

-- a cylinder and a head of a drive
abbrev pub is_place : ℕ → ℕ → Bool
is_place c h = nat_le c 79 && nat_le h 1

-- a size code, from 1 to 6
abbrev pub is_size_code : ℕ → Bool
is_size_code n = nat_le 1 n && nat_le n 6

-- a read or a write of this key can be asked for, at this address
abbrev pub is_sector_request : ℕ → Chrn → ℕ → Bool
is_sector_request bay key address =
    is_bay bay && is_place key.c key.h && is_size_code key.n && nat_le 1 key.r
    && nat_le (address + content_size key.n) user_bytes

-- the first and the last byte of the range lie in different pages of 65,536 bytes
abbrev pub crosses_page : ℕ → ℕ → Bool
crosses_page address count = not (address / 65536 == (address + count - 1) / 65536)

-- the bay is acknowledged
abbrev pub is_acknowledged : StationState → ℕ → Bool
is_acknowledged station bay = is_some (bay_of station bay).acknowledged

-- the medium in the bay is protected
abbrev pub is_protected : StationState → ℕ → Bool
is_protected station bay = option_map_or (λ disk. disk.protected) (bay_of station bay).medium false

-- the refusal of a read before the drive is asked, if there is one
abbrev pub read_refusal : StationState → ℕ → Chrn → ℕ → Option Code
read_refusal station bay key address =
    if not (is_sector_request bay key address) then Some BadRequest
    else (if crosses_page address (content_size key.n) then Some Page
    else (if not (is_acknowledged station bay) then Some Changed else None))

-- the refusal of a write before the drive is asked, if there is one
abbrev pub write_refusal : StationState → ℕ → Chrn → ℕ → Option Code
write_refusal station bay key address =
    if not (is_sector_request bay key address) then Some BadRequest
    else (if crosses_page address (content_size key.n) then Some Page
    else (if not (is_acknowledged station bay) then Some Changed
    else (if is_protected station bay then Some Protected else None)))

-- the longest gap 3 with which the sectors of a rate fit on a track of that rate's usual length
abbrev pub most_format_gap : Rate → ℕ
most_format_gap R500 = 112
most_format_gap R250 = 104

-- a format with this gap 3 can be asked for
abbrev pub is_format_request : StationState → ℕ → ℕ → ℕ → ℕ → Bool
is_format_request station bay c h gap3 =
    is_bay bay && is_place c h && nat_le 16 gap3 && nat_le gap3 (most_format_gap (bay_of station bay).rate)

-- the refusal of a format before the drive is asked, if there is one
abbrev pub format_refusal : StationState → ℕ → ℕ → ℕ → ℕ → Option Code
format_refusal station bay c h gap3 =
    if not (is_format_request station bay c h gap3) then Some BadRequest
    else (if not (is_acknowledged station bay) then Some Changed
    else (if is_protected station bay then Some Protected else None))

-- the refusal of a change of the rate, if there is one
abbrev pub rate_refusal : StationState → ℕ → Option Code
rate_refusal station bay =
    if not (is_bay bay) then Some BadRequest
    else (if not (is_acknowledged station bay) then Some Changed else None)

-- a call that ended with such a refusal: nothing changed, and no data command was sent. At most the change line was
-- looked at, and it was asked whether the medium is protected
pub record IsRefusedAtOnce {A : Type 0} (code : Code) (old : StationState) (answer : Result A Code) (new : StationState) : Type 0 where
  pub refused : answer ≡ Err code
  pub stays : Stays old new
  pub idle : IsDriven 0 old.counters new.counters
  pub costs : CostsUpTo 0 6 old.counters new.counters

-- a refusal that comes from the drive
abbrev pub IsDeviceRefusal : Code → Type 0
IsDeviceRefusal NoMark = Unit {0}
IsDeviceRefusal NotFound = Unit {0}
IsDeviceRefusal Overrun = Unit {0}
IsDeviceRefusal BadCrc = Unit {0}
IsDeviceRefusal Seek = Unit {0}
IsDeviceRefusal _ = ⊥
