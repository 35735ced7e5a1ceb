-- Which tracks of a medium were written, a bit for each.
use Rattle.std.specs.Prelude.{◌≡◌, length, ℕ, Bool, ◌+◌, ◌*◌, ◌/◌, ◌%◌, ◌==◌, nat_lt, List, Option, Some, None, replicate, slice_index, slice_set, if◌then◌else◌}
use Rattle.std.specs.Int.RustNames.{bit_or}

-- no track
abbrev pub no_tracks : List ℕ
no_tracks = replicate 20 0

-- a track's number, by cylinder, then head
abbrev pub track_number : (c h : ℕ) → ℕ
track_number c h = 2 * c + h

-- the bit in a byte at a place from 0 to 7, the lowest first
abbrev pub bit_of : ℕ → ℕ
bit_of place =
    if place == 0 then 1 else (if place == 1 then 2 else (if place == 2 then 4 else (if place == 3 then 8 else (
    if place == 4 then 16 else (if place == 5 then 32 else (if place == 6 then 64 else 128))))))

-- the map with the track of a cylinder and a head added: the track's number divided by 8 is its byte, the rest its bit
abbrev pub marked : (c h : ℕ) → List ℕ → List ℕ
marked c h map =
    if nat_lt (track_number c h) 160
    then slice_set map (track_number c h / 8) (bit_or (slice_index map (track_number c h / 8)) (bit_of (track_number c h % 8)))
    else map

-- the map with the track added where a word was replaced
abbrev pub marked_if : Bool → (c h : ℕ) → List ℕ → List ℕ
marked_if wrote c h map = if wrote then marked c h map else map

-- the map with the track added where a word was replaced; none where the drive keeps no map
abbrev pub marked_where : Bool → (c h : ℕ) → Option (List ℕ) → Option (List ℕ)
marked_where wrote c h None = None
marked_where wrote c h (Some map) = Some (marked_if wrote c h map)

-- a map with no track in it; none where the drive keeps no map
abbrev pub emptied : Option (List ℕ) → Option (List ℕ)
emptied None = None
emptied (Some map) = Some no_tracks

-- a map has 20 bytes
abbrev pub IsMap : List ℕ → Type 0
IsMap map = length map ≡ 20
