-- A survey, which has a line for each address field of a disk.
use Rattle.std.specs.Prelude.{◌≡◌, ℕ, Bool, true, false, List, [], ◌∷◌, ◌++◌, map, codes, if◌then◌else◌, nat_le, ◌&&◌}
use Rattle.std.specs.Fmt.{decimal}
use Rattle.remaster.specs.Common.{range_with_len, flat_map, join_with_byte, Disk, track_of, Look, Found, NoMark, NoSector, NoData, BadCrc}
use Rattle.remaster.specs.declared.looked.LookedField.{LookedField}
use Rattle.remaster.specs.declared.lines.SurveyLine.{SurveyLine}
use Rattle.remaster.specs.Looked.{AreLooked}

-- a track, given by its numbers
pub record TrackNumber : Type 0 where
  pub cylinder : ℕ
  pub head : ℕ

abbrev pub track_number : ℕ → ℕ → TrackNumber
track_number c h = record { cylinder = c; head = h }

-- the tracks of a cylinder, by head
unfoldable pub cylinder_tracks : ℕ → ℕ → List TrackNumber
cylinder_tracks heads c = map (track_number c) (range_with_len 0 heads)

-- the tracks of a disk, by cylinder, then head
unfoldable pub tracks_of : Disk → List TrackNumber
tracks_of disk = flat_map (cylinder_tracks disk.heads) (range_with_len 0 disk.cylinders)

-- the line of an address field of a track
abbrev pub line_on : TrackNumber → LookedField → SurveyLine
line_on track one = record { cylinder = track.cylinder; head = track.head; field = one.field; look = one.look }

-- The lines of these tracks, one track after the other. For each track they are exactly its address fields, in order of
-- place, with the looks at them.
abbrev pub AreLines : Disk → List TrackNumber → List SurveyLine → Type 0
AreLines disk [] lines = lines ≡ []
AreLines disk (track ∷ tracks) lines =
    (looked : List LookedField) × (rest : List SurveyLine) × AreLooked (track_of disk track.cylinder track.head) looked
    × (lines ≡ map (line_on track) looked ++ rest) × AreLines disk tracks rest

-- the survey of a disk
abbrev pub IsSurvey : Disk → List SurveyLine → Type 0
IsSurvey disk lines = AreLines disk (tracks_of disk) lines

-- ---- printed

-- whether a size code names a size
abbrev pub names_size : ℕ → Bool
names_size n = nat_le 1 n && nat_le n 6

-- the word for a look; if the data aren't found, it is the status code of INT 13h
abbrev pub look_text : Look → List ℕ
look_text (Found false place) = codes "ok"
look_text (Found true place) = codes "deleted"
look_text NoMark = codes "02"
look_text NoData = codes "02"
look_text NoSector = codes "04"
look_text BadCrc = codes "10"

-- the last word of a line
abbrev pub word_text : ℕ → Look → List ℕ
word_text n look = if names_size n then look_text look else codes "size"

-- a line without its line feed: cylinder, head, the first cell of the field, its key, and what was found there
unfoldable pub line_text : SurveyLine → List ℕ
line_text line =
    join_with_byte 32 (decimal line.cylinder ∷ decimal line.head ∷ decimal line.field.place
    ∷ decimal line.field.key.c ∷ decimal line.field.key.h ∷ decimal line.field.key.r ∷ decimal line.field.key.n
    ∷ word_text line.field.key.n line.look ∷ [])

-- the last line, without its line feed: how many address fields there were
unfoldable pub end_text : ℕ → List ℕ
end_text count = codes "survey " ++ decimal count
