-- What stands on a medium, in bytes.
use Rattle.std.specs.Prelude.{◌≡◌, ◌/◌, ◌%◌, ◌==◌, ℕ, false, true, List, [], ◌∷◌, Option, None, Some, MatchBool, if◌then◌else◌}
use Rattle.std.specs.List.{flat_map}
use Rattle.telwyddus_c.specs.Common.{Disk}
use Rattle.remaster.specs.Survey.{IsSurvey, names_size}
use Rattle.remaster.specs.declared.lines.SurveyLine.{SurveyLine}
use Rattle.track_model.specs.declared.Look.{Look}
use Rattle.track_model.specs.declared.Look.TheVariants.{Found, NoMark, NoSector, NoData, BadCrc}
use Rattle.telwyddus_c.specs.Buffers.{WritesBytes}

-- the sign of what was found. Missing or damaged data has the status code of INT 13h as its sign
abbrev pub found_sign : Look → ℕ
found_sign (Found false place) = 0
found_sign (Found true place) = 1
found_sign NoMark = 2
found_sign NoData = 2
found_sign NoSector = 4
found_sign BadCrc = 16

-- the sign of an address field, also where its size code names no size
abbrev pub look_sign : ℕ → Look → ℕ
look_sign n look = if names_size n then found_sign look else 255

-- the bytes of an address field: cylinder and head of the track, its first cell with the lowest byte first, its sector
-- ID, and what was found
abbrev pub line_bytes : SurveyLine → List ℕ
line_bytes line =
    line.cylinder ∷ line.head ∷ (line.field.place % 256) ∷ (line.field.place / 256 % 256) ∷ (line.field.place / 65536 % 256)
    ∷ (line.field.place / 16777216 % 256) ∷ line.field.key.c ∷ line.field.key.h ∷ line.field.key.r ∷ line.field.key.n
    ∷ look_sign line.field.key.n line.look ∷ []

abbrev pub survey_bytes : List SurveyLine → List ℕ
survey_bytes lines = flat_map line_bytes lines

-- the survey of a medium is written to a buffer: code 0, or 10 if the buffer is too short. If there is no medium, 7, or
-- if memory is out, 3, the buffer and what was reported stay
abbrev pub WritesSurvey : Option Disk → ℕ → List ℕ → List ℕ → (was told : ℕ) → Type 0
WritesSurvey None code old new was told = (code ≡ 7) × (new ≡ old) × (told ≡ was)
WritesSurvey (Some disk) code old new was told =
    MatchBool (code == 3) ((new ≡ old) × (told ≡ was))
    ((lines : List SurveyLine) × IsSurvey disk lines × WritesBytes (survey_bytes lines) code old new told)
