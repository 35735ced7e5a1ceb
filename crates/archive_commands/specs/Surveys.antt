-- The survey of a disk as it is printed, and what it counts.
use Rattle.std.specs.Prelude.{◌≡◌, ℕ, Bool, true, false, List, [], ◌∷◌, ◌++◌, length, map, filter, Option, Result, Ok, Err, Vec}
use Rattle.archive_commands.specs.Common.{Global, Files, Status, Disk, image_of, Stop, stop_lines, stop_status, line_end, Prints}
use Rattle.flop_base.specs.declared.answers.Status.TheVariants as status
use Rattle.track_model.specs.declared.Look.{Look}
use Rattle.track_model.specs.declared.Look.TheVariants.{Found, NoMark, NoSector, NoData, BadCrc}
use Rattle.remaster.specs.declared.lines.SurveyLine.{SurveyLine}
use Rattle.remaster.specs.Survey.{IsSurvey, line_text, end_text}
use Rattle.archive_commands.specs.Files.{Outside, ReadsAs, StopsAt}

-- a line for each address field
abbrev pub field_line : SurveyLine → List ℕ
field_line line = line_text line ++ line_end

abbrev pub field_lines : List SurveyLine → List (List ℕ)
field_lines lines = map field_line lines

-- the line with the number of fields; below, all that is printed
abbrev pub end_line : ℕ → List ℕ
end_line count = end_text count ++ line_end

abbrev pub survey_lines : List SurveyLine → List (List ℕ)
survey_lines lines = field_lines lines ++ end_line (length lines) ∷ []

-- what comes of a survey of the file of this name
abbrev pub SurveysFile : Option Files → List ℕ → Result (List SurveyLine) Stop → Type 0
SurveysFile told name (Ok lines) = (disk : Disk) × ReadsAs image_of told name (Ok disk) × IsSurvey disk lines
SurveysFile told name (Err cause) = StopsAt image_of told name cause

-- what comes of such a survey, where its lines lie in memory
abbrev pub GivesSurvey : List ℕ → Option Files → Result (Vec SurveyLine Global) Stop → Type 0
GivesSurvey name told (Ok lines) = SurveysFile told name (Ok lines.items)
GivesSurvey name told (Err cause) = SurveysFile told name (Err cause)

abbrev pub TellsSurvey : Result (List SurveyLine) Stop → Option (List (List ℕ)) → Option (List (List ℕ)) → Status → Type 0
TellsSurvey (Ok lines) old new ended = Prints (survey_lines lines) status.AllOk old new ended
TellsSurvey (Err cause) old new ended = Prints (stop_lines cause) (stop_status cause) old new ended

-- a survey prints lines and stores nothing
abbrev pub Surveys : List ℕ → Outside → Outside → Status → Type 0
Surveys name old new ended =
    (outcome : Result (List SurveyLine) Stop) × SurveysFile old.files name outcome × (new.files ≡ old.files)
    × TellsSurvey outcome old.report new.report ended

-- the look found a sector
abbrev pub is_found : Look → Bool
is_found (Found deleted place) = true
is_found NoMark = false
is_found NoSector = false
is_found NoData = false
is_found BadCrc = false

-- how many of these lines are of a sector that was found
abbrev pub found_count : List SurveyLine → ℕ
found_count lines = length (filter (λ (line : SurveyLine). is_found line.look) lines)

-- how many sectors the disk has: as many as are found in its survey
abbrev pub IsSectorCount : Disk → ℕ → Type 0
IsSectorCount disk count = (lines : List SurveyLine) × IsSurvey disk lines × (count ≡ found_count lines)
