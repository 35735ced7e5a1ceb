-- What the subcommands (forms) on files alone store and print.
use Rattle.std.specs.Prelude.{◌≡◌, ℕ, List, [], ◌∷◌, Option, Result, Ok}
use Rattle.laws_program.specs.Common.{Files, grown, Outside, made_text}
use Rattle.remaster.specs.declared.lines.SurveyLine.{SurveyLine}
use Rattle.archive_commands.specs.declared.halt.Halt.{Halt}
use Rattle.archive_commands.specs.Surveys.{SurveysFile, survey_lines}

-- a file was made of another, and the report says so, with a number
pub record MakesFile (Makes : Option Files → Result ℕ Halt → Option Files → Type 0) (verb : List ℕ) (before after : Outside) : Type 0 where
  pub count : ℕ
  pub makes : Makes before.files (Ok count) after.files
  pub report : after.report ≡ grown before.report (made_text verb count ∷ [])

-- the survey of a disk was printed, and no file changed
pub record TellsSurveyOf (name : List ℕ) (before after : Outside) : Type 0 where
  pub lines : List SurveyLine
  pub survey : SurveysFile before.files name (Ok lines)
  pub files : after.files ≡ before.files
  pub report : after.report ≡ grown before.report (survey_lines lines)

-- some track doesn't fit, and no file changed
abbrev pub HasUnfit : (ℕ → ℕ → Type 0) → Option Files → Option Files → Type 0
HasUnfit IsUnfit told after = ((c : ℕ) × (h : ℕ) × IsUnfit c h) × (after ≡ told)
