-- The bytes in which stages that write are saved: one for the kind of the stage, and then what the stage keeps.
use Rattle.std.specs.Prelude.{ℕ, List, ◌∷◌}
use Rattle.fdc_stages.specs.Common.{spelled_byte, spelled_flag, spelled_key, spelled_word}
use Rattle.fdc_stages.specs.Saving.{spelled_search}
use Rattle.track_format.specs.Saving.{spelled_stream}
use Rattle.fdc_stages.specs.declared.window.Part.{Part}
use Rattle.fdc_stages.specs.declared.window.Part.TheVariants.{Sync, Marks, Mark, Content, High, Low}
use Rattle.fdc_stages.specs.declared.window.Window.{Window}
use Rattle.fdc_stages.specs.declared.writing.WriteStage.{WriteStage}
use Rattle.fdc_stages.specs.declared.formatting.FormatPart.{FormatPart}
use Rattle.fdc_stages.specs.declared.formatting.FormatPart.TheVariants.{Await, Due, Lay, Barred}
use Rattle.fdc_stages.specs.declared.formatting.FormatStage.{FormatStage}
use Rattle.fdc_stages.specs.declared.writing.WriteStage.TheVariants as stage

-- a part of a window
unfoldable pub spelled_part : Part → List ℕ → List ℕ
spelled_part (Sync more) rest = 0 ∷ spelled_byte more rest
spelled_part (Marks more) rest = 1 ∷ spelled_byte more rest
spelled_part Mark rest = 2 ∷ rest
spelled_part (Content more) rest = 3 ∷ spelled_word more rest
spelled_part High rest = 4 ∷ rest
spelled_part Low rest = 5 ∷ rest

-- a window
unfoldable pub spelled_window : Window → List ℕ → List ℕ
spelled_window window rest =
    spelled_flag window.deleted (spelled_word window.more (spelled_part window.part (spelled_word window.check
    (spelled_flag window.last rest))))

-- a stage of WRITE DATA
unfoldable pub spelled_write : WriteStage → List ℕ → List ℕ
spelled_write (stage.Search search) rest = 0 ∷ spelled_search search rest
spelled_write (stage.Gap left) rest = 1 ∷ spelled_byte left rest
spelled_write (stage.Window window) rest = 2 ∷ spelled_window window rest

-- a part of FORMAT TRACK
unfoldable pub spelled_format_part : FormatPart → List ℕ → List ℕ
spelled_format_part Await rest = 0 ∷ rest
spelled_format_part Due rest = 1 ∷ rest
spelled_format_part Lay rest = 2 ∷ rest
spelled_format_part Barred rest = 3 ∷ rest

-- a stage of FORMAT TRACK
unfoldable pub spelled_format : FormatStage → List ℕ → List ℕ
spelled_format format rest =
    spelled_format_part format.part (spelled_stream format.stream (spelled_key format.key rest))
