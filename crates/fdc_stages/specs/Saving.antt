-- The bytes in which stages are saved: one for the kind of the stage, and then what the stage keeps.
use Rattle.std.specs.Prelude.{ℕ, List, ◌∷◌}
use Rattle.fdc_stages.specs.Common.{spelled_flag}
use Rattle.track_separator.specs.Saving.{spelled_separator}
use Rattle.fdc_stages.specs.declared.ending.Ending.{Ending}
use Rattle.fdc_stages.specs.declared.ending.Ending.TheVariants.{Done, NoMark, NoSector, NoField, BadCheck, Overrun, NoCount, Protected, Late}
use Rattle.fdc_stages.specs.declared.searching.Search.{Search}
use Rattle.fdc_stages.specs.declared.reading.ReadStage.{ReadStage}
use Rattle.fdc_stages.specs.declared.reading.ReadStage.TheVariants as stage

-- how a command ends
unfoldable pub spelled_ending : Ending → List ℕ → List ℕ
spelled_ending (Done deleted) rest = 0 ∷ spelled_flag deleted rest
spelled_ending NoMark rest = 1 ∷ rest
spelled_ending NoSector rest = 2 ∷ rest
spelled_ending NoField rest = 3 ∷ rest
spelled_ending BadCheck rest = 4 ∷ rest
spelled_ending Overrun rest = 5 ∷ rest
spelled_ending NoCount rest = 6 ∷ rest
spelled_ending Protected rest = 7 ∷ rest
spelled_ending Late rest = 8 ∷ rest

-- a search for an address field
unfoldable pub spelled_search : Search → List ℕ → List ℕ
spelled_search search rest =
    spelled_separator search.separator (spelled_flag search.turned (spelled_flag search.marked rest))

-- a stage of READ DATA
unfoldable pub spelled_read : ReadStage → List ℕ → List ℕ
spelled_read (stage.Search search) rest = 0 ∷ spelled_search search rest
spelled_read (stage.Wait separator) rest = 1 ∷ spelled_separator separator rest
spelled_read (stage.Content separator deleted) rest = 2 ∷ spelled_separator separator (spelled_flag deleted rest)
spelled_read (stage.Over deleted good) rest = 3 ∷ spelled_flag deleted (spelled_flag good rest)
