-- What stops a run if the shelf refuses a load or a store.
use Rattle.std.specs.Prelude.{◌≡◌, ℕ, List}
use Rattle.flop_base.specs.declared.answers.LoadError.{LoadError}
use Rattle.flop_base.specs.declared.answers.LoadError.TheVariants as load
use Rattle.flop_base.specs.declared.answers.StoreError.{StoreError}
use Rattle.flop_base.specs.declared.answers.StoreError.TheVariants as store
use Rattle.sector_model.specs.declared.reply.Stop.{Stop}
use Rattle.sector_model.specs.declared.reply.Stop.TheVariants as stop
use Rattle.sector_model.specs.Steps.{most_image_bytes}

-- what stops the run if the load of the file of this name is refused
abbrev pub StopsFor : List ℕ → LoadError → Stop → Type 0
StopsFor name load.Absent ended = ended ≡ stop.Absent name
StopsFor name load.TooLong ended = ended ≡ stop.TooLong name most_image_bytes
StopsFor name load.Failed ended = ended ≡ stop.FileFault
StopsFor name load.NoMemory ended = ended ≡ stop.NoMemory

-- what stops the run if a store is refused
abbrev pub StopsForStore : StoreError → Stop → Type 0
StopsForStore store.Failed ended = ended ≡ stop.FileFault
StopsForStore store.NoMemory ended = ended ≡ stop.NoMemory
