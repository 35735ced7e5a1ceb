-- Which stores are made, in which order, and how often.
use Rattle.std.specs.Prelude.{◌≡◌, ℕ, List, [], ◌∷◌, ◌++◌, Option, Some, None}
use Rattle.laws_commands.specs.Common.{in_bay, Files, Store, stored, Disk, file_of, Request, Reply, bay_of, State, Taken, log_text, LogLine}
use Rattle.floppy_jobs.specs.declared.request.Request.TheVariants as request
use Rattle.sector_model.specs.declared.reply.Reply.TheVariants as reply

-- ---- Lists of stores.

-- these bytes are stored under this name
abbrev pub store_of : List ℕ → List ℕ → Store
store_of name bytes = record { name = name; bytes = bytes }

-- the files that are told after these stores, one after the other
abbrev pub all_stored : Option Files → List Store → Option Files
all_stored told [] = told
all_stored told (store ∷ later) = all_stored (stored told store.name store.bytes) later

-- A first part of these stores was made, and nothing else. The part may be none of them, some, or all.
pub record StoresFirst (wanted : List Store) (told after : Option Files) : Type 0 where
  pub made : List Store
  pub rest : List Store
  pub first : wanted ≡ made ++ rest
  pub files : after ≡ all_stored told made

-- ---- The stores of a run.

-- the store of a medium under its name, if the bay has both
abbrev pub medium_store : Option Disk → Option (List ℕ) → List Store
medium_store None name = []
medium_store (Some disk) None = []
medium_store (Some disk) (Some name) = store_of name (file_of disk) ∷ []

-- the store of the medium that is in a bay
abbrev pub bay_store : State → ℕ → List Store
bay_store state bay = medium_store (bay_of state.station bay).medium (in_bay state.names bay)

-- an eject that was done stores the medium that it took out; no other request stores anything
abbrev pub stores_by : Request → Reply → State → List Store
stores_by (request.Eject bay) reply.Done state = bay_store state bay
stores_by _ _ state = []

-- the stores of a course: those of its ejects, in their order
abbrev pub stores_of : State → List Taken → List Store
stores_of state [] = []
stores_of state (taken ∷ later) = stores_by taken.asked taken.answer state ++ stores_of taken.after later

-- the stores at the end of a run: of the medium in bay 0, and then of the one in bay 1
abbrev pub end_stores : State → List Store
end_stores state = bay_store state 0 ++ bay_store state 1

-- the state after a course
abbrev pub state_after : State → List Taken → State
state_after state [] = state
state_after state (taken ∷ later) = state_after taken.after later

-- A run stored what its ejects took out. At its end it then stored a first part of what was left in, and nothing else.
abbrev pub StoresRun : State → List Taken → Option Files → Option Files → Type 0
StoresRun start course told after = StoresFirst (end_stores (state_after start course)) (all_stored told (stores_of start course)) after

-- ---- The stores of a command.

-- a disk was stored under this name and nothing else was, or nothing was stored
abbrev pub StoresDiskAlone : List ℕ → Option Files → Option Files → Type 0
StoresDiskAlone name told after = (disk : Disk) × StoresFirst (store_of name (file_of disk) ∷ []) told after

-- a file of any bytes was stored under this name and nothing else was, or nothing was stored
abbrev pub StoresFileAlone : List ℕ → Option Files → Option Files → Type 0
StoresFileAlone name told after = (bytes : List ℕ) × StoresFirst (store_of name bytes ∷ []) told after

-- A disk was stored under one name, and then a log under the other. Or the disk alone was stored, or nothing.
abbrev pub StoresDiskThenLog : List ℕ → List ℕ → List LogLine → Option Files → Option Files → Type 0
StoresDiskThenLog to log lines told after =
    (disk : Disk) × StoresFirst (store_of to (file_of disk) ∷ store_of log (log_text lines) ∷ []) told after
