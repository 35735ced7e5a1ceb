-- Jobs that only read, and what they store: the disks that their files have already.
use Rattle.std.specs.Prelude.{◌≡◌, Bool, true, false, List, [], ◌∷◌, Option}
use Rattle.laws_program.specs.Common.{Files, Store, Disk, file_of, Request, State, IsImageOf, Taken, StoresFirst, stores_of, end_stores, state_after}
use Rattle.floppy_jobs.specs.declared.request.Request.TheVariants as request

-- the request neither writes to a medium, nor makes one, nor takes one out
abbrev pub only_reads : Request → Bool
only_reads (request.Insert bay name) = true
only_reads (request.Ack bay) = true
only_reads (request.Read bay key address) = true
only_reads (request.Fill address count byte) = true
only_reads (request.Dump address count) = true
only_reads (request.Unit bay) = true
only_reads (request.SetRate bay rate) = true
only_reads (request.Tries tries) = true
only_reads (request.Blank bay name cylinders) = false
only_reads (request.BlankDd bay name cylinders) = false
only_reads (request.Eject bay) = false
only_reads (request.Write bay key address) = false
only_reads (request.WriteDeleted bay key address) = false
only_reads (request.Format bay c h) = false

-- each of the requests only reads
abbrev pub AllRead : List Request → Type 0
AllRead [] = Unit {0}
AllRead (asked ∷ later) = (only_reads asked ≡ true) × AllRead later

-- a store of what its name has already: of the disk whose image the told file of that name is
abbrev pub IsStoredAgain : Option Files → Store → Type 0
IsStoredAgain told store = (disk : Disk) × IsImageOf told store.name disk × (store.bytes ≡ file_of disk)

-- each of the stores is such a one
abbrev pub AreStoredAgain : Option Files → List Store → Type 0
AreStoredAgain told [] = Unit {0}
AreStoredAgain told (store ∷ later) = IsStoredAgain told store × AreStoredAgain told later

-- nothing was stored before the end of a run. At the end a first part of what was left in was stored, each disk as its
-- file had it
pub record StoresAgainAtEnd (start : State) (course : List Taken) (told after : Option Files) : Type 0 where
  pub nothing_before : stores_of start course ≡ []
  pub at_the_end : StoresFirst (end_stores (state_after start course)) told after
  pub again : AreStoredAgain told (end_stores (state_after start course))
