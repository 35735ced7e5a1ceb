-- Files that requests put into a bay: which names hold the file of a disk, by the files at first and by what is stored.
use Rattle.std.specs.Prelude.{◌≡◌, ◌≤◌, ◌⊎◌, ◌&&◌, ℕ, Bool, true, not, is_some, List, [], ◌∷◌, length, Option, Some, None, IfSome, IsSomeAnd, if◌then◌else◌}
use Rattle.laws_program.specs.Common.{Files, file_at, Disk, Spells, Two, in_bay, with_bay, Request, CallLine, PortLine, is_bay, is_blank_request, most_image_bytes}
use Rattle.floppy_jobs.specs.declared.request.Request.TheVariants as request
use Rattle.floppy_jobs.specs.declared.calls.CallLine.TheVariants as call
use Rattle.floppy_jobs.specs.declared.ports.PortLine.TheVariants as port

-- the bytes are the file of a disk
abbrev pub IsDiskText : List ℕ → Disk → Type 0
IsDiskText bytes disk = (length bytes ≤ most_image_bytes) × Spells bytes disk

-- the told file of this name is the file of a disk
abbrev pub IsDiskFile : Option Files → List ℕ → Type 0
IsDiskFile told name = (disk : Disk) × IfSome told (λ files. IsSomeAnd (file_at files name) (λ bytes. IsDiskText bytes disk))

-- the names of the media in the bays
abbrev pub Names : Type 0
Names = Two (Option (List ℕ))

-- a medium is put into a bay if the request is good and the bay is empty
abbrev pub put_in : Names → Bool → ℕ → List ℕ → Names
put_in names good bay name = if good then (if is_some (in_bay names bay) then names else with_bay names bay (Some name)) else names

-- the names in the bays after a request; a request that has to be refused changes none
abbrev pub named_by : Names → Request → Names
named_by names (request.Insert bay name) = put_in names (is_bay bay) bay name
named_by names (request.Blank bay name cylinders) = put_in names (is_blank_request bay cylinders) bay name
named_by names (request.BlankDd bay name cylinders) = put_in names (is_blank_request bay cylinders) bay name
named_by names (request.Eject bay) = if is_bay bay then (if is_some (in_bay names bay) then with_bay names bay None else names) else names
named_by names _ = names

-- the request stores a disk under this name
abbrev pub IsStoredBy : Names → Request → List ℕ → Type 0
IsStoredBy names (request.Eject bay) name = (is_bay bay ≡ true) × (in_bay names bay ≡ Some name)
IsStoredBy names _ name = ⊥

-- a name holds the file of a disk after a request: it did before, or the request stored a disk under it
abbrev pub HoldsBy : (List ℕ → Type 0) → Names → Request → List ℕ → Type 0
HoldsBy Holds names asked name = Holds name ⊎ IsStoredBy names asked name

-- a medium can be put into a bay: there is such a bay, and it is empty
abbrev pub is_free : Names → ℕ → Bool
is_free names bay = is_bay bay && not (is_some (in_bay names bay))

-- what a request puts in is the file of a disk; a request that has to be refused puts nothing in, and loads nothing
abbrev pub InsertsDisk : (List ℕ → Type 0) → Names → Request → Type 0
InsertsDisk Holds names (request.Insert bay name) = is_free names bay ≡ true → Holds name
InsertsDisk Holds names _ = Unit {0}

-- each file that the requests put in is the file of a disk, or was stored by one of them before
abbrev pub InsertsDisks : (List ℕ → Type 0) → Names → List Request → Type 0
InsertsDisks Holds names [] = Unit {0}
InsertsDisks Holds names (asked ∷ later) = InsertsDisk Holds names asked × InsertsDisks (HoldsBy Holds names asked) (named_by names asked) later

-- the requests among lines of calls; a call of INT 13h puts nothing in, and takes nothing out
abbrev pub requests_among : List CallLine → List Request
requests_among [] = []
requests_among (call.Job asked ∷ later) = asked ∷ requests_among later
requests_among (call.Call ax bx cx dx es ∷ later) = requests_among later

-- the requests among lines of port accesses: those that put media in, and those that take media out
abbrev pub media_among : List PortLine → List Request
media_among [] = []
media_among (port.In number ∷ later) = media_among later
media_among (port.Out number value ∷ later) = media_among later
media_among (port.Wait steps ∷ later) = media_among later
media_among (port.Irq ∷ later) = media_among later
media_among (port.Insert bay name ∷ later) = request.Insert bay name ∷ media_among later
media_among (port.Eject bay ∷ later) = request.Eject bay ∷ media_among later
