-- What an import requests and prints.
use Rattle.std.specs.Prelude.{ℕ, ◌+◌, ◌*◌, List, [], ◌∷◌, ◌++◌, Result, Ok, Err, slice_index, codes}
use Rattle.disk_commands.specs.Common.{decimal, sectors_at, Rate, Status, key_of, sector_place, Stop, stop_lines, stop_status, Taken, World, blank_request, Script, Ends, RunsScript, Part, carries, acknowledges, each, by_track, record_address}
use Rattle.flop_base.specs.declared.answers.Status.TheVariants as status
use Rattle.floppy_jobs.specs.declared.request.Request.TheVariants as request
use Rattle.disk_commands.specs.FlatFiles.{IsFlatFound}

-- the number of sectors of a disk of 80 cylinders and two heads
abbrev pub sectors_of : Rate → ℕ
sectors_of rate = 160 * sectors_at rate

-- the last line of an import says how many sectors it imported
unfoldable pub import_text : ℕ → List ℕ
import_text sectors = codes "import ok " ++ (decimal sectors ++ codes "\n")

-- a byte of memory is set to a byte of a record, which begins at its place in the flat file
unfoldable pub fills_byte : List ℕ → ℕ → ℕ → ℕ → Unit {0} → Part (Unit {0})
fills_byte bytes place address i none = carries (request.Fill (address + i) 1 (slice_index bytes (place + i)))

-- memory is set to the bytes of a record, by one request for each byte
unfoldable pub fills_record : List ℕ → ℕ → ℕ → Unit {0} → Part (Unit {0})
fills_record bytes place address none = each 0 512 (fills_byte bytes place address) none

-- memory is set to the bytes of each record of a track, at the record's own address
unfoldable pub fills_track : List ℕ → ℕ → ℕ → ℕ → Part (Unit {0})
fills_track bytes sectors c h = each 1 sectors (λ r. fills_record bytes (sector_place sectors c h r) (record_address r)) tt

-- a record is written from its own address
unfoldable pub writes_record : ℕ → ℕ → ℕ → Unit {0} → Part (Unit {0})
writes_record c h r none = carries (request.Write 0 (key_of c h r) (record_address r))

-- each record of a track is written from its own address
unfoldable pub writes_track : ℕ → ℕ → ℕ → Part (Unit {0})
writes_track sectors c h = each 1 sectors (writes_record c h) tt

-- A track is formatted. The bytes of its records are put into memory, and then the records are written.
unfoldable pub imports_track : List ℕ → ℕ → ℕ → ℕ → Unit {0} → Part (Unit {0})
imports_track bytes sectors c h none rest =
    carries (request.Format 0 c h) (λ none. fills_track bytes sectors c h (λ none. writes_track sectors c h rest))

-- a disk of 80 cylinders is made from the bytes of a flat file, and stored under this name
abbrev pub imports_disk : List ℕ → List ℕ → Rate → Part (Unit {0})
imports_disk bytes name rate rest =
    carries (blank_request 0 name 80 rate) (λ none. acknowledges 0 rate
    (λ none. by_track 80 2 (imports_track bytes (sectors_at rate)) tt (λ none. carries (request.Eject 0) rest)))

-- what follows the load of a flat file: the reason why it isn't taken, or the making of a disk of its bytes and its
-- rate
abbrev pub import_script : Result (List ℕ × Rate) Stop → List ℕ → Script
import_script (Err cause) name = Ends (stop_lines cause) (stop_status cause)
import_script (Ok (bytes, rate)) name = imports_disk bytes name rate (λ none. Ends (import_text (sectors_of rate) ∷ []) status.AllOk)

-- the flat file of a name becomes a disk that is stored under another name
abbrev pub Imports : List ℕ → List ℕ → World → List Taken → World → Status → Type 0
Imports flat name old course new ended =
    (found : Result (List ℕ × Rate) Stop) × IsFlatFound old.files flat found
    × RunsScript (import_script found name) old course new ended
