-- What an export requests, stores and prints.
use Rattle.std.specs.Prelude.{ℕ, List, [], ◌++◌, Result, Ok, Err, codes}
use Rattle.disk_commands.specs.Common.{decimal, sectors_at, Rate, Status, bytes_from, key_of, World, Script, Stores, Part, needs, may_starve, opens, acknowledges, each, by_track, Goes, record_address}
use Rattle.flop_base.specs.declared.answers.Status.TheVariants as status
use Rattle.floppy_jobs.specs.declared.request.Request.TheVariants as request
use Rattle.disk_commands.specs.Import.{sectors_of}

-- the last line of an export says how many sectors it exported
unfoldable pub export_text : ℕ → List ℕ
export_text sectors = codes "export ok " ++ (decimal sectors ++ codes "\n")

-- a record is read to its own address, and its bytes are appended to those of the records before it
unfoldable pub reads_record : ℕ → ℕ → ℕ → List ℕ → Part (List ℕ)
reads_record c h r bytes rest =
    needs (request.Read 0 (key_of c h r) (record_address r))
    (λ answer after. may_starve (λ none. rest (bytes ++ bytes_from after.station.memory (record_address r) 512)))

-- each record of a track is read in this way
unfoldable pub reads_track : ℕ → ℕ → ℕ → List ℕ → Part (List ℕ)
reads_track sectors c h bytes = each 1 sectors (reads_record c h) bytes

-- the bay is made ready, and each record of 80 cylinders is read
abbrev pub reads_disk : Rate → List ℕ → Part (List ℕ)
reads_disk rate bytes rest = acknowledges 0 rate (λ none. by_track 80 2 (reads_track (sectors_at rate)) bytes rest)

-- the records of the disk of the first name are stored under the second name, one after the other
abbrev pub export_script : List ℕ → List ℕ → Script
export_script name flat =
    opens name (λ shape. reads_disk shape.rate [] (λ bytes. Stores flat bytes (export_text (sectors_of shape.rate)) status.AllOk))

-- A part was gone through and found these bytes, which were appended to an argument. Or the part ended the script.
abbrev pub GoesOn : Part (List ℕ) → List ℕ → World → Result (Unit {0}) Status → World → Type 0
GoesOn part bytes old (Ok done) new = Goes part old (Ok bytes) new
GoesOn part bytes old (Err ended) new = Goes part old (Err ended) new
