-- The script of a copy.
use Rattle.std.specs.Prelude.{ℕ, ◌-◌, Bool, true, false, List, [], ◌∷◌, ◌++◌, codes, set, get_or, replicate, if◌then◌else◌}
use Rattle.disk_commands.specs.Common.{decimal, sectors_at, Chrn, key_of, Request, Reply, blank_request, Shape, Script, Ends, Part, carries, needs, opens, acknowledges, each, by_track, record_address}
use Rattle.flop_base.specs.declared.answers.Status.TheVariants as status
use Rattle.floppy_jobs.specs.declared.request.Request.TheVariants as request
use Rattle.sector_model.specs.declared.reply.Reply.TheVariants as reply
use Rattle.disk_commands.specs.Disks.{sectors_of}

-- whether the answer says that the field is marked as deleted
abbrev pub tells_deleted : Reply → Bool
tells_deleted reply.DoneDeleted = true
tells_deleted reply.Done = false
tells_deleted (reply.Bytes address content) = false
tells_deleted (reply.Refused cause) = false

-- a write to bay 1, of a record with this mark
abbrev pub write_request : Bool → Chrn → ℕ → Request
write_request deleted key address = if deleted then request.WriteDeleted 1 key address else request.Write 1 key address

-- the marks of a track while none is known yet
abbrev pub no_marks : List Bool
no_marks = replicate 18 false

-- a record is read to its own place, and its mark is kept
unfoldable pub reads_record : ℕ → ℕ → ℕ → List Bool → Part (List Bool)
reads_record c h r marks rest =
    needs (request.Read 0 (key_of c h r) (record_address r)) (λ answer after. rest (set marks (r - 1) (tells_deleted answer)))

-- the record is written from its own place, with its mark
unfoldable pub writes_record : List Bool → ℕ → ℕ → ℕ → Unit {0} → Part (Unit {0})
writes_record marks c h r none rest = carries (write_request (get_or marks (r - 1) false) (key_of c h r) (record_address r)) rest

-- a track is formatted, its records are read, and then written
unfoldable pub copies_track : ℕ → ℕ → ℕ → Unit {0} → Part (Unit {0})
copies_track sectors c h none rest =
    carries (request.Format 1 c h) (λ none.
    each 1 sectors (reads_record c h) no_marks (λ marks.
    each 1 sectors (writes_record marks c h) tt rest))

-- the last line says how many sectors were copied
unfoldable pub copy_text : ℕ → List ℕ
copy_text sectors = codes "copy ok " ++ (decimal sectors ++ codes "\n")

-- The new disk is made, and both bays are made ready. Each track is copied, and the new disk is stored.
unfoldable pub copies_disk : List ℕ → Shape → Part (Unit {0})
copies_disk to shape rest =
    carries (blank_request 1 to shape.cylinders shape.rate) (λ none.
    acknowledges 0 shape.rate (λ none.
    acknowledges 1 shape.rate (λ none.
    by_track shape.cylinders shape.heads (copies_track (sectors_at shape.rate)) tt (λ none.
    carries (request.Eject 1) rest))))

-- the disk of one name is put in, and copied to a disk of another name
unfoldable pub makes_copy : List ℕ → List ℕ → Part Shape
makes_copy from to rest = opens from (λ shape. copies_disk to shape (λ none. rest shape))

-- the copy is made, and the last line says how many sectors were copied
unfoldable pub copy_script : List ℕ → List ℕ → Script
copy_script from to = makes_copy from to (λ shape. Ends (copy_text (sectors_of shape) ∷ []) status.AllOk)
