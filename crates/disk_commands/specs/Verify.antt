-- The script of a verify. Each sector of a disk is read, and those that can't be read are listed.
use Rattle.std.specs.Prelude.{ℕ, ◌+◌, ◌||◌, Bool, false, List, [], ◌∷◌, ◌++◌, codes, if◌then◌else◌}
use Rattle.disk_commands.specs.Common.{decimal, sectors_at, Chrn, key_of, Reply, Reason, is_refusal, reason_text, line_end, whole_status, Shape, Script, Ends, Part, asks, says, opens, acknowledges, each, by_track, track_address}
use Rattle.floppy_jobs.specs.declared.request.Request.TheVariants as request
use Rattle.sector_model.specs.declared.reply.Reply.TheVariants as reply
use Rattle.disk_commands.specs.declared.read_tally.ReadTally.{ReadTally}
use Rattle.disk_commands.specs.Disks.{sectors_of}

-- the line of a record that couldn't be read: its cylinder, head and record, and why
unfoldable pub failure_line : Chrn → Reason → List ℕ
failure_line key cause =
    decimal key.c ++ (codes " " ++ (decimal key.h ++ (codes " " ++ (decimal key.r ++ (codes " " ++ (reason_text cause ++ line_end))))))

-- if a read is refused, a line tells of it
unfoldable pub tells_failure : Chrn → Reply → Part (Unit {0})
tells_failure key (reply.Refused cause) rest = says (failure_line key cause) rest
tells_failure key reply.Done rest = rest tt
tells_failure key reply.DoneDeleted rest = rest tt
tells_failure key (reply.Bytes address content) rest = rest tt

-- the tally of no reads
abbrev pub no_reads : ReadTally
no_reads = record { well = 0; refused = false }

-- the tally after one more read, which was refused or wasn't
abbrev pub one_more : ReadTally → Bool → ReadTally
one_more tally refused = record { well = tally.well + (if refused then 0 else 1); refused = tally.refused || refused }

-- a record is read, and a line tells of it if it can't be read
unfoldable pub verifies_record : ℕ → ℕ → ℕ → ReadTally → Part ReadTally
verifies_record c h r tally rest =
    asks (request.Read 0 (key_of c h r) track_address) (λ answer after.
    tells_failure (key_of c h r) answer (λ none.
    rest (one_more tally (is_refusal answer))))

-- each record of a track is read in this way
unfoldable pub verifies_track : ℕ → ℕ → ℕ → ReadTally → Part ReadTally
verifies_track sectors c h tally rest = each 1 sectors (verifies_record c h) tally rest

-- the last line: how many of how many sectors were read
unfoldable pub verify_text : ℕ → ℕ → List ℕ
verify_text well all = codes "verify " ++ (decimal well ++ (codes " of " ++ (decimal all ++ codes "\n")))

-- The disk of a name is put in and acknowledged, and every sector is read. The disk's shape and the tally are found.
unfoldable pub reads_disk : List ℕ → Part (Shape × ReadTally)
reads_disk name rest =
    opens name (λ shape.
    acknowledges 0 shape.rate (λ none.
    by_track shape.cylinders shape.heads (verifies_track (sectors_at shape.rate)) no_reads (λ tally. rest (shape, tally))))

-- the disk is read in this way, and the last line says how many sectors were read well
unfoldable pub verify_script : List ℕ → Script
verify_script name =
    reads_disk name (λ found. Ends (verify_text found.1.well (sectors_of found.0) ∷ []) (whole_status found.1.refused))
