-- The requests of the commands on whole disks, one list for each command. Tracks are listed by cylinder, then head.
use Rattle.std.specs.Prelude.{ℕ, Bool, true, false, List, [], ◌∷◌, ◌++◌, map, take, drop}
use Rattle.laws_commands.specs.Common.{flat_map, range_with_len, sectors_at, Chrn, Rate, Disk, track_keys, standard_keys, Request, Reply, Taken}
use Rattle.floppy_jobs.specs.declared.request.Request.TheVariants as request
use Rattle.sector_model.specs.declared.reply.Reply.TheVariants as reply
use Rattle.floppy_session.specs.Blanks.{blank_request}
use Rattle.commands.specs.Parts.{rate_requests}
use Rattle.commands.specs.Records.{record_address}

-- a track: its cylinder and its head
abbrev pub Track : Type 0
Track = ℕ × ℕ

-- the tracks of a cylinder
abbrev pub heads_of : ℕ → ℕ → List Track
heads_of heads c = map (λ h. (c, h)) (range_with_len 0 heads)

-- the tracks of a disk
unfoldable pub tracks_of : ℕ → ℕ → List Track
tracks_of cylinders heads = flat_map (heads_of heads) (range_with_len 0 cylinders)

-- a format of each track
abbrev pub format_each : ℕ → List Track → List Request
format_each bay tracks = map (λ (track : Track). request.Format bay track.0 track.1) tracks

-- the requests in bay 0 that make a formatted disk of a rate, with these cylinders and two heads
abbrev pub formatting : Rate → List ℕ → ℕ → List Request
formatting rate name cylinders =
    blank_request 0 name cylinders rate ∷ request.Ack 0 ∷ (rate_requests rate 0 ++ format_each 0 (tracks_of cylinders 2))

-- the requests of the command that formats: 1.44 MB at 500 kbit/s, 720 KB at 250 kbit/s
abbrev pub format_requests : Rate → List ℕ → ℕ → List Request
format_requests rate name cylinders = formatting rate name cylinders ++ request.Eject 0 ∷ []

-- a read of each key, all to one address
abbrev pub read_each : ℕ → List Chrn → List Request
read_each bay keys = map (λ key. request.Read bay key 0x10000) keys

-- the disk of this name is put into bay 0 and acknowledged, and the bay gets its rate
abbrev pub verify_opening : List ℕ → Disk → List Request
verify_opening name disk = request.Insert 0 name ∷ request.Ack 0 ∷ rate_requests disk.rate 0

-- the requests of the command that reads every sector of the disk of this name
abbrev pub verify_requests : List ℕ → Disk → List Request
verify_requests name disk = verify_opening name disk ++ read_each 0 (standard_keys disk)

-- a read of each record of a track, to the record's own place
abbrev pub read_records : ℕ → List Chrn → List Request
read_records bay keys = map (λ key. request.Read bay key (record_address key.r)) keys

-- a write of a record from its own place, with a mark
abbrev pub write_record : ℕ → Chrn → Bool → Request
write_record bay key true = request.WriteDeleted bay key (record_address key.r)
write_record bay key false = request.Write bay key (record_address key.r)

-- a write of each record of a track, with the record's mark
abbrev pub write_records : ℕ → List Chrn → List Bool → List Request
write_records bay (key ∷ keys) (deleted ∷ marks) = write_record bay key deleted ∷ write_records bay keys marks
write_records bay keys marks = []

-- A track is formatted in bay 1. Its records are read in bay 0, and then written in bay 1 with the marks that were
-- read.
abbrev pub copy_track : Rate → Track → List Bool → List Request
copy_track rate track marks =
    request.Format 1 track.0 track.1 ∷ (read_records 0 (track_keys (sectors_at rate) track.0 track.1)
    ++ write_records 1 (track_keys (sectors_at rate) track.0 track.1) marks)

-- each track is copied in this way, with as many of the marks as it has records
abbrev pub copy_each : Rate → List Track → List Bool → List Request
copy_each rate [] marks = []
copy_each rate (track ∷ tracks) marks =
    copy_track rate track (take (sectors_at rate) marks) ++ copy_each rate tracks (drop (sectors_at rate) marks)

-- The disk of one name is put into bay 0, and a blank disk for another name into bay 1. Then both bays are made ready.
abbrev pub copy_opening : List ℕ → List ℕ → Disk → List Request
copy_opening from to disk =
    request.Insert 0 from ∷ blank_request 1 to disk.cylinders disk.rate ∷ request.Ack 0
    ∷ (rate_requests disk.rate 0 ++ (request.Ack 1 ∷ rate_requests disk.rate 1))

-- the requests of the command that copies the disk of one name to another, if the reads give these marks
abbrev pub copy_requests : List ℕ → List ℕ → Disk → List Bool → List Request
copy_requests from to disk marks =
    copy_opening from to disk
    ++ (copy_each disk.rate (tracks_of disk.cylinders disk.heads) marks ++ request.Eject 1 ∷ [])

-- the mark that a read told
abbrev pub mark_of : Request → Reply → List Bool
mark_of (request.Read bay key address) reply.Done = false ∷ []
mark_of (request.Read bay key address) reply.DoneDeleted = true ∷ []
mark_of _ _ = []

-- the marks that the reads of a course told
abbrev pub marks_read : List Taken → List Bool
marks_read course = flat_map (λ taken. mark_of taken.asked taken.answer) course
