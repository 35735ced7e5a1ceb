-- How long whole commands last at most, and how many port accesses they make, whatever faults come.
use Rattle.std.specs.Prelude.{false, ℕ, ◌+◌, ◌*◌, ◌≤◌, List, [], ◌∷◌}
use Rattle.laws_commands.specs.Common.{sectors_at, words_at, Rate, R500, R250, Disk, Request, bay_of, State, Taken}
use Rattle.floppy_jobs.specs.declared.request.Request.TheVariants as request
use Rattle.sector_model.specs.Lasting.{format_once_port_accesses, format_steps, format_turns, turn_of}

-- ---- What keeps a station within bounds.

-- if the request sets a number of attempts, it sets no more than this
abbrev pub SetsAtMost : ℕ → Request → Type 0
SetsAtMost most (request.Tries tries) = tries ≤ most
SetsAtMost most _ = Unit {0}

-- a medium that the request put into a bay has tracks of at most `turn` words; the state is the one after it
abbrev pub PutsShort : ℕ → Request → State → Type 0
PutsShort turn (request.Insert bay name) after = turn_of (bay_of after.station bay).medium ≤ turn
PutsShort turn (request.Blank bay name cylinders) after = words_at R500 ≤ turn
PutsShort turn (request.BlankDd bay name cylinders) after = words_at R250 ≤ turn
PutsShort turn _ after = Unit {0}

-- each request of a course puts in short tracks alone, and sets at most so many attempts
abbrev pub ArePutShort : ℕ → ℕ → List Taken → Type 0
ArePutShort turn tries [] = Unit {0}
ArePutShort turn tries (taken ∷ later) =
    PutsShort turn taken.asked taken.after × SetsAtMost tries taken.asked × ArePutShort turn tries later

-- ---- What requests cost at most.

-- what each kind of request costs at most in a bay: in device steps, or in port accesses
pub record RequestCosts : Type 0 where
  pub ack : ℕ
  pub change_rate : ℕ
  pub format : ℕ
  pub read : ℕ
  pub write : ℕ

-- the device steps, with three attempts, for a medium of this many words a track, formatted at this rate
abbrev pub times_at : ℕ → Rate → RequestCosts
times_at turn rate = record {
  ack = 12 * turn + 9031;
  change_rate = 0;
  format = 3 * (format_turns rate * turn + format_steps rate);
  read = 3 * (2 * turn + 504);
  write = 3 * (4 * turn + 765);
}

-- the port accesses, with three attempts, for a medium that is formatted at this rate
abbrev pub port_accesses_at : Rate → RequestCosts
port_accesses_at rate = record {
  ack = 172;
  change_rate = 6;
  format = 6 + 3 * format_once_port_accesses rate;
  read = 6 + 3 * 48;
  write = 6 + 3 * 77;
}

-- ---- What commands cost at most, by what their requests do.

-- a bay is acknowledged; a change of the rate comes after it for 250 kbit/s alone
abbrev pub ready_cost : RequestCosts → Rate → ℕ
ready_cost costs R500 = costs.ack
ready_cost costs R250 = costs.ack + costs.change_rate

-- a disk of two heads is formatted, track by track
abbrev pub format_cost : RequestCosts → ℕ → Rate → ℕ
format_cost costs cylinders rate = ready_cost costs rate + cylinders * (2 * costs.format)

-- each record of a disk is read
abbrev pub verify_cost : RequestCosts → Disk → ℕ
verify_cost costs disk = ready_cost costs disk.rate + disk.cylinders * (disk.heads * (sectors_at disk.rate * costs.read))

-- each track is formatted in bay 1, its records are read in bay 0, and they are written in bay 1
abbrev pub copy_cost : RequestCosts → RequestCosts → Disk → ℕ
copy_cost first second disk =
    ready_cost first disk.rate + (ready_cost second disk.rate
    + disk.cylinders * (disk.heads * (second.format + (sectors_at disk.rate * first.read + sectors_at disk.rate * second.write))))

-- each track of 80 cylinders and two heads is formatted, and its records are written
abbrev pub import_cost : RequestCosts → Rate → ℕ
import_cost costs rate = ready_cost costs rate + 80 * (2 * (costs.format + sectors_at rate * costs.write))

-- each record of 80 cylinders and two heads is read
abbrev pub export_cost : RequestCosts → Rate → ℕ
export_cost costs rate = ready_cost costs rate + 80 * (2 * (sectors_at rate * costs.read))

-- the other diskette is formatted in bay 1; each record is read in bay 0, and written in bay 1 if it could be read
abbrev pub rescue_cost : RequestCosts → RequestCosts → Disk → ℕ
rescue_cost first second disk =
    ready_cost first disk.rate + (ready_cost second disk.rate + (disk.cylinders * (disk.heads * second.format)
    + disk.cylinders * disk.heads * sectors_at disk.rate * (first.read + second.write)))

-- each of so many records of a log is read in bay 0, and written in bay 1 if it could be read
abbrev pub further_rescue_cost : RequestCosts → RequestCosts → Rate → ℕ → ℕ
further_rescue_cost first second rate records = ready_cost first rate + (ready_cost second rate + records * (first.read + second.write))

-- ---- Whole runs over a machine: the set-up takes two device steps and 22 port accesses.

-- a format of a disk of this many cylinders
abbrev pub whole_format_time : ℕ → Rate → ℕ
whole_format_time cylinders rate = 2 + format_cost (times_at (words_at rate) rate) cylinders rate

-- the same in port accesses
abbrev pub whole_format_port_accesses : ℕ → Rate → ℕ
whole_format_port_accesses cylinders rate = 22 + format_cost (port_accesses_at rate) cylinders rate

-- a verify of the disk
abbrev pub verify_time : Disk → ℕ
verify_time disk = 2 + verify_cost (times_at disk.words_per_track disk.rate) disk

-- the same in port accesses
abbrev pub verify_port_accesses : Disk → ℕ
verify_port_accesses disk = 22 + verify_cost (port_accesses_at disk.rate) disk

-- a copy of the disk to a new one, whose tracks have the usual number of words
abbrev pub copy_time : Disk → ℕ
copy_time disk = 2 + copy_cost (times_at disk.words_per_track disk.rate) (times_at (words_at disk.rate) disk.rate) disk

-- the same in port accesses
abbrev pub copy_port_accesses : Disk → ℕ
copy_port_accesses disk = 22 + copy_cost (port_accesses_at disk.rate) (port_accesses_at disk.rate) disk

-- an import of a flat file of this rate
abbrev pub import_time : Rate → ℕ
import_time rate = 2 + import_cost (times_at (words_at rate) rate) rate

-- the same in port accesses
abbrev pub import_port_accesses : Rate → ℕ
import_port_accesses rate = 22 + import_cost (port_accesses_at rate) rate

-- an export of the disk to a flat file
abbrev pub export_time : Disk → ℕ
export_time disk = 2 + export_cost (times_at disk.words_per_track disk.rate) disk.rate

-- the same in port accesses
abbrev pub export_port_accesses : Disk → ℕ
export_port_accesses disk = 22 + export_cost (port_accesses_at disk.rate) disk.rate

-- a rescue of the disk to a new one
abbrev pub rescue_time : Disk → ℕ
rescue_time disk = 2 + rescue_cost (times_at disk.words_per_track disk.rate) (times_at (words_at disk.rate) disk.rate) disk

-- the same in port accesses
abbrev pub rescue_port_accesses : Disk → ℕ
rescue_port_accesses disk = 22 + rescue_cost (port_accesses_at disk.rate) (port_accesses_at disk.rate) disk

-- a rescue of so many records of the disk, which goes on by a log, to a disk that is there
abbrev pub further_rescue_time : Disk → Disk → ℕ → ℕ
further_rescue_time disk target records =
    2 + further_rescue_cost (times_at disk.words_per_track disk.rate) (times_at target.words_per_track disk.rate) disk.rate records

-- the same in port accesses
abbrev pub further_rescue_port_accesses : Disk → ℕ → ℕ
further_rescue_port_accesses disk records =
    22 + further_rescue_cost (port_accesses_at disk.rate) (port_accesses_at disk.rate) disk.rate records

-- a disk of 80 cylinders and two heads, whose tracks have the usual number of words
abbrev pub standard_disk : Rate → List ℕ → Disk
standard_disk rate words = record {
  protected = false;
  cylinders = 80;
  heads = 2;
  rate = rate;
  words_per_track = words_at rate;
  words = words;
}
