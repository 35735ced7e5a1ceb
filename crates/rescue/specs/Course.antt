-- What a rescue asks for, what follows each read, and how it ends.
use Rattle.std.specs.Prelude.{ℕ, Bool, true, false, List, ◌++◌, map, Result, Ok, Err, codes, nat_lt, if◌then◌else◌}
use Rattle.std.specs.Fmt.{decimal}
use Rattle.std.specs.List.{range_with_len, flat_map}
use Rattle.flop_base.specs.Standard.{sectors_at}
use Rattle.flop_base.specs.declared.key.Chrn.{Chrn}
use Rattle.flop_base.specs.declared.answers.Code.{Code}
use Rattle.flop_base.specs.declared.answers.Code.TheVariants.{NoMark, NotFound, Overrun, BadCrc, Seek}
use Rattle.flop_base.specs.declared.answers.Rate.{Rate}
use Rattle.flop_base.specs.declared.answers.Status.{Status}
use Rattle.flop_base.specs.declared.answers.Status.TheVariants.{AllOk, SomeRefused}
use Rattle.floppy_jobs.specs.declared.request.Request.{Request}
use Rattle.floppy_jobs.specs.declared.request.Request.TheVariants.{Read, Write, WriteDeleted}
use Rattle.sector_map.specs.Standard.{cylinder_keys}
use Rattle.rescue.specs.declared.line.LogLine.{LogLine}
use Rattle.rescue.specs.declared.course.AfterRead.{AfterRead}
use Rattle.rescue.specs.declared.course.AfterRead.TheVariants as next
use Rattle.rescue.specs.declared.outcome.Outcome.{Outcome}

-- the records of a diskette in the standard format of its rate
unfoldable pub standard_keys : Rate → ℕ → ℕ → List Chrn
standard_keys rate cylinders heads = flat_map (cylinder_keys (sectors_at rate) heads) (range_with_len 0 cylinders)

-- the records of a log
abbrev pub logged_keys : List LogLine → List Chrn
logged_keys lines = map (λ line. line.key) lines

-- a record of the diskette in bay 0 is read to 10000
abbrev pub read_of : Chrn → Request
read_of key = Read 0 key 0x10000

-- the record is written from there to the diskette in bay 1, with its mark
abbrev pub write_of : Chrn → Bool → Request
write_of key false = Write 1 key 0x10000
write_of key true = WriteDeleted 1 key 0x10000

-- the refused record gets a line of the new log
abbrev pub logged : Chrn → Code → AfterRead
logged key code = next.Log (record { key = key; code = code })

-- a refusal of the drive goes to the log, and any other refusal stops the rescue
abbrev pub after_refusal : Chrn → Code → AfterRead
after_refusal key NoMark = logged key NoMark
after_refusal key NotFound = logged key NotFound
after_refusal key Overrun = logged key Overrun
after_refusal key BadCrc = logged key BadCrc
after_refusal key Seek = logged key Seek
after_refusal key other = next.Stop other

-- what follows the read of a record; `true` says that the record is marked deleted
abbrev pub after_read : Chrn → Result Bool Code → AfterRead
after_read key (Ok deleted) = next.Write (write_of key deleted)
after_read key (Err code) = after_refusal key code

-- the last line of the report, without its line feed
abbrev pub outcome_text : Outcome → List ℕ
outcome_text outcome = codes "rescue " ++ (decimal outcome.written ++ (codes " of " ++ decimal outcome.asked))

-- the status, by whether some record wasn't read
abbrev pub outcome_status : Outcome → Status
outcome_status outcome = if nat_lt outcome.written outcome.asked then SomeRefused else AllOk
