-- What a parser can give: each number is in the range of its field, and each name is a name.
use Rattle.std.specs.Prelude.{ℕ, ◌<◌, ◌≤◌}
use Rattle.floppy_jobs.specs.Names.{IsName}
use Rattle.flop_base.specs.declared.key.Chrn.{Chrn}
use Rattle.floppy_jobs.specs.declared.request.Request.{Request}
use Rattle.floppy_jobs.specs.declared.request.Request.TheVariants.{Insert, Blank, BlankDd, Eject, Ack, Read, Write, WriteDeleted, Format, Fill, Dump, Unit, SetRate, Tries}

abbrev pub IsByte : ℕ → Type 0
IsByte n = n < 256

-- a bay, a key and an address
abbrev pub IsSector : ℕ → Chrn → ℕ → Type 0
IsSector bay key address =
    IsByte bay × IsByte key.c × IsByte key.h × IsByte key.r × IsByte key.n × (address < 0x100000)

abbrev pub IsLength : ℕ → Type 0
IsLength n = (1 ≤ n) × (n ≤ 65536)

-- a request of a job
abbrev pub IsRequest : Request → Type 0
IsRequest (Insert bay name) = IsByte bay × IsName name
IsRequest (Blank bay name cylinders) = IsByte bay × IsName name × IsByte cylinders
IsRequest (BlankDd bay name cylinders) = IsByte bay × IsName name × IsByte cylinders
IsRequest (Eject bay) = IsByte bay
IsRequest (Ack bay) = IsByte bay
IsRequest (Read bay key address) = IsSector bay key address
IsRequest (Write bay key address) = IsSector bay key address
IsRequest (WriteDeleted bay key address) = IsSector bay key address
IsRequest (Format bay c h) = IsByte bay × IsByte c × IsByte h
IsRequest (Fill address length byte) = (address < 0x100000) × IsLength length × IsByte byte
IsRequest (Dump address length) = (address < 0x100000) × IsLength length
IsRequest (Unit bay) = IsByte bay
IsRequest (SetRate bay rate) = IsByte bay
IsRequest (Tries tries) = (1 ≤ tries) × (tries ≤ 10)
