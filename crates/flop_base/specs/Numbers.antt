-- The numbers of the driver's refusals and of the program's statuses.
use Rattle.std.specs.Prelude.{ℕ}
use Rattle.flop_base.specs.declared.answers.Code.{Code}
use Rattle.flop_base.specs.declared.answers.Code.TheVariants.{BadRequest, NoMark, Protected, NotFound, Changed, Overrun, Page, BadCrc, Seek, NotReady}
use Rattle.flop_base.specs.declared.answers.Status.{Status}
use Rattle.flop_base.specs.declared.answers.Status.TheVariants as status

-- the status codes of INT 13h
abbrev pub code_number : Code → ℕ
code_number BadRequest = 0x01
code_number NoMark = 0x02
code_number Protected = 0x03
code_number NotFound = 0x04
code_number Changed = 0x06
code_number Overrun = 0x08
code_number Page = 0x09
code_number BadCrc = 0x10
code_number Seek = 0x40
code_number NotReady = 0x80

-- the exit statuses of the program
abbrev pub status_number : Status → ℕ
status_number status.AllOk = 0
status_number status.SomeRefused = 1
status_number status.BadWords = 2
status_number status.BadJob = 3
status_number status.BadImage = 4
status_number status.Absent = 5
status_number status.FileFault = 6
status_number status.NoMemory = 7
status_number status.SinkFault = 8
