-- What a text says: its items in order, or the first bad line. The bad line is 0 if the text is too long.
use Rattle.std.specs.Prelude.{ℕ, List, Result}
use Rattle.floppy_jobs.specs.Lines.{text_of}
use Rattle.floppy_jobs.specs.Ports.{port_line_of}
use Rattle.floppy_jobs.specs.Calls.{call_line_of}
use Rattle.floppy_jobs.specs.declared.ports.PortLine.{PortLine}
use Rattle.floppy_jobs.specs.declared.calls.CallLine.{CallLine}
use Rattle.floppy_jobs.specs.Requests.{request_of}
use Rattle.floppy_jobs.specs.declared.request.Request.{Request}

-- the requests of a job, of at most 100,000 lines, or the first bad line
unfoldable pub job_of : List ℕ → Result (List Request) ℕ
job_of text = text_of request_of 100000 text

-- the accesses of a text of port accesses, or the first bad line
unfoldable pub ports_of : List ℕ → Result (List PortLine) ℕ
ports_of text = text_of port_line_of 100000 text

-- the calls of a text of calls, or the first bad line
unfoldable pub calls_of : List ℕ → Result (List CallLine) ℕ
calls_of text = text_of call_line_of 100000 text
