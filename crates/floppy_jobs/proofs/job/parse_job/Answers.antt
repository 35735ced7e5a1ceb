use Rattle.floppy_jobs.specs.Requests.{request_of}
use Rattle.floppy_jobs.specs.Valid.{IsRequest}
use Rattle.floppy_jobs.proofs.ValidLemmas.{kept-valid, request-valid, text-valid}
use Rattle.floppy_jobs.proofs.job.parse_job.Goals as goal

pub returns-clause-valid : goal.returns-clause-valid
returns-clause-valid c =
    kept-valid IsRequest _ c.read_lines.result _ (text-valid IsRequest request_of request-valid 100000 c.args.bytes.now) c.read_lines.ensures
