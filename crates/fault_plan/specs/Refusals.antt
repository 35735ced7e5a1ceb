-- A text whose lines aren't understood is no plan.
use Rattle.floppy_jobs.specs.declared.lines.JobError.{JobError}
use Rattle.floppy_jobs.specs.declared.lines.JobError.TheVariants as job
use Rattle.fault_plan.specs.declared.error.PlanError.{PlanError}
use Rattle.fault_plan.specs.declared.error.PlanError.TheVariants as plan

-- the error of the plan: the same line, or that memory ran out
abbrev pub same_refusal : JobError → PlanError
same_refusal (job.BadLine line) = plan.BadLine line
same_refusal job.NoMemory = plan.NoMemory
