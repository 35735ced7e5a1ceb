use Rattle.laws_program.proofs.Common.{waits_of, course_passes, passes_rise}
use Rattle.text_commands.proofs.GuardingPorts.{course_guards}
use Rattle.laws_program.proofs.SeekOrData.{read_changes, write_changes, wait_changes, wait_irq_changes}
use Rattle.laws_program.proofs.accesses.accesses_guard_media.Goals as goal

pub returns-clause-read : goal.returns-clause-read
returns-clause-read c = read_changes

pub returns-clause-write : goal.returns-clause-write
returns-clause-write c = write_changes

pub returns-clause-wait : goal.returns-clause-wait
returns-clause-wait c = wait_changes

pub returns-clause-wait_irq : goal.returns-clause-wait_irq
returns-clause-wait_irq c = wait_irq_changes

pub returns-clause-steps : goal.returns-clause-steps
returns-clause-steps c old new course run = passes_rise (waits_of course) old.board new.board (course_passes old new course run)

pub returns-clause-media : goal.returns-clause-media
returns-clause-media c = course_guards
