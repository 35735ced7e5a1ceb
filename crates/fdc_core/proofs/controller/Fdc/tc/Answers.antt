use Rattle.std.proofs.Common.{sym, subst}
use Rattle.fdc_core.proofs.Common.{MayRead, told_in, is_executing, MayWrite, MayFormat, fifo_told, is_reading, CanWait, Feeds}
use Rattle.fdc_core.proofs.MayRead.{told_reads}
use Rattle.fdc_core.proofs.MayWrite.{told_writes, told_formats}
use Rattle.fdc_core.proofs.Feeding.{told_waits, told_feeds}
use Rattle.fdc_core.proofs.controller.Fdc.tc.Goals as goal

pub returns-clause-reads : goal.returns-clause-reads
returns-clause-reads c = λ past sent was.
    let old = c.args.self.now in
    subst (λ fdc. MayRead (told_in (is_executing old.phase) past) sent fdc) (sym c.end_transfer.ensures) (told_reads past sent old.phase old.asking old.fifo was)

pub returns-clause-writes : goal.returns-clause-writes
returns-clause-writes c = λ past sent deleted was.
    let old = c.args.self.now in
    subst (λ fdc. MayWrite (told_in (is_executing old.phase) past) sent deleted fdc) (sym c.end_transfer.ensures) (told_writes past sent deleted old.phase old.asking old.fifo was)

pub returns-clause-formats : goal.returns-clause-formats
returns-clause-formats c = λ past sent numbers was.
    let old = c.args.self.now in
    subst (λ fdc. MayFormat (told_in (is_executing old.phase) past) sent numbers fdc) (sym c.end_transfer.ensures) (told_formats past sent numbers old.phase old.asking old.fifo was)

pub returns-clause-waits : goal.returns-clause-waits
returns-clause-waits c = λ slack.
    let old = c.args.self.now in
    subst (λ fdc. CanWait slack fdc) (sym c.end_transfer.ensures) (told_waits slack old.phase (fifo_told (is_reading old.phase) old.fifo))

pub returns-clause-feeds : goal.returns-clause-feeds
returns-clause-feeds c = λ feeds. subst (λ fdc. Feeds fdc) (sym c.end_transfer.ensures) (told_feeds c.args.self.now feeds)
