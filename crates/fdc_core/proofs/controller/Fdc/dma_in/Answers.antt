use Rattle.std.proofs.Common.{sym, subst}
use Rattle.fdc_core.proofs.Common.{is_gated, MayWrite, MayFormat, took, CanWait, Feeds}
use Rattle.fdc_core.proofs.MayRead.{second_true}
use Rattle.fdc_core.proofs.MayWrite.{in_writes, in_formats}
use Rattle.fdc_core.proofs.Feeding.{in_waits, in_feeds}
use Rattle.fdc_core.proofs.controller.Fdc.dma_in.Goals as goal

pub returns-clause-writes : goal.returns-clause-writes
returns-clause-writes c = λ past sent deleted was.
    let old = c.args.self.now in
    let up = second_true (is_gated old) old.asking c.requires.drq in
    subst (λ fdc. MayWrite (took c.args.byte past) sent deleted fdc) (sym c.take_in.ensures) (in_writes past sent deleted old.phase old.asking old.fifo c.args.byte up was)

pub returns-clause-formats : goal.returns-clause-formats
returns-clause-formats c = λ past sent numbers was.
    let old = c.args.self.now in
    let up = second_true (is_gated old) old.asking c.requires.drq in
    subst (λ fdc. MayFormat (took c.args.byte past) sent numbers fdc) (sym c.take_in.ensures) (in_formats past sent numbers old.phase old.asking old.fifo c.args.byte up was)

pub returns-clause-waits : goal.returns-clause-waits
returns-clause-waits c = λ slack waits.
    let old = c.args.self.now in
    subst (λ fdc. CanWait slack fdc) (sym c.take_in.ensures) (in_waits slack c.args.byte old.phase old.fifo c.requires.from_memory waits)

pub returns-clause-feeds : goal.returns-clause-feeds
returns-clause-feeds c = λ feeds. subst (λ fdc. Feeds fdc) (sym c.take_in.ensures) (in_feeds c.args.byte c.args.self.now feeds)
