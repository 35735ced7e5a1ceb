use Rattle.std.proofs.Common.{sym, subst}
use Rattle.fdc_core.proofs.Common.{MayRead, gave, byte_out, is_gated, CanWait, Feeds}
use Rattle.fdc_core.proofs.MayRead.{out_reads, second_true}
use Rattle.fdc_core.proofs.Feeding.{out_waits, out_feeds}
use Rattle.fdc_core.proofs.controller.Fdc.dma_out.Goals as goal

pub returns-clause-reads : goal.returns-clause-reads
returns-clause-reads c = λ past sent was.
    let old = c.args.self.now in
    let up = second_true (is_gated old) old.asking c.requires.drq in
    subst (λ byte. MayRead (gave byte past) sent c.take_out.new.self) (sym c.take_out.ensures.byte)
    (subst (λ fdc. MayRead (gave (byte_out old) past) sent fdc) (sym c.take_out.ensures.after) (out_reads past sent old.phase old.asking old.fifo up c.requires.to_memory was))

pub returns-clause-waits : goal.returns-clause-waits
returns-clause-waits c = λ slack waits.
    let old = c.args.self.now in
    subst (λ fdc. CanWait slack fdc) (sym c.take_out.ensures.after) (out_waits slack old.phase old.fifo c.requires.to_memory waits)

pub returns-clause-feeds : goal.returns-clause-feeds
returns-clause-feeds c = λ feeds. subst (λ fdc. Feeds fdc) (sym c.take_out.ensures.after) (out_feeds c.args.self.now feeds)
