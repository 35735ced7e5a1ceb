use Rattle.std.proofs.Common.{subst, sym}
use Rattle.saved_state.specs.Saved.{Awaits}
use Rattle.dma_8237.specs.Saving.{spelled_channel}
use Rattle.dma_8237.proofs.channel.saving.DmaSaved.save.Goals as goal

pub returns-clause-adds : goal.returns-clause-adds
returns-clause-adds c all rest left =
    let fields = subst (λ channel. Awaits c.args.to.now all (spelled_channel channel rest)) (sym c.self.view_is) left in
    c.save-10.ensures.adds all _ (c.save-9.ensures.adds all _ (c.save-8.ensures.adds all _ (c.save-7.ensures.adds all _
    (c.save-6.ensures.adds all _ (c.save-5.ensures.adds all _ (c.save-4.ensures.adds all _ (c.save-3.ensures.adds all _
    (c.save-2.ensures.adds all _ (c.save.ensures.adds all _ fields)))))))))
