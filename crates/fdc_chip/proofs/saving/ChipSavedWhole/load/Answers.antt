use Rattle.std.proofs.Common.{refl}
use Rattle.fdc_chip.specs.Saving.{spelled_chip}
use Rattle.fdc_chip.proofs.Lists.{all_fit}
use Rattle.fdc_chip.proofs.saving.ChipSavedWhole.load.Goals as goal

pub returns : goal.returns
unfolding spelled_chip
returns g c = record {
  gives = λ value rest fits left.
      let kind = c.byte-kind.ensures.gives 72 _ left in
      let behind = c.in_ok-behind.ensures.gives value.behind _ fits.0 kind.1 in
      let stage = c.load-stage.ensures.gives value.stage _ tt behind.1 in
      let order = c.load-order.ensures.gives value.order _ tt stage.1 in
      let count = c.load-count.ensures.gives value.count _ tt order.1 in
      let interrupts = c.load-interrupts.ensures.gives value.interrupts _ fits.1 count.1 in
      let settings = c.load-settings.ensures.gives value.settings _ tt interrupts.1 in
      let strapped = c.load-strapped.ensures.gives value.strapped _ tt settings.1 in
      let keys = c.load-keys.ensures.gives value.keys _ tt strapped.1 in
      let gated = c.load-gated.ensures.gives value.gated _ tt keys.1 in
      let pace = c.load-pace.ensures.gives value.pace _ (all_fit value.pace) gated.1 in
      let paced = c.load-paced.ensures.gives value.paced _ tt pace.1 in
      let tape = c.load-tape.ensures.gives value.tape rest tt paced.1 in (
        rw (behind.0, stage.0, order.0, count.0, interrupts.0, settings.0, strapped.0, keys.0, gated.0, pace.0, paced.0, tape.0) refl,
        tape.1,
      );
}
