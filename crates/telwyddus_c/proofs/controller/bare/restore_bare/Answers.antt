use Rattle.std.proofs.Common.{sym, subst}
use Rattle.telwyddus_c.proofs.Common.{ControllerValue, spelled_bare, ControllerFits, HasBytes}
use Rattle.telwyddus_c.proofs.controller.bare.restore_bare.Goals as goal

pub returns-then-refill : goal.returns-then-refill
returns-then-refill c = (
  c.deref_mut.result.now,
  subst (λ (state : ControllerValue). HasBytes ControllerFits spelled_bare c.args.bytes.now state) (sym c.deref_mut.ensures.value) c.in-Ok.ensures,
  sym c.if-refill.ensures.alike,
  c.if-refill.ensures.refilled,
)

pub returns : goal.returns
returns c = (
  c.deref_mut.result.now,
  subst (λ (state : ControllerValue). HasBytes ControllerFits spelled_bare c.args.bytes.now state) (sym c.deref_mut.ensures.value) c.in-Ok.ensures,
  sym c.if-refill.ensures.alike,
  c.if-refill.ensures.left,
)
