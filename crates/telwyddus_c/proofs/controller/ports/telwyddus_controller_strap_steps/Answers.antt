use Rattle.std.proofs.Common.{refl, sym}
use Rattle.telwyddus_c.proofs.controller.ports.telwyddus_controller_strap_steps.Goals as goal

pub returns : goal.returns
returns c =
    let straps = c.strap_steps.ensures in
    rw (sym c.in-Some.ensures.taken)
    (_, c.put.ensures, rw (sym c.deref_mut.ensures.value) (refl, record { strapped = straps.state; drives = straps.drives }))
