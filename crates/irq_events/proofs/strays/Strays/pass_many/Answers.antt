use Rattle.irq_events.proofs.Quiet.{later_next, later_stays}
use Rattle.irq_events.proofs.strays.Strays.pass_many.Goals as goal
use Rattle.std.proofs.Common.{ap, ◌∙◌, ◌≡◌, ◌-◌, ◌∷◌, arith}

pub returns-in-None : goal.returns-in-None
returns-in-None c = later_stays c.args.count c.self.inside.next c.self.inside.entries.items c.args.self.now c.self.view_is c.in-None.is

pub returns-in-Some : goal.returns-in-Some
returns-in-Some c =
    let left : c.saturating_sub.result ≡ c.in-Some.steps - c.args.count = omega (arith, c.saturating_sub.ensures, c.from.ensures) in
    ap (λ n. n ∷ c.self.inside.entries.items) left
    ∙ later_next c.args.count c.self.inside.next c.in-Some.steps c.self.inside.entries.items c.args.self.now c.self.view_is c.in-Some.is c.requires
