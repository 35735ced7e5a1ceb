use Rattle.std.proofs.Common.{[], sym, ap, ◌∙◌, ◌<◌, ◌≤◌, if◌then◌else◌, subst, ℕ}
use Rattle.floppy_driver.proofs.Common.{R500, StationState, notes_of}
use Rattle.floppy_driver.proofs.FormatStep.{gap_refused, change_refused, protection_refused, format_step}
use Rattle.floppy_driver.proofs.FormatReady.{can_write_asked}
use Rattle.floppy_driver.proofs.Lasting.{format_costs}
use Rattle.floppy_driver.proofs.driver.Driver.format.Goals as goal

pub returns-then-gap3-most_format_gap-clause-step : goal.returns-then-gap3-most_format_gap-clause-step
returns-then-gap3-most_format_gap-clause-step g c = λ spares waiting.
    let held = c.is_held-held in
    gap_refused c.args.self.now held.new.self (g.C.Commands.rig c.args.machine.now) c.args.bay c.args.c c.args.h c.args.gap3 held.result c.shown_rate-rate.result spares waiting
    held.ensures.held (held.ensures.shown spares waiting) c.shown_rate-rate.ensures (sym c.is_asked.ensures.value ∙ c.if-not-is_asked.false) c.args.fill (g.C.Commands.rig held.new.machine) held.ensures.asks held.ensures.costs
    (let most = c.most_format_gap.ensures in let more = c.if-gap3-most_format_gap.true in subst (λ (n : ℕ). n < c.args.gap3) most more)

pub returns-then-not-held-clause-step : goal.returns-then-not-held-clause-step
returns-then-not-held-clause-step g c = λ spares waiting.
    let held = c.is_held-held in
    change_refused c.args.self.now held.new.self (g.C.Commands.rig c.args.machine.now) c.args.bay c.args.c c.args.h c.args.gap3 held.result c.shown_rate-rate.result spares waiting
    held.ensures.held (held.ensures.shown spares waiting) c.shown_rate-rate.ensures (sym c.is_asked.ensures.value ∙ c.if-not-is_asked.false) c.args.fill (g.C.Commands.rig held.new.machine) held.ensures.asks held.ensures.costs
    (subst (λ (n : ℕ). c.args.gap3 ≤ n) c.most_format_gap.ensures c.if-gap3-most_format_gap.false) c.if-not-held.true

pub returns-then-is_protected-clause-step : goal.returns-then-is_protected-clause-step
returns-then-is_protected-clause-step g c = λ spares waiting.
    let held = c.is_held-held in
    protection_refused c.args.self.now held.new.self (g.C.Commands.rig c.args.machine.now) c.args.bay c.args.c c.args.h c.args.gap3 held.result c.shown_rate-rate.result spares waiting
    held.ensures.held (held.ensures.shown spares waiting) c.shown_rate-rate.ensures (sym c.is_asked.ensures.value ∙ c.if-not-is_asked.false) c.args.fill (g.C.Commands.rig held.new.machine) held.ensures.asks held.ensures.costs
    (subst (λ (n : ℕ). c.args.gap3 ≤ n) c.most_format_gap.ensures c.if-gap3-most_format_gap.false) c.if-not-held.false
    (g.C.Commands.rig c.is_protected.new.self) c.is_protected.ensures.asks c.is_protected.ensures.costs c.if-is_protected.ensures.line

pub format_in_attempts-requires-clause-can : goal.format_in_attempts-requires-clause-can
format_in_attempts-requires-clause-can g c =
    let held = c.is_held-held in
    can_write_asked held.new.self (g.C.Commands.rig held.new.machine) (g.C.Commands.rig c.is_protected.new.self) c.args.bay (held.ensures.ready c.if-not-held.false)
    c.is_protected.ensures.asks c.is_protected.ensures.sound (sym c.if-is_protected.ensures.line)

pub returns-clause-step : goal.returns-clause-step
returns-clause-step g c = λ spares waiting.
    let held = c.is_held-held in
    let tries = ap (λ (s : StationState). s.tries) (held.ensures.shown 0 []) in
    let last = c.format_in_attempts in
    format_step c.args.self.now held.new.self (g.C.Commands.rig c.args.machine.now) c.args.bay c.args.c c.args.h c.args.gap3 held.result c.shown_rate-rate.result spares waiting
    held.ensures.held (held.ensures.shown spares waiting) c.shown_rate-rate.ensures (sym c.is_asked.ensures.value ∙ c.if-not-is_asked.false) c.args.fill (g.C.Commands.rig held.new.machine) held.ensures.asks held.ensures.costs
    (subst (λ (n : ℕ). c.args.gap3 ≤ n) c.most_format_gap.ensures c.if-gap3-most_format_gap.false) c.if-not-held.false
    (g.C.Commands.rig c.is_protected.new.self) c.is_protected.ensures.asks c.is_protected.ensures.costs c.if-is_protected.ensures.line last.new.self last.result (g.C.Commands.rig last.new.machine)
    c.args.self.now.some_tries tries last.ensures.counts last.ensures.formats (last.ensures.medium spares waiting) last.ensures.costs

pub returns-clause-costs : goal.returns-clause-costs
returns-clause-costs g c =
    let held = c.is_held-held in
    let last = c.format_in_attempts in
    let kept = (notes_of held.new.self c.args.bay).rate in
    format_costs c.args.bay c.args.self.now.tries held.new.self.tries c.shown_rate-rate.result (notes_of c.args.self.now c.args.bay).rate
    (g.C.Commands.rig c.args.machine.now) (g.C.Commands.rig held.new.machine) (g.C.Commands.rig c.is_protected.new.self) (g.C.Commands.rig last.new.machine)
    held.ensures.tries (c.shown_rate-rate.ensures ∙ (ap (λ b. if b then kept else R500) c.if-not-held.false ∙ held.ensures.rate)) held.ensures.costs c.is_protected.ensures.costs last.ensures.costs
