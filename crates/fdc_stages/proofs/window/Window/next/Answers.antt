use Rattle.std.proofs.Common.{subst, sym, ◌∙◌}
use Rattle.fdc_stages.proofs.Common.{Gives, window_behind}
use Rattle.fdc_stages.proofs.window.Window.next.Goals as goal

pub returns-then-last : goal.returns-then-last
returns-then-last c =
    subst (λ last. Gives c.args.self.part c.args.self c.args.byte c.put-word.result (window_behind last c.put-word.new.self)) (sym c.is_last-last.ensures ∙ c.if-last.true) c.put-word.ensures

pub returns : goal.returns
returns c =
    subst (λ last. Gives c.args.self.part c.args.self c.args.byte c.put-word.result (window_behind last c.put-word.new.self)) (sym c.is_last-last.ensures ∙ c.if-last.false) c.put-word.ensures
