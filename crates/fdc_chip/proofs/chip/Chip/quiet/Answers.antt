use Rattle.std.proofs.Common.{◌≡◌, false, sym, true, ◌∙◌}
use Rattle.fdc_chip.proofs.Common.{false≢true, true≢false, is_busy}
use Rattle.fdc_chip.proofs.Awaiting.{awaits_busy}
use Rattle.fdc_chip.proofs.chip.Chip.quiet.Goals as goal

pub returns-then-is_busy : goal.returns-then-is_busy
returns-then-is_busy g c =
    let busy : is_busy c.args.self.now.stage ≡ true = sym c.is_busy.ensures ∙ c.if-is_busy.true in
    record {
      few = c.quiet_busy.ensures.few;
      value = λ none. absurd (true≢false (sym busy ∙ none));
      rests = λ none. absurd (true≢false (sym busy ∙ none));
      foresees = λ is. c.quiet_busy.ensures.foresees;
      executes = λ is. c.quiet_busy.ensures.lines;
      longest = c.quiet_busy.ensures.longest;
    }

pub returns : goal.returns
returns g c =
    let idle : is_busy c.args.self.now.stage ≡ false = sym c.is_busy.ensures ∙ c.if-is_busy.false in
    record {
      few = c.quiet_idle.ensures.few;
      value = λ is. c.quiet_idle.ensures.value;
      rests = λ is. c.quiet_idle.ensures.lines;
      foresees = λ busy. absurd (false≢true (sym idle ∙ busy));
      executes = λ busy. absurd (false≢true (sym idle ∙ busy));
      longest = λ awaits. absurd (false≢true (sym idle ∙ awaits_busy c.args.self.now.stage c.args.self.now.behind.stage awaits));
    }
