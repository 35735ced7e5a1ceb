-- Results, byte by byte.
use Rattle.std.proofs.Common.{◌≡◌, ◌<◌, ◌≤◌, ℕ, ◌+◌, true, false, if◌then◌else◌, nat_le, sym, ap, subst, ◌∙◌, arith}
use Rattle.fdc_core.proofs.Common.{nat_tests, GivesNext, Gives, value_read, after_read, result_byte, phase_after, Long, Fdc, Command, Result}
use Rattle.fdc_core.specs.declared.controller.Lines.{Lines}

is_less : (m : ℕ) → m < 6 → nat_le 6 m ≡ false
is_less m less = grind (arith, nat_tests)

is_most : (m : ℕ) → 6 ≤ m → nat_le 6 m ≡ true
is_most m most = grind (arith, nat_tests)

pub gives_next : (port : ℕ) (lines : Lines) (fdc : Fdc) → Gives port fdc (value_read port lines fdc) (after_read port fdc)
gives_next port lines fdc at ending results read is =
    subst (λ p. GivesNext ending results read (value_read p lines fdc) (after_read p fdc)) (sym at) (record {
      byte_is = ap result_byte is;
      goes_on = λ less. ap phase_after is ∙ ap (λ over. if over then Command else Result (Long ending results (read + 1))) (is_less read less);
      over = λ most. ap phase_after is ∙ ap (λ over. if over then Command else Result (Long ending results (read + 1))) (is_most read most);
    })
