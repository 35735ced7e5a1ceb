-- How the end of a command is seen.
use Rattle.std.proofs.Common.{◌≡◌, ◌%◌, Bool, true, false, ◌==◌, if◌then◌else◌, Some, bit_and, ap, refl}
use Rattle.laws_chip.proofs.Common.{false≢true, Results, is_gated, Fdc, Front, asks_at, asks_outside, interrupts_at, interrupts_outside, results_at, results_outside, results_taken, seeking_bit, status_at, taken_at, value_outside, FrontStage, Through, Seeking, Moving, Telling, is_under_way}
use Rattle.std.specs.Int.RustNames.{bit_or}
use Rattle.fdc_registers.specs.Msr.{busy}

busy_at : (stage : FrontStage) (fdc : Fdc) → is_under_way stage ≡ true → status_at stage fdc ≡ bit_or busy (seeking_bit stage)
busy_at (Seeking at counted) fdc under = refl
busy_at (Moving moving) fdc under = refl
busy_at _ fdc under = absurd (false≢true under)

pub shows_busy : (front : Front) → is_under_way front.stage ≡ true → value_outside 0x3F4 front ≡ bit_or busy (seeking_bit front.stage)
shows_busy front under = busy_at front.stage front.adapter.controller under

-- no results wait
asks_none : (stage : FrontStage) → (bit_and (bit_or busy (seeking_bit stage)) 0xC0 == 0xC0) ≡ false
asks_none Through = refl
asks_none (Seeking at counted) = by_drive (at.head_drive % 4 == 0) (at.head_drive % 4 == 1) (at.head_drive % 4 == 2)
  where
    by_drive : (first second third : Bool) → (bit_and (bit_or busy (if first then 1 else (if second then 2 else (if third then 4 else 8)))) 0xC0 == 0xC0) ≡ false
    by_drive true second third = refl
    by_drive false true third = refl
    by_drive false false true = refl
    by_drive false false false = refl
asks_none (Moving moving) = refl
asks_none (Telling results) = refl

silent_at : (stage : FrontStage) (fdc : Fdc) → is_under_way stage ≡ true → interrupts_at stage fdc ≡ false
silent_at (Seeking at counted) fdc under = refl
silent_at (Moving moving) fdc under = refl
silent_at _ fdc under = absurd (false≢true under)

pub interrupts_not : (front : Front) → is_under_way front.stage ≡ true → interrupts_outside front ≡ false
interrupts_not front under = silent_at front.stage front.adapter.controller under

pub shows_results : (front : Front) (results : Results) → front.stage ≡ Telling results → value_outside 0x3F4 front ≡ 0xD0
shows_results front results is = ap (λ stage. status_at stage front.adapter.controller) is

pub interrupts_told : (front : Front) (results : Results) → front.stage ≡ Telling results → interrupts_outside front ≡ is_gated front.adapter.controller
interrupts_told front results is = ap (λ stage. interrupts_at stage front.adapter.controller) is

pub asks_not : (front : Front) (results : Results) → front.stage ≡ Telling results → asks_outside front ≡ false
asks_not front results is = ap (λ stage. asks_at stage front.adapter.controller) is

pub tells_results : (front : Front) (results : Results) → front.stage ≡ Telling results → results_outside front ≡ Some results
tells_results front results is = ap (λ stage. results_at stage front.adapter.controller) is

pub ends_through : (front : Front) (results : Results) → front.stage ≡ Telling results → (results_taken front).stage ≡ Through
ends_through front results is = ap (λ stage. (taken_at stage front).stage) is
