-- Pulses that come in the time that SPECIFY sets: results that are taken over, and how many are left.
use Rattle.std.proofs.Common.{◌≡◌, ℕ, zero, suc, ◌+◌, ◌-◌, ◌<◌, Bool, true, false, ◌&&◌, ◌==◌, Option, None, Some, is_none, refl, sym, ◌∙◌, ap, arith}
use Rattle.laws_chip.proofs.Common.{eqb-false, or_parts, ChipState, drained, is_told, GoesOnIf, Paces, PulsesIf, is_due, target_of, PacedSeek, EndsPace as EndsAt, is_over_pace as is_over, chip_stepped as stepped}

pub poll_told : (pace : Option PacedSeek) (drive : ℕ) → drive < 4 → is_told pace (0xC0 + drive) ≡ true
poll_told pace (suc (suc (suc (suc drive)))) few = absurd (omega arith)
poll_told pace _ few = refl

pub pulse_untold : (pace : PacedSeek) (drive : ℕ) → drive < 4 → is_told (Some pace) (0x20 + drive) ≡ false
pulse_untold pace (suc (suc (suc (suc drive)))) few = absurd (omega arith)
pulse_untold pace _ few = refl

-- ---- results

ends_keep : (goal : Option ℕ) (pace : PacedSeek) (old new : ChipState) → EndsAt goal pace old new → new.interrupts ≡ old.interrupts
ends_keep (Some target) pace old new (sends, rest) = ap (λ (chip : ChipState). chip.interrupts) rest
ends_keep None pace old new is = ap (λ (chip : ChipState). chip.interrupts) is

pulses_keep : (b : Bool) (pace : PacedSeek) (old new : ChipState) → PulsesIf b pace old new → new.interrupts ≡ old.interrupts
pulses_keep true pace old new ends = ends_keep pace.goal pace (record old { pace = None }) new ends
pulses_keep false pace old new (sends, rest) = ap (λ (chip : ChipState). chip.interrupts) rest

goes_keep : (b : Bool) (pace : PacedSeek) (old new : ChipState) → GoesOnIf b pace old new → new.interrupts ≡ old.interrupts
goes_keep true pace old new pulses = pulses_keep (is_over pace) pace old new pulses
goes_keep false pace old new is = ap (λ (chip : ChipState). chip.interrupts) is

pub paces_take : (pace : PacedSeek) (old new : ChipState) → Paces (Some pace) old new → new.interrupts ≡ (drained old).interrupts
paces_take pace old new goes = goes_keep (is_due pace (drained old)) pace (drained old) new goes

-- ---- pulses

some_left : (n : ℕ) → (n == 0) ≡ false → n - 1 + 1 ≡ n
some_left zero none = absurd (eqb-false 0 0 none refl)
some_left (suc n) some = omega arith

pub one_fewer : (words : ℕ) (pace : PacedSeek) → pace.goal ≡ None → is_over pace ≡ false → (stepped words pace).left + 1 ≡ pace.left
one_fewer words pace recalibrates goes =
    let none : is_none pace.goal ≡ true = ap is_none recalibrates in
    let both = (or_parts (pace.cylinder == target_of pace) (is_none pace.goal && (pace.left == 0)) goes).1 in
    some_left pace.left (sym (ap (λ b. b && (pace.left == 0)) none) ∙ both)
