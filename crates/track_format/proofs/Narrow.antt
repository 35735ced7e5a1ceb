-- As many sectors as fit on a track with some gap have room with a narrow one.
use Rattle.std.proofs.Common.{ℕ, zero, suc, ◌≤◌, arith}
use Rattle.flop_base.specs.declared.answers.Rate.{Rate}
use Rattle.flop_base.specs.declared.answers.Rate.TheVariants.{R500, R250}
use Rattle.track_format.proofs.Common.{words_at, laid_words, Suits, narrow_gap}

pub narrow_suits : (rate : Rate) (n sectors gap3 : ℕ) → 1 ≤ n → n ≤ 6 → laid_words sectors n gap3 ≤ words_at rate → Suits n sectors (words_at rate) narrow_gap
narrow_suits R500 zero sectors gap3 some most fits = absurd (omega arith)
narrow_suits R500 (suc (suc (suc (suc (suc (suc (suc n))))))) sectors gap3 some most fits = absurd (omega arith)
narrow_suits R250 zero sectors gap3 some most fits = absurd (omega arith)
narrow_suits R250 (suc (suc (suc (suc (suc (suc (suc n))))))) sectors gap3 some most fits = absurd (omega arith)
narrow_suits _ _ sectors gap3 some most fits = record { fits = omega (arith, fits); room = omega (arith, fits) }
