-- The last eight words fill the register.
use Rattle.std.proofs.Common.{◌≡◌, ◌≢◌, ℕ, ◌+◌, ◌-◌, ◌*◌, ◌^◌, ◌<◌, List, [], ◌∷◌, ◌++◌, length, get_or, take, refl, sym, ap, subst, ◌∙◌, arith, inl, inr}
use Rattle.track_separator.proofs.Common.{cases_lt, cases_eq, take_more, bit_at, same_from_bits_below, IsNext}
use Rattle.track_separator.specs.Past.{BringsNoRun}

-- the register keeps its range
brings_fits : (words : List ℕ) (cells after : ℕ) → cells < 2 ^ 128 → BringsNoRun words cells after → after < 2 ^ 128
unfolding BringsNoRun
brings_fits [] cells after fits is = subst (λ c. c < 2 ^ 128) (sym is) fits
brings_fits (word ∷ rest) cells after fits (mid, by, low, clear, on) = brings_fits rest mid after low on

brings_nothing : (cells after : ℕ) → BringsNoRun [] cells after → after ≡ cells
unfolding BringsNoRun
brings_nothing cells after is = is

-- the register before the last word
brings_before : (words : List ℕ) (word cells after : ℕ) → BringsNoRun (words ++ word ∷ []) cells after → (mid : ℕ) × BringsNoRun words cells mid × IsNext mid word after
unfolding BringsNoRun
brings_before [] word cells after (mid, by, low, clear, is) = (cells, refl, subst (λ a. IsNext cells word a) (sym is) by)
brings_before (first ∷ rest) word cells after (mid, by, low, clear, on) =
    let before = brings_before rest word mid after on in
    (before.0, (mid, by, low, clear, before.1), before.2)

-- both registers have the cells of these words from `first` on; if `first` is 0, they also agree in the cells before it
pub AreAlikeSince : ℕ → ℕ → ℕ → ℕ → Type 0
AreAlikeSince first place kept register = (i : ℕ) → i < 128 → (first ≢ 0 → i + 16 * first < 16 * place) → bit_at kept i ≡ bit_at register i

-- `kept` was made anew from the words since `first`
pub IsRemade : List ℕ → ℕ → ℕ → ℕ → ℕ → Type 0
IsRemade words cells first place kept = (register : ℕ) → BringsNoRun (take place words) cells register → AreAlikeSince first place kept register

pub remade_none : (words : List ℕ) (cells first place : ℕ) → place ≡ first → IsRemade words cells first place cells
unfolding IsRemade AreAlikeSince
remade_none words cells first place is register brings i h near =
    elim (cases_eq first 0) [
      | inl none ↦ sym (ap (λ c. bit_at c i) (brings_nothing cells register (subst (λ n. BringsNoRun (take n words) cells register) (is ∙ none) brings)))
      | inr some ↦ absurd (let less = near some in omega arith)
    ]

alike_next : (first place kept register word after new : ℕ) → AreAlikeSince first place kept register → IsNext kept word after → IsNext register word new → AreAlikeSince first (place + 1) after new
unfolding AreAlikeSince
alike_next first place kept register word after new alike one two i h near =
    elim (cases_eq word 0) [
      | inl none ↦ one.blank none i h ∙ sym (two.blank none i h)
      | inr some ↦
          let up = one.shifted some in
          let down = two.shifted some in
          elim (cases_lt i 16) [
            | inl low ↦ up.last i low ∙ sym (down.last i low)
            | inr high ↦
                up.before i high h
                ∙ alike (i - 16) (omega arith) (λ later. let less = near later in omega arith)
                ∙ sym (down.before i high h)
          ]
    ]

pub remade_more : (words : List ℕ) (cells first place kept after : ℕ) → place < length words → IsRemade words cells first place kept → IsNext kept (get_or words place 0) after → IsRemade words cells first (place + 1) after
unfolding IsRemade
remade_more words cells first place kept after inside remade next register brings =
    let whole = subst (λ (ws : List ℕ). BringsNoRun ws cells register) (take_more words place 0 inside) brings in
    let before = brings_before (take place words) (get_or words place 0) cells register whole in
    alike_next first place kept before.0 (get_or words place 0) after register (remade before.0 before.1) next before.2

-- at the end `kept` is the register
pub remade_is : (words : List ℕ) (cells count place kept : ℕ) → cells < 2 ^ 128 → kept < 2 ^ 128 → place ≡ count → IsRemade words cells (count - 8) place kept → (register : ℕ) → BringsNoRun (take count words) cells register → kept ≡ register
unfolding IsRemade AreAlikeSince
remade_is words cells count place kept fits low is remade register brings =
    let here : BringsNoRun (take place words) cells register = subst (λ n. BringsNoRun (take n words) cells register) (sym is) brings in
    same_from_bits_below 128 kept register low (brings_fits (take count words) cells register fits brings)
    (λ i h. remade register here i h (λ later. omega arith))
