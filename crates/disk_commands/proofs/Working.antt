-- Numbers that are drawn, and bytes that are summed up.
use Rattle.std.proofs.Common.{arith, ◌≡◌, ℕ, zero, suc, ◌+◌, ◌*◌, List, [], ◌∷◌, refl, ap, ◌∙◌, sym}
use Rattle.std.proofs.Common.{◌<◌, length, take, drop, get_or, length-drop}
use Rattle.std.proofs.lemmas.List.Sums.{sum_by-append}
use Rattle.disk_commands.proofs.Common.{take_more, get_or-drop, bytes_from, next_number}
use Rattle.std.specs.Prelude.{sum}
use Rattle.disk_commands.specs.Workload.{number_after}

-- the number after more draws
pub number_join : (n m x : ℕ) → number_after m (number_after n x) ≡ number_after (n + m) x
unfolding number_after
number_join zero m x = let same : zero + m ≡ m = omega arith in ap (λ k. number_after k x) (sym same)
number_join (suc n) m x = let same : suc n + m ≡ suc (n + m) = omega arith in number_join n m (next_number x) ∙ ap (λ k. number_after k x) (sym same)

-- the sum with one more byte
pub sum_more : (memory : List ℕ) (address i : ℕ)
    → address + i < length memory → sum (bytes_from memory address (i + 1))
    ≡ sum (bytes_from memory address i) + get_or memory (address + i) 0
sum_more memory address i within =
    let inside : i < length (drop address memory) = omega (arith, length-drop address memory, within) in
    let one = get_or-drop address memory i 0 in
    let more = ap sum (take_more (drop address memory) i 0 inside)
    ∙ sum_by-append (λ (n : ℕ). n) (take i (drop address memory)) (get_or (drop address memory) i 0 ∷ []) in
    let last : sum (get_or (drop address memory) i 0 ∷ []) ≡ get_or (drop address memory) i 0 = omega arith in
    more ∙ ap (λ (n : ℕ). sum (take i (drop address memory)) + n) (last ∙ one)

-- the number after five more draws
pub number_more : (seed i x y : ℕ) → x ≡ number_after (5 * i) seed → y ≡ number_after 5 x → y ≡ number_after (5 * (i + 1)) seed
number_more seed i x y at next =
    let same : 5 * i + 5 ≡ 5 * (i + 1) = omega arith in
    next ∙ ap (number_after 5) at ∙ number_join (5 * i) 5 seed ∙ ap (λ (k : ℕ). number_after k seed) same

-- the number before any draw is the seed
pub first_number : (seed : ℕ) → seed ≡ number_after (5 * 0) seed
unfolding number_after
first_number seed = refl
