-- Device steps in which no spurious interrupt comes.
use Rattle.std.proofs.Common.{◌≡◌, ◌≤◌, ◌-◌, ℕ, zero, suc, Bool, false, List, [], ◌∷◌, refl, sym, ap, ◌∙◌, arith, nat_le, subst, Option, Some, None, if◌then◌else◌}
use Rattle.std.proofs.lemmas.Bool.{lt-leb}
use Rattle.irq_events.specs.Entries.{strays_after, strays_later, AreQuiet, coming}

-- fewer steps are quiet too
pub quiet_fewer : (fewer count : ℕ) (strays : List ℕ) → fewer ≤ count → AreQuiet count strays → AreQuiet fewer strays
unfolding AreQuiet
quiet_fewer zero count strays few quiet = tt
quiet_fewer (suc fewer) zero strays few quiet = absurd (omega (arith, few))
quiet_fewer (suc fewer) (suc count) strays few quiet =
    (quiet.0, quiet_fewer fewer count (strays_after strays) (omega (arith, few)) quiet.1)

-- where no spurious interrupt is to come, all steps are quiet
pub quiet_none : (count : ℕ) → AreQuiet count []
unfolding AreQuiet
quiet_none zero = tt
quiet_none (suc count) = (refl, quiet_none count)

pub later_none : (count : ℕ) → strays_later count [] ≡ []
unfolding strays_later
later_none zero = refl
later_none (suc count) = later_none count

-- the steps before that of the next spurious interrupt are quiet
pub quiet_some : (count steps : ℕ) (rest : List ℕ) → count ≤ steps - 1 → AreQuiet count (steps ∷ rest)
unfolding AreQuiet
quiet_some zero steps rest few = tt
quiet_some (suc count) steps rest few =
    let far : nat_le steps 1 ≡ false = lt-leb steps 1 (omega (arith, few)) in
    (far, rw far (quiet_some count (steps - 1) rest (omega (arith, few))))

quiet_left : (count steps : ℕ) (rest : List ℕ) → nat_le steps 1 ≡ false → AreQuiet count (strays_after (steps ∷ rest))
    → AreQuiet count ((steps - 1) ∷ rest)
quiet_left count steps rest far quiet =
    subst (λ (b : Bool). AreQuiet count (if b then rest else (steps - 1) ∷ rest)) far quiet

pub later_some : (count steps : ℕ) (rest : List ℕ) → AreQuiet count (steps ∷ rest) → strays_later count (steps ∷ rest) ≡ (steps - count) ∷ rest
unfolding strays_later AreQuiet
later_some zero steps rest quiet = let same : steps ≡ steps - 0 = omega arith in ap (λ n. n ∷ rest) same
later_some (suc count) steps rest quiet =
    let far : nat_le steps 1 ≡ false = quiet.0 in
    let left : AreQuiet count ((steps - 1) ∷ rest) = quiet_left count steps rest far quiet.1 in
    let same : (steps - 1) - count ≡ steps - suc count = omega arith in
    rw far (later_some count (steps - 1) rest left ∙ ap (λ n. n ∷ rest) same)

-- the same facts, where the list is the next spurious interrupt, if one is to come, and those after it
pub quiet_stays : (count : ℕ) (next : Option ℕ) (rest old : List ℕ) → coming next rest ≡ old → next ≡ None → AreQuiet count old
quiet_stays count next rest old are is =
    subst (AreQuiet count) (sym (ap (λ n. coming n rest) is) ∙ are) (quiet_none count)

pub quiet_next : (count : ℕ) (next : Option ℕ) (steps : ℕ) (rest old : List ℕ) → coming next rest ≡ old → next ≡ Some steps
    → count ≤ steps - 1 → AreQuiet count old
quiet_next count next steps rest old are is few =
    subst (AreQuiet count) (sym (ap (λ n. coming n rest) is) ∙ are) (quiet_some count steps rest few)

pub later_next : (count : ℕ) (next : Option ℕ) (steps : ℕ) (rest old : List ℕ) → coming next rest ≡ old → next ≡ Some steps
    → AreQuiet count old → coming (Some (steps - count)) rest ≡ strays_later count old
later_next count next steps rest old are is quiet =
    let they : old ≡ steps ∷ rest = sym are ∙ ap (λ n. coming n rest) is in
    let left : AreQuiet count (steps ∷ rest) = subst (AreQuiet count) they quiet in
    sym (ap (strays_later count) they ∙ later_some count steps rest left)

pub later_stays : (count : ℕ) (next : Option ℕ) (rest old : List ℕ) → coming next rest ≡ old → next ≡ None
    → old ≡ strays_later count old
later_stays count next rest old are is =
    let none : old ≡ [] = sym are ∙ ap (λ n. coming n rest) is in
    none ∙ sym (ap (strays_later count) none ∙ later_none count)
