-- Word times in a row.
use Rattle.std.proofs.Common.{◌≡◌, ◌+◌, ℕ, zero, suc, Bool, false, List, [], ◌∷◌, take, Option, Some, None, refl, sym, subst, ap, ◌∙◌, add-one, arith}
use Rattle.flop_base.specs.Counts.{Spends}
use Rattle.drive_model.specs.Ahead.{LetsPass, AreAhead}
use Rattle.drive_model.specs.Drive.{DriveState, Becomes, Reads, passed, with_gate}

-- the gate is closed, and a word time passes
pub shut_passes : (a b c : DriveState) → b ≡ with_gate false a → Becomes (passed b) b c → Becomes (passed (with_gate false a)) a c
shut_passes a b c shut passes =
    let shut_passing : Becomes (passed (with_gate false a)) (with_gate false a) c = subst (λ s. Becomes (passed s) s c) shut passes in
    record { becomes = shut_passing.becomes; never_falls = shut_passing.never_falls; spends = shut_passing.spends }

-- a word that is read with the gate closed
pub reads_shut : (head raw : ℕ) (before mid after : DriveState) → mid ≡ with_gate false before → Reads head mid raw after → Reads head before raw after
reads_shut head raw before mid after shut reads = subst (λ s. Reads head s raw after) shut reads

-- ---- calls in which no fault comes

pub spends_nothing : (count : ℕ) (left : Option ℕ) → Spends count left count left
spends_nothing count None = refl
spends_nothing count (Some most) = (most, refl, omega arith)

-- a drive that equals the target, with its count of faults and what is left of them as before, has become the target
pub becomes_at : (target old new : DriveState) → new ≡ target → target.faults ≡ old.faults → target.left ≡ old.left → Becomes target old new
becomes_at target old new is same_faults same_left = record {
  becomes = is ∙ ap (λ s. record target { faults = s.faults; left = s.left }) (sym is);
  never_falls = let now : new.faults ≡ target.faults = ap (λ s. s.faults) is in omega arith;
  spends = subst (λ count. Spends old.faults old.left count new.left) (sym (ap (λ s. s.faults) is ∙ same_faults))
      (subst (λ left. Spends old.faults old.left old.faults left) (sym (ap (λ s. s.left) is ∙ same_left)) (spends_nothing old.faults old.left));
}

-- ---- word times in a row

pub lets_pass_none : (s : DriveState) → LetsPass 0 s s
unfolding LetsPass
lets_pass_none s = refl

lets_pass_suc : (count : ℕ) (old between new : DriveState) → LetsPass count old between → new ≡ passed (with_gate false between) → LetsPass (suc count) old new
unfolding LetsPass
lets_pass_suc zero old between new same step = step ∙ ap (λ s. passed (with_gate false s)) same
lets_pass_suc (suc count) old between new passes step = lets_pass_suc count (passed (with_gate false old)) between new passes step

pub lets_pass_more : (count : ℕ) (old between new : DriveState) → LetsPass count old between → new ≡ passed (with_gate false between) → LetsPass (count + 1) old new
lets_pass_more count old between new passes step = rw add-one (lets_pass_suc count old between new passes step)

-- ---- words ahead

-- the first of the words that are ahead are ahead too
pub ahead_first : (count head : ℕ) (words : List ℕ) (s : DriveState) → AreAhead head words s → AreAhead head (take count words) s
unfolding AreAhead
ahead_first (suc count) head (word ∷ rest) s (same, before, ahead) =
    (same, before, ahead_first count head rest (passed s) ahead)
ahead_first _ head _ s ahead = tt

-- whether words are ahead depends neither on the gate, nor on a cut, nor on the faults counted or left
pub ahead_same : (head : ℕ) (words : List ℕ) (s : DriveState) (gate cut : Bool) (faults : ℕ) (left : Option ℕ)
    → AreAhead head words s → AreAhead head words (record s { gate = gate; cut = cut; faults = faults; left = left })
unfolding AreAhead
ahead_same head [] s gate cut faults left ahead = tt
ahead_same head (word ∷ rest) s gate cut faults left (same, before, ahead) =
    (same, before, ahead_same head rest (passed s) gate cut faults left ahead)
