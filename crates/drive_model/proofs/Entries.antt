-- Lists of planned faults, by the place of an entry.
use Rattle.std.proofs.Common.{◌≡◌, ℕ, zero, suc, ◌+◌, ◌<◌, true, false, List, [], ◌∷◌, length, take, get_or, ap, ◌∙◌, arith}
use Rattle.std.proofs.Math.ListN.{set}
use Rattle.std.proofs.lemmas.Bool.{cond-true, cond-false}
use Rattle.std.proofs.lemmas.Grind.{common_steps}
use Rattle.std.proofs.lemmas.List.Sums.{get_or-le-sum_by, sum_by-set}
use Rattle.drive_model.specs.declared.fault.Fault.{Fault}
use Rattle.drive_model.specs.declared.fault.Fault.TheVariants.{Dropout, Cut, Lose, Stick}
use Rattle.drive_model.specs.declared.fault.Event.{Event}
use Rattle.drive_model.specs.Fault.{meets, lowered, comes, spent, count_left, total_left}

-- the first entry that meets the event is the one that is lowered
pub spent-at : (event : Event) (fs : List Fault) (i : ℕ) (d : Fault) → i < length fs → meets event (get_or fs i d) ≡ true → ((k : ℕ) → k < i → meets event (get_or fs k d) ≡ false) → spent fs event ≡ set fs i (lowered (get_or fs i d))
spent-at event [] i d short here before = absurd (omega arith)
spent-at event (f ∷ fs) zero d short here before = cond-true _ _ _ here
spent-at event (f ∷ fs) (suc i) d short here before =
    cond-false _ _ _ (before 0 (omega arith))
    ∙ ap (λ rest. f ∷ rest) (spent-at event fs i d (omega arith) here (λ k below. before (suc k) (omega arith)))

-- an entry that meets an event can still come
met-some : (event : Event) (f : Fault) → meets event f ≡ true → 0 < count_left f
met-some event f met = grind (arith, common_steps)

-- a lowered entry can come one time less
lowered-count : (f : Fault) → 0 < count_left f → count_left (lowered f) + 1 ≡ count_left f
lowered-count (Dropout c h word count) some = omega arith
lowered-count (Cut c h word count) some = omega arith
lowered-count (Lose c count) some = omega arith
lowered-count (Stick c count) some = omega arith

-- and the list, with one entry lowered, can come one time less
pub total-lowered : (event : Event) (fs : List Fault) (i : ℕ) (d : Fault) → i < length fs → meets event (get_or fs i d) ≡ true → total_left (set fs i (lowered (get_or fs i d))) + 1 ≡ total_left fs
total-lowered event fs i d short here =
    let f : Fault = get_or fs i d in
    let total : total_left (set fs i (lowered f)) + count_left f ≡ total_left fs + count_left (lowered f) = sum_by-set count_left fs i (lowered f) d short in
    let one : count_left (lowered f) + 1 ≡ count_left f = lowered-count f (met-some event f here) in
    omega arith

-- if none of the first entries meets an event, and the next doesn't either, none of all these does
pub none-more : (event : Event) (fs : List Fault) (k : ℕ) (d : Fault) → k < length fs → comes (take k fs) event ≡ false → meets event (get_or fs k d) ≡ false → comes (take (k + 1) fs) event ≡ false
none-more event fs k d short before here = grind (arith, common_steps)

-- if no fault of the list can come any more, this entry can't
pub none-at : (fs : List Fault) (k : ℕ) (d : Fault) → k < length fs → total_left fs ≡ 0 → count_left (get_or fs k d) ≡ 0
none-at fs k d short none =
    let most = get_or-le-sum_by count_left fs k d short in
    omega (arith, most, none)
