-- What the counts of a course add up to.
use Rattle.std.proofs.Common.{arith, ◌≡◌, ℕ, zero, suc, ◌+◌, ◌≤◌, Bool, true, false, All, List, [], ◌∷◌, refl, ap, ◌∙◌, sym, subst, Option, Some, None, IsSome}
use Rattle.std.proofs.lemmas.Bool.{true≢false, leb-true, eqb-false}
use Rattle.std.specs.Prelude.{◌==◌, if◌then◌else◌, MatchOption}
use Rattle.sector_model.proofs.Common.{Spends, Files, DriveCounts, Counters, faults_of, DriveGoesOn, GoesOn, IsUndisturbed, Request, Reply, Reason, State, is_bay, Step, IsRefused, unless_bad, Taken, Run, with_spare, entered_by, entered, left_by, step_faults, sum_told, all_left, is_exchange_by, is_exchange, came_with, faults_since, OfAllDrives, TellsFaults, IsSpent, HasNothingLeft, AreUndisturbed, faults_go_on}
use Rattle.floppy_jobs.specs.declared.request.Request.TheVariants as request
use Rattle.sector_model.specs.declared.reply.Reply.TheVariants as reply
use Rattle.flop_base.specs.declared.answers.Code.TheVariants.{BadRequest}
use Rattle.sector_model.specs.declared.reply.Reason.TheVariants as reason
use Rattle.sector_model.proofs.Counted.{not-first, left_paid, spare_left}
use Rattle.sector_model.proofs.Ties.{step_goes}

-- ---- Each fault is taken from what was left of them.

entered_left : (counters : Counters) (asked : Request) (answer : Reply) → all_left (entered_by counters asked answer) ≤ all_left counters
entered_left counters (request.Unit bay) reply.Done = spare_left counters bay counters.spares refl
entered_left counters _ _ = omega arith

-- each fault in a course is taken from what was left, also if counts change further after the course
pub told_paid : (old mid : State) (told after : Option Files) (course : List Taken) (new : Counters) → Run old told course mid after → GoesOn mid.station.counters new → sum_told old.station.counters course + all_left new ≤ all_left old.station.counters
told_paid old mid told after [] new run goes =
    let same = ap (λ (s : State). all_left s.station.counters) run.0 in
    let paid = left_paid mid.station.counters new goes in
    omega (arith, same, paid)
told_paid old mid told after (taken ∷ later) new run goes =
    let enters = entered_left old.station.counters taken.asked taken.answer in
    let paid = left_paid (entered old.station.counters taken) (left_by taken) (step_goes old taken.after told run.0 taken.asked taken.answer run.1) in
    let rest = told_paid taken.after mid run.0 after later new run.2 goes in
    omega (arith, enters, paid, rest)

-- ---- The faults of a bay's drive since it came.

-- a drive is exchanged only in bay 0 or 1
taken_well : (P : Type 0) (Q : Reason → Type 0) (good : Bool) (next : Option Reason) → MatchOption (unless_bad good next) P Q → ((cause : Reason) → Q cause → ⊥) → good ≡ true
taken_well P Q true next holds none = refl
taken_well P Q false next holds none = absurd (none (reason.Driver BadRequest) holds)

not_refused : (old : State) (told : Option Files) (cause : Reason) (new : State) (after : Option Files) → IsRefused cause old told reply.Done new after → ⊥
not_refused old told cause new after refused = let e = refused.answered in absurd (cc)

done_bay : (old : State) (told after : Option Files) (new : State) (bay : ℕ) → Step (request.Unit bay) old told reply.Done new after → bay ≤ 1
done_bay old told after new bay step =
    leb-true bay 1 (taken_well _ _ (is_bay bay) _ step (λ cause refused. not_refused old told cause new after refused))

-- another bay has the drive that it had
spare_elsewhere : (counters : Counters) (spares : List DriveCounts) (exchanged bay : ℕ) → exchanged ≤ 1 → bay ≤ 1 → (exchanged == bay) ≡ false → faults_of (with_spare counters exchanged spares) bay ≡ faults_of counters bay
spare_elsewhere counters [] exchanged bay one two apart = refl
spare_elsewhere counters (next ∷ later) zero zero one two apart = absurd (true≢false apart)
spare_elsewhere counters (next ∷ later) zero (suc bay) one two apart =
    subst (λ (b : Bool). (if b then next else counters.drives.second).faults ≡ (if b then counters.drives.first else counters.drives.second).faults) (sym (not-first bay)) refl
spare_elsewhere counters (next ∷ later) (suc exchanged) zero one two apart =
    subst (λ (b : Bool). (if b then record counters.drives { first = next } else record counters.drives { second = next }).first.faults ≡ counters.drives.first.faults) (sym (not-first exchanged)) refl
spare_elsewhere counters (next ∷ later) (suc exchanged) (suc bay) one two apart =
    let other = eqb-false (suc exchanged) (suc bay) apart in absurd (other (omega arith))

-- a step that exchanges no drive of the bay finds the one that was there
entered_same : (old : State) (told after : Option Files) (asked : Request) (answer : Reply) (new : State) (bay : ℕ) → Step asked old told answer new after → bay ≤ 1 → is_exchange_by bay asked answer ≡ false → faults_of (entered_by old.station.counters asked answer) bay ≡ faults_of old.station.counters bay
entered_same old told after (request.Unit exchanged) reply.Done new bay step one apart =
    spare_elsewhere old.station.counters old.station.counters.spares exchanged bay (done_bay old told after new exchanged step) one apart
entered_same old told after _ _ new bay step one apart = refl

-- one more step, before steps of which this holds
module _ (bay : ℕ) (is : bay ≤ 1) (old : State) (told mid_told : Option Files) (taken : Taken) (later : List Taken) (new : Counters) (count sum : ℕ) (step : Step taken.asked old told taken.answer taken.after mid_told) (within : count + sum ≤ faults_of old.station.counters bay) where
  rose_in : faults_of (entered old.station.counters taken) bay ≤ faults_of (left_by taken) bay
  rose_in = faults_go_on (entered old.station.counters taken) (left_by taken) bay (step_goes old taken.after told mid_told taken.asked taken.answer step)

  since_step : (test : Bool) → is_exchange bay taken ≡ test → ((came risen : ℕ) → came + risen ≤ faults_of (left_by taken) bay → came_with bay came (left_by taken) later + faults_since bay risen (left_by taken) later ≤ faults_of new bay) → came_with bay (if test then faults_of (entered old.station.counters taken) bay else count) (left_by taken) later + faults_since bay ((if test then 0 else sum) + step_faults bay old.station.counters taken) (left_by taken) later ≤ faults_of new bay
  since_step true exchanged next =
      let rose = rose_in in
      next (faults_of (entered old.station.counters taken) bay) (0 + step_faults bay old.station.counters taken) (omega (arith, rose))
  since_step false stayed next =
      let rose = rose_in in
      let same = entered_same old told mid_told taken.asked taken.answer taken.after bay step is stayed in
      next count (sum + step_faults bay old.station.counters taken) (omega (arith, rose, same))

pub since_came : (bay : ℕ) → bay ≤ 1 → (new : Counters) (old mid : State) (told after : Option Files) (course : List Taken) (count sum : ℕ) → Run old told course mid after → GoesOn mid.station.counters new → count + sum ≤ faults_of old.station.counters bay → came_with bay count old.station.counters course + faults_since bay sum old.station.counters course ≤ faults_of new bay
since_came bay is new old mid told after [] count sum run goes within =
    let same = ap (λ (s : State). faults_of s.station.counters bay) run.0 in
    let rose = faults_go_on mid.station.counters new bay goes in
    omega (arith, same, rose)
since_came bay is new old mid told after (taken ∷ later) count sum run goes within =
    since_step bay is old told run.0 taken later new count sum run.1 within (is_exchange bay taken) refl
    (λ came risen fits. since_came bay is new taken.after mid run.0 after later came risen run.2 goes fits)

-- ---- What holds of all drives.

-- a spare that comes into a bay is one of the drives
spare_all : (P : DriveCounts → Type 0) (counters : Counters) (bay : ℕ) (spares : List DriveCounts) → OfAllDrives P counters → All P spares → OfAllDrives P (with_spare counters bay spares)
spare_all P counters bay [] all more = all
spare_all P counters bay (next ∷ later) all more = by_bay (bay == 0)
  where
    here : P next
    here = more 0 next (omega arith)

    rest : All P later
    rest k default within = more (suc k) default (omega arith)

    by_bay : (is_first : Bool) → OfAllDrives P (record counters { drives = (if is_first then record counters.drives { first = next } else record counters.drives { second = next }); spares = later })
    by_bay true = record { first = here; second = all.second; spares = rest }
    by_bay false = record { first = all.first; second = here; spares = rest }

entered_all : (P : DriveCounts → Type 0) (counters : Counters) (asked : Request) (answer : Reply) → OfAllDrives P counters → OfAllDrives P (entered_by counters asked answer)
entered_all P counters (request.Unit bay) reply.Done all = spare_all P counters bay counters.spares all all.spares
entered_all P counters _ _ all = all

spare_stalls : (counters : Counters) (bay : ℕ) (spares : List DriveCounts) → ((with_spare counters bay spares).stalls ≡ counters.stalls) × ((with_spare counters bay spares).stalls_left ≡ counters.stalls_left)
spare_stalls counters bay [] = (refl, refl)
spare_stalls counters bay (next ∷ later) = (refl, refl)

-- the stalls as a step finds them
entered_stalls : (counters : Counters) (asked : Request) (answer : Reply) → ((entered_by counters asked answer).stalls ≡ counters.stalls) × ((entered_by counters asked answer).stalls_left ≡ counters.stalls_left)
entered_stalls counters (request.Unit bay) reply.Done = spare_stalls counters bay counters.spares
entered_stalls counters _ _ = (refl, refl)

-- a property that each drive keeps while its counts change is kept by all drives
goes_all : (P : DriveCounts → Type 0) → ((old new : DriveCounts) → P old → DriveGoesOn old new → P new) → (old new : Counters) → OfAllDrives P old → GoesOn old new → OfAllDrives P new
goes_all P keeps old new all goes = record {
  first = keeps old.drives.first new.drives.first all.first goes.first;
  second = keeps old.drives.second new.drives.second all.second goes.second;
  spares = subst (λ (spares : List DriveCounts). All P spares) (sym goes.spares) all.spares;
}

told_still : (faults after : ℕ) (left later : Option ℕ) → IsSome left → Spends faults left after later → IsSome later
told_still faults after None later told spends = absurd (true≢false (sym told))
told_still faults after (Some most) later told spends = subst (λ (o : Option ℕ). IsSome o) (sym spends.1) refl

-- a drive that reports what is left still reports it later
tells_on : (old new : DriveCounts) → TellsFaults old → DriveGoesOn old new → TellsFaults new
tells_on old new told goes = told_still old.faults new.faults old.left new.left told goes.spends

-- if all drives report what is left, they still do after a course
pub all_tell : (old mid : State) (told after : Option Files) (course : List Taken) (new : Counters) → Run old told course mid after → GoesOn mid.station.counters new → OfAllDrives TellsFaults old.station.counters → OfAllDrives TellsFaults new
all_tell old mid told after [] new run goes all =
    goes_all TellsFaults tells_on mid.station.counters new (subst (λ (s : State). OfAllDrives TellsFaults s.station.counters) (sym run.0) all) goes
all_tell old mid told after (taken ∷ later) new run goes all =
    all_tell taken.after mid run.0 after later new run.2 goes
    (goes_all TellsFaults tells_on (entered old.station.counters taken) (left_by taken) (entered_all TellsFaults old.station.counters taken.asked taken.answer all)
    (step_goes old taken.after told run.0 taken.asked taken.answer run.1))

-- ---- If nothing is left, nothing is disturbed.

-- the count of a drive with no faults left stays
spent_stays : (old new : DriveCounts) → IsSpent old → DriveGoesOn old new → (new.faults ≡ old.faults) × IsSpent new
spent_stays old new spent goes =
    let pays = subst (λ (left : Option ℕ). Spends old.faults left new.faults new.left) spent.left goes.spends in
    let same : new.faults ≡ old.faults = omega (arith, pays.2, goes.never_falls) in
    let none : pays.0 ≡ 0 = omega (arith, pays.2, goes.never_falls) in
    (same, record { left = pays.1 ∙ ap (λ (n : ℕ). Some n) none; below = omega (arith, spent.below, same) })

-- if no fault of a drive was left, none is left after its counts change
spent_on : (old new : DriveCounts) → IsSpent old → DriveGoesOn old new → IsSpent new
spent_on old new spent goes = let stays = spent_stays old new spent goes in stays.1

entered_spent : (counters : Counters) (asked : Request) (answer : Reply) → HasNothingLeft counters → HasNothingLeft (entered_by counters asked answer)
entered_spent counters asked answer none = record {
  drives = entered_all IsSpent counters asked answer none.drives;
  stalls = omega (arith, none.stalls, entered_stalls counters asked answer);
  stalls_below = omega (arith, none.stalls_below, entered_stalls counters asked answer);
}

module _ (old new : Counters) (none : HasNothingLeft old) (goes : GoesOn old new) where
  first_stays : (new.drives.first.faults ≡ old.drives.first.faults) × IsSpent new.drives.first
  first_stays = spent_stays old.drives.first new.drives.first none.drives.first goes.first

  second_stays : (new.drives.second.faults ≡ old.drives.second.faults) × IsSpent new.drives.second
  second_stays = spent_stays old.drives.second new.drives.second none.drives.second goes.second

  stalls_stay : new.stalls ≡ old.stalls
  stalls_stay = omega (arith, none.stalls, goes.stalls, goes.stalls_spent)

  none_after : HasNothingLeft new
  none_after = record {
    drives = goes_all IsSpent spent_on old new none.drives goes;
    stalls = omega (arith, none.stalls, goes.stalls, goes.stalls_spent);
    stalls_below = omega (arith, none.stalls_below, stalls_stay);
  }

  undisturbed_first : IsUndisturbed 0 old new
  undisturbed_first = let same = first_stays in let none = none_after in record { faults = none.drives.first.below; stalls = none.stalls_below; together = omega (arith, same.0, stalls_stay) }

  undisturbed_second : IsUndisturbed 1 old new
  undisturbed_second = let same = second_stays in let none = none_after in record { faults = none.drives.second.below; stalls = none.stalls_below; together = omega (arith, same.0, stalls_stay) }

pub all_undisturbed : (old mid : State) (told after : Option Files) (course : List Taken) → Run old told course mid after → HasNothingLeft old.station.counters → AreUndisturbed old.station.counters course
all_undisturbed old mid told after [] run none = tt
all_undisturbed old mid told after (taken ∷ later) run none =
    let enters = entered_spent old.station.counters taken.asked taken.answer none in
    let goes = step_goes old taken.after told run.0 taken.asked taken.answer run.1 in
    (undisturbed_first _ _ enters goes, undisturbed_second _ _ enters goes, all_undisturbed taken.after mid run.0 after later run.2 (none_after _ _ enters goes))
