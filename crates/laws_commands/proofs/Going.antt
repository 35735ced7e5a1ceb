-- Scripts that go to their end when nothing disturbs them.
use Rattle.std.proofs.Common.{arith, ◌≡◌, ◌+◌, ◌<◌, ◌≤◌, ℕ, zero, suc, true, false, true≢false, List, [], ◌∷◌, refl, sym, subst, inl, inr, Option}
use Rattle.laws_commands.proofs.Common.{leb-true, Files, grown, Status, Counters, IsFaultless, IsUndisturbed, Request, Reply, Stop, is_bay, State, Step, StopsAt, is_refusal, stop_status, Taken, IsEndStop, has_refusal, World, Prints, IsPutFault, entered_by, AreUndisturbed, Script, Ends, Says, Asks, Stores, MayStarve, Fails, RunsScript, IsStored, NotStored, StoresLast, unless_refused, IsStoreFault, Part, by_track, with_report, BeginsSound, EndsWellOrOutside}
use Rattle.commands.specs.Parts.{asks, needs, carries, through, each}
use Rattle.laws_commands.proofs.Steps.{keeps_drives, step_never_fell}
use Rattle.flop_base.specs.declared.answers.Status.TheVariants as status
use Rattle.sector_model.specs.declared.reply.Reply.TheVariants as reply
use Rattle.sector_model.specs.Plays as plays
use Rattle.sector_model.specs.declared.reply.Stop.TheVariants as stop
use Rattle.floppy_jobs.specs.declared.request.Request.TheVariants as request

-- ---- Steps that nothing disturbs.

-- neither a fault nor a late DMA request (stall) disturbed a step, in either bay
pub record IsCalm (asked : Request) (answer : Reply) (old new : Counters) : Type 0 where
  pub first : IsUndisturbed 0 (entered_by old asked answer) new
  pub second : IsUndisturbed 1 (entered_by old asked answer) new

-- a step that leaves the drives in their bays finds the counters as they were
entered_same : (old : Counters) (asked : Request) (answer : Reply) → keeps_drives asked ≡ true → entered_by old asked answer ≡ old
entered_same old (request.Unit bay) answer keeps = absurd (true≢false (sym keeps))
entered_same old _ answer keeps = refl

-- nothing disturbed the bay of a request that leaves the drives in their bays
pub calm_in : (bay : ℕ) (asked : Request) (answer : Reply) (old new : Counters) → is_bay bay ≡ true → keeps_drives asked ≡ true → IsCalm asked answer old new
    → IsUndisturbed bay old new
calm_in bay asked answer old new is_one keeps calm =
    let same = entered_same old asked answer keeps in
    go bay is_one (subst (λ (c : Counters). IsUndisturbed 0 c new) same calm.first) (subst (λ (c : Counters). IsUndisturbed 1 c new) same calm.second)
  where
    go : (bay : ℕ) → is_bay bay ≡ true → IsUndisturbed 0 old new → IsUndisturbed 1 old new → IsUndisturbed bay old new
    go zero is first second = first
    go (suc zero) is first second = second
    go (suc (suc n)) is first second = absurd (omega (arith, leb-true (suc (suc n)) 1 is))

-- neither drive had a fault, and no DMA request was late (no stall came)
pub record IsStill (old new : Counters) : Type 0 where
  pub first : new.drives.first.faults ≡ old.drives.first.faults
  pub second : new.drives.second.faults ≡ old.drives.second.faults
  pub stalls : new.stalls ≡ old.stalls

pub step_still : (old new : State) (told after : Option Files) (asked : Request) (answer : Reply) → Step asked old told answer new after
    → keeps_drives asked ≡ true → IsCalm asked answer old.station.counters new.station.counters → IsStill old.station.counters new.station.counters
step_still old new told after asked answer step keeps calm =
    let fell = step_never_fell old new told after asked answer step keeps in
    let first = calm_in 0 asked answer old.station.counters new.station.counters refl keeps calm in
    let second = calm_in 1 asked answer old.station.counters new.station.counters refl keeps calm in
    record {
      first = omega (arith, fell.first, fell.stalls, first.together);
      second = omega (arith, fell.second, fell.stalls, second.together);
      stalls = omega (arith, fell.first, fell.stalls, first.together);
    }

pub still_both : (one two three : Counters) → IsStill one two → IsStill two three → IsStill one three
still_both one two three a b = search

-- ---- Scripts.

-- what requests change: the state of the session, and the told files
pub record Stage : Type 0 where
  pub state : State
  pub files : Option Files

abbrev pub at : State → Option Files → Stage
at state files = record { state = state; files = files }

-- Only the outside can stop the request. The request leaves the drives in their bays.
pub record IsSafe (asked : Request) (old : Stage) : Type 0 where
  pub keeps : keeps_drives asked ≡ true
  pub stops : (cause : Stop) (new : Stage) → StopsAt asked old.state old.files cause new.state new.files → IsEndStop cause

-- The request is safe. If nothing disturbs it, it isn't refused, and then this holds.
pub record IsDone (Then : Stage → Type 0) (asked : Request) (old : Stage) : Type 0 where
  pub safe : IsSafe asked old
  pub answers : (answer : Reply) (new : Stage) → Step asked old.state old.files answer new.state new.files
      → IsCalm asked answer old.state.station.counters new.state.station.counters → (is_refusal answer ≡ false) × Then new

-- The script goes well. If nothing disturbs its requests, each is safe, none is refused, and the script ends well. If
-- it fails, the outside failed.
abbrev pub GoesWell : Script → Stage → Type 0
GoesWell (Ends line wanted) old = wanted ≡ status.AllOk
GoesWell (Says line rest) old = GoesWell rest old
GoesWell (Asks asked rest) old =
    IsSafe asked old × ((answer : Reply) (new : Stage) → Step asked old.state old.files answer new.state new.files
    → IsCalm asked answer old.state.station.counters new.state.station.counters → (is_refusal answer ≡ false) × GoesWell (rest answer new.state) new)
GoesWell (Stores name bytes line wanted) old = wanted ≡ status.AllOk
GoesWell (MayStarve rest) old = GoesWell rest old
GoesWell (Fails cause) old = EndsWellOrOutside (Unit {0}) cause

-- ---- Parts.

pub goes_asks : (P : Stage → Type 0) (asked : Request) (rest : Reply → State → Script) (old : Stage) → IsDone P asked old
    → ((answer : Reply) (new : Stage) → is_refusal answer ≡ false → P new → GoesWell (rest answer new.state) new) → GoesWell (asks asked rest) old
unfolding asks
goes_asks P asked rest old done next = (
  done.safe,
  λ answer new step calm. let it = done.answers answer new step calm in (it.0, next answer new it.0 it.1),
)

unrefused : (asked : Request) (answer : Reply) (later : Script) (old : Stage) → is_refusal answer ≡ false → GoesWell later old
    → GoesWell (unless_refused asked answer later) old
unrefused asked (reply.Refused cause) later old fine goes = absurd (true≢false fine)
unrefused asked _ later old fine goes = goes

pub goes_needs : (P : Stage → Type 0) (asked : Request) (rest : Reply → State → Script) (old : Stage) → IsDone P asked old
    → ((answer : Reply) (new : Stage) → P new → GoesWell (rest answer new.state) new) → GoesWell (needs asked rest) old
unfolding needs
goes_needs P asked rest old done next = (
  done.safe,
  λ answer new step calm.
      let it = done.answers answer new step calm in
      (it.0, unrefused asked answer (rest answer new.state) new it.0 (next answer new it.1)),
)

pub goes_carries : (P : Stage → Type 0) (asked : Request) (rest : Unit {0} → Script) (old : Stage) → IsDone P asked old
    → ((new : Stage) → P new → GoesWell (rest tt) new) → GoesWell (carries asked rest) old
unfolding carries
goes_carries P asked rest old done next = goes_needs P asked (λ answer after. rest tt) old done (λ answer new holds. next new holds)

-- a part goes well, and leads to a stage where this holds of what the part found
abbrev pub PartGoes : {Found : Type 0} → (Found → Stage → Type 0) → Part Found → Stage → Type 0
PartGoes {Found = Found} Then part old =
    (rest : Found → Script) → ((found : Found) (new : Stage) → Then found new → GoesWell (rest found) new) → GoesWell (part rest) old

-- parts for several numbers go well if each of them keeps what holds
pub goes_each : {Found : Type 0} (P : Found → Stage → Type 0) (part : ℕ → Found → Part Found) (a n : ℕ) (found : Found) (old : Stage)
    → ((i : ℕ) → a ≤ i → i < a + n → (now : Found) (mid : Stage) → P now mid → PartGoes P (part i now) mid)
    → P found old → PartGoes P (each a n part found) old
unfolding each through
goes_each P part a zero found old keeps holds = λ rest behind. behind found old holds
goes_each P part a (suc n) found old keeps holds = λ rest behind.
    keeps a (omega arith) (omega arith) found old holds (λ now. each (a + 1) n part now rest)
    (λ now mid there. goes_each P part (a + 1) n now mid (λ i least below. keeps i (omega arith) (omega arith)) there rest behind)

-- parts for all tracks, by cylinder, then head, go well if each of them keeps what holds
pub goes_tracks : {Found : Type 0} (P : Found → Stage → Type 0) (cylinders heads : ℕ) (part : ℕ → ℕ → Found → Part Found) (found : Found) (old : Stage)
    → ((c h : ℕ) → c < cylinders → h < heads → (now : Found) (mid : Stage) → P now mid → PartGoes P (part c h now) mid) → P found old
    → PartGoes P (by_track cylinders heads part found) old
goes_tracks P cylinders heads part found old keeps holds =
    goes_each P (λ c. each 0 heads (part c)) 0 cylinders found old (λ c least most now mid here.
    goes_each P (part c) 0 heads now mid (λ h from below so end there. keeps c h (omega (arith, most)) (omega (arith, below)) so end there) here) holds

-- ---- The outside.

pub put_fault_outside : (Holds : Type 0) (ended : Status) → IsPutFault ended → EndsWellOrOutside Holds ended
put_fault_outside Holds status.NoMemory fault = tt
put_fault_outside Holds status.SinkFault fault = tt
put_fault_outside Holds _ fault = absurd fault

pub store_fault_outside : (Holds : Type 0) (ended : Status) → IsStoreFault ended → EndsWellOrOutside Holds ended
store_fault_outside Holds status.FileFault fault = tt
store_fault_outside Holds status.NoMemory fault = tt
store_fault_outside Holds _ fault = absurd fault

pub stop_outside : (Holds : Type 0) (cause : Stop) → IsEndStop cause → EndsWellOrOutside Holds (stop_status cause)
stop_outside Holds stop.FileFault only = tt
stop_outside Holds stop.NoMemory only = tt
stop_outside Holds _ only = absurd only

-- a last line whose status says that all is well, or that the outside failed
pub prints_outside : (Holds : Type 0) (report : Option (List (List ℕ))) (line : List (List ℕ)) (wanted ended : Status) (after : Option (List (List ℕ)))
    → EndsWellOrOutside Holds wanted → Prints line wanted report after ended → EndsWellOrOutside Holds ended
prints_outside Holds report line wanted ended after well (plays.Whole told same) = subst (λ (s : Status). EndsWellOrOutside Holds s) (sym same) well
prints_outside Holds report line wanted ended after well (plays.Part grows fault) = put_fault_outside Holds ended fault

-- the same with what follows from a good end
pub ends_with : (Here Holds : Type 0) (ended : Status) → EndsWellOrOutside Here ended → (ended ≡ status.AllOk → Here → Holds) → EndsWellOrOutside Holds ended
ends_with Here Holds status.AllOk here holds = holds refl here
ends_with Here Holds status.FileFault ends holds = tt
ends_with Here Holds status.SinkFault ends holds = tt
ends_with Here Holds status.NoMemory ends holds = tt
ends_with Here Holds _ ends holds = absurd ends

-- ---- The end.

-- An undisturbed run of a script that goes well ends well, or the outside failed. If it ends well, no request was
-- refused, and no count of faults or late DMA requests (stalls) rose.
module _ (start : Counters) where
  abbrev EndsStill : List Taken → World → Status → Type 0
  EndsStill course new ended = EndsWellOrOutside (IsStill start new.state.station.counters × (has_refusal course ≡ false)) ended

  stored_ends : (name bytes line : List ℕ) (old new : World) (ended : Status) → IsStill start old.state.station.counters
      → StoresLast name bytes line status.AllOk old new ended → EndsStill [] new ended
  stored_ends name bytes line old new ended still (IsStored state files prints) =
      prints_outside _ old.report (line ∷ []) status.AllOk ended new.report (subst (λ (s : State). IsStill start s.station.counters) (sym state) still, refl) prints
  stored_ends name bytes line old new ended still (NotStored same fault) = store_fault_outside _ ended fault

  -- the same for a course with one more step in front, whose answer is no refusal
  answered_ends : (taken : Taken) (later : List Taken) (new : World) (ended : Status) → is_refusal taken.answer ≡ false → EndsStill later new ended
      → EndsStill (taken ∷ later) new ended
  answered_ends taken later new ended fine ends = ends_with _ _ ended ends (λ well both. (both.0, rw fine both.1))

  goes_ends : (script : Script) (old new : World) (course : List Taken) (ended : Status) → GoesWell script (at old.state old.files)
      → IsStill start old.state.station.counters → AreUndisturbed old.state.station.counters course → RunsScript script old course new ended
      → EndsStill course new ended
  goes_ends (Ends line wanted) old new [] ended well still calm runs = grind (arith, prints_outside)
  goes_ends (Ends line wanted) old new (taken ∷ later) ended well still calm runs = absurd runs
  goes_ends (Says line rest) old new course ended goes still calm (inl runs) =
      goes_ends rest (record old { report = grown old.report (line ∷ []) }) new course ended goes still calm runs
  goes_ends (Says line rest) old new course ended goes still calm (inr cut) = put_fault_outside _ ended cut.1.1
  goes_ends (Asks asked rest) old new [] ended goes still calm runs =
      let only = goes.0.stops runs.0 (at new.state new.files) runs.1 in
      prints_outside _ old.report _ (stop_status runs.0) ended new.report (stop_outside _ runs.0 only) runs.2
  goes_ends (Asks asked rest) old new (taken ∷ later) ended goes still calm runs =
      let quiet = subst (λ (q : Request). IsCalm q taken.answer old.state.station.counters taken.after.station.counters) runs.0
      (record { first = calm.0; second = calm.1 }) in
      let here = step_still old.state taken.after old.files runs.1 asked taken.answer runs.2 goes.0.keeps quiet in
      let next = goes.1 taken.answer (at taken.after runs.1) runs.2 quiet in
      answered_ends taken later new ended next.0
      (goes_ends (rest taken.answer taken.after) (with_report taken.after runs.1 old.report) new later ended next.1
      (still_both start old.state.station.counters taken.after.station.counters still here) calm.2 runs.3)
  goes_ends (Stores name bytes line wanted) old new [] ended well still calm runs =
      stored_ends name bytes line old new ended still (subst (λ (s : Status). StoresLast name bytes line s old new ended) well runs)
  goes_ends (Stores name bytes line wanted) old new (taken ∷ later) ended well still calm runs = absurd runs
  goes_ends (MayStarve rest) old new course ended goes still calm (inl runs) = goes_ends rest old new course ended goes still calm runs
  goes_ends (MayStarve rest) old new course ended goes still calm (inr none) = subst (λ (s : Status). EndsStill course new s) (sym none.2) tt
  goes_ends (Fails cause) old new [] ended fails still calm runs = grind (arith, ends_with)
  goes_ends (Fails cause) old new (taken ∷ later) ended fails still calm runs = absurd runs

-- the drives of both bays had no fault, and nothing disturbed the drive of bay 0
pub record AreFaultless (old new : Counters) : Type 0 where
  pub first : IsFaultless 0 old new
  pub second : IsFaultless 1 old new
  pub calm : IsUndisturbed 0 old new

pub still_faultless : (old : World) (new : Counters) → BeginsSound old → IsStill old.state.station.counters new → AreFaultless old.state.station.counters new
still_faultless old new begins still =
    let first = begins.sound.drives.first.below in
    let second = begins.sound.drives.second.below in
    let few = begins.sound.stalls_below in
    record {
      first = (omega (arith, still.first), omega (arith, still.first, first));
      second = (omega (arith, still.second), omega (arith, still.second, second));
      calm = record {
        faults = omega (arith, still.first, first);
        stalls = omega (arith, still.stalls, few);
        together = omega (arith, still.first, still.stalls);
      };
    }

-- If nothing is left that can go wrong, a script that goes well ends well, or the outside failed. If it ends well, it
-- ends faultless, no request was refused, and what follows from this holds.
pub completes_unrefused : (script : Script) (Holds : Type 0) (old new : World) (course : List Taken) (ended : Status) (told : Option Files) → old.files ≡ told
    → BeginsSound old → GoesWell script (at old.state told) → AreUndisturbed old.state.station.counters course → RunsScript script old course new ended
    → (RunsScript script old course new status.AllOk → AreFaultless old.state.station.counters new.state.station.counters
    → has_refusal course ≡ false → Holds)
    → EndsWellOrOutside Holds ended
completes_unrefused script Holds old new course ended told is begins goes calm runs gives =
    let here = subst (λ (files : Option Files). GoesWell script (at old.state files)) (sym is) goes in
    let counters = old.state.station.counters in
    let still : IsStill counters counters = record { first = refl; second = refl; stalls = refl } in
    ends_with _ Holds ended (goes_ends counters script old new course ended here still calm runs)
    (λ well end.
    gives (subst (λ (s : Status). RunsScript script old course new s) well runs) (still_faultless old new.state.station.counters begins end.0) end.1)

pub completes : (script : Script) (Holds : Type 0) (old new : World) (course : List Taken) (ended : Status) (told : Option Files) → old.files ≡ told
    → BeginsSound old → GoesWell script (at old.state told) → AreUndisturbed old.state.station.counters course → RunsScript script old course new ended
    → (RunsScript script old course new status.AllOk → AreFaultless old.state.station.counters new.state.station.counters → Holds)
    → EndsWellOrOutside Holds ended
completes script Holds old new course ended told is begins goes calm runs gives =
    completes_unrefused script Holds old new course ended told is begins goes calm runs (λ done faultless fine. gives done faultless)
