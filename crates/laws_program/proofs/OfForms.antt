-- From a run over a machine to what its subcommand (form) does.
use Rattle.std.proofs.Common.{subst, ◌≡◌, ◌⊎◌, inl, inr, List, Some, arith, ◌≤◌, ◌+◌, ℕ, [], ◌∷◌, All, Option, get_or, suc, cond, Bool, true, false, refl, ap, sym, ◌∙◌, zero}
use Rattle.laws_program.proofs.Common.{Status, DriveCounts, Board, Taken, World, Runs, Outside, Form, world, DoesForm, DoesOrStarves, AsAsked, StarvesWords, RunsOver, IsEndStatus, Stand, RanOver, le-ltb, CanTell, Spends, DriveGoesOn, Counters, IsFaultless, IsUndisturbed, holds_of, StationState, IsFresh, IsSpent, HasNothingLeft, counters_of, stalls_left, ShowsStation, Starts, HadNoFault, HadNoStall, IsSound, or-false, or-true, or_assoc, Files, grown, Rate, R500, R250, Disk, Request, Reply, Stop, State, Step, StopsAt, StopCause, IsImageOf, stop_status, is_refusal, has_refusal, IsEndStop, Prints, Whole, InPart, IsPutFault, whole_status, Shape, Script, Ends, Says, Asks, Stores, MayStarve, Fails, RunsScript, StoresLast, IsStored, NotStored, IsStoreFault, unless_refused, shape_at, by_track, with_report, insert_stops}
use Rattle.std.specs.Prelude.{nat_lt, ◌||◌}
use Rattle.std.proofs.lemmas.List.Recursion.{is_count_by}
use Rattle.commands.specs.Parts.{Part, needs, carries, opens, sets_rate, acknowledges, through, each}
use Rattle.flop_base.specs.declared.answers.Status.TheVariants as status
use Rattle.floppy_jobs.specs.declared.request.Request.TheVariants as request
use Rattle.sector_model.specs.declared.reply.Reply.TheVariants as reply
use Rattle.sector_model.specs.declared.reply.Stop.TheVariants as stop

asked_or_starved : (asked : Form) (old new : World) (course : List Taken) (ended : Status)
    → DoesOrStarves asked old course new ended → Runs (DoesForm asked) old new ended ⊎ (ended ≡ status.NoMemory)
asked_or_starved asked old new course ended (AsAsked does) = inl (record { course = course; does = does })
asked_or_starved asked old new course ended (StarvesWords nothing idle) = inr idle.status

-- the subcommand was done, or memory for its arguments ran out
pub form_done : (asked : Form) (old : Board) (spares : List DriveCounts) (before : Outside) (new : Board) (after : Outside) (ended : Status)
    → (over : RunsOver (Some asked) old spares before new after ended)
    → Runs (DoesForm asked) (world over.start before.files before.report) (world over.last after.files after.report) ended ⊎ (ended ≡ status.NoMemory)
form_done asked old spares before new after ended over =
    asked_or_starved asked (world over.start before.files before.report) (world over.last after.files after.report) over.runs.course ended over.runs.does

-- the subcommand was done, if the status is 0
pub form_well : (asked : Form) (old : Board) (spares : List DriveCounts) (before : Outside) (new : Board) (after : Outside)
    → (over : RunsOver (Some asked) old spares before new after status.AllOk)
    → Runs (DoesForm asked) (world over.start before.files before.report) (world over.last after.files after.report) status.AllOk
form_well asked old spares before new after over = elim (form_done asked old spares before new after status.AllOk over) [
  | inl runs ↦ runs
  | inr starved ↦ absurd cc
]

-- the subcommand was done, if its status is one of the end
pub asked_whole : (asked : Form) (old new : World) (course : List Taken) (ended : Status) → IsEndStatus ended → DoesOrStarves asked old course new ended
    → DoesForm asked old course new ended
asked_whole asked old new course ended whole (AsAsked does) = does
asked_whole asked old new course ended whole (StarvesWords nothing idle) = absurd (subst IsEndStatus idle.status whole)

-- the worlds before and after a run over a machine, and the course between them
module _ {asked : Form} {spares : List DriveCounts} {old new : Stand} {ended : Status} (ran : RanOver (Some asked) spares old new ended) where
  abbrev pub world_before : World
  world_before = world ran.runs.start old.outside.outside.files old.outside.outside.report

  abbrev pub world_after : World
  world_after = world ran.runs.last new.outside.outside.files new.outside.outside.report

  abbrev pub run_course : List Taken
  run_course = ran.runs.runs.course

-- ---- from the boards before and after a run to the counters of its station

module _ (old new : Board) (spares : List DriveCounts) (start last : StationState) (starts : Starts old spares start) (shows : ShowsStation new last) where
  pub faultless_first : HadNoFault 0 old new → IsFaultless 0 start.counters last.counters
  faultless_first calm =
      let began = starts.counts.first.never_falls in
      let is = ap (λ (c : Counters). c.drives.first.faults) shows.counters in
      (omega (arith, began, is, calm.0), omega (arith, is, calm.1))

  pub faultless_second : HadNoFault 1 old new → IsFaultless 1 start.counters last.counters
  faultless_second calm =
      let began = starts.counts.second.never_falls in
      let is = ap (λ (c : Counters). c.drives.second.faults) shows.counters in
      (omega (arith, began, is, calm.0), omega (arith, is, calm.1))

  pub undisturbed_first : HadNoFault 0 old new → HadNoStall old new → IsUndisturbed 0 start.counters last.counters
  undisturbed_first calm quick =
      let began = starts.counts.first.never_falls in
      let is = ap (λ (c : Counters). c.drives.first.faults) shows.counters in
      let stalls = starts.counts.stalls in
      let stalled = ap (λ (c : Counters). c.stalls) shows.counters in
      record {
        faults = omega (arith, is, calm.1);
        stalls = omega (arith, stalled, quick.1);
        together = omega (arith, began, is, calm.0, stalls, stalled, quick.0);
      }

-- a drive with no fault left still has none left later
spent_on : (old new : DriveCounts) → DriveGoesOn old new → old.left ≡ Some 0 → CanTell new.faults new.left → IsSpent new
spent_on old new goes none tells =
    let spends : Spends old.faults (Some 0) new.faults new.left = subst (λ (left : Option ℕ). Spends old.faults left new.faults new.left) none goes.spends in
    let falls = goes.never_falls in
    let rest : spends.0 ≡ 0 = omega (arith, spends.2, falls) in
    let left : new.left ≡ Some 0 = spends.1 ∙ ap (λ (n : ℕ). Some n) rest in
    let below : CanTell new.faults (Some 0) = subst (λ (left : Option ℕ). CanTell new.faults left) left tells in
    record { left = left; below = omega (arith, below) }

spare_spent : (drive : DriveCounts) → drive.left ≡ Some 0 → CanTell drive.faults drive.left → IsSpent drive
spare_spent drive none tells =
    let below : CanTell drive.faults (Some 0) = subst (λ (left : Option ℕ). CanTell drive.faults left) none tells in
    record { left = none; below = omega (arith, below) }

all_spent : (drives : List DriveCounts) → All (λ drive. drive.left ≡ Some 0) drives → All (λ (drive : DriveCounts). CanTell drive.faults drive.left) drives → All IsSpent drives
all_spent drives none tells = λ k other below. spare_spent (get_or drives k other) (none k other below) (tells k other below)

-- how many DMA latencies (holds) are above 8
abbrev long : List ℕ → ℕ
long [] = 0
long (hold ∷ later) = cond (nat_lt 8 hold) (1 + long later) (long later)

pick : (b : Bool) (n : ℕ) → b ≡ false → cond b (1 + n) n ≡ n
pick true n no_longer = absurd cc
pick false n no_longer = refl

none_long : (holds : List ℕ) → All (λ hold. hold ≤ 8) holds → long holds ≡ 0
none_long [] few = refl
none_long (hold ∷ later) few =
    let none = none_long later (λ k other below. few (suc k) other (omega (arith, below))) in
    let one : hold ≤ 8 = few 0 0 (omega arith) in
    pick (nat_lt 8 hold) (long later) (le-ltb 8 hold one) ∙ none

-- if no DMA latency is above 8, no stall can come
no_stalls : (holds : List ℕ) → All (λ hold. hold ≤ 8) holds → stalls_left holds ≡ 0
no_stalls holds few = sym (is_count_by long (λ hold. nat_lt 8 hold) refl (λ hold later. refl) holds) ∙ none_long holds few

pub nothing_left : (old : Board) (spares : List DriveCounts) (start : StationState) → IsFresh start → Starts old spares start → IsSound old spares
    → HasNothingLeft start.counters
nothing_left old spares start fresh starts sound =
    let none = no_stalls (holds_of old).entries sound.holds in
    let never = starts.counts.stalls in
    let spent = starts.counts.stalls_spent in
    record {
      drives = record {
        first = spent_on (counters_of old).drives.first start.counters.drives.first starts.counts.first sound.first fresh.tells.first;
        second = spent_on (counters_of old).drives.second start.counters.drives.second starts.counts.second sound.second fresh.tells.second;
        spares = all_spent start.counters.spares (subst (λ (s : List DriveCounts). All (λ drive. drive.left ≡ Some 0) s) (sym starts.spares_are) sound.spares)
            fresh.tells.spares;
      };
      stalls = omega (arith, none, never, spent);
      stalls_below = fresh.tells.stalls_below;
    }

-- ---- scripts whose status says whether some reply was a refusal

-- the status is 0 or 1, and this holds of whether it is 1; or the outside gave the status
abbrev pub EndsAs : (Bool → Type 0) → Status → Type 0
EndsAs Holds status.AllOk = Holds false
EndsAs Holds status.SomeRefused = Holds true
EndsAs Holds status.NoMemory = Unit {0}
EndsAs Holds status.FileFault = Unit {0}
EndsAs Holds status.SinkFault = Unit {0}
EndsAs Holds _ = ⊥

-- whether the status is 1 says whether some reply was a refusal
abbrev pub SaysRefused : Bool → Bool → Type 0
SaysRefused refused flag = refused ≡ flag

-- the first holds with status 0, the second with status 1
abbrev pub ByFlag : Type 0 → Type 0 → Bool → Type 0
ByFlag Fine Refused false = Fine
ByFlag Fine Refused true = Refused

-- the status says whether some reply was a refusal, or the outside gave it
abbrev pub EndsBy : Bool → Status → Type 0
EndsBy refused ended = EndsAs (SaysRefused refused) ended

-- a request that doesn't put the disk of a file in
abbrev pub NeverInserts : Request → Type 0
NeverInserts asked = (bay : ℕ) (name : List ℕ) → asked ≡ request.Insert bay name → ⊥

-- some step of the request has this answer, and leads to this state
abbrev pub Came : Request → Reply → State → Type 0
Came asked answer after = (old : State) × (told : Option Files) × (files : Option Files) × Step asked old told answer after files

-- on each way through a script to its end, the status says whether some reply was a refusal; `refused` says whether one
-- before was
abbrev pub IsFaithful : Bool → Script → Type 0
IsFaithful refused (Ends line wanted) = wanted ≡ whole_status refused
IsFaithful refused (Says line rest) = IsFaithful refused rest
IsFaithful refused (Asks asked rest) =
    NeverInserts asked × ((answer : Reply) (after : State) → Came asked answer after → IsFaithful (refused || is_refusal answer) (rest answer after))
IsFaithful refused (Stores name bytes line wanted) = wanted ≡ whole_status refused
IsFaithful refused (MayStarve rest) = IsFaithful refused rest
IsFaithful refused (Fails cause) = EndsBy refused cause

module _ (Holds : Bool → Type 0) where
  pub whole_as : (refused : Bool) → Holds refused → EndsAs Holds (whole_status refused)
  whole_as true holds = holds
  whole_as false holds = holds

  pub put_as : (ended : Status) → IsPutFault ended → EndsAs Holds ended
  put_as status.NoMemory fault = tt
  put_as status.SinkFault fault = tt
  put_as _ fault = absurd fault

  store_as : (ended : Status) → IsStoreFault ended → EndsAs Holds ended
  store_as status.NoMemory fault = tt
  store_as status.FileFault fault = tt
  store_as _ fault = absurd fault

  pub stop_as : (cause : Stop) → IsEndStop cause → EndsAs Holds (stop_status cause)
  stop_as stop.FileFault only = tt
  stop_as stop.NoMemory only = tt
  stop_as _ only = absurd only

  pub prints_as : (line : List (List ℕ)) (wanted : Status) (old new : Option (List (List ℕ))) (ended : Status) → Prints line wanted old new ended
      → (ended ≡ wanted → EndsAs Holds wanted) → EndsAs Holds ended
  prints_as line wanted old new ended (Whole is well) by = subst (λ (s : Status). EndsAs Holds s) (sym well) (by well)
  prints_as line wanted old new ended (InPart grows fault) by = put_as ended fault

  -- a statement on statuses that holds of each such status, with the faults of the outside counted
  pub ends_so : (Such : Status → Type 0) (ended : Status) → (Holds false → Such status.AllOk) → (Holds true → Such status.SomeRefused) → Such status.NoMemory
      → (ended ≡ status.FileFault → Such status.FileFault) → (ended ≡ status.SinkFault → Such status.SinkFault) → EndsAs Holds ended → Such ended
  ends_so Such status.AllOk fine refused starved shelf sink ends = fine ends
  ends_so Such status.SomeRefused fine refused starved shelf sink ends = refused ends
  ends_so Such status.NoMemory fine refused starved shelf sink ends = starved
  ends_so Such status.FileFault fine refused starved shelf sink ends = shelf refl
  ends_so Such status.SinkFault fine refused starved shelf sink ends = sink refl
  ends_so Such _ fine refused starved shelf sink ends = absurd ends

told_by : (refused : Bool) (line : List (List ℕ)) (wanted : Status) (old new : Option (List (List ℕ))) (ended : Status) → Prints line wanted old new ended
    → wanted ≡ whole_status refused → EndsBy refused ended
told_by refused line wanted old new ended prints is =
    prints_as (SaysRefused refused) line wanted old new ended prints
    (λ well. subst (λ (s : Status). EndsBy refused s) (sym is) (whole_as (SaysRefused refused) refused refl))

stored_by : (refused : Bool) (name bytes line : List ℕ) (wanted : Status) (old new : World) (ended : Status)
    → StoresLast name bytes line wanted old new ended → wanted ≡ whole_status refused → EndsBy refused ended
stored_by refused name bytes line wanted old new ended (IsStored state files prints) is = told_by refused (line ∷ []) wanted _ _ ended prints is
stored_by refused name bytes line wanted old new ended (NotStored same fault) is = store_as (SaysRefused refused) ended fault

-- only the outside stops a request, unless it is one that puts the disk of a file in
pub loads_stop : (told : Option Files) (asked : Request) (cause : Stop) → StopCause told asked cause
    → ((bay : ℕ) (name : List ℕ) → asked ≡ request.Insert bay name → IsEndStop cause) → IsEndStop cause
loads_stop told asked (stop.BadImage name error) cause loads = loads cause.0.0 name cause.0.1
loads_stop told asked (stop.TooLong name most) cause loads = loads cause.0.0 name cause.0.1
loads_stop told asked (stop.Absent name) cause loads = loads cause.0.0 name cause.0.1
loads_stop told asked _ cause loads = tt

at_end : (refused : Bool) (ended : Status) → EndsBy refused ended → EndsBy (refused || false) ended
at_end refused ended by = subst (λ (b : Bool). EndsBy b ended) (sym (or-false refused)) by

pub script_tells : (refused : Bool) (script : Script) (old new : World) (course : List Taken) (ended : Status) → IsFaithful refused script
    → RunsScript script old course new ended → EndsBy (refused || has_refusal course) ended
script_tells refused (Ends line wanted) old new [] ended is runs = at_end refused ended (told_by refused line wanted _ _ ended runs.report is)
script_tells refused (Says line rest) old new course ended is (inl runs) =
    script_tells refused rest (record old { report = grown old.report (line ∷ []) }) new course ended is runs
script_tells refused (Says line rest) old new course ended is (inr cut) = put_as (SaysRefused (refused || has_refusal course)) ended cut.1.1
script_tells refused (Asks asked rest) old new [] ended is runs =
    at_end refused ended (prints_as (SaysRefused refused) _ _ _ _ ended runs.2 (λ well.
    stop_as (SaysRefused refused) runs.0 (loads_stop old.files asked runs.0 runs.1.cause (λ bay name e. absurd (is.0 bay name e)))))
script_tells refused (Asks asked rest) old new (taken ∷ later) ended is runs =
    subst (λ (b : Bool). EndsBy b ended) (or_assoc refused (is_refusal taken.answer) (has_refusal later))
    (script_tells (refused || is_refusal taken.answer) (rest taken.answer taken.after) (with_report taken.after runs.1 old.report) new later ended
    (is.1 taken.answer taken.after (old.state, old.files, runs.1, runs.2)) runs.3)
script_tells refused (Stores name bytes line wanted) old new [] ended is runs =
    at_end refused ended (stored_by refused name bytes line wanted old new ended runs is)
script_tells refused (MayStarve rest) old new course ended is (inl runs) = script_tells refused rest old new course ended is runs
script_tells refused (MayStarve rest) old new course ended is (inr none) = subst (λ (s : Status). EndsBy (refused || has_refusal course) s) (sym none.2) tt
script_tells refused (Fails cause) old new [] ended is runs = at_end refused ended (subst (λ (s : Status). EndsBy refused s) (sym runs.1) is)
script_tells refused _ old new (taken ∷ later) ended is runs = absurd runs

-- ---- Parts.

pub unrefused : (asked : Request) (answer : Reply) (later : Script) → IsFaithful false later → IsFaithful (false || is_refusal answer) (unless_refused asked answer later)
unrefused asked (reply.Refused cause) later is = refl
unrefused asked _ later is = is

pub needs_tells : (asked : Request) (rest : Reply → State → Script) → NeverInserts asked
    → ((answer : Reply) (after : State) → IsFaithful false (rest answer after)) → IsFaithful false (needs asked rest)
unfolding needs
needs_tells asked rest never is = (never, λ answer after came. unrefused asked answer (rest answer after) (is answer after))

pub some_whole : (refused : Bool) → status.SomeRefused ≡ whole_status (refused || true)
some_whole refused = ap whole_status (sym (or-true refused))

unrefused_at : (refused : Bool) (asked : Request) (answer : Reply) (later : Script) → IsFaithful refused later
    → IsFaithful (refused || is_refusal answer) (unless_refused asked answer later)
unrefused_at refused asked (reply.Refused cause) later is = some_whole refused
unrefused_at refused asked _ later is = subst (λ (b : Bool). IsFaithful b later) (sym (or-false refused)) is

pub carries_tells_at : (refused : Bool) (asked : Request) → NeverInserts asked → (rest : Unit {0} → Script) → IsFaithful refused (rest tt)
    → IsFaithful refused (carries asked rest)
unfolding carries needs
carries_tells_at refused asked never rest is = (never, λ answer after came. unrefused_at refused asked answer (rest tt) is)

-- a part after which a flag of what was found says whether some reply was a refusal
abbrev pub PartTells : {Found : Type 0} → (Found → Bool) → Bool → Part Found → Type 0
PartTells {Found = Found} flag before part =
    (rest : Found → Script) → ((found : Found) → IsFaithful (flag found) (rest found)) → IsFaithful before (part rest)

-- a part that goes on only where nothing was refused
abbrev pub PartEnds : {Found : Type 0} → Part Found → Type 0
PartEnds {Found = Found} part = PartTells {Found = Found} (λ found. false) false part

pub carries_tells : (asked : Request) → NeverInserts asked → PartEnds (carries asked)
unfolding carries
carries_tells asked never rest is = needs_tells asked (λ answer after. rest tt) never (λ answer after. is tt)

pub acknowledges_tells : (bay : ℕ) (rate : Rate) → PartEnds (acknowledges bay rate)
unfolding acknowledges sets_rate
acknowledges_tells bay R500 rest is = carries_tells (request.Ack bay) (λ bay name e. absurd (cc e)) _ is
acknowledges_tells bay R250 rest is =
    carries_tells (request.Ack bay) (λ bay name e. absurd (cc e)) _
    (λ none. carries_tells (request.SetRate bay R250) (λ bay name e. absurd (cc e)) rest is)

pub each_tells : {Found : Type 0} (flag : Found → Bool) (part : ℕ → Found → Part Found)
    → ((i : ℕ) (found : Found) → PartTells flag (flag found) (part i found)) → (a count : ℕ) (found : Found)
    → PartTells flag (flag found) (each a count part found)
unfolding each through
each_tells flag part is a zero found rest ends = ends found
each_tells flag part is a (suc count) found rest ends =
    is a found (λ now. each (a + 1) count part now rest) (λ now. each_tells flag part is (a + 1) count now rest ends)

pub tracks_tell : {Found : Type 0} (flag : Found → Bool) (part : ℕ → ℕ → Found → Part Found)
    → ((c h : ℕ) (found : Found) → PartTells flag (flag found) (part c h found)) → (cylinders heads : ℕ) (found : Found)
    → PartTells flag (flag found) (by_track cylinders heads part found)
tracks_tell flag part is cylinders heads found =
    each_tells flag (λ c. each 0 heads (part c)) (λ c now. each_tells flag (part c) (is c) 0 heads now) 0 cylinders found

-- ---- The disk of a file is put in, and that file is there.

pub opens_tells : (name : List ℕ) (rest : Shape → Script) (files : Files) (disk : Disk) (old new : World) (course : List Taken) (ended : Status)
    → old.files ≡ Some files → IsImageOf (Some files) name disk → ((shape : Shape) → IsFaithful false (rest shape))
    → RunsScript (opens name rest) old course new ended → EndsBy (has_refusal course) ended
unfolding opens needs
opens_tells name rest files disk old new [] ended told image is runs =
    let stops = subst (λ (f : Option Files). StopsAt (request.Insert 0 name) old.state f runs.0 new.state new.files) told runs.1 in
    prints_as (SaysRefused false) _ _ _ _ ended runs.2
    (λ well. stop_as (SaysRefused false) runs.0 (insert_stops 0 name files disk old.state new.state new.files runs.0 image stops))
opens_tells name rest files disk old new (taken ∷ later) ended told image is runs =
    let left = rest (shape_at taken.after 0) in
    script_tells (false || is_refusal taken.answer) (unless_refused (request.Insert 0 name) taken.answer left) (with_report taken.after runs.1 old.report)
    new later ended (unrefused (request.Insert 0 name) taken.answer left (is (shape_at taken.after 0))) runs.3
