-- Device steps of a command that is executed, in which neither line changes.
use Rattle.std.proofs.Common.{◌≡◌, inl, inr, ℕ, zero, suc, ◌+◌, ◌-◌, ◌%◌, ◌≤◌, min, nat_lt, Bool, true, false, ◌&&◌, ◌||◌, ◌==◌, not, if◌then◌else◌, Option, Some, None, is_some, refl, sym, ap, subst, ◌∙◌, arith}
use Rattle.std.specs.Option.{option_map_or}
use Rattle.fdc_sequencer.proofs.Common.{eqb-true, false≢true, true≢false, DriveState, SeekState, ended, has_ended_seek, neighbour, pulse_due, pulse_of, pulses_ahead, pulses_from, recalibrated, sought, stepped, stepped_seek, with_motion, with_polls, ending_of_phase, Phase, Execute, Result, HoldsLines, Works, PassesWordTime, is_executing, is_held, Moves, MovesIn, RestsIn, Stays, polled, seek_stepped, ending_told, mark_of, results_of_phase, Fdc, nothing_foreseen, AdapterState, drive_at, selected_at, heads_at, steps_ahead, Front, asks_at, interrupts_at, results_at, FollowsStep, IsUnderWay, MovesOn, SeeksOn, StepsFront, is_unwanted, judged_if, passed_over_if, ForeseesAt, ForeseesBehind, GoesAlong, GoesAlongFor, IsInCommand, IsLongestAt, IsQuietAt, IsQuietBehind, drive_selected, executes_at, seeks_at, FrontStage, Through, Seeking, Transfer}
use Rattle.std.proofs.lemmas.Bool.Decides.{nat_tests}
use Rattle.fdc_registers.specs.declared.drive_lines.Dor.{Dor}
use Rattle.fdc_commands.specs.declared.motion.Motion.{Motion}
use Rattle.fdc_commands.specs.declared.motion.Motion.TheVariants.{Outward, Toward, Ended}
use Rattle.fdc_commands.specs.declared.motion.Seek.{Seek as DriveSeek}
use Rattle.fdc_phases.specs.declared.answers.Answer.TheVariants.{Long}
use Rattle.fdc_core.specs.Quiet.{Foresees, IsLongest, IsQuietBy, WorksBy}
use Rattle.fdc_sequencer.specs.Quiet.{StepsFrontBy}
use Rattle.fdc_sequencer.proofs.Runs.{executing_goes}

-- ---- no device step

pub lasts_none : (front : Front) → GoesAlongFor 0 front
lasts_none front n new some within steps = absurd (omega (arith, some, within))

foresees_at : (stage : FrontStage) (count : ℕ) (adapter : AdapterState) → Foresees count adapter.controller (drive_selected adapter) → ForeseesAt stage count adapter
foresees_at (Seeking transfer counted) count adapter foresees = tt
foresees_at _ count adapter foresees = foresees

-- what is foreseen of the controller is foreseen of the front
pub foresees_behind : (count : ℕ) (front : Front) → Foresees count front.adapter.controller (drive_selected front.adapter) → ForeseesBehind count front
foresees_behind count front foresees = foresees_at front.stage count front.adapter foresees

pub foresees_none : (front : Front) → ForeseesBehind 0 front
foresees_none front = foresees_behind 0 front (nothing_foreseen front.adapter.controller (drive_selected front.adapter))

-- how large the number is while heads go to a command's cylinder
pub longest_seek : (stage : FrontStage) (most count : ℕ) (adapter : AdapterState) → seeks_at stage ≡ true → (is_executing adapter.controller.phase ≡ false → count ≡ min most (steps_ahead adapter)) → IsLongestAt stage most count adapter
longest_seek (Seeking transfer counted) most count adapter seeks is = is
longest_seek _ most count adapter seeks is = absurd (false≢true seeks)

-- how large the number is while a command is executed
pub longest_command : (stage : FrontStage) (most count : ℕ) (adapter : AdapterState) → seeks_at stage ≡ false
    → (executes_at stage adapter.controller ≡ true → selected_at adapter ≤ 1 → IsLongest most count adapter.controller (drive_selected adapter)) → IsLongestAt stage most count adapter
longest_command (Seeking transfer counted) most count adapter rests is = absurd (true≢false rests)
longest_command _ most count adapter rests is = is

-- ---- the controller's own command goes on

-- after a device step in which the controller's command goes on nothing is done, and all is as before outside
record Holds (front : Front) : Type 0 where
  none : (mark : Option Bool) (old new : Front) → old.stage ≡ front.stage → HoldsLines front.adapter.controller old.adapter.controller
      → FollowsStep mark old.stage old new → new ≡ old
  along : (new : Front) → new.stage ≡ front.stage → HoldsLines front.adapter.controller new.adapter.controller → GoesAlong front new

-- a command that hasn't ended has no results
none_waits : (phase : Phase) → ending_of_phase phase ≡ None → results_of_phase phase ≡ None
none_waits (Result (Long ending results key)) none = absurd (true≢false (ap is_some none))
none_waits _ none = refl

through_holds : (front : Front) → front.stage ≡ Through → is_executing front.adapter.controller.phase ≡ true → Holds front
through_holds front through executing = record {
  none = λ mark old new at lines follows. subst (λ stage. FollowsStep mark stage old new) (at ∙ through) follows;
  along = λ new at lines. record {
    stage = at;
    interrupt = ap (λ stage. interrupts_at stage new.adapter.controller) (at ∙ through)
        ∙ (lines.interrupt ∙ sym (ap (λ stage. interrupts_at stage front.adapter.controller) through));
    request = ap (λ stage. asks_at stage new.adapter.controller) (at ∙ through)
        ∙ (lines.request ∙ sym (ap (λ stage. asks_at stage front.adapter.controller) through));
    results = ap (λ stage. results_at stage new.adapter.controller) (at ∙ through)
        ∙ none_waits new.adapter.controller.phase (lines.ended ∙ executing_goes front.adapter.controller.phase executing);
  };
}

moving_none : (front : Front) (under : IsUnderWay front) (mark : Option Bool) (old new : Front) → old.stage ≡ front.stage
    → HoldsLines front.adapter.controller old.adapter.controller → FollowsStep mark old.stage old new → new ≡ old
moving_none front under mark old new at lines follows =
    let moving = under.moving in
    let fdc = old.adapter.controller in
    let moves : MovesOn mark (judged_if moving (ending_told fdc)) moving old new = subst (λ stage. FollowsStep mark stage old new) (at ∙ under.at) follows in
    let on : MovesOn mark None moving old new = subst (λ ending. MovesOn mark (judged_if moving ending) moving old new) (lines.ended ∙ under.goes) moves in
    on ∙ ap (λ unwanted. passed_over_if unwanted moving old) (ap (is_unwanted moving) lines.mark ∙ under.wanted)

moving_holds : (front : Front) → IsUnderWay front → Holds front
moving_holds front under = record {
  none = moving_none front under;
  along = λ new at lines. record {
    stage = at;
    interrupt = ap (λ stage. interrupts_at stage new.adapter.controller) (at ∙ under.at)
        ∙ sym (ap (λ stage. interrupts_at stage front.adapter.controller) under.at);
    request = ap (λ stage. asks_at stage new.adapter.controller) (at ∙ under.at)
        ∙ (ap (λ b. nat_lt 0 under.moving.left && b) lines.request ∙ sym (ap (λ stage. asks_at stage front.adapter.controller) under.at));
    results = ap (λ stage. results_at stage new.adapter.controller) (at ∙ under.at);
  };
}

command_holds : (front : Front) → IsInCommand front → Holds front
command_holds front is = elim is [
  | inl through ↦ through_holds front through.0 through.1
  | inr under ↦ moving_holds front under
]

-- ---- the selected drive's device steps

works_at : (selected : ℕ) (old new : AdapterState) → selected ≤ 1
    → PassesWordTime selected old.controller old.first old.second new.controller new.first new.second
    → Works old.controller (drive_at old selected) new.controller (drive_at new selected)
works_at zero old new few passes = (passes.at_first refl).0
works_at (suc zero) old new few passes = (passes.at_second refl).0
works_at (suc (suc n)) old new few passes = absurd (omega (arith, few))

-- so many device steps of the front are as many of the controller with the selected drive
record IsAlong (count selected : ℕ) (front new : Front) : Type 0 where
  stage : new.stage ≡ front.stage
  selects : selected_at new.adapter ≡ selected
  works : WorksBy count front.adapter.controller (drive_at front.adapter selected) new.adapter.controller (drive_at new.adapter selected)

steps_along : (n selected : ℕ) (front new : Front) → selected_at front.adapter ≡ selected → selected ≤ 1 → Holds front
    → IsQuietBy n front.adapter.controller (drive_at front.adapter selected) → StepsFrontBy n front new → IsAlong n selected front new
unfolding WorksBy StepsFrontBy
steps_along zero selected front new at few holds quiet is = record {
  stage = ap (λ (f : Front). f.stage) is;
  selects = ap (λ (f : Front). selected_at f.adapter) is ∙ at;
  works = (ap (λ (f : Front). f.adapter.controller) is, ap (λ (f : Front). drive_at f.adapter selected) is);
}
steps_along (suc n) selected front new at few holds quiet (between, steps, step) =
    let fdc = front.adapter.controller in
    let drive = drive_at front.adapter selected in
    let old = between.adapter in
    let mid = step.between in
    let before = steps_along n selected front between at few holds (λ count now after most by. quiet count now after (omega (arith, most)) by) steps in
    let passes = subst (λ s. PassesWordTime s old.controller old.first old.second mid.controller mid.first mid.second) before.selects step.steps in
    let works = works_at selected old mid few passes in
    let by : WorksBy (suc n) fdc drive mid.controller (drive_at mid selected) = (old.controller, drive_at old selected, before.works, works) in
    let lines = quiet (suc n) mid.controller (drive_at mid selected) (omega arith) by in
    let is : new ≡ record between { adapter = mid } = holds.none (mark_of old.controller) (record between { adapter = mid }) new before.stage lines step.follows in
    record {
      stage = ap (λ (f : Front). f.stage) is ∙ before.stage;
      selects = ap (λ (f : Front). selected_at f.adapter) is ∙ (ap (λ (dor : Dor). dor.0 % 4) works.stays.dor ∙ before.selects);
      works = subst (λ (a : AdapterState). WorksBy (suc n) fdc drive a.controller (drive_at a selected)) (sym (ap (λ (f : Front). f.adapter) is)) by;
    }

command_goes : (most : ℕ) (front : Front) → Holds front → selected_at front.adapter ≤ 1
    → IsQuietBy most front.adapter.controller (drive_selected front.adapter) → GoesAlongFor most front
command_goes most front holds few quiet n new some within steps =
    let selected = selected_at front.adapter in
    let along = steps_along n selected front new refl few holds (λ count now after less by. quiet count now after (omega (arith, less, within)) by) steps in
    holds.along new along.stage (quiet n new.adapter.controller (drive_at new.adapter selected) within along.works)

quiet_at : (stage : FrontStage) (count : ℕ) (adapter : AdapterState) → seeks_at stage ≡ false → IsQuietAt stage count adapter
    → IsQuietBy count adapter.controller (drive_selected adapter)
quiet_at (Seeking transfer counted) count adapter none quiet = absurd (true≢false none)
quiet_at _ count adapter none quiet = quiet

-- the drive that DOR selects is one of two, or nothing is said
some_selected : (selected : ℕ) (b : Bool) → nat_lt selected 2 ≡ b → (b ≡ true → selected ≤ 1) × (b ≡ false → 2 ≤ selected)
some_selected selected true is = (λ same. grind (arith, nat_tests, is), λ not. absurd (true≢false not))
some_selected selected false is = (λ not. absurd (false≢true not), λ same. grind (arith, nat_tests, is))

pub command_lasts : (count : ℕ) (front : Front) → seeks_at front.stage ≡ false → IsInCommand front → (2 ≤ selected_at front.adapter → count ≡ 0)
    → IsQuietBehind count front → GoesAlongFor count front
command_lasts count front none command absent quiet = by_selected (nat_lt (selected_at front.adapter) 2) refl
  where
    by_selected : (b : Bool) → nat_lt (selected_at front.adapter) 2 ≡ b → GoesAlongFor count front
    by_selected true is =
        command_goes count front (command_holds front command) ((some_selected (selected_at front.adapter) true is).0 refl) (quiet_at front.stage count front.adapter none quiet)
    by_selected false is =
        subst (λ n. GoesAlongFor n front) (sym (absent ((some_selected (selected_at front.adapter) false is).1 refl))) (lasts_none front)

-- ---- a seek in a device step

-- the seek goes on, and surely gives so many pulses more
abbrev GivesOn : ℕ → ℕ → SeekState → Type 0
GivesOn left heads seeks = (left ≤ pulses_ahead heads seeks) × (has_ended_seek seeks ≡ false)

-- a RECALIBRATE brings the heads no more than one cylinder outward
abbrev IsNear : ℕ → ℕ → Option DriveSeek → Type 0
IsNear here next seek = (drive pulses : ℕ) → seek ≡ Some (record { drive = drive; motion = Outward pulses }) → here ≤ next + 1

one_nearer : (from target : ℕ) (b : Bool) → nat_lt from target ≡ b → (from == target) ≡ false
    → (from - target) + (target - from) ≤ ((if b then from + 1 else from - 1) - target) + (target - (if b then from + 1 else from - 1)) + 1
one_nearer from target true is differs = grind (arith, nat_tests)
one_nearer from target false is differs = grind (arith, nat_tests)

none_outward : (here pulses : ℕ) → ((here == 0) || (pulses == 0)) ≡ true → min pulses here ≡ 0
none_outward here pulses last = by_zero (here == 0) refl last
  where
    by_zero : (b : Bool) → (here == 0) ≡ b → (b || (pulses == 0)) ≡ true → min pulses here ≡ 0
    by_zero true none last = let is = eqb-true here 0 none in omega (arith, is)
    by_zero false some last = let is = eqb-true pulses 0 last in omega (arith, is)

one_fewer : (left all less : ℕ) → all ≤ less + 1 → suc left ≤ all → left ≤ less
one_fewer left all less fewer many = omega (arith, fewer, many)

motion_goes : (left here next drive : ℕ) (motion : Motion) (old : SeekState) → ((pulses : ℕ) → motion ≡ Outward pulses → here ≤ next + 1)
    → suc left ≤ pulses_from here motion → GivesOn left next (stepped_seek old drive motion (here == 0))
motion_goes left here next drive (Outward pulses) old near many = by_last ((here == 0) || (pulses == 0)) refl
  where
    by_last : (b : Bool) → ((here == 0) || (pulses == 0)) ≡ b
        → GivesOn left next (if b then ended old drive 0 (recalibrated drive (here == 0)) else with_motion old drive (Outward (pulses - 1)))
    by_last true last = let none = none_outward here pulses last in absurd (omega (arith, none, many))
    by_last false last = let close = near pulses refl in (omega (arith, close, many), refl)
motion_goes left here next drive (Toward from target) old near many = by_there (from == target) refl
  where
    by_there : (b : Bool) → (from == target) ≡ b
        → GivesOn left next (if b then ended old drive target (sought drive) else with_motion old drive (Toward (neighbour from target) target))
    by_there true there = let same = eqb-true from target there in absurd (omega (arith, same, many))
    by_there false there =
        let fewer : (from - target) + (target - from) ≤ (neighbour from target - target) + (target - neighbour from target) + 1 = one_nearer from target (nat_lt from target) refl there in
        (one_fewer left ((from - target) + (target - from)) _ fewer many, refl)
motion_goes left here next drive Ended old near many = absurd (omega (arith, many))

seek_goes : (left here next : ℕ) (seek : Option DriveSeek) (old : SeekState) → IsNear here next seek
    → suc left ≤ option_map_or (λ (d : DriveSeek). pulses_from here d.motion) seek 0
    → GivesOn left next (option_map_or (λ (d : DriveSeek). stepped_seek old d.drive d.motion (here == 0)) seek old)
seek_goes left here next None old near many = absurd (omega (arith, many))
seek_goes left here next (Some seek) old near many =
    motion_goes left here next seek.drive seek.motion old
    (λ pulses is. near seek.drive pulses (ap (λ m. Some (record seek { motion = m })) is)) many

-- ---- the controller in a device step

polled_phase : (old : Fdc) → (polled old).phase ≡ old.phase
polled_phase old = by_poll (old.poll_due && not (is_held old))
  where
    by_poll : (b : Bool) → (if b then record old { poll_due = false; interrupt = true; seeks = with_polls old.seeks } else old).phase ≡ old.phase
    by_poll true = refl
    by_poll false = refl

-- a poll leaves the seek as it is
polled_seek : (old : Fdc) → (polled old).seeks.seek ≡ old.seeks.seek
polled_seek old = by_poll (old.poll_due && not (is_held old))
  where
    by_poll : (b : Bool) → (if b then record old { poll_due = false; interrupt = true; seeks = with_polls old.seeks } else old).seeks.seek ≡ old.seeks.seek
    by_poll true = refl
    by_poll false = refl

only_rests : (phase : Phase) (track0 : Bool) (polls new : Fdc) → is_executing phase ≡ false → RestsIn phase track0 polls new → new ≡ seek_stepped track0 polls
only_rests (Execute execution) track0 polls new idle rests = absurd (true≢false idle)
only_rests _ track0 polls new idle rests = rests

only_moves : (phase : Phase) (fdc : Fdc) (before after : DriveState) → is_executing phase ≡ false → MovesIn phase fdc before after
    → Moves (pulse_due fdc.seeks (before.cylinder == 0)) before after
only_moves (Execute execution) fdc before after idle moves = absurd (true≢false idle)
only_moves _ fdc before after idle moves = moves

-- a pulse outward moves the heads by one cylinder at most
outward_near : (b : Bool) (before after : DriveState) → Moves (if b then None else Some false) before after → before.cylinder ≤ after.cylinder + 1
outward_near true before after is = subst (λ c. before.cylinder ≤ c + 1) (sym (ap (λ (s : DriveState). s.cylinder) is)) (omega arith)
outward_near false before after (between, pulses, is) =
    subst (λ c. before.cylinder ≤ c + 1) (sym (ap (λ (s : DriveState). s.cylinder) is)) (elim pulses [
      | inl moved ↦ subst (λ c. before.cylinder ≤ c + 1) (sym (ap (λ (s : DriveState). s.cylinder) moved.becomes)) (omega arith)
      | inr lost ↦ subst (λ c. before.cylinder ≤ c + 1) (sym (ap (λ (s : DriveState). s.cylinder) lost.0.becomes)) (omega arith)
    ])

-- ---- the adapter in a device step

-- nothing is executed, and the seek surely goes on for so many device steps
record OnlySeeks (left : ℕ) (adapter : AdapterState) : Type 0 where
  idle : is_executing adapter.controller.phase ≡ false
  within : left ≤ steps_ahead adapter

-- what a device step leaves of it
record SeeksYet (left : ℕ) (new : AdapterState) : Type 0 where
  only : OnlySeeks left new
  goes : has_ended_seek new.controller.seeks ≡ false

-- the controller's seek, whatever drive there is
seeks_yet : (left here next : ℕ) (old new : AdapterState) → OnlySeeks (suc left) old → heads_at old ≡ here → heads_at new ≡ next
    → IsNear here next (polled old.controller).seeks.seek → new.controller ≡ seek_stepped (here == 0) (polled old.controller) → SeeksYet left new
seeks_yet left here next old new was at_old at_new near is =
    let polls = polled old.controller in
    let seeks : new.controller.seeks ≡ stepped polls.seeks (here == 0) = ap (λ (f : Fdc). f.seeks) is in
    let same : pulses_ahead (heads_at old) old.controller.seeks ≡ pulses_ahead here polls.seeks =
    ap (λ h. pulses_ahead h old.controller.seeks) at_old ∙ ap (λ (s : Option DriveSeek). option_map_or (λ (d : DriveSeek). pulses_from here d.motion) s 0) (sym (polled_seek old.controller)) in
    let many : suc left ≤ pulses_ahead here polls.seeks = subst (λ n. suc left ≤ n) same was.within in
    let (ahead, goes) = seek_goes left here next polls.seeks.seek polls.seeks near many in
    record {
      only = record {
        idle = ap (λ (f : Fdc). is_executing f.phase) is ∙ (ap is_executing (polled_phase old.controller) ∙ was.idle);
        within = subst (λ h. left ≤ pulses_ahead h new.controller.seeks) (sym at_new) (subst (λ s. left ≤ pulses_ahead next s) (sym seeks) ahead);
      };
      goes = ap has_ended_seek seeks ∙ goes;
    }

drive_seeks : (left : ℕ) (old new : AdapterState) (before after : DriveState) → OnlySeeks (suc left) old
    → heads_at old ≡ before.cylinder → heads_at new ≡ after.cylinder → Works old.controller before new.controller after → SeeksYet left new
drive_seeks left old new before after was at_old at_new works =
    let polls = polled old.controller in
    let idle : is_executing polls.phase ≡ false = ap is_executing (polled_phase old.controller) ∙ was.idle in
    let moves = only_moves polls.phase polls before after idle works.drive in
    let near : IsNear before.cylinder after.cylinder polls.seeks.seek = λ drive pulses is.
    let pulse : pulse_due polls.seeks (before.cylinder == 0) ≡ pulse_of (Outward pulses) (before.cylinder == 0) = ap (λ (s : Option DriveSeek). option_map_or (λ (d : DriveSeek). pulse_of d.motion (before.cylinder == 0)) s None) is in
    outward_near ((before.cylinder == 0) || (pulses == 0)) before after (subst (λ p. Moves p before after) pulse moves) in
    seeks_yet left before.cylinder after.cylinder old new was at_old at_new near (only_rests polls.phase (before.cylinder == 0) polls new.controller idle works.rests)

abbrev heads_by : AdapterState → ℕ → ℕ
heads_by adapter selected = if selected == 0 then adapter.first.cylinder else (if selected == 1 then adapter.second.cylinder else 255)

-- an absent drive's heads never come to cylinder 0
heads_none : (adapter : AdapterState) (selected : ℕ) → 2 ≤ selected → heads_by adapter selected ≡ 255
heads_none adapter selected many =
    let not_first : (selected == 0) ≡ false = grind (arith, nat_tests) in
    let not_second : (selected == 1) ≡ false = grind (arith, nat_tests) in
    ap (λ b. if b then adapter.first.cylinder else (if selected == 1 then adapter.second.cylinder else 255)) not_first
    ∙ ap (λ b. if b then adapter.second.cylinder else 255) not_second

same_selected : (old new : AdapterState) → Stays old.controller new.controller → selected_at new ≡ selected_at old
same_selected old new stays = ap (λ (dor : Dor). dor.0 % 4) stays.dor

adapter_seeks : (selected left : ℕ) (old new : AdapterState) → selected_at old ≡ selected
    → PassesWordTime selected old.controller old.first old.second new.controller new.first new.second → OnlySeeks (suc left) old → SeeksYet left new
adapter_seeks zero left old new at passes was =
    let works = (passes.at_first refl).0 in
    drive_seeks left old new old.first new.first was (ap (heads_by old) at) (ap (heads_by new) (same_selected old new works.stays ∙ at)) works
adapter_seeks (suc zero) left old new at passes was =
    let works = (passes.at_second refl).0 in
    drive_seeks left old new old.second new.second was (ap (heads_by old) at) (ap (heads_by new) (same_selected old new works.stays ∙ at)) works
adapter_seeks (suc (suc n)) left old new at passes was =
    let many : 2 ≤ suc (suc n) = omega arith in
    let works = (passes.at_none many).0 in
    let polls = polled old.controller in
    let idle : is_executing polls.phase ≡ false = ap is_executing (polled_phase old.controller) ∙ was.idle in
    let at_new = ap (heads_by new) (same_selected old new works.stays ∙ at) ∙ heads_none new (suc (suc n)) many in
    seeks_yet left 255 255 old new was (ap (heads_by old) at ∙ heads_none old (suc (suc n)) many) at_new
    (λ drive pulses is. omega arith) (only_rests polls.phase false polls new.controller idle works.rests)

-- ---- the front while heads go to a command's cylinder

record StillSeeks (left : ℕ) (transfer : Transfer) (counted : Bool) (front : Front) : Type 0 where
  at : front.stage ≡ Seeking transfer counted
  only : OnlySeeks left front.adapter

front_seeks : (left : ℕ) (transfer : Transfer) (counted : Bool) (old new : Front) → StillSeeks (suc left) transfer counted old → StepsFront old new
    → StillSeeks left transfer counted new
front_seeks left transfer counted old new was step =
    let mid : Front = record old { adapter = step.between } in
    let yet = adapter_seeks (selected_at old.adapter) left old.adapter step.between refl step.steps was.only in
    let follows : SeeksOn (has_ended_seek step.between.controller.seeks) transfer counted mid new =
    subst (λ stage. FollowsStep (mark_of old.adapter.controller) stage mid new) was.at step.follows in
    let is : new ≡ mid = subst (λ over. SeeksOn over transfer counted mid new) yet.goes follows in
    subst (StillSeeks left transfer counted) (sym is) (record { at = was.at; only = yet.only })

seeks_on : (n left : ℕ) (transfer : Transfer) (counted : Bool) (old new : Front) → StillSeeks (left + n) transfer counted old → StepsFrontBy n old new
    → StillSeeks left transfer counted new
unfolding StepsFrontBy
seeks_on zero left transfer counted old new was is =
    let same : left + 0 ≡ left = omega arith in
    subst (StillSeeks left transfer counted) (sym is) (subst (λ n. StillSeeks n transfer counted old) same was)
seeks_on (suc n) left transfer counted old new was (between, steps, step) =
    let same : left + suc n ≡ suc left + n = omega arith in
    front_seeks left transfer counted between new (seeks_on n (suc left) transfer counted old between (subst (λ m. StillSeeks m transfer counted old) same was) steps) step

still_seeks_lasts : (count : ℕ) (transfer : Transfer) (counted : Bool) (front : Front) → StillSeeks count transfer counted front → GoesAlongFor count front
still_seeks_lasts count transfer counted front was n new some within steps =
    let few : StillSeeks (0 + n) transfer counted front = record { at = was.at; only = record { idle = was.only.idle; within = few_within was.only.within } } in
    let on = seeks_on n 0 transfer counted front new few steps in
    record {
      stage = on.at ∙ sym was.at;
      interrupt = ap (λ stage. interrupts_at stage new.adapter.controller) on.at ∙ sym (ap (λ stage. interrupts_at stage front.adapter.controller) was.at);
      request = ap (λ stage. asks_at stage new.adapter.controller) on.at ∙ sym (ap (λ stage. asks_at stage front.adapter.controller) was.at);
      results = ap (λ stage. results_at stage new.adapter.controller) on.at;
    }
  where
    few_within : count ≤ steps_ahead front.adapter → 0 + n ≤ steps_ahead front.adapter
    few_within all = omega (arith, all, within)

seek_lasts_at : (stage : FrontStage) (count : ℕ) (front : Front) → front.stage ≡ stage → seeks_at stage ≡ true
    → OnlySeeks count front.adapter → GoesAlongFor count front
seek_lasts_at (Seeking transfer counted) count front at seeks only = still_seeks_lasts count transfer counted front (record { at = at; only = only })
seek_lasts_at _ count front at seeks only = absurd (false≢true seeks)

-- as long as the seek surely goes on, nothing changes outside
pub seek_lasts : (count : ℕ) (front : Front) → is_executing front.adapter.controller.phase ≡ false → count ≤ steps_ahead front.adapter
    → seeks_at front.stage ≡ true → GoesAlongFor count front
seek_lasts count front idle most seeks = seek_lasts_at front.stage count front refl seeks (record { idle = idle; within = most })
