-- A write over a medium that stays in, through a device step: the sector goes on, or it is over. Then the next one
-- begins, or results are given.
use Rattle.std.proofs.Common.{◌≡◌, inl, inr, ℕ, zero, suc, ◌≤◌, ◌==◌, Bool, true, false, not, ◌&&◌, if◌then◌else◌, Option, Some, None, List, [], ◌∷◌, ◌++◌, length, refl, sym, ◌∙◌, ap, subst, arith}
use Rattle.laws_chip.proofs.Common.{and_parts, false≢true, Disk, IsSizeCode, has_ended_seek, is_begun, Results, Past, new_past, Ending, Done, told_in, head_of, Phase, Execute, Result, Works, is_executing, is_taking, takes_in, is_held, polled, WordTime, IsTime, after_time, ending_told, given_up, given_up_if, is_idle, mark_of, without_seek, MayWrite, Fdc, AdapterState, StepsAdapter, drive_at, selected_at, Front, begun_if, moving_of, told_if, with_controller, EndsIf, EndsSector, FollowsStep, MovesOn, SeeksOn, StepsFront, goes_on, has_met_other, is_unwanted, judged_if, passed_over_if, results_behind, results_failed, is_other, is_skipping, next_of, size_of, Operation, Write, MovingSector, FrontStage, Through, Seeking, Moving, Telling, Transfer, Grows, Steps, IsClean, AreMoved, History, IsMoved, IsTimeOf, MayMove, Part, Passes, PassesAt, Serves, ServesAt, StopsAtEnd, bytes_moved, history_ended, history_moved, history_sought, history_stepped, sector_after, sent_of, AreWritten, HasWindow, IsOverCylinder, IsOverCylinderWhile, Taking as Command, front_judged as judged, MediumPlace as Place, SectorCallsCall as Call, SectorCallsDoes as Does}
use Rattle.laws_chip.proofs.Called.{call_serves, idle_medium, idle_rests}
use Rattle.laws_chip.proofs.Courses.{sector_more, sector_opcode, written_whole}
use Rattle.laws_chip.proofs.Known.{BadGoes, KnownOn, MarkGoes, polled_rate, time_counted, time_taken, which_drive}
use Rattle.laws_chip.proofs.Marks.{mark_then}
use Rattle.laws_chip.proofs.Served.{known_moves, still_busy}
use Rattle.laws_chip.proofs.WrittenWords.{HasLeft, IsAtSector, IsCleanAt, IsLike, SectorOver, ended_has, ended_idle, sector_begins, sector_over, sector_told, timed_in}

-- ---- what is known of the write

abbrev pub here_of : Transfer → History → Transfer
here_of first history = sector_after (length history.parts) first

-- a sector is under way, over the disk that those before it left
pub record IsUnderway (place : Place) (deleted : Bool) (first : Transfer) (history : History) (adapter : AdapterState) : Type 0 where
  pub disk : Disk
  pub like : IsLike place disk
  pub parts : AreWritten place deleted history.parts place.disk disk
  pub sector : IsAtSector place (here_of first history) disk history.past true (drive_at adapter place.bay)

-- the controller executes nothing, and this disk is in
pub record IsResting (place : Place) (disk : Disk) (adapter : AdapterState) : Type 0 where
  pub medium : (drive_at adapter place.bay).medium ≡ Some disk
  pub idle : is_executing adapter.controller.phase ≡ false

-- the last sector is over
pub record IsOver (place : Place) (deleted : Bool) (first : Transfer) (history : History) (adapter : AdapterState) : Type 0 where
  pub disk : Disk
  pub now : Disk
  pub parts : AreWritten place deleted history.parts place.disk disk
  pub left : HasLeft place deleted (here_of first history) history.past disk now
  pub rests : IsResting place now adapter

abbrev pub NowWritten : FrontStage → Place → Bool → Transfer → History → AdapterState → Type 0
NowWritten (Seeking at counted) place deleted first history adapter = (at ≡ first) × (history.parts ≡ []) × IsResting place place.disk adapter
NowWritten (Moving moving) place deleted first history adapter = (moving.transfer ≡ here_of first history) × IsUnderway place deleted first history adapter
NowWritten (Telling results) place deleted first history adapter = IsOver place deleted first history adapter
NowWritten _ place deleted first history adapter = ⊥

-- ---- the sectors that are over

pub written_more : (place : Place) (deleted : Bool) (parts : List Part) (part : Part) (disk between now : Disk) → AreWritten place deleted parts disk between → HasWindow place deleted part.at part.past.taken between now
    → AreWritten place deleted (parts ++ part ∷ []) disk now
written_more place deleted [] part disk between now were one = (now, subst (λ d. HasWindow place deleted part.at part.past.taken d now) were one, refl)
written_more place deleted (other ∷ parts) part disk between now (mid, is, were) one = (mid, is, written_more place deleted parts part mid between now were one)

last_moved : (operation : Operation) (from : Transfer) (parts : List Part) (part : Part) → AreMoved operation from (parts ++ part ∷ []) → IsMoved operation part
last_moved operation from [] part (here, is, rest) = is
last_moved operation from (other ∷ parts) part (here, is, rest) = last_moved operation (next_of from) parts part rest

-- ---- the drives of an adapter

-- the selected drive makes the device step
pub bay_works : (bay : ℕ) (old new : AdapterState) → bay ≤ 1 → selected_at old ≡ bay → StepsAdapter old new → Works old.controller (drive_at old bay) new.controller (drive_at new bay)
bay_works zero old new few at steps = (steps.at_first at).0
bay_works (suc zero) old new few at steps = (steps.at_second at).0
bay_works (suc (suc bay)) old new few at steps = absurd (omega (arith, few))

bay_passes : (bay head : ℕ) (time : WordTime) (old new : AdapterState) → bay ≤ 1 → selected_at old ≡ bay → IsTime time old.controller.rate head (drive_at old bay) (drive_at new bay) × StopsAtEnd time new.controller
    → PassesAt (selected_at old) head time old new
bay_passes zero head time old new few at is =
    record { at_first = λ same. is; at_second = λ other. absurd (omega (arith, at, other)); at_none = λ more. absurd (omega (arith, at, more)) }
bay_passes (suc zero) head time old new few at is =
    record { at_first = λ other. absurd (omega (arith, at, other)); at_second = λ same. is; at_none = λ more. absurd (omega (arith, at, more)) }
bay_passes (suc (suc bay)) head time old new few at is = absurd (omega (arith, few))

pub same_drives : (bay : ℕ) (old new : AdapterState) → new.first ≡ old.first → new.second ≡ old.second → drive_at new bay ≡ drive_at old bay
same_drives bay old new one two = by_bay (bay == 0)
  where
    by_bay : (b : Bool) → (if b then new.first else new.second) ≡ (if b then old.first else old.second)
    by_bay true = one
    by_bay false = two

told_drive : (counted : Bool) (bay : ℕ) (adapter : AdapterState) → drive_at (told_if counted adapter) bay ≡ drive_at adapter bay
told_drive true bay adapter = refl
told_drive false bay adapter = refl

same_media : (bay : ℕ) (old new : AdapterState) → new.first.medium ≡ old.first.medium → new.second.medium ≡ old.second.medium → (drive_at new bay).medium ≡ (drive_at old bay).medium
same_media bay old new one two = by_bay (bay == 0)
  where
    by_bay : (b : Bool) → (if b then new.first else new.second).medium ≡ (if b then old.first else old.second).medium
    by_bay true = one
    by_bay false = two

-- while the controller executes nothing no medium changes
step_rests : (place : Place) (disk : Disk) (old new : AdapterState) → StepsAdapter old new → IsResting place disk old → IsResting place disk new
step_rests place disk old new steps rests = elim (which_drive (selected_at old)) [
  | inl at ↦ let (works, passes) = steps.at_first at in
      record {
        medium = same_media place.bay old new (idle_medium old.controller new.controller old.first new.first rests.idle works) (ap (λ s. s.medium) passes) ∙ rests.medium;
        idle = idle_rests (old.first.cylinder == 0) old.controller new.controller rests.idle works.rests;
      }
  | inr (inl at) ↦ let (works, passes) = steps.at_second at in
      record {
        medium = same_media place.bay old new (ap (λ s. s.medium) passes) (idle_medium old.controller new.controller old.second new.second rests.idle works) ∙ rests.medium;
        idle = idle_rests (old.second.cylinder == 0) old.controller new.controller rests.idle works.rests;
      }
  | inr (inr at) ↦ let (works, first_passes, second_passes) = steps.at_none at in
      record {
        medium = same_media place.bay old new (ap (λ s. s.medium) first_passes) (ap (λ s. s.medium) second_passes) ∙ rests.medium;
        idle = idle_rests false old.controller new.controller rests.idle works.rests;
      }
]

pub idle_phase : (fdc : Fdc) → is_idle fdc ≡ true → is_executing fdc.phase ≡ false
idle_phase fdc idle = by_phase fdc.phase (and_parts (is_taking fdc) (not (is_begun fdc.command)) idle).0
  where
    by_phase : (phase : Phase) → takes_in phase (is_held fdc) ≡ true → is_executing phase ≡ false
    by_phase Command taking = refl
    by_phase (Result answer) taking = refl
    by_phase (Execute execution) taking = absurd (false≢true taking)

given_up_rests : (fdc : Fdc) (ending : Ending) → ending_told fdc ≡ Some ending → is_executing (given_up fdc).phase ≡ false
given_up_rests fdc ending is = ap (λ e. is_executing (given_up_if e fdc).phase) is

-- no field is passed over
never_unwanted : (deleted : Bool) (moving : MovingSector) (mark : Option Bool) → moving.transfer.opcode.operation ≡ Write deleted → is_unwanted moving mark ≡ false
never_unwanted deleted moving None is = refl
never_unwanted deleted moving (Some marked) is = ap (λ o. is_skipping o && (is_other o marked && (moving.left == size_of moving.transfer.key.n))) is

-- ---- one call

-- after a call the command is served, with what the call adds, and this is known of the write
pub record OneWritten (place : Place) (deleted : Bool) (first : Transfer) (call : Call) (was : History) (old new : Front) (does : Does call old new) : Type 0 where
  pub history : History
  pub grows : Grows call old new does was history
  pub serves : Serves first history new
  pub now : NowWritten new.stage place deleted first history new.adapter

module _ (place : Place) (deleted : Bool) (first : Transfer) (writes : first.opcode.operation ≡ Write deleted) where
  abbrev IsNow : History → Front → Type 0
  IsNow history front = NowWritten front.stage place deleted first history front.adapter

  pub to_moving : (history : History) (moving : MovingSector) (new : Front) → new.stage ≡ Moving moving → moving.transfer ≡ here_of first history → IsUnderway place deleted first history new.adapter → IsNow history new
  to_moving history moving new is here underway = subst (λ stage. NowWritten stage place deleted first history new.adapter) (sym is) (here, underway)

  pub to_telling : (history : History) (results : Results) (new : Front) → new.stage ≡ Telling results → IsOver place deleted first history new.adapter → IsNow history new
  to_telling history results new is over = subst (λ stage. NowWritten stage place deleted first history new.adapter) (sym is) over

  pub at_new : (moving : MovingSector) (new : Front) → new.stage ≡ Moving moving → IsOverCylinderWhile new.stage place new → IsOverCylinder place new
  at_new moving new is at = subst (λ stage. IsOverCylinderWhile stage place new) is at

  -- ---- a device step of a sector

  module _ (history : History) (moving : MovingSector) (old : Front) (between : AdapterState) (new : Front) (now : Past) (disk : Disk) (like : IsLike place disk) (parts : AreWritten place deleted history.parts place.disk disk)
      (here : moving.transfer ≡ here_of first history) (may : MayWrite now (sent_of moving.transfer) deleted between.controller)
      (sector : IsAtSector place moving.transfer disk now (is_executing between.controller.phase) (drive_at between place.bay)) (stage_is : old.stage ≡ Moving moving) (same : moving.transfer.opcode.operation ≡ Write deleted)
      (stays : new.stage ≡ Through → ⊥) (at : IsOverCylinderWhile new.stage place new) where
    abbrev fronted : Front
    fronted = record old { adapter = between }

    -- the sector goes on
    goes_now : (b : Bool) → b ≡ false → ending_told between.controller ≡ None → new ≡ passed_over_if b moving fronted → IsNow (record history { past = told_in b now }) new
    goes_now true wanted none is = absurd (false≢true (sym wanted))
    goes_now false wanted none is =
        let busy = still_busy (Write deleted) now (sent_of moving.transfer) between.controller may none in
        to_moving (record history { past = now }) moving new (ap (λ front. front.stage) is ∙ stage_is) here
        (subst (λ front. IsUnderway place deleted first (record history { past = now }) front.adapter) (sym is) (record {
          disk = disk;
          like = like;
          parts = parts;
          sector = subst (λ a. IsAtSector place a disk now true (drive_at between place.bay)) here (subst (λ b. IsAtSector place moving.transfer disk now b (drive_at between place.bay)) busy sector);
        }))

    -- the sector is over
    module _ (told : Ending) (ended : ending_told between.controller ≡ Some told) where
      over_at : (front : Front) → drive_at front.adapter place.bay ≡ drive_at between place.bay → IsClean place front → SectorOver place deleted moving.transfer now disk (drive_at between place.bay)
      over_at front drive clean =
          sector_over place moving.transfer deleted disk now (drive_at between place.bay) like
          (subst (λ b. IsAtSector place moving.transfer disk now b (drive_at between place.bay)) (ended_idle between.controller.phase told ended) sector)
          (subst (IsCleanAt place) drive clean)
          (ended_has now (sent_of moving.transfer) deleted between.controller.phase between.controller.asking between.controller.fifo told ended may)

      tells_now : (results : Results) → new ≡ record fronted { adapter = with_controller (given_up between.controller) between; stage = Telling results } → IsNow (record history { past = now }) new
      tells_now results is =
          let stage_now = ap (λ f. f.stage) is in
          let drive = ap (λ f. drive_at f.adapter place.bay) is in
          let over = over_at new drive (subst (λ stage. IsOverCylinderWhile stage place new) stage_now at) in
          to_telling (record history { past = now }) results new stage_now (record {
            disk = disk;
            now = over.now;
            parts = parts;
            left = subst (λ a. HasLeft place deleted a now disk over.now) here over.left;
            rests = record { medium = ap (λ d. d.medium) drive ∙ over.medium; idle = ap (λ f. is_executing f.adapter.controller.phase) is ∙ given_up_rests between.controller told ended };
          })

      begins_now : (marked passed_over executing : Bool) (then_adapter : AdapterState) (begun_from : Front) → drive_at then_adapter place.bay ≡ drive_at between place.bay
          → new ≡ begun_if executing (next_of moving.transfer) false passed_over then_adapter begun_from → Serves first (history_ended true moving.transfer marked now history) new
          → IsNow (history_ended true moving.transfer marked now history) new
      begins_now marked passed_over false then_adapter begun_from drives is serves = absurd (stays (ap (λ front. front.stage) is))
      begins_now marked passed_over true then_adapter begun_from drives is serves =
          let part : Part = record { at = moving.transfer; past = now; marked = marked } in
          let next = moving_of (next_of moving.transfer) false passed_over in
          let then_history = history_ended true moving.transfer marked now history in
          let stage_now = ap (λ front. front.stage) is in
          let placed = at_new next new stage_now at in
          let drive : drive_at new.adapter place.bay ≡ drive_at between place.bay = ap (λ front. drive_at front.adapter place.bay) is ∙ drives in
          let over = over_at new drive placed.clean in
          let moved : IsMoved (Write deleted) part = subst (λ o. IsMoved o part) writes (last_moved first.opcode.operation first history.parts part serves.parts) in
          to_moving then_history next new stage_now (ap next_of here ∙ sym (sector_more first history.parts part)) (record {
            disk = over.now;
            like = over.like;
            parts = written_more place deleted history.parts part place.disk disk over.now parts (over.left.whole now.taken (written_whole deleted part moved).field);
            sector = sector_begins place (here_of first then_history) over.now new placed (ap (λ d. d.medium) drive ∙ over.medium) over.like;
          })

      ends_if : (b marked : Bool) → Serves first (history_ended b moving.transfer marked now history) new → EndsIf b moving marked (record fronted { adapter = with_controller (given_up between.controller) between }) new
          → IsNow (history_ended b moving.transfer marked now history) new
      ends_if true marked serves begins =
          begins_now marked (has_met_other moving marked) (is_executing begins.between.controller.phase) begins.between (record fronted { adapter = with_controller (given_up between.controller) between })
          (same_drives place.bay between begins.between begins.takes.first begins.takes.second) begins.begun serves
      ends_if false marked serves is = tells_now (results_behind moving marked) is

    -- the sector ends, as the front judges it
    ends_now : (was : Option Bool) (ending : Ending) (mark : Option Bool) (told : Ending) → ending_told between.controller ≡ Some told → Serves first (history_moved (Some ending) moving mark now history) new
        → EndsSector was moving ending (record fronted { adapter = with_controller (given_up between.controller) between }) new → IsNow (history_moved (Some ending) moving mark now history) new
    ends_now was (Done marked) mark told ended serves ends = ends_if told ended (goes_on moving marked) marked serves ends
    ends_now was ending mark told ended serves ends = tells_now told ended (results_failed was moving ending) ends

    moves_now : (was : Option Bool) (ending : Option Ending) → ending_told between.controller ≡ ending → Serves first (history_moved (judged_if moving ending) moving (mark_of between.controller) now history) new
        → MovesOn was (judged_if moving ending) moving fronted new → IsNow (history_moved (judged_if moving ending) moving (mark_of between.controller) now history) new
    moves_now was None none serves does =
        goes_now (is_unwanted moving (mark_of between.controller)) (never_unwanted deleted moving (mark_of between.controller) same) none does
    moves_now was (Some ending) ended serves does = ends_now was (judged moving ending) (mark_of between.controller) ending ended serves does

  moving_step : (history : History) (moving : MovingSector) (old new : Front) (step : StepsFront old new) → old.stage ≡ Moving moving → IsSizeCode first.key.n → AreMoved first.opcode.operation first history.parts
      → ServesAt (Moving moving) first history old.adapter.controller → NowWritten (Moving moving) place deleted first history old.adapter → IsOverCylinder place old → (new.stage ≡ Through → ⊥) → IsOverCylinderWhile new.stage place new
      → OneWritten place deleted first Steps history old new step
  moving_step history moving old new step stage_is sized were (here, counts, carries) (there, underway) placed stays at =
      let operation = first.opcode.operation in
      let between = step.between in
      let fdc = old.adapter.controller in
      let works = bay_works place.bay old.adapter between placed.bay placed.selects step.steps in
      let may : MayWrite history.past (sent_of moving.transfer) deleted fdc = subst (λ o. MayMove o history.past (sent_of moving.transfer) fdc) writes carries.moves in
      let timed = timed_in place moving.transfer deleted underway.disk history.past (drive_at old.adapter place.bay) (drive_at between place.bay) (polled fdc) between.controller fdc.asking fdc.fifo underway.like.valid
      (polled_rate fdc ∙ placed.rate)
      (subst (λ a. IsAtSector place a underway.disk history.past true (drive_at old.adapter place.bay)) (sym there) underway.sector) fdc.phase carries.busy may works.writes in
      let now = after_time timed.time history.past in
      let known : KnownOn operation history.past (sent_of moving.transfer) (mark_of fdc) (λ _. Unit {0}) between.controller = record {
        time = timed.time;
        is = tt;
        bytes = subst (λ o. bytes_moved o now ≡ bytes_moved o history.past) (sym writes) (time_taken timed.time history.past);
        counted = time_counted timed.time history.past;
        moves = subst (λ o. MayMove o now (sent_of moving.transfer) between.controller) (sym writes) timed.may;
        marks = subst (λ o. MarkGoes o (bytes_moved o history.past) (mark_of fdc) (mark_then (mark_of fdc) between.controller.phase)) (sym writes) tt;
        bad = subst (λ o. BadGoes o now moving.transfer.key (mark_of fdc) between.controller) (sym writes) tt;
      } in
      let follows : MovesOn (mark_of old.adapter.controller) (judged_if moving (ending_told between.controller)) moving (record old { adapter = between }) new = subst (λ stage. FollowsStep (mark_of old.adapter.controller) stage (record old { adapter = between }) new) stage_is step.follows in
      let same : moving.transfer.opcode.operation ≡ Write deleted = ap (λ opcode. opcode.operation) (ap (λ a. a.opcode) here ∙ sector_opcode (length history.parts) first) ∙ writes in
      let then_history = history_moved (judged_if moving (ending_told between.controller)) moving (mark_of between.controller) now history in
      let passed : PassesAt (selected_at old.adapter) (head_of moving.transfer.head_drive) timed.time old.adapter between =
      bay_passes place.bay (head_of moving.transfer.head_drive) timed.time old.adapter between placed.bay placed.selects
      (subst (λ r. IsTime timed.time r (head_of moving.transfer.head_drive) (drive_at old.adapter place.bay) (drive_at between place.bay)) (sym placed.rate) timed.is, timed.stops) in
      let on = known_moves first history.parts history.past history.counted moving sized were here counts old between new (λ _. Unit {0}) stage_is carries step.steps known follows in
      record {
        history = then_history;
        grows = (
          timed.time,
          subst (λ stage. Passes stage timed.time old.adapter between) (sym stage_is) (subst (λ o. IsTimeOf o timed.time) (sym same) tt, passed),
          subst (λ stage. then_history ≡ history_stepped stage timed.time between.controller history) (sym stage_is) refl,
        );
        serves = on.2;
        now = moves_now history moving old between new now underway.disk underway.like underway.parts here timed.may timed.sector stage_is same stays at (mark_of old.adapter.controller) (ending_told between.controller) refl on.2 follows;
      }

  -- ---- ---- while the heads seek, and while results are given

  seeks_now : (b : Bool) (target : Transfer) (counted : Bool) (history : History) (old new : Front) → old.stage ≡ Seeking target counted → target ≡ first → history.parts ≡ [] → IsResting place place.disk old.adapter
      → (new.stage ≡ Through → ⊥) → IsOverCylinderWhile new.stage place new → SeeksOn b target counted old new → IsNow (history_sought b counted history) new
  seeks_now false target counted history old new stage_is here none rests stays at does =
      subst (λ front. IsNow history front) (sym does) (subst (λ stage. NowWritten stage place deleted first history old.adapter) (sym stage_is) (here, none, rests))
  seeks_now true target counted history old new stage_is here none rests stays at begins = by_busy (is_executing begins.between.controller.phase) begins.begun
    where
      by_busy : (b : Bool) → new ≡ begun_if b target counted false begins.between (record old { adapter = with_controller (without_seek old.adapter.controller) old.adapter })
          → IsNow (record history { past = told_in counted new_past }) new
      by_busy false is = absurd (stays (ap (λ front. front.stage) is))
      by_busy true is =
          let then_history : History = record history { past = told_in counted new_past } in
          let moving = moving_of target counted false in
          let stage_now = ap (λ front. front.stage) is in
          let placed = at_new moving new stage_now at in
          let drive : drive_at new.adapter place.bay ≡ drive_at old.adapter place.bay =
          ap (λ front. drive_at front.adapter place.bay) is ∙ (told_drive counted place.bay begins.between ∙ same_drives place.bay old.adapter begins.between begins.takes.first begins.takes.second) in
          let like : IsLike place place.disk = record { valid = placed.disk; words = refl } in
          to_moving then_history moving new stage_now (here ∙ sym (ap (λ p. sector_after (length p) first) none)) (record {
            disk = place.disk;
            like = like;
            parts = subst (λ p. AreWritten place deleted p place.disk place.disk) (sym none) refl;
            sector = sector_told place (here_of first then_history) place.disk new_past true (drive_at new.adapter place.bay) counted
                (sector_begins place (here_of first then_history) place.disk new placed (ap (λ d. d.medium) drive ∙ rests.medium) like);
          })

  pub over_rests : (history : History) (old new : AdapterState) (over : IsOver place deleted first history old) → IsResting place over.now new → IsOver place deleted first history new
  over_rests history old new over rests = record { disk = over.disk; now = over.now; parts = over.parts; left = over.left; rests = rests }

  pub step_writes : (stage : FrontStage) (history : History) (old new : Front) (step : StepsFront old new) → old.stage ≡ stage → Serves first history old → NowWritten stage place deleted first history old.adapter
      → IsOverCylinderWhile stage place old → (new.stage ≡ Through → ⊥) → IsOverCylinderWhile new.stage place new → OneWritten place deleted first Steps history old new step
  step_writes Through history old new step stage_is serves now placed stays at = absurd now
  step_writes (Seeking target counted) history old new step stage_is serves (here, none, rests) placed stays at =
      let one = call_serves Steps first history old new step stays serves in
      let (time, passes, is) = one.grows in
      let grown : one.history ≡ history_sought (has_ended_seek step.between.controller.seeks) counted history = subst (λ stage. one.history ≡ history_stepped stage time step.between.controller history) stage_is is in
      record {
        history = one.history;
        grows = one.grows;
        serves = one.serves;
        now = subst (λ h. IsNow h new) (sym grown)
            (seeks_now (has_ended_seek step.between.controller.seeks) target counted history (record old { adapter = step.between }) new stage_is here none
            (step_rests place place.disk old.adapter step.between step.steps rests) stays at
            (subst (λ stage. FollowsStep (mark_of old.adapter.controller) stage (record old { adapter = step.between }) new) stage_is step.follows));
      }
  step_writes (Moving moving) history old new step stage_is serves now placed stays at =
      moving_step history moving old new step stage_is serves.sized serves.parts (subst (λ stage. ServesAt stage first history old.adapter.controller) stage_is serves.now) now placed stays at
  step_writes (Telling results) history old new step stage_is serves over placed stays at =
      let one = call_serves Steps first history old new step stays serves in
      let (time, passes, is) = one.grows in
      let grown : one.history ≡ history = subst (λ stage. one.history ≡ history_stepped stage time step.between.controller history) stage_is is in
      let follows : new ≡ record old { adapter = step.between } = subst (λ stage. FollowsStep (mark_of old.adapter.controller) stage (record old { adapter = step.between }) new) stage_is step.follows in
      record {
        history = one.history;
        grows = one.grows;
        serves = one.serves;
        now = subst (λ h. IsNow h new) (sym grown) (to_telling history results new (ap (λ front. front.stage) follows ∙ stage_is)
            (subst (λ front. IsOver place deleted first history front.adapter) (sym follows)
            (over_rests history old.adapter step.between over (step_rests place over.now old.adapter step.between step.steps over.rests))));
      }
