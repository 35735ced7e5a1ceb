-- A READ TRACK ends: it looks for the index, and each sector that it reads leaves one fewer.
use Rattle.std.proofs.Common.{◌≡◌, inl, inr, ℕ, zero, suc, ◌+◌, ◌-◌, ◌*◌, ◌%◌, ◌<◌, ◌≤◌, Bool, true, false, not, ◌&&◌, ◌||◌, ◌==◌, if◌then◌else◌, Option, Some, None, is_some, option_map, List, [], ◌∷◌, bit_and, refl, sym, ◌∙◌, ap, subst, arith}
use Rattle.laws_chip.proofs.Common.{eqb-false, false≢true, Chrn, missing_mark, overrun, Results, IsInRange, Front, GivesTransfer, ReadsSector, results_outside, results_taken, sector_alone, StepsFront, is_last, transfer_with, Read, Transfer, HasRecords, most_steps, ChipState, with_front, Obeys, TransfersIf, absent_key, implies, is_size, reading_one, track_begun, transfer_sent, with_last, EndsAddress, EndsAddressIf, EndsAt, EndsAs, EndsData, EndsIndex, LooksOn, ReadsOn, is_over, judged, met_key, sector_met, without_one, Follows, StepsChip, ReadTrack, Order, Place, Index, Address, Data, Busy, ChipTask, Track, IsFreeBehind, Call, Does, is_step, steps_in, steps_of, AreTracked, most_track_steps, IsBusyAt, IsSound, ServesBehind, has_command, core_steps_left as steps_left}
use Rattle.laws_chip.proofs.Lasted.{Lasts, call_lasts, calls_last, field_lasts, first_lasts, lasts_some}
use Rattle.laws_chip.proofs.CommandsBegun.{sought_sent}
use Rattle.laws_chip.proofs.SinglesLast.{left_most, left_some, step_fewer, makes_single, steps_less}
use Rattle.laws_chip.proofs.SoundCalls.{call_sound}
use Rattle.laws_chip.proofs.SoundParts.{busy_at, serves_step, tells_shown}
use Rattle.laws_chip.proofs.UnderWay.{clash, either_way, not_through, Stands, stands_free, first_begins}
use Rattle.laws_chip.proofs.VerifiesLast.{IsWithin, makes_within}
use Rattle.laws_chip.proofs.NextStages.{Makes, call_stays, is_change}
use Rattle.laws_chip.specs.SectorCalls as behind
use Rattle.laws_chip.specs.SectorLasting as lasting
use Rattle.fdc_chip.specs.declared.stage.ChipTask.TheVariants as task
use Rattle.laws_chip.specs.Calls as made

-- ---- how many device steps are left

-- the device steps left at each place: the search for the index and all sectors; READ ID, its sector and those after
-- it; or a sector and those after it
abbrev pub LeavesAt : Place → ℕ → ℕ → Front → Type 0
LeavesAt Index n left front = (here : ℕ) × Lasts here front × (here + 131328 * left ≤ n)
LeavesAt Address n left front = steps_left front.adapter.controller.phase + (65792 + 131328 * left) ≤ n + 131328
LeavesAt Data n left front = (here : ℕ) × Lasts here front × (here + 131328 * left ≤ n + 131328)

pub record Leaves (n : ℕ) (chip : ChipState) : Type 0 where
  pub track : Track
  pub at : chip.stage ≡ Busy (task.Track track)
  pub some : 1 ≤ track.left
  pub leaves : LeavesAt track.place n track.left chip.front

-- a device step was made, and so many device steps are left
abbrev SpentAt : Place → ℕ → ℕ → Type 0
SpentAt Index n left = 131328 * left ≤ n - 1
SpentAt Address n left = 65792 + 131328 * left ≤ n - 1 + 131328
SpentAt Data n left = 131328 * left ≤ n - 1 + 131328

index_spent : (here n left : ℕ) → 1 ≤ here → here + 131328 * left ≤ n → 131328 * left ≤ n - 1
index_spent here n left one few = omega arith

address_spent : (here n left : ℕ) → 1 ≤ here → 1 ≤ left → here + (65792 + 131328 * left) ≤ n + 131328 → 65792 + 131328 * left ≤ n - 1 + 131328
address_spent here n left one some few = omega arith

data_spent : (here n left : ℕ) → 1 ≤ here → 1 ≤ left → here + 131328 * left ≤ n + 131328 → 131328 * left ≤ n - 1 + 131328
data_spent here n left one some few = omega arith

-- while a sector is served at least one device step is left
pub some_here : (here : ℕ) (front : Front) → ServesBehind front → Lasts here front → 1 ≤ here
some_here here front serves lasts = lasts_some here front.stage serves.first serves.history front.adapter.controller serves.serves.now lasts serves.under_way

spent_at : (place : Place) (n left : ℕ) (front : Front) → IsBusyAt place front → 1 ≤ left → LeavesAt place n left front → SpentAt place n left
spent_at Index n left front serves some (here, lasts, few) = index_spent here n left (some_here here front serves lasts) few
spent_at Address n left front executes some few =
    let phase = front.adapter.controller.phase in address_spent (steps_left phase) n left (left_some phase executes.executes executes.counted) some few
spent_at Data n left front serves some (here, lasts, few) = data_spent here n left (some_here here front serves lasts) some few

-- ---- ---- the command goes on

index_on : (here n left : ℕ) → 1 ≤ here → here + 131328 * left ≤ n → here - 1 + 131328 * left ≤ n - 1
index_on here n left one few = omega arith

address_on : (now was n left : ℕ) → now < was → 1 ≤ left → was + (65792 + 131328 * left) ≤ n + 131328 → now + (65792 + 131328 * left) ≤ n - 1 + 131328
address_on now was n left fewer some few = omega arith

data_on : (here n left : ℕ) → 1 ≤ here → 1 ≤ left → here + 131328 * left ≤ n + 131328 → here - 1 + 131328 * left ≤ n - 1 + 131328
data_on here n left one some few = omega arith

-- the front's device step, after which no results wait
module _ (old between : Front) (step : StepsFront old between) (none : old.adapter.controller.command ≡ []) (clear : old.adapter.controller.non_dma ≡ false) (silent : results_outside between ≡ None) where
  serves_on : (here : ℕ) → ServesBehind old → Lasts here old → Lasts (here - 1) between
  serves_on here was lasts = elim (serves_step old between step none clear was).0 [
    | inl still ↦ call_lasts behind.Steps here was.first was.history old between step (not_through between still.under_way) was.serves lasts
    | inr tells ↦ absurd (false≢true (sym (ap is_some silent) ∙ ap is_some (tells_shown between tells)))
  ]

  leaves_on : (place : Place) (n left : ℕ) → IsBusyAt place old → 1 ≤ left → LeavesAt place n left old → LeavesAt place (n - 1) left between
  leaves_on Index n left was some (here, lasts, few) = (here - 1, serves_on here was lasts, index_on here n left (some_here here old was lasts) few)
  leaves_on Address n left was some few =
      address_on (steps_left between.adapter.controller.phase) (steps_left old.adapter.controller.phase) n left (step_fewer old between step was) some few
  leaves_on Data n left was some (here, lasts, few) = (here - 1, serves_on here was lasts, data_on here n left (some_here here old was lasts) some few)

-- ---- ---- the sequencer is given a sector

abbrev one_of : Bool → ℕ → Chrn → ℕ → ℕ → Transfer
one_of seeks unit key gap length = transfer_with seeks (record { operation = Read false false; multitrack = false }) unit key key.r gap length

-- the command for it is of one sector
same_record : (r : ℕ) → r + 256 - r ≡ 256
same_record r = omega arith

one_sector : (seeks : Bool) (unit : ℕ) (key : Chrn) (gap length : ℕ) → most_steps (one_of seeks unit key gap length) ≡ 65792
one_sector seeks unit key gap length = ap (λ (n : ℕ). 256 + 65536 * ((n % 256 + 1) + 0)) (same_record key.r)

-- no sector comes after it
same_number : (n : ℕ) → (n == n) ≡ true
same_number n = either_way (n == n) (λ same. same) (λ other. absurd (eqb-false n n other refl))

one_records : (seeks : Bool) (unit : ℕ) (key : Chrn) (gap length : ℕ) → HasRecords (one_of seeks unit key gap length)
one_records seeks unit key gap length = λ more. clash (is_last (one_of seeks unit key gap length)) more (ap (λ b. b && true) (same_number key.r))

-- the first sector, for which a seek may be implied
first_sector : (seeks : Bool) (key : Chrn) (order : Order) (set new : Front) → Stands set → is_size key.n ≡ true → GivesTransfer (transfer_sent seeks (reading_one key order)) set new → IsInRange new.adapter.controller → Lasts 65792 new
first_sector seeks key order set new stands sized gives range =
    let first = transfer_sent seeks (reading_one key order) in
    let (begins, carried, starts) = first_begins first set new stands sized gives in
    subst (λ n. Lasts n new) (one_sector seeks order.unit key order.gap order.length) (first_lasts first begins.start new begins.begins (one_records seeks order.unit key order.gap order.length) range)

-- a sector whose address field has just passed
field_sector_lasts : (unit : ℕ) (key : Chrn) (set new : Front) → ReadsSector (sector_alone unit key) set new → Lasts 65792 new
field_sector_lasts unit key set new reads =
    subst (λ n. Lasts n new) (one_sector false unit key 0 0) (field_lasts (sector_alone unit key) set new (one_records false unit key 0 0) reads)

-- ---- what comes of results

looks_left : (steps n left : ℕ) → steps ≤ 65536 → 131328 * left ≤ n - 1 → steps + (65792 + 131328 * left) ≤ n - 1 + 131328
looks_left steps n left few spent = omega arith

-- READ ID looks for the next address field
looks_leave : (n : ℕ) (track : Track) (old new : ChipState) → 1 ≤ track.left → 131328 * track.left ≤ n - 1 → LooksOn track old new → Leaves (n - 1) new
looks_leave n track old new some spent (gives, rest) =
    let phase = new.front.adapter.controller.phase in
    record {
      track = record track { place = Address };
      at = ap (λ (chip : ChipState). chip.stage) rest;
      some = some;
      leaves = looks_left (steps_left phase) n track.left (left_most phase) spent;
    }

-- the sector of the address field is read
reads_leave : (n : ℕ) (track : Track) (key : Chrn) (old new : ChipState) → 1 ≤ track.left → SpentAt Address n track.left → ReadsOn track key old new → Leaves (n - 1) new
reads_leave n track key old new some spent (reads, rest) = record {
  track = met_key key track;
  at = ap (λ (chip : ChipState). chip.stage) rest;
  some = some;
  leaves = (65792, field_sector_lasts track.unit (sector_met key track) old.front new.front reads, spent);
}

-- a command that gives its results is no longer under way
told_none : {A : Type 0} (new : ChipState) → has_command new.stage ≡ true → has_command new.stage ≡ false → A
told_none new works told = clash (has_command new.stage) told works

index_leaves : (b : Bool) (n : ℕ) (track : Track) (old new : ChipState) → 1 ≤ track.left → SpentAt Index n track.left → has_command new.stage ≡ true → EndsIndex b track old new → Leaves (n - 1) new
index_leaves true n track old new some spent works is = told_none new works (ap (λ (chip : ChipState). has_command chip.stage) is)
index_leaves false n track old new some spent works looks = looks_leave n track old new some spent looks

met_leaves : (b : Bool) (n : ℕ) (results : Results) (track : Track) (old new : ChipState) → 1 ≤ track.left → SpentAt Address n track.left → has_command new.stage ≡ true → EndsAddressIf b results track old new → Leaves (n - 1) new
met_leaves true n results track old new some spent works reads = reads_leave n track results.key old new some spent reads
met_leaves false n results track old new some spent works is = told_none new works (ap (λ (chip : ChipState). has_command chip.stage) is)

address_leaves : (b : Bool) (n : ℕ) (results : Results) (track : Track) (old new : ChipState) → 1 ≤ track.left → SpentAt Address n track.left → has_command new.stage ≡ true → EndsAddress b results track old new → Leaves (n - 1) new
address_leaves true n results track old new some spent works is = told_none new works (ap (λ (chip : ChipState). has_command chip.stage) is)
address_leaves false n results track old new some spent works ends = met_leaves ((results.st1.0 == 0) && is_size track.key.n) n results track old new some spent works ends

-- the sector was one of those that were left, and it isn't the last
one_fewer : (n left : ℕ) → 1 ≤ left → 131328 * left ≤ n - 1 + 131328 → 131328 * (left - 1) ≤ n - 1
one_fewer n left some spent = omega arith

positive : (n : ℕ) → (n ≡ 0 → ⊥) → 1 ≤ n
positive zero some = absurd (some refl)
positive (suc n) some = omega arith

not_last : (counted last overran : Bool) → ((counted || last) || overran) ≡ false → last ≡ false
not_last false false overran on = refl
not_last _ _ overran on = absurd (false≢true (sym on))

data_leaves : (b : Bool) (n : ℕ) (results : Results) (track : Track) (old new : ChipState) → 1 ≤ track.left → SpentAt Data n track.left → has_command new.stage ≡ true → is_over results (without_one results track) ≡ b
    → EndsData b (without_one results track) old new → Leaves (n - 1) new
data_leaves true n results track old new some spent works over is = told_none new works (ap (λ (chip : ChipState). has_command chip.stage) is)
data_leaves false n results track old new some spent works over looks =
    let more = not_last track.counted (track.left - 1 == 0) (not (bit_and results.st1.0 overrun == 0)) over in
    looks_leave n (without_one results track) old new (positive (track.left - 1) (eqb-false (track.left - 1) 0 more)) (one_fewer n track.left some spent) looks

-- ---- a device step

place_leaves : (place : Place) (n : ℕ) (track : Track) (results : Results) (old new : ChipState) → 1 ≤ track.left → SpentAt place n track.left → has_command new.stage ≡ true → EndsAt place track results old new → Leaves (n - 1) new
place_leaves Index n track results old new some spent works ends = index_leaves (not (bit_and results.st1.0 missing_mark == 0)) n track old new some spent works ends
place_leaves Address n track results old new some spent works ends = address_leaves track.counted n results track old new some spent works ends
place_leaves Data n track results old new some spent works ends = data_leaves (is_over results (without_one results track)) n results track old new some spent works refl ends

step_leaves : (n : ℕ) (old new : ChipState) → IsSound old → Leaves n old → StepsChip old new → has_command new.stage ≡ true → Leaves (n - 1) new
step_leaves n old new sound was step works =
    by_end (results_outside step.between) refl (subst (λ stage. Follows stage set new) was.at step.follows)
  where
    set : ChipState
    set = with_front step.between old

    busy : IsBusyAt was.track.place old.front
    busy = busy_at old (task.Track was.track) was.at sound

    by_end : (waiting : Option Results) → results_outside step.between ≡ waiting → EndsAs (option_map (judged set) waiting) (task.Track was.track) set new → Leaves (n - 1) new
    by_end (Some results) waits ends =
        place_leaves was.track.place n was.track (judged set results) (with_front (results_taken step.between) set) new was.some
        (spent_at was.track.place n was.track.left old.front busy was.some was.leaves) works ends
    by_end None silent is = subst (Leaves (n - 1)) (sym is) (record {
      track = was.track;
      at = was.at;
      some = was.some;
      leaves = leaves_on old.front step.between step.steps sound.whole sound.by_dma silent was.track.place n was.track.left busy was.some was.leaves;
    })

-- ---- ---- other calls

serves_within : (here : ℕ) (old new : Front) → ServesBehind old → Lasts here old → IsWithin 0 old new → Lasts here new
serves_within here old new was lasts within =
    subst (λ n. Lasts n new) (omega arith) (calls_last within.calls here was.first was.history old new within.within was.serves lasts)

as_many : (now was more n : ℕ) → now + 0 ≤ was → was + more ≤ n → now + more ≤ n
as_many now was more n fewer few = omega arith

leaves_within : (b : Bool) (place : Place) (n left : ℕ) (old new : Front) → Makes b old new → IsBusyAt place old → IsBusyAt place new → LeavesAt place n left old → LeavesAt place n left new
leaves_within b Address n left old new does was now few =
    as_many (steps_left new.adapter.controller.phase) (steps_left old.adapter.controller.phase) (65792 + 131328 * left) (n + 131328) (makes_single b old new does was).left few
leaves_within b _ n left old new does was now (here, lasts, few) = (here, serves_within here old new was lasts (makes_within b old new does now.under_way), few)

pub none_of : (call : Call) → is_step call ≡ false → steps_of call ≡ 0
none_of made.Steps other = absurd (false≢true (sym other))
none_of _ other = refl

other_leaves : (call : Call) (n : ℕ) (old new : ChipState) → IsSound old → IsSound new → Leaves n old → Does call old new → is_step call ≡ false → has_command new.stage ≡ true → Leaves n new
other_leaves call n old new sound still was does other works =
    let track = was.track in
    let keeps = call_stays call (task.Track track) old new does was.at other works in
    let (counted, at) = keeps.stage in
    let now : Track = record track { counted = counted } in
    record {
      track = now;
      at = at;
      some = was.some;
      leaves = leaves_within (is_change call) track.place n track.left old.front new.front keeps.front (busy_at old (task.Track track) was.at sound) (busy_at new (task.Track now) at still) was.leaves;
    }

-- ---- ---- calls one after the other

off_none : (n : ℕ) → n ≡ n - 0
off_none n = omega arith

pub call_leaves : (call : Call) (n : ℕ) (old new : ChipState) → IsSound old → IsSound new → Leaves n old → Does call old new → has_command new.stage ≡ true → Leaves (n - steps_of call) new
call_leaves call n old new sound still was does works = either_way (is_step call)
    (λ steps. by_step call steps does)
    (λ other. subst (λ m. Leaves m new) (off_none n ∙ ap (λ m. n - m) (sym (none_of call other))) (other_leaves call n old new sound still was does other works))
  where
    by_step : (call : Call) → is_step call ≡ true → Does call old new → Leaves (n - steps_of call) new
    by_step made.Steps is step = step_leaves n old new sound was step works
    by_step _ is does = absurd (false≢true is)

data_some : (here left n : ℕ) → 1 ≤ here → 1 ≤ left → here + 131328 * left ≤ n + 131328 → 0 < n
data_some here left n one some few = omega arith

pub leaves_some : (place : Place) (n left : ℕ) (front : Front) → IsBusyAt place front → 1 ≤ left → LeavesAt place n left front → 0 < n
leaves_some Index n left front serves some (here, lasts, few) = omega arith
leaves_some Address n left front executes some few = omega arith
leaves_some Data n left front serves some (here, lasts, few) = data_some here left n (some_here here front serves lasts) some few

tracks_last : (calls : List Call) (n : ℕ) (old new : ChipState) → IsSound old → Leaves n old → AreTracked calls old new → steps_in calls < n
tracks_last [] n old new sound was same = leaves_some was.track.place n was.track.left old.front (busy_at old (task.Track was.track) was.at sound) was.some was.leaves
tracks_last (call ∷ calls) n old new sound was (between, does, writes, tracks, rest) =
    let still = call_sound call old between does writes sound in
    steps_less (steps_of call) (steps_in calls) n
    (tracks_last calls (n - steps_of call) between new still (call_leaves call n old between sound still was does (ap has_command tracks.reads)) rest)

-- ---- ---- how the command begins

all_left : (last : ℕ) → 1 ≤ (if last == 0 then 256 else last)
all_left last = by_none (last == 0) refl
  where
    by_none : (b : Bool) → (last == 0) ≡ b → 1 ≤ (if b then 256 else last)
    by_none true none = omega arith
    by_none false some = positive last (eqb-false last 0 some)

pub track_leaves : (old begun : ChipState) → is_size old.order.key.n ≡ true → IsFreeBehind old.front → Obeys (ReadTrack true) old begun → IsInRange begun.front.adapter.controller → Leaves (most_track_steps old.order) begun
track_leaves old begun size free obeys range =
    let noted = with_last old.order.last_sector old in
    let what : ChipTask = task.Track (track_begun (implies noted) old.order) in
    let key = absent_key old.order.key.c in
    let order = reading_one key old.order in
    let begins : TransfersIf true true what order noted begun = subst (λ b. TransfersIf b true what order noted begun) size obeys in
    let sent = sought_sent (implies noted) what (GivesTransfer (transfer_sent (implies noted) order)) noted begun (stands_free old.front free) begins in
    record {
      track = track_begun (implies noted) old.order;
      at = sent.stage;
      some = all_left old.order.last_sector;
      leaves = (65792, first_sector (implies noted) key old.order sent.set begun.front sent.stands refl sent.gives range, (omega arith));
    }

pub track_last : (calls : List Call) (old begun new : ChipState) → is_size old.order.key.n ≡ true → IsFreeBehind old.front → Obeys (ReadTrack true) old begun → IsSound begun → IsInRange begun.front.adapter.controller
    → AreTracked calls begun new → steps_in calls < most_track_steps old.order
track_last calls old begun new size free obeys sound range are =
    tracks_last calls (most_track_steps old.order) begun new sound (track_leaves old begun size free obeys range) are
