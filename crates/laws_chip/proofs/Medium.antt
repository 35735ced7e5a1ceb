-- What a read gathers while a medium stays in.
use Rattle.std.proofs.Common.{◌≡◌, ◌⊎◌, inl, inr, ℕ, zero, suc, ◌+◌, ◌-◌, ◌*◌, ◌<◌, ◌≤◌, ◌==◌, Bool, true, false, Option, Some, None, List, [], ◌∷◌, ◌++◌, length, if◌then◌else◌, refl, sym, ◌∙◌, ap, subst, arith}
use Rattle.laws_chip.proofs.Common.{eqb-true, Chrn, IsDisk, BadCrc, NoData, content_at, content_size, HasAddressMark, HasDataField, IsIntact, HasNoClear, IsBetween, last_count, DriveState, Past, new_past, heard, FindsBadCheck, FindsNoField, FindsSector, Ending, Done, Results, gave, stepped, told_in, head_of, took, taken_in, taken_out, is_executing, resets, Closes, WordTime, Saw, IsTime, after_time, ending_told, given_up, mark_of, without_seek, Fdc, has_ended_seek, AdapterState, WritesAdapter, drive_at, selected_at, FollowsDor, FollowsWrite, IsHeardFrom, IsWholeFrom, Outset, IsTurningIn, IsUnheard, led, address_heard, data_mark_heard, field_heard, whole_shifted, led_none, found_late, shifted_bytes_at, AreOfField, PassesOfSector, between_is, turn_heard, Front, GivesAt, TakesAt, WritesFront, begun_if, count_told, moving_of, passed_one, with_controller, EndsIf, EndsSector, FollowsStep, MovesOn, SeeksOn, goes_on, has_met_other, is_unwanted, judged_if, passed_over_if, results_behind, results_failed, next_of, Read, MovingSector, FrontStage, Through, Seeking, Moving, Telling, Transfer, AreWithin, Changes, Counts, Gather, Gives, Grows, Steps, Takes, AreOnMedium, BeginsOnTrack, HasMarkOnTrack, HasOnTrack, IsAt, IsAtWhile, IsClean, IsOnMedium, IsReadFrom, StaysIn, TurnsOn, TurnsOnIn, track_under, AreMoved, FindsField, History, IsMoved, IsOfSector, IsTimeOf, Part, Passes, PassesAt, Serves, ServesAt, history_counted, history_ended, history_given, history_moved, history_passed, history_sought, history_stepped, history_taken, nothing_moved, sector_after, sent_of, front_reset_if as reset_if, MediumPlace as Place, SectorCallsCall as Call, SectorCallsDoes as Does, SectorCallsWrites as Writes}
use Rattle.sector_map.specs.Met.{HasLook}
use Rattle.laws_chip.proofs.LateLooks.{bad_check_late, between_late, field_late, no_field_late, of_field_late}
use Rattle.fdc_core.proofs.drives.Turns.{bad_met, no_field_met}
use Rattle.laws_chip.proofs.Courses.{sector_more, sector_opcode, ignored}
use Rattle.laws_chip.proofs.CommandsBegun.{IsHearingLed, hearing_first, hearing_led, hearing_led_bytes}

-- ---- what was heard is of the track

-- a field that was found in the words heard is on the track
pub found_on_track : (track : List ℕ) (from : ℕ) (past : Past) (key : Chrn) (given : List ℕ) (marked : Bool) → IsHeardFrom track from past.turns past.seen → FindsSector past key given marked
    → (content : List ℕ) × HasOnTrack track key marked content × ((rest : List ℕ) × (content ≡ given ++ rest)) × (length given ≡ content_size key.n → given ≡ content)
found_on_track track from past key given marked heard (counted, (turn, p, q, found)) =
    let n = key.n in
    let (start, turned, turned_whole) = turn_heard track from past.turns past.seen turn heard found.among in
    let (at, field, is, intact) = found.finds in
    let same : at ≡ q = omega arith in (
      content_at turn (q + 64) n,
      record {
        spot = p + 16 * start;
        mark = q + 16 * start;
        address_field = address_heard track start turn turned p key found.address;
        data_mark = data_mark_heard track start turn turned p q marked (subst (λ a. HasDataField turn p n a marked) same field).first.mark;
        whole = field_heard track start turn turned q n (content_at turn (q + 64) n) (subst (λ a. IsIntact turn a n) same intact);
      },
      found.begins,
      found.content,
    )

-- the mark of a field that was found is on the track, whatever the field's CRC
mark_on_track : (track : List ℕ) (from : ℕ) (past : Past) (key : Chrn) (marked : Bool) → IsHeardFrom track from past.turns past.seen → FindsField past key marked → HasMarkOnTrack track key marked
mark_on_track track from past key marked heard (turn, p, q, has) =
    let (start, turned, turned_whole) = turn_heard track from past.turns past.seen turn heard has.among in
    record {
      spot = p + 16 * start;
      mark = q + 16 * start;
      address_field = address_heard track start turn turned p key has.address;
      data_mark = data_mark_heard track start turn turned p q marked has.field.first.mark;
    }

-- what was given of a sector whose words were all heard is of the track
told_on_track : (track : List ℕ) (from : ℕ) (past : Past) (key : Chrn) (given : List ℕ) → IsHeardFrom track from past.turns past.seen → IsWholeFrom track from past.turns past.seen → AreOfField past key given
    → (given ≡ []) ⊎ BeginsOnTrack track key given
told_on_track track from past key given heard whole (told, inl none, (rest, is)) = inl (none_of given rest (sym is ∙ none))
  where
    none_of : (first second : List ℕ) → first ++ second ≡ [] → first ≡ []
    none_of [] second is = refl
    none_of (byte ∷ first) second is = absurd (cc is)
told_on_track track from past key given heard whole (told, inr (turn, among, (p, q, count, marked, of_turn)), (rest, is)) =
    let (start, turned, turned_whole) = turn_heard track from past.turns past.seen turn heard among in
    let inside = of_turn.inside in
    let shifted = whole_shifted track start turn (q + 64) (16 * count) (turned_whole whole) turned.inside (omega arith) in
    let same = shifted_bytes_at turn track (q + 64) (q + 64 + 16 * start) (16 * count) shifted (q + 64) (q + 16 * start + 64) count (omega arith) (omega arith) (omega arith) in
    inr (record {
      spot = p + 16 * start;
      mark = q + 16 * start;
      marked = marked;
      address_field = address_heard track start turn turned p key of_turn.address;
      data_mark = data_mark_heard track start turn turned p q marked of_turn.mark.mark;
      count = count;
      rest = rest;
      bytes_are = sym same ∙ (sym of_turn.bytes ∙ is);
    })

-- ---- what is known of what was heard

-- how the drive stood when the search for a sector began, at this word and with so many faults
abbrev pub outset_at : Place → Transfer → ℕ → ℕ → Outset
outset_at place at from since = record {
  head = head_of at.head_drive;
  rate = place.rate;
  disk = place.disk;
  cylinder = place.cylinder;
  from = from;
  faults = since;
}

-- a sector's own search heard words 0000 while the medium spun up, and then the words of the track under its head
pub record IsHeardAt (place : Place) (at : Transfer) (past : Past) : Type 0 where
  pub lead : ℕ
  pub late : Past
  pub past_is : past ≡ led lead late
  pub from : ℕ
  pub heard : IsHeardFrom (track_under place at) from late.turns late.seen
  pub whole : place.clean ≡ true → IsWholeFrom (track_under place at) from late.turns late.seen

abbrev pub AreHeardAt : Place → List Part → Type 0
AreHeardAt place [] = Unit {0}
AreHeardAt place (part ∷ parts) = IsHeardAt place part.at part.past × AreHeardAt place parts

-- the same of the sector under way, with the drive where the words have brought it
abbrev pub IsHearingAt : Place → Transfer → Past → DriveState → Type 0
IsHearingAt place at past drive =
    (from : ℕ) × (since : ℕ) × IsHearingLed (outset_at place at from since) past drive × (place.clean ≡ true → since ≡ place.faults)

-- no word of the track was heard
heard_nothing : (place : Place) (at : Transfer) (past : Past) (lead : ℕ) (late : Past) → past ≡ led lead late → IsUnheard late → IsHeardAt place at past
heard_nothing place at past lead late is none =
    let track = track_under place at in
    let heard : IsHeardFrom track 0 [] [] = record { over = tt; now = record { inside = omega arith; each = λ i below. absurd (omega arith) } } in
    let whole : IsWholeFrom track 0 [] [] = record { over = tt; now = record { each = λ i below. absurd (omega arith) } } in
    record {
      lead = lead;
      late = late;
      past_is = is;
      from = 0;
      heard = subst (λ (p : Past). IsHeardFrom track 0 p.turns p.seen) (sym none) heard;
      whole = λ set. subst (λ (p : Past). IsWholeFrom track 0 p.turns p.seen) (sym none) whole;
    }

-- the search is over
hearing_over : (place : Place) (at : Transfer) (past : Past) (drive : DriveState) → (place.clean ≡ true → (drive.faults ≡ place.faults) × (place.faults < last_count)) → IsHearingAt place at past drive
    → IsHeardAt place at past
hearing_over place at past drive clean (from, since, was, began) = elim was.drive_is [
  | inl (none, spins) ↦ heard_nothing place at past was.lead was.late was.past_is none
  | inr hears ↦ record {
    lead = was.lead;
    late = was.late;
    past_is = was.past_is;
    from = from;
    heard = hears.heard;
    whole = λ set. hears.whole (let one = began set in let two = clean set in let now = two.0 in let few = two.1 in (omega arith, omega arith));
  }
]

-- the sector that the command stands at after the sectors that are over
abbrev here_of : Transfer → History → Transfer
here_of first history = sector_after (length history.parts) first

abbrev NowHeard : FrontStage → Place → Transfer → History → Front → Type 0
NowHeard (Seeking at counted) place first history front = (at ≡ first) × (history.parts ≡ [])
NowHeard (Moving moving) place first history front =
    (moving.transfer ≡ here_of first history) × IsHearingAt place (here_of first history) history.past (drive_at front.adapter place.bay)
NowHeard (Telling results) place first history front = IsHeardAt place (here_of first history) history.past
NowHeard _ place first history front = ⊥

pub record Hears (place : Place) (first : Transfer) (history : History) (front : Front) : Type 0 where
  pub parts : AreHeardAt place history.parts
  pub now : NowHeard front.stage place first history front

heard_more : (place : Place) (parts : List Part) (part : Part) → AreHeardAt place parts → IsHeardAt place part.at part.past → AreHeardAt place (parts ++ part ∷ [])
heard_more place [] part were is = (is, tt)
heard_more place (other ∷ parts) part (one, were) is = (one, heard_more place parts part were is)

-- a search that begins where the drive is
pub fresh_hearing : (place : Place) (front : Front) (at : Transfer) (past : Past) → IsAt place front → IsUnheard past → IsHearingAt place at past (drive_at front.adapter place.bay)
fresh_hearing place front at past is none =
    let drive = drive_at front.adapter place.bay in
    let outset = outset_at place at drive.place drive.faults in
    let turning : IsTurningIn outset drive =
    record { medium = is.medium; cylinder = is.cylinder; motor = is.motor; place = refl; inside = is.inside; never_falls = omega arith } in (
      drive.place,
      drive.faults,
      subst (λ p. IsHearingLed outset p drive) (led_none past) (hearing_first outset 0 past drive is.disk none turning),
      λ set. (is.clean set).0,
    )

-- a drive that turns on over the same medium
pub kept_hearing : (place : Place) (front : Front) (at : Transfer) (past : Past) (drive : DriveState) → IsAt place front → TurnsOn drive (drive_at front.adapter place.bay) → IsHearingAt place at past drive
    → IsHearingAt place at past (drive_at front.adapter place.bay)
kept_hearing place front at past drive is turns (from, since, was, began) =
    let now = drive_at front.adapter place.bay in
    let outset = outset_at place at from since in
    let falls = turns.never_falls in
    let hears : IsHearingLed outset past now = elim was.drive_is [
      | inl (none, spins) ↦
          let before = spins.turning.never_falls in
          let turning : IsTurningIn outset now = record {
            medium = is.medium;
            cylinder = is.cylinder;
            motor = is.motor;
            place = turns.place ∙ spins.turning.place;
            inside = spins.turning.inside;
            never_falls = omega arith;
          } in
          subst (λ p. IsHearingLed outset p now) (sym was.past_is) (hearing_first outset was.lead was.late now is.disk none turning)
      | inr fast ↦
          let under = fast.under refl in
          let before = fast.never_falls in
          record {
            lead = was.lead;
            late = was.late;
            past_is = was.past_is;
            drive_is = inr (record {
              heard = fast.heard;
              never_falls = omega arith;
              whole = λ calm. fast.whole (let no_more = calm.0 in let below = calm.1 in (omega arith, omega arith));
              under = λ _. record {
                medium = is.medium;
                cylinder = is.cylinder;
                motor = is.motor;
                speed = turns.keeps_speed under.speed;
                place = turns.place ∙ under.place;
                inside = is.inside;
              };
            });
          }
    ] in
    (from, since, hears, began)

-- the bytes that were moved play no part in this
bytes_hearing : (place : Place) (at : Transfer) (past : Past) (given taken : List ℕ) (counted : Bool) (drive : DriveState) → IsHearingAt place at past drive
    → IsHearingAt place at (record past { given = given; taken = taken; counted = counted }) drive
bytes_hearing place at past given taken counted drive (from, since, was, began) = (from, since, hearing_led_bytes (outset_at place at from since) past given taken counted drive was, began)

told_hearing : (place : Place) (at : Transfer) (b : Bool) (past : Past) (drive : DriveState) → IsHearingAt place at past drive → IsHearingAt place at (told_in b past) drive
told_hearing place at true past drive was = bytes_hearing place at past past.given past.taken true drive was
told_hearing place at false past drive was = was

told_unheard : (b : Bool) → IsUnheard (told_in b new_past)
told_unheard true = refl
told_unheard false = refl

-- ---- a word

is_time : (bay head : ℕ) (time : WordTime) (old new : AdapterState) → bay ≤ 1 → selected_at old ≡ bay → PassesAt (selected_at old) head time old new
    → IsTime time old.controller.rate head (drive_at old bay) (drive_at new bay)
is_time zero head time old new few at passes = (passes.at_first at).0
is_time (suc zero) head time old new few at passes = (passes.at_second at).0
is_time (suc (suc bay)) head time old new few at passes = absurd (omega (arith, few))

time_hears : (wanted skip : Bool) (place : Place) (at : Transfer) (past : Past) (time : WordTime) (before after : DriveState) → IsDisk place.disk → IsTimeOf (Read wanted skip) time
    → IsTime time place.rate (head_of at.head_drive) before after → IsHearingAt place at past before → IsHearingAt place at (after_time time past) after
time_hears wanted skip place at past (Saw index word) before after valid reads is (from, since, was, began) =
    let outset = outset_at place at from since in (
      from,
      since,
      subst (λ i. IsHearingLed outset (heard i word (stepped past)) after) (sym is.index_is) (hearing_led outset past before after word valid was is.sees is.passes),
      began,
    )
time_hears wanted skip place at past _ before after valid reads is was = absurd reads

-- ---- one call

module _ (place : Place) (first : Transfer) (wanted skip : Bool) (reads : first.opcode.operation ≡ Read wanted skip) where
  to_moving : (history : History) (moving : MovingSector) (new : Front) → new.stage ≡ Moving moving → AreHeardAt place history.parts → moving.transfer ≡ here_of first history
      → IsHearingAt place (here_of first history) history.past (drive_at new.adapter place.bay) → Hears place first history new
  to_moving history moving new is parts here hearing =
      record { parts = parts; now = subst (λ stage. NowHeard stage place first history new) (sym is) (here, hearing) }

  to_telling : (history : History) (results : Results) (new : Front) → new.stage ≡ Telling results → AreHeardAt place history.parts
      → IsHeardAt place (here_of first history) history.past → Hears place first history new
  to_telling history results new is parts heard =
      record { parts = parts; now = subst (λ stage. NowHeard stage place first history new) (sym is) heard }

  at_new : (moving : MovingSector) (new : Front) → new.stage ≡ Moving moving → IsAtWhile new.stage place new → IsAt place new
  at_new moving new is at = subst (λ stage. IsAtWhile stage place new) is at

  same_front : (history : History) (old new : Front) → new ≡ old → Hears place first history old → Hears place first history new
  same_front history old new is was = subst (Hears place first history) (sym is) was

  -- ---- a device step

  module _ (history : History) (moving : MovingSector) (old : Front) (between : AdapterState) (new : Front) (now : Past) (parts : AreHeardAt place history.parts)
      (here : moving.transfer ≡ here_of first history) (hearing : IsHearingAt place (here_of first history) now (drive_at between place.bay)) (stage_is : old.stage ≡ Moving moving)
      (stays : new.stage ≡ Through → ⊥) (at : IsAtWhile new.stage place new) where
    abbrev fronted : Front
    fronted = record old { adapter = between }

    passes_hear : (b : Bool) → new ≡ passed_over_if b moving fronted → Hears place first (record history { past = told_in b now }) new
    passes_hear false is = to_moving (record history { past = now }) moving new (ap (λ front. front.stage) is ∙ stage_is) parts here
        (subst (λ front. IsHearingAt place (here_of first history) now (drive_at front.adapter place.bay)) (sym is) hearing)
    passes_hear true is = to_moving (record history { past = told_in true now }) (record moving { left = 0; passed_over = true; skipped = true }) new (ap (λ front. front.stage) is) parts here
        (subst (λ front. IsHearingAt place (here_of first history) (told_in true now) (drive_at front.adapter place.bay)) (sym is)
        (told_hearing place (here_of first history) true now (drive_at between place.bay) hearing))

    -- what was heard once the search is over
    heard_behind : (front : Front) → drive_at front.adapter place.bay ≡ drive_at between place.bay → IsClean place front → IsHeardAt place (here_of first history) now
    heard_behind front same clean =
        hearing_over place (here_of first history) now (drive_at between place.bay) (subst (λ drive. place.clean ≡ true → (drive.faults ≡ place.faults) × (place.faults < last_count)) same clean) hearing

    begins_hear : (marked passed_over executing : Bool) (then_adapter : AdapterState) (begun_from : Front) → drive_at then_adapter place.bay ≡ drive_at between place.bay → new ≡ begun_if executing (next_of moving.transfer) false passed_over then_adapter begun_from
        → Hears place first (history_ended true moving.transfer marked now history) new
    begins_hear marked passed_over true then_adapter begun_from same is =
        let part : Part = record { at = moving.transfer; past = now; marked = marked } in
        let next = moving_of (next_of moving.transfer) false passed_over in
        let then_history = history_ended true moving.transfer marked now history in
        let stage_now = ap (λ front. front.stage) is in
        to_moving then_history next new stage_now (heard_more place history.parts part parts (subst (λ a. IsHeardAt place a now) (sym here)
        (heard_behind new (ap (λ front. drive_at front.adapter place.bay) is ∙ same) (at_new next new stage_now at).clean)))
        (ap next_of here ∙ sym (sector_more first history.parts part))
        (fresh_hearing place new (here_of first then_history) new_past (at_new next new stage_now at) refl)
    begins_hear marked passed_over false then_adapter begun_from same is = absurd (stays (ap (λ front. front.stage) is))

    tells_hear : (results : Results) (front : Front) → drive_at front.adapter place.bay ≡ drive_at between place.bay → new ≡ record front { stage = Telling results } → Hears place first (record history { past = now }) new
    tells_hear results front same is =
        let stage_now = ap (λ f. f.stage) is in
        to_telling (record history { past = now }) results new stage_now parts
        (heard_behind new (ap (λ f. drive_at f.adapter place.bay) is ∙ same) (subst (λ stage. IsAtWhile stage place new) stage_now at))

    taken_drive : (bay : ℕ) (first_adapter second_adapter : AdapterState) → second_adapter.first ≡ first_adapter.first → second_adapter.second ≡ first_adapter.second → drive_at second_adapter bay ≡ drive_at first_adapter bay
    taken_drive bay first_adapter second_adapter one two = by_bay (bay == 0)
      where
        by_bay : (b : Bool) → (if b then second_adapter.first else second_adapter.second) ≡ (if b then first_adapter.first else first_adapter.second)
        by_bay true = one
        by_bay false = two

    ends_if_hear : (b marked : Bool) (front : Front) → drive_at front.adapter place.bay ≡ drive_at between place.bay → EndsIf b moving marked front new → Hears place first (history_ended b moving.transfer marked now history) new
    ends_if_hear true marked front same begins = begins_hear marked (has_met_other moving marked) (is_executing begins.between.controller.phase) begins.between front
        (taken_drive place.bay front.adapter begins.between begins.takes.first begins.takes.second ∙ same) begins.begun
    ends_if_hear false marked front same is = tells_hear (results_behind moving marked) front same is

    ends_hear : (was : Option Bool) (ending : Ending) (mark : Option Bool) (front : Front) → drive_at front.adapter place.bay ≡ drive_at between place.bay → EndsSector was moving ending front new → Hears place first (history_moved (Some ending) moving mark now history) new
    ends_hear was (Done marked) mark front same ends = ends_if_hear (goes_on moving marked) marked front same ends
    ends_hear was ending mark front same ends = tells_hear (results_failed was moving ending) front same ends

    moves_hear : (was : Option Bool) (ending : Option Ending) → MovesOn was ending moving fronted new → Hears place first (history_moved ending moving (mark_of between.controller) now history) new
    moves_hear was None does = passes_hear (is_unwanted moving (mark_of between.controller)) does
    moves_hear was (Some ending) does = ends_hear was ending (mark_of between.controller) (record fronted { adapter = with_controller (given_up between.controller) between }) refl does

  seeks_hear : (b : Bool) (at : Transfer) (counted : Bool) (history : History) (old new : Front) → old.stage ≡ Seeking at counted → AreHeardAt place history.parts → at ≡ first → history.parts ≡ []
      → (new.stage ≡ Through → ⊥) → IsAtWhile new.stage place new → SeeksOn b at counted old new → Hears place first (history_sought b counted history) new
  seeks_hear false at counted history old new stage_is parts here none stays is_at does =
      same_front history old new does (record { parts = parts; now = subst (λ stage. NowHeard stage place first history old) (sym stage_is) (here, none) })
  seeks_hear true at counted history old new stage_is parts here none stays is_at begins = by_busy (is_executing begins.between.controller.phase) begins.begun
    where
      by_busy : (b : Bool) → new ≡ begun_if b at counted false begins.between (record old { adapter = with_controller (without_seek old.adapter.controller) old.adapter })
          → Hears place first (record history { past = told_in counted new_past }) new
      by_busy true is =
          let moving = moving_of at counted false in
          let stage_now = ap (λ front. front.stage) is in
          to_moving (record history { past = told_in counted new_past }) moving new stage_now parts (here ∙ sym (ap (λ p. sector_after (length p) first) none))
          (fresh_hearing place new (here_of first history) (told_in counted new_past) (at_new moving new stage_now is_at) (told_unheard counted))
      by_busy false is = absurd (stays (ap (λ front. front.stage) is))

  step_hears : (stage : FrontStage) (history : History) (time : WordTime) (old : Front) (between : AdapterState) (new : Front) → old.stage ≡ stage → AreHeardAt place history.parts → NowHeard stage place first history old
      → IsAtWhile stage place old → (new.stage ≡ Through → ⊥) → IsAtWhile new.stage place new → Passes stage time old.adapter between → FollowsStep (mark_of old.adapter.controller) stage (record old { adapter = between }) new
      → Hears place first (history_stepped stage time between.controller history) new
  step_hears Through history time old between new stage_is parts now at stays at_then passes follows = absurd now
  step_hears (Seeking target counted) history time old between new stage_is parts (here, none) at stays at_then passes follows =
      seeks_hear (has_ended_seek between.controller.seeks) target counted history (record old { adapter = between }) new stage_is parts here none stays at_then follows
  step_hears (Telling results) history time old between new stage_is parts now at stays at_then passes follows =
      to_telling history results new (ap (λ front. front.stage) follows ∙ stage_is) parts now
  step_hears (Moving moving) history time old between new stage_is parts (here, hearing) at stays at_then (kind, passes) follows =
      let same : moving.transfer.opcode.operation ≡ Read wanted skip =
      ap (λ opcode. opcode.operation) (ap (λ a. a.opcode) here ∙ sector_opcode (length history.parts) first) ∙ reads in
      let is = is_time place.bay (head_of moving.transfer.head_drive) time old.adapter between at.bay at.selects passes in
      let there = subst (λ a. IsTime time place.rate (head_of a.head_drive) (drive_at old.adapter place.bay) (drive_at between place.bay)) here
      (subst (λ rate. IsTime time rate (head_of moving.transfer.head_drive) (drive_at old.adapter place.bay) (drive_at between place.bay)) at.rate is) in
      let on = time_hears wanted skip place (here_of first history) history.past time (drive_at old.adapter place.bay) (drive_at between place.bay) at.disk (subst (λ o. IsTimeOf o time) same kind) there hearing in
      moves_hear history moving old between new (after_time time history.past) parts here on stage_is stays at_then (mark_of old.adapter.controller) (judged_if moving (ending_told between.controller)) follows

  -- ---- the channel

  one_hears : (history : History) (moving : MovingSector) (now : Past) (fdc : Fdc) (old new : Front) → AreHeardAt place history.parts → moving.transfer ≡ here_of first history
      → IsHearingAt place (here_of first history) now (drive_at old.adapter place.bay) → new ≡ passed_one moving fdc old → Hears place first (history_passed moving now history) new
  one_hears history moving now fdc old new parts here hearing is =
      to_moving (history_passed moving now history) (record moving { left = moving.left - 1 }) new (ap (λ front. front.stage) is) parts here
      (subst (λ front. IsHearingAt place (here_of first history) (told_in (moving.left - 1 == 0) now) (drive_at front.adapter place.bay)) (sym is)
      (told_hearing place (here_of first history) (moving.left - 1 == 0) now (drive_at old.adapter place.bay) hearing))

  take_hears : (stage : FrontStage) (byte : Option ℕ) (history : History) (old new : Front) → NowHeard stage place first history old → Hears place first history old → TakesAt stage old byte new
      → Hears place first (history_taken stage byte history) new
  take_hears Through byte history old new now was takes = absurd now
  take_hears (Moving moving) (Some byte) history old new (here, hearing) was (up, byte_is, is) =
      one_hears history moving (gave byte history.past) (taken_out old.adapter.controller) old new was.parts here
      (bytes_hearing place (here_of first history) history.past (history.past.given ++ byte ∷ []) history.past.taken history.past.counted (drive_at old.adapter place.bay) hearing) is
  take_hears stage byte history old new now was takes = same_front history old new takes.1 was

  give_hears : (stage : FrontStage) (byte : ℕ) (given : Bool) (history : History) (old new : Front) → NowHeard stage place first history old → Hears place first history old → GivesAt stage byte old given new
      → Hears place first (history_given stage byte given history) new
  give_hears Through byte given history old new now was gives = absurd now
  give_hears (Moving moving) byte true history old new (here, hearing) was (up, is) =
      one_hears history moving (took byte history.past) (taken_in byte old.adapter.controller) old new was.parts here
      (bytes_hearing place (here_of first history) history.past history.past.given (history.past.taken ++ byte ∷ []) history.past.counted (drive_at old.adapter place.bay) hearing) is
  give_hears stage byte given history old new now was (none, is) = same_front history old new is was

  count_hears : (stage : FrontStage) (history : History) (old new : Front) → NowHeard stage place first history old → Hears place first history old → new ≡ count_told stage old
      → Hears place first (history_counted stage history) new
  count_hears Through history old new now was is = absurd now
  count_hears (Telling results) history old new now was is = same_front history old new is was
  count_hears (Seeking at counted) history old new (here, none) was is =
      record { parts = was.parts; now = subst (λ stage. NowHeard stage place first (record history { counted = true }) new) (sym (ap (λ front. front.stage) is)) (here, none) }
  count_hears (Moving moving) history old new (here, hearing) was is =
      to_moving (record history { past = told_in true history.past; counted = true }) (record moving { counted = true }) new (ap (λ front. front.stage) is) was.parts here
      (subst (λ front. IsHearingAt place (here_of first history) (told_in true history.past) (drive_at front.adapter place.bay)) (sym is)
      (told_hearing place (here_of first history) true history.past (drive_at old.adapter place.bay) hearing))

  -- ---- ports and media

  -- the stage stays, and while a sector is moved the medium turns on
  turn_hears : (stage : FrontStage) (history : History) (old new : Front) → AreHeardAt place history.parts → NowHeard stage place first history old → new.stage ≡ stage → IsAtWhile new.stage place new
      → ((moving : MovingSector) → stage ≡ Moving moving → IsAt place new → TurnsOn (drive_at old.adapter place.bay) (drive_at new.adapter place.bay)) → Hears place first history new
  turn_hears Through history old new parts now is at turns = absurd now
  turn_hears (Seeking target counted) history old new parts now is at turns = record { parts = parts; now = subst (λ stage. NowHeard stage place first history new) (sym is) now }
  turn_hears (Telling results) history old new parts now is at turns = to_telling history results new is parts now
  turn_hears (Moving moving) history old new parts (here, hearing) is at turns =
      let there = at_new moving new is at in
      to_moving history moving new is parts here (kept_hearing place new (here_of first history) history.past (drive_at old.adapter place.bay) there (turns moving refl there) hearing)

  -- a motor that stays on lets the medium turn on, and so does the gate
  turns_same : (drive : DriveState) → TurnsOn drive drive
  turns_same drive = record { place = refl; never_falls = omega arith; keeps_speed = λ fast. fast }

  motor_turns : (b : Bool) (bay : ℕ) (controller : Fdc) (before after : DriveState) → FollowsDor b bay controller before after → after.motor ≡ true → TurnsOn before after
  motor_turns true bay controller before after (on, is, becomes) runs =
      let stays : on ≡ true = sym (ap (λ s. s.motor) becomes) ∙ runs in
      let spin : after.spin ≡ before.spin = ap (λ s. s.spin) becomes ∙ ap (λ runs. if runs then before.spin else 0) stays in
      let faults : after.faults ≡ before.faults = ap (λ s. s.faults) becomes in
      record { place = ap (λ s. s.place) becomes; never_falls = omega arith; keeps_speed = λ fast. omega arith }
  motor_turns false bay controller before after is runs = subst (TurnsOn before) (sym is) (turns_same before)

  gate_turns : (b : Bool) (before after : DriveState) → Closes b before after → (after.motor ≡ before.motor) × TurnsOn before after
  gate_turns true before after becomes =
      let spin : after.spin ≡ before.spin = ap (λ s. s.spin) becomes in
      let faults : after.faults ≡ before.faults = ap (λ s. s.faults) becomes in
      let turns : TurnsOn before after = record { place = ap (λ s. s.place) becomes; never_falls = omega arith; keeps_speed = λ fast. omega arith } in
      (ap (λ s. s.motor) becomes, turns)
  gate_turns false before after is = (ap (λ s. s.motor) is, subst (TurnsOn before) (sym is) (turns_same before))

  write_turns : (port value bay : ℕ) (controller : Fdc) (before after : DriveState) → FollowsWrite port value bay controller before after → after.motor ≡ true → TurnsOn before after
  write_turns port value bay controller before after follows runs =
      let (same, closes) = gate_turns (resets port value) follows.between after follows.gate in
      let turns = motor_turns (port == 0x3F2) bay controller before follows.between follows.motor (sym same ∙ runs) in
      let falls = turns.never_falls in
      let then_falls = closes.never_falls in
      record { place = closes.place ∙ turns.place; never_falls = omega arith; keeps_speed = λ fast. closes.keeps_speed (turns.keeps_speed fast) }

  pub adapter_turns : (port value bay : ℕ) (old new : AdapterState) → WritesAdapter port value old new → (drive_at new bay).motor ≡ true → TurnsOn (drive_at old bay) (drive_at new bay)
  adapter_turns port value bay old new writes = by_bay (bay == 0)
    where
      by_bay : (b : Bool) → (if b then new.first else new.second).motor ≡ true → TurnsOn (if b then old.first else old.second) (if b then new.first else new.second)
      by_bay true runs = write_turns port value 0 new.controller old.first new.first writes.first runs
      by_bay false runs = write_turns port value 1 new.controller old.second new.second writes.second runs

  write_hears : (port value : ℕ) (history : History) (old new : Front) → Hears place first history old → (new.stage ≡ Through → ⊥) → IsAtWhile new.stage place new → WritesFront port value old new
      → Hears place first history new
  write_hears port value history old new was stays at writes = by_port (port == 0x3F5) refl
    where
      by_reset : (b : Bool) → WritesAdapter port value old.adapter new.adapter → new ≡ record (reset_if b old) { adapter = new.adapter } → Hears place first history new
      by_reset true wrote is = absurd (stays (ap (λ front. front.stage) is))
      by_reset false wrote is = turn_hears old.stage history old new was.parts was.now (ap (λ front. front.stage) is) at (λ moving here there. adapter_turns port value place.bay old.adapter new.adapter wrote there.motor)

      by_port : (b : Bool) → (port == 0x3F5) ≡ b → Hears place first history new
      by_port true is = same_front history old new (writes.bytes (eqb-true port 0x3F5 is)) was
      by_port false is = let (wrote, after) = writes.others is in by_reset (resets port value) wrote after

  -- ---- all calls

  call_hears : (call : Call) (history grown : History) (old new : Front) (does : Does call old new) → (new.stage ≡ Through → ⊥) → IsAtWhile old.stage place old → IsAtWhile new.stage place new
      → TurnsOnIn old.stage call (drive_at old.adapter place.bay) (drive_at new.adapter place.bay) → Grows call old new does history grown → Hears place first history old → Hears place first grown new
  call_hears Steps history grown old new step stays at at_then turns (time, passes, is) was =
      subst (λ h. Hears place first h new) (sym is) (step_hears old.stage history time old step.between new refl was.parts was.now at stays at_then passes step.follows)
  call_hears (Takes byte) history grown old new does stays at at_then turns is was = subst (λ h. Hears place first h new) (sym is) (take_hears old.stage byte history old new was.now was does)
  call_hears (Gives byte given) history grown old new does stays at at_then turns is was = subst (λ h. Hears place first h new) (sym is) (give_hears old.stage byte given history old new was.now was does)
  call_hears Counts history grown old new does stays at at_then turns is was = subst (λ h. Hears place first h new) (sym is) (count_hears old.stage history old new was.now was does)
  call_hears (Writes port value) history grown old new does stays at at_then turns is was = grind (arith, first, write_hears)
  call_hears Changes history grown old new does stays at at_then turns is was =
      subst (λ h. Hears place first h new) (sym is) (turn_hears old.stage history old new was.parts was.now does.stage at_then
      (λ moving here there. subst (λ stage. TurnsOnIn stage Changes (drive_at old.adapter place.bay) (drive_at new.adapter place.bay)) here turns))
  call_hears call history grown old new does stays at at_then turns is was =
      subst (λ h. Hears place first h new) (sym is) (same_front history old new (ignored call old new tt does (λ through. subst (λ stage. NowHeard stage place first history old) through was.now) stays) was)

  first_at : (calls : List Call) (old new : Front) (within : AreWithin calls old new) → StaysIn place calls old new within → IsAtWhile old.stage place old
  first_at [] old new within is = is
  first_at (call ∷ calls) old new within is = is.0

  calls_hear : (calls : List Call) (history grown : History) (old new : Front) (within : AreWithin calls old new) → StaysIn place calls old new within → Gather calls old new within history grown
      → Hears place first history old → Hears place first grown new
  calls_hear [] history grown old new same stays is was = subst (λ h. Hears place first h new) (sym is) (same_front history old new same was)
  calls_hear (call ∷ calls) history grown old new (between, does, within, rest) (at, turns, stays) (mid, grows, gather) was =
      calls_hear calls mid grown between new rest stays gather (call_hears call history mid old between does within at (first_at calls between new rest stays) turns grows was)

  -- ---- ---- what the words heard say of the medium

  heard_found : (at : Transfer) (past : Past) (marked : Bool) → IsHeardAt place at past → FindsSector past at.key past.given marked
      → (content : List ℕ) × HasOnTrack (track_under place at) at.key marked content × ((rest : List ℕ) × (content ≡ past.given ++ rest))
      × (length past.given ≡ content_size at.key.n → past.given ≡ content)
  heard_found at past marked was found =
      found_on_track (track_under place at) was.from was.late at.key past.given marked was.heard
      (found_late was.lead was.late at.key past.given marked (subst (λ (p : Past). FindsSector p at.key past.given marked) was.past_is found))

  heard_field : (at : Transfer) (past : Past) (marked : Bool) → IsHeardAt place at past → FindsField past at.key marked → HasMarkOnTrack (track_under place at) at.key marked
  heard_field at past marked was finds =
      mark_on_track (track_under place at) was.from was.late at.key marked was.heard
      (field_late was.lead was.late at.key marked (subst (λ (p : Past). FindsField p at.key marked) was.past_is finds))

  heard_given : (at : Transfer) (past : Past) → IsHeardAt place at past → place.clean ≡ true → AreOfField past at.key past.given → (past.given ≡ []) ⊎ BeginsOnTrack (track_under place at) at.key past.given
  heard_given at past was set given =
      told_on_track (track_under place at) was.from was.late at.key past.given was.heard (was.whole set)
      (of_field_late was.lead was.late at.key past.given (subst (λ (p : Past). AreOfField p at.key past.given) was.past_is given))

  heard_between : (at : Transfer) (past : Past) (between : List ℕ) → IsHeardAt place at past → place.clean ≡ true → IsBetween past between → between ≡ track_under place at
  heard_between at past between was set is =
      between_is (track_under place at) was.from was.late between was.heard (was.whole set)
      (between_late was.lead was.late between (subst (λ (p : Past). IsBetween p between) was.past_is is))

  heard_no_field : (at : Transfer) (past : Past) → IsHeardAt place at past → place.clean ≡ true → FindsNoField past at.key → HasLook (track_under place at) at.key NoData
  heard_no_field at past was set finds =
      no_field_met (track_under place at) was.from was.late at.key was.heard (was.whole set)
      (no_field_late was.lead was.late at.key (subst (λ (p : Past). FindsNoField p at.key) was.past_is finds))

  heard_bad_check : (at : Transfer) (past : Past) → IsHeardAt place at past → place.clean ≡ true → FindsBadCheck past at.key → HasLook (track_under place at) at.key BadCrc
  heard_bad_check at past was set finds =
      bad_met (track_under place at) was.from was.late at.key was.heard (was.whole set)
      (bad_check_late was.lead was.late at.key (subst (λ (p : Past). FindsBadCheck p at.key) was.past_is finds))

  on_medium : (part : Part) → IsHeardAt place part.at part.past → IsMoved (Read wanted skip) part → IsOnMedium place (Read wanted skip) part
  on_medium part was (inl whole) =
      let found = heard_found part.at part.past part.marked was whole.field in
      inl (record { wanted = whole.wanted; field = subst (HasOnTrack (track_under place part.at) part.at.key part.marked) (sym (found.3 whole.all)) found.1 })
  on_medium part was (inr over) =
      inr (record { skips = over.skips; other = over.other; field = heard_field part.at part.past part.marked was over.found; none = over.none })

  all_on_medium : (from : Transfer) (parts : List Part) → AreHeardAt place parts → AreMoved (Read wanted skip) from parts → AreOnMedium place (Read wanted skip) parts
  all_on_medium from [] heard moved = tt
  all_on_medium from (part ∷ parts) (one, heard) (here, is, moved) = (on_medium part one is, all_on_medium (next_of from) parts heard moved)

  parts_on_medium : (history : History) (front : Front) → Hears place first history front → AreMoved first.opcode.operation first history.parts → AreOnMedium place first.opcode.operation history.parts
  parts_on_medium history front hears moved =
      subst (λ o. AreOnMedium place o history.parts) (sym reads) (all_on_medium first history.parts hears.parts (subst (λ o. AreMoved o first history.parts) reads moved))

  -- a command of which nothing was heard
  nothing_heard : (stage : FrontStage) (begun : Front) → begun.stage ≡ stage → ServesAt stage first (nothing_moved false) begun.adapter.controller → IsAtWhile stage place begun → Hears place first (nothing_moved false) begun
  nothing_heard Through begun is now at = absurd now
  nothing_heard (Seeking target counted) begun is (here, none) at =
      record { parts = tt; now = subst (λ stage. NowHeard stage place first (nothing_moved false) begun) (sym is) (here, refl) }
  nothing_heard (Moving moving) begun is (here, counts, carries) at = search (to_moving, fresh_hearing, first)
  nothing_heard (Telling results) begun is now at =
      to_telling (nothing_moved false) results begun is tt (heard_nothing place first new_past 0 new_past (sym (led_none new_past)) refl)

  pub read_from : (calls : List Call) (history : History) (begun end : Front) (within : AreWithin calls begun end) (results : Results) → Serves first (nothing_moved false) begun
      → StaysIn place calls begun end within → Gather calls begun end within (nothing_moved false) history → AreMoved first.opcode.operation first history.parts → PassesOfSector first history
      → end.stage ≡ Telling results → IsReadFrom place first history
  read_from calls history begun end within results serves stays gather moved of_sector tells =
      let at = first_at calls begun end within stays in
      let hears = calls_hear calls (nothing_moved false) history begun end within stays gather (nothing_heard begun.stage begun refl serves.now at) in
      let here = here_of first history in
      let past = history.past in
      let was : IsHeardAt place here past = subst (λ stage. NowHeard stage place first history end) tells hears.now in
      record {
        parts = parts_on_medium history end hears moved;
        last = λ marked finds. let found = heard_found here past marked was finds in (found.0, found.1, found.2);
        passed = λ marked finds. heard_field here past marked was finds;
        given = λ set. heard_given here past was set (subst (λ o. IsOfSector o past (sent_of here)) reads of_sector);
        missed = λ set (marks, (between, is, none)). subst (HasNoClear (Some here.key)) (heard_between here past between was set is) none;
        bare = λ set (between, is, none) mark. none (subst HasAddressMark (sym (heard_between here past between was set is)) mark);
        no_field = λ set finds. heard_no_field here past was set finds;
        bad_check = λ set finds. heard_bad_check here past was set finds;
      }
