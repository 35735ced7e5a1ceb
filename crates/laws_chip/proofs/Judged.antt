-- What the ending of a sector's command says, as the front judges it: the CRC of a field that is passed over doesn't
-- count.
use Rattle.std.proofs.Common.{◌≡◌, inl, inr, Bool, true, false, if◌then◌else◌, Option, Some, length, refl, sym, ◌∙◌, ap, subst, arith, ℕ, ◌+◌, ◌-◌, ◌≤◌, nat_lt, not, ◌||◌, ◌==◌, None}
use Rattle.laws_chip.proofs.Common.{false≢true, Chrn, IsSizeCode, HasDataField, Past, FindsSector, Ending, Done, BadCheck, Sent, ending_told, Fdc, is_other, is_skipping, other_mark, Operation, Read, Write, MovingSector, Accounts, AreLeft, FindsBadField, FindsField, HasBadField, HasFieldIn, IsFieldDone, IsMarkOf, IsOfOther, Means, MeansJudged, bytes_moved, sent_of, front_judged as judged, ForSome, not-true, nat_tests, IsMotion, Seeks, ended, has_ended, has_ended_seek, is_seeking, neighbour, recalibrated, sought, stepped_seek, with_motion, Motion, Phase, Execute, is_executing, RestsIn, polled, seek_stepped, AdapterState, StepsAdapter, commands_stepped as stepped, DriveSeek as Seek}
use Rattle.laws_chip.proofs.Courses.{no_bytes}
use Rattle.laws_chip.proofs.Known.{BadGoes, clash, either_way, by_rests, polled_by}
use Rattle.laws_chip.proofs.Marks.{mark_then, then_bad, then_done}
use Rattle.fdc_commands.specs.declared.motion.Motion.TheVariants as motion

-- ---- the field

-- a read that found a sector found its field
found_field : (past : Past) (key : Chrn) (marked : Bool) → FindsSector past key past.given marked → FindsField past key marked
found_field past key marked (counted, (turn, p, q, found)) =
    let (at, field, is, intact) = found.finds in
    let same : at ≡ q = omega arith in
    (turn, p, q, record { among = found.among; address = found.address; field = subst (λ a. HasDataField turn p key.n a marked) same field })

done_field : (operation : Operation) (past : Past) (sent : Sent) (marked : Bool) → is_skipping operation ≡ true → Means operation past sent (Done marked) → FindsField past sent.key marked
done_field (Read wanted skip) past sent marked skips means = found_field past sent.key marked means
done_field (Write deleted) past sent marked skips means = absurd (false≢true skips)

-- a mark that isn't wanted is the other one
other_is : (operation : Operation) (marked : Bool) → is_other operation marked ≡ true → other_mark operation ≡ marked
other_is (Read true skip) false other = refl
other_is (Read false skip) true other = refl
other_is _ _ other = absurd (false≢true other)

-- the mark of a field whose CRC is wrong was known. A write never ends in this way
bad_known : (operation : Operation) (past : Past) (sent : Sent) (was : Option Bool) (fdc : Fdc) → BadGoes operation past sent.key was fdc → IsSizeCode sent.key.n → Means operation past sent BadCheck
    → ending_told fdc ≡ Some BadCheck → (marked : Bool) × (was ≡ Some marked) × FindsBadField past sent.key marked
bad_known (Read wanted skip) past sent was fdc bad sized means is = bad sized is
bad_known (Write deleted) past sent was fdc bad sized means is = absurd means.cause

has_bad : (operation : Operation) (past : Past) (key : Chrn) (mark : Option Bool) (marked : Bool) → mark ≡ Some marked → FindsBadField past key marked
    → (is_skipping operation ≡ true → is_other operation marked ≡ false) → HasBadField operation past key mark
has_bad (Read wanted skip) past key mark marked is found own = (marked, is, found, own)
has_bad (Write deleted) past key mark marked is found own = tt

-- ---- its ending

module _ (operation : Operation) (met : Bool) (moving : MovingSector) (past : Past) (was : Option Bool) (fdc : Fdc) (same : moving.transfer.opcode.operation ≡ operation)
    (accounts : Accounts operation met moving past (mark_then was fdc.phase)) (passes : is_skipping operation ≡ true → IsOfOther operation was → moving.left ≡ 0)
    (bad : BadGoes operation past moving.transfer.key was fdc) where
  abbrev sent : Sent
  sent = sent_of moving.transfer

  -- the mark that isn't wanted
  abbrev other : Bool
  other = other_mark moving.transfer.opcode.operation

  -- what an ending says, and its mark
  abbrev IsJudgedAs : Ending → Type 0
  IsJudgedAs ending = MeansJudged ending moving.skipped operation past sent (mark_then was fdc.phase) × IsMarkOf ending (mark_then was fdc.phase)

  done_judged : (marked : Bool) → ending_told fdc ≡ Some (Done marked) → Means operation past sent (Done marked) → IsJudgedAs (Done marked)
  done_judged marked is means = (by_left accounts.bytes, then_done was fdc.phase marked is)
    where
      by_left : AreLeft operation met moving (mark_then was fdc.phase) (bytes_moved operation past) → IsFieldDone moving.skipped operation past sent marked
      by_left (inl (own, passed, all)) = subst (λ b. IsFieldDone b operation past sent marked) (sym own) means
      by_left (inr (skipped, passed, skips, of_other, none, empty)) = subst (λ b. IsFieldDone b operation past sent marked) (sym skipped) (done_field operation past sent marked skips means)

  -- a field that is passed over has a wrong CRC
  bad_passed : moving.skipped ≡ true → ending_told fdc ≡ Some BadCheck → Means operation past sent BadCheck → FindsField past moving.transfer.key other × (mark_then was fdc.phase ≡ Some other)
  bad_passed skipped is means = by_left accounts.bytes
    where
      by_left : AreLeft operation met moving (mark_then was fdc.phase) (bytes_moved operation past) → FindsField past moving.transfer.key other × (mark_then was fdc.phase ≡ Some other)
      by_left (inl (own, passed, all)) = clash moving.skipped own skipped
      by_left (inr (set, passed, skips, (marked, here, unwanted), none, empty)) =
          let (known, known_is, (turn, p, q, field, broken)) = bad_known operation past sent was fdc bad accounts.sized means is in
          let stays = then_bad was fdc.phase is in
          let this : known ≡ marked = cc (known_is, stays, here) in
          let its : marked ≡ other = sym (other_is operation marked unwanted) ∙ ap other_mark (sym same) in
          ((turn, p, q, subst (λ m. HasFieldIn past moving.transfer.key m turn p q) (this ∙ its) field), here ∙ ap (λ m. Some m) its)

  -- another field has a wrong CRC: its mark is wanted, or fields of the other mark aren't passed over
  bad_counts : moving.skipped ≡ false → ending_told fdc ≡ Some BadCheck → Means operation past sent BadCheck → HasBadField operation past moving.transfer.key (mark_then was fdc.phase)
  bad_counts kept is means =
      let (marked, known_is, found) = bad_known operation past sent was fdc bad accounts.sized means is in
      has_bad operation past moving.transfer.key (mark_then was fdc.phase) marked (then_bad was fdc.phase is ∙ known_is) found
      (λ skips. either_way (is_other operation marked) (λ unwanted. absurd (not_other skips (marked, known_is, unwanted) accounts.bytes)) (λ wanted. wanted))
    where
      not_other : is_skipping operation ≡ true → IsOfOther operation was → AreLeft operation met moving (mark_then was fdc.phase) (bytes_moved operation past) → ⊥
      not_other skips of_other (inl (own, passed, all)) =
          let none = passes skips of_other in
          let empty = ap length (accounts.clean skips (subst (IsOfOther operation) (sym (then_bad was fdc.phase is)) of_other)) in
          no_bytes moving.transfer.key.n accounts.sized (omega arith)
      not_other skips of_other (inr (set, passed, skipping, met_other, none, empty)) = clash moving.skipped kept set

  pub judges : (ending : Ending) → ending_told fdc ≡ Some ending → Means operation past sent ending → IsJudgedAs (judged moving ending)
  judges (Done marked) is means = done_judged marked is means
  judges BadCheck is means = by_skipped moving.skipped refl
    where
      by_skipped : (b : Bool) → moving.skipped ≡ b → IsJudgedAs (if b then Done other else BadCheck)
      by_skipped true skipped =
          let (found, mark) = bad_passed skipped is means in (subst (λ b. IsFieldDone b operation past sent other) (sym skipped) found, mark)
      by_skipped false kept = ((kept, means, bad_counts kept is means), tt)
  judges ending is means = (means, tt)

-- ---- an implied seek ends: each device step brings it nearer

-- the device steps that a seek still takes
abbrev pub motion_left : Motion → ℕ
motion_left (motion.Outward pulses) = pulses + 1
motion_left (motion.Toward cylinder target) = (cylinder - target) + (target - cylinder) + 1
motion_left motion.Ended = 0

abbrev pub seek_left : Option Seek → ℕ
seek_left None = 0
seek_left (Some seek) = motion_left seek.motion

-- the seek is one device step nearer to its end, and it runs as long as it hasn't ended
pub record IsNearer (left : ℕ) (new : Seeks) : Type 0 where
  pub fewer : seek_left new.seek ≤ left - 1
  pub runs : has_ended_seek new ≡ false → is_seeking new ≡ true

ends_here : (old : Seeks) (drive cylinder status left : ℕ) → IsNearer left (ended old drive cylinder status)
ends_here old drive cylinder status left = record { fewer = omega arith; runs = λ none. absurd (false≢true (sym none)) }

goes_nearer : (old : Seeks) (drive : ℕ) (still : Motion) (left : ℕ) → motion_left still ≤ left - 1 → IsNearer left (with_motion old drive still)
goes_nearer old drive still left fewer = record { fewer = fewer; runs = λ none. ap not none }

neighbour_left : (cylinder target : ℕ) (b : Bool) → nat_lt cylinder target ≡ b → (cylinder == target) ≡ false
    → motion_left (motion.Toward (if b then cylinder + 1 else cylinder - 1) target) + 1 ≤ motion_left (motion.Toward cylinder target)
neighbour_left cylinder target true is differs = grind (arith, nat_tests)
neighbour_left cylinder target false is differs = grind (arith, nat_tests)

motion_nearer : (old : Seeks) (drive : ℕ) (was : Motion) (track0 : Bool) → has_ended was ≡ false → IsNearer (motion_left was) (stepped_seek old drive was track0)
motion_nearer old drive (motion.Outward pulses) track0 runs = by_last (track0 || (pulses == 0)) refl
  where
    by_last : (b : Bool) → (track0 || (pulses == 0)) ≡ b → IsNearer (motion_left (motion.Outward pulses)) (if b then ended old drive 0 (recalibrated drive track0) else with_motion old drive (motion.Outward (pulses - 1)))
    by_last true is = ends_here old drive 0 (recalibrated drive track0) (motion_left (motion.Outward pulses))
    by_last false is = goes_nearer old drive (motion.Outward (pulses - 1)) (motion_left (motion.Outward pulses)) (grind (arith, nat_tests))
motion_nearer old drive (motion.Toward cylinder target) track0 runs = by_there (cylinder == target) refl
  where
    by_there : (b : Bool) → (cylinder == target) ≡ b
        → IsNearer (motion_left (motion.Toward cylinder target)) (if b then ended old drive target (sought drive) else with_motion old drive (motion.Toward (neighbour cylinder target) target))
    by_there true is = ends_here old drive target (sought drive) (motion_left (motion.Toward cylinder target))
    by_there false is = goes_nearer old drive (motion.Toward (neighbour cylinder target) target) (motion_left (motion.Toward cylinder target))
        (let fewer = neighbour_left cylinder target (nat_lt cylinder target) refl is in omega arith)
motion_nearer old drive motion.Ended track0 runs = absurd (false≢true (sym runs))

seek_nearer : (old : Seeks) (track0 : Bool) → is_seeking old ≡ true → IsNearer (seek_left old.seek) (stepped old track0)
seek_nearer old track0 runs = by_seek old.seek runs
  where
    by_seek : (seek : Option Seek) → is_seeking (record old { seek = seek }) ≡ true → IsNearer (seek_left seek) (stepped (record old { seek = seek }) track0)
    by_seek None is = absurd (false≢true is)
    by_seek (Some seek) is = motion_nearer (record old { seek = Some seek }) seek.drive seek.motion track0 (not-true (has_ended seek.motion) is)

pub seek_some : (seeking : Seeks) → is_seeking seeking ≡ true → 1 ≤ seek_left seeking.seek
seek_some seeking runs = by_seek seeking.seek runs
  where
    by_motion : (still : Motion) → not (has_ended still) ≡ true → 1 ≤ motion_left still
    by_motion (motion.Outward pulses) is = omega arith
    by_motion (motion.Toward cylinder target) is = omega arith
    by_motion motion.Ended is = absurd (false≢true is)

    by_seek : (seek : Option Seek) → is_seeking (record seeking { seek = seek }) ≡ true → 1 ≤ seek_left seek
    by_seek None is = absurd (false≢true is)
    by_seek (Some seek) is = by_motion seek.motion is

motion_few : (still : Motion) → IsMotion still → motion_left still ≤ 256
motion_few (motion.Outward pulses) few = omega arith
motion_few (motion.Toward cylinder target) (first, second) = omega arith
motion_few motion.Ended is = omega arith

pub seek_few : (seek : Option Seek) → ForSome seek (λ s. IsMotion s.motion) → seek_left seek ≤ 256
seek_few None is = omega arith
seek_few (Some seek) is = motion_few seek.motion (is seek refl)

-- the poll changes nothing of this
record Polls (old polls : Fdc) : Type 0 where
  phase_is : polls.phase ≡ old.phase
  seek : polls.seeks.seek ≡ old.seeks.seek
  runs : is_seeking polls.seeks ≡ is_seeking old.seeks

polls_of : (old : Fdc) → Polls old (polled old)
polls_of old = polled_by (Polls old) old (record { phase_is = refl; seek = refl; runs = refl }) (record { phase_is = refl; seek = refl; runs = refl })

idle_rests : (phase : Phase) (track0 : Bool) (polls new : Fdc) → is_executing phase ≡ false → RestsIn phase track0 polls new → new ≡ seek_stepped track0 polls
idle_rests (Execute execution) track0 polls new idle rests = absurd (false≢true (sym idle))
idle_rests _ track0 polls new idle rests = rests

-- a device step while a seek runs
pub record NearsEnd (old new : Fdc) : Type 0 where
  pub idle : is_executing new.phase ≡ false
  pub nearer : IsNearer (seek_left old.seeks.seek) new.seeks

rests_on : (old new : Fdc) (track0 : Bool) → is_executing old.phase ≡ false → is_seeking old.seeks ≡ true → RestsIn (polled old).phase track0 (polled old) new → NearsEnd old new
rests_on old new track0 idle runs rests =
    let polls = polls_of old in
    let is = idle_rests (polled old).phase track0 (polled old) new (ap is_executing polls.phase_is ∙ idle) rests in
    let near = seek_nearer (polled old).seeks track0 (polls.runs ∙ runs) in
    record {
      idle = ap (λ fdc. is_executing fdc.phase) is ∙ (ap is_executing polls.phase_is ∙ idle);
      nearer = subst (λ fdc. IsNearer (seek_left old.seeks.seek) fdc.seeks) (sym is) (subst (λ seek. IsNearer (seek_left seek) (stepped (polled old).seeks track0)) polls.seek near);
    }

pub adapter_seeks : (old new : AdapterState) → StepsAdapter old new → is_executing old.controller.phase ≡ false → is_seeking old.controller.seeks ≡ true → NearsEnd old.controller new.controller
adapter_seeks old new steps idle runs = by_rests old new steps (λ track0 rests. rests_on old.controller new.controller track0 idle runs rests)
