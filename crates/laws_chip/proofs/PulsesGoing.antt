-- Seeks whose pulses come in the time that SPECIFY sets: a device step, and the command that ends them.
use Rattle.std.proofs.Common.{◌≡◌, ◌⊎◌, inl, inr, ℕ, suc, ◌+◌, ◌-◌, ◌*◌, ◌%◌, ◌^◌, ◌<◌, ◌≤◌, max, min, nat_le, nat_lt, Bool, true, false, not, ◌&&◌, ◌||◌, ◌==◌, if◌then◌else◌, Option, Some, None, is_none, is_some, List, [], ◌∷◌, length, slice_index, slice_set, unwrap_or, bit_and, bit_or, refl, sym, ◌∙◌, ap, subst, arith}
use Rattle.laws_chip.proofs.Common.{option_map_or, mul-le-mul_right, suc-mul, and_from, and_right, eqb-false, leb-false, or_parts, or_right, nat_tests, pulses_within, seek_bits, sought, stepped_seek, with_motion, with_polls, Motion, Outward, Toward, DriveSeek, Taking, IsInRange, is_held, Rests, polled, seek_stepped, is_idle, Fdc, lines_at, Front, GivesCommand, is_ready, status_at, with_controller, StepsFront, recalibrated_at, recalibrated_outside, Through, ChipState, with_front, drained, is_moving, is_told, moves_heads, moving, pace_begun, GoesOnIf, Paces, PulsesIf, is_due, target_of, step_words, PacedSeek, ChipStage, GoesBehind, HeadsPaced, StandsBehind, most_left, pulses_left, pulses_to, GoesTo, HeadsGo, SeeksBehind, most_of, steps_left, IsSound, EndsPace as EndsAt, is_over_pace as is_over, chip_stepped as stepped, Seeks as Seeking}
use Rattle.fdc_chip.specs.Paces.{GoesOn}
use Rattle.laws_chip.proofs.HeadsGoing.{HasEnded, bare, ended_untold, front_steps, neighbour_left, none_drained, none_pending, rests_by_line, status_in, told_at}
use Rattle.laws_chip.proofs.Known.{adapter_stays}
use Rattle.laws_chip.proofs.Rests.{taking_stays, through_step}
use Rattle.laws_chip.proofs.SeeksBegun.{given_seek, given_within, motion_to, seek_sent}
use Rattle.laws_chip.proofs.UnderWay.{Stands, stands_idle, stands_ready, status_free}

-- ---- pulses

none_fewer : (cylinder left : ℕ) (b : Bool) → nat_lt cylinder 0 ≡ b → (cylinder == 0) ≡ false → (left == 0) ≡ false → min (if b then cylinder + 1 else cylinder - 1) (left - 1) + 1 ≤ min cylinder left
none_fewer cylinder left true is some given = grind (arith, nat_tests)
none_fewer cylinder left false is some given =
    let inward : cylinder ≡ 0 → ⊥ = eqb-false cylinder 0 some in
    let more : left ≡ 0 → ⊥ = eqb-false left 0 given in
    omega arith

fewer_to : (goal : Option ℕ) (cylinder left : ℕ) → ((cylinder == unwrap_or goal 0) || (is_none goal && (left == 0))) ≡ false
    → pulses_to goal (if nat_lt cylinder (unwrap_or goal 0) then cylinder + 1 else cylinder - 1) (left - 1) + 1 ≤ pulses_to goal cylinder left
fewer_to (Some target) cylinder left goes =
    let (differs, rest) = or_parts (cylinder == target) false goes in
    let nearer = neighbour_left cylinder target (nat_lt cylinder target) refl differs in
    omega arith
fewer_to None cylinder left goes = let (some, given) = or_parts (cylinder == 0) (left == 0) goes in
    none_fewer cylinder left (nat_lt cylinder 0) refl some given

pub few_pulses : (unit cylinder : ℕ) (goal : Option ℕ) → cylinder < 256 → unwrap_or goal 0 < 256 → pulses_left (pace_begun unit cylinder goal) ≤ 255
few_pulses unit cylinder None few small = omega arith
few_pulses unit cylinder (Some target) few small = omega arith

pub few_outward : (unit cylinder : ℕ) → pulses_left (pace_begun unit cylinder None) ≤ 79
few_outward unit cylinder = omega arith

-- each pulse leaves one fewer
pub fewer_left : (words : ℕ) (pace : PacedSeek) → is_over pace ≡ false → pulses_left (stepped words pace) + 1 ≤ pulses_left pace
fewer_left words pace goes = fewer_to pace.goal pace.cylinder pace.left goes

-- a pulse leads to a cylinder beside this one, and its SEEK takes two device steps
two_steps : (cylinder : ℕ) (b : Bool) → steps_left (Toward cylinder (if b then cylinder + 1 else cylinder - 1)) ≤ 2
two_steps cylinder true = omega arith
two_steps cylinder false = omega arith

-- what is left after a pulse
after_pulse : (pulses before words apart wait behind left : ℕ) → pulses + 1 ≤ before → max wait (behind + 1) + apart + before * max words 2 ≤ left + 1 → max words (apart + 1 + 1) + 0 + pulses * max words 2 ≤ left
after_pulse pulses before words apart wait behind left fewer within =
    let k = max words 2 in
    let all : suc pulses * k ≤ before * k = mul-le-mul_right k (omega arith) in
    let split = suc-mul pulses k in
    omega (arith, all, split, within)

-- ---- the inner controller where it stands

pub stands_status : (apart drive cylinder : ℕ) (front : Front) → StandsBehind apart drive cylinder front → moves_heads front ≡ false
stands_status apart drive cylinder front is =
    let fdc = front.adapter.controller in
    ap (λ stage. not (bit_and (status_at stage fdc) 0x0F == 0)) is.through
    ∙ (ap (λ status. not (bit_and status 0x0F == 0)) (status_free fdc is.free is.takes is.whole)
    ∙ ap (λ (s : Option DriveSeek). not (bit_and (bit_or 0x80 (option_map_or (λ (d : DriveSeek). 2 ^ d.drive) s 0)) 0x0F == 0)) is.seek)

stands_for : (apart drive cylinder : ℕ) (front : Front) → front.adapter.controller.non_dma ≡ false → StandsBehind apart drive cylinder front → Stands front
stands_for apart drive cylinder front by_dma is = record {
  through = is.through;
  takes = is.takes;
  none = is.whole;
  free = is.free;
  rests = ap (λ (s : Option DriveSeek). option_map_or (λ (d : DriveSeek). 2 ^ d.drive) s 0) is.seek;
  by_dma = by_dma;
}

-- a device step leaves it
fdc_stands : (track0 : Bool) (old new : Fdc) → old.phase ≡ Taking → old.poll_due ≡ false → Rests track0 (polled old) new → new ≡ seek_stepped track0 old
fdc_stands track0 old new takes none rests =
    taking_stays track0 old new takes rests
    ∙ ap (λ b. seek_stepped track0 (if b && not (is_held old) then record old { poll_due = false; interrupt = true; seeks = with_polls old.seeks } else old)) none

front_stands : (apart drive cylinder : ℕ) (old new : Front) → StepsFront old new → StandsBehind apart drive cylinder old → StandsBehind apart drive cylinder new
front_stands apart drive cylinder old new step was =
    let fdc = old.adapter.controller in
    let now = step.between.controller in
    let is = fdc_stands (lines_at old.adapter).track0 fdc now was.takes was.polled (rests_by_line old.adapter step.between step.steps) in
    let seeks : now.seeks ≡ fdc.seeks = ap (λ (f : Fdc). f.seeks) is
    ∙ ap (λ (s : Option DriveSeek). option_map_or (λ (d : DriveSeek). stepped_seek fdc.seeks d.drive d.motion (lines_at old.adapter).track0) s fdc.seeks) was.seek in
    subst (StandsBehind apart drive cylinder) (sym (through_step old new step was.through)) (record {
      through = was.through;
      takes = ap (λ (f : Fdc). f.phase) is ∙ was.takes;
      whole = ap (λ (f : Fdc). f.command) is ∙ was.whole;
      free = ap is_held is ∙ was.free;
      polled = ap (λ (f : Fdc). f.poll_due) is ∙ was.polled;
      seek = ap (λ (s : Seeking). s.seek) seeks ∙ was.seek;
      pending = ap (λ (s : Seeking). s.pending) seeks ∙ was.pending;
      four = ap (λ (s : Seeking). length s.cylinders) seeks ∙ was.four;
      counts = subst (λ (s : Seeking). (slice_index s.cylinders drive ≡ cylinder) ⊎ (254 ≤ apart)) (sym seeks) was.counts;
    })

-- ---- a front that has no result

-- the controller takes commands, and no result is pending
pub record IsCalm (front : Front) : Type 0 where
  pub through : front.stage ≡ Through
  pub takes : front.adapter.controller.phase ≡ Taking
  pub whole : front.adapter.controller.command ≡ []
  pub free : is_held front.adapter.controller ≡ false
  pub pending : front.adapter.controller.seeks.pending ≡ none_pending

pub calm_drained : (chip : ChipState) → IsCalm chip.front → drained chip ≡ chip
calm_drained chip is = none_drained chip is.through is.takes is.whole is.free is.pending

pub stands_calm : (apart drive cylinder : ℕ) (front : Front) → StandsBehind apart drive cylinder front → IsCalm front
stands_calm apart drive cylinder front is = record { through = is.through; takes = is.takes; whole = is.whole; free = is.free; pending = is.pending }

pub seeks_calm : (left drive : ℕ) (goal : Option ℕ) (front : Front) → SeeksBehind left drive goal front → IsCalm front
seeks_calm left drive goal front is = record { through = is.through; takes = is.takes; whole = is.whole; free = is.free; pending = is.pending }

pub behind_calm : (behind apart drive cylinder : ℕ) (front : Front) → GoesBehind behind apart drive cylinder front → IsCalm front
behind_calm behind apart drive cylinder front (inl is) = stands_calm apart drive cylinder front is
behind_calm behind apart drive cylinder front (inr is) = seeks_calm (behind + 1) drive (Some cylinder) front is

-- ---- ---- results of single pulses

sought_untold : (pace : PacedSeek) (drive : ℕ) → drive ≤ 3 → is_told (Some pace) (sought drive) ≡ false
sought_untold pace (suc (suc (suc (suc drive)))) few = absurd (omega arith)
sought_untold pace _ few = refl

set_four : (drive target : ℕ) (cylinders : List ℕ) → drive ≤ 3 → length cylinders ≡ 4 → length (slice_set cylinders drive target) ≡ 4
set_four (suc (suc (suc (suc drive)))) target (a ∷ b ∷ c ∷ d ∷ []) few four = absurd (omega arith)
set_four _ target (a ∷ b ∷ c ∷ d ∷ []) few four = refl
set_four drive target _ few four = absurd (omega arith)

-- the seek of a single pulse has ended, and its result was taken over
ended_stands : (drive status cylinder : ℕ) (cylinders : List ℕ) (chip : ChipState) → drive ≤ 3 → HasEnded drive status cylinder cylinders chip.front
    → StandsBehind 0 drive cylinder (bare (slice_set cylinders drive cylinder) None false false chip).front
ended_stands drive status cylinder cylinders chip few is = record {
  through = refl;
  takes = refl;
  whole = refl;
  free = is.free;
  polled = refl;
  seek = refl;
  pending = refl;
  four = set_four drive cylinder cylinders few is.four;
  counts = inl (told_at drive cylinder cylinders few is.four);
}

-- after the device step and the results that are taken over, the inner controller stands, or its seek goes on with a
-- step fewer
record GoesOver (behind apart drive cylinder : ℕ) (old : Front) (chip : ChipState) : Type 0 where
  front : Front
  is : drained chip ≡ with_front front chip
  by_dma : front.adapter.controller.non_dma ≡ old.adapter.controller.non_dma
  going : ((now : ℕ) × StandsBehind now drive cylinder front × (now ≤ apart)) ⊎ SeeksBehind behind drive (Some cylinder) front

-- a seek that goes on takes one device step at least
some_behind : (behind drive cylinder : ℕ) (front : Front) → SeeksBehind behind drive (Some cylinder) front → behind ≡ behind - 1 + 1
some_behind behind drive cylinder front is = by_motion is.motion is.goes is.within
  where
    by_motion : (motion : Motion) → GoesTo (Some cylinder) motion → steps_left motion ≤ behind → behind ≡ behind - 1 + 1
    by_motion (Toward from target) goes few = omega arith
    by_motion _ goes few = absurd goes

step_dma : (old new : Front) (step : StepsFront old new) → old.stage ≡ Through → new.adapter.controller.non_dma ≡ old.adapter.controller.non_dma
step_dma old new step through =
    ap (λ (f : Front). f.adapter.controller.non_dma) (through_step old new step through) ∙ (adapter_stays old.adapter step.between step.steps).non_dma

goes_over : (behind apart drive cylinder : ℕ) (pace : PacedSeek) (old : Front) (chip : ChipState) → drive ≤ 3 → chip.pace ≡ Some pace → StepsFront old chip.front → GoesBehind behind apart drive cylinder old
    → GoesOver behind apart drive cylinder old chip
goes_over behind apart drive cylinder pace old chip few paced step (inl was) =
    let now = front_stands apart drive cylinder old chip.front step was in
    record {
      front = chip.front;
      is = calm_drained chip (stands_calm apart drive cylinder chip.front now);
      by_dma = step_dma old chip.front step was.through;
      going = inl (apart, now, omega arith);
    }
goes_over behind apart drive cylinder pace old chip few paced step (inr was) = elim (front_steps behind drive (Some cylinder) old chip.front step was) [
  | inl now ↦ record {
    front = chip.front;
    is = calm_drained chip (seeks_calm behind drive (Some cylinder) chip.front now);
    by_dma = step_dma old chip.front step was.through;
    going = inr now;
  }
  | inr ended ↦
      let status = status_in (Some cylinder) drive old in
      let cylinders = old.adapter.controller.seeks.cylinders in
      let untold : is_told chip.pace status ≡ false = ap (λ p. is_told p status) paced ∙ sought_untold pace drive few in
      record {
        front = (bare (slice_set cylinders drive cylinder) None false false chip).front;
        is = ended_untold drive status cylinder cylinders chip few ended untold;
        by_dma = step_dma old chip.front step was.through;
        going = inl (0, ended_stands drive status cylinder cylinders chip few ended, omega arith);
      }
]

-- ---- ---- what the chip does then

-- what is known of the inner controller's numbers, once the chip has done its part of the device step
abbrev pub RangesLater : ChipState → Type 0
RangesLater paced = IsCalm paced.front → is_moving paced ≡ true → IsInRange paced.front.adapter.controller

-- pulses are still to come, or the command that ends the seek is under way
abbrev pub PacedOrGo : ℕ → ℕ → Option ℕ → ChipStage → ChipState → Type 0
PacedOrGo left drive goal stage new = HeadsPaced left drive goal stage new ⊎ HeadsGo (most_of goal) drive goal stage new

-- the inner controller is given a SEEK
sent_calm : (unit target : ℕ) (start new : Front) → Stands start → start.adapter.controller.seeks.pending ≡ none_pending → GivesCommand (moving unit (Some target)) start new → IsCalm new
sent_calm unit target start new stands none gives =
    let (through, is) = seek_sent unit target start new stands gives in
    record {
      through = through;
      takes = ap (λ (fdc : Fdc). fdc.phase) is ∙ stands.takes;
      whole = ap (λ (fdc : Fdc). fdc.command) is;
      free = ap is_held is ∙ stands.free;
      pending = ap (λ (fdc : Fdc). fdc.seeks.pending) is ∙ none;
    }

pub bits_shown : (drive : ℕ) → drive ≤ 3 → not (bit_and (bit_or 0x80 (2 ^ drive)) 0x0F == 0) ≡ true
bits_shown (suc (suc (suc (suc drive)))) few = absurd (omega arith)
bits_shown _ few = refl

-- a seek bit is set
bit_moves : (front : Front) (seek : DriveSeek) → seek.drive ≤ 3 → IsCalm front → front.adapter.controller.seeks.seek ≡ Some seek → moves_heads front ≡ true
bit_moves front seek few is of =
    let fdc = front.adapter.controller in
    ap (λ stage. not (bit_and (status_at stage fdc) 0x0F == 0)) is.through
    ∙ (ap (λ status. not (bit_and status 0x0F == 0)) (status_free fdc is.free is.takes is.whole)
    ∙ (ap (λ (s : Option DriveSeek). not (bit_and (bit_or 0x80 (option_map_or (λ (d : DriveSeek). 2 ^ d.drive) s 0)) 0x0F == 0)) of ∙ bits_shown seek.drive few))

pub seeks_move : (left drive : ℕ) (goal : Option ℕ) (front : Front) → drive ≤ 3 → SeeksBehind left drive goal front → moves_heads front ≡ true
seeks_move left drive goal front few is = bit_moves front (record { drive = drive; motion = is.motion }) few (seeks_calm left drive goal front is) is.seek

-- a pulse is given
pulse_given : (behind apart left : ℕ) (pace : PacedSeek) (drive : ℕ) (goal : Option ℕ) (stage : ChipStage) (old new : ChipState) → drive ≤ 3 → pace.unit % 4 ≡ drive → pace.goal ≡ goal → old.stage ≡ stage → Stands old.front
    → StandsBehind apart drive pace.cylinder old.front → most_left behind apart (step_words old.settings) pace ≤ left + 1 → is_over pace ≡ false → RangesLater new
    → PulsesIf false pace old new → HeadsPaced left drive goal stage new
pulse_given behind apart left pace drive goal stage old new few drive_is goal_is at stands was within goes ranges (gives, rest) =
    let words = step_words old.settings in
    let next = stepped words pace in
    let unit = pace.unit in
    let calm = sent_calm unit next.cylinder old.front new.front stands was.pending gives in
    let moves : is_moving new ≡ true = ap (λ (chip : ChipState). is_some chip.pace || moves_heads new.front) rest in
    let range = ranges calm moves in
    let settings : step_words new.settings ≡ words = ap (λ (chip : ChipState). step_words chip.settings) rest in
    let few_steps : steps_left (motion_to unit next.cylinder old.front) ≤ apart + 1 + 1 = elim was.counts [
      | inl same ↦
          let two : steps_left (Toward pace.cylinder next.cylinder) ≤ 2 = two_steps pace.cylinder (nat_lt pace.cylinder (target_of pace)) in
          let is : slice_index old.front.adapter.controller.seeks.cylinders (unit % 4) ≡ pace.cylinder = ap (slice_index old.front.adapter.controller.seeks.cylinders) drive_is ∙ same in
          let exact : steps_left (motion_to unit next.cylinder old.front) ≤ 2 = subst (λ c. steps_left (Toward c next.cylinder) ≤ 2) (sym is) two in
          omega (arith, exact)
      | inr many ↦ let most = given_within unit next.cylinder old.front new.front stands range gives in omega (arith, most, many)
    ] in
    record {
      at = ap (λ (chip : ChipState). chip.stage) rest ∙ at;
      few = few;
      pace = next;
      paced = ap (λ (chip : ChipState). chip.pace) rest;
      drive_is = drive_is;
      goal_is = goal_is;
      behind = apart + 1;
      apart = 0;
      going = inr (subst (λ d. SeeksBehind (apart + 1 + 1) d (Some next.cylinder) new.front) drive_is
          (given_seek (apart + 1 + 1) unit next.cylinder old.front new.front stands was.pending was.polled range gives few_steps));
      within = subst (λ n. most_left (apart + 1) 0 n next ≤ left) (sym settings)
          (after_pulse (pulses_left next) (pulses_left pace) words apart pace.wait behind left (fewer_left words pace goes) within);
    }

-- a RECALIBRATE gives at most 79 pulses
within_all : (pulses : ℕ) → pulses_within pulses ≤ 79
within_all pulses = by_few (nat_lt pulses 79) refl
  where
    by_few : (b : Bool) → nat_lt pulses 79 ≡ b → (if b then pulses else 79) ≤ 79
    by_few true is = grind (arith, nat_tests)
    by_few false is = omega arith

-- the command that ends the seek is given
end_given : (goal : Option ℕ) (apart : ℕ) (pace : PacedSeek) (drive : ℕ) (stage : ChipStage) (old new : ChipState) → drive ≤ 3 → pace.unit % 4 ≡ drive → old.stage ≡ stage → Stands old.front
    → StandsBehind apart drive pace.cylinder old.front → RangesLater new → EndsAt goal pace (record old { pace = None }) new → HeadsGo (most_of goal) drive goal stage new
end_given (Some target) apart pace drive stage old new few drive_is at stands was ranges (gives, rest) =
    let unit = pace.unit in
    let calm = sent_calm unit target old.front new.front stands was.pending gives in
    let seek = ap (λ (fdc : Fdc). fdc.seeks.seek) (seek_sent unit target old.front new.front stands gives).1 in
    let moves : is_moving new ≡ true = or_right (is_some new.pace) (moves_heads new.front)
    (bit_moves new.front (record { drive = unit % 4; motion = motion_to unit target old.front }) (omega arith) calm seek) in
    let range = ranges calm moves in
    record {
      at = ap (λ (chip : ChipState). chip.stage) rest ∙ at;
      unpaced = ap (λ (chip : ChipState). chip.pace) rest;
      few = few;
      going = subst (λ d. SeeksBehind 256 d (Some target) new.front) drive_is
          (given_seek 256 unit target old.front new.front stands was.pending was.polled range gives (given_within unit target old.front new.front stands range gives));
    }
end_given None apart pace drive stage old new few drive_is at stands was ranges is =
    let fdc = old.front.adapter.controller in
    let unit = pace.unit in
    let may : (is_idle fdc && (seek_bits fdc.seeks == 0)) ≡ true = and_from (is_idle fdc) (seek_bits fdc.seeks == 0) (stands_idle old.front stands) (ap (λ n. n == 0) stands.rests) in
    let set : Fdc = record fdc { seeks = with_motion fdc.seeks (unit % 4) (Outward (pulses_within pace.left)) } in
    let front : recalibrated_outside unit pace.left old.front ≡ record old.front { adapter = with_controller set old.front.adapter } =
    ap (λ s. recalibrated_at s unit pace.left old.front) stands.through ∙ ap (λ b. record old.front { adapter = with_controller (if b then set else fdc) old.front.adapter }) may in
    let same : new ≡ with_front (record old.front { adapter = with_controller set old.front.adapter }) (record old { pace = None }) = is ∙ ap (λ (f : Front). with_front f (record old { pace = None })) front in
    let most = within_all pace.left in
    subst (HeadsGo 80 drive None stage) (sym same) (record {
      at = at;
      unpaced = refl;
      few = few;
      going = record {
        through = was.through;
        takes = was.takes;
        whole = was.whole;
        free = was.free;
        polled = was.polled;
        motion = Outward (pulses_within pace.left);
        seek = ap (λ d. Some (record { drive = d; motion = Outward (pulses_within pace.left) })) drive_is;
        goes = tt;
        within = omega (arith, most);
        pending = was.pending;
        four = was.four;
      };
    })

-- ---- a device step

-- a pulse is due
pulses_on : (b : Bool) (behind apart left : ℕ) (pace : PacedSeek) (drive : ℕ) (goal : Option ℕ) (stage : ChipStage) (old new : ChipState) → drive ≤ 3 → pace.unit % 4 ≡ drive → pace.goal ≡ goal → old.stage ≡ stage
    → Stands old.front → StandsBehind apart drive pace.cylinder old.front → most_left behind apart (step_words old.settings) pace ≤ left + 1 → is_over pace ≡ b → RangesLater new
    → PulsesIf b pace old new → PacedOrGo left drive goal stage new
pulses_on true behind apart left pace drive goal stage old new few drive_is goal_is at stands was within over ranges ends =
    inr (end_given goal apart pace drive stage old new few drive_is at stands was ranges (subst (λ g. EndsAt g pace (record old { pace = None }) new) goal_is ends))
pulses_on false behind apart left pace drive goal stage old new few drive_is goal_is at stands was within over ranges pulses =
    inl (pulse_given behind apart left pace drive goal stage old new few drive_is goal_is at stands was within over ranges pulses)

-- the time to the next pulse goes on
waits_on : (behind apart left : ℕ) (pace : PacedSeek) (drive : ℕ) (goal : Option ℕ) (stage : ChipStage) (old new : ChipState) → drive ≤ 3 → pace.unit % 4 ≡ drive → pace.goal ≡ goal → old.stage ≡ stage
    → GoesBehind behind apart drive pace.cylinder old.front → most_left behind apart (step_words old.settings) (record pace { wait = pace.wait - 1 }) ≤ left → new ≡ record old { pace = Some (record pace { wait = pace.wait - 1 }) }
    → HeadsPaced left drive goal stage new
waits_on behind apart left pace drive goal stage old new few drive_is goal_is at going within is = subst (HeadsPaced left drive goal stage) (sym is) (record {
  at = at;
  few = few;
  pace = record pace { wait = pace.wait - 1 };
  paced = refl;
  drive_is = drive_is;
  goal_is = goal_is;
  behind = behind;
  apart = apart;
  going = going;
  within = within;
})

-- where the inner controller stands a pulse is due as soon as its time is over
ready_due : (apart drive cylinder : ℕ) (pace : PacedSeek) (chip : ChipState) → Stands chip.front → StandsBehind apart drive cylinder chip.front → is_due pace chip ≡ nat_le pace.wait 1
ready_due apart drive cylinder pace chip stands was =
    let ready = stands_ready chip.front stands in
    ap (λ b. (nat_le pace.wait 1 && b) && not (moves_heads chip.front)) ready
    ∙ (ap (λ b. (nat_le pace.wait 1 && true) && not b) (stands_status apart drive cylinder chip.front was) ∙ both (nat_le pace.wait 1))
  where
    both : (b : Bool) → ((b && true) && true) ≡ b
    both true = refl
    both false = refl

stands_on : (behind apart left : ℕ) (pace : PacedSeek) (drive : ℕ) (goal : Option ℕ) (stage : ChipStage) (old new : ChipState) → drive ≤ 3 → pace.unit % 4 ≡ drive → pace.goal ≡ goal → old.stage ≡ stage
    → Stands old.front → StandsBehind apart drive pace.cylinder old.front → most_left behind apart (step_words old.settings) pace ≤ left + 1 → RangesLater new → GoesOn pace old new
    → PacedOrGo left drive goal stage new
stands_on behind apart left pace drive goal stage old new few drive_is goal_is at stands was within ranges goes =
    by_due (nat_le pace.wait 1) refl (subst (λ b. GoesOnIf b pace old new) (ready_due apart drive pace.cylinder pace old stands was) goes)
  where
    by_due : (b : Bool) → nat_le pace.wait 1 ≡ b → GoesOnIf b pace old new → PacedOrGo left drive goal stage new
    by_due true due pulses = pulses_on (is_over pace) behind apart left pace drive goal stage old new few drive_is goal_is at stands was within refl ranges pulses
    by_due false due is =
        let some = leb-false pace.wait 1 due in
        inl (waits_on 0 apart left pace drive goal stage old new few drive_is goal_is at (inl was) (omega arith) is)

moves_on : (behind apart left : ℕ) (pace : PacedSeek) (drive : ℕ) (goal : Option ℕ) (stage : ChipStage) (old new : ChipState) → drive ≤ 3 → pace.unit % 4 ≡ drive → pace.goal ≡ goal → old.stage ≡ stage
    → SeeksBehind behind drive (Some pace.cylinder) old.front → most_left behind apart (step_words old.settings) pace ≤ left + 1 → GoesOn pace old new → HeadsPaced left drive goal stage new
moves_on behind apart left pace drive goal stage old new few drive_is goal_is at was within goes =
    let moves = seeks_move behind drive (Some pace.cylinder) old.front few was in
    let undue : is_due pace old ≡ false = and_right (nat_le pace.wait 1 && is_ready old.front) (not (moves_heads old.front)) (ap not moves) in
    let some = some_behind behind drive pace.cylinder old.front was in
    waits_on (behind - 1) apart left pace drive goal stage old new few drive_is goal_is at (inr (subst (λ n. SeeksBehind n drive (Some pace.cylinder) old.front) some was))
    (omega arith) (subst (λ b. GoesOnIf b pace old new) undue goes)

-- what the chip does of the seek in a device step
pub paced_step : (left drive : ℕ) (goal : Option ℕ) (stage : ChipStage) (old paced : ChipState) (between : Front) → IsSound old → HeadsPaced (left + 1) drive goal stage old → StepsFront old.front between
    → Paces old.pace (with_front between old) paced → RangesLater paced → PacedOrGo left drive goal stage paced
paced_step left drive goal stage old paced between sound was step paces ranges =
    let pace = was.pace in
    let set = with_front between old in
    let over = goes_over was.behind was.apart drive pace.cylinder pace old.front set was.few was.paced step was.going in
    let chip = with_front over.front set in
    let goes : GoesOn pace chip paced = subst (λ c. GoesOn pace c paced) over.is (subst (λ p. Paces p set paced) was.paced paces) in
    let all = pulses_left pace * max (step_words old.settings) 2 in
    elim over.going [
      | inl (now, stands, few) ↦ stands_on was.behind now left pace drive goal stage chip paced was.few was.drive_is was.goal_is was.at
          (stands_for now drive pace.cylinder over.front (over.by_dma ∙ sound.by_dma) stands) stands (omega arith) ranges goes
      | inr seeks ↦ inl (moves_on was.behind was.apart left pace drive goal stage chip paced was.few was.drive_is was.goal_is was.at seeks was.within goes)
    ]

pub paced_some : (drive : ℕ) (goal : Option ℕ) (stage : ChipStage) (chip : ChipState) → HeadsPaced 0 drive goal stage chip → ⊥
paced_some drive goal stage chip was = let none = was.within in absurd (omega (arith, none))
