-- A held command waits for heads, whatever seek they make: each device step leaves fewer, and other calls leave as many.
use Rattle.std.proofs.Common.{◌≡◌, ◌⊎◌, inl, inr, ℕ, ◌+◌, ◌-◌, ◌*◌, ◌≤◌, Bool, true, false, ◌||◌, Option, Some, None, is_some, [], length, refl, sym, ◌∙◌, ap, subst, arith, ◌<◌, slice_index, slice_set, unwrap_or}
use Rattle.laws_chip.proofs.Common.{and_from, has_ended_seek, DriveSeek, IsInRange, Fdc, ChipState, with_front, code_of, AttendsIf, drained, implies, is_moving, moves_heads, needs_heads, GoesOnIf, Paces, PulsesIf, is_due, step_words, StepsChip, ChipOpcode, Order, PacedSeek, Settings, Held, IsDoneFree, IsHeldFor, HeadsMove, heads_of, heads_steps, seek_steps, Call, Does, is_reset, is_step, is_of_data_port, IsSound, RestsBehind, waits_for_heads, EndsPace as EndsAt, is_over_pace as is_over, Seeks as Seeking, or_from, or_right, interrupts_outside, CollectsIf, ComesIf, TakesByte, WritesChip, may_come, with_next, Follows, ChipStage, Ready, Completes, completed, still_moves, GoesBehind, HeadsPaced, StandsBehind, completes, most_left, HeadsGo, IsSoundInRange, SeeksBehind, most_of}
use Rattle.laws_chip.proofs.HeadsLeft.{IsFewLater, IsPaced, drained_settings, moves_some, paces_on}
use Rattle.laws_chip.proofs.HeadsTold.{drained_left, drained_runs, drained_same, runs_tells}
use Rattle.laws_chip.proofs.Rests.{drained_rests}
use Rattle.laws_chip.proofs.SeeksBegun.{IsIdleAt, all_taken, motion_within}
use Rattle.laws_chip.proofs.SoundParts.{at_rest, is_busy, is_ready, sound_basis}
use Rattle.laws_chip.proofs.UnderWay.{either_way}
use Rattle.laws_chip.proofs.WholeTransfers.{attended_free, drained_pace, follows_held, step_attends, step_rests, KeepsHeads, call_heads, attending, byte_attends, left_free}
use Rattle.laws_chip.proofs.HeadsGoing.{either_same, ended_drained, front_steps, going_drained, status_in, stood, stood_stands}
use Rattle.laws_chip.proofs.PulsesGoing.{IsCalm, RangesLater, behind_calm, calm_drained, paced_step, seeks_calm, seeks_move}

-- ---- numbers

pub range_steps : (fdc : Fdc) → IsInRange fdc → seek_steps fdc.seeks.seek ≤ 256
range_steps fdc range = by_seek fdc.seeks.seek refl
  where
    by_seek : (seek : Option DriveSeek) → fdc.seeks.seek ≡ seek → seek_steps seek ≤ 256
    by_seek None is = omega arith
    by_seek (Some seek) is = motion_within seek.motion (range.seeks.motion seek is)

-- a seek of fewer device steps leaves fewer
pub heads_less : (words n : ℕ) (pace : Option PacedSeek) (now was : Option DriveSeek) → seek_steps now ≤ seek_steps was → heads_steps words pace was ≤ n → heads_steps words pace now ≤ n
heads_less words n None now was few within = omega arith
heads_less words n (Some pace) now was few within =
    (omega arith)

-- ---- calls that leave the heads as they are

heads_are : (old new : ChipState) → KeepsHeads old new → heads_of new ≡ heads_of old
heads_are old new keeps =
    ap (λ (s : Settings). heads_steps (step_words s) new.pace new.front.adapter.controller.seeks.seek) keeps.settings
    ∙ (ap (λ (p : Option PacedSeek). heads_steps (step_words old.settings) p new.front.adapter.controller.seeks.seek) keeps.pace
    ∙ ap (λ (s : Seeking). heads_steps (step_words old.settings) old.pace s.seek) keeps.left.seeks)

pub move_call : (left : ℕ) (call : Call) (old new : ChipState) → old.stage ≡ Held → Does call old new → is_step call ≡ false → is_reset call ≡ false → is_of_data_port call ≡ false → HeadsMove left old → HeadsMove left new
move_call left call old new at does no_step quiet other was = record {
  runs = ap has_ended_seek (call_heads call old new (ap waits_for_heads at) does no_step quiet other).left.seeks ∙ was.runs;
  some = subst (λ n. 1 ≤ n) (sym (heads_are old new (call_heads call old new (ap waits_for_heads at) does no_step quiet other))) was.some;
  within = subst (λ n. n ≤ left) (sym (heads_are old new (call_heads call old new (ap waits_for_heads at) does no_step quiet other))) was.within;
}

-- ---- pulses leave the settings

ends_settings : (goal : Option ℕ) (pace : PacedSeek) (old new : ChipState) → EndsAt goal pace old new → new.settings ≡ old.settings
ends_settings (Some target) pace old new (gives, rest) = ap (λ (chip : ChipState). chip.settings) rest
ends_settings None pace old new is = ap (λ (chip : ChipState). chip.settings) is

pulses_settings : (b : Bool) (pace : PacedSeek) (old new : ChipState) → PulsesIf b pace old new → new.settings ≡ old.settings
pulses_settings true pace old new ends = ends_settings pace.goal pace (record old { pace = None }) new ends
pulses_settings false pace old new (gives, rest) = ap (λ (chip : ChipState). chip.settings) rest

goes_settings : (b : Bool) (pace : PacedSeek) (old new : ChipState) → GoesOnIf b pace old new → new.settings ≡ old.settings
goes_settings true pace old new pulses = pulses_settings (is_over pace) pace old new pulses
goes_settings false pace old new is = ap (λ (chip : ChipState). chip.settings) is

pub paces_settings : (pace : Option PacedSeek) (old new : ChipState) → Paces pace old new → new.settings ≡ old.settings
paces_settings None old new is = ap (λ (chip : ChipState). chip.settings) is
paces_settings (Some pace) old new goes = goes_settings (is_due pace (drained old)) pace (drained old) new goes ∙ drained_settings 4 old

-- ---- a device step

pub heads_some : (chip : ChipState) → IsIdleAt chip.front → has_ended_seek chip.front.adapter.controller.seeks ≡ false → is_moving chip ≡ true → 1 ≤ heads_of chip
heads_some chip idle runs moves = by_pace chip.pace refl moves
  where
    by_pace : (pace : Option PacedSeek) → chip.pace ≡ pace → (is_some pace || moves_heads chip.front) ≡ true → 1 ≤ heads_of chip
    by_pace None at moves =
        subst (λ (p : Option PacedSeek). 1 ≤ heads_steps (step_words chip.settings) p chip.front.adapter.controller.seeks.seek) (sym at) (moves_some chip.front idle runs moves)
    by_pace (Some pace) at moves =
        subst (λ (p : Option PacedSeek). 1 ≤ heads_steps (step_words chip.settings) p chip.front.adapter.controller.seeks.seek) (sym at)
        (omega arith)

pub taken_idle : (chip : ChipState) → IsIdleAt chip.front → length chip.front.adapter.controller.seeks.pending ≡ 4 → IsIdleAt (drained chip).front
taken_idle chip idle four = (all_taken chip idle four).taken.idle

-- after the pulses of a step all results are taken over
drained_move : (words left : ℕ) (paced : ChipState) → step_words paced.settings ≡ words → IsPaced words left paced → is_moving (drained paced) ≡ true → HeadsMove left (drained paced)
drained_move words left paced settings on moves =
    let set = drained paced in
    let runs = drained_runs paced on.idle on.four on.tells in
    let less = heads_less words left paced.pace set.front.adapter.controller.seeks.seek paced.front.adapter.controller.seeks.seek (drained_left paced on.idle) on.within in
    let same : heads_of set ≡ heads_steps words paced.pace set.front.adapter.controller.seeks.seek =
    ap (λ (s : Settings). heads_steps (step_words s) set.pace set.front.adapter.controller.seeks.seek) (drained_settings 4 paced)
    ∙ (ap (λ w. heads_steps w set.pace set.front.adapter.controller.seeks.seek) settings
    ∙ ap (λ (p : Option PacedSeek). heads_steps words p set.front.adapter.controller.seeks.seek) (drained_pace 4 paced)) in
    record { runs = runs; some = heads_some set (taken_idle paced on.idle on.four) runs moves; within = subst (λ n. n ≤ left) (sym same) less }

-- ---- ---- a held command

pub move_step : (left : ℕ) (found : ChipOpcode) (order : Order) (old new : ChipState) → IsSound old → IsInRange old.front.adapter.controller → IsInRange new.front.adapter.controller → IsHeldFor order old → code_of order.code ≡ Some found
    → needs_heads found ≡ true → HeadsMove left old → StepsChip old new → (IsHeldFor order new × HeadsMove (left - 1) new) ⊎ IsDoneFree found order (implies old) new
move_step left found order old new sound range still held is heads was step =
    let (paced, paces, attends) = follows_held old new step held.held in
    let resting = step_rests old paced new step sound held.held paces in
    let attended = step_attends found old paced new sound held.held (ap (λ (o : Order). code_of o.code) held.order_is ∙ is) resting attends in
    let of_order : paced.order ≡ order = resting.order ∙ held.order_is in
    either_way (is_moving (drained paced))
    (λ moves.
    let now : new ≡ record (drained paced) { stage = Held } = subst (λ b. AttendsIf b found (drained paced) new) (and_from (needs_heads found) (is_moving (drained paced)) heads moves) attended.attends in
    let later : IsFewLater paced = λ runs idle.
    subst (λ (seek : Option DriveSeek). seek_steps seek ≤ 256) (ap (λ (chip : ChipState). chip.front.adapter.controller.seeks.seek) now ∙ drained_same paced idle runs) (range_steps new.front.adapter.controller still) in
    let on = paces_on (step_words old.settings) left old step.between paced sound (sound_basis old (ap is_ready held.held) sound).free (at_rest old.stage old.front (ap is_busy held.held) sound.now) step.steps
    range.seeks.pending (runs_tells old.front.adapter.controller.seeks was.runs) was.within (same_words (step_words old.settings)) later paces in
    let settings : step_words paced.settings ≡ step_words old.settings = ap step_words (paces_settings old.pace (with_front step.between old) paced paces) in
    let go = drained_move (step_words old.settings) (left - 1) paced settings on moves in
    inl (subst (λ chip. IsHeldFor order chip × HeadsMove (left - 1) chip) (sym now) (
      record { held = refl; order_is = drained_order paced resting.base.command resting.rests ∙ of_order },
      record { runs = go.runs; some = go.some; within = go.within },
    )))
    (λ stands. inr (subst (λ o. IsDoneFree found o (implies old) new) of_order (subst (λ seeks. IsDoneFree found paced.order seeks new) resting.implied (attended_free found paced new attended stands))))
  where
    same_words : (n : ℕ) → n ≤ n
    same_words n = omega arith

    drained_order : (chip : ChipState) → chip.front.adapter.controller.command ≡ [] → RestsBehind chip.front → (drained chip).order ≡ chip.order
    drained_order chip none rests = (drained_rests 4 chip none rests).order

-- ---- A command that is held while heads move: it is held through other calls, and begins in the device step in
-- which they stand.

-- ---- other calls

seeks_kept : (left drive : ℕ) (goal : Option ℕ) (old new : ChipState) → KeepsHeads old new → SeeksBehind left drive goal old.front → SeeksBehind left drive goal new.front
seeks_kept left drive goal old new keeps was = record {
  through = keeps.through ∙ was.through;
  takes = keeps.left.phase ∙ was.takes;
  whole = keeps.left.command ∙ was.whole;
  free = left_free old.front.adapter.controller new.front.adapter.controller keeps.left was.free;
  polled = keeps.left.poll ∙ was.polled;
  motion = was.motion;
  seek = ap (λ (s : Seeking). s.seek) keeps.left.seeks ∙ was.seek;
  goes = was.goes;
  within = was.within;
  pending = ap (λ (s : Seeking). s.pending) keeps.left.seeks ∙ was.pending;
  four = ap (λ (s : Seeking). length s.cylinders) keeps.left.seeks ∙ was.four;
}

stands_kept : (apart drive cylinder : ℕ) (old new : ChipState) → KeepsHeads old new → StandsBehind apart drive cylinder old.front → StandsBehind apart drive cylinder new.front
stands_kept apart drive cylinder old new keeps was = record {
  through = keeps.through ∙ was.through;
  takes = keeps.left.phase ∙ was.takes;
  whole = keeps.left.command ∙ was.whole;
  free = left_free old.front.adapter.controller new.front.adapter.controller keeps.left was.free;
  polled = keeps.left.poll ∙ was.polled;
  seek = ap (λ (s : Seeking). s.seek) keeps.left.seeks ∙ was.seek;
  pending = ap (λ (s : Seeking). s.pending) keeps.left.seeks ∙ was.pending;
  four = ap (λ (s : Seeking). length s.cylinders) keeps.left.seeks ∙ was.four;
  counts = subst (λ (s : Seeking). (slice_index s.cylinders drive ≡ cylinder) ⊎ (254 ≤ apart)) (sym keeps.left.seeks) was.counts;
}

behind_kept : (behind apart drive cylinder : ℕ) (old new : ChipState) → KeepsHeads old new → GoesBehind behind apart drive cylinder old.front → GoesBehind behind apart drive cylinder new.front
behind_kept behind apart drive cylinder old new keeps (inl was) = inl (stands_kept apart drive cylinder old new keeps was)
behind_kept behind apart drive cylinder old new keeps (inr was) = inr (seeks_kept (behind + 1) drive (Some cylinder) old new keeps was)

-- a chip with this front goes on with the pulses
paced_as : (left drive : ℕ) (goal : Option ℕ) (stage : ChipStage) (old new : ChipState) (was : HeadsPaced left drive goal stage old) → new.stage ≡ old.stage → new.pace ≡ old.pace → new.settings ≡ old.settings
    → GoesBehind was.behind was.apart drive was.pace.cylinder new.front → HeadsPaced left drive goal stage new
paced_as left drive goal stage old new was at pace settings going = record {
  at = at ∙ was.at;
  few = was.few;
  pace = was.pace;
  paced = pace ∙ was.paced;
  drive_is = was.drive_is;
  goal_is = was.goal_is;
  behind = was.behind;
  apart = was.apart;
  going = going;
  within = subst (λ (s : Settings). most_left was.behind was.apart (step_words s) was.pace ≤ left) (sym settings) was.within;
}

pub call_going : (left drive : ℕ) (goal : Option ℕ) (stage : ChipStage) (call : Call) (old new : ChipState) → waits_for_heads stage ≡ true → HeadsGo left drive goal stage old → Does call old new → is_step call ≡ false
    → is_reset call ≡ false → is_of_data_port call ≡ false → HeadsGo left drive goal stage new
call_going left drive goal stage call old new waits was does no_step no_reset other =
    let keeps = call_heads call old new (ap waits_for_heads was.at ∙ waits) does no_step no_reset other in
    record { at = keeps.stage ∙ was.at; unpaced = keeps.pace ∙ was.unpaced; few = was.few; going = seeks_kept left drive goal old new keeps was.going }

pub call_paced : (left drive : ℕ) (goal : Option ℕ) (stage : ChipStage) (call : Call) (old new : ChipState) → waits_for_heads stage ≡ true → HeadsPaced left drive goal stage old → Does call old new → is_step call ≡ false
    → is_reset call ≡ false → is_of_data_port call ≡ false → HeadsPaced left drive goal stage new
call_paced left drive goal stage call old new waits was does no_step no_reset other =
    let keeps = call_heads call old new (ap waits_for_heads was.at ∙ waits) does no_step no_reset other in
    paced_as left drive goal stage old new was keeps.stage keeps.pace keeps.settings (behind_kept was.behind was.apart drive was.pace.cylinder old new keeps was.going)

-- ---- bytes of a command before its last one

byte_taken : (byte : ℕ) (old new : ChipState) → old.stage ≡ Ready → WritesChip 0x3F5 byte old new → completes byte old ≡ false → (new ≡ with_next byte old) ⊎ (new ≡ old)
byte_taken byte old new at writes part = by_chance (may_come old) (subst (λ stage. TakesByte stage byte old new) at (writes.bytes refl))
  where
    by_chance : (b : Bool) → ComesIf b byte old new → (new ≡ with_next byte old) ⊎ (new ≡ old)
    by_chance true collects = inl (subst (λ b. CollectsIf b (code_of (with_next byte old).order.code) (with_next byte old) new) part collects)
    by_chance false is = inr is

pub byte_going : (left drive : ℕ) (goal : Option ℕ) (byte : ℕ) (old new : ChipState) → HeadsGo left drive goal Ready old → WritesChip 0x3F5 byte old new → completes byte old ≡ false → HeadsGo left drive goal Ready new
byte_going left drive goal byte old new was writes part = elim (byte_taken byte old new was.at writes part) [
  | inl is ↦ subst (HeadsGo left drive goal Ready) (sym is) (record { at = was.at; unpaced = was.unpaced; few = was.few; going = was.going })
  | inr is ↦ subst (HeadsGo left drive goal Ready) (sym is) was
]

pub byte_paced : (left drive : ℕ) (goal : Option ℕ) (byte : ℕ) (old new : ChipState) → HeadsPaced left drive goal Ready old → WritesChip 0x3F5 byte old new → completes byte old ≡ false → HeadsPaced left drive goal Ready new
byte_paced left drive goal byte old new was writes part = elim (byte_taken byte old new was.at writes part) [
  | inl is ↦ subst (HeadsPaced left drive goal Ready) (sym is) (paced_as left drive goal Ready old (with_next byte old) was refl refl refl was.going)
  | inr is ↦ subst (HeadsPaced left drive goal Ready) (sym is) was
]

-- ---- a command comes, and is held

pub comes_held : (left drive : ℕ) (goal : Option ℕ) (code : ChipOpcode) (byte : ℕ) (old new : ChipState) → IsSound old → byte < 256 → needs_heads code ≡ true → Completes code byte old
    → HeadsGo left drive goal Ready old → WritesChip 0x3F5 byte old new → IsHeldFor (completed byte old) new × HeadsGo left drive goal Held new
comes_held left drive goal code byte old new sound few heads completes was writes =
    let start = attending byte old in
    let attended = byte_attends code byte old new sound few heads completes writes in
    let same : drained start ≡ start = going_drained left drive goal start was.going in
    let moves : is_moving (drained start) ≡ true = ap is_moving same ∙ or_right (is_some start.pace) (moves_heads start.front) (seeks_move left drive goal old.front was.few was.going) in
    let is : new ≡ record start { stage = Held } =
    subst (λ b. AttendsIf b code (drained start) new) (and_from (needs_heads code) (is_moving (drained start)) heads moves) attended.attends ∙ ap (λ (chip : ChipState). record chip { stage = Held }) same in
    subst (λ chip. IsHeldFor (completed byte old) chip × HeadsGo left drive goal Held chip) (sym is) (
      record { held = refl; order_is = refl },
      record { at = refl; unpaced = was.unpaced; few = was.few; going = was.going },
    )

-- ---- ---- a device step of a held command

pub held_step : (left drive : ℕ) (goal : Option ℕ) (code : ChipOpcode) (order : Order) (old new : ChipState) → IsSound old → IsHeldFor order old → code_of order.code ≡ Some code → needs_heads code ≡ true
    → HeadsGo (left + 1) drive goal Held old → StepsChip old new → (IsHeldFor order new × HeadsGo left drive goal Held new) ⊎ IsDoneFree code order (implies old) new
held_step left drive goal code order old new sound held is heads was step =
    let (paced, paces, attends) = follows_held old new step held.held in
    let set = with_front step.between old in
    let unpaced : paced ≡ set = subst (λ pace. Paces pace set paced) was.unpaced paces in
    let resting = step_rests old paced new step sound held.held paces in
    let attended = step_attends code old paced new sound held.held (ap (λ (o : Order). code_of o.code) held.order_is ∙ is) resting attends in
    let of_order : paced.order ≡ order = resting.order ∙ held.order_is in
    elim (front_steps left drive goal old.front step.between step.steps was.going) [
      | inl going ↦
          let same : drained paced ≡ set = ap drained unpaced ∙ going_drained left drive goal set going in
          let moves : is_moving (drained paced) ≡ true = ap is_moving same ∙ or_right (is_some set.pace) (moves_heads set.front) (seeks_move left drive goal step.between was.few going) in
          let now : new ≡ record set { stage = Held } =
          subst (λ b. AttendsIf b code (drained paced) new) (and_from (needs_heads code) (is_moving (drained paced)) heads moves) attended.attends ∙ ap (λ (chip : ChipState). record chip { stage = Held }) same in
          inl (subst (λ chip. IsHeldFor order chip × HeadsGo left drive goal Held chip) (sym now) (
            record { held = refl; order_is = held.order_is },
            record { at = refl; unpaced = was.unpaced; few = was.few; going = going },
          ))
      | inr ended ↦
          let status = status_in goal drive old.front in
          let cylinders = old.front.adapter.controller.seeks.cylinders in
          let target = unwrap_or goal 0 in
          let same : drained paced ≡ stood status target (slice_set cylinders drive target) set = ap drained unpaced ∙ ended_drained drive status target cylinders set was.few ended was.unpaced in
          let stands = stood_stands status target (slice_set cylinders drive target) set ended.free in
          let still : still_moves paced ≡ false = ap is_moving same ∙ or_from (is_some set.pace) (moves_heads (stood status target (slice_set cylinders drive target) set).front) (ap is_some was.unpaced) stands.stand in
          inr (subst (λ o. IsDoneFree code o (implies old) new) of_order (subst (λ seeks. IsDoneFree code paced.order seeks new) resting.implied (attended_free code paced new attended still)))
    ]

-- ---- ---- pulses are to come in the time that SPECIFY sets

-- a chip that holds a command is as it was, and goes on with the pulses
held_paced : (left drive : ℕ) (goal : Option ℕ) (stage : ChipStage) (old : ChipState) → HeadsPaced left drive goal stage old → HeadsPaced left drive goal Held (record old { stage = Held })
held_paced left drive goal stage old was = record {
  at = refl;
  few = was.few;
  pace = was.pace;
  paced = was.paced;
  drive_is = was.drive_is;
  goal_is = was.goal_is;
  behind = was.behind;
  apart = was.apart;
  going = was.going;
  within = was.within;
}

pace_moves : (pace : PacedSeek) (chip : ChipState) → chip.pace ≡ Some pace → is_moving chip ≡ true
pace_moves pace chip paced = ap (λ p. is_some p || moves_heads chip.front) paced

pub comes_paced : (left drive : ℕ) (goal : Option ℕ) (code : ChipOpcode) (byte : ℕ) (old new : ChipState) → IsSound old → byte < 256 → needs_heads code ≡ true → Completes code byte old
    → HeadsPaced left drive goal Ready old → WritesChip 0x3F5 byte old new → IsHeldFor (completed byte old) new × HeadsPaced left drive goal Held new
comes_paced left drive goal code byte old new sound few heads completes was writes =
    let start = attending byte old in
    let attended = byte_attends code byte old new sound few heads completes writes in
    let same : drained start ≡ start = calm_drained start (behind_calm was.behind was.apart drive was.pace.cylinder old.front was.going) in
    let moves : is_moving (drained start) ≡ true = ap is_moving same ∙ pace_moves was.pace start was.paced in
    let is : new ≡ record start { stage = Held } =
    subst (λ b. AttendsIf b code (drained start) new) (and_from (needs_heads code) (is_moving (drained start)) heads moves) attended.attends ∙ ap (λ (chip : ChipState). record chip { stage = Held }) same in
    let going : HeadsPaced left drive goal Held (record start { stage = Held }) = record {
      at = refl;
      few = was.few;
      pace = was.pace;
      paced = was.paced;
      drive_is = was.drive_is;
      goal_is = was.goal_is;
      behind = was.behind;
      apart = was.apart;
      going = was.going;
      within = was.within;
    } in
    subst (λ chip. IsHeldFor (completed byte old) chip × HeadsPaced left drive goal Held chip) (sym is) (record { held = refl; order_is = refl }, going)

-- a device step where no command is under way
pub paced_steps : (left drive : ℕ) (goal : Option ℕ) (old new : ChipState) → IsSoundInRange old → IsSoundInRange new → HeadsPaced (left + 1) drive goal Ready old → StepsChip old new
    → HeadsPaced left drive goal Ready new ⊎ HeadsGo (most_of goal) drive goal Ready new
paced_steps left drive goal old new was_sound is_sound was step =
    let (paced, paces, is) = subst (λ stage. Follows stage (with_front step.between old) new) was.at step.follows in
    let same : IsCalm paced.front → new ≡ paced = λ calm. is ∙ either_same (interrupts_outside paced.front) (drained paced) paced (calm_drained paced calm) in
    let ranges : RangesLater paced = λ calm moves. subst (λ (chip : ChipState). IsInRange chip.front.adapter.controller) (same calm) is_sound.range in
    elim (paced_step left drive goal Ready old paced step.between was_sound.sound was step.steps paces ranges) [
      | inl going ↦ inl (subst (HeadsPaced left drive goal Ready) (sym (same (behind_calm going.behind going.apart drive going.pace.cylinder paced.front going.going))) going)
      | inr going ↦ inr (subst (HeadsGo (most_of goal) drive goal Ready) (sym (same (seeks_calm (most_of goal) drive goal paced.front going.going))) going)
    ]

-- a device step of a held command
pub paced_held : (left drive : ℕ) (goal : Option ℕ) (code : ChipOpcode) (order : Order) (old new : ChipState) → IsSoundInRange old → IsSoundInRange new → IsHeldFor order old → code_of order.code ≡ Some code
    → needs_heads code ≡ true → HeadsPaced (left + 1) drive goal Held old → StepsChip old new → IsHeldFor order new × (HeadsPaced left drive goal Held new ⊎ HeadsGo (most_of goal) drive goal Held new)
paced_held left drive goal code order old new was_sound is_sound held is heads was step =
    let (paced, paces, attends) = follows_held old new step held.held in
    let resting = step_rests old paced new step was_sound.sound held.held paces in
    let attended = step_attends code old paced new was_sound.sound held.held (ap (λ (o : Order). code_of o.code) held.order_is ∙ is) resting attends in
    let of_order : paced.order ≡ order = resting.order ∙ held.order_is in
    let now : IsCalm paced.front → is_moving paced ≡ true → new ≡ record paced { stage = Held } = λ calm moves.
    let same : drained paced ≡ paced = calm_drained paced calm in
    subst (λ b. AttendsIf b code (drained paced) new) (and_from (needs_heads code) (is_moving (drained paced)) heads (ap is_moving same ∙ moves)) attended.attends
    ∙ ap (λ (chip : ChipState). record chip { stage = Held }) same in
    let ranges : RangesLater paced = λ calm moves. subst (λ (chip : ChipState). IsInRange chip.front.adapter.controller) (now calm moves) is_sound.range in
    elim (paced_step left drive goal Held old paced step.between was_sound.sound was step.steps paces ranges) [
      | inl going ↦
          let set = now (behind_calm going.behind going.apart drive going.pace.cylinder paced.front going.going) (pace_moves going.pace paced going.paced) in
          subst (λ chip. IsHeldFor order chip × (HeadsPaced left drive goal Held chip ⊎ HeadsGo (most_of goal) drive goal Held chip)) (sym set) (
            record { held = refl; order_is = of_order },
            inl (held_paced left drive goal Held paced going),
          )
      | inr going ↦
          let moves : is_moving paced ≡ true = or_right (is_some paced.pace) (moves_heads paced.front) (seeks_move (most_of goal) drive goal paced.front going.few going.going) in
          let set = now (seeks_calm (most_of goal) drive goal paced.front going.going) moves in
          subst (λ chip. IsHeldFor order chip × (HeadsPaced left drive goal Held chip ⊎ HeadsGo (most_of goal) drive goal Held chip)) (sym set) (
            record { held = refl; order_is = of_order },
            inr (record { at = refl; unpaced = going.unpaced; few = going.few; going = going.going }),
          )
    ]
