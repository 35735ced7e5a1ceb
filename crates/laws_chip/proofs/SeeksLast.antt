-- Heads that move come to stand, whatever calls come: each device step leaves fewer, and other calls leave no more.
use Rattle.std.proofs.Common.{◌≡◌, ℕ, ◌+◌, ◌-◌, ◌*◌, ◌^◌, ◌<◌, ◌≤◌, max, nat_le, Bool, true, false, not, ◌&&◌, ◌||◌, ◌==◌, if◌then◌else◌, Option, Some, None, is_some, List, [], ◌∷◌, length, bit_and, bit_or, refl, sym, ◌∙◌, ap, subst, arith}
use Rattle.laws_chip.proofs.Common.{option_map_or, eqb-true, false≢true, not-true, or_right, has_ended, is_seeking, Motion, Ended, DriveSeek, IsInRange, Front, interrupts_outside, status_at, StepsFront, answer_bytes, is_of_data, ChipState, with_front, code_of, AttendsIf, AttendsTo, Obeys, drained, is_moving, moves_heads, needs_heads, pace_begun, Paces, CollectsIf, ComesIf, GivesIf, ReadsAt, ReadsIf, TakesByte, byte_told, latched_by, is_whole, may_come, quieted_if, reset_if, value_behind, with_next, step_words, Follows, ChipAnswer, ChipOpcode, PacedSeek, Settings, ChipStage, Ready, Held, Busy, AreSeeking, HeadsGoOn, IsUsed, StaysHeld, heads_go, heads_steps, is_executed, seek_steps, Call, Does, is_of_data_port, is_reset, is_step, steps_in, steps_of, pulses_left, steps_left, IsSound, ChipTelling as Telling, Seeks as Seeking}
use Rattle.laws_chip.proofs.HeadsLeft.{IsFewLater, IsPaced, paces_on}
use Rattle.laws_chip.proofs.HeadsTold.{TellsEnd, drained_left, drained_same}
use Rattle.laws_chip.proofs.KnownEnds.{KnowsEnd, call_known}
use Rattle.laws_chip.proofs.PulsesGoing.{bits_shown}
use Rattle.laws_chip.proofs.SeeksBegun.{IsIdleAt, all_taken}
use Rattle.laws_chip.proofs.SoundCalls.{byte_stays, call_sound, front_anew}
use Rattle.laws_chip.proofs.SoundParts.{at_rest, is_busy}
use Rattle.laws_chip.proofs.UnderWay.{clash, either_way, status_free}
use Rattle.laws_chip.proofs.UsedWaits.{is_held_at, obeys_free, used_known}
use Rattle.laws_chip.proofs.WholeTransfers.{drained_pace, call_idle, no_port}
use Rattle.laws_chip.proofs.TracksLast.{none_of}
use Rattle.laws_chip.proofs.SinglesLast.{steps_less}
use Rattle.laws_chip.proofs.SeeksHeld.{heads_less, range_steps}
use Rattle.fdc_chip.specs.declared.code.ChipOpcode.TheVariants as code
use Rattle.laws_chip.specs.Calls as made

-- ---- what is left

executed_busy : (stage : ChipStage) → is_executed stage ≡ false → is_busy stage ≡ false
executed_busy (Busy what) idle = absurd (false≢true (sym idle))
executed_busy _ idle = refl

abbrev left_at : ℕ → ChipState → ℕ
left_at words chip = heads_steps words chip.pace chip.front.adapter.controller.seeks.seek

run_some : (motion : Motion) → not (has_ended motion) ≡ true → 1 ≤ steps_left motion
run_some Ended runs = absurd (false≢true runs)
run_some _ runs = omega arith

go_some : (words : ℕ) (pace : Option PacedSeek) (seek : Option DriveSeek) → (is_some pace || option_map_or (λ (d : DriveSeek). not (has_ended d.motion)) seek false) ≡ true → 0 < heads_steps words pace seek
go_some words (Some pace) seek goes = omega arith
go_some words None None goes = absurd (false≢true goes)
go_some words None (Some seek) goes = run_some seek.motion goes

-- results that are taken over leave no more
drained_few : (words n : ℕ) (chip : ChipState) → IsIdleAt chip.front → left_at words chip ≤ n → left_at words (drained chip) ≤ n
drained_few words n chip idle few =
    let set = drained chip in
    subst (λ (p : Option PacedSeek). heads_steps words p set.front.adapter.controller.seeks.seek ≤ n) (sym (drained_pace 4 chip))
    (heads_less words n chip.pace set.front.adapter.controller.seeks.seek chip.front.adapter.controller.seeks.seek (drained_left chip idle) few)

-- the pace and the seeks stay
same_few : (words n : ℕ) (old new : ChipState) → new.pace ≡ old.pace → new.front.adapter.controller.seeks.seek ≡ old.front.adapter.controller.seeks.seek → left_at words old ≤ n → left_at words new ≤ n
same_few words n old new pace seek few =
    subst (λ (p : Option PacedSeek). heads_steps words p new.front.adapter.controller.seeks.seek ≤ n) (sym pace) (subst (λ (s : Option DriveSeek). heads_steps words old.pace s ≤ n) (sym seek) few)

is_few : (words n : ℕ) (old new : ChipState) → new ≡ old → left_at words old ≤ n → left_at words new ≤ n
is_few words n old new is few = subst (λ chip. left_at words chip ≤ n) (sym is) few

-- ---- ---- heads that move are seen after the results were taken over

runs_of : (b : Bool) (seek : Option DriveSeek) → b ≡ option_map_or (λ (d : DriveSeek). not (has_ended d.motion)) seek false → b ≡ true → option_map_or (λ (d : DriveSeek). has_ended d.motion) seek false ≡ false
runs_of b None is runs = refl
runs_of b (Some seek) is runs = not-true (has_ended seek.motion) (sym is ∙ runs)

seek_moves : (front : Front) → IsIdleAt front → IsInRange front.adapter.controller → is_seeking front.adapter.controller.seeks ≡ true → (other : Front) → IsIdleAt other
    → other.adapter.controller.seeks.seek ≡ front.adapter.controller.seeks.seek → moves_heads other ≡ true
seek_moves front idle range runs other free same = by_seek front.adapter.controller.seeks.seek refl runs
  where
    by_seek : (seek : Option DriveSeek) → front.adapter.controller.seeks.seek ≡ seek → option_map_or (λ (d : DriveSeek). not (has_ended d.motion)) seek false ≡ true → moves_heads other ≡ true
    by_seek None is runs = absurd (false≢true runs)
    by_seek (Some seek) is runs =
        let fdc = other.adapter.controller in
        ap (λ stage. not (bit_and (status_at stage fdc) 0x0F == 0)) free.through
        ∙ (ap (λ status. not (bit_and status 0x0F == 0)) (status_free fdc free.free free.takes free.whole)
        ∙ (ap (λ (s : Option DriveSeek). not (bit_and (bit_or 0x80 (option_map_or (λ (d : DriveSeek). 2 ^ d.drive) s 0)) 0x0F == 0)) (same ∙ is) ∙ bits_shown seek.drive (few_drive seek.drive (range.seeks.drive seek is))))
      where
        few_drive : (drive : ℕ) → drive < 4 → drive ≤ 3
        few_drive drive few = omega arith

go_moving : (chip : ChipState) → IsIdleAt chip.front → IsInRange chip.front.adapter.controller → heads_go chip ≡ true → is_moving (drained chip) ≡ true
go_moving chip idle range goes = by_pace chip.pace refl goes
  where
    by_pace : (pace : Option PacedSeek) → chip.pace ≡ pace → (is_some pace || is_seeking chip.front.adapter.controller.seeks) ≡ true → is_moving (drained chip) ≡ true
    by_pace (Some pace) at goes = ap (λ (p : Option PacedSeek). is_some p || moves_heads (drained chip).front) (drained_pace 4 chip ∙ at)
    by_pace None at runs =
        let s = chip.front.adapter.controller.seeks in
        let same = drained_same chip idle (runs_of (is_seeking s) s.seek refl runs) in
        or_right (is_some (drained chip).pace) (moves_heads (drained chip).front)
        (seek_moves chip.front idle range runs (drained chip).front (all_taken chip idle range.seeks.pending).taken.idle same)

-- ---- a whole command comes

-- a command that doesn't need the inner controller leaves the heads
obeys_few : (words n : ℕ) (found : ChipOpcode) (old new : ChipState) → needs_heads found ≡ false → Obeys found old new → left_at words old ≤ n → left_at words new ≤ n
obeys_few words n code.Specify old new other is few = same_few words n old new (ap (λ (chip : ChipState). chip.pace) is) (ap (λ (chip : ChipState). chip.front.adapter.controller.seeks.seek) is) few
obeys_few words n code.SenseInterrupt old new other is few = same_few words n old new (ap (λ (chip : ChipState). chip.pace) is) (ap (λ (chip : ChipState). chip.front.adapter.controller.seeks.seek) is) few
obeys_few words n code.Version old new other is few = same_few words n old new (ap (λ (chip : ChipState). chip.pace) is) (ap (λ (chip : ChipState). chip.front.adapter.controller.seeks.seek) is) few
obeys_few words n code.Perpendicular old new other is few = same_few words n old new (ap (λ (chip : ChipState). chip.pace) is) (ap (λ (chip : ChipState). chip.front.adapter.controller.seeks.seek) is) few
obeys_few words n code.DumpRegisters old new other is few = same_few words n old new (ap (λ (chip : ChipState). chip.pace) is) (ap (λ (chip : ChipState). chip.front.adapter.controller.seeks.seek) is) few
obeys_few words n (code.Lock on) old new other is few = same_few words n old new (ap (λ (chip : ChipState). chip.pace) is) (ap (λ (chip : ChipState). chip.front.adapter.controller.seeks.seek) is) few
obeys_few words n _ old new other is few = absurd (false≢true (sym other))

-- any other command is held, since heads move
attends_few : (heads : Bool) (words n : ℕ) (found : ChipOpcode) (old new : ChipState) → needs_heads found ≡ heads → is_moving old ≡ true → AttendsIf (heads && is_moving old) found old new → left_at words old ≤ n → left_at words new ≤ n
attends_few true words n found old new needs moves attends few =
    let is : new ≡ record old { stage = Held } = subst (λ b. AttendsIf b found old new) moves attends in
    same_few words n old new (ap (λ (chip : ChipState). chip.pace) is) (ap (λ (chip : ChipState). chip.front.adapter.controller.seeks.seek) is) few
attends_few false words n found old new needs moves obeys few = obeys_few words n found old new needs obeys few

attended_few : (words n : ℕ) (found : Option ChipOpcode) (old new : ChipState) → IsIdleAt old.front → IsInRange old.front.adapter.controller → heads_go old ≡ true → AttendsTo found old new → left_at words old ≤ n → left_at words new ≤ n
attended_few words n None old new idle range goes is few = same_few words n old new (ap (λ (chip : ChipState). chip.pace) is) (ap (λ (chip : ChipState). chip.front.adapter.controller.seeks.seek) is) few
attended_few words n (Some found) old new idle range goes attends few = grind (arith, attends_few, drained, go_moving, drained_few)

collects_few : (b : Bool) (words n : ℕ) (found : Option ChipOpcode) (old new : ChipState) → IsIdleAt old.front → IsInRange old.front.adapter.controller → heads_go old ≡ true → CollectsIf b found old new → left_at words old ≤ n → left_at words new ≤ n
collects_few true words n found old new idle range goes attends few = attended_few words n found (record old { count = 0 }) new idle range goes attends few
collects_few false words n found old new idle range goes is few = is_few words n old new is few

comes_few : (b : Bool) (words n byte : ℕ) (old new : ChipState) → IsIdleAt old.front → IsInRange old.front.adapter.controller → heads_go old ≡ true → ComesIf b byte old new → left_at words old ≤ n → left_at words new ≤ n
comes_few true words n byte old new idle range goes collects few =
    let next = with_next byte old in collects_few (is_whole next.count (code_of next.order.code)) words n (code_of next.order.code) next new idle range goes collects few
comes_few false words n byte old new idle range goes is few = is_few words n old new is few

-- ---- ---- calls that are no device steps

told_pace : (answer : ChipAnswer) (read : ℕ) (old : ChipState) → (byte_told answer read old).pace ≡ old.pace
told_pace answer read old = by_quiet (is_of_data answer && (read == 0))
  where
    by_quiet : (b : Bool) → (record (quieted_if b old) { stage = if nat_le (length (answer_bytes answer)) (read + 1) then Ready else Telling answer (read + 1) }).pace ≡ old.pace
    by_quiet true = refl
    by_quiet false = refl

read_few : (stage : ChipStage) (words n value : ℕ) (old new : ChipState) → old.stage ≡ stage → is_busy stage ≡ false → ReadsAt stage old value new → left_at words old ≤ n → left_at words new ≤ n
read_few (Busy what) words n value old new at idle reads few = absurd (false≢true (sym idle))
read_few (Telling answer read) words n value old new at idle (value_is, is) few =
    is_few words n (byte_told answer read old) new is
    (same_few words n old (byte_told answer read old) (told_pace answer read old) (ap (λ (front : Front). front.adapter.controller.seeks.seek) (byte_stays answer read old).front) few)
read_few _ words n value old new at idle reads few = is_few words n old new (subst (λ b. ReadsIf b old value new) (no_port old (ap is_busy at)) reads).1 few

write_few : (stage : ChipStage) (words n value : ℕ) (old new : ChipState) → old.stage ≡ stage → is_busy stage ≡ false → IsIdleAt old.front → IsInRange old.front.adapter.controller → heads_go old ≡ true → TakesByte stage value old new
    → left_at words old ≤ n → left_at words new ≤ n
write_few Ready words n value old new at idle free range goes comes few = comes_few (may_come old) words n value old new free range goes comes few
write_few (Busy what) words n value old new at idle free range goes gives few = absurd (false≢true (sym idle))
write_few _ words n value old new at idle free range goes gives few = is_few words n old new (subst (λ b. GivesIf b value old new) (no_port old (ap is_busy at)) gives) few

-- a reset lets no heads move
none_go : (pace : Option PacedSeek) (s : Seeking) → pace ≡ None → s.seek ≡ None → (is_some pace || is_seeking s) ≡ false
none_go pace s none stands =
    ap (λ (p : Option PacedSeek). is_some p || is_seeking s) none ∙ ap (λ (seek : Option DriveSeek). option_map_or (λ (d : DriveSeek). not (has_ended d.motion)) seek false) stands

reset_stops : (call : Call) (old new : ChipState) → is_of_data_port call ≡ false → is_reset call ≡ true → Does call old new → heads_go new ≡ false
reset_stops (made.Writes port value) old new no_data anew does =
    let (front, rest) = does.others no_data in
    let pace : new.pace ≡ None = ap (λ (chip : ChipState). chip.pace) (rest ∙ ap (λ b. with_front new.front (reset_if b (latched_by port value old))) anew) in
    none_go new.pace new.front.adapter.controller.seeks pace (ap (λ (s : Seeking). s.seek) (front_anew port (value_behind port value) old.front new.front front no_data anew).0.seeks)
reset_stops _ old new no_data anew does = absurd (false≢true anew)

other_few : (call : Call) (words n : ℕ) (old new : ChipState) → is_busy old.stage ≡ false → IsIdleAt old.front → IsInRange old.front.adapter.controller → heads_go old ≡ true → heads_go new ≡ true → Does call old new → is_step call ≡ false
    → left_at words old ≤ n → left_at words new ≤ n
other_few call words n old new idle free range goes still does no_step few = either_way (is_of_data_port call)
    (λ here. by_data call here does)
    (λ no_data. either_way (is_reset call)
    (λ anew. clash (heads_go new) (reset_stops call old new no_data anew does) still)
    (λ quiet. let keeps = call_idle call old new idle does no_step quiet no_data in same_few words n old new keeps.pace (ap (λ (s : Seeking). s.seek) keeps.left.seeks) few))
  where
    by_data : (call : Call) → is_of_data_port call ≡ true → Does call old new → left_at words new ≤ n
    by_data (made.Reads port value) here does = read_few old.stage words n value old new refl idle (does.byte (eqb-true port 0x3F5 here)) few
    by_data (made.Writes port value) here does = write_few old.stage words n value old new refl idle free range goes (does.bytes (eqb-true port 0x3F5 here)) few
    by_data _ here does = absurd (false≢true here)

-- ---- a device step

-- what the chip does after the pulses of the step leaves the seek, or takes over its result
after_few : (words n : ℕ) (old : ChipState) (between : Front) (paced : ChipState) → IsSound old → is_busy old.stage ≡ false → HeadsGoOn words old → TellsEnd old.front.adapter.controller.seeks → StepsFront old.front between
    → Paces old.pace (with_front between old) paced → left_at words old ≤ n → IsFewLater paced → IsPaced words (n - 1) paced
after_few words n old between paced sound idle was tells step paces few later =
    paces_on words n old between paced sound was.free (at_rest old.stage old.front idle sound.now) step was.ranges.controller.seeks.pending tells few was.pace later paces

later_same : (paced new : ChipState) → IsInRange new.front.adapter.controller → new.front ≡ paced.front → IsFewLater paced
later_same paced new range is = λ runs idle. subst (λ (front : Front). seek_steps front.adapter.controller.seeks.seek ≤ 256) is (range_steps new.front.adapter.controller range)

later_drained : (paced new : ChipState) → IsInRange new.front.adapter.controller → new.front ≡ (drained paced).front → IsFewLater paced
later_drained paced new range is = λ runs idle.
    subst (λ (seek : Option DriveSeek). seek_steps seek ≤ 256) (ap (λ (front : Front). front.adapter.controller.seeks.seek) is ∙ drained_same paced idle runs) (range_steps new.front.adapter.controller range)

ready_few : (b : Bool) (words n : ℕ) (old : ChipState) (between : Front) (paced new : ChipState) → IsSound old → is_busy old.stage ≡ false → HeadsGoOn words old → HeadsGoOn words new → TellsEnd old.front.adapter.controller.seeks → StepsFront old.front between
    → Paces old.pace (with_front between old) paced → left_at words old ≤ n → new ≡ (if b then drained paced else paced) → left_at words new ≤ n - 1
ready_few true words n old between paced new sound idle was still tells step paces few is =
    let on = after_few words n old between paced sound idle was tells step paces few (later_drained paced new still.ranges.controller (ap (λ (chip : ChipState). chip.front) is)) in
    is_few words (n - 1) (drained paced) new is (drained_few words (n - 1) paced on.idle on.within)
ready_few false words n old between paced new sound idle was still tells step paces few is =
    let on = after_few words n old between paced sound idle was tells step paces few (later_same paced new still.ranges.controller (ap (λ (chip : ChipState). chip.front) is)) in
    is_few words (n - 1) paced new is on.within

-- a command that is held stays held
held_as : (b : Bool) (found : ChipOpcode) (old new : ChipState) → is_held_at new.stage ≡ true → AttendsIf b found old new → new ≡ record old { stage = Held }
held_as true found old new held is = is
held_as false found old new held obeys = clash (is_held_at new.stage) (obeys_free found old new obeys) held

held_now : (found : Option ChipOpcode) (old new : ChipState) → is_held_at new.stage ≡ true → AttendsTo found old new → new ≡ record (drained old) { stage = Held }
held_now None old new held is = clash (is_held_at new.stage) (ap (λ (chip : ChipState). is_held_at chip.stage) is) held
held_now (Some found) old new held attends = held_as (needs_heads found && is_moving (drained old)) found (drained old) new held attends

step_few : (stage : ChipStage) (words n : ℕ) (old : ChipState) (between : Front) (new : ChipState) → old.stage ≡ stage → is_busy stage ≡ false → IsSound old → HeadsGoOn words old → HeadsGoOn words new → StaysHeld stage new.stage → TellsEnd old.front.adapter.controller.seeks
    → StepsFront old.front between → Follows stage (with_front between old) new → left_at words old ≤ n → left_at words new ≤ n - 1
step_few Ready words n old between new at idle sound was still stays tells step (paced, paces, is) few =
    ready_few (interrupts_outside paced.front) words n old between paced new sound (ap is_busy at) was still tells step paces few is
step_few Held words n old between new at idle sound was still stays tells step (paced, paces, attends) few =
    let is = held_now (code_of paced.order.code) paced new (ap is_held_at stays) attends in
    let on = after_few words n old between paced sound (ap is_busy at) was tells step paces few (later_drained paced new still.ranges.controller (ap (λ (chip : ChipState). chip.front) is)) in
    same_few words (n - 1) (drained paced) new (ap (λ (chip : ChipState). chip.pace) is) (ap (λ (chip : ChipState). chip.front.adapter.controller.seeks.seek) is) (drained_few words (n - 1) paced on.idle on.within)
step_few (Busy what) words n old between new at idle sound was still stays tells step follows few = absurd (false≢true (sym idle))
step_few (Telling answer read) words n old between new at idle sound was still stays tells step paces few =
    (after_few words n old between new sound (ap is_busy at) was tells step paces few (later_same new new still.ranges.controller refl)).within

-- ---- any call

idle_front : (words : ℕ) (chip : ChipState) → IsSound chip → is_busy chip.stage ≡ false → HeadsGoOn words chip → IsIdleAt chip.front
idle_front words chip sound idle was =
    let rests = at_rest chip.stage chip.front idle sound.now in record { through = rests.through; takes = rests.takes; whole = sound.whole; free = was.free }

fewer_none : (all n steps : ℕ) → steps ≡ 0 → all ≤ n → all ≤ n - steps
fewer_none all n steps none few = omega arith

call_few : (call : Call) (words n : ℕ) (old new : ChipState) → IsSound old → KnowsEnd old → HeadsGoOn words old → HeadsGoOn words new → StaysHeld old.stage new.stage → Does call old new → left_at words old ≤ n → left_at words new ≤ n - steps_of call
call_few call words n old new sound knows was still stays does few = either_way (is_step call)
    (λ steps. by_step call steps does)
    (λ other. fewer_none (left_at words new) n (steps_of call) (none_of call other) (other_few call words n old new idle (idle_front words old sound idle was) was.ranges.controller was.goes still.goes does other few))
  where
    idle : is_busy old.stage ≡ false
    idle = executed_busy old.stage was.idle

    by_step : (call : Call) → is_step call ≡ true → Does call old new → left_at words new ≤ n - steps_of call
    by_step made.Steps is step =
        step_few old.stage words n old step.between new refl (executed_busy old.stage was.idle) sound was still stays (knows.tells (executed_busy old.stage was.idle)) step.steps step.follows few
    by_step _ is does = absurd (false≢true is)

some_few : (all n : ℕ) → 0 < all → all ≤ n → 0 < n
some_few all n some few = omega arith

seeks_last : (words n : ℕ) (calls : List Call) (old new : ChipState) → IsSound old → KnowsEnd old → HeadsGoOn words old → left_at words old ≤ n → AreSeeking words calls old new → steps_in calls < n
seeks_last words n [] old new sound knows was few same = some_few (left_at words old) n (go_some words old.pace old.front.adapter.controller.seeks.seek was.goes) few
seeks_last words n (call ∷ calls) old new sound knows was few (between, does, writes, still, stays, rest) =
    steps_less (steps_of call) (steps_in calls) n
    (seeks_last words (n - steps_of call) calls between new (call_sound call old between does writes sound) (call_known call old between sound was.ranges.controller knows does writes) still
    (call_few call words n old between sound knows was still stays does few) rest)

pub used_stands : (words : ℕ) (calls : List Call) (old new : ChipState) → IsUsed old → HeadsGoOn words old → AreSeeking words calls old new
    → steps_in calls < heads_steps words old.pace old.front.adapter.controller.seeks.seek
used_stands words calls old new used was are =
    let known = used_known old used in seeks_last words (left_at words old) calls old new known.sound known.knows was (omega arith) are

pub words_most : (settings : Settings) → step_words settings ≤ 1000
words_most settings = omega arith

pub pace_begins : (words unit cylinder : ℕ) (goal : Option ℕ) → heads_steps words (Some (pace_begun unit cylinder goal)) None ≡ pulses_left (pace_begun unit cylinder goal) * (max words 256 + 1) + 257
pace_begins words unit cylinder goal = omega arith
