-- How many device steps heads still move at most: each device step leaves fewer, also while pulses come in the time that
-- SPECIFY sets.
use Rattle.std.proofs.Common.{◌≡◌, ℕ, suc, ◌+◌, ◌-◌, ◌*◌, ◌%◌, ◌^◌, ◌<◌, ◌≤◌, max, nat_le, nat_lt, Bool, true, false, not, ◌&&◌, ◌==◌, if◌then◌else◌, Option, Some, None, List, [], length, bit_and, bit_or, refl, sym, ◌∙◌, ap, subst, arith}
use Rattle.laws_chip.proofs.Common.{option_map_or, mul-le-mul_right, suc-mul, and_from, and_parts, false≢true, leb-false, leb-true, not-true, nat_tests, has_ended_seek, pulses_within, seek_bits, with_motion, Motion, Outward, Ended, DriveSeek, is_held, is_idle, Fdc, Front, GivesCommand, is_ready, is_ready_at, status_at, with_controller, StepsFront, recalibrated_at, recalibrated_outside, ChipState, with_front, drained, drained_by, moves_heads, moving, GoesOnIf, Paces, PulsesIf, is_due, step_words, PacedSeek, Settings, heads_steps, seek_steps, pulses_left, steps_left, IsSound, RestsBehind, EndsPace as EndsAt, is_over_pace as is_over, chip_stepped as stepped}
use Rattle.laws_chip.proofs.HeadsGoing.{none_pending}
use Rattle.laws_chip.proofs.HeadsTold.{TellsEnd, drained_left, drained_runs, front_nearer, runs_tells}
use Rattle.laws_chip.proofs.PulsesGoing.{fewer_left}
use Rattle.laws_chip.proofs.Rests.{front_rests, drained_rests}
use Rattle.laws_chip.proofs.SeeksBegun.{IsIdleAt, all_taken, idle_takes, seek_sent, drained_rest}
use Rattle.laws_chip.proofs.UnderWay.{Stands, heads_stand, stands_idle, status_free, base_held}

-- ---- results that are taken over leave the settings

pub drained_settings : (n : ℕ) (chip : ChipState) → (drained_by n chip).settings ≡ chip.settings
drained_settings n chip = ap (λ (set : ChipState). set.settings) (drained_rest n chip).2

-- ---- heads that move

motion_some : (motion : Motion) → has_ended_seek (record { cylinders = []; seek = Some (record { drive = 0; motion = motion }); pending = [] }) ≡ false → 1 ≤ steps_left motion
motion_some Ended runs = absurd (false≢true (sym runs))
motion_some _ runs = omega arith

none_moves : (front : Front) → IsIdleAt front → front.adapter.controller.seeks.seek ≡ None → moves_heads front ≡ false
none_moves front idle none =
    let fdc = front.adapter.controller in
    ap (λ stage. not (bit_and (status_at stage fdc) 0x0F == 0)) idle.through
    ∙ (ap (λ status. not (bit_and status 0x0F == 0)) (status_free fdc idle.free idle.takes idle.whole)
    ∙ ap (λ (s : Option DriveSeek). not (bit_and (bit_or 0x80 (option_map_or (λ (d : DriveSeek). 2 ^ d.drive) s 0)) 0x0F == 0)) none)

pub moves_some : (front : Front) → IsIdleAt front → has_ended_seek front.adapter.controller.seeks ≡ false → moves_heads front ≡ true → 1 ≤ seek_steps front.adapter.controller.seeks.seek
moves_some front idle runs moves = by_seek front.adapter.controller.seeks.seek refl runs
  where
    by_seek : (seek : Option DriveSeek) → front.adapter.controller.seeks.seek ≡ seek → option_map_or (λ (d : DriveSeek). has_ended_seek (record { cylinders = []; seek = Some (record { drive = 0; motion = d.motion }); pending = [] })) seek false ≡ false
        → 1 ≤ seek_steps seek
    by_seek None is runs = absurd (false≢true (sym (none_moves front idle is) ∙ moves))
    by_seek (Some seek) is runs = motion_some seek.motion runs

-- ---- ---- numbers

still_less : (now mid was : ℕ) → now ≤ mid → mid ≤ was - 1 → now ≤ was - 1
still_less now mid was one two = omega arith

wait_on : (all wait was now n : ℕ) → 1 < wait → now ≤ was - 1 → max wait was + all ≤ n → 257 ≤ all → max (wait - 1) now + all ≤ n - 1
wait_on all wait was now n some fewer few most = omega arith

seek_on : (all wait was now n : ℕ) → wait ≤ 1 → 1 ≤ now → now ≤ was - 1 → max wait was + all ≤ n → max (wait - 1) now + all ≤ n - 1
seek_on all wait was now n over some fewer few = omega arith

pulse_on : (pulses before words next wait was now n : ℕ) → pulses + 1 ≤ before → next ≤ words → now ≤ 256 → max wait was + (before * (max words 256 + 1) + 257) ≤ n → max next now + (pulses * (max words 256 + 1) + 257) ≤ n - 1
pulse_on pulses before words next wait was now n fewer some few all =
    let k = max words 256 + 1 in
    let less : suc pulses * k ≤ before * k = mul-le-mul_right k (omega arith) in
    let split = suc-mul pulses k in
    omega (arith, less, split, all, some, few)

end_on : (all wait was now n : ℕ) → now ≤ 256 → max wait was + (all + 257) ≤ n → now ≤ n - 1
end_on all wait was now n few within = omega arith

-- ---- ---- the inner controller after the results were taken over

-- it takes commands, and a seek that has ended keeps it no longer
record IsFreed (old : Front) (chip : ChipState) : Type 0 where
  idle : IsIdleAt chip.front
  rests : RestsBehind chip.front
  by_dma : chip.front.adapter.controller.non_dma ≡ false
  runs : has_ended_seek chip.front.adapter.controller.seeks ≡ false
  none : chip.front.adapter.controller.seeks.pending ≡ none_pending
  left : seek_steps chip.front.adapter.controller.seeks.seek ≤ seek_steps old.adapter.controller.seeks.seek - 1

-- what is known after a device step, and the pulses of the step
pub record IsPaced (words n : ℕ) (chip : ChipState) : Type 0 where
  pub idle : IsIdleAt chip.front
  pub tells : TellsEnd chip.front.adapter.controller.seeks
  pub four : length chip.front.adapter.controller.seeks.pending ≡ 4
  pub within : heads_steps words chip.pace chip.front.adapter.controller.seeks.seek ≤ n

-- the seek that the inner controller is given is one of 256 device steps at most
abbrev pub IsFewLater : ChipState → Type 0
IsFewLater chip = has_ended_seek chip.front.adapter.controller.seeks ≡ false → IsIdleAt chip.front → seek_steps chip.front.adapter.controller.seeks.seek ≤ 256

four_none : (pending : List (Option ℕ)) → pending ≡ none_pending → length pending ≡ 4
four_none pending is = ap length is

-- a SEEK is given
pub record IsSoughtBy (start : Front) (new : ChipState) : Type 0 where
  pub idle : IsIdleAt new.front
  pub runs : has_ended_seek new.front.adapter.controller.seeks ≡ false
  pub pending : new.front.adapter.controller.seeks.pending ≡ start.adapter.controller.seeks.pending

pub seek_given : (unit target : ℕ) (start : Front) (new : ChipState) → Stands start → GivesCommand (moving unit (Some target)) start new.front → IsSoughtBy start new
seek_given unit target start new stands gives =
    let (through, is) = seek_sent unit target start new.front stands gives in
    record {
      idle = record {
        through = through;
        takes = ap (λ (fdc : Fdc). fdc.phase) is ∙ stands.takes;
        whole = ap (λ (fdc : Fdc). fdc.command) is;
        free = ap is_held is ∙ stands.free;
      };
      runs = ap (λ (fdc : Fdc). has_ended_seek fdc.seeks) is;
      pending = ap (λ (fdc : Fdc). fdc.seeks.pending) is;
    }

sought_paced : (words n : ℕ) (start : Front) (new : ChipState) → IsSoughtBy start new → start.adapter.controller.seeks.pending ≡ none_pending
    → heads_steps words new.pace new.front.adapter.controller.seeks.seek ≤ n → IsPaced words n new
sought_paced words n start new sought none within = record {
  idle = sought.idle;
  tells = runs_tells new.front.adapter.controller.seeks sought.runs;
  four = four_none new.front.adapter.controller.seeks.pending (sought.pending ∙ none);
  within = within;
}

-- ---- ---- a pulse, or the end

stands_of : (chip : ChipState) (old : Front) → IsFreed old chip → moves_heads chip.front ≡ false → Stands chip.front
stands_of chip old was still = record {
  through = was.idle.through;
  takes = was.idle.takes;
  none = was.idle.whole;
  free = was.idle.free;
  rests = heads_stand chip.front was.idle.through was.idle.free was.idle.takes was.idle.whole was.rests.seek still;
  by_dma = was.by_dma;
}

within_all : (pulses : ℕ) → pulses_within pulses + 1 ≤ 256
within_all pulses = by_few (nat_lt pulses 79) refl
  where
    by_few : (b : Bool) → nat_lt pulses 79 ≡ b → (if b then pulses else 79) + 1 ≤ 256
    by_few true is = grind (arith, nat_tests)
    by_few false is = omega arith

module _ (words n : ℕ) (old : Front) (pace : PacedSeek) (chip new : ChipState) (was : IsFreed old chip) (stands : Stands chip.front) (few : max pace.wait (seek_steps old.adapter.controller.seeks.seek) + (pulses_left pace * (max words 256 + 1) + 257) ≤ n) (later : IsFewLater new) where
  ends_paced : (goal : Option ℕ) → EndsAt goal pace (record chip { pace = None }) new → IsPaced words (n - 1) new
  ends_paced (Some target) (gives, rest) =
      let sought = seek_given pace.unit target chip.front new stands gives in
      let seek = new.front.adapter.controller.seeks.seek in
      let steps = end_on (pulses_left pace * (max words 256 + 1)) pace.wait (seek_steps old.adapter.controller.seeks.seek) (seek_steps seek) n (later sought.runs sought.idle) few in
      sought_paced words (n - 1) chip.front new sought was.none
      (subst (λ (p : Option PacedSeek). heads_steps words p seek ≤ n - 1) (sym (ap (λ (c : ChipState). c.pace) rest)) steps)
  ends_paced None is =
      let fdc = chip.front.adapter.controller in
      let may : (is_idle fdc && (seek_bits fdc.seeks == 0)) ≡ true = and_from (is_idle fdc) (seek_bits fdc.seeks == 0) (stands_idle chip.front stands) (ap (λ n. n == 0) stands.rests) in
      let set : Fdc = record fdc { seeks = with_motion fdc.seeks (pace.unit % 4) (Outward (pulses_within pace.left)) } in
      let front : Front = record chip.front { adapter = with_controller set chip.front.adapter } in
      let given : recalibrated_outside pace.unit pace.left chip.front ≡ front =
      ap (λ stage. recalibrated_at stage pace.unit pace.left chip.front) stands.through
      ∙ ap (λ b. record chip.front { adapter = with_controller (if b then set else fdc) chip.front.adapter }) may in
      let same : new ≡ record chip { front = front; pace = None } = is ∙ ap (λ (f : Front). record chip { front = f; pace = None }) given in
      let steps = end_on (pulses_left pace * (max words 256 + 1)) pace.wait (seek_steps old.adapter.controller.seeks.seek) (pulses_within pace.left + 1) n (within_all pace.left) few in
      subst (IsPaced words (n - 1)) (sym same) (record {
        idle = record { through = was.idle.through; takes = was.idle.takes; whole = was.idle.whole; free = was.idle.free };
        tells = λ over. absurd (false≢true over);
        four = four_none fdc.seeks.pending was.none;
        within = steps;
      })

  pulses_paced : (b : Bool) → is_over pace ≡ b → step_words chip.settings ≤ words → PulsesIf b pace chip new → IsPaced words (n - 1) new
  pulses_paced true over some ends = ends_paced pace.goal ends
  pulses_paced false goes some (gives, rest) =
      let next = stepped (step_words chip.settings) pace in
      let sought = seek_given pace.unit next.cylinder chip.front new stands gives in
      let seek = new.front.adapter.controller.seeks.seek in
      let steps = pulse_on (pulses_left next) (pulses_left pace) words (step_words chip.settings) pace.wait (seek_steps old.adapter.controller.seeks.seek) (seek_steps seek) n
      (fewer_left (step_words chip.settings) pace goes) some (later sought.runs sought.idle) few in
      sought_paced words (n - 1) chip.front new sought was.none
      (subst (λ (p : Option PacedSeek). heads_steps words p seek ≤ n - 1) (sym (ap (λ (c : ChipState). c.pace) rest)) steps)

-- ---- ---- the pace goes on

freed_calm : (words n : ℕ) (pace : PacedSeek) (old : Front) (chip new : ChipState) → IsFreed old chip → new ≡ record chip { pace = Some (record pace { wait = pace.wait - 1 }) }
    → max (pace.wait - 1) (seek_steps chip.front.adapter.controller.seeks.seek) + (pulses_left pace * (max words 256 + 1) + 257) ≤ n → IsPaced words n new
freed_calm words n pace old chip new was is few = subst (IsPaced words n) (sym is) (record {
  idle = record { through = was.idle.through; takes = was.idle.takes; whole = was.idle.whole; free = was.idle.free };
  tells = runs_tells chip.front.adapter.controller.seeks was.runs;
  four = four_none chip.front.adapter.controller.seeks.pending was.none;
  within = few;
})

due_moves : (ready moves : Bool) → ((true && ready) && not moves) ≡ false → ready ≡ true → moves ≡ true
due_moves true true due is = refl
due_moves true false due is = absurd (false≢true (sym due))
due_moves false moves due is = absurd (false≢true is)

goes_paced : (b : Bool) (words n : ℕ) (pace : PacedSeek) (old : Front) (chip new : ChipState) → IsFreed old chip → is_due pace chip ≡ b → step_words chip.settings ≤ words
    → max pace.wait (seek_steps old.adapter.controller.seeks.seek) + (pulses_left pace * (max words 256 + 1) + 257) ≤ n → IsFewLater new → GoesOnIf b pace chip new → IsPaced words (n - 1) new
goes_paced true words n pace old chip new was due some few later pulses =
    let waited = nat_le pace.wait 1 in
    let (timed, still) = and_parts (waited && is_ready chip.front) (not (moves_heads chip.front)) due in
    let stands = stands_of chip old was (not-true (moves_heads chip.front) still) in
    pulses_paced words n old pace chip new was stands few later (is_over pace) refl some pulses
goes_paced false words n pace old chip new was due some few later is = by_wait (nat_le pace.wait 1) refl
  where
    ready : is_ready chip.front ≡ true
    ready = ap (λ stage. is_ready_at stage chip.front.adapter.controller) was.idle.through ∙ idle_takes chip.front was.idle

    by_wait : (b : Bool) → nat_le pace.wait 1 ≡ b → IsPaced words (n - 1) new
    by_wait true over =
        let moves : moves_heads chip.front ≡ true =
        due_moves (is_ready chip.front) (moves_heads chip.front) (ap (λ b. (b && is_ready chip.front) && not (moves_heads chip.front)) (sym over) ∙ due) ready in
        freed_calm words (n - 1) pace old chip new was is
        (seek_on (pulses_left pace * (max words 256 + 1) + 257) pace.wait (seek_steps old.adapter.controller.seeks.seek) (seek_steps chip.front.adapter.controller.seeks.seek) n (leb-true pace.wait 1 over)
        (moves_some chip.front was.idle was.runs moves) was.left few)
    by_wait false more = freed_calm words (n - 1) pace old chip new was is
        (wait_on (pulses_left pace * (max words 256 + 1) + 257) pace.wait (seek_steps old.adapter.controller.seeks.seek) (seek_steps chip.front.adapter.controller.seeks.seek) n (leb-false pace.wait 1 more)
        was.left few (omega arith))

-- ---- a device step of a chip that isn't busy

module _ (words n : ℕ) (old : ChipState) (between : Front) (new : ChipState) (sound : IsSound old) (free : is_held old.front.adapter.controller ≡ false) (rests : RestsBehind old.front) (step : StepsFront old.front between) (four : length old.front.adapter.controller.seeks.pending ≡ 4) (tells : TellsEnd old.front.adapter.controller.seeks) (few : heads_steps words old.pace old.front.adapter.controller.seeks.seek ≤ n) (some : step_words old.settings ≤ words) (later : IsFewLater new) where
  abbrev set : ChipState
  set = with_front between old

  idle_between : IsIdleAt between × RestsBehind between × (between.adapter.controller.non_dma ≡ false)
  idle_between =
      let (still, base) = front_rests old.front between step sound.whole rests in (
        record { through = still.through; takes = still.takes; whole = base.command; free = base_held old.front.adapter.controller between.adapter.controller base ∙ free },
        still,
        base.non_dma ∙ sound.by_dma,
      )

  freed : IsFreed old.front (drained set)
  freed =
      let (idle, still, by_dma) = idle_between in
      let near = front_nearer old.front between step rests four tells in
      let taken = all_taken set idle near.four in
      let resting = drained_rests 4 set idle.whole still in
      record {
        idle = taken.taken.idle;
        rests = resting.rests;
        by_dma = resting.base.non_dma ∙ by_dma;
        runs = drained_runs set idle near.four near.tells;
        none = taken.pending;
        left = still_less _ _ _ (drained_left set idle) near.left;
      }

  by_pace : (pace : Option PacedSeek) → old.pace ≡ pace → Paces pace set new → IsPaced words (n - 1) new
  by_pace None at is =
      let near = front_nearer old.front between step rests four tells in
      let before : seek_steps old.front.adapter.controller.seeks.seek ≤ n = subst (λ (p : Option PacedSeek). heads_steps words p old.front.adapter.controller.seeks.seek ≤ n) at few in
      subst (IsPaced words (n - 1)) (sym is) (record {
        idle = idle_between.0;
        tells = near.tells;
        four = near.four;
        within = subst (λ (p : Option PacedSeek). heads_steps words p between.adapter.controller.seeks.seek ≤ n - 1) (sym at)
            (omega arith);
      })
  by_pace (Some pace) at goes =
      let before = subst (λ (p : Option PacedSeek). heads_steps words p old.front.adapter.controller.seeks.seek ≤ n) at few in
      goes_paced (is_due pace (drained set)) words n pace old.front (drained set) new freed refl (subst (λ (s : Settings). step_words s ≤ words) (sym (drained_settings 4 set)) some) before later goes

  pub paces_on : Paces old.pace set new → IsPaced words (n - 1) new
  paces_on paces = by_pace old.pace refl paces
