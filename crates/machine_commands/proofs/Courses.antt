-- A data command, from its last byte until its end is reported.
use Rattle.std.proofs.Common.{◌≡◌, inl, inr, ℕ, zero, suc, ◌+◌, ◌-◌, ◌≤◌, ◌==◌, ◌&&◌, not, Bool, true, false, None, if◌then◌else◌, refl, sym, ◌∙◌, ap, subst, arith}
use Rattle.machine_commands.proofs.Common.{Seeking, seek_bits, has_ended, is_executing, is_held, Fdc, Phase, Command, Execute, Result, is_unread, with_one, Order, Scene, Steady, Board, controller_of, holds_of, Inputs, Step, stirred, Watch, Watches, AwaitsResults, latch_taken, bit_or, option_map_or, false_from_ne_true, true_from_ne_false, false≢true, is_begun, main_status, phase_bits, steps_left, AreShort, IsAwaited, most_steps_of, steps_taken, Lasts, Uses, going, goes_status, goes_stray, goes_wait, goes_waits, lasts_input, lasts_none, lasts_taken, lasts_twice, lasts_unset, lasts_wait, lasts_within, inputs, unset, wait, waits, uses_input, uses_look, uses_none, uses_taken, uses_twice, uses_wait, uses_waits, latch_of}
use Rattle.fdc_registers.specs.declared.drive_lines.Dor.{Dor}
use Rattle.laws_machine.specs.OnAwaits.Goes.{GoesOn}
use Rattle.laws_machine.proofs.OnAwaits.Accesses.{few}
use Rattle.laws_machine.proofs.OnSteps.Moves.{step_ends}
use Rattle.pc_bus.specs.Steps.{RunsUnset}
use Rattle.machine_commands.proofs.Idling.{Idles, IsResting}
use Rattle.machine_commands.proofs.Steps.{idles_none, idling}
use Rattle.machine_commands.proofs.Accesses.{runs_one}

-- ---- MSR

busy_by : (held has_begun : Bool) (phase : Phase) (seeks : Seeking) → seeks.seek ≡ None → is_executing phase ≡ true
    → ((if held then 0 else bit_or (phase_bits has_begun phase) (seek_bits seeks)) == 0xD0) ≡ false
busy_by true has_begun (Execute execution) seeks none _ = refl
busy_by false has_begun (Execute execution) seeks none _ = rw none refl
busy_by held has_begun _ seeks none idle = absurd (false≢true idle)

ready_by : (held has_begun : Bool) (phase : Phase) (seeks : Seeking) → held ≡ false → seeks.seek ≡ None → is_unread phase ≡ true
    → ((if held then 0 else bit_or (phase_bits has_begun phase) (seek_bits seeks)) == 0xD0) ≡ true
ready_by true has_begun phase seeks free none unread = absurd (false≢true (sym free))
ready_by false has_begun (Result answer) seeks _ none unread = rw none refl
ready_by false has_begun _ seeks _ none unread = absurd (false≢true unread)

-- ---- device steps that are left

abbrev left_of : Board → ℕ
left_of board = steps_left (controller_of board).phase

-- a command that took at most `most` steps has at least one left of `most + 1`
positive_by : (most : ℕ) (phase : Phase) → is_executing phase ≡ true → steps_taken phase ≤ most → most ≤ 65535 → 1 ≤ steps_left phase - (65535 - most)
positive_by most (Execute execution) busy taken small = omega arith
positive_by most _ busy taken small = absurd (false≢true busy)

most_left : (phase : Phase) → steps_left phase ≤ 65536
most_left Command = omega arith
most_left (Result answer) = omega arith
most_left (Execute execution) = omega arith

-- ---- after the end

-- a controller whose data command has ended rests
pub resting : (begun : ℕ) (start now : Board) → IsAwaited begun start now → is_executing (controller_of now).phase ≡ false → IsResting (controller_of now)
resting begun start now was idle = record {
  no_command = idle;
  no_seek = ap (λ seek. option_map_or (λ s. not (has_ended s.motion)) seek false) was.calm.no_seek;
  not_asking = (was.ended idle).quiet;
  no_poll = ap (λ due. due && not (is_held (controller_of now))) was.calm.polled;
}

-- the command has ended, and MSR is read
pub record EndsAt (order : Order) (scene : Scene) (start old new : Board) : Type 0 where
  pub at : Board
  pub goes : GoesOn order scene start at
  pub idle : is_executing (controller_of at).phase ≡ false
  pub value : ℕ
  pub reads : Inputs 0x3F4 (latch_taken at) value new
  pub lasts : Lasts (most_steps_of scene.disk.words_per_track + 2) old new
  pub uses : Uses 1 old new

-- where the DMA latencies were bytes when the command began, it ends in time
module _ (order : Order) (scene : Scene) (start : Board) (free : is_held (controller_of start) ≡ false) (short : AreShort (holds_of start)) where
  held_now : (now : Board) → GoesOn order scene start now → is_held (controller_of now) ≡ false
  held_now now was = ap (λ (dor : Dor). is_held (record (controller_of now) { dor = dor })) was.awaited.holds.dor ∙ free

  abbrev most : ℕ
  most = most_steps_of scene.disk.words_per_track

  -- how many are left of `most + 1` device steps
  abbrev still : Board → ℕ
  still board = left_of board - (65535 - most)

  small_most : (now : Board) → GoesOn order scene start now → most ≤ 33026
  small_most now was = let size = was.underway.1.scene_is.disk.words_per_track.1 in omega arith

  still_most : (now : Board) → GoesOn order scene start now → still now ≤ most + 1
  still_most now was = let all = most_left (controller_of now).phase in let small = small_most now was in omega arith

  keeps_still : (k : ℕ) → Steady (λ board. still board ≤ k)
  keeps_still k = record { step = λ old new step was. (let less = step_ends old new step in omega arith); idle = λ old gaps fresh was. was }

  step_still : (old new : Board) → Step old new → GoesOn order scene start old → is_executing (controller_of old).phase ≡ true → still new + 1 ≤ still old
  step_still old new step was busy =
      let small = small_most old was in
      let some = positive_by most (controller_of old).phase busy (few order scene start old was short) (omega arith) in
      let less = step_ends old new step in
      omega arith

  -- in each step in which the latch isn't set, the command is in execution
  unset_still : (n : ℕ) (old new : Board) → RunsUnset n old new → GoesOn order scene start old → n + still new ≤ still old
  unfolding RunsUnset
  unset_still zero old new same was = subst (λ b. 0 + still b ≤ still old) (sym same) (omega arith)
  unset_still (suc n) old new (between, runs, low, step) was =
      let goes = unset (GoesOn order scene start) (going order scene start) n old between runs was in
      let busy = true_from_ne_false (is_executing (controller_of between).phase) (λ idle. false≢true (sym low ∙ (goes.awaited.ended idle).set)) in
      let before = unset_still n old between runs was in
      let one = step_still between new step goes busy in
      omega arith

  stirred_goes : (now : Board) → GoesOn order scene start now → GoesOn order scene start (stirred now)
  stirred_goes now was = (going order scene start).idle now now.bus.gaps false was

  -- a watch
  module _ (ready : Bool) (old new : Board) (was : GoesOn order scene start old) (watch : Watch old ready new) where
    at_wait : GoesOn order scene start watch.waited
    at_wait = goes_waits order scene start 65536 watch.set watch.stepped watch.waited watch.waits (goes_wait order scene start 1 old watch.stepped watch.steps was)

    abbrev fdc : Fdc
    fdc = controller_of watch.waited

    told : ready ≡ (main_status fdc == 0xD0)
    told = watch.answer ∙ ap (λ v. v == 0xD0) watch.reads.value_is

    ended_ready : is_executing fdc.phase ≡ false → ready ≡ true
    ended_ready idle =
        told ∙ ready_by (is_held fdc) (is_begun fdc.command) fdc.phase fdc.seeks (held_now watch.waited at_wait) at_wait.awaited.calm.no_seek (at_wait.awaited.ended idle).unread

    busy_unready : is_executing fdc.phase ≡ true → ready ≡ false
    busy_unready busy = told ∙ busy_by (is_held fdc) (is_begun fdc.command) fdc.phase fdc.seeks at_wait.awaited.calm.no_seek busy

    ready_idle : ready ≡ true → is_executing fdc.phase ≡ false
    ready_idle is = false_from_ne_true (is_executing fdc.phase) (λ busy. false≢true (sym (busy_unready busy) ∙ is))

    still_busy : ready ≡ false → is_executing fdc.phase ≡ true
    still_busy no_results = true_from_ne_false (is_executing fdc.phase) (λ idle. false≢true (sym no_results ∙ ended_ready idle))

    -- a command that has ended stays ended
    ended_stays : is_executing (controller_of old).phase ≡ false → is_executing fdc.phase ≡ false
    ended_stays idle =
        let rest = resting (with_one start) start old was.awaited idle in
        let idles = Idles (controller_of old) old in
        let one = wait idles (idling old rest) 1 old watch.stepped watch.steps (idles_none old) in
        ap (λ f. is_executing f.phase) (waits idles (idling old rest) 65536 watch.set watch.stepped watch.waited watch.waits one).controller_is ∙ idle

    busy_before : ready ≡ false → is_executing (controller_of old).phase ≡ true
    busy_before no_results =
        true_from_ne_false (is_executing (controller_of old).phase) (λ idle. false≢true (sym (ended_stays idle) ∙ still_busy no_results))

    fails_goes : ready ≡ false → GoesOn order scene start new
    fails_goes no_results = goes_status order scene start watch.value (latch_taken watch.waited) new watch.reads (goes_stray order scene start watch.waited (still_busy no_results) at_wait)

    waited_still : watch.waits.steps + still watch.waited ≤ still watch.stepped
    waited_still =
        unset_still watch.waits.steps (stirred watch.stepped) watch.waited watch.waits.runs (stirred_goes watch.stepped (goes_wait order scene start 1 old watch.stepped watch.steps was))

    watch_lasts : Lasts (1 + watch.waits.steps) old new
    watch_lasts =
        let read = lasts_twice 0 0 watch.waited (latch_taken watch.waited) new (lasts_taken watch.waited) (lasts_input 0x3F4 watch.value (latch_taken watch.waited) new watch.reads) in
        let waited = lasts_twice watch.waits.steps 0 watch.stepped watch.waited new (lasts_unset watch.waits.steps watch.stepped watch.waited watch.waits.runs) read in
        lasts_within (1 + (watch.waits.steps + 0)) (1 + watch.waits.steps) old new (omega arith)
        (lasts_twice 1 (watch.waits.steps + 0) old watch.stepped new (lasts_wait 1 old watch.stepped watch.steps) waited)

    fails_still : ready ≡ false → 1 + watch.waits.steps + still new ≤ still old
    fails_still no_results =
        let one = step_still (stirred old) watch.stepped (runs_one (stirred old) watch.stepped watch.steps) (stirred_goes old was) (busy_before no_results) in
        let waited = waited_still in
        let same : still watch.waited ≤ still watch.waited = omega arith in
        let read = inputs (λ board. still board ≤ still watch.waited) (keeps_still (still watch.waited)) 0x3F4 watch.value (latch_taken watch.waited) new same watch.reads in
        omega arith

    -- a watch that finds no results was ended by an interrupt
    fails_set : ready ≡ false → (latch_of watch.waited).is_set ≡ true
    fails_set no_results =
        sym watch.waits.answer
        ∙ true_from_ne_false watch.set
        (λ low.
        let whole : watch.waits.steps ≡ 65536 = watch.waits.all low in
        let fewer_left = fails_still no_results in
        let few_left = still_most old was in
        let small = small_most old was in
        omega arith)

    fails_use : ready ≡ false → Uses 0 old new
    fails_use no_results =
        uses_twice 0 0 old watch.stepped new (uses_wait 1 old watch.stepped watch.steps)
        (uses_twice 0 0 watch.stepped watch.waited new (uses_waits 65536 watch.set watch.stepped watch.waited watch.waits)
        (uses_look 0x3F4 watch.value watch.waited new (fails_set no_results) watch.reads))

    watch_uses : Uses 1 old new
    watch_uses =
        uses_twice 0 1 old watch.stepped new (uses_wait 1 old watch.stepped watch.steps)
        (uses_twice 0 1 watch.stepped watch.waited new (uses_waits 65536 watch.set watch.stepped watch.waited watch.waits)
        (uses_twice 0 1 watch.waited (latch_taken watch.waited) new (uses_taken watch.waited) (uses_input 0x3F4 watch.value (latch_taken watch.waited) new watch.reads)))

    -- the last watch may begin after the end
    last_still : 1 + watch.waits.steps ≤ still old + 1
    last_still =
        let same : still old ≤ still old = omega arith in
        let one = wait (λ board. still board ≤ still old) (keeps_still (still old)) 1 old watch.stepped watch.steps same in
        let waited = waited_still in
        omega arith

  -- watches in which no results were ready. Each looks at a port once, and the interrupt that ended it pays for that
  record HasGone (n : ℕ) (old new : Board) : Type 0 where
    goes : GoesOn order scene start new
    steps : ℕ
    many : n ≤ steps
    lasts : Lasts steps old new
    left : steps + still new ≤ still old
    uses : Uses 0 old new

  watches_go : (n : ℕ) (old new : Board) → Watches n old new → GoesOn order scene start old → HasGone n old new
  watches_go zero old new same was =
      subst (HasGone 0 old) (sym same) (record { goes = was; steps = 0; many = omega arith; lasts = lasts_none old; left = omega arith; uses = uses_none old })
  watches_go (suc n) old new (between, watches, watch) was =
      let before = watches_go n old between watches was in
      let many = before.many in
      let so_far = before.left in
      let one = fails_still false between new before.goes watch refl in
      record {
        goes = fails_goes false between new before.goes watch refl;
        steps = before.steps + (1 + watch.waits.steps);
        many = omega arith;
        lasts = lasts_twice before.steps (1 + watch.waits.steps) old between new before.lasts (watch_lasts false between new before.goes watch);
        left = omega arith;
        uses = uses_twice 0 0 old between new before.uses (fails_use false between new before.goes watch refl);
      }

  pub awaits_end : (old new : Board) → AwaitsResults old new → GoesOn order scene start old → EndsAt order scene start old new
  awaits_end old new (inl (n, between, watches, watch)) was =
      let before = watches_go n old between watches was in
      let so_far = before.left in
      let last = last_still true between new before.goes watch in
      let all = still_most old was in
      record {
        at = watch.waited;
        goes = at_wait true between new before.goes watch;
        idle = ready_idle true between new before.goes watch refl;
        value = watch.value;
        reads = watch.reads;
        lasts = lasts_within (before.steps + (1 + watch.waits.steps)) (most + 2) old new (omega arith)
            (lasts_twice before.steps (1 + watch.waits.steps) old between new before.lasts (watch_lasts true between new before.goes watch));
        uses = uses_twice 0 1 old between new before.uses (watch_uses true between new before.goes watch);
      }
  awaits_end old new (inr watches) was =
      let gone = watches_go 65537 old new watches was in
      let many = gone.many in
      let so_far = gone.left in
      let all = still_most old was in
      let small = small_most old was in
      absurd (omega arith)
