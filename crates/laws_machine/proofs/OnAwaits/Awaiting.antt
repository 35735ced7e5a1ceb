-- A data command that is awaited, through device steps and waits.
use Rattle.std.proofs.Common.{inl, inr, ◌≡◌, ℕ, ◌%◌, ◌≤◌, ◌==◌, Bool, true, false, None, refl, sym, ◌∙◌, ap, subst}
use Rattle.laws_machine.proofs.Common.{DriveState, at_index, is_stray_due, Dor, is_executing, ExecutesIn, interrupts, is_gated, dor_of, polled, seek_stepped, MovesIn, RestsIn, Stays, WritesIn, Fdc, Phase, Execute, Board, controller_of, latch_of, drive_in, Works, Step, strayed_if, lined, Chips, IsHushed, regapped, Steady, TurnsOn, IsLetOut, HoldsSet, is_unread, IsAwaited, false≢true, dma_stepped, HasEnded, and_right}
use Rattle.laws_machine.proofs.Facts.{either_is, lined_rose, lined_set, strayed_level, strayed_set, told_busy}
use Rattle.laws_machine.proofs.OnQuiet.Listening.{stepped_none, pulse_none}
use Rattle.laws_machine.proofs.OnSteps.Words.{drives, some_drive, idle_dma, dma_only, phase_dma, with_moved}
use Rattle.laws_machine.proofs.OnAwaits.Turning.{as_turned, on_calm, on_further, word_leaves}
use Rattle.laws_machine.proofs.OnSteps.Outcomes.{Leaves}
use Rattle.laws_machine.proofs.OnQuiet.Steps.{polled_same, turned_moves}

-- ---- the word time

-- outside execution the phase and DRQ stay
pub record HasRested (old new : Fdc) : Type 0 where
  pub phase : new.phase ≡ old.phase
  pub asking : new.asking ≡ old.asking

-- a drive and the controller after a word time
pub record IsBehind (before after : DriveState) (old between : Fdc) : Type 0 where
  pub drive : TurnsOn before after
  pub seeks : between.seeks ≡ old.seeks
  pub poll : between.poll_due ≡ old.poll_due
  pub busy : is_executing old.phase ≡ true → Leaves old between
  pub idle : is_executing old.phase ≡ false → HasRested old between

stepped_behind : (before after : DriveState) (old between : Fdc) → is_executing old.phase ≡ false → old.seeks.seek ≡ None → TurnsOn before after
    → between ≡ seek_stepped (before.cylinder == 0) old → IsBehind before after old between
stepped_behind before after old between idle none drive is = record {
  drive = drive;
  seeks = ap (λ fdc. fdc.seeks) is ∙ stepped_none old.seeks (before.cylinder == 0) none;
  poll = ap (λ fdc. fdc.poll_due) is;
  busy = λ busy. absurd (false≢true (sym idle ∙ busy));
  idle = λ _. record { phase = ap (λ fdc. fdc.phase) is; asking = ap (λ fdc. fdc.asking) is };
}

rests_behind : (phase : Phase) (before after : DriveState) (old between : Fdc) → old.phase ≡ phase → is_executing phase ≡ false → old.seeks.seek ≡ None
    → MovesIn phase old before after → RestsIn phase (before.cylinder == 0) old between → IsBehind before after old between
rests_behind (Execute execution) before after old between at idle none moves rests = absurd (false≢true (sym idle))
rests_behind _ before after old between at idle none moves rests =
    stepped_behind before after old between (ap is_executing at) none (as_turned before after (turned_moves _ before after (pulse_none old.seeks (before.cylinder == 0) none) moves)) rests

-- in execution, after the poll
busy_behind : (before after : DriveState) (old between : Fdc) (index : Bool) (word : ℕ) → is_executing old.phase ≡ true → MovesIn old.phase old before after
    → WritesIn old.phase old.asking old.fifo old before after between → ExecutesIn old.phase index word old between → IsBehind before after old between
busy_behind before after old between index word busy moves writes executes =
    let both = word_leaves old.phase old.asking old.fifo index word old before after between busy moves writes executes in
    record {
      drive = both.drive;
      seeks = both.controller.seeks;
      poll = both.controller.poll;
      busy = λ _. both.controller;
      idle = λ idle. absurd (false≢true (sym idle ∙ busy));
    }

same_works : (before after : DriveState) (old between : Fdc) → old.seeks.seek ≡ None → old.poll_due ≡ false → Works old before between after → IsBehind before after old between
same_works before after old between none unpolled works = by_busy (is_executing old.phase) refl
  where
    same : polled old ≡ old
    same = polled_same old unpolled

    by_busy : (b : Bool) → is_executing old.phase ≡ b → IsBehind before after old between
    by_busy true busy = busy_behind before after old between (at_index before) works.reads.word busy
        (subst (λ polls. MovesIn polls.phase polls before after) same works.drive)
        (subst (λ polls. WritesIn old.phase old.asking old.fifo polls before after between) same works.writes)
        (subst (λ polls. ExecutesIn old.phase (at_index before) works.reads.word polls between) same works.reads.follows.executes)
    by_busy false idle = rests_behind old.phase before after old between refl idle none
        (subst (λ polls. MovesIn polls.phase polls before after) same works.drive) (subst (λ polls. RestsIn polls.phase (before.cylinder == 0) polls between) same works.rests)

-- ---- what was set

let_out_on : (old new : Fdc) → IsLetOut old → new.dor ≡ old.dor → new.seeks ≡ old.seeks → new.poll_due ≡ old.poll_due → IsLetOut new
let_out_on old new was dor seeks poll = record {
  selects = let at = was.selects in let same : dor_of new ≡ dor_of old = ap (λ d. d.0) dor in subst (λ n. n % 4 ≤ 1) (sym same) at;
  gated = gated_same dor was.gated;
  no_seek = ap (λ s. s.seek) seeks ∙ was.no_seek;
  polled = poll ∙ was.polled;
}
  where
    gated_same : new.dor ≡ old.dor → is_gated old ≡ true → is_gated new ≡ true
    gated_same same is = ap (λ (d : Dor). is_gated (record new { dor = d })) same ∙ is

holds_word : (begun : ℕ) (start old between new : Fdc) → HoldsSet begun start old → Stays old between → between.seeks ≡ old.seeks → new ≡ with_moved between new → HoldsSet begun start new
holds_word begun start old between new was stays seeks kept = record {
  seeks = ap (λ f. f.seeks) kept ∙ (seeks ∙ was.seeks);
  dor = ap (λ f. f.dor) kept ∙ (stays.dor ∙ was.dor);
  rate = ap (λ f. f.rate) kept ∙ (stays.rate ∙ was.rate);
  non_dma = ap (λ f. f.non_dma) kept ∙ (stays.non_dma ∙ was.non_dma);
  polling = ap (λ f. f.polling) kept ∙ (stays.polling ∙ was.polling);
  on = ap (λ f. f.fifo.on) kept ∙ (stays.on ∙ was.on);
  threshold = ap (λ f. f.fifo.threshold) kept ∙ (stays.threshold ∙ was.threshold);
  command = ap (λ f. f.command) kept ∙ (stays.command ∙ was.command);
  data_commands = ap (λ f. f.data_commands) kept ∙ (stays.data_commands ∙ was.data_commands);
}

-- ---- the device step

-- both drives and the controller after the word time of a device step
pub record IsPast (old new : Board) (between : Fdc) : Type 0 where
  pub both : TurnsOn old.first new.first × TurnsOn old.second new.second
  pub behind : (before : DriveState) × (after : DriveState) × IsBehind before after (controller_of old) between
  pub stays : Stays (controller_of old) between

step_past : (old new : Board) → IsLetOut (controller_of old) → (step : Step old new) → IsPast old new step.between
step_past old new out step = record {
  both = drives TurnsOn old new step (λ before after works. (at before after works).drive) (λ before after passes. on_calm before after passes);
  behind = some_drive ((before : DriveState) × (after : DriveState) × IsBehind before after (controller_of old) step.between) old new out.selects step
      (λ bay works. (drive_in old bay, drive_in new bay, at (drive_in old bay) (drive_in new bay) works));
  stays = some_drive (Stays (controller_of old) step.between) old new out.selects step (λ bay works. works.stays);
}
  where
    at : (before after : DriveState) → Works (controller_of old) before step.between after → IsBehind before after (controller_of old) step.between
    at before after works = same_works before after (controller_of old) step.between out.no_seek out.polled works

module _ (begun : ℕ) (start old new : Board) (was : IsAwaited begun start old) (step : Step old new) where
  abbrev chips : Chips
  chips = record old.bus.chips { controller = step.between }

  past : IsPast old new step.between
  past = step_past old new was.calm step

  now : controller_of new ≡ (dma_stepped chips).controller
  now = ap (λ bus. bus.chips.controller) step.bus

  kept : controller_of new ≡ with_moved step.between (controller_of new)
  kept = subst (λ fdc. fdc ≡ with_moved step.between fdc) (sym now) (dma_only chips)

  busy_same : is_executing (controller_of new).phase ≡ is_executing step.between.phase
  busy_same = ap (λ fdc. is_executing fdc.phase) now ∙ phase_dma is_executing told_busy chips

  latch_now : latch_of new ≡ lined (interrupts (dma_stepped chips).controller) (strayed_if (is_stray_due old.bus.strays) old.bus.latch)
  latch_now = ap (λ bus. bus.latch) step.bus

  gated_now : is_gated (dma_stepped chips).controller ≡ true
  gated_now = sym (ap is_gated now) ∙ (let_out_on (controller_of old) (controller_of new) was.calm (ap (λ f. f.dor) kept ∙ past.stays.dor) (ap (λ f. f.seeks) kept ∙ past.behind.2.seeks) (ap (λ f. f.poll_due) kept ∙ past.behind.2.poll)).gated

  still : is_executing (controller_of old).phase ≡ true → is_executing step.between.phase ≡ true → IsHushed new
  still was_busy busy =
      let hushed = was.waits was_busy in
      let leaves = past.behind.2.busy was_busy in
      let low : (controller_of new).interrupt ≡ false = ap (λ f. f.interrupt) kept ∙ (leaves.goes_on busy ∙ hushed.low) in
      record {
        low = low;
        polled = ap (λ f. f.poll_due) kept ∙ (past.behind.2.poll ∙ hushed.polled);
        level = ap (λ latch. latch.level) latch_now ∙ and_right (is_gated (dma_stepped chips).controller) (dma_stepped chips).controller.interrupt (sym (ap (λ fdc. fdc.interrupt) now) ∙ low);
      }

  -- the command ends in this step
  rose : is_executing (controller_of old).phase ≡ true → is_executing step.between.phase ≡ false → HasEnded new
  rose was_busy idle =
      let hushed = was.waits was_busy in
      let finished = (past.behind.2.busy was_busy).ends idle in
      let same : (dma_stepped chips).controller ≡ step.between = ap (λ c. c.controller) (idle_dma chips finished.quiet) in
      let up : interrupts (dma_stepped chips).controller ≡ true = rw (gated_now, ap (λ fdc. fdc.interrupt) same ∙ finished.up) refl in
      record {
        set = ap (λ latch. latch.is_set) latch_now
            ∙ lined_rose (strayed_if (is_stray_due old.bus.strays) old.bus.latch) (interrupts (dma_stepped chips).controller) up (strayed_level (is_stray_due old.bus.strays) old.bus.latch ∙ hushed.level);
        unread = ap (λ fdc. is_unread fdc.phase) (now ∙ same) ∙ finished.unread;
        quiet = ap (λ fdc. fdc.asking) (now ∙ same) ∙ finished.quiet;
      }

  -- the command has ended before
  rests : is_executing (controller_of old).phase ≡ false → HasEnded new
  rests idle =
      let before = was.ended idle in
      let rested = past.behind.2.idle idle in
      let low : step.between.asking ≡ false = rested.asking ∙ before.quiet in
      let same : (dma_stepped chips).controller ≡ step.between = ap (λ c. c.controller) (idle_dma chips low) in
      record {
        set = ap (λ latch. latch.is_set) latch_now
            ∙ lined_set (interrupts (dma_stepped chips).controller) (strayed_if (is_stray_due old.bus.strays) old.bus.latch) (strayed_set (is_stray_due old.bus.strays) old.bus.latch before.set);
        unread = ap (λ fdc. is_unread fdc.phase) (now ∙ same) ∙ (ap is_unread rested.phase ∙ before.unread);
        quiet = ap (λ fdc. fdc.asking) (now ∙ same) ∙ low;
      }

  ended_now : is_executing step.between.phase ≡ false → HasEnded new
  ended_now idle = elim (either_is (is_executing (controller_of old).phase)) [ inl busy ↦ rose busy idle | inr done ↦ rests done ]

  waits_now : is_executing step.between.phase ≡ true → IsHushed new
  waits_now busy = elim (either_is (is_executing (controller_of old).phase)) [
    | inl was_busy ↦ still was_busy busy
    | inr idle ↦ absurd (false≢true (sym (ap is_executing (past.behind.2.idle idle).phase ∙ idle) ∙ busy))
  ]

  pub step_awaits : IsAwaited begun start new
  step_awaits = record {
    calm = let_out_on (controller_of old) (controller_of new) was.calm (ap (λ f. f.dor) kept ∙ past.stays.dor) (ap (λ f. f.seeks) kept ∙ past.behind.2.seeks) (ap (λ f. f.poll_due) kept ∙ past.behind.2.poll);
    holds = holds_word begun (controller_of start) (controller_of old) step.between (controller_of new) was.holds past.stays past.behind.2.seeks kept;
    first = on_further start.first old.first new.first was.first past.both.0;
    second = on_further start.second old.second new.second was.second past.both.1;
    waits = λ busy. waits_now (sym busy_same ∙ busy);
    ended = λ idle. ended_now (sym busy_same ∙ idle);
  }

-- the same controller, drives and latch
pub same_await : (begun : ℕ) (start old new : Board) → controller_of new ≡ controller_of old → latch_of new ≡ latch_of old → new.first ≡ old.first → new.second ≡ old.second
    → IsAwaited begun start old → IsAwaited begun start new
same_await begun start old new controller latch first second was = record {
  calm = subst IsLetOut (sym controller) was.calm;
  holds = subst (HoldsSet begun (controller_of start)) (sym controller) was.holds;
  first = subst (TurnsOn start.first) (sym first) was.first;
  second = subst (TurnsOn start.second) (sym second) was.second;
  waits = λ busy. let before = was.waits (sym (ap (λ fdc. is_executing fdc.phase) controller) ∙ busy) in record {
    low = ap (λ fdc. fdc.interrupt) controller ∙ before.low;
    polled = ap (λ fdc. fdc.poll_due) controller ∙ before.polled;
    level = ap (λ l. l.level) latch ∙ before.level;
  };
  ended = λ idle. let before = was.ended (sym (ap (λ fdc. is_executing fdc.phase) controller) ∙ idle) in record {
    set = ap (λ l. l.is_set) latch ∙ before.set;
    unread = ap (λ fdc. is_unread fdc.phase) controller ∙ before.unread;
    quiet = ap (λ fdc. fdc.asking) controller ∙ before.quiet;
  };
}

pub awaiting : (begun : ℕ) (start : Board) → Steady (IsAwaited begun start)
awaiting begun start = record {
  step = λ old new step was. step_awaits begun start old new was step;
  idle = λ old gaps fresh was. same_await begun start old (regapped gaps fresh old) refl refl refl refl was;
}
