-- A READ DATA that ends soon, through device steps.
use Rattle.std.proofs.Common.{◌≡◌, ◌⊎◌, inl, inr, ℕ, ◌+◌, ◌*◌, ◌%◌, ◌≤◌, ◌==◌, bit_and, Bool, true, false, List, length, refl, sym, ◌∙◌, ap, subst, arith}
use Rattle.laws_machine.proofs.Common.{Rose, DriveState, gate, Past, phase_asks, Sent, MayReadIn, MayReadTask, is_executing, is_over, asks, is_gated, polled, RestsIn, phase_counted, task_counted, Fdc, Phase, Execute, Task, IsShort, Board, controller_of, drive_in, holds_of, Works, Step, looked_at, Chips, Steady, Keeping, Scene, IsScene, track_met, IsHearing, lingers, steps_taken, wait_left, most_steps, most_steps_of, IsSoonOver, ReadSoon, ReadPrompt, cases_Bool, false≢true, grants, paced, ReadTask as Read}
use Rattle.laws_machine.proofs.Facts.{polled_phase}
use Rattle.laws_machine.proofs.OnSteps.Words.{selected, polled_fifo}
use Rattle.laws_machine.proofs.OnOrders.Steps.{underway}
use Rattle.laws_machine.proofs.OnReads.Words.{length-met, GoesOn, WordOn, few_in, word_on, words_few}
use Rattle.laws_machine.proofs.OnReads.InTime.{step_in_time}
use Rattle.laws_machine.proofs.OnReads.Served.{phase_again}
use Rattle.laws_machine.proofs.OnReads.EndMoves.{Dealt, dealt, looks_or_stalls, IsBehind, goes_soon, ends_soon}
use Rattle.laws_machine.proofs.OnSteps.Runs.{dma_stalls, holds_stay_short, looked_short}
use Rattle.laws_machine.proofs.OnReads.IdWords.{flows_in}
use Rattle.laws_machine.specs.OnOrders.Orders as order

-- until the terminal count the channel grants
counted_task : (past : Past) (sent : Sent) (head_drive steps : ℕ) (task : Task) (asking : Bool) (fifo : List ℕ)
    → MayReadTask past sent head_drive steps task asking fifo → past.counted ≡ task_counted task
counted_task past sent head_drive steps (Read reading) asking fifo (asks, (told, underway)) = underway.counted_is
counted_task past sent head_drive steps _ asking fifo was = absurd was

counted_in : (past : Past) (sent : Sent) (phase : Phase) (asking : Bool) (fifo : List ℕ) → MayReadIn past sent phase asking fifo → phase_counted phase ≡ false
    → past.counted ≡ false
counted_in past sent (Execute execution) asking fifo was none = counted_task past sent execution.head_drive execution.steps execution.task asking fifo was ∙ none
counted_in past sent _ asking fifo was none = absurd (false≢true (sym none))

grants_uncounted : (scene : Scene) (past : Past) (chips : Chips) → order.IsDoneBy order.Read scene past chips → phase_counted chips.controller.phase ≡ false
    → grants chips.channel ≡ true
grants_uncounted scene past chips known none =
    let (left, all, set) = known.moves.goes_on (counted_in past scene.sent chips.controller.phase chips.controller.asking chips.controller.fifo.bytes known.may none) in set.granting

-- ---- one device step

busy_over : (phase : Phase) → lingers phase ≡ true → is_executing phase ≡ true
busy_over (Execute execution) over = refl
busy_over _ over = absurd (false≢true over)

-- the steps that a READ DATA has taken
module _ (scene : Scene) (past : Past) (chips : Chips) (executes : Bool) (drive : DriveState) (whole : IsScene scene) (known : order.IsDoneBy order.Read scene past chips) (hears : IsHearing scene past executes drive) (soon : IsSoonOver scene.disk.words_per_track chips) where
  heard_few : lingers chips.controller.phase ≡ false → steps_taken chips.controller.phase ≤ 2 * scene.disk.words_per_track
  heard_few = few_in scene.disk.words_per_track past scene.sent chips.controller.phase chips.controller.asking chips.controller.fifo.bytes known.may (paced past scene.sent chips.controller known.may) (λ few.
      let words = words_few (track_met scene) scene.from past.turns past.seen hears.heard few in
      let long = length-met scene whole.disk in
      omega arith)

  steps_few : steps_taken chips.controller.phase ≤ most_steps_of scene.disk.words_per_track
  steps_few = elim (cases_Bool (lingers chips.controller.phase)) [
    | inl over ↦ (let few = (soon.granted (busy_over chips.controller.phase over)).few over in omega arith)
    | inr hearing ↦ (let few = heard_few hearing in omega arith)
  ]

pub soon_few_of : (scene : Scene) (board : Board) → ReadSoon scene board → steps_taken (controller_of board).phase ≤ most_steps_of scene.disk.words_per_track
soon_few_of scene board ((past, was), soon, short) = steps_few scene past board.bus.chips _ (drive_in board scene.bay) was.scene_is was.chips was.drive soon

pub soon_few : (scene : Scene) (board : Board) → ReadSoon scene board → steps_taken (controller_of board).phase ≤ most_steps
soon_few scene board was = let few = soon_few_of scene board was in let size = was.0.1.scene_is.disk.words_per_track.1 in omega arith

module _ (scene : Scene) (past : Past) (chips : Chips) (drive : DriveState) (between : Fdc) (after : DriveState) (whole : IsScene scene) (known : order.IsDoneBy order.Read scene past chips)
    (hears : IsHearing scene past (is_executing chips.controller.phase) drive) (works : Works chips.controller drive between after) (soon : IsSoonOver scene.disk.words_per_track chips)
    (short : IsShort (looked_at (record chips { controller = between })).holding.request) where
  abbrev old : Fdc
  old = chips.controller

  word : WordOn old.phase (polled old) between
  word = word_on past scene.sent old.phase old.asking old.fifo.bytes _ works.reads.word (polled old) between (drive.cylinder == 0) known.may works.reads.follows.executes
      (subst (λ phase. RestsIn phase (drive.cylinder == 0) (polled old) between) (polled_phase old) works.rests) (polled_phase old) (let few = steps_few scene past chips _ drive whole known hears soon in let size = whole.disk.words_per_track.1 in omega arith)
      (λ busy. let was = soon.granted busy in record {
        drained = λ counted. ap (λ fifo. fifo.bytes) (polled_fifo old) ∙ was.drained counted;
        room = let same = polled_fifo old in rw same was.ruled.room;
      }) soon.no_late

  behind : GoesOn old.phase (polled old) between → IsBehind scene.disk.words_per_track (steps_taken old.phase) (record chips { controller = between })
  behind goes = record {
    stage = goes.stage;
    at = goes.at;
    ruled = record {
      rule = flows ∙ (sym (phase_again between.phase old.asking between.fifo) ∙ ap (λ asking. phase_asks between.phase asking between.fifo) (sym flows));
      room = goes.room;
    };
    short = short;
    some = goes.some;
    few = λ over. by_before over (lingers old.phase) refl;
  }
    where
      flows : between.asking ≡ phase_asks between.phase old.asking between.fifo
      flows = flows_in old.phase old.asking between goes.busy works.flows

      by_before : is_over goes.stage ≡ true → (b : Bool) → lingers old.phase ≡ b
          → (steps_taken old.phase + wait_left false chips.holding.request ≤ most_steps_of scene.disk.words_per_track) ⊎ (steps_taken old.phase ≤ 2 * scene.disk.words_per_track)
      by_before over true was = inl (subst (λ none. steps_taken old.phase + wait_left none chips.holding.request ≤ most_steps_of scene.disk.words_per_track)
          (ap (λ bytes. length bytes == 0) (sym (goes.same was ∙ ap (λ fifo. fifo.bytes) (polled_fifo old))) ∙ goes.some over) ((soon.granted goes.busy).few was))
      by_before over false was = inr (heard_few scene past chips _ drive whole known hears soon was)

  pub soon_dealt : (new : Chips) → Dealt (record chips { controller = between }) new → is_gated new.controller ≡ true
      → (phase_counted new.controller.phase ≡ false → grants new.channel ≡ true) → IsSoonOver scene.disk.words_per_track new
  soon_dealt new deals gated granting = elim word [
    | inl ended ↦ ends_soon scene.disk.words_per_track (record chips { controller = between }) new deals ended short gated
    | inr goes ↦ goes_soon scene.disk.words_per_track (steps_taken old.phase) (record chips { controller = between }) new deals (behind goes) gated granting
  ]

step_soon : (scene : Scene) (old new : Board) → (step : Step old new) → order.Underway order.Read scene old → IsSoonOver scene.disk.words_per_track old.bus.chips
    → IsShort (looked_at (record old.bus.chips { controller = step.between })).holding.request → IsSoonOver scene.disk.words_per_track new.bus.chips
step_soon scene old new step (past, was) soon short =
    let (now, is) = (underway order.Read scene).step old new step (past, was) in
    let works = selected scene.bay was.scene_is.bay old new (ap (λ byte. byte % 4) was.chips.dor ∙ was.scene_is.selects) step in
    soon_dealt scene past old.bus.chips (drive_in old scene.bay) step.between (drive_in new scene.bay) was.scene_is was.chips was.drive works soon short new.bus.chips (step_dealt old new step)
    (ap (λ byte. bit_and byte gate == gate) (is.chips.dor ∙ sym was.chips.dor) ∙ soon.gated) (grants_uncounted scene now new.bus.chips is.chips)
  where
    step_dealt : (old new : Board) → (step : Step old new) → Dealt (record old.bus.chips { controller = step.between }) new.bus.chips
    step_dealt old new step = subst (Dealt (record old.bus.chips { controller = step.between })) (sym (ap (λ bus. bus.chips) step.bus)) (dealt (record old.bus.chips { controller = step.between }))

pub soon_over : (scene : Scene) → Steady (ReadSoon scene)
soon_over scene = record {
  step = λ old new step (under, soon, short).
      let looked = looked_short (asks step.between) (holds_of old) short in
      ((underway order.Read scene).step old new step under, step_soon scene old new step under soon looked.request, holds_stay_short.step old new step short);
  idle = λ old gaps fresh (under, soon, short). ((underway order.Read scene).idle old gaps fresh under, soon, short);
}

pub prompting : (scene : Scene) → Keeping (ReadPrompt scene)
prompting scene = record {
  step = λ old new step (in_time, soon). elim (step_in_time old new step scene in_time) [
    | inl on ↦ elim (looks_or_stalls (asks step.between) (holds_of old) soon.short) [
      | inl short ↦ inl (on, step_soon scene old new step in_time.0 soon short)
      | inr rose ↦ inr (subst (Rose (holds_of old).stalls) (sym (ap (λ bus. bus.chips.holding.stalls) step.bus ∙ dma_stalls (record old.bus.chips { controller = step.between }))) rose)
    ]
    | inr rose ↦ inr rose
  ];
  idle = λ old gaps fresh ((under, punctual), soon). (((underway order.Read scene).idle old gaps fresh under, punctual), soon);
}
