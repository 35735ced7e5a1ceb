-- The write gates, step by step.
use Rattle.std.proofs.Common.{◌≡◌, ◌⊎◌, inl, inr, ℕ, ◌<◌, ◌/◌, ◌%◌, ◌&&◌, not, Bool, true, false, Option, Some, None, if◌then◌else◌, refl, sym, ◌∙◌, ap, subst}
use Rattle.laws_machine.proofs.Common.{Becomes, DriveState, Writes, at_speed, can_write, rewritten, Fifo, is_listening, let_pass, polled, Moves, MovesIn, MovesTask, WordTime, Saw, KeptOut, Wrote, Stopped, IsTime, Closes, WritesIn, WritesTask, Fdc, Phase, Execute, Task, Format, DataRate, Board, controller_of, selected_of, Works, Step, Marching, and_parts, false≢true, GatesDrives, HoldsGates, IsGated, IsGateOf, IsGivenIn, MakesTask, MakesTime, PassesClosed, is_recording, closes_same, opens_same, fills_task, WriteTask as Write, is_executing, IsIdle, StaysIdle, Steady}
use Rattle.laws_machine.proofs.Facts.{polled_phase}
use Rattle.laws_machine.proofs.OnQuiet.Steps.{listens_told, step_stayed}
use Rattle.laws_machine.proofs.OnWrites.Guards.{moves_same, step_leaves}
use Rattle.laws_machine.proofs.OnSteps.Words.{bays, phase_dma, drives, idle_dma}
use Rattle.laws_machine.proofs.OnSteps.Outcomes.{ClosesIf, HasTime, Outcome, Written, has_time}

-- ---- a drive

moves_closed : (pulse : Option Bool) (before after : DriveState) → Moves pulse before after → PassesClosed before after
moves_closed None before after is = record { passes = inl (None, is); gate = ap (λ s. s.gate) is; medium = ap (λ s. s.medium) is }
moves_closed (Some inward) before after (between, pulses, is) = record {
  passes = inl (Some inward, (between, pulses, is));
  gate = ap (λ s. s.gate) is;
  medium = moves_same (Some inward) before after (between, pulses, is);
}

heard_closed : (before after : DriveState) → Becomes (let_pass before) before after → PassesClosed before after
heard_closed before after becomes =
    record { passes = inr becomes; gate = ap (λ s. s.gate) becomes.becomes; medium = ap (λ s. s.medium) becomes.becomes }

not_closed : (drive : DriveState) → drive.gate ≡ false → drive.gate ≡ true → ⊥
not_closed drive closed on = false≢true (sym closed ∙ on)

-- a word is recorded through an open gate
recorded : (from : DriveState) (head word : ℕ) (can : Bool) → can_write from ≡ can
    → ((if can then rewritten from.medium from.cylinder head from.place word else from.medium) ≡ from.medium) ⊎ (from.gate ≡ true)
recorded from head word true can = inr ((and_parts from.gate (not from.cut) (and_parts (at_speed from) (from.gate && not from.cut) can).1).0)
recorded from head word false can = inl refl

writes_gated : (from mid : DriveState) (head word : ℕ) → Writes head word from mid → (mid.medium ≡ from.medium) ⊎ (from.gate ≡ true)
writes_gated from mid head word (inl wrote) =
    elim (recorded from head word (can_write from) refl) [ inl same ↦ inl (ap (λ s. s.medium) wrote.becomes ∙ same) | inr on ↦ inr on ]
writes_gated from mid head word (inr (can, becomes, rose)) = inl (ap (λ s. s.medium) becomes.becomes)

-- ---- the word time of a command that records

time_gates : (Makes : WordTime → Type 0) (time : WordTime) (rate : DataRate) (head : ℕ) (before after : DriveState) → IsTime time rate head before after → Makes time
    → PassesClosed before after ⊎ IsGivenIn Makes before after
time_gates Makes (Saw index word) rate head before after is makes = inl (heard_closed before after is.passes)
time_gates Makes (KeptOut index word) rate head before after (other, is) makes = inl (heard_closed before after is.passes)
time_gates Makes (Wrote opened closed index word) rate head before after is makes = inr (record {
  head = head;
  opened = opened;
  closed = closed;
  index = index;
  word = word;
  makes = makes;
  from = is.from;
  mid = is.mid;
  opens = is.opens;
  writes = is.writes;
  closes = is.closes;
  gate = elim (writes_gated is.from is.mid head word is.writes) [
    | inl same ↦ inl (closes_same closed is.mid after is.closes ∙ (same ∙ opens_same opened before is.from is.opens))
    | inr on ↦ inr on
  ];
})
time_gates Makes Stopped rate head before after is makes = inl (moves_closed None before after is)

-- the gate is closed after the word time in which a command ends
closes_gate : (time : WordTime) (rate : DataRate) (head : ℕ) (before after : DriveState) → IsTime time rate head before after → ClosesIf true time → after.gate ≡ false
closes_gate (Saw index word) rate head before after is over = ap (λ s. s.gate) is.passes.becomes
closes_gate (KeptOut index word) rate head before after (other, is) over = ap (λ s. s.gate) is.passes.becomes
closes_gate (Wrote opened closed index word) rate head before after is over = ap (λ s. s.gate) (subst (λ b. Closes b is.mid after) over is.closes)
closes_gate Stopped rate head before after is over = ap (λ s. s.gate) is

fills_none : (task : Task) → fills_task task ≡ true → is_listening task ≡ false
fills_none (Write writing) fills_on = refl
fills_none (Format formatting) fills_on = refl
fills_none _ fills_on = absurd (false≢true fills_on)

-- if a word leaves the gate open, the command goes on
still_records : (time : WordTime) (rate : DataRate) (head steps : ℕ) (before after : DriveState) (old new : Fdc) → IsTime time rate head before after → Written time steps before old new
    → after.gate ≡ true → is_recording new.phase ≡ true
still_records time rate head steps before after old new is (Outcome.Continues head_drive later task bytes (fills_on, few, closes) next_is) on =
    ap (λ fdc. is_recording fdc.phase) next_is ∙ ap not (fills_none task fills_on)
still_records time rate head steps before after old new is (Outcome.Finishes ending head_drive key (closes, well) next_is) on = absurd (not_closed after (closes_gate time rate head before after is closes) on)

-- ---- the selected drive

-- what the selected drive made of its word time, while a command that records was in execution or not
record IsWorked (records : Bool) (Makes : WordTime → Type 0) (before after : DriveState) (new : Fdc) : Type 0 where
  time : PassesClosed before after ⊎ ((records ≡ true) × IsGivenIn Makes before after)
  goes_on : after.gate ≡ true → is_recording new.phase ≡ true

worked_closed : (records : Bool) (Makes : WordTime → Type 0) (before after : DriveState) (new : Fdc) → PassesClosed before after → IsWorked records Makes before after new
worked_closed records Makes before after new closed = record { time = inl closed; goes_on = λ on. absurd (not_closed after closed.gate on) }

recording : {A B : Type 0} → A ⊎ B → A ⊎ ((true ≡ true) × B)
recording (inl closed) = inl closed
recording (inr given) = inr (refl, given)

records : (task : Task) (head_drive steps : ℕ) (polls : Fdc) (before after : DriveState) (new : Fdc) → HasTime task head_drive steps polls before after new
    → IsWorked true (λ time. MakesTask task head_drive steps time polls before new) before after new
records task head_drive steps polls before after new does = record {
  time = recording (time_gates (λ time. MakesTask task head_drive steps time polls before new) does.time polls.rate (head_drive / 4 % 2) before after does.is does.does);
  goes_on = still_records does.time polls.rate (head_drive / 4 % 2) steps before after polls new does.is does.outcome;
}

by_task : (task : Task) (head_drive steps : ℕ) (asking : Bool) (fifo : Fifo) (polls : Fdc) (before after : DriveState) (new : Fdc) → MovesTask (is_listening task) before after
    → WritesTask task head_drive steps asking fifo polls before after new
    → IsWorked (not (is_listening task)) (λ time. MakesTask task head_drive steps time polls before new) before after new
by_task (Write writing) head_drive steps asking fifo polls before after new moves writes =
    records (Write writing) head_drive steps polls before after new (has_time (Write writing) head_drive steps asking fifo polls before after new refl writes)
by_task (Format formatting) head_drive steps asking fifo polls before after new moves writes =
    records (Format formatting) head_drive steps polls before after new (has_time (Format formatting) head_drive steps asking fifo polls before after new refl writes)
by_task _ head_drive steps asking fifo polls before after new moves writes = worked_closed false _ before after new (heard_closed before after moves)

by_phase : (phase : Phase) (asking : Bool) (fifo : Fifo) (polls : Fdc) (before after : DriveState) (new : Fdc) → MovesIn phase polls before after
    → WritesIn phase asking fifo polls before after new → IsWorked (is_recording phase) (λ time. MakesTime phase time polls before new) before after new
by_phase (Execute execution) asking fifo polls before after new moves writes =
    by_task execution.task execution.head_drive execution.steps asking fifo polls before after new moves writes
by_phase _ asking fifo polls before after new moves writes = worked_closed false _ before after new (moves_closed _ before after moves)

works_gate : (old : Fdc) (before : DriveState) (new : Fdc) (after : DriveState) → Works old before new after
    → IsWorked (is_recording old.phase) (λ time. MakesTime old.phase time (polled old) before new) before after new
works_gate old before new after works =
    by_phase old.phase old.asking old.fifo (polled old) before after new
    (subst (λ phase. MovesIn phase (polled old) before after) (polled_phase old) works.drive) works.writes

-- ---- the device step

selected_gated : (old : Board) (new : Fdc) (bay : ℕ) (before after : DriveState) → selected_of old ≡ bay → Works (controller_of old) before new after
    → IsGated old bay before after
selected_gated old new bay before after at works = elim (works_gate (controller_of old) before new after works).time [
  | inl closed ↦ inl closed
  | inr (records, given) ↦ inr (at, records, (new, given))
]

pub step_gates : (old new : Board) → Step old new → GatesDrives old new
step_gates old new step =
    let (first, second) = bays (IsGated old) old new step (selected_gated old step.between)
    (λ bay before after passes. inl (moves_closed None before after passes)) in
    record { first = first; second = second }

-- ---- after a device step

-- transfers leave the command in execution
recording_after : (old new : Board) → (step : Step old new) → is_recording step.between.phase ≡ true → is_recording (controller_of new).phase ≡ true
recording_after old new step is =
    ap (λ bus. is_recording bus.chips.controller.phase) step.bus
    ∙ (phase_dma is_recording (λ phase. ap not (listens_told phase)) (record old.bus.chips { controller = step.between }) ∙ is)

step_holds : (old new : Board) → Step old new → HoldsGates new
step_holds old new step =
    let same : selected_of new ≡ selected_of old = ap (λ byte. byte % 4) (step_leaves old new step).dor in
    let (first, second) = bays (λ bay before. IsGateOf new bay) old new step
    (λ bay before after at works on. (same ∙ at, recording_after old new step ((works_gate (controller_of old) before step.between after works).goes_on on)))
    (λ bay before after passes on. absurd (not_closed after (moves_closed None before after passes).gate on)) in
    record { first = first; second = second }

-- the gates hold after each further device step
pub gating : Marching (λ n board. 0 < n → HoldsGates board)
gating = record {
  step = λ n old new step was some. step_holds old new step;
  idle = λ n old gaps fresh was some. let held = was some in record { first = held.first; second = held.second };
}

-- ---- device steps of an idle machine

-- ---- the word time

idle_moves : (phase : Phase) (polls : Fdc) (before after : DriveState) → is_executing phase ≡ false → MovesIn phase polls before after → after.medium ≡ before.medium
idle_moves (Execute execution) polls before after idle moves = absurd (false≢true (sym idle))
idle_moves _ polls before after idle moves = moves_same _ before after moves

idle_medium : (old new : Fdc) (before after : DriveState) → is_executing old.phase ≡ false → Works old before new after → after.medium ≡ before.medium
idle_medium old new before after idle works = idle_moves old.phase (polled old) before after idle (subst (λ phase. MovesIn phase (polled old) before after) (polled_phase old) works.drive)

-- ---- the device step

pub step_idle : (old new : Board) → Step old new → IsIdle old → StaysIdle old new
step_idle old new step was =
    let (stayed, stays) = step_stayed old new was.over step in
    let quiet : step.between.asking ≡ false = stayed.asking ∙ was.quiet in
    let is = ap (λ bus. bus.chips) step.bus ∙ idle_dma (record old.bus.chips { controller = step.between }) quiet in
    let (first, second) = drives (λ before after. after.medium ≡ before.medium) old new step
    (λ before after. idle_medium (controller_of old) step.between before after was.over)
    (λ before after passes. ap (λ s. s.medium) passes) in
    record {
      idle = record {
        over = ap (λ c. is_executing c.controller.phase) is ∙ (ap is_executing stayed.phase ∙ was.over);
        quiet = ap (λ c. c.controller.asking) is ∙ quiet;
      };
      memory = ap (λ c. c.memory) is;
      channel = ap (λ c. c.channel) is;
      first = first;
      second = second;
      request = λ _. ap (λ c. c.holding.request) is;
    }

idle_further : (old between new : Board) → StaysIdle old between → StaysIdle between new → StaysIdle old new
idle_further old between new one two = record {
  idle = two.idle;
  memory = two.memory ∙ one.memory;
  channel = two.channel ∙ one.channel;
  first = two.first ∙ one.first;
  second = two.second ∙ one.second;
  request = λ low. two.request (one.request low);
}

pub idling : (start : Board) → Steady (StaysIdle start)
idling start = record {
  step = λ old new step was. idle_further start old new was (step_idle old new step was.idle);
  idle = λ old gaps fresh was. record {
    idle = record { over = was.idle.over; quiet = was.idle.quiet };
    memory = was.memory;
    channel = was.channel;
    first = was.first;
    second = was.second;
    request = was.request;
  };
}

pub idle_none : (board : Board) → IsIdle board → StaysIdle board board
idle_none board was = record { idle = was; memory = refl; channel = refl; first = refl; second = refl; request = λ low. low }
