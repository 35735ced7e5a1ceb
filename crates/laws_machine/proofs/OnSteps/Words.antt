-- The word time of a device step, at the drive that is selected.
use Rattle.std.proofs.Common.{◌≡◌, ◌⊎◌, inl, inr, ℕ, zero, suc, ◌≤◌, ◌==◌, false, refl, sym, ◌∙◌, subst, arith, bit_and, Bool, true, if◌then◌else◌, ap, ◌&&◌, length, ◌++◌, ◌∷◌, []}
use Rattle.laws_machine.proofs.Common.{DriveState, Board, controller_of, selected_of, drive_in, Works, WorksAlone, Step, nat_tests, Fifo, gate, Dor, taken_in, taken_out, to_memory_of, told_count, phase_told, task_told, is_executing, is_overrun, is_read, is_reading, is_gated, polled, Fdc, Phase, Command, moved_to_memory, moved_from_memory, byte_read, told_if, Chips, Transferred, asks, is_due, looked, Low, RestsIn, granted, and_right, false≢true, fifo_told, room_of, moved_up_to, seek_stepped, Execute}
use Rattle.fdc_core.specs.Drives.WordTimes.{Passes}
use Rattle.laws_machine.proofs.Facts.{polled_keeps, told_busy, polled_phase, each_task, told_keeps, if_both}
use Rattle.pc_bus.specs.Transfers.{moved, dma_stepped}
use Rattle.laws_machine.proofs.OnSteps.Transfers.{served, after_step, up_to}

first_second_or_none : (n : ℕ) → (n ≡ 0) ⊎ ((n ≡ 1) ⊎ (2 ≤ n))
first_second_or_none zero = inl refl
first_second_or_none (suc zero) = inr (inl refl)
first_second_or_none (suc (suc n)) = inr (inr (omega arith))

-- what holds of both drives, by the bay in which each is
pub bays : (D : ℕ → DriveState → DriveState → Type 0) → (old new : Board) → (step : Step old new)
    → ((bay : ℕ) (before after : DriveState) → selected_of old ≡ bay → Works (controller_of old) before step.between after → D bay before after)
    → ((bay : ℕ) (before after : DriveState) → Passes before after → D bay before after) → D 0 old.first new.first × D 1 old.second new.second
bays D old new step works_on passes_on = elim (first_second_or_none (selected_of old)) [
  | inl at ↦ let (works, passes) = step.word_time.at_first at in (works_on 0 old.first new.first at works, passes_on 1 old.second new.second passes)
  | inr (inl at) ↦ let (works, passes) = step.word_time.at_second at in (passes_on 0 old.first new.first passes, works_on 1 old.second new.second at works)
  | inr (inr at) ↦ let (alone, first, second) = step.word_time.at_none at in (passes_on 0 old.first new.first first, passes_on 1 old.second new.second second)
]

pub drives : (D : DriveState → DriveState → Type 0) → (old new : Board) → (step : Step old new)
    → ((before after : DriveState) → Works (controller_of old) before step.between after → D before after)
    → ((before after : DriveState) → Passes before after → D before after) → D old.first new.first × D old.second new.second
drives D old new step works_on passes_on = bays (λ bay. D) old new step (λ bay before after at. works_on before after) (λ bay. passes_on)

-- what holds of the controller after a word time with a drive and with none
pub controller : (C : Type 0) → (old new : Board) → (step : Step old new) → ((before after : DriveState) → Works (controller_of old) before step.between after → C)
    → (WorksAlone (controller_of old) step.between → C) → C
controller C old new step with_drive alone = elim (first_second_or_none (selected_of old)) [
  | inl at ↦ with_drive old.first new.first (step.word_time.at_first at).0
  | inr (inl at) ↦ with_drive old.second new.second (step.word_time.at_second at).0
  | inr (inr at) ↦ alone (step.word_time.at_none at).0
]

first_or_second : (bay : ℕ) → bay ≤ 1 → (bay ≡ 0) ⊎ (bay ≡ 1)
first_or_second zero small = inl refl
first_or_second (suc bay) small = inr (omega arith)

-- the drive that is selected works
pub selected : (bay : ℕ) → bay ≤ 1 → (old new : Board) → selected_of old ≡ bay → (step : Step old new)
    → Works (controller_of old) (drive_in old bay) step.between (drive_in new bay)
selected bay small old new at step = elim (first_or_second bay small) [
  | inl is ↦ subst (λ b. Works (controller_of old) (drive_in old b) step.between (drive_in new b)) (sym is) (step.word_time.at_first (at ∙ is)).0
  | inr is ↦ subst (λ b. Works (controller_of old) (drive_in old b) step.between (drive_in new b)) (sym is) (step.word_time.at_second (at ∙ is)).0
]

-- what holds after a word time with the selected drive, if one of the two drives is selected
pub some_drive : (C : Type 0) → (old new : Board) → selected_of old ≤ 1 → (step : Step old new) → ((bay : ℕ) → Works (controller_of old) (drive_in old bay) step.between (drive_in new bay) → C) → C
some_drive C old new small step works = elim (first_or_second (selected_of old) small) [
  | inl at ↦ works 0 (step.word_time.at_first at).0
  | inr at ↦ works 1 (step.word_time.at_second at).0
]

differs : (n k : ℕ) → n ≡ k → (n == k) ≡ false → ⊥
differs n k is other = grind (arith, nat_tests)

-- the drives that aren't selected
pub others_pass : (old new : Board) → Step old new
    → ((selected_of old == 0) ≡ false → Passes old.first new.first) × ((selected_of old == 1) ≡ false → Passes old.second new.second)
others_pass old new step = bays (λ bay before after. (selected_of old == bay) ≡ false → Passes before after) old new step
    (λ bay before after at works other. absurd (differs (selected_of old) bay at other)) (λ bay before after passes other. passes)

-- ---- what a poll and transfers leave of the controller

-- ---- a poll

pub polled_fifo : (old : Fdc) → (polled old).fifo ≡ old.fifo
polled_fifo old = polled_keeps (λ fdc. fdc.fifo) old refl

pub polled_seek : (old : Fdc) → (polled old).seeks.seek ≡ old.seeks.seek
polled_seek old = polled_keeps (λ fdc. fdc.seeks.seek) old refl

pub polled_cylinders : (old : Fdc) → (polled old).seeks.cylinders ≡ old.seeks.cylinders
polled_cylinders old = polled_keeps (λ fdc. fdc.seeks.cylinders) old refl

-- the gate is a bit of DOR
pub gated_same : (a b : Fdc) → a.dor ≡ b.dor → is_gated b ≡ true → is_gated a ≡ true
gated_same a b same is = ap (λ (dor : Dor). (bit_and dor.0 gate == gate)) same ∙ is

-- ---- transfers

if_told : (P : Fdc → Type 0) → ((fdc : Fdc) → P fdc → P (told_count fdc)) → (last : Bool) (fdc : Fdc) → P fdc → P (told_if last fdc)
if_told P told true fdc was = told fdc was
if_told P told false fdc was = was

one_byte : (P : Fdc → Type 0) → ((fdc : Fdc) → P fdc → P (told_count fdc)) → ((fdc : Fdc) → P fdc → P (taken_out fdc))
    → ((byte : ℕ) (fdc : Fdc) → P fdc → P (taken_in byte fdc))
    → (chips : Chips) → P chips.controller → P (moved chips).controller
unfolding moved
one_byte P told out into chips was = by_way (to_memory_of chips.controller)
  where
    by_way : (b : Bool) → P (if b then moved_to_memory chips else moved_from_memory chips).controller
    by_way true = if_told P told (chips.channel.count == 0) (taken_out chips.controller) (out chips.controller was)
    by_way false = if_told P told (chips.channel.count == 0) (taken_in (byte_read chips.channel chips.memory) chips.controller)
        (into (byte_read chips.channel chips.memory) chips.controller was)

-- each transfer keeps what bytes and TC keep of the controller
pub by_bytes : (P : Fdc → Type 0) → ((fdc : Fdc) → P fdc → P (told_count fdc)) → ((fdc : Fdc) → P fdc → P (taken_out fdc))
    → ((byte : ℕ) (fdc : Fdc) → P fdc → P (taken_in byte fdc))
    → Transferred (λ chips. P chips.controller)
by_bytes P told out into = record { one = one_byte P told out into; held = λ chips holding was. was }

-- each transfer keeps what TC keeps of the phase
pub by_phase : {V : Type 0} (F : Phase → V) → ((phase : Phase) → F (phase_told phase) ≡ F phase) → (value : V)
    → Transferred (λ chips. F chips.controller.phase ≡ value)
by_phase F told value = by_bytes (λ fdc. F fdc.phase ≡ value) (λ fdc is. told fdc.phase ∙ is) (λ fdc is. is) (λ byte fdc is. is)

pub phase_dma : {V : Type 0} (F : Phase → V) → ((phase : Phase) → F (phase_told phase) ≡ F phase) → (chips : Chips)
    → F (dma_stepped chips).controller.phase ≡ F chips.controller.phase
phase_dma F told chips = served (λ c. F c.controller.phase ≡ F chips.controller.phase) (by_phase F told (F chips.controller.phase)) chips refl

-- what no transfer changes of the controller
pub controller_dma : {V : Type 0} (F : Fdc → V) → ((fdc : Fdc) → F (told_count fdc) ≡ F fdc) → ((fdc : Fdc) → F (taken_out fdc) ≡ F fdc)
    → ((byte : ℕ) (fdc : Fdc) → F (taken_in byte fdc) ≡ F fdc)
    → (chips : Chips) → F (dma_stepped chips).controller ≡ F chips.controller
controller_dma F told out into chips =
    served (λ c. F c.controller ≡ F chips.controller) (by_bytes (λ fdc. F fdc ≡ F chips.controller)
    (λ fdc is. told fdc ∙ is) (λ fdc is. out fdc ∙ is) (λ byte fdc is. into byte fdc ∙ is)) chips refl

-- ---- phases after TC

pub told_reading : (phase : Phase) → is_reading (phase_told phase) ≡ is_reading phase
told_reading = told_keeps is_reading (λ execution. each_task (λ task. is_read (task_told task) ≡ is_read task) (λ _. refl) (λ _. refl) (λ _. refl) (λ _. refl) execution.task)

pub dma_executing : (value : Bool) (chips : Chips) → is_executing chips.controller.phase ≡ value → is_executing (dma_stepped chips).controller.phase ≡ value
dma_executing value chips was = phase_dma is_executing told_busy chips ∙ was

pub dma_overrun : (value : Bool) (chips : Chips) → is_overrun chips.controller.phase ≡ value → is_overrun (dma_stepped chips).controller.phase ≡ value
dma_overrun value chips was = phase_dma is_overrun (told_keeps is_overrun (λ _. refl)) chips ∙ was

-- ---- what transfers leave

-- a controller with the phase, DRQ and the bytes of another one
abbrev pub with_moved : Fdc → Fdc → Fdc
with_moved old new = record old { phase = new.phase; asking = new.asking; fifo = record old.fifo { bytes = new.fifo.bytes } }

told_fifo : (reading : Bool) (fifo : Fifo) → fifo_told reading fifo ≡ record fifo { bytes = (fifo_told reading fifo).bytes }
told_fifo true fifo = refl
told_fifo false fifo = refl

told_only : (fdc : Fdc) → told_count fdc ≡ with_moved fdc (told_count fdc)
told_only fdc = ap (λ (fifo : Fifo). record (told_count fdc) { fifo = fifo }) (told_fifo (is_reading fdc.phase) fdc.fifo)

pub into_only : (byte : ℕ) (fdc : Fdc) → taken_in byte fdc ≡ with_moved fdc (taken_in byte fdc)
into_only byte fdc = ap (λ (fifo : Fifo). record (taken_in byte fdc) { fifo = fifo })
    (if_both (length fdc.fifo.bytes == room_of fdc.fifo.on) fdc.fifo (record fdc.fifo { bytes = fdc.fifo.bytes ++ byte ∷ [] }) (λ fifo. fifo ≡ record fdc.fifo { bytes = fifo.bytes }) refl refl)

-- transfers change nothing else
moves_only : (start : Fdc) → Transferred (λ chips. chips.controller ≡ with_moved start chips.controller)
moves_only start = by_bytes (λ fdc. fdc ≡ with_moved start fdc) (λ fdc is. told_only fdc ∙ ap (λ f. with_moved f (told_count fdc)) is)
    (λ fdc is. ap (λ f. with_moved f (taken_out fdc)) is) (λ byte fdc is. into_only byte fdc ∙ ap (λ f. with_moved f (taken_in byte fdc)) is)

pub moved_only : (n : ℕ) (chips : Chips) → (moved_up_to n chips).controller ≡ with_moved chips.controller (moved_up_to n chips).controller
moved_only n chips = up_to (λ c. c.controller ≡ with_moved chips.controller c.controller) (moves_only chips.controller).one n chips refl

pub dma_only : (chips : Chips) → (dma_stepped chips).controller ≡ with_moved chips.controller (dma_stepped chips).controller
dma_only chips = served (λ c. c.controller ≡ with_moved chips.controller c.controller) (moves_only chips.controller) chips refl

-- if DRQ is low, nothing is moved
pub idle_dma : (chips : Chips) → chips.controller.asking ≡ false → dma_stepped chips ≡ record chips { holding = record chips.holding { request = Low } }
unfolding dma_stepped
idle_dma chips low = by_line (asks chips.controller) (ap (λ b. is_gated chips.controller && b) low ∙ and_right (is_gated chips.controller) false refl)
  where
    by_line : (line : Bool) → line ≡ false
        → (if is_due (looked line chips.holding).request then granted (record chips { holding = looked line chips.holding }) else record chips { holding = looked line chips.holding })
        ≡ record chips { holding = record chips.holding { request = Low } }
    by_line true is = absurd (false≢true (sym is))
    by_line false is = refl

-- outside execution a word time makes a step of the seek alone, after the poll
pub rests_as : (phase : Phase) (old new : Fdc) (track0 : Bool) → is_executing phase ≡ false → RestsIn phase track0 old new → new ≡ seek_stepped track0 old
rests_as (Execute execution) old new track0 idle rests = absurd (false≢true (sym idle))
rests_as _ old new track0 idle rests = rests

pub rests_polled : (old new : Fdc) (track0 : Bool) → is_executing old.phase ≡ false → RestsIn (polled old).phase track0 (polled old) new → new ≡ seek_stepped track0 (polled old)
rests_polled old new track0 idle rests = rests_as (polled old).phase (polled old) new track0 (ap is_executing (polled_phase old) ∙ idle) rests

-- ---- while the controller takes commands, device steps keep it so

rests_command : (old between : Fdc) (track0 : Bool) → old.phase ≡ Command → RestsIn (polled old).phase track0 (polled old) between → between.phase ≡ Command
rests_command old between track0 is rests =
    let same = polled_phase old ∙ is in
    let quiet = subst (λ phase. RestsIn phase track0 (polled old) between) same rests in
    ap (λ fdc. fdc.phase) quiet ∙ same

pub step_command : (old new : Board) → Step old new → (controller_of old).phase ≡ Command → (controller_of new).phase ≡ Command
step_command old new step is =
    after_step (λ c. c.controller.phase ≡ Command) (by_bytes (λ fdc. fdc.phase ≡ Command) (λ fdc was. ap phase_told was)
    (λ fdc was. was) (λ byte fdc was. was)) old new step
    (controller (step.between.phase ≡ Command) old new step
    (λ before after works. rests_command (controller_of old) step.between (before.cylinder == 0) is works.rests)
    (λ works. rests_command (controller_of old) step.between false is works.rests))
