-- A device step writes one word at most.
use Rattle.std.proofs.Common.{◌≡◌, inl, inr, ℕ, ◌%◌, ◌==◌, ◌&&◌, not, Bool, true, false, Option, Some, None, if◌then◌else◌, refl, sym, ◌∙◌, ap, subst, zero, suc, ◌^◌, ◌≤◌, nat_le, is_some, arith}
use Rattle.laws_machine.proofs.Common.{Disk, DriveState, Writes, can_write, has_track, is_protected, rewritten, dor_of, Moves, WordTime, Saw, KeptOut, Wrote, Stopped, IsTime, DataRate, Board, controller_of, drive_in, selected_of, Step, LeavesOthers, Steady, Progress, false≢true, closes_same, opens_same, GuardsMedia, with_disk_word as with_word, spends_twice, turns, Fifo, Seeking, pulse_due, seek_bits, Seek, ExecutesIn, polled, MovesIn, RestsIn, WritesIn, Fdc, Phase, Execute, Works, TurnsOn, HasNoSeek, StaysStill, and_from, and_parts, nat_tests, IsStill}
use Rattle.laws_machine.specs.OnWrites.Guards.{IsGuarded}
use Rattle.laws_machine.proofs.OnSteps.Words.{controller, others_pass, dma_only, drives, some_drive, controller_dma, polled_cylinders, polled_seek}
use Rattle.laws_machine.proofs.OnSteps.Drives.{both}
use Rattle.laws_machine.proofs.Facts.{polled_phase}
use Rattle.laws_machine.proofs.OnAwaits.Turning.{on_calm, on_still, word_leaves}
use Rattle.laws_machine.proofs.OnQuiet.Listening.{pulse_none, stepped_none}

-- ---- one word

one_word : (disk : Disk) (c h place word : ℕ) → (may has : Bool) → not disk.protected ≡ may → IsGuarded (Some disk) (if may && has then Some (with_word disk c h place word) else Some disk)
one_word disk c h place word true true is = inr (record { disk = disk; c = c; h = h; place = place; word = word; was = refl; unprotected = unlocked disk.protected is; is = refl })
  where
    unlocked : (b : Bool) → not b ≡ true → b ≡ false
    unlocked true same = absurd (false≢true same)
    unlocked false same = refl
one_word disk c h place word true false is = inl refl
one_word disk c h place word false has is = inl refl

rewritten_guards : (medium : Option Disk) (c h place word : ℕ) → IsGuarded medium (rewritten medium c h place word)
rewritten_guards None c h place word = inl refl
rewritten_guards (Some disk) c h place word = one_word disk c h place word (not disk.protected) (has_track (Some disk) c h) refl

can_guard : (medium : Option Disk) (c h place word : ℕ) (can : Bool) → IsGuarded medium (if can then rewritten medium c h place word else medium)
can_guard medium c h place word true = rewritten_guards medium c h place word
can_guard medium c h place word false = inl refl

writes_guard : (before after : DriveState) (head word : ℕ) → Writes head word before after → IsGuarded before.medium after.medium
writes_guard before after head word (inl wrote) =
    subst (IsGuarded before.medium) (sym (ap (λ s. s.medium) wrote.becomes)) (can_guard before.medium before.cylinder head before.place word (can_write before))
writes_guard before after head word (inr (can, becomes, rose)) = inl (ap (λ s. s.medium) becomes.becomes)

-- ---- the word time

time_guards : (time : WordTime) (rate : DataRate) (head : ℕ) (before after : DriveState) → IsTime time rate head before after
    → IsGuarded before.medium after.medium
time_guards (Saw index word) rate head before after is = inl (ap (λ s. s.medium) is.passes.becomes)
time_guards (KeptOut index word) rate head before after (other, is) = inl (ap (λ s. s.medium) is.passes.becomes)
time_guards (Wrote opened closed index word) rate head before after is =
    subst (λ medium. IsGuarded medium after.medium) (opens_same opened before is.from is.opens)
    (subst (λ medium. IsGuarded is.from.medium medium) (sym (closes_same closed is.mid after is.closes)) (writes_guard is.from is.mid head word is.writes))
time_guards Stopped rate head before after is = inl (ap (λ s. s.medium) is)

pub moves_same : (pulse : Option Bool) (before after : DriveState) → Moves pulse before after → after.medium ≡ before.medium
moves_same None before after is = ap (λ s. s.medium) is
moves_same (Some inward) before after (between, pulses, is) =
    ap (λ s. s.medium) is ∙ elim pulses [ inl moved ↦ ap (λ s. s.medium) moved.becomes | inr lost ↦ ap (λ s. s.medium) lost.0.becomes ]

-- ---- the device step

pub step_guards : (old new : Board) → Step old new → GuardsMedia old new
step_guards old new step =
    let (first, second) = both (λ before after. IsGuarded before.medium after.medium)
    (λ pulse before after moves. inl (moves_same pulse before after moves)) (λ before after heard. inl (ap (λ s. s.medium) heard.becomes))
    time_guards old new step in
    record { first = first; second = second }

-- ---- a protected medium

protected_same : (before after : Option Disk) → is_protected before ≡ true → IsGuarded before after → after ≡ before
protected_same before after covered guarded = elim guarded [
  | inl same ↦ same
  | inr one ↦ absurd (false≢true (sym one.unprotected ∙ (sym (ap is_protected one.was) ∙ covered)))
]

bay_same : (old new : Board) → GuardsMedia old new → (bay : ℕ) → is_protected (drive_in old bay).medium ≡ true → (drive_in new bay).medium ≡ (drive_in old bay).medium
bay_same old new guards bay covered = by_bay (bay == 0) covered
  where
    by_bay : (b : Bool) → is_protected (if b then old.first else old.second).medium ≡ true
        → (if b then new.first else new.second).medium ≡ (if b then old.first else old.second).medium
    by_bay true covered = protected_same old.first.medium new.first.medium covered guards.first
    by_bay false covered = protected_same old.second.medium new.second.medium covered guards.second

pub guarding : (bay : ℕ) (medium : Option Disk) → is_protected medium ≡ true → Steady (λ board. (drive_in board bay).medium ≡ medium)
guarding bay medium covered = record {
  step = λ old new step was. bay_same old new (step_guards old new step) bay (ap is_protected was ∙ covered) ∙ was;
  idle = λ old gaps fresh was. was;
}

-- ---- the other media

dor_on : (old new : Board) → (step : Step old new) → dor_of step.between ≡ dor_of (controller_of old) → dor_of (controller_of new) ≡ dor_of (controller_of old)
dor_on old new step same = ap (λ bus. dor_of bus.chips.controller) step.bus ∙ (ap dor_of (dma_only (record old.bus.chips { controller = step.between })) ∙ same)

pub step_leaves : (old new : Board) → Step old new → LeavesOthers old new
step_leaves old new step = record {
  dor = dor_on old new step (controller (dor_of step.between ≡ dor_of (controller_of old)) old new step
      (λ before after works. ap (λ dor. dor.0) works.stays.dor) (λ works. ap (λ dor. dor.0) works.stays.dor));
  first = λ other. ap (λ s. s.medium) ((others_pass old new step).0 other);
  second = λ other. ap (λ s. s.medium) ((others_pass old new step).1 other);
}

pub leaves_on : (old between new : Board) → LeavesOthers old between → LeavesOthers between new → LeavesOthers old new
leaves_on old between new one two =
    let same : selected_of between ≡ selected_of old = ap (λ byte. byte % 4) one.dor in
    record {
      dor = two.dor ∙ one.dor;
      first = λ other. two.first (ap (λ n. n == 0) same ∙ other) ∙ one.first other;
      second = λ other. two.second (ap (λ n. n == 1) same ∙ other) ∙ one.second other;
    }

pub leaving : Progress LeavesOthers
leaving = record {
  same = λ board. record { dor = refl; first = λ _. refl; second = λ _. refl };
  twice = leaves_on;
  step = step_leaves;
  idle = λ old gaps fresh. record { dor = refl; first = λ _. refl; second = λ _. refl };
}

-- ---- device steps with no seek

-- ---- a drive

still_further : (a b c : DriveState) → IsStill a b → IsStill b c → IsStill a c
still_further a b c one two = record {
  cylinder = two.cylinder ∙ one.cylinder;
  change = two.change ∙ one.change;
  motor = two.motor ∙ one.motor;
  speed = λ fast. two.speed (one.speed fast);
  never_falls = let first = one.never_falls in let second = two.never_falls in omega arith;
  spends = spends_twice a.faults b.faults c.faults a.left b.left c.left one.spends two.spends;
}

no_slower : (a b : ℕ) → a ≤ b → nat_le 6250 a ≡ true → nat_le 6250 b ≡ true
no_slower a b more up = grind (arith, nat_tests)

-- a drive that goes on turning, whatever is written on its medium
still_turned : (before after : DriveState) → TurnsOn before after → IsStill before after
still_turned before after is = record {
  cylinder = is.cylinder;
  change = is.change;
  motor = is.motor;
  speed = λ fast.
      let (turning, up) = and_parts (turns before) (nat_le 6250 before.spin) fast in
      let still : turns after ≡ turns before = ap (λ b. b && is_some after.medium) is.motor ∙ ap (λ b. before.motor && b) is.stays_in in
      and_from (turns after) (nat_le 6250 after.spin) (still ∙ turning) (no_slower before.spin after.spin is.spin up);
  never_falls = is.never_falls;
  spends = is.spends;
}

pub still_same : (a b : DriveState) → b ≡ a → IsStill a b
still_same a b same = still_turned a b (on_still a b same)

-- ---- the word time

-- a drive is still, and the seeks are as they were
record IsStillStep (before after : DriveState) (old new : Fdc) : Type 0 where
  still : IsStill before after
  seek : new.seeks.seek ≡ old.seeks.seek
  numbers : new.seeks.cylinders ≡ old.seeks.cylinders

with_seeks : (before after : DriveState) (old new : Fdc) → TurnsOn before after → new.seeks ≡ old.seeks → IsStillStep before after old new
with_seeks before after old new turns_on same =
    record { still = still_turned before after turns_on; seek = ap (λ (s : Seeking). s.seek) same; numbers = ap (λ (s : Seeking). s.cylinders) same }

at_rest : (track0 : Bool) (polls : Fdc) (before after : DriveState) → polls.seeks.seek ≡ None → Moves (pulse_due polls.seeks track0) before after
    → TurnsOn before after
at_rest track0 polls before after none moves = on_calm before after (subst (λ pulse. Moves pulse before after) (pulse_none polls.seeks track0 none) moves)

still_phase : (phase : Phase) (asking : Bool) (fifo : Fifo) (index : Bool) (word : ℕ) (polls : Fdc) (before after : DriveState) (new : Fdc) → polls.seeks.seek ≡ None → MovesIn phase polls before after
    → WritesIn phase asking fifo polls before after new → ExecutesIn phase index word polls new → RestsIn phase (before.cylinder == 0) polls new → IsStillStep before after polls new
still_phase (Execute execution) asking fifo index word polls before after new none moves writes executes rests =
    let leaves = word_leaves (Execute execution) asking fifo index word polls before after new refl moves writes executes in
    with_seeks before after polls new leaves.drive leaves.controller.seeks
still_phase _ asking fifo index word polls before after new none moves writes executes rests =
    with_seeks before after polls new (at_rest (before.cylinder == 0) polls before after none moves)
    (ap (λ fdc. fdc.seeks) rests ∙ stepped_none polls.seeks (before.cylinder == 0) none)

still_works : (old : Fdc) (before : DriveState) (new : Fdc) (after : DriveState) → old.seeks.seek ≡ None → Works old before new after → IsStillStep before after old new
still_works old before new after none works =
    let seek = polled_seek old in
    let same = polled_phase old in
    let is = still_phase old.phase old.asking old.fifo _ works.reads.word (polled old) before after new (seek ∙ none)
    (subst (λ phase. MovesIn phase (polled old) before after) same works.drive) works.writes works.reads.follows.executes
    (subst (λ phase. RestsIn phase (before.cylinder == 0) (polled old) new) same works.rests) in
    record { still = is.still; seek = is.seek ∙ seek; numbers = is.numbers ∙ polled_cylinders old }

-- ---- the device step

still_step : (old new : Board) → (step : Step old new) → HasNoSeek old → step.between.seeks.seek ≡ (controller_of old).seeks.seek → step.between.seeks.cylinders ≡ (controller_of old).seeks.cylinders
    → IsStill old.first new.first → IsStill old.second new.second → StaysStill old new
still_step old new step was seek numbers first second =
    let leaves = step_leaves old new step in
    let same : selected_of new ≡ selected_of old = ap (λ byte. byte % 4) leaves.dor in
    let selects = was.selects in
    let all : (controller_of new).seeks ≡ step.between.seeks =
    ap (λ bus. bus.chips.controller.seeks) step.bus
    ∙ controller_dma (λ fdc. fdc.seeks) (λ fdc. refl) (λ fdc. refl) (λ byte fdc. refl) (record old.bus.chips { controller = step.between }) in
    record {
      no_seek = record { selects = omega arith; none = ap (λ (s : Seeking). s.seek) all ∙ (seek ∙ was.none) };
      first = first;
      second = second;
      numbers = ap (λ (s : Seeking). s.cylinders) all ∙ numbers;
    }

pub step_still : (old new : Board) → Step old new → HasNoSeek old → StaysStill old new
step_still old new step was =
    let moved = was.selects in
    let (seek, numbers) = some_drive ((step.between.seeks.seek ≡ (controller_of old).seeks.seek) ×
    (step.between.seeks.cylinders ≡ (controller_of old).seeks.cylinders)) old new was.selects step
    (λ bay works. let is = still_works (controller_of old) (drive_in old bay) step.between (drive_in new bay) was.none works in (is.seek, is.numbers)) in
    let (first, second) = drives IsStill old new step (λ before after works. (still_works (controller_of old) before step.between after was.none works).still)
    (λ before after passes. still_turned before after (on_calm before after passes)) in
    still_step old new step was seek numbers first second

pub stays_further : (old between new : Board) → StaysStill old between → StaysStill between new → StaysStill old new
stays_further old between new one two = record {
  no_seek = two.no_seek;
  first = still_further old.first between.first new.first one.first two.first;
  second = still_further old.second between.second new.second one.second two.second;
  numbers = two.numbers ∙ one.numbers;
}

pub stilling : (start : Board) → Steady (StaysStill start)
stilling start = record {
  step = λ old new step was. stays_further start old new was (step_still old new step was.no_seek);
  idle = λ old gaps fresh was. record {
    no_seek = record { selects = was.no_seek.selects; none = was.no_seek.none };
    first = was.first;
    second = was.second;
    numbers = was.numbers;
  };
}

pub stays_none : (board : Board) → HasNoSeek board → StaysStill board board
stays_none board was =
    record { no_seek = was; first = still_same board.first board.first refl; second = still_same board.second board.second refl; numbers = refl }

-- ---- the seek bits

power_some : (n : ℕ) → 1 ≤ 2 ^ n
power_some zero = omega arith
power_some (suc n) = let less = power_some n in omega arith

pub no_bits : (seeks : Seeking) → seek_bits seeks ≡ 0 → seeks.seek ≡ None
no_bits seeks none = by_seek seeks.seek none
  where
    by_seek : (seek : Option Seek) → seek_bits (record seeks { seek = seek }) ≡ 0 → seek ≡ None
    by_seek None is = refl
    by_seek (Some seek) is = let some = power_some seek.drive in absurd (omega arith)
