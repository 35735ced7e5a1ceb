-- What many lemmas cite: of numbers, truth values, phases and the latch.
use Rattle.dma_8237.specs.Channel.{grants}
use Rattle.irq_events.specs.Latch.{Latch}
use Rattle.std.proofs.Common.{◌∙◌, Option, ◌⊎◌, inl, inr, ◌≡◌, ◌+◌, ◌≤◌, ◌==◌, ◌||◌, ◌&&◌, if◌then◌else◌, Bool, true, false, refl, ℕ, nat_le, arith, [], Some, None, not}
use Rattle.laws_machine.proofs.Common.{Channel, after_transfer, answer, after_byte, IsReadingData, phase_told, task_asks, Sent, is_executing, is_held, polled, Short, Long, Answer, Fdc, Command, Execute, Result, Phase, Task, Fifo, with_polls, Holds, shown, strayed_if, lined, phase_after, Ending, Results, nat_tests, Execution, Format, Formatting, ReadId, Reading, Writing, ReadTask as Read, WriteTask as Write}
pub use Rattle.fdc_core.proofs.drives.Facts.{if_both, different, le_true, length_more, lt_true, not_granting, number_is}

pub either_is : (b : Bool) → (b ≡ true) ⊎ (b ≡ false)
either_is true = inl refl
either_is false = inr refl

pub or_false : (b : Bool) → b || false ≡ b
or_false true = refl
or_false false = refl

pub same_grants : (channel : Channel) → (channel.count == 0) ≡ false → grants (after_transfer channel) ≡ grants channel
unfolding grants
same_grants channel more = rw (more, or_false channel.masked) refl

pub or_true : (b : Bool) → b || true ≡ true
or_true true = refl
or_true false = refl

pub set_over : (channel : Channel) → (channel.count == 0) ≡ true → grants (after_transfer channel) ≡ false
unfolding grants
set_over channel last = rw (last, or_true channel.masked) refl

pub some_of : (n : ℕ) → (n == 0) ≡ false → 1 ≤ n
some_of n h = grind (arith, nat_tests)

pub shown_stalls : (line : Bool) (holding : Holds) → (shown line holding).stalls ≡ holding.stalls
shown_stalls true holding = refl
shown_stalls false holding = refl

-- what holds of the four kinds of tasks holds of each task
pub each_task : (P : Task → Type 0) → ((search : _) → P (ReadId search)) → ((reading : Reading) → P (Read reading)) → ((writing : Writing) → P (Write writing))
    → ((formatting : Formatting) → P (Format formatting)) → (task : Task) → P task
each_task P identifies reads writes formats (ReadId search) = identifies search
each_task P identifies reads writes formats (Read reading) = reads reading
each_task P identifies reads writes formats (Write writing) = writes writing
each_task P identifies reads writes formats (Format formatting) = formats formatting

-- what TC leaves of each execution it leaves of each phase
pub told_keeps : {V : Type 0} (F : Phase → V) → ((execution : Execution) → F (phase_told (Execute execution)) ≡ F (Execute execution)) → (phase : Phase) → F (phase_told phase) ≡ F phase
told_keeps F keeps (Execute execution) = keeps execution
told_keeps F keeps _ = refl

pub told_busy : (phase : Phase) → is_executing (phase_told phase) ≡ is_executing phase
told_busy = told_keeps is_executing (λ _. refl)

-- a flag of the phase that is down where commands are taken and in short results, and in long ones whatever was taken;
-- it stays down when the data port is read
pub given_down : (flag : Phase → Bool) → flag Command ≡ false → ((next : ℕ) (last : Option ℕ) → flag (Result (Short next last)) ≡ false)
    → ((ending : Ending) (results : Results) (taken : ℕ) → flag (Result (Long ending results (taken + 1))) ≡ flag (Result (Long ending results taken)))
    → (phase : Phase) → flag phase ≡ false → flag (phase_after phase) ≡ false
given_down flag down short long (Result (Short next None)) is = down
given_down flag down short long (Result (Short next (Some last))) is = short last None
given_down flag down short long (Result (Long ending results taken)) is =
    if_both (nat_le 6 taken) Command (Result (Long ending results (taken + 1))) (λ p. flag p ≡ false) down (long ending results taken ∙ is)
given_down flag down short long _ is = is

pub idle_read : (phase : Phase) → is_executing phase ≡ false → is_executing (phase_after phase) ≡ false
idle_read = given_down is_executing refl (λ next last. refl) (λ ending results taken. refl)

pub idle_after : (answer : Answer) → is_executing (after_byte answer) ≡ false
idle_after answer = idle_read (Result answer) refl

pub polled_keeps : {V : Type 0} (F : Fdc → V) (old : Fdc) → F (record old { poll_due = false; interrupt = true; seeks = with_polls old.seeks }) ≡ F old
    → F (polled old) ≡ F old
polled_keeps F old same = by_poll (old.poll_due && not (is_held old))
  where
    by_poll : (b : Bool) → F (if b then record old { poll_due = false; interrupt = true; seeks = with_polls old.seeks } else old) ≡ F old
    by_poll true = same
    by_poll false = refl

pub polled_phase : (old : Fdc) → (polled old).phase ≡ old.phase
polled_phase old = polled_keeps (λ fdc. fdc.phase) old refl

pub polled_asking : (old : Fdc) → (polled old).asking ≡ old.asking
polled_asking old = polled_keeps (λ fdc. fdc.asking) old refl

pub quiet_task : (sent : Sent) (task : Task) (fifo : Fifo) → IsReadingData sent task → fifo.bytes ≡ [] → false ≡ task_asks task false fifo
quiet_task sent (Read reading) fifo is none = rw none refl
quiet_task sent _ fifo is none = absurd is

pub strayed_level : (b : Bool) (latch : Latch) → (strayed_if b latch).level ≡ latch.level
strayed_level true latch = refl
strayed_level false latch = refl

pub strayed_set : (b : Bool) (latch : Latch) → latch.is_set ≡ true → (strayed_if b latch).is_set ≡ true
strayed_set true latch is = refl
strayed_set false latch is = is

pub lined_set : (level : Bool) (latch : Latch) → latch.is_set ≡ true → (lined level latch).is_set ≡ true
lined_set level latch is = rw is refl

pub lined_rose : (latch : Latch) (level : Bool) → level ≡ true → latch.level ≡ false → (lined level latch).is_set ≡ true
lined_rose latch level up low = by_set latch.is_set
  where
    by_set : (b : Bool) → (b || (level && not latch.level)) ≡ true
    by_set true = refl
    by_set false = rw (up, low) refl

pub spin_on : (b : Bool) (spin : ℕ) → spin ≤ (if b then spin + 1 else spin)
spin_on true spin = omega arith
spin_on false spin = omega arith
