-- Device steps of the machine.
use Rattle.std.specs.Prelude.{◌≡◌, ◌≤◌, ℕ, zero, suc, Bool, true, false, not, ◌&&◌, ◌||◌}
use Rattle.pc_bus.specs.Common.{Latch, is_stray_due, strays_after, counted, interrupts, Fdc}
use Rattle.fdc_core.specs.Drives.WordTimes.{PassesWordTime}
use Rattle.pc_bus.specs.Boards.{Board, controller_of, selected_of, latch_of}
use Rattle.pc_bus.specs.Transfers.{dma_stepped}
use Rattle.pc_bus.specs.declared.bus.Bus.{Bus}

-- ---- the chips besides the drives

-- the latch after the spurious interrupts (strays) of a device step were looked at
abbrev pub strayed_if : Bool → Latch → Latch
strayed_if true latch = record latch { is_set = true }
strayed_if false latch = latch

-- the step is counted, and a spurious interrupt sets the latch if one is due
abbrev pub step_begun : Bus → Bus
step_begun old = record old {
  latch = strayed_if (is_stray_due old.strays) old.latch;
  strays = strays_after old.strays;
  steps = counted old.steps;
  fresh = false;
}

-- the controller has made its device step
abbrev pub with_controller : Fdc → Bus → Bus
with_controller controller old = record old { chips = record old.chips { controller = controller } }

-- a latch to which the interrupt line is shown
abbrev pub lined : Bool → Latch → Latch
lined level old = record { is_set = old.is_set || (level && not old.level); level = level }

-- DMA requests are served, and then the interrupt line goes to the latch
abbrev pub step_ended : Bus → Bus
step_ended old = let chips = dma_stepped old.chips in
    record old { chips = chips; latch = lined (interrupts chips.controller) old.latch }

-- One device step. It consists of spurious interrupts, the word time with the drives, transfers, and the interrupt
-- line, in this order.
pub record Step (old new : Board) : Type 0 where
  -- the controller after its word time
  pub between : Fdc
  pub word_time : PassesWordTime (selected_of old) (controller_of old) old.first old.second between new.first new.second
  pub bus : new.bus ≡ step_ended (with_controller between (step_begun old.bus))

-- this many device steps
unfoldable pub Runs : ℕ → Board → Board → Type 0
Runs zero old new = new ≡ old
Runs (suc n) old new = (between : Board) × Runs n old between × Step between new

-- this many device steps; before each of them the latch wasn't set
unfoldable pub RunsUnset : ℕ → Board → Board → Type 0
RunsUnset zero old new = new ≡ old
RunsUnset (suc n) old new =
    (between : Board) × RunsUnset n old between × ((latch_of between).is_set ≡ false) × Step between new

-- a call came, so the machine isn't fresh any more
abbrev pub stirred : Board → Board
stirred old = record old { bus = record old.bus { fresh = false } }

-- device steps until the latch is set, `most` at most; `steps` is how many were made
pub record RunsToIrq (most : ℕ) (old : Board) (steps : ℕ) (new : Board) : Type 0 where
  pub within : steps ≤ most
  pub runs : RunsUnset steps (stirred old) new
  pub all : (latch_of new).is_set ≡ false → steps ≡ most

-- device steps until the latch is set, `most` at most; `set` says whether it is set then
pub record Waits (most : ℕ) (old : Board) (set : Bool) (new : Board) : Type 0 where
  pub steps : ℕ
  pub within : steps ≤ most
  pub runs : RunsUnset steps (stirred old) new
  pub answer : set ≡ (latch_of new).is_set
  pub all : set ≡ false → steps ≡ most
