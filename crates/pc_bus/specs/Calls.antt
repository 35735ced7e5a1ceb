-- The calls of a machine that may change it, one after the other.
use Rattle.std.specs.Prelude.{◌≡◌, ◌≤◌, ℕ, zero, suc, Bool}
use Rattle.raw_image.specs.Disk.{Disk}
use Rattle.pc_bus.specs.Common.{DriveState, loaded, unloaded, FollowsMotor}
use Rattle.pc_bus.specs.Boards.{Board, IsEmpty, controller_of, drive_in}
use Rattle.pc_bus.specs.Handling.{Touches, byte_set, irq_taken}
use Rattle.pc_bus.specs.Ports.{Inputs, Outputs}
use Rattle.pc_bus.specs.Steps.{Runs, Waits, stirred}

-- one call: what its contract says holds
pub data IsCalled (old new : Board) : Type 0 where
  ByInb : (port value : ℕ) → Inputs port old value new → IsCalled old new
  ByOutb : (port value : ℕ) → Outputs port value old new → IsCalled old new
  ByWait : (steps : ℕ) → Runs steps (stirred old) new → IsCalled old new
  -- besides this, `run_to_irq` tells how many steps it made
  ByWaitIrq : (most : ℕ) (set : Bool) → Waits most old set new → IsCalled old new
  ByTakeIrq : new ≡ record old { bus = irq_taken old.bus } → IsCalled old new
  ByRamSet : (address value : ℕ) → new ≡ record old { bus = byte_set address value old.bus } → IsCalled old new
  ByInsert : (bay : ℕ) (medium : Disk) → bay ≤ 1 → Touches bay old new → drive_in new bay ≡ loaded medium (drive_in old bay) → IsCalled old new
  -- an insert into a bay where a medium was in already
  ByRefusal : (bay : ℕ) → bay ≤ 1 → Touches bay old new → drive_in new bay ≡ drive_in old bay → IsCalled old new
  ByEject : (bay : ℕ) → bay ≤ 1 → Touches bay old new → drive_in new bay ≡ unloaded (drive_in old bay) → IsCalled old new
  ByExchange : (bay : ℕ) (drive : DriveState) → bay ≤ 1 → IsEmpty drive → Touches bay old new → FollowsMotor bay (controller_of old) drive (drive_in new bay) → IsCalled old new

-- this many calls, one after the other
unfoldable pub AreCalled : ℕ → Board → Board → Type 0
AreCalled zero old new = new ≡ old
AreCalled (suc calls) old new = (between : Board) × AreCalled calls old between × IsCalled between new
