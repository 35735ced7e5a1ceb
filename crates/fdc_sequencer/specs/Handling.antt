-- What is done by hand to the media in the bays. The drive in the other bay doesn't change.
use Rattle.std.specs.Prelude.{◌≡◌, ◌↔◌, ℕ, ◌-◌, false, Option, Some, Result, IsErr, IsSome, OnOk, IfOk, IfErr}
use Rattle.raw_image.specs.Disk.{Disk}
use Rattle.fdc_sequencer.specs.Common.{DriveState, loaded, unloaded, same_length, exchanged}
use Rattle.fdc_sequencer.specs.Adapters.{AdapterState, drive_at}

-- a medium is put in, of which no word was replaced yet. If one is in already, the new one is given back
pub record PutsIn (bay : ℕ) (medium : Disk) (old new : AdapterState) (result : Result (Unit {0}) Disk) : Type 0 where
  pub other : drive_at new (1 - bay) ≡ drive_at old (1 - bay)
  pub refused : IsErr result ↔ IsSome (drive_at old bay).medium
  pub ok : OnOk result (drive_at new bay ≡ loaded medium (drive_at old bay))
  pub err : IfErr result (λ back. (back ≡ medium) × (drive_at new bay ≡ drive_at old bay))

-- the medium is taken out, if one is in
pub record TakesOut (bay : ℕ) (old new : AdapterState) (result : Option Disk) : Type 0 where
  pub other : drive_at new (1 - bay) ≡ drive_at old (1 - bay)
  pub medium : result ≡ (drive_at old bay).medium
  pub becomes : drive_at new bay ≡ unloaded (drive_at old bay)

-- a medium is put in place of another with tracks of the same length, and turns on. If no such medium is in, the new
-- one is given back
pub record Exchanges (bay : ℕ) (medium : Disk) (old new : AdapterState) (result : Result Disk Disk) : Type 0 where
  pub other : drive_at new (1 - bay) ≡ drive_at old (1 - bay)
  pub refused : IsErr result ↔ (same_length medium (drive_at old bay).medium ≡ false)
  pub ok : OnOk result (drive_at new bay ≡ exchanged medium (drive_at old bay))
  pub before : IfOk result (λ was. Some was ≡ (drive_at old bay).medium)
  pub err : IfErr result (λ back. (back ≡ medium) × (drive_at new bay ≡ drive_at old bay))

-- the drive in the bay becomes what `target` makes of it
pub record Sets (bay : ℕ) (target : DriveState → DriveState) (old new : AdapterState) : Type 0 where
  pub other : drive_at new (1 - bay) ≡ drive_at old (1 - bay)
  pub becomes : drive_at new bay ≡ target (drive_at old bay)
