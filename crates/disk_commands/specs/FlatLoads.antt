-- How a flat file is loaded.
use Rattle.std.specs.Prelude.{◌≡◌, List, ℕ, length, Result, IfOk, IfErr, IsErrOf}
use Rattle.disk_commands.specs.Common.{sectors_at, flat_length, Stop, Blames, Hand, IsSameHand}
use Rattle.sector_model.specs.declared.reply.Stop.TheVariants as stop
use Rattle.disk_commands.specs.declared.flat_file.FlatFile.{FlatFile}
use Rattle.disk_commands.specs.FlatFiles.{IsFlatFile, IsNotTaken}

-- The flat file of a name was loaded, or the answer is why it isn't taken. The world stays as it was. A fault of the
-- shelf was counted once if it is the reason.
pub record LoadsFlat {R : Type 0} (hand : R → Hand) (name : List ℕ) (old : R) (result : Result FlatFile Stop) (new : R) : Type 0 where
  pub flat : IfOk result (λ flat. IsFlatFile (hand old).world.files name flat.bytes.items flat.rate)
  pub size : IfOk result (λ flat. length flat.bytes.items ≡ flat_length (sectors_at flat.rate))
  pub cause : IfErr result (λ cause. IsNotTaken (hand old).world.files name cause)
  pub stays : (hand new).world ≡ (hand old).world
  pub shelf_faults : Blames (IsErrOf result stop.FileFault) (hand old).shelf_faults (hand new).shelf_faults
  pub no_fault : (hand new).sink_faults ≡ (hand old).sink_faults
  pub same : IsSameHand (hand old) (hand new)
