-- The bytes of a command are read as that command.
use Rattle.std.proofs.Common.{◌≡◌, ℕ, ◌≤◌, ◌&&◌, nat_le, true, refl, arith}
use Rattle.std.proofs.lemmas.Bool.Decides.{nat_tests}
use Rattle.fdc_commands.specs.Spelled.{spelled}
use Rattle.fdc_commands.specs.Table.{answer, SizeInRange}
use Rattle.fdc_commands.specs.declared.bytes.Accepted.TheVariants.{Ready}
use Rattle.fdc_commands.specs.declared.command.Command.{Command}
use Rattle.fdc_commands.specs.declared.command.Command.TheVariants.{ReadData, WriteData, WriteDeleted, FormatTrack}

within : (n : ℕ) → (1 ≤ n) × (n ≤ 6) → (nat_le 1 n && nat_le n 6) ≡ true
within n (low, high) = grind (arith, nat_tests)

pub read_back : (command : Command) → SizeInRange command → answer (spelled command) ≡ Ready command
unfolding answer
read_back (ReadData head_drive key eot gpl dtl) sized = rw (within key.n sized) refl
read_back (WriteData head_drive key eot gpl dtl) sized = rw (within key.n sized) refl
read_back (WriteDeleted head_drive key eot gpl dtl) sized = rw (within key.n sized) refl
read_back (FormatTrack head_drive n sc gpl fill) sized = rw (within n sized) refl
read_back _ sized = refl
