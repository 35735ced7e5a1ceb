-- The result bytes of a data command, read one by one.
use Rattle.std.specs.Prelude.{◌≡◌, ℕ, List, [], ◌∷◌}
use Rattle.fdc_commands.specs.Results.{result_bytes}
use Rattle.laws_machine.specs.Common.{Results, Command, Board, Inputs}
use Rattle.laws_machine.specs.OnQuiet.Settings.{Setting, Stands}

-- the data port was read once for each of these bytes, one read after the other, and gave them
abbrev pub GivesBytes : Board → List ℕ → Board → Type 0
GivesBytes old [] new = new ≡ old
GivesBytes old (byte ∷ bytes) new = (between : Board) × Inputs 0x3F5 old byte between × GivesBytes between bytes new

-- the bytes are the results, and the controller takes commands then; all else stands as it was
pub record HasGiven (results : Results) (set : Setting) (start : Board) (bytes : List ℕ) (new : Board) : Type 0 where
  pub bytes_are : bytes ≡ result_bytes results
  pub stands : Stands (record set { phase = Command }) start new
