-- The bytes of READ DATA and READ ID, one by one (82077AA data sheet).
use Rattle.std.specs.Prelude.{◌≡◌, ℕ, [], ◌∷◌}
use Rattle.flop_base.specs.declared.key.Chrn.{Chrn}
use Rattle.fdc_commands.specs.Table.{answer}
use Rattle.fdc_commands.specs.declared.bytes.Accepted.TheVariants.{More, Ready}
use Rattle.fdc_commands.specs.declared.command.Command.TheVariants.{ReadData, ReadId}

-- after each byte but the ninth the controller wants more; the ninth makes the command whole
pub record SpellsRead (head_drive : ℕ) (key : Chrn) (last_sector gap length_code : ℕ) : Type 0 where
  pub code : answer (0x46 ∷ []) ≡ More
  pub head : answer (0x46 ∷ head_drive ∷ []) ≡ More
  pub c : answer (0x46 ∷ head_drive ∷ key.c ∷ []) ≡ More
  pub h : answer (0x46 ∷ head_drive ∷ key.c ∷ key.h ∷ []) ≡ More
  pub r : answer (0x46 ∷ head_drive ∷ key.c ∷ key.h ∷ key.r ∷ []) ≡ More
  pub n : answer (0x46 ∷ head_drive ∷ key.c ∷ key.h ∷ key.r ∷ key.n ∷ []) ≡ More
  pub last : answer (0x46 ∷ head_drive ∷ key.c ∷ key.h ∷ key.r ∷ key.n ∷ last_sector ∷ []) ≡ More
  pub gap_length : answer (0x46 ∷ head_drive ∷ key.c ∷ key.h ∷ key.r ∷ key.n ∷ last_sector ∷ gap ∷ []) ≡ More
  pub whole : answer (0x46 ∷ head_drive ∷ key.c ∷ key.h ∷ key.r ∷ key.n ∷ last_sector ∷ gap ∷ length_code ∷ [])
      ≡ Ready (ReadData head_drive key last_sector gap length_code)

-- after READ ID's first byte the controller wants one more; the second makes the command whole
pub record SpellsReadId (head_drive : ℕ) : Type 0 where
  pub code : answer (0x4A ∷ []) ≡ More
  pub whole : answer (0x4A ∷ head_drive ∷ []) ≡ Ready (ReadId head_drive)
