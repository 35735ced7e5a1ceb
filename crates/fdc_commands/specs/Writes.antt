-- The bytes of WRITE DATA, WRITE DELETED DATA and FORMAT TRACK, one by one (82077AA data sheet).
use Rattle.std.specs.Prelude.{◌≡◌, ℕ, Bool, if◌then◌else◌, [], ◌∷◌}
use Rattle.flop_base.specs.declared.key.Chrn.{Chrn}
use Rattle.fdc_commands.specs.Table.{answer}
use Rattle.fdc_commands.specs.declared.bytes.Accepted.TheVariants.{More, Ready}
use Rattle.fdc_commands.specs.declared.command.Command.{Command}
use Rattle.fdc_commands.specs.declared.command.Command.TheVariants.{WriteData, WriteDeleted, FormatTrack}

-- the code of a write, with a deleted data mark or with a normal one
abbrev pub write_code : Bool → ℕ
write_code deleted = if deleted then 0x49 else 0x45

-- the command of a write
abbrev pub write_command : Bool → ℕ → Chrn → ℕ → ℕ → ℕ → Command
write_command deleted head_drive key last_sector gap length_code =
    if deleted then WriteDeleted head_drive key last_sector gap length_code else WriteData head_drive key last_sector gap length_code

-- after each byte but the ninth the controller wants more; the ninth makes the command whole
pub record SpellsWrite (deleted : Bool) (head_drive : ℕ) (key : Chrn) (last_sector gap length_code : ℕ) : Type 0 where
  pub code : answer (write_code deleted ∷ []) ≡ More
  pub head : answer (write_code deleted ∷ head_drive ∷ []) ≡ More
  pub c : answer (write_code deleted ∷ head_drive ∷ key.c ∷ []) ≡ More
  pub h : answer (write_code deleted ∷ head_drive ∷ key.c ∷ key.h ∷ []) ≡ More
  pub r : answer (write_code deleted ∷ head_drive ∷ key.c ∷ key.h ∷ key.r ∷ []) ≡ More
  pub n : answer (write_code deleted ∷ head_drive ∷ key.c ∷ key.h ∷ key.r ∷ key.n ∷ []) ≡ More
  pub last : answer (write_code deleted ∷ head_drive ∷ key.c ∷ key.h ∷ key.r ∷ key.n ∷ last_sector ∷ []) ≡ More
  pub gap_length : answer (write_code deleted ∷ head_drive ∷ key.c ∷ key.h ∷ key.r ∷ key.n ∷ last_sector ∷ gap ∷ []) ≡ More
  pub whole : answer (write_code deleted ∷ head_drive ∷ key.c ∷ key.h ∷ key.r ∷ key.n ∷ last_sector ∷ gap ∷ length_code ∷ [])
      ≡ Ready (write_command deleted head_drive key last_sector gap length_code)

-- after each byte of a FORMAT TRACK but the sixth the controller wants more; the sixth makes the command whole
pub record SpellsFormat (head_drive n sectors gap3 fill : ℕ) : Type 0 where
  pub code : answer (0x4D ∷ []) ≡ More
  pub head : answer (0x4D ∷ head_drive ∷ []) ≡ More
  pub size : answer (0x4D ∷ head_drive ∷ n ∷ []) ≡ More
  pub many : answer (0x4D ∷ head_drive ∷ n ∷ sectors ∷ []) ≡ More
  pub gap : answer (0x4D ∷ head_drive ∷ n ∷ sectors ∷ gap3 ∷ []) ≡ More
  pub whole : answer (0x4D ∷ head_drive ∷ n ∷ sectors ∷ gap3 ∷ fill ∷ []) ≡ Ready (FormatTrack head_drive n sectors gap3 fill)
