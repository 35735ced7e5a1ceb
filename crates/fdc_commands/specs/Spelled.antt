-- The bytes of a command as they are sent, its code first (82077AA data sheet).
use Rattle.std.specs.Prelude.{ℕ, List, [], ◌∷◌}
use Rattle.flop_base.specs.declared.key.Chrn.{Chrn}
use Rattle.fdc_commands.specs.declared.command.Command.{Command}
use Rattle.fdc_commands.specs.declared.command.Command.TheVariants.{Specify, SenseDrive, Recalibrate, SenseInterrupt, Seek, Version, Configure, ReadId, ReadData, WriteData, WriteDeleted, FormatTrack}

-- the nine bytes of a command of one sector
abbrev pub spelled_sector : ℕ → ℕ → Chrn → ℕ → ℕ → ℕ → List ℕ
spelled_sector code head_drive key eot gpl dtl =
    code ∷ head_drive ∷ key.c ∷ key.h ∷ key.r ∷ key.n ∷ eot ∷ gpl ∷ dtl ∷ []

-- the bytes of a command
abbrev pub spelled : Command → List ℕ
spelled (Specify srt_hut hlt_nd) = 0x03 ∷ srt_hut ∷ hlt_nd ∷ []
spelled (SenseDrive head_drive) = 0x04 ∷ head_drive ∷ []
spelled (Recalibrate drive) = 0x07 ∷ drive ∷ []
spelled SenseInterrupt = 0x08 ∷ []
spelled (Seek head_drive ncn) = 0x0F ∷ head_drive ∷ ncn ∷ []
spelled Version = 0x10 ∷ []
spelled (Configure fixed options pretrk) = 0x13 ∷ fixed ∷ options ∷ pretrk ∷ []
spelled (ReadId head_drive) = 0x4A ∷ head_drive ∷ []
spelled (ReadData head_drive key eot gpl dtl) = spelled_sector 0x46 head_drive key eot gpl dtl
spelled (WriteData head_drive key eot gpl dtl) = spelled_sector 0x45 head_drive key eot gpl dtl
spelled (WriteDeleted head_drive key eot gpl dtl) = spelled_sector 0x49 head_drive key eot gpl dtl
spelled (FormatTrack head_drive n sc gpl fill) = 0x4D ∷ head_drive ∷ n ∷ sc ∷ gpl ∷ fill ∷ []
