-- The reset pin.
use Rattle.std.specs.Prelude.{◌≡◌}
use Rattle.fdc_chip.specs.Chips.{ChipState}
use Rattle.fdc_chip.specs.Ports.{WritesChip}
use Rattle.fdc_chip.specs.Settings.{at_power_up}
use Rattle.fdc_chip.specs.declared.settings.Settings.{Settings}

-- what commands set is as at power-up, except for what SPECIFY set. LOCK keeps nothing from the reset pin
abbrev pub pin_settings : Settings → Settings
pin_settings old = record at_power_up { step_rate = old.step_rate; head_load = old.head_load }

-- the reset pin does what writing 00 to DOR does, with the data rate of power-up. What commands set is then as
-- `pin_settings` says, and TDR is clear
pub record ResetsByPin (old new : ChipState) : Type 0 where
  pub held : ChipState
  pub rated : ChipState
  pub dor : WritesChip 0x3F2 0 old held
  pub ccr : WritesChip 0x3F7 2 held rated
  pub settings : new ≡ record rated { settings = pin_settings old.settings; tape = 0 }
