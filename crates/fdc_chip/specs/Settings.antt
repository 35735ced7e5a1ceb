-- What commands set, and what a reset leaves of it.
use Rattle.std.specs.Prelude.{ℕ, ◌-◌, ◌*◌, ◌/◌, Bool, false, if◌then◌else◌, bit_and}
use Rattle.fdc_chip.specs.Common.{bit_or}
use Rattle.fdc_chip.specs.Codes.{has_bit}
use Rattle.fdc_chip.specs.declared.settings.Settings.{Settings}

-- the settings at power-up: the FIFO is off
abbrev pub at_power_up : Settings
at_power_up = record {
  step_rate = 0;
  head_load = 0;
  last_sector = 0;
  locked = false;
  perpendicular = 0;
  options = 0x20;
  precompensation = 0;
  forgotten = false;
}

-- the settings after a reset by DOR or DSR. If LOCK is set, EFIFO, the threshold and PRETRK stay, and the inner
-- controller has to be given them again. GAP and WGATE are clear
abbrev pub reset : Settings → Settings
reset old = record old {
  perpendicular = bit_and old.perpendicular 0x3C;
  options = if old.locked then bit_and old.options 0x2F else 0x20;
  precompensation = if old.locked then old.precompensation else 0;
  forgotten = old.locked;
}

-- whether ND is set, so that bytes pass by the data port
abbrev pub is_by_port : Settings → Bool
is_by_port settings = has_bit settings.head_load 0x01

-- whether EIS is set
abbrev pub implies_seeks : Settings → Bool
implies_seeks settings = has_bit settings.options 0x40

-- the word times from one step pulse to the next. SRT stands in the high four bits. The data sheet gives it in
-- milliseconds at 500 kbit/s, and one of these is 62.5 word times at each rate
abbrev pub step_words : Settings → ℕ
step_words settings = (16 - settings.step_rate / 16) * 125 / 2

-- PERPENDICULAR MODE sets GAP and WGATE. With OW it also sets which drives are perpendicular
abbrev pub perpendicular_set : ℕ → Settings → Settings
perpendicular_set mode old = record old {
  perpendicular = if has_bit mode 0x80 then bit_and mode 0x3F else bit_or (bit_and old.perpendicular 0x3C) (bit_and mode 0x03);
}
