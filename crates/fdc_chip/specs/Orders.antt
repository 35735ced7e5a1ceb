-- The bytes of a command, one after the other.
use Rattle.std.specs.Prelude.{ℕ, Bool, ◌==◌, if◌then◌else◌, bit_and}
use Rattle.fdc_chip.specs.declared.order.Order.{Order}

abbrev pub blank : Order
blank = record {
  code = 0;
  unit = 0;
  key = record { c = 0; h = 0; r = 0; n = 0 };
  last_sector = 0;
  gap = 0;
  length = 0;
}

-- whether the command is a FORMAT TRACK
abbrev pub is_format : Order → Bool
is_format order = bit_and order.code 0x1F == 0x0D

-- the command with this byte at a place
abbrev pub with_byte : ℕ → ℕ → Order → Order
with_byte place byte old =
    if place == 0 then record old { code = byte } else (
    if place == 1 then record old { unit = byte } else (
    if place == 2 then record old { key = record old.key { c = byte } } else (
    if place == 3 then record old { key = record old.key { h = byte } } else (
    if place == 4 then record old { key = record old.key { r = byte } } else (
    if place == 5 then record old { key = record old.key { n = byte } } else (
    if place == 6 then record old { last_sector = byte } else (
    if place == 7 then record old { gap = byte } else
    record old { length = byte })))))))
