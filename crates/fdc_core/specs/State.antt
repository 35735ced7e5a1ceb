-- The controller's state: words for what it shows, and what resets and ends make of it.
use Rattle.std.specs.Prelude.{ℕ, Bool, true, false, not, ◌&&◌, ◌==◌, [], bit_and}
use Rattle.fdc_core.specs.Common.{Chrn, not_reset, gate, emptied, at_rest, Ending, results_of, Long, Command, Result, DataRate}
use Rattle.fdc_core.specs.declared.controller.Fdc.{Fdc}
use Rattle.fdc_phases.specs.declared.rates.DataRate.TheVariants.{Kbit250}

-- held in reset, at 250 kbit/s, polling on, with no command and no seek
abbrev pub at_power_up : Fdc
at_power_up = record {
  dor = record { 0 = 0 };
  rate = Kbit250;
  non_dma = false;
  polling = true;
  poll_due = true;
  interrupt = false;
  asking = false;
  phase = Command;
  seeks = at_rest;
  command = [];
  fifo = emptied false 1;
  data_commands = 0;
}

-- a reset ends the command, empties the FIFO and turns it off, turns polling on and forgets all seeks. DOR, the rate,
-- what SPECIFY set and the count of data commands stay
abbrev pub reset : Fdc → Fdc
reset old = record old {
  polling = true;
  poll_due = true;
  interrupt = false;
  asking = false;
  phase = Command;
  seeks = at_rest;
  command = [];
  fifo = emptied false 1;
}

-- the result phase of a data command: INT is up, DRQ is down and the FIFO is empty
abbrev pub finished : Ending → ℕ → Chrn → Fdc → Fdc
finished ending head_drive key old = record old {
  interrupt = true;
  asking = false;
  phase = Result (Long ending (results_of ending head_drive key) 0);
  fifo = emptied old.fifo.on old.fifo.threshold;
}

-- the rate that was chosen
abbrev pub data_rate : Fdc → DataRate
data_rate fdc = fdc.rate

-- DOR has these bits
abbrev pub has_bits : Fdc → ℕ → Bool
has_bits fdc bits = bit_and fdc.dor.0 bits == bits

-- DOR holds the controller in reset
abbrev pub is_held : Fdc → Bool
is_held fdc = not (has_bits fdc not_reset)

-- DOR lets INT and DRQ out
abbrev pub is_gated : Fdc → Bool
is_gated fdc = has_bits fdc gate

-- the interrupt line
abbrev pub interrupts : Fdc → Bool
interrupts fdc = is_gated fdc && fdc.interrupt

-- the DMA request line
abbrev pub asks : Fdc → Bool
asks fdc = is_gated fdc && fdc.asking

-- how many data commands began
abbrev pub data_commands_of : Fdc → ℕ
data_commands_of fdc = fdc.data_commands

-- the byte of DOR
abbrev pub dor_of : Fdc → ℕ
dor_of fdc = fdc.dor.0
