-- The controller's side of the DMA channel.
use Rattle.std.specs.Prelude.{ℕ, Bool, true, false, ◌==◌, [], ◌∷◌, ◌++◌, length, drop, get_or, if◌then◌else◌}
use Rattle.fdc_core.specs.Common.{Fifo, emptied, room_of, is_reading, is_moving, Execute, Task, task_asks, phase_asks, phase_told}
use Rattle.fdc_core.specs.declared.controller.Fdc.{Fdc}

-- the bytes of the command go to memory
abbrev pub to_memory_of : Fdc → Bool
to_memory_of fdc = is_reading fdc.phase

-- DRQ goes by the FIFO's rule
abbrev pub asked : Fdc → Fdc
asked old = record old { asking = phase_asks old.phase old.asking old.fifo }

-- the execution goes on with this task, and DRQ by the FIFO's rule
abbrev pub gone_on : ℕ → ℕ → Task → Fdc → Fdc
gone_on head_drive steps task old = record old {
  phase = Execute (record { head_drive = head_drive; steps = steps; task = task });
  asking = task_asks task old.asking old.fifo;
}

-- the channel takes the oldest byte
abbrev pub byte_out : Fdc → ℕ
byte_out old = get_or old.fifo.bytes 0 0xFF

abbrev pub taken_out : Fdc → Fdc
taken_out old = asked (record old { fifo = record old.fifo { bytes = drop 1 old.fifo.bytes } })

-- the FIFO with a byte at its end, where there is room
abbrev pub with_byte : ℕ → Fifo → Fifo
with_byte byte fifo =
    if length fifo.bytes == room_of fifo.on then fifo else record fifo { bytes = fifo.bytes ++ byte ∷ [] }

-- the channel gives a byte
abbrev pub taken_in : ℕ → Fdc → Fdc
taken_in byte old = asked (record old { fifo = with_byte byte old.fifo })

abbrev pub fifo_told : Bool → Fifo → Fifo
fifo_told true fifo = emptied fifo.on fifo.threshold
fifo_told false fifo = fifo

abbrev pub asking_told : Bool → Bool → Bool
asking_told true asking = false
asking_told false asking = asking

abbrev pub told_to : ℕ → ℕ → Task → Fdc → Fdc
told_to head_drive steps task old = record old {
  asking = false;
  phase = Execute (record { head_drive = head_drive; steps = steps; task = task });
}

abbrev pub told_count : Fdc → Fdc
told_count old = record old {
  phase = phase_told old.phase;
  fifo = fifo_told (is_reading old.phase) old.fifo;
  asking = asking_told (is_moving old.phase) old.asking;
}
