-- The bytes of a machine that is saved.
use Rattle.std.specs.Prelude.{◌≡◌, ℕ, List, ◌∷◌, length}
use Rattle.saved_state.specs.Saved.{spelled_count, spelled_flag, spelled_bytes}
use Rattle.dma_8237.specs.Saving.{spelled_channel}
use Rattle.fdc_core.specs.Saving.{spelled_fdc, FdcFits}
use Rattle.irq_events.specs.Saving.{spelled_latch}
use Rattle.irq_events.specs.PaceSaving.{spelled_gaps, spelled_strays, spelled_holds}
use Rattle.pc_bus.specs.declared.bus.Bus.{Bus}
use Rattle.pc_bus.specs.declared.chips.Chips.{Chips}
use Rattle.pc_bus.specs.declared.machine.MachineOf.{MachineOf}

-- memory has as many bytes as it must have
abbrev pub MemoryFits : List ℕ → Type 0
MemoryFits memory = length memory ≡ 1048576

abbrev pub spelled_memory : List ℕ → List ℕ → List ℕ
spelled_memory memory rest = spelled_bytes memory rest

abbrev pub ChipsFit : Chips → Type 0
ChipsFit chips = FdcFits chips.controller × MemoryFits chips.memory

abbrev pub spelled_chips : Chips → List ℕ → List ℕ
spelled_chips chips rest =
    spelled_fdc chips.controller (spelled_channel chips.channel (spelled_memory chips.memory (spelled_holds chips.holding rest)))

abbrev pub BusFits : Bus → Type 0
BusFits bus = ChipsFit bus.chips

abbrev pub spelled_bus : Bus → List ℕ → List ℕ
spelled_bus bus rest =
    spelled_chips bus.chips (spelled_latch bus.latch (spelled_gaps bus.gaps (spelled_strays bus.strays
    (spelled_count bus.steps (spelled_count bus.direct (spelled_count bus.taken (spelled_flag bus.fresh rest)))))))

-- a machine whose parts fit, if its drives fit as given
abbrev pub MachineFits : {D : Type 0} → (D → Type 0) → MachineOf D → Type 0
MachineFits fits machine = BusFits machine.bus × fits machine.first × fits machine.second

-- the bytes of a machine: an 'M', the bus, and both drives, which are spelled as given
abbrev pub spelled_machine : {D : Type 0} → (D → List ℕ → List ℕ) → MachineOf D → List ℕ → List ℕ
spelled_machine spelled machine rest =
    0x4D ∷ spelled_bus machine.bus (spelled machine.first (spelled machine.second rest))
