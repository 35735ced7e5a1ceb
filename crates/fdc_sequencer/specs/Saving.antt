-- The bytes in which a sequencer is saved.
use Rattle.std.specs.Prelude.{ℕ, List, ◌∷◌}
use Rattle.saved_state.specs.Saved.{spelled_byte, spelled_flag, spelled_key, spelled_word}
use Rattle.fdc_commands.specs.Saving.{spelled_results}
use Rattle.fdc_sequencer.specs.AdapterSaving.{spelled_adapter, AdapterFits}
use Rattle.fdc_sequencer.specs.declared.opcode.Operation.{Operation}
use Rattle.fdc_sequencer.specs.declared.opcode.Operation.TheVariants.{Read, Write}
use Rattle.fdc_sequencer.specs.declared.opcode.Opcode.{Opcode}
use Rattle.fdc_sequencer.specs.declared.transfer.Transfer.{Transfer}
use Rattle.fdc_sequencer.specs.declared.stage.Moving.{Moving}
use Rattle.fdc_sequencer.specs.declared.stage.FrontStage.{FrontStage}
use Rattle.fdc_sequencer.specs.declared.stage.FrontStage.TheVariants as stage
use Rattle.fdc_sequencer.specs.declared.sequencer.Sequencer.{Sequencer}

-- what a command does with its sectors
unfoldable pub spelled_operation : Operation → List ℕ → List ℕ
spelled_operation (Read deleted skip) rest = 0 ∷ spelled_flag deleted (spelled_flag skip rest)
spelled_operation (Write deleted) rest = 1 ∷ spelled_flag deleted rest

-- the code of a command
unfoldable pub spelled_opcode : Opcode → List ℕ → List ℕ
spelled_opcode opcode rest = spelled_operation opcode.operation (spelled_flag opcode.multitrack rest)

-- a command as it stands at a sector
unfoldable pub spelled_transfer : Transfer → List ℕ → List ℕ
spelled_transfer transfer rest =
    spelled_opcode transfer.opcode (spelled_byte transfer.head_drive (spelled_key transfer.key
    (spelled_byte transfer.last_sector (spelled_byte transfer.gap (spelled_byte transfer.length (spelled_flag transfer.seeks rest))))))

-- a sector that is moved
unfoldable pub spelled_moving : Moving → List ℕ → List ℕ
spelled_moving moving rest =
    spelled_transfer moving.transfer (spelled_word moving.left (spelled_flag moving.counted
    (spelled_flag moving.passed_over (spelled_flag moving.skipped rest))))

-- what is done in front of the controller
unfoldable pub spelled_stage : FrontStage → List ℕ → List ℕ
spelled_stage stage.Through rest = 0 ∷ rest
spelled_stage (stage.Seeking transfer counted) rest = 1 ∷ spelled_transfer transfer (spelled_flag counted rest)
spelled_stage (stage.Moving moving) rest = 2 ∷ spelled_moving moving rest
spelled_stage (stage.Telling results) rest = 3 ∷ spelled_results results rest

-- the adapter of the sequencer fits
abbrev pub SequencerFits : {D : Type 0} → (D → Type 0) → Sequencer D → Type 0
SequencerFits fits sequencer = AdapterFits fits sequencer.adapter

-- the letter D, then the adapter, where `spelled` gives the bytes of a drive, and then what the sequencer keeps
unfoldable pub spelled_sequencer : {D : Type 0} → (D → List ℕ → List ℕ) → Sequencer D → List ℕ → List ℕ
spelled_sequencer spelled sequencer rest = 68 ∷ spelled_adapter spelled sequencer.adapter (spelled_stage sequencer.stage rest)
