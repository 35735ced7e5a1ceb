-- Saved states in buffers of C.
use Rattle.std.specs.Prelude.{◌≡◌, ℕ, ◌==◌, List, [], ◌∷◌, ◌++◌, Option, Some, Result, Ok, Err, MatchBool, ⊤}
use Rattle.telwyddus_c.specs.Common.{Box, spelled_bay, BayFits, ControllerValue, MachineValue, spelled_chip, ChipFits}
use Rattle.drive_model.specs.Saving.{spelled_script_drive}
use Rattle.pc_bus.specs.Saving.{spelled_machine, MachineFits}
use Rattle.saved_state.specs.declared.whole.RestoreError.{RestoreError}
use Rattle.saved_state.specs.declared.whole.RestoreError.TheVariants.{NoState, NoMemory}
use Rattle.telwyddus_c.specs.Buffers.{WritesOr}

-- what each state begins with: the name TELWYDD, and the number of the form of what comes after it, 4
abbrev pub state_name : List ℕ
state_name = 0x54 ∷ 0x45 ∷ 0x4C ∷ 0x57 ∷ 0x59 ∷ 0x44 ∷ 0x44 ∷ 0x04 ∷ []

-- the bytes of a value, with a name in front of them
abbrev pub behind : {V : Type 0} → (name : List ℕ) → (V → List ℕ → List ℕ) → V → List ℕ → List ℕ
behind name spelled value rest = name ++ spelled value rest

-- the bytes of a value, with the name of states in front of them
abbrev pub named : {V : Type 0} → (V → List ℕ → List ℕ) → V → List ℕ → List ℕ
named = behind state_name

-- the bytes of a controller with its drives and their media. `ControllerFits` is what holds of each controller in the
-- code
abbrev pub spelled_controller : ControllerValue → List ℕ → List ℕ
spelled_controller = named (spelled_chip spelled_bay)

abbrev pub ControllerFits : ControllerValue → Type 0
ControllerFits = ChipFits BayFits

-- the bytes of a machine with its memory, what its plan has still to come, its drives and their media
abbrev pub spelled_bench : MachineValue → List ℕ → List ℕ
spelled_bench = named (spelled_machine spelled_script_drive)

abbrev pub BenchFits : MachineValue → Type 0
BenchFits = MachineFits (λ _. ⊤)

-- the bytes of a state are written to a buffer. By the code of the call:
-- - 0: the bytes are written, and their number is reported;
-- - 10: the buffer is too short. It stays as it is, and the number is reported;
-- - 3: memory is out. The buffer and what was reported stay.
pub record WritesState {V : Type 0} (fits : V → Type 0) (spelled : V → List ℕ → List ℕ) (state : V) (code : ℕ) (old new : List ℕ) (was told : ℕ) : Type 0 where
  pub fits_here : fits state
  pub writes : WritesOr (MatchBool (code == 3) ((new ≡ old) × (told ≡ was)) ⊥) (spelled state []) code old new told

-- a state has these bytes, and no other has them
pub record HasBytes {V : Type 0} (fits : V → Type 0) (spelled : V → List ℕ → List ℕ) (bytes : List ℕ) (state : V) : Type 0 where
  pub fits_here : fits state
  pub spells : bytes ≡ spelled state []
  pub only : (other : V) → fits other → bytes ≡ spelled other [] → other ≡ state

-- no state has these bytes
abbrev pub HasNone : {V : Type 0} → (V → Type 0) → (V → List ℕ → List ℕ) → List ℕ → Type 0
HasNone {V} fits spelled bytes = (state : V) → fits state → bytes ≡ spelled state [] → ⊥

-- the state whose bytes these are is found, or there is none, or memory is out
abbrev pub FindsState : {V : Type 0} → (V → Type 0) → (V → List ℕ → List ℕ) → List ℕ → Result (Box V) RestoreError → Type 0
FindsState fits spelled bytes (Ok found) = HasBytes fits spelled bytes found.value
FindsState fits spelled bytes (Err NoState) = HasNone fits spelled bytes
FindsState fits spelled bytes (Err NoMemory) = ⊤

-- a slot holds the state whose bytes these are, in place of what it held: code 0. If no state has these bytes, 22, or
-- if memory is out, 3, the slot stays
abbrev pub RestoresState : {V : Type 0} → (V → Type 0) → (V → List ℕ → List ℕ) → List ℕ → ℕ → Option V → Option V → Type 0
RestoresState {V} fits spelled bytes code old new =
    MatchBool (code == 0) ((state : V) × (new ≡ Some state) × HasBytes fits spelled bytes state)
    (MatchBool (code == 22) (HasNone fits spelled bytes × (new ≡ old))
    (MatchBool (code == 3) (new ≡ old) ⊥))
