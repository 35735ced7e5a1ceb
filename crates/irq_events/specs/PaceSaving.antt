-- The bytes of a timing (pace) that is saved.
use Rattle.std.specs.Prelude.{ℕ, List, ◌∷◌}
use Rattle.saved_state.specs.Saved.{spelled_byte, spelled_word, spelled_count, spelled_bytes, spelled_list}
use Rattle.irq_events.specs.Holds.{Holds}
use Rattle.irq_events.specs.declared.holding.DmaRequest.{DmaRequest}
use Rattle.irq_events.specs.declared.holding.DmaRequest.TheVariants.{Low, High}

-- the gaps that are left
abbrev pub spelled_gaps : List ℕ → List ℕ → List ℕ
spelled_gaps gaps rest = spelled_bytes gaps rest

-- the spurious interrupts that are to come
abbrev pub spelled_strays : List ℕ → List ℕ → List ℕ
spelled_strays strays rest = spelled_list spelled_word strays rest

-- a request: its number, and what is left of its hold
abbrev pub spelled_request : DmaRequest → List ℕ → List ℕ
spelled_request Low rest = 0 ∷ rest
spelled_request (High left) rest = 1 ∷ spelled_byte left rest

abbrev pub spelled_holds : Holds → List ℕ → List ℕ
spelled_holds holds rest =
    spelled_bytes holds.entries (spelled_request holds.request (spelled_count holds.stalls rest))
