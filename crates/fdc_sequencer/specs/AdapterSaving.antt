-- The bytes in which an adapter is saved.
use Rattle.std.specs.Prelude.{ℕ, List}
use Rattle.fdc_core.specs.Saving.{spelled_fdc, FdcFits}
use Rattle.fdc_sequencer.specs.declared.adapter.DisketteAdapter.{DisketteAdapter}

-- the controller and the drives of the adapter fit
abbrev pub AdapterFits : {D : Type 0} → (D → Type 0) → DisketteAdapter D → Type 0
AdapterFits fits adapter = FdcFits adapter.controller × fits adapter.first × fits adapter.second

-- the controller and both drives, where `spelled` gives the bytes of a drive. The length of a word time follows from
-- the controller's data rate
unfoldable pub spelled_adapter : {D : Type 0} → (D → List ℕ → List ℕ) → DisketteAdapter D → List ℕ → List ℕ
spelled_adapter spelled adapter rest = spelled_fdc adapter.controller (spelled adapter.first (spelled adapter.second rest))
