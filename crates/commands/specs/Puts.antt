-- What a call puts to the output (sink).
use Rattle.std.specs.Prelude.{◌≡◌, ◌≢◌, ℕ, List, Option, Result, IfErr, OnOk, OnErr, IsErrOf}
use Rattle.commands.specs.Common.{grown, GrowsByPart, Status, IsPutFault, Prints, Blames}
use Rattle.flop_base.specs.declared.answers.Status.TheVariants as status

-- what is printed, and the faults that the output counted
pub record Printed : Type 0 where
  pub report : Option (List (List ℕ))
  pub faults : ℕ

abbrev pub printed_of : {K : Type 0} → (K → Option (List (List ℕ))) → (K → ℕ) → K → Printed
printed_of report sink_count out = record { report = report out; faults = sink_count out }

-- lines were put whole, each by one call; or a first part of them, and the error is the status
pub record Puts (lines : List (List ℕ)) (old : Printed) (result : Result (Unit {0}) Status) (new : Printed) : Type 0 where
  pub ok : OnOk result (new.report ≡ grown old.report lines)
  pub err : OnErr result (GrowsByPart old.report lines new.report)
  pub only : IfErr result IsPutFault
  pub faults : Blames (IsErrOf result status.SinkFault) old.faults new.faults

-- last lines were put, and the status is the wanted one; or they couldn't be put whole
pub record PutsLast (lines : List (List ℕ)) (wanted : Status) (old new : Printed) (ended : Status) : Type 0 where
  pub prints : Prints lines wanted old.report new.report ended
  pub only : ended ≢ wanted → IsPutFault ended
  pub faults : Blames (ended ≡ status.SinkFault) old.faults new.faults
