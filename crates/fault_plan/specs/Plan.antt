-- A plan: what its lines say for each drive and for the machine's timing (pace).
use Rattle.std.specs.Prelude.{◌≡◌, ℕ, List, [], ◌++◌, Option, Some, None, Result, Ok, Err, replicate}
use Rattle.std.specs.List.{filter_map, flat_map}
use Rattle.drive_model.specs.declared.fault.Fault.{Fault}
use Rattle.floppy_jobs.specs.Lines.{text_of}
use Rattle.fault_plan.specs.Lines.{plan_line_of}
use Rattle.fault_plan.specs.declared.line.PlannedDrive.TheVariants.{Bay0, Bay1, Spare0, Spare1}
use Rattle.fault_plan.specs.declared.line.PlanLine.{PlanLine}
use Rattle.fault_plan.specs.declared.line.PlanLine.TheVariants as line
use Rattle.fault_plan.specs.declared.plan.FaultPlan.{FaultPlan}
use Rattle.fault_plan.specs.declared.error.PlanError.{PlanError}
use Rattle.fault_plan.specs.declared.error.PlanError.TheVariants as error

-- the fault of a line for the drive in bay 0
abbrev pub for_bay0 : PlanLine → Option Fault
for_bay0 (line.Fault Bay0 fault) = Some fault
for_bay0 _ = None

-- the fault of a line for the drive in bay 1
abbrev pub for_bay1 : PlanLine → Option Fault
for_bay1 (line.Fault Bay1 fault) = Some fault
for_bay1 _ = None

-- the fault of a line for the first spare drive
abbrev pub for_spare0 : PlanLine → Option Fault
for_spare0 (line.Fault Spare0 fault) = Some fault
for_spare0 _ = None

-- the fault of a line for the second spare drive
abbrev pub for_spare1 : PlanLine → Option Fault
for_spare1 (line.Fault Spare1 fault) = Some fault
for_spare1 _ = None

-- the gaps that a line adds
abbrev pub gaps_of : PlanLine → List ℕ
gaps_of (line.Gap steps count) = replicate count steps
gaps_of _ = []

-- the DMA latencies (holds) that a line adds
abbrev pub holds_of : PlanLine → List ℕ
holds_of (line.Hold steps count) = replicate count steps
holds_of _ = []

-- the spurious interrupts (strays) that a line adds
abbrev pub strays_of : PlanLine → List ℕ
strays_of (line.Stray steps count) = replicate count steps
strays_of _ = []

-- the faults of each drive; the gaps, DMA latencies and spurious interrupts of the machine
pub record Plan : Type 0 where
  pub bay0 : List Fault
  pub bay1 : List Fault
  pub spare0 : List Fault
  pub spare1 : List Fault
  pub gaps : List ℕ
  pub holds : List ℕ
  pub strays : List ℕ

-- what these lines say, each list in the order of the lines
unfoldable pub plan_for : List PlanLine → Plan
plan_for lines = record {
  bay0 = filter_map for_bay0 lines;
  bay1 = filter_map for_bay1 lines;
  spare0 = filter_map for_spare0 lines;
  spare1 = filter_map for_spare1 lines;
  gaps = flat_map gaps_of lines;
  holds = flat_map holds_of lines;
  strays = flat_map strays_of lines;
}

-- one plan's lists, each followed by another's
abbrev pub joined : Plan → Plan → Plan
joined first second = record {
  bay0 = first.bay0 ++ second.bay0;
  bay1 = first.bay1 ++ second.bay1;
  spare0 = first.spare0 ++ second.spare0;
  spare1 = first.spare1 ++ second.spare1;
  gaps = first.gaps ++ second.gaps;
  holds = first.holds ++ second.holds;
  strays = first.strays ++ second.strays;
}

-- the plan of lines that are understood
abbrev pub planned : Result (List PlanLine) ℕ → Result Plan ℕ
planned (Ok lines) = Ok (plan_for lines)
planned (Err bad) = Err bad

-- what a plan's text of at most 1,000 lines says; else its first line that isn't understood, 0 where the text is too
-- long
unfoldable pub plan_spelled : List ℕ → Result Plan ℕ
plan_spelled text = planned (text_of plan_line_of 1000 text)

-- a plan that was read, as its lists
abbrev pub lists_of : FaultPlan → Plan
lists_of plan = record {
  bay0 = plan.bay0.items;
  bay1 = plan.bay1.items;
  spare0 = plan.spare0.items;
  spare1 = plan.spare1.items;
  gaps = plan.pace.gaps.items;
  holds = plan.pace.holds.items;
  strays = plan.pace.strays.items;
}

-- a text was read as the plan that it spells, unless memory ran out
abbrev pub ReadsPlan : Result FaultPlan PlanError → Result Plan ℕ → Type 0
ReadsPlan (Ok plan) said = said ≡ Ok (lists_of plan)
ReadsPlan (Err (error.BadLine n)) said = said ≡ Err n
ReadsPlan (Err error.NoMemory) said = Unit {0}
