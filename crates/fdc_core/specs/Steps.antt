-- Device steps.
use Rattle.std.specs.Prelude.{◌≡◌, ◌<◌, ◌≤◌, length, ℕ, ◌+◌, ◌-◌, ◌==◌, Option, Some, None, Bool, true, false, not, ◌&&◌, ◌||◌, if◌then◌else◌}
use Rattle.fdc_core.specs.Common.{DriveState, Becomes, Pulses, passed, with_gate, phase_asks, is_listening, Phase, Execute}
use Rattle.fdc_commands.specs.Seeking.{with_polls, stepped, pulse_due, is_seeking}
use Rattle.fdc_core.specs.State.{is_held}
use Rattle.fdc_core.specs.declared.controller.Fdc.{Fdc}

-- the poll after a reset: INT rises, and each drive has a result. The poll waits while DOR holds the controller in
-- reset
abbrev pub polled : Fdc → Fdc
polled old =
    if old.poll_due && not (is_held old) then record old { poll_due = false; interrupt = true; seeks = with_polls old.seeks }
    else old

-- a seek goes on by a device step, and INT rises where the seek ends
abbrev pub seek_stepped : Bool → Fdc → Fdc
seek_stepped track0 old = record old {
  seeks = stepped old.seeks track0;
  interrupt = old.interrupt || (is_seeking old.seeks && not (is_seeking (stepped old.seeks track0)));
}

abbrev pub RestsIn : Phase → Bool → Fdc → Fdc → Type 0
RestsIn (Execute _) track0 old new = Unit {0}
RestsIn _ track0 old new = new ≡ seek_stepped track0 old

-- outside execution a device step moves only a seek
abbrev pub Rests : Bool → Fdc → Fdc → Type 0
Rests track0 old new = RestsIn old.phase track0 old new

-- one word time in which no word is written: the gate is closed
abbrev pub let_pass : DriveState → DriveState
let_pass drive = passed (with_gate false drive)

-- one word time passes at the drive, after the pulse of a seek. Only the pulse may bring a fault
abbrev pub Moves : Option Bool → DriveState → DriveState → Type 0
Moves None before after = after ≡ let_pass before
Moves (Some inward) before after =
    (between : DriveState) × Pulses inward before between × (after ≡ let_pass between)

-- READ ID and READ DATA let a word time pass and hear a word, in which a fault may come
abbrev pub MovesTask : Bool → DriveState → DriveState → Type 0
MovesTask true before after = Becomes (let_pass before) before after
MovesTask false before after = Unit {0}

abbrev pub MovesIn : Phase → Fdc → DriveState → DriveState → Type 0
MovesIn (Execute execution) fdc before after = MovesTask (is_listening execution.task) before after
MovesIn _ fdc before after = Moves (pulse_due fdc.seeks (before.cylinder == 0)) before after

-- a device step with a drive, but for the commands that write: outside execution a seek gives its pulse
abbrev pub MovesDrive : Fdc → DriveState → DriveState → Type 0
MovesDrive fdc before after = MovesIn fdc.phase fdc before after

-- how many device steps at most are left of a data command in execution: 65,536 when it begins
abbrev pub steps_left : Phase → ℕ
steps_left (Execute execution) = 65536 - execution.steps
steps_left _ = 0

-- the count of a data command in execution is below 65,536
abbrev pub IsCounted : Phase → Type 0
IsCounted (Execute execution) = execution.steps < 65536
IsCounted _ = Unit {0}

-- a device step of a data command leaves fewer device steps
abbrev pub EndsIn : Phase → Phase → Type 0
EndsIn (Execute execution) new = (steps_left new < steps_left (Execute execution)) × IsCounted new
EndsIn _ new = Unit {0}

-- what no device step changes: DOR, the rate, what SPECIFY and CONFIGURE set, the bytes of a command that has begun and
-- the count of data commands. The FIFO gets at most one byte
pub record Stays (old new : Fdc) : Type 0 where
  pub dor : new.dor ≡ old.dor
  pub rate : new.rate ≡ old.rate
  pub non_dma : new.non_dma ≡ old.non_dma
  pub polling : new.polling ≡ old.polling
  pub command : new.command ≡ old.command
  pub data_commands : new.data_commands ≡ old.data_commands
  pub on : new.fifo.on ≡ old.fifo.on
  pub threshold : new.fifo.threshold ≡ old.fifo.threshold
  pub few : length new.fifo.bytes ≤ length old.fifo.bytes + 1

-- in execution DRQ goes by the FIFO's rule
abbrev pub FlowsIn : Phase → Bool → Fdc → Type 0
FlowsIn (Execute _) asking new = new.asking ≡ phase_asks new.phase asking new.fifo
FlowsIn _ asking new = Unit {0}

abbrev pub Ends : Fdc → Fdc → Type 0
Ends old new = EndsIn old.phase new.phase

abbrev pub Flows : Fdc → Fdc → Type 0
Flows old new = FlowsIn old.phase old.asking new
