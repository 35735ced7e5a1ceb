-- Device steps of a controller and what stands in front of it: a sector ends, and the next begins or the host reads
-- results.
use Rattle.std.specs.Prelude.{◌≡◌, ◌≤◌, ℕ, zero, suc, Bool, true, false, not, ◌==◌, ◌&&◌, ◌||◌, Option, Some, None, if◌then◌else◌}
use Rattle.fdc_sequencer.specs.Common.{has_ended_seek, Ending, Results, ending_told, given_up, mark_of, without_seek}
use Rattle.fdc_stages.specs.declared.ending.Ending.TheVariants.{Done, BadCheck, NoCount}
use Rattle.fdc_sequencer.specs.Adapters.{AdapterState, StepsAdapter}
use Rattle.fdc_sequencer.specs.Fronts.{Front, with_controller, told_if, BeginsSector, interrupts_outside, asks_outside}
use Rattle.fdc_sequencer.specs.Transfers.{next_of, is_last, is_other, other_mark, is_skipping, results_told, size_of}
use Rattle.fdc_sequencer.specs.declared.opcode.Operation.{Operation}
use Rattle.fdc_sequencer.specs.declared.stage.Moving.{Moving as MovingSector}
use Rattle.fdc_sequencer.specs.declared.stage.FrontStage.{FrontStage}
use Rattle.fdc_sequencer.specs.declared.stage.FrontStage.TheVariants.{Seeking, Moving, Telling}
use Rattle.fdc_sequencer.specs.declared.transfer.Transfer.{Transfer}

-- ---- the end of a sector

-- a field with the mark that isn't wanted was met, at this sector or before
abbrev pub has_met_other : MovingSector → Bool → Bool
has_met_other moving deleted = moving.passed_over || is_other moving.transfer.opcode.operation deleted

-- the terminal count didn't come, and either the sector had the mark that is wanted, or fields with the other mark are
-- passed over
abbrev pub would_go_on : MovingSector → Bool → Bool
would_go_on moving deleted =
    not moving.counted && (not (is_other moving.transfer.opcode.operation deleted) || is_skipping moving.transfer.opcode.operation)

-- another sector comes after this one
abbrev pub goes_on : MovingSector → Bool → Bool
goes_on moving deleted = would_go_on moving deleted && not (is_last moving.transfer)

-- the results if no sector comes after this one. If only the terminal count was missing, they have EN and the sector ID
-- as it was sent. Otherwise they have the sector ID of the next sector
abbrev pub results_behind : MovingSector → Bool → Results
results_behind moving deleted = let at = moving.transfer in
    if would_go_on moving deleted then results_told NoCount at at.key (has_met_other moving deleted)
    else results_told (Done false) at (next_of at).key (has_met_other moving deleted)

-- a field whose CRC is wrong has this mark, and the mark isn't wanted
abbrev pub is_bad_other : Operation → Ending → Option Bool → Bool
is_bad_other operation BadCheck (Some deleted) = is_other operation deleted
is_bad_other operation _ _ = false

-- a field with the mark that isn't wanted was met before this one, or it is this one, whose CRC is wrong
abbrev pub has_failed_other : Option Bool → MovingSector → Ending → Bool
has_failed_other mark moving ending = moving.passed_over || is_bad_other moving.transfer.opcode.operation ending mark

-- the results of a failure at a field with this mark, with the sector ID as it was sent
abbrev pub results_failed : Option Bool → MovingSector → Ending → Results
results_failed mark moving ending = results_told ending moving.transfer moving.transfer.key (has_failed_other mark moving ending)

abbrev pub EndsIf : Bool → MovingSector → Bool → Front → Front → Type 0
EndsIf true moving deleted old new = BeginsSector (next_of moving.transfer) false (has_met_other moving deleted) old new
EndsIf false moving deleted old new = new ≡ record old { stage = Telling (results_behind moving deleted) }

-- the ending of the controller's own command, as the command of several sectors judges it. A field that is passed over
-- has the mark that isn't wanted, and its CRC doesn't count
abbrev pub judged : MovingSector → Ending → Ending
judged moving BadCheck = if moving.skipped then Done (other_mark moving.transfer.opcode.operation) else BadCheck
judged moving ending = ending

abbrev pub judged_if : MovingSector → Option Ending → Option Ending
judged_if moving None = None
judged_if moving (Some ending) = Some (judged moving ending)

-- what the front does when the controller's own command for a sector has this ending, as it is judged. This mark of the
-- field was known before that
abbrev pub EndsSector : Option Bool → MovingSector → Ending → Front → Front → Type 0
EndsSector mark moving (Done deleted) old new = EndsIf (goes_on moving deleted) moving deleted old new
EndsSector mark moving ending old new = new ≡ record old { stage = Telling (results_failed mark moving ending) }

-- ---- device steps

-- the mark of the field is met before a byte of the field passed, and the mark isn't wanted. Then the field is to be
-- passed over
abbrev pub is_unwanted : MovingSector → Option Bool → Bool
is_unwanted moving None = false
is_unwanted moving (Some deleted) = let operation = moving.transfer.opcode.operation in
    is_skipping operation && (is_other operation deleted && (moving.left == size_of moving.transfer.key.n))

-- the field is passed over: the controller is given the terminal count, and no byte of the field passes
abbrev pub passed_over_if : Bool → MovingSector → Front → Front
passed_over_if true moving old =
    record old { adapter = told_if true old.adapter; stage = Moving (record moving { left = 0; passed_over = true; skipped = true }) }
passed_over_if false moving old = old

-- what the front does after the controller's step, while a sector is moved. The controller's own command has this
-- ending, as it is judged, or it goes on. This mark of the field was known before the step
abbrev pub MovesOn : Option Bool → Option Ending → MovingSector → Front → Front → Type 0
MovesOn mark (Some ending) moving old new =
    EndsSector mark moving ending (record old { adapter = with_controller (given_up old.adapter.controller) old.adapter }) new
MovesOn mark None moving old new = new ≡ passed_over_if (is_unwanted moving (mark_of old.adapter.controller)) moving old

-- what the front does after the controller's step, while the heads seek
abbrev pub SeeksOn : Bool → Transfer → Bool → Front → Front → Type 0
SeeksOn true transfer counted old new =
    BeginsSector transfer counted false (record old { adapter = with_controller (without_seek old.adapter.controller) old.adapter }) new
SeeksOn false transfer counted old new = new ≡ old

-- what the front does after the controller's step, before which this mark of a field was known
abbrev pub FollowsStep : Option Bool → FrontStage → Front → Front → Type 0
FollowsStep mark (Seeking transfer counted) old new = SeeksOn (has_ended_seek old.adapter.controller.seeks) transfer counted old new
FollowsStep mark (Moving moving) old new = MovesOn mark (judged_if moving (ending_told old.adapter.controller)) moving old new
FollowsStep mark _ old new = new ≡ old

-- one device step: that of the adapter, and what the front does after it
pub record StepsFront (old new : Front) : Type 0 where
  pub between : AdapterState
  pub steps : StepsAdapter old.adapter between
  pub follows : FollowsStep (mark_of old.adapter.controller) old.stage (record old { adapter = between }) new

-- ---- many steps

-- these are the interrupt line and the request line
abbrev pub HasLinesOutside : Bool → Bool → Front → Type 0
HasLinesOutside int drq front = (interrupts_outside front ≡ int) × (asks_outside front ≡ drq)

-- a sector is moved, and the device step changes neither this nor DRQ
pub record MovesAlong (old new : Front) : Type 0 where
  pub moving : MovingSector
  pub was : old.stage ≡ Moving moving
  pub is : new.stage ≡ Moving moving
  pub request : asks_outside new ≡ asks_outside old

-- this many such device steps
unfoldable pub LeapsFront : ℕ → Front → Front → Type 0
LeapsFront zero old new = new ≡ old
LeapsFront (suc n) old new = (between : Front) × StepsFront old between × MovesAlong old between × LeapsFront n between new

-- a sector is moved, its command hasn't ended, and no field with the mark that isn't wanted is met
pub record IsUnderWay (front : Front) : Type 0 where
  pub moving : MovingSector
  pub at : front.stage ≡ Moving moving
  pub goes : ending_told front.adapter.controller ≡ None
  pub wanted : is_unwanted moving (mark_of front.adapter.controller) ≡ false

-- this many device steps, each of which begins with these lines
unfoldable pub RunsFrontWith : Bool → Bool → ℕ → Front → Front → Type 0
RunsFrontWith int drq zero old new = new ≡ old
RunsFrontWith int drq (suc n) old new = (between : Front) × RunsFrontWith int drq n old between × HasLinesOutside int drq between × StepsFront between new

-- device steps until a line changes, at most `most`
pub record RunsFront (most : ℕ) (old : Front) (steps : ℕ) (new : Front) : Type 0 where
  pub within : steps ≤ most
  pub runs : RunsFrontWith (interrupts_outside old) (asks_outside old) steps old new
  pub all : HasLinesOutside (interrupts_outside old) (asks_outside old) new → steps ≡ most
