-- Calls of a chip, one after the other, and the calls of its sequencer that they come to.
use Rattle.std.specs.Prelude.{◌≡◌, ℕ, ◌+◌, ◌<◌, Bool, true, false, ◌&&◌, ◌==◌, Option, List, [], ◌∷◌, ◌++◌, unwrap_or}
use Rattle.laws_chip.specs.Common.{resets, ChipState, KeepsChip, passes_by_channel, passes_by_port, GivesChip, ReadsChip, TakesChip, WritesChip, told_chip, value_behind, StepsChip, Busy, Sent}
use Rattle.laws_chip.specs.SectorCalls as behind
use Rattle.laws_chip.specs.SectorLasting as lasting
use Rattle.laws_chip.specs.SectorLasting.{is_under_way}

-- one call, which does one of these things:
-- - a device step passes;
-- - the channel takes a byte or finds none;
-- - the channel gives a byte, which is taken or not;
-- - the channel gives the terminal count;
-- - a port is read, which gives a value, or written;
-- - a medium is put in, taken out or exchanged, its tab is moved, or a drive is put in place of another;
-- - the strap for implied seeks is set or not;
-- - the strap for the time of step pulses is set or not.
pub data Call : Type 0 where
  Steps : Call
  Takes : Option ℕ → Call
  Gives : ℕ → Bool → Call
  Counts : Call
  Reads : ℕ → ℕ → Call
  Writes : ℕ → ℕ → Call
  Changes : Call
  Straps : Bool → Call
  StrapsSteps : Bool → Call

-- what a call does
abbrev pub Does : Call → ChipState → ChipState → Type 0
Does Steps old new = StepsChip old new
Does (Takes byte) old new = TakesChip old byte new
Does (Gives byte was) old new = GivesChip byte old was new
Does Counts old new = new ≡ told_chip old
Does (Reads port value) old new = ReadsChip port old value new
Does (Writes port value) old new = WritesChip port value old new
Does Changes old new = KeepsChip old new
Does (Straps on) old new = new ≡ record old { strapped = on }
Does (StrapsSteps on) old new = new ≡ record old { paced = on }

abbrev pub is_step : Call → Bool
is_step Steps = true
is_step _ = false

-- the call resets the controller, by the byte that it gives to the inner controller
abbrev pub is_reset : Call → Bool
is_reset (Writes port value) = resets port (value_behind port value)
is_reset _ = false

-- what is written is a byte
abbrev pub WritesByte : Call → Type 0
WritesByte (Writes port value) = value < 256
WritesByte _ = Unit {0}

-- these calls, one after the other
abbrev pub AreMade : List Call → ChipState → ChipState → Type 0
AreMade [] old new = new ≡ old
AreMade (made ∷ calls) old new = (between : ChipState) × Does made old between × WritesByte made × AreMade calls between new

-- how many of the calls are device steps
abbrev pub steps_of : Call → ℕ
steps_of Steps = 1
steps_of _ = 0

abbrev pub steps_in : List Call → ℕ
steps_in [] = 0
steps_in (call ∷ calls) = steps_of call + steps_in calls

-- ---- while the sequencer serves a command that was sent

-- the command that was sent is under way in the sequencer
pub record IsServing (chip : ChipState) : Type 0 where
  pub sent : chip.stage ≡ Busy Sent
  pub under_way : is_under_way chip.front.stage ≡ true

abbrev pub only_if : Bool → behind.Call → List behind.Call
only_if true call = call ∷ []
only_if false call = []

-- a read of the data port takes a byte of the command, if its bytes pass there. Any other read is the sequencer's
abbrev pub MakesRead : Bool → ℕ → ℕ → List behind.Call → Type 0
MakesRead true port value calls = (byte : Option ℕ) × (value ≡ unwrap_or byte 0xFF) × (calls ≡ behind.Takes byte ∷ [])
MakesRead false port value calls = calls ≡ behind.Reads port ∷ []

-- a write of the data port gives a byte of the command, if its bytes pass there
abbrev pub MakesWrite : Bool → ℕ → ℕ → List behind.Call → Type 0
MakesWrite true port value calls = (was : Bool) × (calls ≡ behind.Gives value was ∷ [])
MakesWrite false port value calls = calls ≡ behind.Writes port (value_behind port value) ∷ []

-- bytes of the command pass at the data port, and this is that port
abbrev pub is_data_access : ℕ → ChipState → Bool
is_data_access port chip = passes_by_port chip && (port == 0x3F5)

-- the calls of the sequencer that a call comes to: those of the channel where bytes pass by it, and none where a strap
-- is set
abbrev pub Makes : Call → ChipState → List behind.Call → Type 0
Makes Steps old calls = calls ≡ behind.Steps ∷ []
Makes (Takes byte) old calls = calls ≡ only_if (passes_by_channel old) (behind.Takes byte)
Makes (Gives byte was) old calls = calls ≡ only_if (passes_by_channel old) (behind.Gives byte was)
Makes Counts old calls = calls ≡ behind.Counts ∷ []
Makes (Reads port value) old calls = MakesRead (is_data_access port old) port value calls
Makes (Writes port value) old calls = MakesWrite (is_data_access port old) port value calls
Makes Changes old calls = calls ≡ behind.Changes ∷ []
Makes (Straps on) old calls = calls ≡ []
Makes (StrapsSteps on) old calls = calls ≡ []

-- the call is passed on as these calls of the sequencer
pub record IsPassedOn (made : Call) (old new : ChipState) : Type 0 where
  pub calls : List behind.Call
  pub makes : Makes made old calls
  pub within : behind.AreWithin calls old.front new.front

-- these calls, after each of which the command is under way
abbrev pub AreServed : List Call → ChipState → ChipState → Type 0
AreServed [] old new = new ≡ old
AreServed (made ∷ calls) old new = (between : ChipState) × Does made old between × IsServing between × AreServed calls between new

-- the calls of the sequencer that these calls come to, one after the other
abbrev pub MakesAll : (calls : List Call) (old new : ChipState) → AreServed calls old new → List behind.Call → Type 0
MakesAll [] old new same all = all ≡ []
MakesAll (made ∷ calls) old new served all =
    (first : List behind.Call) × (rest : List behind.Call) × Makes made old first × MakesAll calls served.0 new served.3 rest × (all ≡ first ++ rest)

-- the calls are passed on as calls of the sequencer, in as many device steps
pub record ArePassedOn (calls : List Call) (old new : ChipState) (served : AreServed calls old new) : Type 0 where
  pub all : List behind.Call
  pub makes : MakesAll calls old new served all
  pub within : behind.AreWithin all old.front new.front
  pub steps : lasting.steps_in all ≡ steps_in calls
