-- Calls one after the other, within a command of several sectors.
use Rattle.std.specs.Prelude.{◌≡◌, ℕ, Bool, true, false, ◌||◌, ◌&&◌, Option, List, [], ◌∷◌, ◌++◌, flat_map}
use Rattle.laws_chip.specs.Common.{WordTime, IsSizeCode, Command, Results, Front, GivesCommand, GivesFront, GivesTransfer, KeepsFront, TakesFront, WritesFront, is_ready, results_taken, told_front, StepsFront, Through, Transfer}
use Rattle.laws_chip.specs.Outcomes.{PassesOfSector, ResultsSay}
use Rattle.laws_chip.specs.Serving.{AreMoved, History, Passes, Serves, all_bytes, hears_count, history_counted, history_given, history_stepped, history_taken, nothing_moved, passed_in, passed_out}

-- one call, which does one of these things:
-- - a device step passes;
-- - the channel takes a byte or finds none;
-- - the channel gives a byte, which is taken or not;
-- - the channel gives the terminal count;
-- - a port is read, or written;
-- - a medium is put in or taken out;
-- - a command is given to the controller, or one of several sectors is started;
-- - the results of a command are taken.
pub data Call : Type 0 where
  Steps : Call
  Takes : Option ℕ → Call
  Gives : ℕ → Bool → Call
  Counts : Call
  Reads : ℕ → Call
  Writes : ℕ → ℕ → Call
  Changes : Call
  Commands : Command → Call
  Transfers : Transfer → Call
  Ends : Call

-- what a call does
abbrev pub Does : Call → Front → Front → Type 0
Does Steps old new = StepsFront old new
Does (Takes byte) old new = TakesFront old byte new
Does (Gives byte was) old new = GivesFront byte old was new
Does Counts old new = new ≡ told_front old
Does (Reads port) old new = new ≡ old
Does (Writes port value) old new = WritesFront port value old new
Does Changes old new = KeepsFront old new
Does (Commands command) old new = GivesCommand command old new
Does (Transfers transfer) old new = GivesTransfer transfer old new
Does Ends old new = new ≡ results_taken old

-- the byte that passed in a call
abbrev pub passed_by : Call → List ℕ
passed_by (Takes byte) = passed_out byte
passed_by (Gives byte was) = passed_in was byte
passed_by _ = []

abbrev pub passed_in_all : List Call → List ℕ
passed_in_all calls = flat_map passed_by calls

-- the call gives the terminal count
abbrev pub is_count : Call → Bool
is_count Counts = true
is_count _ = false

-- these calls, after none of which each access is the controller's again
abbrev pub AreWithin : List Call → Front → Front → Type 0
AreWithin [] old new = new ≡ old
AreWithin (call ∷ calls) old new =
    (between : Front) × Does call old between × (between.stage ≡ Through → ⊥) × AreWithin calls between new

-- what a call adds to what was heard and moved: a device step adds the word that the drive gave, or that was written
abbrev pub Grows : (call : Call) (old new : Front) → Does call old new → History → History → Type 0
Grows Steps old new step was now =
    (time : WordTime) × Passes old.stage time old.adapter step.between × (now ≡ history_stepped old.stage time step.between.controller was)
Grows (Takes byte) old new does was now = now ≡ history_taken old.stage byte was
Grows (Gives byte given) old new does was now = now ≡ history_given old.stage byte given was
Grows Counts old new does was now = now ≡ history_counted old.stage was
Grows _ old new does was now = now ≡ was

-- what all of the calls add, one after the other. Each call stands between the fronts before and after it
abbrev pub Gather : (calls : List Call) (old new : Front) → AreWithin calls old new → History → History → Type 0
Gather [] old new same was now = now ≡ was
Gather (call ∷ calls) old new within was now =
    (grown : History) × Grows call old within.0 within.1 was grown × Gather calls within.0 new within.3 grown now

-- the terminal count was heard in one of them
abbrev pub is_counted : (calls : List Call) (old new : Front) → AreWithin calls old new → Bool
is_counted [] old new same = false
is_counted (call ∷ calls) old new within = (is_count call && hears_count old.stage) || is_counted calls within.0 new within.3

-- after these calls the command is served, with the history here. This history is the old one with what the calls added
-- to it. The bytes that passed in the calls come after those that had passed before. The terminal count has come if it
-- had come before, or if it was heard in one of these calls
pub record Behind (first : Transfer) (old : History) (calls : List Call) (start front : Front) (within : AreWithin calls start front) : Type 0 where
  pub history : History
  pub gather : Gather calls start front within old history
  pub serves : Serves first history front
  pub bytes : all_bytes first.opcode.operation history ≡ all_bytes first.opcode.operation old ++ passed_in_all calls
  pub told : history.counted ≡ (old.counted || is_counted calls start front within)

-- what passed between the beginning of a command and these results. The history is what the calls added, one after the
-- other, to an empty one. The bytes that passed are those of the command's sectors, in order, each of which was moved.
-- The results say of the sectors what `ResultsSay` has. The bytes of the last sector are of that sector. The terminal
-- count has come if it was heard in one of the calls
pub record Served (first : Transfer) (calls : List Call) (begun end : Front) (within : AreWithin calls begun end) (results : Results) : Type 0 where
  pub history : History
  pub gather : Gather calls begun end within (nothing_moved false) history
  pub bytes : passed_in_all calls ≡ all_bytes first.opcode.operation history
  pub moved : AreMoved first.opcode.operation first history.parts
  pub say : ResultsSay first history results
  pub of_sector : PassesOfSector first history
  pub told : history.counted ≡ is_counted calls begun end within

-- a command of several sectors is given where one may be given, and isn't refused. It begins at this sector, with an
-- implied seek or without one. A seek begins whatever the size code is, so the code is valid here
pub record Begins (first : Transfer) (start begun : Front) : Type 0 where
  pub ready : is_ready start ≡ true
  pub sized : first.seeks ≡ true → IsSizeCode first.key.n
  pub gives : GivesTransfer first start begun
  pub stays : begun.stage ≡ Through → ⊥
