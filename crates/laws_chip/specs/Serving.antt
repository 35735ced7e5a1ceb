-- What a command of several sectors means: the bytes that pass are, in order, those of its sectors. Each sector is
-- found in the words of its own search.
use Rattle.std.specs.Prelude.{◌≡◌, ◌≤◌, ◌⊎◌, ℕ, zero, suc, ◌+◌, ◌-◌, Bool, true, false, ◌||◌, ◌==◌, Option, None, Some, List, [], ◌∷◌, ◌++◌, length, flat_map}
use Rattle.std.specs.List.{list_any}
use Rattle.laws_chip.specs.Common.{Chrn, IsAddressAt, IsSizeCode, content_size, HasDataField, IsIntact, IsTurn, Past, new_past, FindsSector, Ending, BadCheck, Done, WritesWhole, Results, head_of, took, WordTime, Saw, KeptOut, Wrote, Stopped, IsTime, after_time, has_ended_seek, seek_bits, AdapterState, selected_at, WriteMeans, WritesWindow, Fdc, Result, Front, StepsFront, goes_on, is_unwanted, judged_if, results_behind, results_failed, next_of, is_other, is_skipping, Operation, Read, Write, FrontStage, Through, Seeking, Moving, Telling, Transfer}
use Rattle.fdc_core.specs.Heard.{MayRead}
use Rattle.fdc_phases.specs.Heard.{Sent, gave, results_sent, told_in}
use Rattle.fdc_core.specs.Listening.{is_executing}
use Rattle.fdc_core.specs.Meaning.{AreOfField, ReadMeans}
use Rattle.fdc_core.specs.Whole.{ending_told, mark_of}
use Rattle.fdc_core.specs.Written.{MayWrite}
use Rattle.fdc_phases.specs.declared.answers.Answer.TheVariants.{Short}
use Rattle.fdc_sequencer.specs.declared.stage.Moving.{Moving as MovingSector}

-- ---- the controller's own command for a sector

-- what the controller's own command sends
abbrev pub sent_of : Transfer → Sent
sent_of at = record { head_drive = at.head_drive; key = at.key; last_sector = at.last_sector }

-- the controller's own command is in execution, or its results are given, and this is what it heard and moved
abbrev pub MayMove : Operation → Past → Sent → Fdc → Type 0
MayMove (Read _ _) past sent fdc = MayRead past sent fdc
MayMove (Write deleted) past sent fdc = MayWrite past sent deleted fdc

-- the bytes that passed: those that a read gave, or those that a write took
abbrev pub bytes_moved : Operation → Past → List ℕ
bytes_moved (Read _ _) past = past.given
bytes_moved (Write _) past = past.taken

-- whatever passed is of its sector. The bytes that a read gave are the first ones after a data mark of an address field
-- of the key. The words that a write wrote are the first of the window of such an address field, with what was taken as
-- its content
abbrev pub IsOfSector : Operation → Past → Sent → Type 0
IsOfSector (Read _ _) past sent = AreOfField past sent.key past.given
IsOfSector (Write deleted) past sent = WritesWindow past sent deleted

-- what the ending of the command says of the words heard and written
abbrev pub Means : Operation → Past → Sent → Ending → Type 0
Means (Read _ _) past sent ending = ReadMeans past sent ending
Means (Write deleted) past sent ending = WriteMeans past sent deleted ending (results_sent ending sent)

-- ---- fields that a read heard

-- a revolution has an address field of the key at p, and its data field at q, with this mark
pub record HasFieldIn (past : Past) (key : Chrn) (marked : Bool) (turn : List ℕ) (p q : ℕ) : Type 0 where
  pub among : IsTurn past turn
  pub address : IsAddressAt turn p key
  pub field : HasDataField turn p key.n q marked

-- some revolution has such a field, whether the CRC of its data field is right or not
abbrev pub FindsField : Past → Chrn → Bool → Type 0
FindsField past key marked = (turn : List ℕ) × (p : ℕ) × (q : ℕ) × HasFieldIn past key marked turn p q

-- some revolution has such a field, and the data field isn't whole
abbrev pub FindsBadField : Past → Chrn → Bool → Type 0
FindsBadField past key marked =
    (turn : List ℕ) × (p : ℕ) × (q : ℕ) × HasFieldIn past key marked turn p q × (IsIntact turn q key.n → ⊥)

-- ---- sectors that are over

-- a sector that is over: the command as it stood there, what its own search heard and moved, and the mark of its field
pub record Part : Type 0 where
  pub at : Transfer
  pub past : Past
  pub marked : Bool

-- a read found the sector with this mark. What it gave is the sector's content, if it gave as many bytes as the
-- sector's size. A write wrote the sector's whole field with the bytes that were taken
abbrev pub IsWholeField : Operation → Past → Chrn → Bool → Type 0
IsWholeField (Read _ _) past key marked = FindsSector past key past.given marked
IsWholeField (Write deleted) past key marked = WritesWhole past key deleted past.taken

-- all bytes of a field passed, and its mark is wanted
pub record IsMovedWhole (operation : Operation) (part : Part) : Type 0 where
  pub field : IsWholeField operation part.past part.at.key part.marked
  pub wanted : is_other operation part.marked ≡ false
  pub all : length (bytes_moved operation part.past) ≡ content_size part.at.key.n

-- no byte passed of a field with the other mark, and such fields are passed over. The field was found, its CRC right or
-- wrong, and the controller was given the terminal count
pub record IsPassedOver (operation : Operation) (past : Past) (key : Chrn) (marked : Bool) : Type 0 where
  pub skips : is_skipping operation ≡ true
  pub other : is_other operation marked ≡ true
  pub found : FindsField past key marked
  pub counted : past.counted ≡ true
  pub none : bytes_moved operation past ≡ []

abbrev pub IsMoved : Operation → Part → Type 0
IsMoved operation part = IsMovedWhole operation part ⊎ IsPassedOver operation part.past part.at.key part.marked

-- the sectors from the first on, one after the other, and each was moved
abbrev pub AreMoved : Operation → Transfer → List Part → Type 0
AreMoved operation first [] = Unit {0}
AreMoved operation first (part ∷ parts) = (part.at ≡ first) × IsMoved operation part × AreMoved operation (next_of first) parts

-- the sector after so many sectors
abbrev pub sector_after : ℕ → Transfer → Transfer
sector_after zero first = first
sector_after (suc n) first = sector_after n (next_of first)

-- one of the fields had the mark that isn't wanted
abbrev pub has_other : Operation → List Part → Bool
has_other operation parts = list_any (λ part. is_other operation part.marked) parts

-- ---- the sector under way

-- the field of the sector has the mark that isn't wanted
abbrev pub IsOfOther : Operation → Option Bool → Type 0
IsOfOther operation mark = (marked : Bool) × (mark ≡ Some marked) × (is_other operation marked ≡ true)

-- either so many bytes of the sector passed, and so many are left. Or none passed and none is left, because the
-- sector's field is passed over. What is remembered of fields of the other mark is whether one was met, here or before
abbrev pub AreLeft : Operation → Bool → MovingSector → Option Bool → List ℕ → Type 0
AreLeft operation met moving mark bytes =
    ((moving.skipped ≡ false) × (moving.passed_over ≡ met) × (length bytes + moving.left ≡ content_size moving.transfer.key.n))
    ⊎ ((moving.skipped ≡ true) × (moving.passed_over ≡ true) × (is_skipping operation ≡ true) × IsOfOther operation mark × (moving.left ≡ 0)
    × (bytes ≡ []))

-- what is left of the sector. `met` says whether a sector before it met the other mark. The mark of its own field may
-- be known or not
pub record Accounts (operation : Operation) (met : Bool) (moving : MovingSector) (past : Past) (mark : Option Bool) : Type 0 where
  pub sized : IsSizeCode moving.transfer.key.n
  pub bytes : AreLeft operation met moving mark (bytes_moved operation past)
  -- if fields of the other mark are passed over, no byte of such a field passes
  pub clean : is_skipping operation ≡ true → IsOfOther operation mark → bytes_moved operation past ≡ []
  -- the controller was given the terminal count if the command was, or if nothing is left
  pub told : past.counted ≡ (moving.counted || (moving.left == 0))

-- no seek bit is set, and SPECIFY didn't set ND. A command for a sector is then executed
pub record IsFree (fdc : Fdc) : Type 0 where
  pub rests : seek_bits fdc.seeks ≡ 0
  pub by_dma : fdc.non_dma ≡ false

-- the controller executes its own command for the sector, and is free for the next one
pub record Carries (operation : Operation) (met : Bool) (moving : MovingSector) (past : Past) (fdc : Fdc) : Type 0 where
  pub moves : MayMove operation past (sent_of moving.transfer) fdc
  pub busy : is_executing fdc.phase ≡ true
  pub free : IsFree fdc
  pub accounts : Accounts operation met moving past (mark_of fdc)
  pub passes : is_skipping operation ≡ true → IsOfOther operation (mark_of fdc) → moving.left ≡ 0

-- ---- how the command ends

-- with this mark a field is done. A field that is passed over was found. Of any other the controller's ending says that
-- it was done
abbrev pub IsFieldDone : Bool → Operation → Past → Sent → Bool → Type 0
IsFieldDone true operation past sent marked = FindsField past sent.key marked
IsFieldDone false operation past sent marked = Means operation past sent (Done marked)

-- a field that isn't whole has this mark. The mark is wanted, or fields without the wanted mark aren't passed over
abbrev pub HasBadField : Operation → Past → Chrn → Option Bool → Type 0
HasBadField (Read wanted skip) past key mark =
    (marked : Bool) × (mark ≡ Some marked) × FindsBadField past key marked × (skip ≡ true → is_other (Read wanted skip) marked ≡ false)
HasBadField (Write deleted) past key mark = Unit {0}

-- what an ending says, as the front judges it, of a sector whose field is passed over or isn't, and has this mark
abbrev pub MeansJudged : Ending → Bool → Operation → Past → Sent → Option Bool → Type 0
MeansJudged (Done marked) skipped operation past sent mark = IsFieldDone skipped operation past sent marked
MeansJudged BadCheck skipped operation past sent mark =
    (skipped ≡ false) × Means operation past sent BadCheck × HasBadField operation past sent.key mark
MeansJudged ending skipped operation past sent mark = Means operation past sent ending

-- no sector comes after this one
abbrev pub IsLastOne : MovingSector → Ending → Type 0
IsLastOne moving (Done marked) = goes_on moving marked ≡ false
IsLastOne moving _ = Unit {0}

-- the mark that the ending reports
abbrev pub IsMarkOf : Ending → Option Bool → Type 0
IsMarkOf (Done marked) mark = mark ≡ Some marked
IsMarkOf _ mark = Unit {0}

-- the results of a sector that ended in this way, and whose field has this mark
abbrev pub results_ended : Option Bool → MovingSector → Ending → Results
results_ended mark moving (Done marked) = results_behind moving marked
results_ended mark moving ending = results_failed mark moving ending

-- the command ended at this sector, because the controller's own command for it ended in this way, as the front judges
-- it
pub record Ends (operation : Operation) (met told : Bool) (at : Transfer) (past : Past) (results : Results) : Type 0 where
  pub moving : MovingSector
  pub here : moving.transfer ≡ at
  pub counted : moving.counted ≡ told
  pub ending : Ending
  pub mark : Option Bool
  pub means : MeansJudged ending moving.skipped operation past (sent_of at) mark
  pub last : IsLastOne moving ending
  pub marked : IsMarkOf ending mark
  pub accounts : Accounts operation met moving past mark
  pub of_sector : IsOfSector operation past (sent_of at)
  pub results_are : results ≡ results_ended mark moving ending

-- ---- the whole command

-- the sectors that are over, in order; what was heard and moved of the sector after them; and whether the terminal
-- count came
pub record History : Type 0 where
  pub parts : List Part
  pub past : Past
  pub counted : Bool

-- a command of which nothing has passed
abbrev pub nothing_moved : Bool → History
nothing_moved counted = record { parts = []; past = new_past; counted = counted }

-- all bytes that passed, in order
abbrev pub bytes_of_parts : Operation → List Part → List ℕ
bytes_of_parts operation parts = flat_map (λ part. bytes_moved operation part.past) parts

abbrev pub all_bytes : Operation → History → List ℕ
all_bytes operation history = bytes_of_parts operation history.parts ++ bytes_moved operation history.past

-- while the heads seek nothing has passed. After that the sectors that are over were moved. The one after them is under
-- way, or the command ended there
abbrev pub ServesAt : FrontStage → Transfer → History → Fdc → Type 0
ServesAt (Seeking at counted) first history fdc = (at ≡ first) × (history ≡ nothing_moved counted)
ServesAt (Moving moving) first history fdc =
    (moving.transfer ≡ sector_after (length history.parts) first) × (moving.counted ≡ history.counted)
    × Carries first.opcode.operation (has_other first.opcode.operation history.parts) moving history.past fdc
ServesAt (Telling results) first history fdc =
    Ends first.opcode.operation (has_other first.opcode.operation history.parts) history.counted (sector_after (length history.parts) first) history.past results
ServesAt _ first history fdc = ⊥

-- a command that began at this sector is served, or its results are given, and this is what it heard and moved. The
-- sector's size code is valid
pub record Serves (first : Transfer) (history : History) (front : Front) : Type 0 where
  pub sized : IsSizeCode first.key.n
  pub parts : AreMoved first.opcode.operation first history.parts
  pub now : ServesAt front.stage first history front.adapter.controller

-- ---- what a call adds

-- where no drive is selected words 0000 are heard, without an index, and no word is written
abbrev pub IsNowhere : WordTime → Type 0
IsNowhere (Saw index word) = (index ≡ false) × (word ≡ 0)
IsNowhere (KeptOut index word) = (index ≡ false) × (word ≡ 0)
IsNowhere (Wrote opened closed index word) = ⊥
IsNowhere Stopped = Unit {0}

-- a step in which no word is heard or written is one in which the controller's own command ended
abbrev pub StopsAtEnd : WordTime → Fdc → Type 0
StopsAtEnd Stopped fdc = (ending : Ending) × (ending_told fdc ≡ Some ending)
StopsAtEnd _ fdc = Unit {0}

-- what the selected drive did in a device step, at the controller's rate and under this head: it gave a word, or took
-- one
pub record PassesAt (selected head : ℕ) (time : WordTime) (old new : AdapterState) : Type 0 where
  pub at_first : selected ≡ 0 → IsTime time old.controller.rate head old.first new.first × StopsAtEnd time new.controller
  pub at_second : selected ≡ 1 → IsTime time old.controller.rate head old.second new.second × StopsAtEnd time new.controller
  pub at_none : 2 ≤ selected → IsNowhere time

-- a read hears a word in each step
abbrev pub IsTimeOf : Operation → WordTime → Type 0
IsTimeOf (Read _ _) (Saw index word) = Unit {0}
IsTimeOf (Read _ _) time = ⊥
IsTimeOf (Write _) time = Unit {0}

-- while a sector is moved, the word time passes under the sector's head
abbrev pub Passes : FrontStage → WordTime → AdapterState → AdapterState → Type 0
Passes (Moving moving) time old new =
    IsTimeOf moving.transfer.opcode.operation time × PassesAt (selected_at old) (head_of moving.transfer.head_drive) time old new
Passes _ time old new = Unit {0}

-- the sector was moved with this mark. Either the next one begins, or none does
abbrev pub history_ended : Bool → Transfer → Bool → Past → History → History
history_ended true at marked past old =
    record { parts = old.parts ++ record { at = at; past = past; marked = marked } ∷ []; past = new_past; counted = false }
history_ended false at marked past old = record old { past = past }

-- what is known after a device step of a sector: the controller's own command ended in this way, as the front judges
-- it. Or a field that isn't wanted is passed over, or the command goes on
abbrev pub history_moved : Option Ending → MovingSector → Option Bool → Past → History → History
history_moved (Some (Done marked)) moving mark past old = history_ended (goes_on moving marked) moving.transfer marked past old
history_moved (Some _) moving mark past old = record old { past = past }
history_moved None moving mark past old = record old { past = told_in (is_unwanted moving mark) past }

-- the heads came to the command's cylinder, and the first sector begins. Or they didn't come there
abbrev pub history_sought : Bool → Bool → History → History
history_sought true counted old = record old { past = told_in counted new_past }
history_sought false counted old = old

-- the history after a device step in which this passed, and which left the controller in this state
abbrev pub history_stepped : FrontStage → WordTime → Fdc → History → History
history_stepped (Seeking at counted) time fdc old = history_sought (has_ended_seek fdc.seeks) counted old
history_stepped (Moving moving) time fdc old =
    history_moved (judged_if moving (ending_told fdc)) moving (mark_of fdc) (after_time time old.past) old
history_stepped _ time fdc old = old

-- the history after a byte. With the last byte of a sector the controller is given the terminal count
abbrev pub history_passed : MovingSector → Past → History → History
history_passed moving past old = record old { past = told_in (moving.left - 1 == 0) past }

abbrev pub history_taken : FrontStage → Option ℕ → History → History
history_taken (Moving moving) (Some byte) old = history_passed moving (gave byte old.past) old
history_taken _ _ old = old

abbrev pub history_given : FrontStage → ℕ → Bool → History → History
history_given (Moving moving) byte true old = history_passed moving (took byte old.past) old
history_given _ _ _ old = old

-- the history after the terminal count, if it is heard
abbrev pub history_counted : FrontStage → History → History
history_counted (Seeking _ _) old = record old { counted = true }
history_counted (Moving _) old = record old { past = told_in true old.past; counted = true }
history_counted _ old = old

-- ---- what a call leaves of it

-- the command is still served, with the history here of what it heard and moved. The bytes that passed in the call come
-- after those that had passed before. The terminal count has come if it had come before, or if it came in this call
abbrev pub GoesOn : List ℕ → Bool → Transfer → History → History → Front → Type 0
GoesOn passed told first old history front =
    (all_bytes first.opcode.operation history ≡ all_bytes first.opcode.operation old ++ passed)
    × (history.counted ≡ (old.counted || told)) × Serves first history front

-- whatever command was served still is. These bytes passed, and the history has grown in this way
abbrev pub KeepsServing : List ℕ → (History → History) → Front → Front → Type 0
KeepsServing passed grown old new =
    (first : Transfer) (history : History) → Serves first history old → GoesOn passed false first history (grown history) new

-- the terminal count is heard until results are given
abbrev pub hears_count : FrontStage → Bool
hears_count (Seeking _ _) = true
hears_count (Moving _) = true
hears_count _ = false

-- whatever command was served still is, and the terminal count came, if it is heard
abbrev pub ServesCounted : Front → Front → Type 0
ServesCounted old new =
    (first : Transfer) (history : History) → Serves first history old
    → GoesOn [] (hears_count old.stage) first history (history_counted old.stage history) new

-- the controller answers 80 in place of a command for the sector
pub record IsRefused (front : Front) : Type 0 where
  pub through : front.stage ≡ Through
  pub answer_is : front.adapter.controller.phase ≡ Result (Short 0x80 None)

-- the heads seek, before the first sector
abbrev pub still_seeks : FrontStage → Bool
still_seeks (Seeking _ _) = true
still_seeks _ = false

-- the first sector is refused once the heads came to its cylinder, because SPECIFY set ND
pub record RefusesFirst (old new : Front) : Type 0 where
  pub seeks : still_seeks old.stage ≡ true
  pub non_dma : old.adapter.controller.non_dma ≡ true
  pub refused : IsRefused new

-- this passed under the head in a device step, and it is added to what was heard and moved. No byte passed
pub record StepsTo (first : Transfer) (history : History) (old : Front) (between : AdapterState) (new : Front) : Type 0 where
  pub time : WordTime
  pub passes : Passes old.stage time old.adapter between
  pub goes : GoesOn [] false first history (history_stepped old.stage time between.controller history) new

-- whatever command was served still is, with what passed in this step. Or its first sector is refused
abbrev pub ServesStep : (old new : Front) → StepsFront old new → Type 0
ServesStep old new step = (first : Transfer) (history : History) → Serves first history old → StepsTo first history old step.between new ⊎ RefusesFirst old new

-- results wait
abbrev pub has_results : FrontStage → Bool
has_results (Telling _) = true
has_results _ = false

-- either each access is the controller's again. Or whatever command was served still is, and no byte passed
abbrev pub ServesUnless : Bool → Front → Front → Type 0
ServesUnless true old new = new.stage ≡ Through
ServesUnless false old new = KeepsServing [] (λ history. history) old new

-- the byte that passed, if one did
abbrev pub passed_out : Option ℕ → List ℕ
passed_out None = []
passed_out (Some byte) = byte ∷ []

abbrev pub passed_in : Bool → ℕ → List ℕ
passed_in true byte = byte ∷ []
passed_in false byte = []

-- a command that is given is served from then on, and nothing has passed. Or it is refused
abbrev pub BeginsServing : Transfer → Front → Type 0
BeginsServing first new = Serves first (nothing_moved false) new ⊎ IsRefused new
