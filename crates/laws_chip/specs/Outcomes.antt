-- What the results of a command of several sectors say.
use Rattle.std.specs.Prelude.{◌≡◌, ◌⊎◌, ℕ, ◌+◌, Bool, true, false, ◌||◌, Option, List, ◌++◌, length, replicate}
use Rattle.laws_chip.specs.Common.{Chrn, IsAddressAt, content_at, content_size, LookAt, Found, IsTurn, Past, FindsSector, Ending, BadCheck, Done, NoCount, WritesWhole, Results, is_bad_other, is_last, is_other, is_skipping, next_of, results_told, Operation, Read, Write, Transfer}
use Rattle.laws_chip.specs.Serving.{HasBadField, History, IsMoved, IsOfSector, IsPassedOver, Means, Part, bytes_moved, has_other, sector_after, sent_of}

-- an intact field of the key, with this mark and this content, in the words of one revolution
pub record HasField (past : Past) (key : Chrn) (marked : Bool) (content : List ℕ) : Type 0 where
  pub turn : List ℕ
  pub p : ℕ
  pub q : ℕ
  pub among : IsTurn past turn
  pub address : IsAddressAt turn p key
  pub finds : LookAt turn p key.n (Found marked (q + 64))
  pub content_is : content ≡ content_at turn (q + 64) key.n

-- what passed of a sector that is over. Of a read it is the content of an intact field of the key, or nothing if the
-- field was passed over, whose CRC may be right or wrong. Of a write it is what the sector's field was written with
abbrev pub PassedWhole : Operation → Part → Type 0
PassedWhole (Read wanted skip) part =
    HasField part.past part.at.key part.marked part.past.given ⊎ IsPassedOver (Read wanted skip) part.past part.at.key part.marked
PassedWhole (Write deleted) part =
    (length part.past.taken ≡ content_size part.at.key.n) × WritesWhole part.past part.at.key deleted part.past.taken

-- a read found the sector with this mark. A write wrote the sector's whole field with the bytes that were taken, and
-- then so many bytes 00
abbrev pub IsFieldWith : Operation → Past → Chrn → Bool → ℕ → Type 0
IsFieldWith (Read _ _) past key marked missing = FindsSector past key past.given marked
IsFieldWith (Write deleted) past key marked missing = WritesWhole past key deleted (past.taken ++ replicate missing 0)

-- the sector was found or written, and so many bytes of it are missing. Or it was passed over
abbrev pub IsMovedBut : Operation → Past → Chrn → Bool → ℕ → Type 0
IsMovedBut operation past key marked missing =
    (IsFieldWith operation past key marked missing × (length (bytes_moved operation past) + missing ≡ content_size key.n))
    ⊎ ((missing ≡ 0) × IsPassedOver operation past key marked)

-- the terminal count came. Or a field of the mark that isn't wanted was moved whole, and such fields aren't passed over
abbrev pub StopsBehind : Operation → Bool → Bool → ℕ → Type 0
StopsBehind operation counted marked missing =
    (counted ≡ true) ⊎ ((is_other operation marked ≡ true) × (is_skipping operation ≡ false) × (missing ≡ 0))

-- IC 00: the last sector was found, or written, or passed over. C, H, R and N are those of the sector that comes after
-- it. CM says whether a field of the mark that isn't wanted was met
pub record EndsWell (operation : Operation) (met counted : Bool) (at : Transfer) (past : Past) (results : Results) : Type 0 where
  pub marked : Bool
  pub missing : ℕ
  pub moved : IsMovedBut operation past at.key marked missing
  pub stops : StopsBehind operation counted marked missing
  pub results_are : results ≡ results_told (Done false) at (next_of at).key (met || is_other operation marked)

-- EN: the last sector of the command was moved as well, and the terminal count didn't come. C, H, R and N are as they
-- were sent
pub record EndsUncounted (operation : Operation) (met counted : Bool) (at : Transfer) (past : Past) (results : Results) : Type 0 where
  pub marked : Bool
  pub moved : IsMoved operation (record { at = at; past = past; marked = marked })
  pub last : is_last at ≡ true
  pub uncounted : counted ≡ false
  pub results_are : results ≡ results_told NoCount at at.key (met || is_other operation marked)

-- the controller's own command failed
abbrev pub IsFailure : Ending → Type 0
IsFailure (Done _) = ⊥
IsFailure NoCount = ⊥
IsFailure _ = Unit {0}

-- a wrong CRC is that of a field with this mark that isn't passed over
abbrev pub IsJudged : Ending → Operation → Past → Chrn → Option Bool → Type 0
IsJudged BadCheck operation past key mark = HasBadField operation past key mark
IsJudged _ operation past key mark = Unit {0}

-- CM says whether a field of the mark that isn't wanted was met before, or whether the field whose CRC is wrong has that
-- mark. After any other failure CM says the first of both, or such a field was just passed over, whose CRC the front
-- doesn't judge
abbrev pub TellsOther : Ending → Operation → Bool → Option Bool → Bool → Type 0
TellsOther BadCheck operation met mark told = told ≡ (met || is_bad_other operation BadCheck mark)
TellsOther _ operation met mark told = (told ≡ met) ⊎ ((told ≡ true) × (is_skipping operation ≡ true))

-- a failure: this is its cause, and whatever passed is of the sector. C, H, R and N are as they were sent
pub record Fails (operation : Operation) (met : Bool) (at : Transfer) (past : Past) (results : Results) : Type 0 where
  pub ending : Ending
  pub fails : IsFailure ending
  pub means : Means operation past (sent_of at) ending
  pub mark : Option Bool
  pub judged : IsJudged ending operation past at.key mark
  pub of_sector : IsOfSector operation past (sent_of at)
  pub told : Bool
  pub other : TellsOther ending operation met mark told
  pub results_are : results ≡ results_told ending at at.key told

abbrev pub EndsSo : Operation → Bool → Bool → Transfer → Past → Results → Type 0
EndsSo operation met counted at past results =
    EndsWell operation met counted at past results ⊎ (EndsUncounted operation met counted at past results ⊎ Fails operation met at past results)

-- these are the results of a command that began at this sector, with this history of what was heard and moved
abbrev pub ResultsSay : Transfer → History → Results → Type 0
ResultsSay first history results =
    let operation = first.opcode.operation in
    EndsSo operation (has_other operation history.parts) history.counted (sector_after (length history.parts) first) history.past results

-- whatever passed of the sector after those that are over is of that sector
abbrev pub PassesOfSector : Transfer → History → Type 0
PassesOfSector first history = IsOfSector first.opcode.operation history.past (sent_of (sector_after (length history.parts) first))
