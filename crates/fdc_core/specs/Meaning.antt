-- What the results of READ DATA and READ ID say of the words heard.
use Rattle.std.specs.Prelude.{◌≡◌, ℕ, Bool, true, false, not, List, ◌++◌, length, None, Some}
use Rattle.fdc_core.specs.Common.{content_size, Past, words_heard, HasFewTurns, IsToldOf, Ending, Done, NoMark, NoSector, NoField, BadCheck, Overrun, NoCount, Protected, Late, Chrn, results_of, Sent, results_sent, key_met, is_over, Long, Phase, Execute, Result, Task, ReadId, Read}
use Rattle.fdc_stages.specs.Findings.{IsFoundAt, FindsSector, FindsBadCheck, FindsNoField, FindsNoMark, FindsNoSector, HasAddress}
use Rattle.fdc_core.specs.declared.controller.Fdc.{Fdc}

-- ---- READ DATA

-- the sector was found whole and given whole, and the terminal count didn't come
abbrev pub FindsUncounted : Past → Chrn → List ℕ → Type 0
FindsUncounted past key given =
    (past.counted ≡ false) × (length given ≡ content_size key.n)
    × ((deleted : Bool) × (turn : List ℕ) × (p : ℕ) × (q : ℕ) × IsFoundAt past key given deleted turn p q)

-- what each ending says. IC 00: the sector was found with this mark and its content was given, where as many bytes as
-- the size were given. The other endings are MA without MD, ND, MA with MD, DE, OR and EN
abbrev pub ReadMeans : Past → Sent → Ending → Type 0
ReadMeans past sent (Done deleted) = FindsSector past sent.key past.given deleted
ReadMeans past sent NoMark = FindsNoMark past
ReadMeans past sent NoSector = FindsNoSector past (Some sent.key)
ReadMeans past sent NoField = FindsNoField past sent.key
ReadMeans past sent BadCheck = FindsBadCheck past sent.key
ReadMeans past sent Overrun = past.counted ≡ false
ReadMeans past sent NoCount = FindsUncounted past sent.key past.given
ReadMeans past sent Late = past.steps ≡ 65536
ReadMeans past sent Protected = ⊥

abbrev pub ReadMeansIn : Past → Sent → Phase → Type 0
ReadMeansIn past sent (Result (Long ending results _)) = (results ≡ results_sent ending sent) × ReadMeans past sent ending
ReadMeansIn past sent _ = Unit {0}

-- the results of a READ DATA are those of an ending, and what this ending says holds
abbrev pub ReadTells : Past → Sent → Fdc → Type 0
ReadTells past sent fdc = ReadMeansIn past sent fdc.phase

-- the bytes are the first of those that follow a data mark of an address field of the key, in the words of one
-- revolution
abbrev pub AreOfField : Past → Chrn → List ℕ → Type 0
AreOfField past key bytes = (told : List ℕ) × IsToldOf past key told × ((rest : List ℕ) × (told ≡ bytes ++ rest))

-- the bytes that were given, and in execution after them the bytes in the FIFO
abbrev pub bytes_held : Phase → Past → List ℕ → List ℕ
bytes_held (Execute _) past fifo = past.given ++ fifo
bytes_held _ past fifo = past.given

abbrev pub ReadGives : Past → Sent → Fdc → Type 0
ReadGives past sent fdc = AreOfField past sent.key (bytes_held fdc.phase past fdc.fifo.bytes)

-- ---- READ ID

-- what each ending says. IC 00: the key is that of an address field. The other endings are MA and ND
abbrev pub IdMeans : Past → Chrn → Ending → Type 0
IdMeans past key (Done deleted) = HasAddress past key
IdMeans past key NoMark = FindsNoMark past
IdMeans past key NoSector = FindsNoSector past None
IdMeans past key Late = past.steps ≡ 65536
IdMeans past key _ = ⊥

abbrev pub IdMeansIn : Past → ℕ → Phase → Type 0
IdMeansIn past sent (Result (Long ending results _)) =
    (results ≡ results_of ending sent (key_met ending results.key)) × IdMeans past results.key ending
IdMeansIn past sent _ = Unit {0}

abbrev pub IdTells : Past → ℕ → Fdc → Type 0
IdTells past sent fdc = IdMeansIn past sent fdc.phase

-- ---- how long they listen

-- the address field or the data field is still to come or to end
abbrev pub is_hearing : Task → Bool
is_hearing (ReadId _) = true
is_hearing (Read reading) = not (is_over reading.stage)
is_hearing _ = false

-- each device step heard a word, and until the field is over one index has passed at most
pub record IsPaced (past : Past) (steps : ℕ) (hearing : Bool) : Type 0 where
  pub steps_are : past.steps ≡ steps
  pub heard_are : words_heard past ≡ steps
  pub few : hearing ≡ true → HasFewTurns past

abbrev pub PacedIn : Past → Phase → Type 0
PacedIn past (Execute execution) = IsPaced past execution.steps (is_hearing execution.task)
PacedIn past _ = Unit {0}

abbrev pub Paced : Past → Fdc → Type 0
Paced past fdc = PacedIn past fdc.phase
