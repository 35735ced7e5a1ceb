-- Calls on a desk for sectors.
use Rattle.std.specs.Prelude.{◌≡◌, ◌==◌, ◌&&◌, nat_le, ℕ, Bool, List, length, take, drop, Option, None, Some, Result, Ok, Err, MatchBool, MatchOption, MatchResult, if◌then◌else◌}
use Rattle.c_slots.specs.Disks.{DeskValue}
use Rattle.telwyddus_c.specs.Common.{TrayValue, Rate, Disk, is_size_code, content_size}
use Rattle.flop_base.specs.Standard.{gap_at, standard_fill}
use Rattle.flop_base.specs.declared.answers.Code.{Code}
use Rattle.flop_base.specs.declared.answers.Code.TheVariants.{BadRequest, NoMark, Protected, NotFound, Changed, Overrun, Page, BadCrc, Seek, NotReady}
use Rattle.flop_base.specs.declared.key.Chrn.{Chrn}
use Rattle.sector_desk.specs.Desks.{station_of}
use Rattle.sector_desk.specs.Quiet.{IsCalm}
use Rattle.sector_desk.specs.Sectors.{ReadsSector, WritesSector}
use Rattle.sector_model.specs.Calls.{Acks, Ejects, Inserts, RatesTo}
use Rattle.sector_model.specs.Formats.{FormatsTo}
use Rattle.sector_model.specs.Stations.{IsFresh, bay_of}
use Rattle.telwyddus_c.specs.Rates.{rate_named}
use Rattle.telwyddus_c.specs.Slots.{FullOr}

-- two empty bays
abbrev pub IsBareDesk : DeskValue → Type 0
IsBareDesk desk = IsFresh (station_of desk)

-- ---- ---- the codes of the driver's answers

abbrev pub refusal_code : Code → ℕ
refusal_code BadRequest = 4
refusal_code Page = 4
refusal_code NotReady = 13
refusal_code Changed = 14
refusal_code Protected = 15
refusal_code NoMark = 16
refusal_code NotFound = 17
refusal_code BadCrc = 18
refusal_code Overrun = 19
refusal_code Seek = 20

abbrev pub answer_code : {A : Type 0} → Result A Code → ℕ
answer_code (Ok _) = 0
answer_code (Err code) = refusal_code code

-- ---- media

-- the medium of a tray goes into a bay: code 0. If the bay has one in, 6, or if the tray has none, 7, the tray stays as
-- it was
abbrev pub PutsInto : (bay code : ℕ) → TrayValue → TrayValue → DeskValue → DeskValue → Type 0
PutsInto bay code tray left old new =
    MatchBool (code == 0) ((disk : Disk) × (tray.medium ≡ Some disk) × (left.medium ≡ None) × Inserts bay disk (station_of old) (Ok tt) (station_of new))
    (MatchBool (code == 6) ((disk : Disk) × (tray.medium ≡ Some disk) × (left ≡ tray) × Inserts bay disk (station_of old) (Err disk) (station_of new))
    (MatchBool (code == 7) ((tray.medium ≡ None) × (left ≡ tray) × (new ≡ old)) ⊥))

-- the medium goes from the slot of a tray into a bay. If the slot holds no tray, the code is 7
abbrev pub InsertsFrom : (bay code : ℕ) → Option TrayValue → Option TrayValue → DeskValue → DeskValue → Type 0
InsertsFrom bay code None left old new = (code ≡ 7) × (left ≡ None) × (new ≡ old)
InsertsFrom bay code (Some tray) left old new = (kept : TrayValue) × (left ≡ Some kept) × PutsInto bay code tray kept old new

-- the medium of a bay goes into a new tray. By the code of the call:
-- - 0: the tray is made;
-- - 2: the slot holds a tray already;
-- - 3: memory is out;
-- - 7: the bay has no medium in.
-- after every code but 0 the slot stays as it was
abbrev pub EjectsInto : (bay code : ℕ) → Option TrayValue → Option TrayValue → DeskValue → DeskValue → Type 0
EjectsInto bay code tray left old new =
    FullOr code tray left (new ≡ old)
    (MatchBool (code == 0) ((disk : Disk) × (left ≡ Some (record { medium = Some disk })) × Ejects bay (station_of old) (Some disk) (station_of new))
    (MatchBool (code == 7) ((left ≡ tray) × Ejects bay (station_of old) None (station_of new))
    (MatchBool (code == 3) ((left ≡ tray) × (new ≡ old)) ⊥)))

-- ---- ---- what is set before sectors are read

-- the medium in a bay is acknowledged
pub record Acknowledges (bay code : ℕ) (old new : DeskValue) : Type 0 where
  pub answer : Result (Unit {0}) Code
  pub code_is : code ≡ answer_code answer
  pub step : Acks bay (station_of old) answer (station_of new)
  pub calm : IsCalm bay (station_of old) (station_of new)

-- the rate of a bay is set
pub record RatesBay (bay : ℕ) (rate : Rate) (code : ℕ) (old new : DeskValue) : Type 0 where
  pub answer : Result (Unit {0}) Code
  pub code_is : code ≡ answer_code answer
  pub step : RatesTo bay rate (station_of old) answer (station_of new)
  pub calm : IsCalm bay (station_of old) (station_of new)

-- the rate of a bay is set by its number. If the number isn't 500 or 250, the code is 4
abbrev pub SetsRate : (bay kilobits code : ℕ) → DeskValue → DeskValue → Type 0
SetsRate bay kilobits code old new =
    MatchOption (rate_named kilobits) ((code ≡ 4) × (new ≡ old)) (λ rate. RatesBay bay rate code old new)

-- ---- sectors

-- a sector is read to a buffer of its size. Whether the sector is marked deleted is reported by 1 or 0
pub record ReadsInto (bay : ℕ) (key : Chrn) (code : ℕ) (before after : List ℕ) (was told : ℕ) (old new : DeskValue) : Type 0 where
  pub answer : Result Bool Code
  pub code_is : code ≡ answer_code answer
  pub reads : ReadsSector bay key (station_of old) answer before after (station_of new)
  pub told_is : MatchResult answer (λ deleted. told ≡ if deleted then 1 else 0) (λ _. told ≡ was)

-- a sector is read to the beginning of a buffer. If its size code names no size, 4, or if the buffer is shorter than
-- the sector, 10, all stays
abbrev pub ReadsAt : (bay : ℕ) → Chrn → (code : ℕ) → List ℕ → List ℕ → (was told : ℕ) → DeskValue → DeskValue → Type 0
ReadsAt bay key code before after was told old new =
    MatchBool (is_size_code key.n && nat_le (content_size key.n) (length before))
    (ReadsInto bay key code (take (content_size key.n) before) (take (content_size key.n) after) was told old new
    × (drop (content_size key.n) after ≡ drop (content_size key.n) before))
    ((code ≡ if is_size_code key.n then 10 else 4) × (after ≡ before) × (told ≡ was) × (new ≡ old))

-- a sector is written
pub record WritesFrom (bay : ℕ) (key : Chrn) (bytes : List ℕ) (deleted : Bool) (code : ℕ) (old new : DeskValue) : Type 0 where
  pub answer : Result (Unit {0}) Code
  pub code_is : code ≡ answer_code answer
  pub writes : WritesSector bay key bytes deleted (station_of old) answer (station_of new)

-- a sector is written. If the size code names no size, or if there are more or fewer bytes than the sector has, the
-- code is 4
abbrev pub WritesAt : (bay : ℕ) → Chrn → List ℕ → Bool → (code : ℕ) → DeskValue → DeskValue → Type 0
WritesAt bay key bytes deleted code old new =
    MatchBool (is_size_code key.n && (length bytes == content_size key.n)) (WritesFrom bay key bytes deleted code old new)
    ((code ≡ 4) × (new ≡ old))

-- a track is formatted in the standard layout of the bay's rate
pub record FormatsTrack (bay c h code : ℕ) (old new : DeskValue) : Type 0 where
  pub answer : Result (Unit {0}) Code
  pub code_is : code ≡ answer_code answer
  pub step : FormatsTo bay c h (gap_at (bay_of (station_of old) bay).rate) standard_fill (station_of old) answer (station_of new)
  pub calm : IsCalm bay (station_of old) (station_of new)
