-- What a word gives at any time, also as the last of its revolution.
use Rattle.std.specs.Prelude.{◌≡◌, ◌⊎◌, ℕ, ◌+◌, ◌*◌, ◌<◌, Bool, true, false, List, []}
use Rattle.track_model.specs.Bytes.{byte_at}
use Rattle.track_model.specs.Fields.{IsAddress}
use Rattle.track_model.specs.Looks.{IsFirstDataMark}
use Rattle.track_separator.specs.declared.state.Seen.{Seen}
use Rattle.track_separator.specs.declared.state.Seen.TheVariants.{Nothing, Mark, Address, Mode, Byte, End, NoData}
use Rattle.track_separator.specs.declared.state.Stage.{Stage}
use Rattle.track_separator.specs.declared.state.Stage.TheVariants.{Hunting, TurnEnded, Waiting, Content}
use Rattle.track_separator.specs.declared.state.Separator.{Separator}
use Rattle.track_separator.specs.Parts.{with_word, turn_after}
use Rattle.track_separator.specs.Hunts.{HuntsIn, SHunts, FollowsIn, SFollows, HuntSeenIn, SHuntSeen, GivesAll, Stands}
use Rattle.track_separator.specs.Waits.{WaitsIn, SWaits, ReadsIn, SReads, SWaitSeen, SReadSeen, HasEnded, TellsWhole, IsUnfinished}

-- what a word inside the revolution gives a separator that hunts
pub record IsHuntedIn (cells back : ℕ) (stage : Stage) (word after behind : ℕ) (next : Stage) (seen : Seen) : Type 0 where
  pub keeps : (fed : List ℕ) → HuntsIn fed cells back stage → HuntsIn (with_word fed word) after behind next
  pub tells : (fed : List ℕ) → HuntsIn fed cells back stage → HuntSeenIn (with_word fed word) after behind next seen
  pub follows : (fed : List ℕ) → FollowsIn fed cells back stage → FollowsIn (with_word fed word) after behind next
  pub gives : (fed : List ℕ) → FollowsIn fed cells back stage → GivesAll (with_word fed word) seen

abbrev pub IsHunted : Separator → ℕ → Separator → Seen → Type 0
IsHunted old word new seen = IsHuntedIn old.cells old.back old.stage word new.cells new.back new.stage seen

-- what the last word of the revolution gives a separator that waits
abbrev pub SWaitCut : List ℕ → ℕ → ℕ → Seen → Type 0
SWaitCut fed p size NoData = IsUnfinished fed p size
SWaitCut fed p size _ = ⊥

-- what any word gives a separator that waits
abbrev pub SWaitFed : Bool → List ℕ → ℕ → ℕ → Separator → Seen → Type 0
SWaitFed false fed p size separator seen = SWaitSeen fed p size separator seen
SWaitFed true fed p size separator seen = SWaitCut fed p size seen

-- what the last word of the revolution gives a separator that reads
abbrev pub SReadCut : List ℕ → ℕ → ℕ → Bool → ℕ → ℕ → Seen → Type 0
SReadCut fed p q deleted size taken (End good) =
    (taken ≡ size + 1) × HasEnded fed p q deleted size × TellsWhole fed q size good
SReadCut fed p q deleted size taken NoData = IsUnfinished fed p size
SReadCut fed p q deleted size taken _ = ⊥

-- what any word gives a separator that reads
abbrev pub SReadFed : Bool → List ℕ → ℕ → ℕ → Bool → ℕ → ℕ → Separator → Seen → Type 0
SReadFed false fed p q deleted size taken separator seen = SReadSeen fed p q deleted size taken separator seen
SReadFed true fed p q deleted size taken separator seen = SReadCut fed p q deleted size taken seen

-- a data field was asked for after the end of its revolution
abbrev pub TurnEndedIn : Stage → Type 0
TurnEndedIn TurnEnded = Unit {0}
TurnEndedIn _ = ⊥

abbrev pub STurnEnded : Separator → Type 0
STurnEnded separator = TurnEndedIn separator.stage

-- the separator begins a revolution
abbrev pub BeginsIn : Stage → Type 0
BeginsIn Hunting = Unit {0}
BeginsIn _ = ⊥

abbrev pub SBegins : Separator → Type 0
SBegins separator = BeginsIn separator.stage

-- the next word is a byte of the content that is read
abbrev pub AwaitsByteIn : Stage → Type 0
AwaitsByteIn (Content size taken check touched) = taken < size
AwaitsByteIn _ = ⊥

abbrev pub SAwaitsByte : Separator → Type 0
SAwaitsByte separator = AwaitsByteIn separator.stage

-- a data field is asked for
abbrev pub WantsIn : Stage → Type 0
WantsIn TurnEnded = Unit {0}
WantsIn (Waiting size since marked) = Unit {0}
WantsIn (Content size taken check touched) = Unit {0}
WantsIn _ = ⊥

-- ---- any calls

-- the separator hunts, waits for the data field of an address field, reads one, or reports that the revolution has
-- ended; what it keeps is of these words
abbrev pub FedIn : List ℕ → ℕ → ℕ → Stage → Type 0
FedIn fed cells back stage =
    HuntsIn fed cells back stage
    ⊎ (((p : ℕ) × (size : ℕ) × IsAddress fed p × WaitsIn fed cells back p size stage)
    ⊎ (((p : ℕ) × (q : ℕ) × (deleted : Bool) × (size : ℕ) × (taken : ℕ) × IsAddress fed p × ReadsIn fed cells back p q deleted size taken stage)
    ⊎ TurnEndedIn stage))

abbrev pub SFed : Separator → List ℕ → Type 0
SFed separator fed = FedIn fed separator.cells separator.back separator.stage

-- what each event stands for
abbrev pub IsTold : List ℕ → Seen → Type 0
IsTold fed Nothing = Unit {0}
IsTold fed Mark = Stands fed Mark
IsTold fed (Address key) = Stands fed (Address key)
IsTold fed (Mode deleted) = (p : ℕ) × (q : ℕ) × IsAddress fed p × IsFirstDataMark fed p q deleted
IsTold fed (Byte value) =
    (p : ℕ) × (q : ℕ) × (deleted : Bool) × (i : ℕ) × IsAddress fed p × IsFirstDataMark fed p q deleted × (value ≡ byte_at fed (q + 64 + 16 * i))
IsTold fed (End good) =
    (p : ℕ) × (q : ℕ) × (deleted : Bool) × (size : ℕ) × IsAddress fed p × HasEnded fed p q deleted size × TellsWhole fed q size good
IsTold fed NoData = Unit {0}

-- what a word gives a separator at any stage, also as the last word of its revolution
pub record Feeds (index : Bool) (word : ℕ) (old new : Separator) (seen : Seen) : Type 0 where
  pub keeps : (fed : List ℕ) → SHunts old fed → SHunts new (turn_after index fed word)
  pub stands : (fed : List ℕ) → SHunts old fed → Stands (with_word fed word) seen
  pub address : (fed : List ℕ) → SHunts old fed → index ≡ false → SHuntSeen (with_word fed word) new seen
  pub follows : (fed : List ℕ) → SFollows old fed → SFollows new (turn_after index fed word)
  pub turns : index ≡ true → SFollows new []
  pub begins : index ≡ true → SBegins new
  pub gives : (fed : List ℕ) → SFollows old fed → GivesAll (with_word fed word) seen
  pub waits : (fed : List ℕ) (p size : ℕ) → SWaits old fed p size → SWaitFed index (with_word fed word) p size new seen
  pub reads : (fed : List ℕ) (p q : ℕ) (deleted : Bool) (size taken : ℕ) → SReads old fed p q deleted size taken
      → SReadFed index (with_word fed word) p q deleted size taken new seen
  pub turn_ended : STurnEnded old → (seen ≡ NoData) × ((fed : List ℕ) → SHunts new fed)
  pub any : (fed : List ℕ) → SFed old fed → SFed new (turn_after index fed word)
  pub told : (fed : List ℕ) → SFed old fed → IsTold (with_word fed word) seen
