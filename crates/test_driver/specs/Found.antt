-- What is found on the track under a head.
use Rattle.std.specs.Prelude.{◌≡◌, ℕ, Bool, List, Option}
use Rattle.test_driver.specs.Common.{Chrn, Rate, Code, Disk, track_of, IsTrackSized, content_at, LookFor, met_in, MeetsTrack}
use Rattle.flop_base.specs.declared.answers.Code.TheVariants as code
use Rattle.track_model.specs.declared.Look.{Look}
use Rattle.track_model.specs.declared.Look.TheVariants as look

-- a track that the medium has at the rate, under the head
pub record IsUnderHead (medium : Option Disk) (rate : Rate) (cylinder head : ℕ) (track : List ℕ) : Type 0 where
  pub disk : Disk
  pub meets : MeetsTrack medium rate cylinder head disk
  pub is : track ≡ track_of disk cylinder head
  pub met_is : met_in medium rate cylinder head ≡ track
  pub sized : IsTrackSized track

-- the look for the key found this content
pub record FindsOn (medium : Option Disk) (rate : Rate) (cylinder : ℕ) (key : Chrn) (deleted : Bool) (content : List ℕ) : Type 0 where
  pub track : List ℕ
  pub under : IsUnderHead medium rate cylinder key.h track
  pub place : ℕ
  pub looked : LookFor track key (look.Found deleted place)
  pub content_is : content ≡ content_at track place key.n

-- the refusal of a look that didn't find the data
abbrev pub RefusedAs : Look → Code → Type 0
RefusedAs look.NoMark answer = answer ≡ code.NoMark
RefusedAs look.NoData answer = answer ≡ code.NoMark
RefusedAs look.NoSector answer = answer ≡ code.NotFound
RefusedAs look.BadCrc answer = answer ≡ code.BadCrc
RefusedAs (look.Found deleted place) answer = ⊥

-- the look for the key on the track didn't find its data, and this is the refusal of that look
pub record IsMissedOn (track : List ℕ) (key : Chrn) (answer : Code) : Type 0 where
  pub looked : Look
  pub is : LookFor track key looked
  pub by_code : RefusedAs looked answer
