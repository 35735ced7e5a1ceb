-- What the results of a READ DATA say of the track under the head.
use Rattle.std.specs.Prelude.{◌≡◌, ◌⊎◌, ℕ, ◌+◌, ◌<◌, ◌≤◌, Bool, Some, List, length, slice_index}
use Rattle.track_model.specs.declared.Look.TheVariants.{Found, NoData, BadCrc}
use Rattle.laws_machine.specs.Common.{IsAddressAt, IsDataMark, IsWhole, HasAddressMark, LookAt, HasLook, results_sent, Long, Phase, Result, HasNoClear, Ending, Done, NoMark, NoSector, NoField, BadCheck, NoCount, Protected, Board, controller_of, memory_of, drive_in, IsCalm}
use Rattle.track_model.specs.Sectors.{IsLone}
use Rattle.laws_machine.specs.OnReads.Scenes.{Scene, track_met}
use Rattle.laws_machine.specs.OnReads.Underway.{HasBytes}

-- a field of the key with this mark and content is on the track, and the content is in memory. If the drive had no
-- fault, or no other data mark is there, the field is what a look for it finds.
pub record FindsField (scene : Scene) (faults : ℕ) (deleted : Bool) (content memory : List ℕ) : Type 0 where
  pub place : ℕ
  pub mark : ℕ
  pub address_field : IsAddressAt (track_met scene) place scene.sent.key
  pub data_mark : IsDataMark (track_met scene) place mark deleted
  pub whole : IsWhole (track_met scene) mark scene.sent.key.n content
  pub in_memory : HasBytes scene.address content scene.memory memory
  pub looked : IsCalm scene.faults faults ⊎ IsLone (track_met scene) place → LookAt (track_met scene) place scene.sent.key.n (Found deleted (mark + 64))

-- what an ending says of the track, if the drive's count of faults is now `faults`
abbrev pub ReadEndsAs : Scene → ℕ → List ℕ → Ending → Type 0
ReadEndsAs scene faults memory (Done deleted) = (content : List ℕ) × FindsField scene faults deleted content memory
ReadEndsAs scene faults memory NoMark = IsCalm scene.faults faults → HasAddressMark (track_met scene) → ⊥
ReadEndsAs scene faults memory NoSector =
    HasAddressMark (track_met scene) × (IsCalm scene.faults faults → HasNoClear (Some scene.sent.key) (track_met scene))
ReadEndsAs scene faults memory NoField = IsCalm scene.faults faults → HasLook (track_met scene) scene.sent.key NoData
ReadEndsAs scene faults memory BadCheck = IsCalm scene.faults faults → HasLook (track_met scene) scene.sent.key BadCrc
ReadEndsAs scene faults memory NoCount = ⊥
ReadEndsAs scene faults memory Protected = ⊥
ReadEndsAs scene faults memory _ = Unit {0}

-- the result bytes are those of an ending, and what that ending says is true
abbrev pub ReadEndedIn : Scene → ℕ → List ℕ → Phase → Type 0
ReadEndedIn scene faults memory (Result (Long ending results _)) = (results ≡ results_sent ending scene.sent) × ReadEndsAs scene faults memory ending
ReadEndedIn scene faults memory _ = Unit {0}

abbrev pub ReadEnded : Scene → Board → Type 0
ReadEnded scene board = ReadEndedIn scene (drive_in board scene.bay).faults (memory_of board) (controller_of board).phase

-- memory outside the range is as it was
pub record StaysOutside (scene : Scene) (memory : List ℕ) : Type 0 where
  pub lengths : length memory ≡ length scene.memory
  pub others : (k : ℕ) → (k < scene.address) ⊎ (scene.address + scene.size ≤ k) → slice_index memory k ≡ slice_index scene.memory k
