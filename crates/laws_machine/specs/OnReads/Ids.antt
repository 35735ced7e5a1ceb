-- READ ID on the machine: how it begins, and what its results say.
use Rattle.std.specs.Prelude.{◌≡◌, ℕ, true, false, None, [], ◌∷◌, ◌++◌}
use Rattle.laws_machine.specs.Common.{Chrn, Disk, IsAddressAt, HasAddressMark, answer, Ready, ReadId, seek_bits, HasNoClear, Ending, Done, NoMark, NoSector, results_of, no_key, Sent, key_met, is_taking, Long, Fdc, Phase, Command, Result, Board, controller_of, drive_in, IsCalm}
use Rattle.laws_machine.specs.OnQuiet.Settings.{Setting}
use Rattle.laws_machine.specs.OnReads.Begins.{scene_of}
use Rattle.laws_machine.specs.OnReads.Scenes.{Scene, track_met}

-- ---- how it begins

-- a READ ID sends the head and the drive alone, so key and range play no part in its scene
abbrev pub sent_id : ℕ → Sent
sent_id head_drive = record { head_drive = head_drive; key = no_key; last_sector = 0 }

-- the scene of a READ ID that begins on this board
abbrev pub id_scene : ℕ → ℕ → Disk → Board → Scene
id_scene head_drive bay disk board = scene_of (sent_id head_drive) bay disk 0 0 board

-- with this byte the command is whole, and nothing stands in its way
pub record IsLastOfId (byte head_drive : ℕ) (controller : Fdc) : Type 0 where
  pub whole : answer (controller.command ++ byte ∷ []) ≡ Ready (ReadId head_drive)
  pub taking : is_taking controller ≡ true
  pub dma : controller.non_dma ≡ false
  pub no_seek : seek_bits controller.seeks ≡ 0

-- the accesses since have sent all bytes of a READ ID but this one
pub record IsSetForId (head_drive byte : ℕ) (set : Setting) : Type 0 where
  pub takes : set.phase ≡ Command
  pub whole : answer (set.command ++ byte ∷ []) ≡ Ready (ReadId head_drive)

-- ---- its results

-- what an ending says of the track, if the drive's count of faults is now `faults`. IC 00 says that the key is that of
-- an address field; MA, that there is no address mark; ND, that no address field is Clear.
abbrev pub IdEndsAs : Scene → ℕ → Chrn → Ending → Type 0
IdEndsAs scene faults key (Done deleted) = (p : ℕ) × IsAddressAt (track_met scene) p key
IdEndsAs scene faults key NoMark = IsCalm scene.faults faults → HasAddressMark (track_met scene) → ⊥
IdEndsAs scene faults key NoSector = HasAddressMark (track_met scene) × (IsCalm scene.faults faults → HasNoClear None (track_met scene))
IdEndsAs scene faults key _ = ⊥

abbrev pub IdEndedIn : Scene → ℕ → Phase → Type 0
IdEndedIn scene faults (Result (Long ending results _)) =
    (results ≡ results_of ending scene.sent.head_drive (key_met ending results.key)) × IdEndsAs scene faults results.key ending
IdEndedIn scene faults _ = Unit {0}

-- the result bytes are those of an ending, and what that ending says is true
abbrev pub IdEnded : Scene → Board → Type 0
IdEnded scene board = IdEndedIn scene (drive_in board scene.bay).faults (controller_of board).phase
