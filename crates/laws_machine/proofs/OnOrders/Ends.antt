-- What a data command leaves, and what its results say.
use Rattle.std.proofs.Common.{◌≡◌, false, List, ◌∙◌, arith}
use Rattle.laws_machine.proofs.Common.{Chrn, IsSizeCode, content_size, read_tells, id_tells, is_executing, Fdc, Board, controller_of, memory_of, channel_of, drive_in, IdEnded, ReadEnded, StaysOutside, Scene, Laid, Window, Track, Identify, Read, Write, Underway, IsFor, Only, Ended}
use Rattle.laws_machine.proofs.OnWrites.Results as writes
use Rattle.laws_machine.proofs.OnFormats.Results as formats
use Rattle.laws_machine.proofs.OnReads.Steps as reads
use Rattle.laws_machine.proofs.OnReads.Beginnings as ids

pub only : (laid : Laid) (scene : Scene) (keys : List Chrn) (board : Board) → IsFor laid scene keys → Underway (Write laid) scene board → Only laid scene keys board
only (Window deleted) scene keys board size (past, was) =
    let fdc : Fdc = controller_of board in
    record {
      memory = was.chips.moves.same;
      medium = writes.only scene deleted (is_executing fdc.phase) past (drive_in board scene.bay) was.scene_is was.drive
          (writes.words_of scene deleted past (memory_of board) (channel_of board) was.scene_is was.chips.moves size fdc.phase fdc.asking fdc.fifo was.chips.may);
    }
only (Track numbers) scene keys board (size, are) (past, was) =
    let fdc : Fdc = controller_of board in
    record {
      memory = was.chips.moves.same;
      medium = formats.only scene numbers keys (is_executing fdc.phase) past (drive_in board scene.bay) was.drive
          (formats.words_of scene numbers keys past (memory_of board) (channel_of board) was.scene_is was.chips.moves size are was.drive.inside fdc.phase fdc.asking fdc.fifo was.chips.may);
    }

pub ended : (laid : Laid) (scene : Scene) (keys : List Chrn) (board : Board) → IsFor laid scene keys → Underway (Write laid) scene board → Ended laid scene keys board
ended (Window deleted) scene keys board size (past, was) =
    let fdc : Fdc = controller_of board in
    writes.ended scene deleted (is_executing fdc.phase) past (drive_in board scene.bay) (memory_of board) (channel_of board) was.scene_is was.drive was.chips.moves size
    fdc.phase fdc.asking fdc.fifo was.chips.shows was.chips.may
ended (Track numbers) scene keys board (size, are) (past, was) =
    let fdc : Fdc = controller_of board in
    formats.ended scene numbers keys (is_executing fdc.phase) past (drive_in board scene.bay) (memory_of board) (channel_of board) was.scene_is was.drive was.chips.moves size are
    fdc.phase fdc.asking fdc.fifo was.chips.shows was.chips.may

-- ---- those that listen

pub read_ended : (scene : Scene) (board : Board) → IsSizeCode scene.sent.key.n → scene.size ≡ content_size scene.sent.key.n → Underway Read scene board → ReadEnded scene board
read_ended scene board coded size (past, was) =
    reads.ended scene past (drive_in board scene.bay).faults (memory_of board) was.drive.heard was.drive.whole (controller_of board).phase coded was.chips.moves.bytes
    (λ counted. (was.chips.moves.over counted).1 ∙ size)
    (λ uncounted. let (left, all, set) = was.chips.moves.goes_on uncounted in omega arith)
    (read_tells past scene.sent (controller_of board) coded was.chips.may)

pub read_outside : (scene : Scene) (board : Board) → Underway Read scene board → StaysOutside scene (memory_of board)
read_outside scene board (past, was) = reads.stays_outside scene past.given past.counted (memory_of board) (channel_of board) was.chips.moves

pub read_low : (scene : Scene) (board : Board) → Underway Read scene board → is_executing (controller_of board).phase ≡ false → (controller_of board).asking ≡ false
read_low scene board (past, was) idle = reads.low_outside (controller_of board).asking (is_executing (controller_of board).phase) was.chips.shows idle

pub id_ended : (scene : Scene) (board : Board) → Underway Identify scene board → IdEnded scene board
id_ended scene board (past, was) =
    ids.ended scene past (drive_in board scene.bay).faults was.drive.heard was.drive.whole (controller_of board).phase was.chips.shows.1
    (id_tells past scene.sent.head_drive (controller_of board) was.chips.may)

pub id_memory : (scene : Scene) (board : Board) → Underway Identify scene board → memory_of board ≡ scene.memory
id_memory scene board (past, was) = was.chips.moves

pub id_low : (scene : Scene) (board : Board) → Underway Identify scene board → (controller_of board).asking ≡ false
id_low scene board (past, was) = was.chips.shows.0
