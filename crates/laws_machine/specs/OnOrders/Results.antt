-- What the results of a command that writes say.
use Rattle.std.specs.Prelude.{◌≡◌, ◌*◌, List}
use Rattle.laws_machine.specs.Common.{Chrn, content_size, Board}
use Rattle.laws_machine.specs.OnReads.Scenes.{Scene}
use Rattle.laws_machine.specs.OnWrites.Results.{WriteEnded, WritesOnly}
use Rattle.laws_machine.specs.OnFormats.Results.{FormatEnded, FormatsOnly, AreKeysOf}
use Rattle.laws_machine.specs.OnOrders.Orders.{Laid, Window, Track}

-- the range has the bytes that the command takes: a content, or the keys of a track
abbrev pub IsFor : Laid → Scene → List Chrn → Type 0
IsFor (Window deleted) scene keys = scene.size ≡ content_size scene.sent.key.n
IsFor (Track numbers) scene keys = (scene.size ≡ 4 * numbers.sectors) × AreKeysOf scene numbers keys

abbrev pub Only : Laid → Scene → List Chrn → Board → Type 0
Only (Window deleted) scene keys board = WritesOnly scene deleted board
Only (Track numbers) scene keys board = FormatsOnly scene numbers keys board

abbrev pub Ended : Laid → Scene → List Chrn → Board → Type 0
Ended (Window deleted) scene keys board = WriteEnded scene deleted board
Ended (Track numbers) scene keys board = FormatEnded scene numbers keys board
