-- The value of a shelf in a slot.
use denote.RattleType.{RattleType}
use Rattle.memory_files.specs.contracts.shelf.RunShelf as shelf_of

abbrev pub shelf_row : RattleType
shelf_row = shelf_of.the_row

abbrev pub ShelfValue : Type 0
ShelfValue = shelf_row.Denot
