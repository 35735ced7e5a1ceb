-- The value of a desk for sectors in a slot.
use denote.RattleType.{RattleType}
use Rattle.sector_desk.specs.contracts.desk.SectorDesk as desk_of

abbrev pub desk_row : RattleType
desk_row = desk_of.the_row

abbrev pub DeskValue : Type 0
DeskValue = desk_row.Denot
