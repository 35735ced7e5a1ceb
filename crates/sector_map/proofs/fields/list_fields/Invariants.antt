use Rattle.sector_map.proofs.ListedFields.{AreAddressesBelow}
use Rattle.sector_map.proofs.fields.list_fields.Given as goal

abbrev pub invariant-loop-place : goal.invariant-loop-place
invariant-loop-place l = AreAddressesBelow l.words l.place l.fields.items
