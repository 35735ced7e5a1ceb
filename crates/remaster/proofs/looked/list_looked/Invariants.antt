use Rattle.std.proofs.Common.{◌≡◌, map, take, All}
use Rattle.remaster.proofs.Common.{field_of, HasLook}
use Rattle.remaster.proofs.looked.list_looked.Given as goal

-- the fields so far, each with its look
abbrev pub invariant-loop-field : goal.invariant-loop-field
invariant-loop-field l = record {
  fields : map field_of l.looked.items ≡ take l.field-index l.field-items;
  looks : All (HasLook l.words) l.looked.items;
}
