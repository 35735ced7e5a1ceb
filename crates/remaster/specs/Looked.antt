-- The address fields of a track, and what a look at each one finds.
use Rattle.std.specs.Prelude.{ℕ, List, map, All}
use Rattle.track_model.specs.declared.Field.{Field}
use Rattle.remaster.specs.Common.{AreAddresses, LookAt}
use Rattle.remaster.specs.declared.looked.LookedField.{LookedField}

-- the field without the look
abbrev pub field_of : LookedField → Field
field_of one = one.field

-- the look is the look at this field
abbrev pub HasLook : List ℕ → LookedField → Type 0
HasLook track one = LookAt track one.field.place one.field.key.n one.look

-- these are all intact address fields of the track, in order of place, each with the look at it
pub record AreLooked (track : List ℕ) (looked : List LookedField) : Type 0 where
  pub fields : AreAddresses track (map field_of looked)
  pub looks : All (HasLook track) looked
