-- The interrupt latch, and what may happen to it.
use Rattle.std.specs.Prelude.{◌≡◌, Bool, true, false, not, ◌&&◌, ◌||◌, List, [], ◌∷◌}

-- a latch: whether it is set, and the level that the line had last
pub record Latch : Type 0 where
  pub is_set : Bool
  pub level : Bool

-- the line is shown at a level; a spurious interrupt (stray) comes; the latch is taken
pub data Event : Type 0 where
  shows : Bool → Event
  strays : Event
  takes : Event

-- the level of the line after these events, the newest first; low at the start
abbrev pub level_after : List Event → Bool
level_after [] = false
level_after (shows level ∷ past) = level
level_after (strays ∷ past) = level_after past
level_after (takes ∷ past) = level_after past

-- since the last take the line rose or a spurious interrupt came
abbrev pub is_owed : List Event → Bool
is_owed [] = false
is_owed (takes ∷ past) = false
is_owed (strays ∷ past) = true
is_owed (shows level ∷ past) = (level && not (level_after past)) || is_owed past

-- a new latch that saw these events, the newest first, is this one
pub record IsAfter (past : List Event) (latch : Latch) : Type 0 where
  pub set_where_owed : latch.is_set ≡ is_owed past
  pub last_level : latch.level ≡ level_after past
