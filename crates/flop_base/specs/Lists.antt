-- Lists with some of their items replaced.
use Rattle.std.specs.Prelude.{ℕ, ◌+◌, List, length, take, drop, ◌++◌}

-- the list with these items from a place on, where they replace as many of its own
unfoldable pub with_items : List ℕ → ℕ → List ℕ → List ℕ
with_items list place items = take place list ++ (items ++ drop (place + length items) list)
