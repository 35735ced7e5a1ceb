-- How many port accesses calls make. The gaps after them show it, since each access uses one up, while there are any.
use Rattle.std.specs.Prelude.{◌-◌, ℕ, length}
use Rattle.laws_machine.specs.Common.{RoseBy, Board}

-- at most `most` gaps are used up, and one more for each interrupt that is taken
abbrev pub Uses : ℕ → Board → Board → Type 0
Uses most old new = RoseBy (length old.bus.gaps - length new.bus.gaps - most) old.bus.taken new.bus.taken
