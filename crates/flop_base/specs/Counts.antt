-- Counts. A count that reaches its last value, the greatest number of 64 bits, stays there.
use Rattle.std.specs.Prelude.{◌≡◌, ◌<◌, ◌≤◌, ◌+◌, ℕ, min, Option, Some, None, IfSome}

-- the last value of a count, at which it stays
abbrev pub last_count : ℕ
last_count = 18446744073709551615

-- the count rose by n or more; a count at its last value passes as having risen by any number
abbrev pub RoseBy : ℕ → ℕ → ℕ → Type 0
RoseBy n before now = min (before + n) last_count ≤ now

-- the count rose by less than n, and isn't at its last value
abbrev pub RoseLess : ℕ → ℕ → ℕ → Type 0
RoseLess n before now = (now < before + n) × (now < last_count)

-- the count rose
abbrev pub Rose : ℕ → ℕ → Type 0
Rose before now = RoseBy 1 before now

-- the count rose by one, and no more; at its last value it stays
abbrev pub RoseOnce : ℕ → ℕ → Type 0
RoseOnce before now = now ≡ min (before + 1) last_count

-- `left`, the most by which a count can still rise, is known only if that rise doesn't bring the count to its last
-- value
abbrev pub CanTell : ℕ → Option ℕ → Type 0
CanTell count left = IfSome left (λ most. count + most < last_count)

-- if it is known what is left of a count, it stays known, and each rise is subtracted from it. If it isn't known, it
-- stays unknown
abbrev pub Spends : ℕ → Option ℕ → ℕ → Option ℕ → Type 0
Spends count None after left = left ≡ None
Spends count (Some most) after left = (rest : ℕ) × (left ≡ Some rest) × (after + rest ≤ count + most)
