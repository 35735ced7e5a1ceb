-- What calls cost, one after another.
use Rattle.std.proofs.Common.{ℕ, ◌+◌, ◌-◌, ◌≤◌, arith}
use Rattle.flop_base.specs.Counts.{RoseBy}
use Rattle.flop_base.specs.Counters.{Counters, CostsUpTo, AccessesPortsUpTo}

-- ---- numbers: `g` gaps become `h` and then `i`, and a count of interrupts goes from `a` to `b` and then to `c`

pub used_none : (g h most a b : ℕ) → g ≤ h + most → RoseBy 0 a b → RoseBy (g - h - most) a b
used_none g h most a b few goes = omega (arith, few, goes)

rose_twice : (x y z a b c : ℕ) → z ≤ x + y → RoseBy x a b → RoseBy y b c → RoseBy z a c
rose_twice x y z a b c within first second = omega (arith, within, first, second)

beyond : (g h i n m : ℕ) → g - i - (n + m) ≤ (g - h - n) + (h - i - m)
beyond g h i n m = omega arith

pub used_twice : (g h i n m a b c : ℕ) → RoseBy (g - h - n) a b → RoseBy (h - i - m) b c → RoseBy (g - i - (n + m)) a c
used_twice g h i n m a b c first second = rose_twice (g - h - n) (h - i - m) (g - i - (n + m)) a b c (beyond g h i n m) first second

pub used_within : (g h few most a b : ℕ) → few ≤ most → RoseBy (g - h - few) a b → RoseBy (g - h - most) a b
used_within g h few most a b less used = omega (arith, less, used)

-- ---- calls

pub accesses_twice : (n m : ℕ) (a b c : Counters) → AccessesPortsUpTo n a b → AccessesPortsUpTo m b c → AccessesPortsUpTo (n + m) a c
accesses_twice n m a b c first second = used_twice a.gaps b.gaps c.gaps n m a.taken b.taken c.taken first second

pub accesses_within : (few most : ℕ) (a b : Counters) → few ≤ most → AccessesPortsUpTo few a b → AccessesPortsUpTo most a b
accesses_within few most a b less used = used_within a.gaps b.gaps few most a.taken b.taken less used

-- no call
pub costs_none : (steps accesses : ℕ) (a : Counters) → CostsUpTo steps accesses a a
costs_none steps accesses a = (omega arith, used_none a.gaps a.gaps accesses a.taken a.taken (omega arith) (omega arith))

pub costs_twice : (n m p q : ℕ) (a b c : Counters) → CostsUpTo n p a b → CostsUpTo m q b c → CostsUpTo (n + m) (p + q) a c
costs_twice n m p q a b c first second = (omega (arith, first.0, second.0), accesses_twice p q a b c first.1 second.1)

pub costs_within : (n m p q : ℕ) (a b : Counters) → n ≤ m → p ≤ q → CostsUpTo n p a b → CostsUpTo m q a b
costs_within n m p q a b shorter fewer costs = (omega (arith, shorter, costs.0), accesses_within p q a b fewer costs.1)

-- a call that costs nothing, after another or before another
pub costs_after : (n p : ℕ) (a b c : Counters) → CostsUpTo n p a b → CostsUpTo 0 0 b c → CostsUpTo n p a c
costs_after n p a b c costs none = costs_within (n + 0) n (p + 0) p a c (omega arith) (omega arith) (costs_twice n 0 p 0 a b c costs none)
