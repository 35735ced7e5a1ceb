-- What calls cost, one after another.
use Rattle.std.proofs.Common.{◌≡◌, ℕ, ◌+◌, ◌*◌, ◌≤◌, List, Option, Some, None, Result, refl, sym, ◌∙◌, ap, subst, arith}
use Rattle.std.proofs.Math.Nat.{mul-le-mul_right}
use Rattle.floppy_driver.proofs.Common.{Two, in_bay, CostsUpTo, DriveCounts, Code, Rate, Disk, Change, Written, Format, Laying, format_once_port_accesses, format_steps, format_turns, time_in, turn_of, Bay, StationState, bay_of, CostsFor, Rig, turn_in, HasAsked, shown, FormatsTrack, WritesData, Driver}
use Rattle.flop_base.proofs.Costs.{accesses_twice, accesses_within, costs_none, costs_twice, costs_within}
use Rattle.floppy_driver.proofs.Shows.{bay_shown_at}

-- ---- a revolution stays as long as it was

pub turn_same : (bay : ℕ) (old new : Rig) → new.media ≡ old.media → turn_in new bay ≡ turn_in old bay
turn_same bay old new same = ap (λ (media : Two (Option Disk)). turn_of (in_bay media bay)) same

turn_changed : (a b : Option Disk) (before after : Disk) → a ≡ Some before → b ≡ Some after → after.words_per_track ≡ before.words_per_track → turn_of b ≡ turn_of a
turn_changed a b before after was is same = ap turn_of is ∙ (same ∙ sym (ap turn_of was))

pub write_turn : (bay : ℕ) (rate : Rate) (written : Written) (change : Option Change) (old : Rig) (answer : Result (Unit {0}) Code) (new : Rig)
    → WritesData bay rate written change old answer new → turn_in new bay ≡ turn_in old bay
write_turn bay rate written None old answer new writes = turn_same bay old new writes.does
write_turn bay rate written (Some one) old answer new writes =
    let does = writes.does in
    turn_changed (in_bay old.media bay) (in_bay new.media bay) does.before does.after does.was does.is does.makes.cut.words_per_track

pub format_turn : (bay : ℕ) (format : Format) (laying : Option Laying) (old : Rig) (answer : Result (Unit {0}) Code) (new : Rig)
    → FormatsTrack bay format laying old answer new → turn_in new bay ≡ turn_in old bay
format_turn bay format None old answer new formats = turn_same bay old new formats.does
format_turn bay format (Some one) old answer new formats =
    let does = formats.does in
    turn_changed (in_bay old.media bay) (in_bay new.media bay) does.before does.after does.was does.is does.makes.laid.words_per_track

-- ---- one call after another

adds : (a b c turn other t u n m : ℕ) → other ≡ turn → b ≤ a + (t * turn + n) → c ≤ b + (u * other + m) → c ≤ a + ((t + u) * turn + (n + m))
adds a b c turn other t u n m same first second =
    let next : c ≤ b + (u * turn + m) = subst (λ x. c ≤ b + (u * x + m)) same second in omega (arith, first, next)

pub costs_on : (bay t u n m p q : ℕ) (a b c : Rig) → CostsFor bay t n p a b → CostsFor bay u m q b c → CostsFor bay (t + u) (n + m) (p + q) a c
costs_on bay t u n m p q a b c first second = record {
  turn = second.turn ∙ first.turn;
  costs = (
    adds a.counters.clock b.counters.clock c.counters.clock (turn_in a bay) (turn_in b bay) t u n m first.turn first.costs.0 second.costs.0,
    accesses_twice p q a.counters b.counters c.counters first.costs.1 second.costs.1,
  );
}

grows : (a b turn t u n m : ℕ) → t ≤ u → n ≤ m → b ≤ a + (t * turn + n) → b ≤ a + (u * turn + m)
grows a b turn t u n m more later few = omega (arith, later, few, mul-le-mul_right turn more)

pub costs_for : (bay t u n m p q : ℕ) (a b : Rig) → t ≤ u → n ≤ m → p ≤ q → CostsFor bay t n p a b → CostsFor bay u m q a b
costs_for bay t u n m p q a b more later many costs = record {
  turn = costs.turn;
  costs = (
    grows a.counters.clock b.counters.clock (turn_in a bay) t u n m more later costs.costs.0,
    accesses_within p q a.counters b.counters many costs.costs.1,
  );
}

-- nothing was done
pub costs_any : (bay t n p : ℕ) (rig : Rig) → CostsFor bay t n p rig rig
costs_any bay t n p rig = record { turn = refl; costs = costs_none (t * turn_in rig bay + n) p rig.counters }

-- ---- attempts

next_times : (k next t : ℕ) → next ≡ k + 1 → k * t + t ≡ next * t
next_times k next t is = subst (λ x. k * t + t ≡ x * t) (sym is) (omega arith)

-- one more attempt
pub costs_next : (bay t n p k next : ℕ) (a b c : Rig) → next ≡ k + 1 → CostsFor bay (k * t) (k * n) (k * p) a b → CostsFor bay t n p b c → CostsFor bay (next * t) (next * n) (next * p) a c
costs_next bay t n p k next a b c is before one =
    subst (λ turns. CostsFor bay turns (next * n) (next * p) a c) (next_times k next t is)
    (subst (λ steps. CostsFor bay (k * t + t) steps (next * p) a c) (next_times k next n is)
    (subst (λ accesses. CostsFor bay (k * t + t) (k * n + n) accesses a c) (next_times k next p is) (costs_on bay (k * t) t (k * n) n (k * p) p a b c before one)))

-- fewer attempts than there may be
pub costs_fewer : (bay t n p k tries : ℕ) (a b : Rig) → k ≤ tries → CostsFor bay (k * t) (k * n) (k * p) a b → CostsFor bay (tries * t) (tries * n) (tries * p) a b
costs_fewer bay t n p k tries a b few costs =
    costs_for bay (k * t) (tries * t) (k * n) (tries * n) (k * p) (tries * p) a b (mul-le-mul_right t few) (mul-le-mul_right n few) (mul-le-mul_right p few) costs

-- a format after two questions
pub format_costs : (bay tries other : ℕ) (rate kept : Rate) (a b c d : Rig) → other ≡ tries → rate ≡ kept → CostsFor bay 0 0 2 a b → CostsFor bay 0 0 4 b c
    → CostsFor bay (other * format_turns rate) (other * format_steps rate) (other * format_once_port_accesses rate) c d
    → CostsFor bay (tries * format_turns kept) (tries * format_steps kept) (6 + tries * format_once_port_accesses kept) a d
format_costs bay tries other rate kept a b c d many same first second last =
    let as_many = rw (same, many) at last in
    let turns = tries * format_turns kept in
    let steps = tries * format_steps kept in
    let accesses = tries * format_once_port_accesses kept in
    costs_for bay (0 + (0 + turns)) turns (0 + (0 + steps)) steps (2 + (4 + accesses)) (6 + accesses) a d (omega arith) (omega arith) (omega arith)
    (costs_on bay 0 (0 + turns) 0 (0 + steps) 2 (4 + accesses) a b d first (costs_on bay 0 turns 0 steps 4 accesses b c d second as_many))

-- ---- as a station shows it

-- a question
pub asking_costs : (bay accesses : ℕ) (old new : Rig) → CostsFor bay 0 0 accesses old new → CostsUpTo 0 accesses old.counters new.counters
asking_costs bay accesses old new costs = let lasts = costs.costs.0 in (omega (arith, lasts), costs.costs.1)

-- one question, of which at most six port accesses are counted
pub question_costs : (bay accesses : ℕ) (old new : Rig) → accesses ≤ 6 → CostsFor bay 0 0 accesses old new → CostsUpTo 0 6 old.counters new.counters
question_costs bay accesses old new few costs = costs_within 0 0 accesses 6 old.counters new.counters (omega arith) few (asking_costs bay accesses old new costs)

-- the change line is looked at, and it is asked whether the medium is protected
pub questions_cost : (bay : ℕ) (a b c : Rig) → CostsFor bay 0 0 2 a b → CostsFor bay 0 0 4 b c → CostsUpTo 0 6 a.counters c.counters
questions_cost bay a b c first second = costs_twice 0 0 2 4 a.counters b.counters c.counters (asking_costs bay 2 a b first) (asking_costs bay 4 b c second)

turn_shown : (driver : Driver) (rig : Rig) (spares : ℕ) (waiting : List DriveCounts) (bay : ℕ) → turn_of (bay_of (shown driver rig spares waiting) bay).medium ≡ turn_in rig bay
turn_shown driver rig spares waiting bay = ap (λ (b : Bay). turn_of b.medium) (bay_shown_at driver rig spares waiting bay)

pub costs_shown : (driver : Driver) (old new : Rig) (spares : ℕ) (waiting : List DriveCounts) (bay turns steps accesses : ℕ) → CostsFor bay turns steps accesses old new
    → CostsUpTo (time_in (shown driver old spares waiting) bay turns steps) accesses old.counters new.counters
costs_shown driver old new spares waiting bay turns steps accesses costs =
    subst (λ t. CostsUpTo (turns * t + steps) accesses old.counters new.counters) (sym (turn_shown driver old spares waiting bay)) costs.costs

-- attempts after questions
pub costs_asked : (start : StationState) (driver : Driver) (old new : Rig) (spares : ℕ) (waiting : List DriveCounts) (bay turns steps accesses : ℕ) → HasAsked start (shown driver old spares waiting)
    → CostsUpTo 0 6 start.counters old.counters → CostsFor bay (driver.tries * turns) (driver.tries * steps) (driver.tries * accesses) old new
    → CostsUpTo (time_in start bay (start.tries * turns) (start.tries * steps)) (6 + start.tries * accesses) start.counters new.counters
costs_asked start driver old new spares waiting bay turns steps accesses asked first costs =
    let tries : driver.tries ≡ start.tries = ap (λ (s : StationState). s.tries) asked.stays in
    let turn : turn_in old bay ≡ turn_of (bay_of start bay).medium = sym (turn_shown driver old spares waiting bay) ∙ ap (λ (s : StationState). turn_of (bay_of s bay).medium) asked.stays in
    let many = subst (λ k. CostsUpTo (k * turns * turn_in old bay + k * steps) (k * accesses) old.counters new.counters) tries costs.costs in
    let same = subst (λ t. CostsUpTo (start.tries * turns * t + start.tries * steps) (start.tries * accesses) old.counters new.counters) turn many in
    let time = time_in start bay (start.tries * turns) (start.tries * steps) in
    costs_within (0 + time) time (6 + start.tries * accesses) (6 + start.tries * accesses) start.counters new.counters (omega arith) (omega arith)
    (costs_twice 0 time 6 (start.tries * accesses) start.counters old.counters new.counters first same)
