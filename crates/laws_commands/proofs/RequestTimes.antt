-- What each request costs at most, and what it leaves of a station that is made ready.
use Rattle.std.proofs.Common.{arith, ◌≡◌, ◌∙◌, ℕ, ◌+◌, ◌*◌, ◌≤◌, ◌==◌, Bool, true, false, if◌then◌else◌, List, refl, ap, Option, Result, Ok, Err}
use Rattle.std.specs.Prelude.{MatchOption}
use Rattle.laws_commands.proofs.Common.{mul-le-mul, Two, in_bay, Files, sectors_at, words_at, Code, Rate, R500, R250, Chrn, Disk, Request, Reply, format_once_port_accesses, format_steps, format_turns, turn_of, IsRefusedAtOnce, read_refusal, write_refusal, rate_refusal, ReadsDrive, StationState, Bay, Becomes, bay_of, set_bay, course_port_accesses, course_time, port_accesses_of, time_of, State, Step, Does, refusal_of, blank_request, RequestCosts, times_at, port_accesses_at, ready_cost}
use Rattle.commands.specs.Parts.{acknowledges, sets_rate}
use Rattle.laws_commands.proofs.Steps.{either, ok_called, reached}
use Rattle.laws_commands.proofs.Turns.{HasTurns, IsFair, bay_set, step_turns, turn_in}
use Rattle.laws_commands.proofs.CommandEnds.{IsSum, PartCosts, Leads, carries_cost, more_cost}
use Rattle.floppy_jobs.specs.declared.request.Request.TheVariants as request

-- ---- A bay at a rate.

-- Three attempts are set at most, and a format of the bay reads back no more records than at this rate.
pub record IsReady (limit : Two ℕ) (bay : ℕ) (rate : Rate) (station : StationState) : Type 0 where
  pub turns : HasTurns limit 3 station
  pub sectors : sectors_at (bay_of station bay).rate ≤ sectors_at rate

-- no bay has another rate
record SameRates (old new : StationState) : Type 0 where
  pub first : new.bays.first.rate ≡ old.bays.first.rate
  pub second : new.bays.second.rate ≡ old.bays.second.rate

becomes_rates : (target new : StationState) → Becomes target new → SameRates target new
becomes_rates target new becomes = search

both_rates : (old mid new : StationState) → SameRates old mid → SameRates mid new → SameRates old new
both_rates old mid new one two = record { first = two.first ∙ one.first; second = two.second ∙ one.second }

medium_rates : (old : StationState) (bay : ℕ) (medium : Option Disk) → SameRates old (set_bay old bay (record (bay_of old bay) { medium = medium }))
medium_rates old bay medium = go (bay == 0)
  where
    go : (first : Bool) → (let now = if first then old.bays.first else old.bays.second in
        SameRates old (record old { bays = (if first then record old.bays { first = record now { medium = medium } } else record old.bays { second = record now { medium = medium } }) }))
    go true = record { first = refl; second = refl }
    go false = record { first = refl; second = refl }

called_rates : {A P : Type 0} (refusal : Option Code) (called : Result A Code) (old new : StationState)
    → MatchOption refusal P (λ code. IsRefusedAtOnce code old called new) → (P → SameRates old new) → SameRates old new
called_rates refusal called old new step done = either refusal step done (λ code refused. becomes_rates old new refused.stays)

read_rates : (bay : ℕ) (key : Chrn) (address : ℕ) (old : StationState) (called : Result Bool Code) (new : StationState)
    → ReadsDrive bay key address old called new → SameRates old new
read_rates bay key address old (Ok deleted) new drive = record {
  first = ap (λ (s : StationState). s.bays.first.rate) drive.found.becomes;
  second = ap (λ (s : StationState). s.bays.second.rate) drive.found.becomes;
}
read_rates bay key address old (Err code) new drive = search

medium_set : (old new : StationState) (bay : ℕ) (medium : Option Disk) → Becomes (set_bay old bay (record (bay_of old bay) { medium = medium })) new
    → SameRates old new
medium_set old new bay medium becomes =
    both_rates old (set_bay old bay (record (bay_of old bay) { medium = medium })) new (medium_rates old bay medium)
    (becomes_rates (set_bay old bay (record (bay_of old bay) { medium = medium })) new becomes)

-- the request is one of those that a command makes on tracks and records
abbrev pub IsOnTracks : Request → Type 0
IsOnTracks (request.Read bay key address) = Unit {0}
IsOnTracks (request.Write bay key address) = Unit {0}
IsOnTracks (request.WriteDeleted bay key address) = Unit {0}
IsOnTracks (request.Format bay c h) = Unit {0}
IsOnTracks (request.Fill address count byte) = Unit {0}
IsOnTracks _ = ⊥

track_rates : (old new : State) (told after : Option Files) (asked : Request) (answer : Reply) → IsOnTracks asked → Does asked old told answer new after
    → SameRates old.station new.station
track_rates old new told after (request.Read bay key address) answer on does =
    called_rates (read_refusal old.station bay key address) does.1.0 old.station new.station does.1.2 (read_rates bay key address old.station does.1.0 new.station)
track_rates old new told after (request.Write bay key address) answer on does =
    called_rates (write_refusal old.station bay key address) does.1.0 old.station new.station does.1.2
    (λ drive. medium_set old.station new.station bay (bay_of new.station bay).medium drive.becomes)
track_rates old new told after (request.WriteDeleted bay key address) answer on does =
    called_rates (write_refusal old.station bay key address) does.1.0 old.station new.station does.1.2
    (λ drive. medium_set old.station new.station bay (bay_of new.station bay).medium drive.becomes)
track_rates old new told after (request.Format bay c h) answer on does = grind (arith, called_rates, medium_set)
track_rates old new told after (request.Fill address count byte) answer on does = search
track_rates old new told after _ answer on does = absurd on

track_fair : (limit : Two ℕ) (asked : Request) (after : State) → IsOnTracks asked → IsFair limit 3 asked after
track_fair limit (request.Read bay key address) after on = tt
track_fair limit (request.Write bay key address) after on = tt
track_fair limit (request.WriteDeleted bay key address) after on = tt
track_fair limit (request.Format bay c h) after on = tt
track_fair limit (request.Fill address count byte) after on = tt
track_fair limit _ after on = absurd on

same_in : (old new : StationState) (bay : ℕ) → SameRates old new → (bay_of new bay).rate ≡ (bay_of old bay).rate
same_in old new bay same = go (bay == 0)
  where
    go : (first : Bool) → (if first then new.bays.first else new.bays.second).rate ≡ (if first then old.bays.first else old.bays.second).rate
    go true = same.first
    go false = same.second

-- a ready bay is still ready after such a request, done or refused
pub track_ready : (limit : Two ℕ) (bay : ℕ) (rate : Rate) (asked : Request) → IsOnTracks asked → (old new : State) (told after : Option Files) (answer : Reply)
    → IsReady limit bay rate old.station → Step asked old told answer new after → IsReady limit bay rate new.station
track_ready limit bay rate asked on old new told after answer ready step =
    let rates : SameRates old.station new.station = either (refusal_of old asked) step (track_rates old new told after asked answer on)
    (λ cause refused. becomes_rates old.station new.station refused.same.stays) in
    let same = ap sectors_at (same_in old.station new.station bay rates) in
    let few = ready.sectors in
    record {
      turns = step_turns limit 3 old new told after asked answer (track_fair limit asked new on) step ready.turns;
      sectors = omega (arith, same, few);
    }

-- ---- Bays are made ready.

few_sectors : (rate : Rate) → sectors_at rate ≤ 18
few_sectors R500 = omega arith
few_sectors R250 = omega arith

ack_leads : (limit : Two ℕ) (bay : ℕ) → Leads (HasTurns limit 3) (request.Ack bay) (HasTurns limit 3)
ack_leads limit bay old new told after answer has step fine = step_turns limit 3 old new told after (request.Ack bay) answer tt step has

rate_leads : (limit : Two ℕ) (bay : ℕ) → Leads (HasTurns limit 3) (request.SetRate bay R250) (IsReady limit bay R250)
rate_leads limit bay old new told after answer has step fine =
    let ok = ok_called step.1.0 answer step.1.1 fine in
    let sets = reached (rate_refusal old.station bay) step.1.0 old.station new.station step.1.2 ok in
    let is : (bay_of new.station bay).rate ≡ R250 =
    ap (λ (s : StationState). (bay_of s bay).rate) sets.becomes
    ∙ ap (λ (b : Bay). b.rate) (bay_set old.station bay (record (bay_of old.station bay) { rate = R250 })) in
    let same = ap sectors_at is in
    record {
      turns = step_turns limit 3 old new told after (request.SetRate bay R250) answer tt step has;
      sectors = omega (arith, same);
    }

pub acknowledges_cost : (one : Request → StationState → ℕ) (sum : StationState → List _ → ℕ) (is : IsSum one sum) (limit : Two ℕ) (bay : ℕ) (rate : Rate)
    (costs : RequestCosts) → ((s : StationState) → HasTurns limit 3 s → one (request.Ack bay) s ≤ costs.ack)
    → ((s : StationState) → one (request.SetRate bay R250) s ≤ costs.change_rate)
    → PartCosts sum (HasTurns limit 3) (IsReady limit bay rate) (ready_cost costs rate) (acknowledges bay rate)
unfolding acknowledges sets_rate
acknowledges_cost one sum is limit bay R500 costs ack change n rest later =
    carries_cost one sum is (HasTurns limit 3) (IsReady limit bay R500) costs.ack (request.Ack bay) ack
    (λ old new told after answer has step fine.
    record { turns = ack_leads limit bay old new told after answer has step fine; sectors = few_sectors (bay_of new.station bay).rate })
    n _ later
acknowledges_cost one sum is limit bay R250 costs ack change n rest later =
    more_cost one sum is (HasTurns limit 3) (HasTurns limit 3) (costs.ack + (costs.change_rate + n)) (costs.ack + costs.change_rate + n) _ (omega arith)
    (λ s has. has)
    (carries_cost one sum is (HasTurns limit 3) (HasTurns limit 3) costs.ack (request.Ack bay) ack (ack_leads limit bay) (costs.change_rate + n) _
    (λ none.
    carries_cost one sum is (HasTurns limit 3) (IsReady limit bay R250) costs.change_rate (request.SetRate bay R250) (λ s has. change s) (rate_leads limit bay)
    n rest later))

-- ---- Blank media.

pub blank_fair : (limit : Two ℕ) (bay : ℕ) (name : List ℕ) (cylinders : ℕ) (rate : Rate) (after : State) → words_at rate ≤ in_bay limit bay
    → IsFair limit 3 (blank_request bay name cylinders rate) after
blank_fair limit bay name cylinders R500 after short = short
blank_fair limit bay name cylinders R250 after short = short

-- ---- What requests cost.

-- each request costs at most what is said here, by its bay
pub record AreCharged (one : Request → StationState → ℕ) (limit : Two ℕ) (rate : Rate) (costs : ℕ → RequestCosts) : Type 0 where
  pub ack : (bay : ℕ) (s : StationState) → HasTurns limit 3 s → one (request.Ack bay) s ≤ (costs bay).ack
  pub change : (bay : ℕ) (s : StationState) → one (request.SetRate bay R250) s ≤ (costs bay).change_rate
  pub format : (bay c h : ℕ) (s : StationState) → IsReady limit bay rate s → one (request.Format bay c h) s ≤ (costs bay).format
  pub read : (bay : ℕ) (key : Chrn) (address : ℕ) (s : StationState) → HasTurns limit 3 s → one (request.Read bay key address) s ≤ (costs bay).read
  pub write : (bay : ℕ) (key : Chrn) (address : ℕ) (s : StationState) → HasTurns limit 3 s → one (request.Write bay key address) s ≤ (costs bay).write
  pub write_deleted : (bay : ℕ) (key : Chrn) (address : ℕ) (s : StationState) → HasTurns limit 3 s
      → one (request.WriteDeleted bay key address) s ≤ (costs bay).write
  pub insert : (bay : ℕ) (name : List ℕ) (s : StationState) → one (request.Insert bay name) s ≤ 0
  pub blank : (bay : ℕ) (name : List ℕ) (cylinders : ℕ) (at : Rate) (s : StationState) → one (blank_request bay name cylinders at) s ≤ 0
  pub eject : (bay : ℕ) (s : StationState) → one (request.Eject bay) s ≤ 0
  pub fill : (address count byte : ℕ) (s : StationState) → one (request.Fill address count byte) s ≤ 0

pub time_sum : IsSum time_of course_time
time_sum = record { none = λ station. refl; more = λ station taken later. refl }

pub port_access_sum : IsSum port_accesses_of course_port_accesses
port_access_sum = record { none = λ station. refl; more = λ station taken later. refl }

-- attempts of `t` revolutions and `n` steps each
attempts_within : (tries most turn longest t n u m : ℕ) → tries ≤ most → turn ≤ longest → t ≤ u → n ≤ m
    → tries * t * turn + tries * n ≤ most * (u * longest + m)
attempts_within tries most turn longest t n u m few short wide long =
    let many = mul-le-mul few (mul-le-mul wide short) in
    let steps = mul-le-mul few long in
    omega (arith, many, steps)

blank_time : (bay : ℕ) (name : List ℕ) (cylinders : ℕ) (rate : Rate) (s : StationState) → time_of (blank_request bay name cylinders rate) s ≤ 0
blank_time bay name cylinders R500 s = omega arith
blank_time bay name cylinders R250 s = omega arith

pub times_charged : (limit : Two ℕ) (rate : Rate) → AreCharged time_of limit rate (λ bay. times_at (in_bay limit bay) rate)
times_charged limit rate = record {
  ack = λ bay s has. (let short = turn_in limit 3 s bay has in omega (arith, short));
  change = λ bay s. omega arith;
  format = λ bay c h s ready.
      (let few = ready.sectors in
      attempts_within s.tries 3 (turn_of (bay_of s bay).medium) (in_bay limit bay) (format_turns (bay_of s bay).rate) (format_steps (bay_of s bay).rate)
      (format_turns rate) (format_steps rate) ready.turns.attempts (turn_in limit 3 s bay ready.turns) (omega (arith, few)) (omega (arith, few)));
  read = λ bay key address s has.
      attempts_within s.tries 3 (turn_of (bay_of s bay).medium) (in_bay limit bay) 2 504 2 504 has.attempts (turn_in limit 3 s bay has) (omega arith) (omega arith);
  write = λ bay key address s has.
      attempts_within s.tries 3 (turn_of (bay_of s bay).medium) (in_bay limit bay) 4 765 4 765 has.attempts (turn_in limit 3 s bay has) (omega arith) (omega arith);
  write_deleted = λ bay key address s has.
      attempts_within s.tries 3 (turn_of (bay_of s bay).medium) (in_bay limit bay) 4 765 4 765 has.attempts (turn_in limit 3 s bay has) (omega arith) (omega arith);
  insert = λ bay name s. omega arith;
  blank = blank_time;
  eject = λ bay s. omega arith;
  fill = λ address count byte s. omega arith;
}

accesses_within : (tries most p q : ℕ) → tries ≤ most → p ≤ q → 6 + tries * p ≤ 6 + most * q
accesses_within tries most p q few less = let many = mul-le-mul few less in omega (arith, many)

blank_port_accesses : (bay : ℕ) (name : List ℕ) (cylinders : ℕ) (rate : Rate) (s : StationState) → port_accesses_of (blank_request bay name cylinders rate) s ≤ 0
blank_port_accesses bay name cylinders R500 s = omega arith
blank_port_accesses bay name cylinders R250 s = omega arith

pub port_accesses_charged : (limit : Two ℕ) (rate : Rate) → AreCharged port_accesses_of limit rate (λ bay. port_accesses_at rate)
port_accesses_charged limit rate = record {
  ack = λ bay s has. omega arith;
  change = λ bay s. omega arith;
  format = λ bay c h s ready.
      (let few = ready.sectors in
      accesses_within s.tries 3 (format_once_port_accesses (bay_of s bay).rate) (format_once_port_accesses rate) ready.turns.attempts (omega (arith, few)));
  read = λ bay key address s has. accesses_within s.tries 3 48 48 has.attempts (omega arith);
  write = λ bay key address s has. accesses_within s.tries 3 77 77 has.attempts (omega arith);
  write_deleted = λ bay key address s has. accesses_within s.tries 3 77 77 has.attempts (omega arith);
  insert = λ bay name s. omega arith;
  blank = blank_port_accesses;
  eject = λ bay s. omega arith;
  fill = λ address count byte s. omega arith;
}
