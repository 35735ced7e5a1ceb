-- What commands do to the station that is shown, and to the agreement of driver and machine.
use Rattle.std.proofs.Common.{◌≡◌, ℕ, zero, suc, ◌+◌, ◌-◌, ◌≤◌, ◌⊎◌, Bool, true, false, List, Option, Some, None, IfSome, refl, sym, ap, ◌∙◌, subst, arith, inl, inr}
use Rattle.std.specs.Prelude.{◌==◌, ◌&&◌, not, is_some, if◌then◌else◌}
use Rattle.floppy_driver.proofs.Common.{false≢true, cases_lt, R500, Rate, Disk, IsDisk, Two, in_bay, with_bay, DriveCounts, Counters, faults_of, IsFaultless, DisturbedLess, IsUndisturbed, GoesOn, IsDriven, faults_go_on, Rig, IsSound, track_under, StaysSpun, HeadsStay, OnlyAsks, MovesHeads, SendsRead, Bay, StationState, Becomes, Stays, bay_of, set_bay, is_acknowledged, Notes, Driver, notes_of, is_held, bay_shown, with_waiting, shown, with_notes, HasAsked, IsNoted, IsAttached}

-- ---- counts

-- counters change in the same way whatever spare drives wait
pub waiting_goes_on : (old new : Counters) (waiting : List DriveCounts) → GoesOn old new → GoesOn (with_waiting old waiting) (with_waiting new waiting)
waiting_goes_on old new waiting goes = record {
  first = goes.first;
  second = goes.second;
  spares = refl;
  stalls = goes.stalls;
  stalls_spent = goes.stalls_spent;
  data_commands = goes.data_commands;
  taken = goes.taken;
  direct = goes.direct;
}

pub waiting_driven : (most : ℕ) (old new : Counters) (waiting : List DriveCounts) → IsDriven most old new → IsDriven most (with_waiting old waiting) (with_waiting new waiting)
waiting_driven most old new waiting driven = record {
  most_commands = driven.most_commands;
  interrupts = driven.interrupts;
  past_driver = driven.past_driver;
}

pub waiting_undisturbed : (old new : Counters) (bay : ℕ) (waiting : List DriveCounts) → IsUndisturbed bay (with_waiting old waiting) (with_waiting new waiting) → IsUndisturbed bay old new
waiting_undisturbed old new bay waiting quiet = record { faults = quiet.faults; stalls = quiet.stalls; together = quiet.together }

-- the data commands of two calls, one after the other
pub driven_after : (few more : ℕ) (a b c : Counters) → GoesOn a b → GoesOn b c → IsDriven few a b → IsDriven more b c → IsDriven (few + more) a c
driven_after few more a b c one two first second = record {
  most_commands = let f = first.most_commands in let s = second.most_commands in omega arith;
  interrupts =
      let f = first.interrupts in
      let s = second.interrupts in
      let d = one.data_commands in
      let e = two.data_commands in
      omega arith;
  past_driver = second.past_driver ∙ first.past_driver;
}

pub driven_within : (few most : ℕ) (old new : Counters) → few ≤ most → IsDriven few old new → IsDriven most old new
driven_within few most old new le driven = record {
  most_commands = let commands = driven.most_commands in omega arith;
  interrupts = driven.interrupts;
  past_driver = driven.past_driver;
}

-- if nothing disturbs, the drive has no fault
pub undisturbed_faultless : (bay : ℕ) (old new : Counters) → GoesOn old new → IsUndisturbed bay old new → IsFaultless bay old new
undisturbed_faultless bay old new goes quiet =
    let s = goes.stalls in
    let q = quiet.together in
    (omega arith, quiet.faults)

-- with less than n + 1 disturbances in two parts, the first has less than n or the second is undisturbed
pub disturbed_less_more : (n bay : ℕ) (a b c : Counters) → GoesOn a b → GoesOn b c → (DisturbedLess n bay a b → ⊥) → (IsUndisturbed bay b c → ⊥) → DisturbedLess (n + 1) bay a c → ⊥
disturbed_less_more n bay a b c one two most not less =
    elim (cases_lt (faults_of b bay + b.stalls) (faults_of a bay + a.stalls + n)) [
      | inl few ↦ most (record {
        faults = let q = less.faults in let g = faults_go_on b c bay two in omega arith;
        stalls = let q = less.stalls in let t = two.stalls in omega arith;
        together = few;
      })
      | inr many ↦ not (record {
        faults = less.faults;
        stalls = less.stalls;
        together = let q = less.together in omega arith;
      })
    ]

-- ---- bays

-- the medium in a bay of a sound machine is a disk
pub sound_disk : (rig : Rig) (bay : ℕ) (disk : Disk) → IsSound rig → in_bay rig.media bay ≡ Some disk → IsDisk disk
sound_disk rig bay disk sound is =
    subst (λ (m : Option Disk). IfSome m IsDisk) is
    (elim (bay == 0) as (λ f. IfSome (if f then rig.media.first else rig.media.second) IsDisk) [ true ↦ sound.first | false ↦ sound.second ])

shown_at : (is_first : Bool) (driver : Driver) (rig : Rig) → (if is_first then bay_shown driver.first rig.media.first rig.changes.first else bay_shown driver.second rig.media.second rig.changes.second) ≡ bay_shown (if is_first then driver.first else driver.second) (if is_first then rig.media.first else rig.media.second) (if is_first then rig.changes.first else rig.changes.second)
shown_at true driver rig = refl
shown_at false driver rig = refl

-- a bay is shown by the notes on it
pub bay_shown_at : (driver : Driver) (rig : Rig) (spares : ℕ) (waiting : List DriveCounts) (bay : ℕ) → bay_of (shown driver rig spares waiting) bay ≡ bay_shown (notes_of driver bay) (in_bay rig.media bay) (in_bay rig.changes bay)
bay_shown_at driver rig spares waiting bay = shown_at (bay == 0) driver rig

-- a bay that is held: its medium, the kept count and the noted rate
abbrev pub held_bay : Notes → Option Disk → Bay
held_bay notes medium = record { medium = medium; acknowledged = Some notes.kept; rate = notes.rate }

pub held_shown : (notes : Notes) (medium : Option Disk) (changed : Bool) → is_held notes changed ≡ true → bay_shown notes medium changed ≡ held_bay notes medium
held_shown notes medium changed held =
    ap (λ (b : Bool). record { medium = medium; acknowledged = if b then Some notes.kept else None; rate = if b then notes.rate else R500 }) held

pub held_bay_shown : (driver : Driver) (rig : Rig) (spares : ℕ) (waiting : List DriveCounts) (bay : ℕ) → is_held (notes_of driver bay) (in_bay rig.changes bay) ≡ true → bay_of (shown driver rig spares waiting) bay ≡ held_bay (notes_of driver bay) (in_bay rig.media bay)
held_bay_shown driver rig spares waiting bay held =
    bay_shown_at driver rig spares waiting bay ∙ held_shown (notes_of driver bay) (in_bay rig.media bay) (in_bay rig.changes bay) held

is_some_if : (b : Bool) (kept : ℕ) → is_some (if b then Some kept else None) ≡ b
is_some_if true kept = refl
is_some_if false kept = refl

-- a bay is acknowledged exactly if it is held
pub acknowledged_held : (driver : Driver) (rig : Rig) (spares : ℕ) (waiting : List DriveCounts) (bay : ℕ) → is_acknowledged (shown driver rig spares waiting) bay ≡ is_held (notes_of driver bay) (in_bay rig.changes bay)
acknowledged_held driver rig spares waiting bay =
    ap (λ (b : Bay). is_some b.acknowledged) (bay_shown_at driver rig spares waiting bay)
    ∙ is_some_if (is_held (notes_of driver bay) (in_bay rig.changes bay)) (notes_of driver bay).kept

-- the change line of a held bay is clear
pub held_is_clear : (notes : Notes) (changed : Bool) → is_held notes changed ≡ true → changed ≡ false
held_is_clear notes changed held = clear notes.gate changed held
  where
    clear : (gate line : Bool) → (gate && not line) ≡ true → line ≡ false
    clear true true e = absurd (false≢true e)
    clear true false e = refl
    clear false line e = absurd (false≢true e)

cleared_same : (bay : ℕ) (changes : Two Bool) → in_bay changes bay ≡ false → with_bay changes bay false ≡ changes
cleared_same bay changes clear = by_bay (bay == 0) clear
  where
    by_bay : (is_first : Bool) → (if is_first then changes.first else changes.second) ≡ false → (if is_first then record changes { first = false } else record changes { second = false }) ≡ changes
    by_bay true e = ap (λ (b : Bool). record changes { first = b }) (sym e)
    by_bay false e = ap (λ (b : Bool). record changes { second = b }) (sym e)

-- moving the heads of a held bay changes no change line
pub held_lines_stay : (rig : Rig) (bay : ℕ) (after : Rig) (notes : Notes) → is_held notes (in_bay rig.changes bay) ≡ true → MovesHeads bay rig after → after.changes ≡ rig.changes
held_lines_stay rig bay after notes held moves =
    elim moves.changes [
      | inl same ↦ same
      | inr cleared ↦ cleared ∙ cleared_same bay rig.changes (held_is_clear notes (in_bay rig.changes bay) held)
    ]

-- ---- two calls

pub heads_stay_after : (a b c : Rig) → HeadsStay a b → HeadsStay b c → HeadsStay a c
heads_stay_after a b c one two = record {
  cylinders = two.cylinders ∙ one.cylinders;
  numbers = two.numbers ∙ one.numbers;
  changes = two.changes ∙ one.changes;
  spun = record { first = λ e. two.spun.first (one.spun.first e); second = λ e. two.spun.second (one.spun.second e) };
}

-- the track that is met stays the same if neither the medium nor the heads change
pub same_under : (old new : Rig) (bay : ℕ) (rate : Rate) (h : ℕ) → new.media ≡ old.media → new.cylinders ≡ old.cylinders → track_under new bay rate h ≡ track_under old bay rate h
same_under old new bay rate h media cylinders = rw (media, cylinders) refl

-- ---- the station that is shown

module _ (driver : Driver) (old new : Rig) (spares : ℕ) (waiting : List DriveCounts) where
  -- if media and change lines stay, only memory and counters changed
  pub memory_shown : new.media ≡ old.media → new.changes ≡ old.changes → Becomes (record (shown driver old spares waiting) { memory = new.memory }) (shown driver new spares waiting)
  memory_shown media changes = rw (media, changes) refl

  -- if memory stays too, only counters changed
  pub counters_shown : new.media ≡ old.media → new.changes ≡ old.changes → new.memory ≡ old.memory → Stays (shown driver old spares waiting) (shown driver new spares waiting)
  counters_shown media changes memory = rw (media, changes, memory) refl

  pub asked_shown : OnlyAsks old new → Stays (shown driver old spares waiting) (shown driver new spares waiting)
  asked_shown asks = counters_shown asks.media asks.heads.changes asks.memory

  pub read_shown : SendsRead old new → Becomes (record (shown driver old spares waiting) { memory = new.memory }) (shown driver new spares waiting)
  read_shown sends = memory_shown sends.media sends.heads.changes

  -- the heads of a held bay moved
  pub moved_shown : (bay : ℕ) → is_held (notes_of driver bay) (in_bay old.changes bay) ≡ true → MovesHeads bay old new → Stays (shown driver old spares waiting) (shown driver new spares waiting)
  moved_shown bay held moves = counters_shown moves.media (held_lines_stay old bay new (notes_of driver bay) held moves) moves.memory

-- a question to the machine is a question to the station, if the driver shows the same after it
pub asks_shown : (driver after : Driver) (old new : Rig) (spares : ℕ) (waiting : List DriveCounts) → shown after old spares waiting ≡ shown driver old spares waiting → OnlyAsks old new → HasAsked (shown driver old spares waiting) (shown after new spares waiting)
asks_shown driver after old new spares waiting same asks = record {
  stays = subst (λ (s : StationState). Stays s (shown after new spares waiting)) same (asked_shown after old new spares waiting asks);
  counts = waiting_goes_on old.counters new.counters waiting asks.counts;
  idle = waiting_driven 0 old.counters new.counters waiting asks.driven;
}

-- other notes on a bay are shown by that bay
pub noted_shown : (driver after : Driver) (rig : Rig) (spares : ℕ) (waiting : List DriveCounts) (bay : ℕ) (notes : Notes) → after ≡ with_notes driver bay notes → shown after rig spares waiting ≡ set_bay (shown driver rig spares waiting) bay (bay_shown notes (in_bay rig.media bay) (in_bay rig.changes bay))
noted_shown driver after rig spares waiting bay notes is = ap (λ (d : Driver). shown d rig spares waiting) is ∙ by_bay (bay == 0)
  where
    by_bay : (is_first : Bool) → shown (if is_first then record driver { first = notes } else record driver { second = notes }) rig spares waiting ≡ record (shown driver rig spares waiting) { bays = if is_first then record (shown driver rig spares waiting).bays { first = bay_shown notes (if is_first then rig.media.first else rig.media.second) (if is_first then rig.changes.first else rig.changes.second) } else record (shown driver rig spares waiting).bays { second = bay_shown notes (if is_first then rig.media.first else rig.media.second) (if is_first then rig.changes.first else rig.changes.second) } }
    by_bay true = refl
    by_bay false = refl

-- other known cylinders aren't shown
pub known_shown : (driver after : Driver) (rig : Rig) (spares : ℕ) (waiting : List DriveCounts) (bay : ℕ) (known : Option ℕ) → after ≡ with_notes driver bay (record (notes_of driver bay) { known = known }) → shown after rig spares waiting ≡ shown driver rig spares waiting
known_shown driver after rig spares waiting bay known is = ap (λ (d : Driver). shown d rig spares waiting) is ∙ by_bay (bay == 0)
  where
    by_bay : (is_first : Bool) → shown (if is_first then record driver { first = record (if is_first then driver.first else driver.second) { known = known } } else record driver { second = record (if is_first then driver.first else driver.second) { known = known } }) rig spares waiting ≡ shown driver rig spares waiting
    by_bay true = refl
    by_bay false = refl

-- ---- the agreement of driver and machine

abbrev pub IsNotedAt : Driver → Rig → ℕ → Type 0
IsNotedAt driver rig bay = IsNoted (notes_of driver bay) (in_bay rig.media bay) (in_bay rig.changes bay) (in_bay rig.spun bay) (in_bay rig.numbers bay) (in_bay rig.cylinders bay) (faults_of rig.counters bay)

pub noted_at : (driver : Driver) (rig : Rig) (bay : ℕ) → IsAttached driver rig → IsNotedAt driver rig bay
noted_at driver rig bay attached = by_bay (bay == 0)
  where
    by_bay : (is_first : Bool) → IsNoted (if is_first then driver.first else driver.second) (if is_first then rig.media.first else rig.media.second) (if is_first then rig.changes.first else rig.changes.second) (if is_first then rig.spun.first else rig.spun.second) (if is_first then rig.numbers.first else rig.numbers.second) (if is_first then rig.cylinders.first else rig.cylinders.second) (if is_first then rig.counters.drives.first else rig.counters.drives.second).faults
    by_bay true = attached.first
    by_bay false = attached.second

-- the agreement follows from that of a bay and of the other bay
pub attached_from : (driver : Driver) (rig : Rig) (bay : ℕ) → bay ≤ 1 → IsNotedAt driver rig bay → IsNotedAt driver rig (1 - bay) → IsAttached driver rig
attached_from driver rig zero in_range this other = record { first = this; second = other }
attached_from driver rig (suc zero) in_range this other = record { first = other; second = this }
attached_from driver rig (suc (suc n)) in_range this other = absurd (omega arith)

-- the notes on a drive stay true if nothing but its count and its speed changed
pub noted_later : (notes : Notes) (medium medium' : Option Disk) (line line' spun spun' : Bool) (pcn pcn' cylinder cylinder' faults faults' : ℕ) → (medium' ≡ None → medium ≡ None) → line' ≡ line → (spun ≡ true → spun' ≡ true) → pcn' ≡ pcn → cylinder' ≡ cylinder → faults ≤ faults' → IsNoted notes medium line spun pcn cylinder faults → IsNoted notes medium' line' spun' pcn' cylinder' faults'
noted_later notes medium medium' line line' spun spun' pcn pcn' cylinder cylinder' faults faults' empty same speed number place more noted =
    let held : is_held notes line' ≡ true → is_held notes line ≡ true = λ h. ap (λ (b : Bool). is_held notes b) (sym same) ∙ h in
    record {
      empty = λ none. same ∙ noted.empty (empty none);
      spun = λ h. speed (noted.spun (held h));
      kept = λ h. let k = noted.kept (held h) in omega arith;
      number = λ c e. number ∙ noted.number c e;
      range = noted.range;
      stands = λ c e h counted below. let k = noted.kept (held h) in place ∙ noted.stands c e (held h) (omega arith) (omega arith);
    }

pub spun_at : (old new : Two Bool) (bay : ℕ) → StaysSpun old new → in_bay old bay ≡ true → in_bay new bay ≡ true
spun_at old new bay stays =
    elim (bay == 0) as (λ f. (if f then old.first else old.second) ≡ true → (if f then new.first else new.second) ≡ true) [ true ↦ stays.first | false ↦ stays.second ]

module _ (driver : Driver) (old new : Rig) (counts : GoesOn old.counters new.counters) where
  -- if heads, numbers and lines stay, and no medium is taken out, the notes stay true
  noted_stays : (bay : ℕ) → HeadsStay old new → (in_bay new.media bay ≡ None → in_bay old.media bay ≡ None) → IsNotedAt driver old bay → IsNotedAt driver new bay
  noted_stays bay heads media noted =
      noted_later (notes_of driver bay) _ _ _ _ _ _ _ _ _ _ _ _ media (ap (λ (t : Two Bool). in_bay t bay) heads.changes)
      (spun_at old.spun new.spun bay heads.spun) (ap (λ (t : Two ℕ). in_bay t bay) heads.numbers) (ap (λ (t : Two ℕ). in_bay t bay) heads.cylinders)
      (faults_go_on old.counters new.counters bay counts) noted

  pub attached_stays : HeadsStay old new → (in_bay new.media 0 ≡ None → in_bay old.media 0 ≡ None) → (in_bay new.media 1 ≡ None → in_bay old.media 1 ≡ None) → IsAttached driver old → IsAttached driver new
  attached_stays heads first second attached = record {
    first = noted_stays 0 heads first attached.first;
    second = noted_stays 1 heads second attached.second;
  }

  -- the notes on the other bay stay true when heads of this bay moved
  pub noted_other : (bay : ℕ) → bay ≤ 1 → MovesHeads bay old new → IsNotedAt driver old (1 - bay) → IsNotedAt driver new (1 - bay)
  noted_other bay in_range moves noted =
      let other = 1 - bay in
      noted_later (notes_of driver other) _ _ _ _ _ _ _ _ _ _ _ _ (λ none. ap (λ (t : Two (Option Disk)). in_bay t other) (sym moves.media) ∙ none)
      (other_line bay in_range moves.changes) (spun_at old.spun new.spun other moves.spun) moves.other_number moves.other_cylinder
      (faults_go_on old.counters new.counters other counts) noted
    where
      other_line : (n : ℕ) → n ≤ 1 → (new.changes ≡ old.changes) ⊎ (new.changes ≡ with_bay old.changes n false) → in_bay new.changes (1 - n) ≡ in_bay old.changes (1 - n)
      other_line n small (inl same) = ap (λ (t : Two Bool). in_bay t (1 - n)) same
      other_line zero small (inr cleared) = ap (λ (t : Two Bool). t.second) cleared
      other_line (suc zero) small (inr cleared) = ap (λ (t : Two Bool). t.first) cleared
      other_line (suc (suc n)) small (inr cleared) = absurd (omega arith)

pub attached_same : (driver : Driver) (old new : Rig) → HeadsStay old new → new.media ≡ old.media → GoesOn old.counters new.counters → IsAttached driver old → IsAttached driver new
attached_same driver old new heads media counts =
    attached_stays driver old new counts heads
    (λ none. ap (λ (t : Two (Option Disk)). t.first) (sym media) ∙ none) (λ none. ap (λ (t : Two (Option Disk)). t.second) (sym media) ∙ none)

-- the agreement after a write, if the medium of the bay stays in
pub attached_written : (driver : Driver) (old new : Rig) (bay : ℕ) → bay ≤ 1 → GoesOn old.counters new.counters → HeadsStay old new → in_bay new.media (1 - bay) ≡ in_bay old.media (1 - bay) → (in_bay new.media bay ≡ None → in_bay old.media bay ≡ None) → IsAttached driver old → IsAttached driver new
attached_written driver old new zero in_range counts heads other stays = attached_stays driver old new counts heads stays (λ none. sym other ∙ none)
attached_written driver old new (suc zero) in_range counts heads other stays = attached_stays driver old new counts heads (λ none. sym other ∙ none) stays
attached_written driver old new (suc (suc n)) in_range counts heads other stays = absurd (omega arith)

-- ---- other notes on a bay

pub notes_set : (driver : Driver) (bay : ℕ) (notes : Notes) → notes_of (with_notes driver bay notes) bay ≡ notes
notes_set driver bay notes =
    elim (bay == 0) as (λ f. let put : Driver = (if f then record driver { first = notes } else record driver { second = notes }) in (if f then put.first else put.second) ≡ notes) [ true ↦ refl | false ↦ refl ]

pub other_notes : (driver : Driver) (bay : ℕ) (notes : Notes) → bay ≤ 1 → notes_of (with_notes driver bay notes) (1 - bay) ≡ notes_of driver (1 - bay)
other_notes driver (suc (suc n)) notes in_range = absurd (omega arith)
other_notes driver _ notes in_range = refl

-- the agreement with new notes on a bay follows from what is true of its drive and of the other
pub attached_with : (driver after : Driver) (rig : Rig) (bay : ℕ) (notes : Notes) → bay ≤ 1 → after ≡ with_notes driver bay notes → IsNoted notes (in_bay rig.media bay) (in_bay rig.changes bay) (in_bay rig.spun bay) (in_bay rig.numbers bay) (in_bay rig.cylinders bay) (faults_of rig.counters bay) → IsNotedAt driver rig (1 - bay) → IsAttached after rig
attached_with driver after rig bay notes in_range is noted other =
    let NotedBy : Notes → ℕ → Type 0 = λ n b. IsNoted n (in_bay rig.media b) (in_bay rig.changes b) (in_bay rig.spun b) (in_bay rig.numbers b) (in_bay rig.cylinders b) (faults_of rig.counters b) in
    let this : notes_of after bay ≡ notes = ap (λ (d : Driver). notes_of d bay) is ∙ notes_set driver bay notes in
    let that : notes_of after (1 - bay) ≡ notes_of driver (1 - bay) = ap (λ (d : Driver). notes_of d (1 - bay)) is ∙ other_notes driver bay notes in_range in
    attached_from after rig bay in_range
    (subst (λ (n : Notes). NotedBy n bay) (sym this) noted)
    (subst (λ (n : Notes). NotedBy n (1 - bay)) (sym that) other)

-- the same if the heads of no other drive moved
pub attached_noted : (driver after : Driver) (old new : Rig) (bay : ℕ) (notes : Notes) → bay ≤ 1 → after ≡ with_notes driver bay notes → MovesHeads bay old new → IsNoted notes (in_bay new.media bay) (in_bay new.changes bay) (in_bay new.spun bay) (in_bay new.numbers bay) (in_bay new.cylinders bay) (faults_of new.counters bay) → IsAttached driver old → IsAttached after new
attached_noted driver after old new bay notes in_range is moves noted attached =
    attached_with driver after new bay notes in_range is noted
    (noted_other driver old new moves.counts bay in_range moves (noted_at driver old (1 - bay) attached))
