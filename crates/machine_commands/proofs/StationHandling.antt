-- What driver and machine owe each other after something was done past the driver.
use Rattle.std.proofs.Common.{◌≡◌, ℕ, zero, suc, ◌-◌, ◌≤◌, Bool, true, false, refl, sym, ap, ◌∙◌, arith, List, ◌==◌, if◌then◌else◌, ◌<◌, subst}
use Rattle.std.specs.Prelude.{◌&&◌, Option, Some, None, Result, Ok, Err, is_some, MatchOption, not, is_err, IsSome, is_ok, MatchBool}
use Rattle.machine_commands.proofs.Common.{Disk, Two, in_bay, with_bay, DriveCounts, GoesOn, faults_of, faults_go_on, Rig, Untouched, Exchanged, PutsIn, TakesOut, PutsMemory, ExchangesDrive, Notes, Driver, IsNoted, IsAttached, Chrn, Code, Change, Written, Format, Laying, StationState, bay_of, IsRefusedAtOnce, read_refusal, write_refusal, format_refusal, TellsChange, flags_shown, false≢true, R500, Counters, IsPastDriver, Bay, Stays, set_bay, fresh_bay, Inserts, Ejects, Exchanges, IsUnmoved, SetsMemory, bay_shown, with_waiting, flags_of, le-leb, lt-leb, Rate, rate_refusal, Acks, AcksDrive, RatesTo, SetsRate, notes_of, with_rate}
use Rattle.floppy_driver.specs.Shown.{is_held, shown}
use Rattle.sector_model.specs.Reads.{Reads, ReadsDrive}
use Rattle.sector_model.specs.Writes.{WritesTo, WritesDrive, Reaches, written_from}
use Rattle.sector_model.specs.Formats.{FormatsTo, FormatsDrive, Lays}
use Rattle.sector_model.specs.Stations.{Becomes}
use Rattle.machine_commands.specs.declared.flags.Flags.{Flags}
use Rattle.flop_base.specs.declared.answers.Code.TheVariants.{BadRequest}
use Rattle.machine_commands.proofs.Selecting.{flags_medium, flags_put, flags_rate, in_put}

-- the notes on a drive stay true where nothing of the drive changed but its count of faults
noted_later : (notes : Notes) (medium medium' : Option Disk) (line line' spun spun' : Bool) (pcn pcn' cylinder cylinder' faults faults' : ℕ) → medium' ≡ medium → line' ≡ line → spun' ≡ spun → pcn' ≡ pcn → cylinder' ≡ cylinder → faults ≤ faults' → IsNoted notes medium line spun pcn cylinder faults → IsNoted notes medium' line' spun' pcn' cylinder' faults'
noted_later notes medium medium' line line' spun spun' pcn pcn' cylinder cylinder' faults faults' same_medium same speed number place more noted =
    let held : is_held notes line' ≡ true → is_held notes line ≡ true = λ h. ap (λ (b : Bool). is_held notes b) (sym same) ∙ h in
    record {
      empty = λ none. same ∙ noted.empty (sym same_medium ∙ none);
      spun = λ h. speed ∙ noted.spun (held h);
      kept = λ h. let k = noted.kept (held h) in omega arith;
      number = λ c e. number ∙ noted.number c e;
      range = noted.range;
      stands = λ c e h counted below. let k = noted.kept (held h) in place ∙ noted.stands c e (held h) (omega arith) (omega arith);
    }

never_held : (gate : Bool) → (gate && false) ≡ true → ⊥
never_held true held = cc held
never_held false held = cc held

set_held : (notes : Notes) (line : Bool) → line ≡ true → is_held notes line ≡ true → ⊥
set_held notes line set held = never_held notes.gate (ap (λ (b : Bool). is_held notes b) (sym set) ∙ held)

-- where a drive's change line is set, little has to hold of the notes on it
noted_set : (notes : Notes) (medium medium' : Option Disk) (line line' spun spun' : Bool) (pcn pcn' cylinder cylinder' faults faults' : ℕ) → line' ≡ true → pcn' ≡ pcn → IsNoted notes medium line spun pcn cylinder faults → IsNoted notes medium' line' spun' pcn' cylinder' faults'
noted_set notes medium medium' line line' spun spun' pcn pcn' cylinder cylinder' faults faults' set number noted = record {
  empty = λ none. set;
  spun = λ h. absurd (set_held notes line' set h);
  kept = λ h. absurd (set_held notes line' set h);
  number = λ c e. number ∙ noted.number c e;
  range = noted.range;
  stands = λ c e h counted below. absurd (set_held notes line' set h);
}

-- the change line of a bay was set, and the other bay left alone
record SetsLine (old : Rig) (bay : ℕ) (new : Rig) : Type 0 where
  changes : new.changes ≡ with_bay old.changes bay true
  numbers : new.numbers ≡ old.numbers
  other_medium : in_bay new.media (1 - bay) ≡ in_bay old.media (1 - bay)
  other_spun : in_bay new.spun (1 - bay) ≡ in_bay old.spun (1 - bay)
  other_cylinder : in_bay new.cylinders (1 - bay) ≡ in_bay old.cylinders (1 - bay)
  other_faults : faults_of old.counters (1 - bay) ≤ faults_of new.counters (1 - bay)

attached_line : (driver : Driver) (old : Rig) (bay : ℕ) (new : Rig) → bay ≤ 1 → SetsLine old bay new → IsAttached driver old → IsAttached driver new
attached_line driver old zero new in_range sets attached = record {
  first = noted_set driver.first old.media.first new.media.first old.changes.first new.changes.first old.spun.first new.spun.first old.numbers.first new.numbers.first old.cylinders.first new.cylinders.first old.counters.drives.first.faults new.counters.drives.first.faults
      (ap (λ (t : Two Bool). t.first) sets.changes) (ap (λ (t : Two ℕ). t.first) sets.numbers) attached.first;
  second = noted_later driver.second old.media.second new.media.second old.changes.second new.changes.second old.spun.second new.spun.second old.numbers.second new.numbers.second old.cylinders.second new.cylinders.second old.counters.drives.second.faults new.counters.drives.second.faults
      sets.other_medium (ap (λ (t : Two Bool). t.second) sets.changes) sets.other_spun (ap (λ (t : Two ℕ). t.second) sets.numbers) sets.other_cylinder sets.other_faults attached.second;
}
attached_line driver old (suc zero) new in_range sets attached = record {
  first = noted_later driver.first old.media.first new.media.first old.changes.first new.changes.first old.spun.first new.spun.first old.numbers.first new.numbers.first old.cylinders.first new.cylinders.first old.counters.drives.first.faults new.counters.drives.first.faults
      sets.other_medium (ap (λ (t : Two Bool). t.first) sets.changes) sets.other_spun (ap (λ (t : Two ℕ). t.first) sets.numbers) sets.other_cylinder sets.other_faults attached.first;
  second = noted_set driver.second old.media.second new.media.second old.changes.second new.changes.second old.spun.second new.spun.second old.numbers.second new.numbers.second old.cylinders.second new.cylinders.second old.counters.drives.second.faults new.counters.drives.second.faults
      (ap (λ (t : Two Bool). t.second) sets.changes) (ap (λ (t : Two ℕ). t.second) sets.numbers) attached.second;
}
attached_line driver old (suc (suc n)) new in_range sets attached = absurd (omega arith)

other_put : {T : Type 0} (old new : Two T) (bay : ℕ) (value : T) → bay ≤ 1 → new ≡ with_bay old bay value → in_bay new (1 - bay) ≡ in_bay old (1 - bay)
other_put old new zero value in_range is = ap (λ (t : Two _). t.second) is
other_put old new (suc zero) value in_range is = ap (λ (t : Two _). t.first) is
other_put old new (suc (suc n)) value in_range is = absurd (omega arith)

module _ (driver : Driver) (old new : Rig) where
  attached_exchanged : (bay : ℕ) (medium : Option Disk) → bay ≤ 1 → Exchanged bay medium old new → IsAttached driver old → IsAttached driver new
  attached_exchanged bay medium in_range exchanged = attached_line driver old bay new in_range (record {
    changes = exchanged.changes;
    numbers = exchanged.numbers;
    other_medium = other_put old.media new.media bay medium in_range exchanged.media;
    other_spun = exchanged.other_spun;
    other_cylinder = ap (λ (t : Two ℕ). in_bay t (1 - bay)) exchanged.cylinders;
    other_faults = faults_go_on old.counters new.counters (1 - bay) exchanged.counts;
  })

  -- nothing of the drives changed but their counts of faults
  attached_same : new.media ≡ old.media → new.changes ≡ old.changes → new.spun ≡ old.spun → new.numbers ≡ old.numbers → new.cylinders ≡ old.cylinders → GoesOn old.counters new.counters → IsAttached driver old → IsAttached driver new
  attached_same media changes spun numbers cylinders goes attached = record {
    first = noted_later driver.first old.media.first new.media.first old.changes.first new.changes.first old.spun.first new.spun.first old.numbers.first new.numbers.first old.cylinders.first new.cylinders.first old.counters.drives.first.faults new.counters.drives.first.faults
        (ap (λ (t : Two (Option Disk)). t.first) media) (ap (λ (t : Two Bool). t.first) changes) (ap (λ (t : Two Bool). t.first) spun) (ap (λ (t : Two ℕ). t.first) numbers) (ap (λ (t : Two ℕ). t.first) cylinders) goes.first.never_falls attached.first;
    second = noted_later driver.second old.media.second new.media.second old.changes.second new.changes.second old.spun.second new.spun.second old.numbers.second new.numbers.second old.cylinders.second new.cylinders.second old.counters.drives.second.faults new.counters.drives.second.faults
        (ap (λ (t : Two (Option Disk)). t.second) media) (ap (λ (t : Two Bool). t.second) changes) (ap (λ (t : Two Bool). t.second) spun) (ap (λ (t : Two ℕ). t.second) numbers) (ap (λ (t : Two ℕ). t.second) cylinders) goes.second.never_falls attached.second;
  }

  attached_untouched : Untouched old new → IsAttached driver old → IsAttached driver new
  attached_untouched same = attached_same same.media same.changes same.spun same.numbers same.cylinders same.counts

  pub attached_memory : (address byte : ℕ) → PutsMemory address byte old new → IsAttached driver old → IsAttached driver new
  attached_memory address byte step = attached_same step.media step.changes step.spun step.numbers step.cylinders step.counts

module _ (driver : Driver) (old new : Rig) (bay : ℕ) where
  pub attached_inserted : (disk : Disk) (answer : Result (Unit {0}) Disk) → bay ≤ 1 → PutsIn bay disk old answer new → IsAttached driver old → IsAttached driver new
  attached_inserted disk (Ok u) in_range step = attached_exchanged driver old new bay (Some disk) in_range step.1
  attached_inserted disk (Err back) in_range step = attached_untouched driver old new step.2

  pub attached_ejected : (answer : Option Disk) → bay ≤ 1 → TakesOut bay old answer new → IsAttached driver old → IsAttached driver new
  attached_ejected None in_range step = attached_untouched driver old new (step.empty refl)
  attached_ejected (Some disk) in_range step = attached_exchanged driver old new bay None in_range (step.taken_out refl)

  pub attached_unit : (counts : DriveCounts) → bay ≤ 1 → ExchangesDrive bay counts old new → IsAttached driver old → IsAttached driver new
  attached_unit counts in_range exchanged = attached_line driver old bay new in_range (record {
    changes = exchanged.changes;
    numbers = exchanged.numbers;
    other_medium = other_put old.media new.media bay None in_range exchanged.media;
    other_spun = exchanged.other_spun;
    other_cylinder = exchanged.other_cylinder;
    other_faults = let same = ap (λ (d : DriveCounts). d.faults) exchanged.counters.other in omega arith;
  })

-- how calls past the driver change the counts
pub inserted_goes_on : (old new : Rig) (bay : ℕ) (disk : Disk) (answer : Result (Unit {0}) Disk) → PutsIn bay disk old answer new → GoesOn old.counters new.counters
inserted_goes_on old new bay disk (Ok u) step = step.1.counts
inserted_goes_on old new bay disk (Err back) step = step.2.counts

pub ejected_goes_on : (old new : Rig) (bay : ℕ) (answer : Option Disk) → TakesOut bay old answer new → GoesOn old.counters new.counters
ejected_goes_on old new bay None step = (step.empty refl).counts
ejected_goes_on old new bay (Some disk) step = (step.taken_out refl).counts

-- ---- calls of the driver that leave the flags of both bays

-- a request that is refused at once
pub flags_refused : {A : Type 0} (old : StationState) (code : Code) (answer : Result A Code) (new : StationState) → IsRefusedAtOnce code old answer new → flags_shown new ≡ flags_shown old
flags_refused old code answer new refused = ap flags_shown refused.stays

-- a request that is refused at once, or not
flags_either : {A : Type 0} (P : Type 0) (old : StationState) (answer : Result A Code) (new : StationState) (refusal : Option Code) → (P → flags_shown new ≡ flags_shown old)
    → MatchOption refusal P (λ code. IsRefusedAtOnce code old answer new) → flags_shown new ≡ flags_shown old
flags_either P old answer new None does step = does step
flags_either P old answer new (Some code) does refused = ap flags_shown refused.stays

-- a look at the change line
pub flags_told : (old : StationState) (bay : ℕ) (answer : Bool) (new : StationState) → TellsChange bay old answer new → flags_shown new ≡ flags_shown old
flags_told old bay answer new step = ap flags_shown step.stays

-- ---- a read

read_drive : (old : StationState) (bay : ℕ) (key : Chrn) (address : ℕ) (answer : Result Bool Code) (new : StationState) → ReadsDrive bay key address old answer new → flags_shown new ≡ flags_shown old
read_drive old bay key address (Ok deleted) new reads = ap flags_shown reads.found.becomes
read_drive old bay key address (Err code) new reads = ap flags_shown reads.refused.becomes

pub flags_read : (old : StationState) (bay : ℕ) (key : Chrn) (address : ℕ) (answer : Result Bool Code) (new : StationState) → Reads bay key address old answer new → flags_shown new ≡ flags_shown old
flags_read old bay key address answer new step =
    flags_either (ReadsDrive bay key address old answer new) old answer new (read_refusal old bay key address) (read_drive old bay key address answer new) step

-- ---- a write

reaches_some : (written : Written) (before : Option Disk) (changes : List Change) (after : Option Disk) → Reaches written before changes after → is_some after ≡ is_some before
reaches_some written (Some disk) changes (Some after) reach = refl
reaches_some written (Some disk) changes None reach = absurd reach
reaches_some written None changes medium reach = ap is_some reach.1

write_drive : (written : Written) (bay : ℕ) (answer : Result (Unit {0}) Code) (old new : StationState) → WritesDrive written bay old answer new → flags_shown new ≡ flags_shown old
write_drive written bay answer old new writes =
    ap flags_shown writes.becomes
    ∙ flags_medium old.bays bay (bay_of new bay).medium (reaches_some written (bay_of old bay).medium writes.changes (bay_of new bay).medium writes.reach)

pub flags_write : (old : StationState) (bay : ℕ) (key : Chrn) (address : ℕ) (deleted : Bool) (answer : Result (Unit {0}) Code) (new : StationState) → WritesTo bay key address deleted old answer new → flags_shown new ≡ flags_shown old
flags_write old bay key address deleted answer new step =
    let written = written_from old key address deleted in
    flags_either (WritesDrive written bay old answer new) old answer new (write_refusal old bay key address) (write_drive written bay answer old new) step

-- ---- a format

lays_some : (format : Format) (before : Option Disk) (layings : List Laying) (after : Option Disk) → Lays format before layings after → is_some after ≡ is_some before
lays_some format (Some disk) layings (Some after) lays = refl
lays_some format (Some disk) layings None lays = absurd lays
lays_some format None layings medium lays = ap is_some lays.1

format_drive : (format : Format) (bay : ℕ) (answer : Result (Unit {0}) Code) (old new : StationState) → FormatsDrive format bay old answer new → flags_shown new ≡ flags_shown old
format_drive format bay answer old new formats =
    ap flags_shown formats.becomes
    ∙ flags_medium old.bays bay (bay_of new bay).medium (lays_some format (bay_of old bay).medium formats.layings (bay_of new bay).medium formats.lays)

pub flags_format : (old : StationState) (bay c h gap3 fill : ℕ) (answer : Result (Unit {0}) Code) (new : StationState) → FormatsTo bay c h gap3 fill old answer new → flags_shown new ≡ flags_shown old
flags_format old bay c h gap3 fill answer new step =
    let format : Format = record { c = c; h = h; rate = (bay_of old bay).rate; gap3 = gap3; fill = fill } in
    flags_either (FormatsDrive format bay old answer new) old answer new (format_refusal old bay c h gap3) (format_drive format bay answer old new) step

-- ---- calls past the driver, on media and memory

-- ---- counts

pub past_driver : (most : ℕ) (old new : Counters) (before after : List DriveCounts) → IsPastDriver most old new → IsPastDriver most (with_waiting old before) (with_waiting new after)
past_driver most old new before after past = record { accesses = past.accesses; no_commands = past.no_commands; no_cost = past.no_cost }

pub goes_on : (old new : Counters) (waiting : List DriveCounts) → GoesOn old new → GoesOn (with_waiting old waiting) (with_waiting new waiting)
goes_on old new waiting goes = record {
  first = goes.first;
  second = goes.second;
  spares = refl;
  stalls = goes.stalls;
  stalls_spent = goes.stalls_spent;
  data_commands = goes.data_commands;
  taken = goes.taken;
  direct = goes.direct;
}

-- ---- what is shown

none_held : (gate : Bool) → (gate && false) ≡ false
none_held true = refl
none_held false = refl

-- a bay whose change line is set isn't acknowledged
pub line_set : (notes : Notes) (medium : Option Disk) → bay_shown notes medium true ≡ fresh_bay medium
line_set notes medium =
    ap (λ (held : Bool). let b : Bay = record { medium = medium; acknowledged = if held then Some notes.kept else None; rate = if held then notes.rate else R500 } in b) (none_held notes.gate)

abbrev two_bays : Bay → Bay → Two Bay
two_bays a b = record { first = a; second = b }

line_put_at : (b : Bool) (driver : Driver) (media : Two (Option Disk)) (changes : Two Bool) (medium : Option Disk) → (let m : Two (Option Disk) = (if b then record media { first = medium } else record media { second = medium }) in let c : Two Bool = (if b then record changes { first = true } else record changes { second = true }) in two_bays (bay_shown driver.first m.first c.first) (bay_shown driver.second m.second c.second)) ≡ (let two : Two Bay = two_bays (bay_shown driver.first media.first changes.first) (bay_shown driver.second media.second changes.second) in if b then record two { first = fresh_bay medium } else record two { second = fresh_bay medium })
line_put_at true driver media changes medium = ap (λ v. two_bays v (bay_shown driver.second media.second changes.second)) (line_set driver.first medium)
line_put_at false driver media changes medium = ap (λ v. two_bays (bay_shown driver.first media.first changes.first) v) (line_set driver.second medium)

module _ (driver : Driver) (old new : Rig) (spares : ℕ) (waiting : List DriveCounts) where
  -- a bay has this medium or none, and its change line is set
  pub becomes_exchanged : (left : ℕ) (after : List DriveCounts) (bay : ℕ) (medium : Option Disk) → new.media ≡ with_bay old.media bay medium → new.changes ≡ with_bay old.changes bay true → new.memory ≡ old.memory → Becomes (record (set_bay (shown driver old spares waiting) bay (fresh_bay medium)) { spares = left }) (shown driver new left after)
  becomes_exchanged left after bay medium media changes memory =
      rw (media, changes, memory)
      (ap (λ b. let s : StationState = record { bays = b; memory = old.memory; spares = left; tries = driver.tries; counters = with_waiting new.counters after } in s) (line_put_at (bay == 0) driver old.media old.changes medium))

  exchanges : (bay : ℕ) (medium : Option Disk) → Exchanged bay medium old new → Exchanges bay medium (shown driver old spares waiting) (shown driver new spares waiting)
  exchanges bay medium exchanged = record {
    becomes = becomes_exchanged spares waiting bay medium exchanged.media exchanged.changes exchanged.memory;
    access = past_driver 1 old.counters new.counters waiting waiting exchanged.past_driver;
  }

  stays : new.media ≡ old.media → new.changes ≡ old.changes → new.memory ≡ old.memory → Stays (shown driver old spares waiting) (shown driver new spares waiting)
  stays media changes memory = rw (media, changes, memory) refl

  unmoved : Untouched old new → IsUnmoved (shown driver old spares waiting) (shown driver new spares waiting)
  unmoved untouched = record {
    stays = stays untouched.media untouched.changes untouched.memory;
    access = past_driver 1 old.counters new.counters waiting waiting untouched.past_driver;
  }

-- the medium that is shown in a bay
pub medium_at : (driver : Driver) (rig : Rig) (spares : ℕ) (waiting : List DriveCounts) (bay : ℕ) → (bay_of (shown driver rig spares waiting) bay).medium ≡ in_bay rig.media bay
medium_at driver rig spares waiting bay =
    let bays = (shown driver rig spares waiting).bays in
    elim (bay == 0) as (λ b. (if b then bays.first else bays.second).medium ≡ (if b then rig.media.first else rig.media.second)) [ true ↦ refl | false ↦ refl ]

module _ (driver : Driver) (old new : Rig) (spares : ℕ) (waiting : List DriveCounts) (bay : ℕ) where
  -- a medium is put in
  pub inserts : (disk : Disk) (answer : Result (Unit {0}) Disk) → PutsIn bay disk old answer new → Inserts bay disk (shown driver old spares waiting) answer (shown driver new spares waiting)
  inserts disk (Ok u) step = (medium_at driver old spares waiting bay ∙ step.0, exchanges driver old new spares waiting bay (Some disk) step.1)
  inserts disk (Err back) step = (ap is_some (medium_at driver old spares waiting bay) ∙ step.0, step.1, unmoved driver old new spares waiting step.2)

  -- a medium is taken out
  pub ejects : (answer : Option Disk) → TakesOut bay old answer new → Ejects bay (shown driver old spares waiting) answer (shown driver new spares waiting)
  ejects answer step = record {
    medium = step.medium ∙ sym (medium_at driver old spares waiting bay);
    exchanged = λ some. exchanges driver old new spares waiting bay None (step.taken_out some);
    unmoved = λ none. unmoved driver old new spares waiting (step.empty none);
  }

module _ (driver : Driver) (old new : Rig) (spares : ℕ) (waiting : List DriveCounts) where
  -- a byte of memory is set
  pub sets_memory : (address byte : ℕ) → PutsMemory address byte old new → SetsMemory address byte (shown driver old spares waiting) (shown driver new spares waiting)
  sets_memory address byte step = record {
    becomes = rw (step.media, step.changes, step.memory) refl;
    access = past_driver 1 old.counters new.counters waiting waiting step.past_driver;
  }

-- ---- flags

-- the flags of a station in one of whose bays the medium was exchanged
pub flags_exchanged : (old : StationState) (bay : ℕ) (medium : Option Disk) (new : StationState) → Exchanges bay medium old new → flags_shown new ≡ with_bay (flags_shown old) bay (flags_of (fresh_bay medium))
flags_exchanged old bay medium new exchanged = ap flags_shown exchanged.becomes ∙ flags_put old.bays bay (fresh_bay medium)

pub flags_inserted : (old : StationState) (bay : ℕ) (disk : Disk) (answer : Result (Unit {0}) Disk) (new : StationState) → is_err answer ≡ false → Inserts bay disk old answer new → flags_shown new ≡ with_bay (flags_shown old) bay (flags_of (fresh_bay (Some disk)))
flags_inserted old bay disk (Ok u) new fine step = flags_exchanged old bay (Some disk) new step.1
flags_inserted old bay disk (Err back) new fine step = absurd (false≢true (sym fine))

pub flags_given_back : (old : StationState) (bay : ℕ) (disk : Disk) (answer : Result (Unit {0}) Disk) (new : StationState) → is_err answer ≡ true → Inserts bay disk old answer new → flags_shown new ≡ flags_shown old
flags_given_back old bay disk (Ok u) new err step = absurd (false≢true err)
flags_given_back old bay disk (Err back) new err step = ap flags_shown step.2.stays

pub flags_ejected : (old : StationState) (bay : ℕ) (answer : Option Disk) (new : StationState) → IsSome answer → Ejects bay old answer new → flags_shown new ≡ with_bay (flags_shown old) bay (flags_of (fresh_bay None))
flags_ejected old bay answer new some step = flags_exchanged old bay None new (step.exchanged some)

pub flags_none_ejected : (old : StationState) (bay : ℕ) (answer : Option Disk) (new : StationState) → answer ≡ None → Ejects bay old answer new → flags_shown new ≡ flags_shown old
flags_none_ejected old bay answer new none step = ap flags_shown (step.unmoved none).stays

pub flags_memory : (driver : Driver) (old new : Rig) (spares : ℕ) (waiting : List DriveCounts) (address byte : ℕ) (flags : Flags) → PutsMemory address byte old new → flags.bays ≡ flags_shown (shown driver old spares waiting) → flags.bays ≡ flags_shown (shown driver new spares waiting)
flags_memory driver old new spares waiting address byte flags step was =
    was ∙ sym (ap flags_shown (sets_memory driver old new spares waiting address byte step).becomes)

-- ---- answers

pub is_nothing : (o : Option Disk) (told : Bool) → is_some o ≡ not told → told ≡ true → o ≡ None
is_nothing None told is none = refl
is_nothing (Some d) true is none = absurd (false≢true (sym is))
is_nothing (Some d) false is none = absurd (false≢true none)

pub is_something : (o : Option Disk) (told : Bool) → is_some o ≡ not told → told ≡ false → IsSome o
is_something o true is some = absurd (false≢true (sym some))
is_something o false is some = is

-- ---- calls of the driver that change the rate of a bay

-- ---- an acknowledgement

held_rate : (held : Bool) (kept count : ℕ) (rate : Rate) → (if held then Some kept else None) ≡ Some count → (if held then rate else R500) ≡ rate
held_rate true kept count rate held = refl
held_rate false kept count rate held = absurd (cc held)

noted_rate_at : (is_first : Bool) (driver : Driver) (rig : Rig) (spares : ℕ) (waiting : List DriveCounts) (count : ℕ) → (if is_first then (shown driver rig spares waiting).bays.first else (shown driver rig spares waiting).bays.second).acknowledged ≡ Some count → (if is_first then (shown driver rig spares waiting).bays.first else (shown driver rig spares waiting).bays.second).rate ≡ (if is_first then driver.first else driver.second).rate
noted_rate_at true driver rig spares waiting count held = held_rate (is_held driver.first rig.changes.first) driver.first.kept count driver.first.rate held
noted_rate_at false driver rig spares waiting count held = held_rate (is_held driver.second rig.changes.second) driver.second.kept count driver.second.rate held

-- the rate of an acknowledged bay is the noted one
noted_rate : (driver : Driver) (rig : Rig) (spares : ℕ) (waiting : List DriveCounts) (bay count : ℕ) → (bay_of (shown driver rig spares waiting) bay).acknowledged ≡ Some count → (bay_of (shown driver rig spares waiting) bay).rate ≡ (notes_of driver bay).rate
noted_rate driver rig spares waiting bay count held = noted_rate_at (bay == 0) driver rig spares waiting count held

acked_drive : (driver : Driver) (rig : Rig) (spares : ℕ) (waiting : List DriveCounts) (old : StationState) (bay : ℕ) (rate : Rate) (answer : Result (Unit {0}) Code) → AcksDrive bay old answer (shown driver rig spares waiting) → rate ≡ (if is_ok answer then (notes_of driver bay).rate else R500) → flags_shown (shown driver rig spares waiting) ≡ with_rate (flags_shown old) bay rate
acked_drive driver rig spares waiting old bay rate (Ok u) acks is =
    let new = shown driver rig spares waiting in
    let held = acks.done refl in
    let value : Bay = record { medium = Some held.disk; acknowledged = Some (faults_of new.counters bay); rate = held.rate } in
    let bay_is : bay_of new bay ≡ value = ap (λ (s : StationState). bay_of s bay) held.becomes ∙ in_put old.bays bay value in
    let noted : held.rate ≡ (notes_of driver bay).rate = sym (ap (λ (b : Bay). b.rate) bay_is) ∙ noted_rate driver rig spares waiting bay (faults_of new.counters bay) (ap (λ (b : Bay). b.acknowledged) bay_is) in
    ap flags_shown held.becomes ∙ flags_rate old.bays bay value rate (sym (ap is_some held.medium)) (noted ∙ sym is)
acked_drive driver rig spares waiting old bay rate (Err code) acks is =
    ap flags_shown acks.refused.becomes ∙ flags_rate old.bays bay (fresh_bay (bay_of old bay).medium) rate refl (sym is)

-- a bay is at its noted rate if it could be acknowledged, and else at 500 kbit/s
pub flags_acked : (driver : Driver) (rig : Rig) (spares : ℕ) (waiting : List DriveCounts) (old : StationState) (bay : ℕ) (rate : Rate) (answer : Result (Unit {0}) Code) → bay ≤ 1 → Acks bay old answer (shown driver rig spares waiting) → rate ≡ (if is_ok answer then (notes_of driver bay).rate else R500) → flags_shown (shown driver rig spares waiting) ≡ with_rate (flags_shown old) bay rate
flags_acked driver rig spares waiting old bay rate answer in_range step is =
    let new = shown driver rig spares waiting in
    acked_drive driver rig spares waiting old bay rate answer (subst (λ b. MatchBool b (AcksDrive bay old answer new) (IsRefusedAtOnce BadRequest old answer new)) (le-leb bay 1 in_range) step) is

-- there is no such bay
pub flags_no_bay : (old : StationState) (bay : ℕ) (answer : Result (Unit {0}) Code) (new : StationState) → 1 < bay → Acks bay old answer new → flags_shown new ≡ flags_shown old
flags_no_bay old bay answer new above step =
    flags_refused old BadRequest answer new (subst (λ b. MatchBool b (AcksDrive bay old answer new) (IsRefusedAtOnce BadRequest old answer new)) (lt-leb bay 1 above) step)

-- ---- another rate

rate_refused : (old : StationState) (bay : ℕ) (rate : Rate) (answer : Result (Unit {0}) Code) (new : StationState) (refusal : Option Code) → is_err answer ≡ true → MatchOption refusal (SetsRate bay rate old answer new) (λ code. IsRefusedAtOnce code old answer new) → flags_shown new ≡ flags_shown old
rate_refused old bay rate (Ok u) new None err sets = absurd (false≢true err)
rate_refused old bay rate (Err code) new None err sets = absurd (false≢true sets.done)
rate_refused old bay rate answer new (Some code) err refused = flags_refused old code answer new refused

pub flags_rate_refused : (old : StationState) (bay : ℕ) (rate : Rate) (answer : Result (Unit {0}) Code) (new : StationState) → is_err answer ≡ true → RatesTo bay rate old answer new → flags_shown new ≡ flags_shown old
flags_rate_refused old bay rate answer new err step = rate_refused old bay rate answer new (rate_refusal old bay) err step

rate_set : (old : StationState) (bay : ℕ) (rate : Rate) (answer : Result (Unit {0}) Code) (new : StationState) (refusal : Option Code) → is_err answer ≡ false → MatchOption refusal (SetsRate bay rate old answer new) (λ code. IsRefusedAtOnce code old answer new) → flags_shown new ≡ with_rate (flags_shown old) bay rate
rate_set old bay rate answer new None fine sets = ap flags_shown sets.becomes ∙ flags_rate old.bays bay (record (bay_of old bay) { rate = rate }) rate refl refl
rate_set old bay rate (Ok u) new (Some code) fine refused = absurd (cc refused.refused)
rate_set old bay rate (Err error) new (Some code) fine refused = absurd (false≢true (sym fine))

pub flags_rate_set : (old : StationState) (bay : ℕ) (rate : Rate) (answer : Result (Unit {0}) Code) (new : StationState) → is_err answer ≡ false → RatesTo bay rate old answer new → flags_shown new ≡ with_rate (flags_shown old) bay rate
flags_rate_set old bay rate answer new fine step = rate_set old bay rate answer new (rate_refusal old bay) fine step
