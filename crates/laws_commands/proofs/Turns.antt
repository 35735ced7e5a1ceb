-- No request makes a revolution of a medium longer, except one that puts a medium in.
use Rattle.std.proofs.Common.{arith, ◌≡◌, ◌∙◌, ℕ, suc, ◌≤◌, ◌-◌, ◌==◌, replicate, Bool, true, false, if◌then◌else◌, All, List, [], ◌∷◌, refl, ap, sym, subst, Option, Some, None, Result, Ok, Err}
use Rattle.std.specs.Prelude.{MatchBool, MatchOption}
use Rattle.laws_commands.proofs.Common.{Two, both, in_bay, with_items, Files, after_store, gap_at, Code, BadRequest, Chrn, Disk, Request, Change, Written, Format, Laying, Reply, turn_of, StationState, Bay, Becomes, bay_of, set_bay, fresh_bay, IsRefusedAtOnce, is_bay, write_refusal, format_refusal, rate_refusal, AcksDrive, SetsRate, ReadsDrive, Reaches, ChangesDisk, WritesDrive, Lays, LaysDisk, FormatsDrive, State, ChangesMedium, Step, Does, refusal_of, Taken, Run, requests_of, AreWithin, IsWithin, SetsAtMost, PutsShort, ArePutShort}
use Rattle.laws_commands.proofs.Steps.{either}
use Rattle.laws_commands.proofs.Verified.{image_ranges}
use Rattle.floppy_jobs.specs.declared.request.Request.TheVariants as request

-- no revolution of a medium is longer than the limit of its bay, and no more attempts are set than this
pub record HasTurns (limit : Two ℕ) (tries : ℕ) (station : StationState) : Type 0 where
  pub first : turn_of station.bays.first.medium ≤ limit.first
  pub second : turn_of station.bays.second.medium ≤ limit.second
  pub attempts : station.tries ≤ tries

-- what a request puts in or sets is within these bounds
abbrev pub IsFair : Two ℕ → ℕ → Request → State → Type 0
IsFair limit tries (request.Insert bay name) after = PutsShort (in_bay limit bay) (request.Insert bay name) after
IsFair limit tries (request.Blank bay name cylinders) after = PutsShort (in_bay limit bay) (request.Blank bay name cylinders) after
IsFair limit tries (request.BlankDd bay name cylinders) after = PutsShort (in_bay limit bay) (request.BlankDd bay name cylinders) after
IsFair limit tries asked after = SetsAtMost tries asked

-- ---- Bays.

-- the bay that was set
pub bay_set : (station : StationState) (bay : ℕ) (value : Bay) → bay_of (set_bay station bay value) bay ≡ value
bay_set station bay value = go (bay == 0)
  where
    go : (first : Bool) → (let bays = if first then record station.bays { first = value } else record station.bays { second = value } in
        if first then bays.first else bays.second) ≡ value
    go true = refl
    go false = refl

module _ (limit : Two ℕ) (tries : ℕ) where
  becomes_turns : (target new : StationState) → Becomes target new → HasTurns limit tries target → HasTurns limit tries new
  becomes_turns target new becomes has =
      subst (HasTurns limit tries) (sym becomes) (record { first = has.first; second = has.second; attempts = has.attempts })

  set_turns : (station : StationState) (bay : ℕ) (value : Bay) → turn_of value.medium ≤ in_bay limit bay → HasTurns limit tries station
      → HasTurns limit tries (set_bay station bay value)
  set_turns station bay value short has = go (bay == 0) short
    where
      go : (first : Bool) → turn_of value.medium ≤ (if first then limit.first else limit.second)
          → HasTurns limit tries (record station { bays = (if first then record station.bays { first = value } else record station.bays { second = value }) })
      go true short = record { first = short; second = has.second; attempts = has.attempts }
      go false short = record { first = has.first; second = short; attempts = has.attempts }

  pub turn_in : (station : StationState) (bay : ℕ) → HasTurns limit tries station → turn_of (bay_of station bay).medium ≤ in_bay limit bay
  turn_in station bay has = go (bay == 0)
    where
      go : (first : Bool) → turn_of (if first then station.bays.first else station.bays.second).medium ≤ (if first then limit.first else limit.second)
      go true = has.first
      go false = has.second

  -- a bay has another value, whose medium has no longer revolution than the one before
  kept_turns : (old new : StationState) (bay : ℕ) (value : Bay) → turn_of value.medium ≡ turn_of (bay_of old bay).medium → Becomes (set_bay old bay value) new
      → HasTurns limit tries old → HasTurns limit tries new
  kept_turns old new bay value same becomes has = grind (arith, turn_in, becomes_turns, set_turns)

  refused_turns : {A : Type 0} (code : Code) (old : StationState) (answer : Result A Code) (new : StationState) → IsRefusedAtOnce code old answer new
      → HasTurns limit tries old → HasTurns limit tries new
  refused_turns code old answer new refused has = becomes_turns old new refused.stays has

-- ---- Writes and formats.

changes_words : (written : Written) (disk : Disk) (changes : List Change) (after : Disk) → ChangesDisk written disk changes after
    → after.words_per_track ≡ disk.words_per_track
changes_words written disk [] after is = ap (λ (d : Disk). d.words_per_track) is
changes_words written disk (change ∷ later) after is = changes_words written is.0 later after is.2 ∙ is.1.cut.words_per_track

lays_words : (format : Format) (disk : Disk) (layings : List Laying) (after : Disk) → LaysDisk format disk layings after
    → after.words_per_track ≡ disk.words_per_track
lays_words format disk [] after is = ap (λ (d : Disk). d.words_per_track) is
lays_words format disk (laying ∷ later) after is = lays_words format is.0 later after is.2 ∙ is.1.laid.words_per_track

reach_turn : (written : Written) (before : Option Disk) (changes : List Change) (after : Option Disk) → Reaches written before changes after
    → turn_of after ≡ turn_of before
reach_turn written (Some disk) changes (Some after) reach = changes_words written disk changes after reach
reach_turn written (Some disk) changes None reach = absurd reach
reach_turn written None changes after reach = ap turn_of reach.1

lays_turn : (format : Format) (before : Option Disk) (layings : List Laying) (after : Option Disk) → Lays format before layings after
    → turn_of after ≡ turn_of before
lays_turn format (Some disk) layings (Some after) lays = lays_words format disk layings after lays
lays_turn format (Some disk) layings None lays = absurd lays
lays_turn format None layings after lays = ap turn_of lays.1

-- ---- Steps.

module _ (limit : Two ℕ) (tries : ℕ) where
  changed_turns : (bay : ℕ) (name : Option (List ℕ)) (medium : Option Disk) (old new : State) → turn_of medium ≤ in_bay limit bay
      → ChangesMedium bay name medium old new → HasTurns limit tries old.station → HasTurns limit tries new.station
  changed_turns bay name medium old new short changes has = grind (arith, becomes_turns, set_turns)

  put_turns : (bay : ℕ) (name : Option (List ℕ)) (disk : Disk) (old new : State) → turn_of (bay_of new.station bay).medium ≤ in_bay limit bay
      → ChangesMedium bay name (Some disk) old new → HasTurns limit tries old.station → HasTurns limit tries new.station
  put_turns bay name disk old new short changes has = grind (arith, bay_set, changed_turns)

  acks_turns : (bay : ℕ) (old : StationState) (called : Result (Unit {0}) Code) (new : StationState) → AcksDrive bay old called new
      → HasTurns limit tries old → HasTurns limit tries new
  acks_turns bay old (Ok u) new drive has = grind (arith, kept_turns)
  acks_turns bay old (Err code) new drive has = kept_turns limit tries old new bay (fresh_bay (bay_of old bay).medium) refl drive.refused.becomes has

  ack_turns : (good : Bool) (bay : ℕ) (old : StationState) (called : Result (Unit {0}) Code) (new : StationState)
      → MatchBool good (AcksDrive bay old called new) (IsRefusedAtOnce BadRequest old called new) → HasTurns limit tries old → HasTurns limit tries new
  ack_turns true bay old called new acks has = acks_turns bay old called new acks has
  ack_turns false bay old called new acks has = refused_turns limit tries BadRequest old called new acks has

  read_turns : (bay : ℕ) (key : Chrn) (address : ℕ) (old : StationState) (called : Result Bool Code) (new : StationState)
      → ReadsDrive bay key address old called new → HasTurns limit tries old → HasTurns limit tries new
  read_turns bay key address old (Ok deleted) new drive has =
      becomes_turns limit tries (record old { memory = with_items old.memory address drive.found.content }) new drive.found.becomes
      (record { first = has.first; second = has.second; attempts = has.attempts })
  read_turns bay key address old (Err code) new drive has =
      becomes_turns limit tries (record old { memory = new.memory }) new drive.refused.becomes
      (record { first = has.first; second = has.second; attempts = has.attempts })

  write_turns : (written : Written) (bay : ℕ) (old : StationState) (called : Result (Unit {0}) Code) (new : StationState)
      → WritesDrive written bay old called new → HasTurns limit tries old → HasTurns limit tries new
  write_turns written bay old called new drive has =
      kept_turns limit tries old new bay (record (bay_of old bay) { medium = (bay_of new bay).medium })
      (reach_turn written (bay_of old bay).medium drive.changes (bay_of new bay).medium drive.reach) drive.becomes has

  format_turns : (format : Format) (bay : ℕ) (old : StationState) (called : Result (Unit {0}) Code) (new : StationState)
      → FormatsDrive format bay old called new → HasTurns limit tries old → HasTurns limit tries new
  format_turns format bay old called new drive has =
      kept_turns limit tries old new bay (record (bay_of old bay) { medium = (bay_of new bay).medium })
      (lays_turn format (bay_of old bay).medium drive.layings (bay_of new bay).medium drive.lays) drive.becomes has

  -- a call that may be refused at once
  called_turns : {A P : Type 0} (refusal : Option Code) (called : Result A Code) (old new : StationState)
      → MatchOption refusal P (λ code. IsRefusedAtOnce code old called new) → (P → HasTurns limit tries old → HasTurns limit tries new)
      → HasTurns limit tries old → HasTurns limit tries new
  called_turns refusal called old new step reached has =
      either refusal step (λ p. reached p has) (λ code refused. refused_turns limit tries code old called new refused has)

  does_turns : (old new : State) (told after : Option Files) (asked : Request) (answer : Reply) → IsFair limit tries asked new
      → Does asked old told answer new after → HasTurns limit tries old.station → HasTurns limit tries new.station
  does_turns old new told after (request.Insert bay name) answer fair does has = put_turns bay (Some name) does.2.0 old new fair does.2.2 has
  does_turns old new told after (request.Blank bay name cylinders) answer fair does has = changed_turns bay (Some name) _ old new fair does.2 has
  does_turns old new told after (request.BlankDd bay name cylinders) answer fair does has = changed_turns bay (Some name) _ old new fair does.2 has
  does_turns old new told after (request.Eject bay) answer fair does has = changed_turns bay None None old new (omega arith) does.1.4 has
  does_turns old new told after (request.Ack bay) answer fair does has = ack_turns (is_bay bay) bay old.station does.1.0 new.station does.1.2 has
  does_turns old new told after (request.Read bay key address) answer fair does has = grind (arith, called_turns, read_turns)
  does_turns old new told after (request.Write bay key address) answer fair does has =
      called_turns (write_refusal old.station bay key address) does.1.0 old.station new.station does.1.2
      (write_turns _ bay old.station does.1.0 new.station) has
  does_turns old new told after (request.WriteDeleted bay key address) answer fair does has =
      called_turns (write_refusal old.station bay key address) does.1.0 old.station new.station does.1.2
      (write_turns _ bay old.station does.1.0 new.station) has
  does_turns old new told after (request.Format bay c h) answer fair does has =
      called_turns (format_refusal old.station bay c h (gap_at (bay_of old.station bay).rate)) does.1.0 old.station new.station does.1.2
      (format_turns _ bay old.station does.1.0 new.station) has
  does_turns old new told after (request.Fill address count byte) answer fair does has =
      becomes_turns limit tries (record old.station { memory = with_items old.station.memory address (replicate count byte) }) new.station does.2.becomes
      (record { first = has.first; second = has.second; attempts = has.attempts })
  does_turns old new told after (request.Dump address count) answer fair does has = becomes_turns limit tries old.station new.station does.2.stays has
  does_turns old new told after (request.Unit bay) answer fair does has =
      let emptied = set_turns limit tries old.station bay (fresh_bay None) (omega arith) has in
      becomes_turns limit tries (record (set_bay old.station bay (fresh_bay None)) { spares = old.station.spares - 1 }) new.station does.3.becomes
      (record { first = emptied.first; second = emptied.second; attempts = emptied.attempts })
  does_turns old new told after (request.SetRate bay rate) answer fair does has =
      called_turns (rate_refusal old.station bay) does.1.0 old.station new.station does.1.2
      (λ (sets : SetsRate bay rate old.station does.1.0 new.station).
      kept_turns limit tries old.station new.station bay (record (bay_of old.station bay) { rate = rate }) refl sets.becomes) has
  does_turns old new told after (request.Tries set) answer fair does has =
      becomes_turns limit tries (record old.station { tries = set }) new.station does.2.becomes
      (record { first = has.first; second = has.second; attempts = fair })

  pub step_turns : (old new : State) (told after : Option Files) (asked : Request) (answer : Reply) → IsFair limit tries asked new
      → Step asked old told answer new after → HasTurns limit tries old.station → HasTurns limit tries new.station
  step_turns old new told after asked answer fair step has = grind (arith, either, does_turns, becomes_turns)

-- ---- Courses.

as_turns : (turn tries : ℕ) (station : StationState) → IsWithin turn tries station → HasTurns (both turn) tries station
as_turns turn tries station is = record { first = is.first; second = is.second; attempts = is.attempts }

as_within : (turn tries : ℕ) (station : StationState) → HasTurns (both turn) tries station → IsWithin turn tries station
as_within turn tries station has = record { first = has.first; second = has.second; attempts = has.attempts }

in_both : (turn bay : ℕ) → in_bay (both turn) bay ≡ turn
in_both turn bay = go (bay == 0)
  where
    go : (first : Bool) → (if first then turn else turn) ≡ turn
    go true = refl
    go false = refl

fair_in_both : (turn tries : ℕ) (asked : Request) (after : State) → PutsShort turn asked after → SetsAtMost tries asked → IsFair (both turn) tries asked after
fair_in_both turn tries (request.Insert bay name) after short few = let is = in_both turn bay in omega (arith, is, short)
fair_in_both turn tries (request.Blank bay name cylinders) after short few = let is = in_both turn bay in omega (arith, is, short)
fair_in_both turn tries (request.BlankDd bay name cylinders) after short few = let is = in_both turn bay in omega (arith, is, short)
fair_in_both turn tries (request.Tries set) after short few = few
fair_in_both turn tries _ after short few = tt

-- one step, and the stations of the steps after it
step_within : (turn tries : ℕ) (old new : State) (told after : Option Files) (asked : Request) (answer : Reply) → PutsShort turn asked new → SetsAtMost tries asked
    → Step asked old told answer new after → IsWithin turn tries old.station → IsWithin turn tries new.station
step_within turn tries old new told after asked answer short few step is =
    as_within turn tries new.station
    (step_turns (both turn) tries old new told after asked answer (fair_in_both turn tries asked new short few) step (as_turns turn tries old.station is))

pub course_short : (turn tries : ℕ) (old new : State) (told after : Option Files) (course : List Taken) → Run old told course new after
    → ArePutShort turn tries course → IsWithin turn tries old.station → AreWithin turn tries old.station course
course_short turn tries old new told after [] run short is = tt
course_short turn tries old new told after (taken ∷ later) run short is =
    let next = step_within turn tries old taken.after told run.0 taken.asked taken.answer short.0 short.1 run.1 is in
    (is, course_short turn tries taken.after new run.0 after later run.2 short.2 next)

-- ---- Told files.

-- the files are still told after a step
still_told : (old new : State) (files : Files) (after : Option Files) (asked : Request) (answer : Reply) → Step asked old (Some files) answer new after
    → (more : Files) × (after ≡ Some more)
still_told old new files after asked answer step =
    either (refusal_of old asked) step (λ does. done asked does) (λ cause refused. (files, refused.files))
  where
    done : (asked : Request) → Does asked old (Some files) answer new after → (more : Files) × (after ≡ Some more)
    done (request.Insert bay name) does = (files, does.1)
    done (request.Blank bay name cylinders) does = (files, does.1)
    done (request.BlankDd bay name cylinders) does = (files, does.1)
    done (request.Eject bay) does = (after_store files does.1.1 _, does.1.5)
    done (request.Ack bay) does = (files, does.0.files)
    done (request.Read bay key address) does = (files, does.0.files)
    done (request.Write bay key address) does = (files, does.0.files)
    done (request.WriteDeleted bay key address) does = (files, does.0.files)
    done (request.Format bay c h) does = (files, does.0.files)
    done (request.Fill address count byte) does = (files, does.1)
    done (request.Dump address count) does = (files, does.1)
    done (request.Unit bay) does = (files, does.1)
    done (request.SetRate bay rate) does = (files, does.0.files)
    done (request.Tries tries) does = (files, does.0.files)

-- a disk of a told file has at most 16,384 words a track
inserted_short : (tries : ℕ) (old new : State) (files : Files) (after : Option Files) (bay : ℕ) (name : List ℕ) (answer : Reply)
    → Step (request.Insert bay name) old (Some files) answer new after → IsWithin 16384 tries old.station
    → turn_of (bay_of new.station bay).medium ≤ 16384
inserted_short tries old new files after bay name answer step is =
    either (refusal_of old (request.Insert bay name)) step
    (λ does.
    let there : turn_of (bay_of new.station bay).medium ≡ does.2.0.words_per_track =
    ap (λ (s : StationState). turn_of (bay_of s bay).medium) does.2.2.exchanged.becomes
    ∙ ap (λ (b : Bay). turn_of b.medium) (bay_set old.station bay (fresh_bay (Some does.2.0))) in
    let ranges = image_ranges files name does.2.0 does.2.1 in
    let short = ranges.3 in
    omega (arith, there, short))
    (λ cause refused.
    let kept = becomes_turns (both 16384) tries old.station new.station refused.same.stays (as_turns 16384 tries old.station is) in
    let limit = in_both 16384 bay in
    let short = turn_in (both 16384) tries new.station bay kept in
    omega (arith, limit, short))

puts_short : (tries : ℕ) (old new : State) (files : Files) (after : Option Files) (asked : Request) (answer : Reply)
    → Step asked old (Some files) answer new after → IsWithin 16384 tries old.station → PutsShort 16384 asked new
puts_short tries old new files after (request.Insert bay name) answer step is = inserted_short tries old new files after bay name answer step is
puts_short tries old new files after (request.Blank bay name cylinders) answer step is = omega arith
puts_short tries old new files after (request.BlankDd bay name cylinders) answer step is = omega arith
puts_short tries old new files after _ answer step is = tt

pub told_short : (tries : ℕ) (old new : State) (files : Files) (after : Option Files) (course : List Taken) → Run old (Some files) course new after
    → All (SetsAtMost tries) (requests_of course) → IsWithin 16384 tries old.station → AreWithin 16384 tries old.station course
told_short tries old new files after [] run few is = tt
told_short tries old new files after (taken ∷ later) run few is =
    let here : SetsAtMost tries taken.asked = few 0 taken.asked (omega arith) in
    let short = puts_short tries old taken.after files run.0 taken.asked taken.answer run.1 is in
    let next = step_within 16384 tries old taken.after (Some files) run.0 taken.asked taken.answer short here run.1 is in
    let still = still_told old taken.after files run.0 taken.asked taken.answer run.1 in
    let rest = subst (λ (f : Option Files). Run taken.after f later new after) still.1 run.2 in
    (is, told_short tries taken.after new still.0 after later rest (λ k default within. few (suc k) default (omega (arith, within))) next)
