-- What each step of a run may do to the media in the bays.
use Rattle.std.proofs.Common.{arith, ◌≡◌, ◌≤◌, ◌∙◌, ℕ, Bool, true, false, true≢false, List, [], ◌∷◌, length, Option, Some, None, Result, Ok, Err, refl, ap, sym, subst, inl, inr, ◌⊎◌}
use Rattle.std.specs.Prelude.{◌&&◌, not, if◌then◌else◌, MatchOption, MatchBool, IsOk, is_some, ◌-◌}
use Rattle.laws_program.proofs.Common.{Two, in_bay, with_bay, option_map_or, Files, Code, Chrn, Disk, Request, Counters, IsDriven, Change, Written, Reply, StationState, Bay, bay_of, set_bay, fresh_bay, Becomes, Stays, State, is_acknowledged, is_protected, write_refusal, format_refusal, rate_refusal, is_bay, is_sector_request, is_format_request, crosses_page, read_refusal, IsRefusedAtOnce, Acks, AcksDrive, Reads, ReadsDrive, IsRead, WritesTo, Reaches, IsWritten, written_from, FormatsTo, Step, refusal_of, read_reply, reply_of, is_refusal, Taken, Run, content_size, EachStep, is_same_bay, exchanges, has_exchanged, IsGuarded, KeepsGuarded, ReadsField, IsWrite, WritesField, WritesAlone, KeepsOtherFields, IsRegularDisk, Format}
use Rattle.laws_program.specs.StoredAgain.{only_reads}
use Rattle.laws_program.proofs.Inserting.{IsHeld, reach_held, lays_held}
use Rattle.laws_program.proofs.AlikeDisks.{sorted, same_bay, other_bay, kept_medium}
use Rattle.flop_base.specs.declared.answers.Code.TheVariants as code
use Rattle.floppy_jobs.specs.declared.request.Request.TheVariants as request
use Rattle.sector_model.specs.declared.reply.Reply.TheVariants as reply

-- ---- steps

pub becomes_medium : (target new : StationState) (bay : ℕ) → Becomes target new → (bay_of new bay).medium ≡ (bay_of target bay).medium
becomes_medium target new bay becomes = ap (λ (s : StationState). (bay_of s bay).medium) becomes

-- one of two cases holds; in the first the value is known to be none
pub either_is : {A : Type 0} {P R : Type 0} {Q : A → Type 0} (value : Option A) → MatchOption value P Q → (value ≡ None → P → R) → ((x : A) → Q x → R) → R
either_is None holds none some = none refl holds
either_is (Some x) holds none some = some x holds

pub either : {A : Type 0} {P R : Type 0} {Q : A → Type 0} (value : Option A) → MatchOption value P Q → (P → R) → ((x : A) → Q x → R) → R
either value holds none some = either_is value holds (λ is. none) some

write_open : (a b c d : Bool)
    → (if not a then Some code.BadRequest else (if b then Some code.Page else (if not c then Some code.Changed else (if d then Some code.Protected else None)))) ≡ None
    → (c ≡ true) × (d ≡ false)
write_open true false true false e = (refl, refl)
write_open _ _ _ _ e = absurd (cc e)

format_open : (a c d : Bool)
    → (if not a then Some code.BadRequest else (if not c then Some code.Changed else (if d then Some code.Protected else None))) ≡ None
    → (c ≡ true) × (d ≡ false)
format_open true true false e = (refl, refl)
format_open _ _ _ e = absurd (cc e)

-- a bay where writing is allowed isn't guarded
unguarded : (station : StationState) (bay : ℕ) → (is_acknowledged station bay ≡ true) × (is_protected station bay ≡ false) → IsGuarded station bay → ⊥
unguarded station bay is (inl unacknowledged) = true≢false (sym is.0 ∙ unacknowledged)
unguarded station bay is (inr protected) = true≢false (sym protected ∙ is.1)

-- a reply that the request was done is no refusal
not_done : (answer : Reply) → answer ≡ reply.Done → is_refusal answer ≡ true → ⊥
not_done answer done refused = true≢false (sym refused ∙ ap is_refusal done)

-- two numbers of one bay have the same guard
guard_at : (station : StationState) (at bay : ℕ) → is_same_bay at bay ≡ true → IsGuarded station bay → IsGuarded station at
guard_at station at bay same guarded =
    let is = same_bay station.bays at bay same in
    subst (λ (b : Bay). (is_some b.acknowledged ≡ false) ⊎ (option_map_or (λ (disk : Disk). disk.protected) b.medium false ≡ true)) (sym is) guarded

-- the request neither puts a medium in nor takes one out, nor exchanges a drive
abbrev pub keeps_media : Request → Bool
keeps_media (request.Insert bay name) = false
keeps_media (request.Blank bay name cylinders) = false
keeps_media (request.BlankDd bay name cylinders) = false
keeps_media (request.Eject bay) = false
keeps_media (request.Unit bay) = false
keeps_media _ = true

-- How such a request alters the bays: it leaves them as they are; it changes one bay, but not its medium; or it writes
-- to the medium of a bay where writing is allowed, and a disk stays a disk.
pub data Alters (asked : Request) (old new : State) : Type 0 where
  Leaves : new.station.bays ≡ old.station.bays → Alters asked old new
  Turns : (at : ℕ) (x : Bay) → new.station.bays ≡ with_bay old.station.bays at x → x.medium ≡ (bay_of old.station at).medium → Alters asked old new
  Overwrites : (at : ℕ) (x : Bay) → new.station.bays ≡ with_bay old.station.bays at x → (IsGuarded old.station at → ⊥) → only_reads asked ≡ false
      → ((name : Option (List ℕ)) → IsHeld name (bay_of old.station at).medium → IsHeld name x.medium) → Alters asked old new

module _ (asked : Request) (old new : State) where
  write_alters : (at address : ℕ) (key : Chrn) (deleted : Bool) (called : Result (Unit {0}) Code) → only_reads asked ≡ false
      → WritesTo at key address deleted old.station called new.station → Alters asked old new
  write_alters at address key deleted called reads writes =
      either_is (write_refusal old.station at key address) writes
      (λ none does. Overwrites at _ (ap (λ (s : StationState). s.bays) does.becomes) (unguarded old.station at (write_open (is_sector_request at key address)
      (crosses_page address (content_size key.n)) (is_acknowledged old.station at) (is_protected old.station at) none)) reads
      (λ name held. reach_held name _ (bay_of old.station at).medium does.changes (bay_of new.station at).medium held does.reach))
      (λ code refused. Leaves (ap (λ (s : StationState). s.bays) refused.stays))

  format_alters : (at c h gap3 fill : ℕ) (called : Result (Unit {0}) Code) → only_reads asked ≡ false
      → FormatsTo at c h gap3 fill old.station called new.station → Alters asked old new
  format_alters at c h gap3 fill called reads formats =
      either_is (format_refusal old.station at c h gap3) formats
      (λ none does. Overwrites at _ (ap (λ (s : StationState). s.bays) does.becomes) (unguarded old.station at (format_open (is_format_request old.station at c h gap3)
      (is_acknowledged old.station at) (is_protected old.station at) none)) reads
      (λ name held. lays_held name _ (bay_of old.station at).medium does.layings (bay_of new.station at).medium held does.lays))
      (λ code refused. Leaves (ap (λ (s : StationState). s.bays) refused.stays))

  ack_alters : (at : ℕ) (called : Result (Unit {0}) Code) → Acks at old.station called new.station → Alters asked old new
  ack_alters at called acks = go (is_bay at) called acks
    where
      go : (b : Bool) (called : Result (Unit {0}) Code)
          → MatchBool b (AcksDrive at old.station called new.station) (IsRefusedAtOnce code.BadRequest old.station called new.station) → Alters asked old new
      go true (Ok done) does = let is = does.done refl in Turns at _ (ap (λ (s : StationState). s.bays) is.becomes) (sym is.medium)
      go true (Err code) does = Turns at _ (ap (λ (s : StationState). s.bays) does.refused.becomes) refl
      go false called refused = Leaves (ap (λ (s : StationState). s.bays) refused.stays)

  read_alters : (at address : ℕ) (key : Chrn) (called : Result Bool Code) → ReadsDrive at key address old.station called new.station → Alters asked old new
  read_alters at address key (Ok deleted) reads = Leaves (ap (λ (s : StationState). s.bays) reads.found.becomes)
  read_alters at address key (Err code) reads = Leaves (ap (λ (s : StationState). s.bays) reads.refused.becomes)

-- such a request keeps names and files
pub calm_step : (asked : Request) (old : State) (told : Option Files) (answer : Reply) (new : State) (after : Option Files) → keeps_media asked ≡ true
    → Step asked old told answer new after → (new.names ≡ old.names) × (after ≡ told) × Alters asked old new
calm_step (request.Ack at) old told answer new after e step = (step.0.names, step.0.files, ack_alters (request.Ack at) old new at step.1.0 step.1.2)
calm_step (request.Read at key address) old told answer new after e step = (
  step.0.names,
  step.0.files,
  either (read_refusal old.station at key address) step.1.2 (read_alters (request.Read at key address) old new at address key step.1.0)
      (λ code refused. Leaves (ap (λ (s : StationState). s.bays) refused.stays)),
)
calm_step (request.Write at key address) old told answer new after e step =
    (step.0.names, step.0.files, write_alters (request.Write at key address) old new at address key false step.1.0 refl step.1.2)
calm_step (request.WriteDeleted at key address) old told answer new after e step =
    (step.0.names, step.0.files, write_alters (request.WriteDeleted at key address) old new at address key true step.1.0 refl step.1.2)
calm_step (request.Format at c h) old told answer new after e step =
    (step.0.names, step.0.files, format_alters (request.Format at c h) old new at c h _ _ step.1.0 refl step.1.2)
calm_step (request.Fill address count byte) old told answer new after e step =
    either (refusal_of old (request.Fill address count byte)) step (λ does. (does.2.names, does.1, Leaves (ap (λ (s : StationState). s.bays) does.2.becomes)))
    (λ cause refused. (refused.same.names, refused.files, Leaves (ap (λ (s : StationState). s.bays) refused.same.stays)))
calm_step (request.Dump address count) old told answer new after e step =
    either (refusal_of old (request.Dump address count)) step (λ does. (does.2.names, does.1, Leaves (ap (λ (s : StationState). s.bays) does.2.stays)))
    (λ cause refused. (refused.same.names, refused.files, Leaves (ap (λ (s : StationState). s.bays) refused.same.stays)))
calm_step (request.SetRate at rate) old told answer new after e step = (
  step.0.names,
  step.0.files,
  either (rate_refusal old.station at) step.1.2 (λ does. Turns at _ (ap (λ (s : StationState). s.bays) does.becomes) refl) (λ code refused. Leaves (ap (λ (s : StationState). s.bays) refused.stays)),
)
calm_step (request.Tries tries) old told answer new after e step = (step.0.names, step.0.files, Leaves (ap (λ (s : StationState). s.bays) step.2.becomes))
calm_step _ old told answer new after e step = absurd (true≢false (sym e))

-- how a guarded bay keeps its medium in a step
module _ (old : State) (bay : ℕ) (guarded : IsGuarded old.station bay) where
  abbrev Keeps : State → Type 0
  Keeps new = (bay_of new.station bay).medium ≡ (bay_of old.station bay).medium

  stays_keeps : (new : State) → Stays old.station new.station → Keeps new
  stays_keeps new stays = becomes_medium (record old.station { counters = new.station.counters }) new.station bay stays

  other_keeps : (new : State) (at : ℕ) (x : Bay) → Becomes (set_bay old.station at x) new.station → is_same_bay at bay ≡ false → Keeps new
  other_keeps new at x becomes apart =
      becomes_medium (set_bay old.station at x) new.station bay becomes ∙ ap (λ (b : Bay). b.medium) (other_bay old.station.bays at bay x apart)

  unguarded_keeps : (new : State) (at : ℕ) (x : Bay) → new.station.bays ≡ with_bay old.station.bays at x → (IsGuarded old.station at → ⊥) → Keeps new
  unguarded_keeps new at x is free =
      sorted (is_same_bay at bay)
      (λ same. absurd (free (guard_at old.station at bay same guarded)))
      (λ apart. ap (λ (b : Two Bay). (in_bay b bay).medium) is ∙ ap (λ (b : Bay). b.medium) (other_bay old.station.bays at bay x apart))

  altered_keeps : (asked : Request) (new : State) → Alters asked old new → Keeps new
  altered_keeps asked new (Leaves is) = ap (λ (b : Two Bay). (in_bay b bay).medium) is
  altered_keeps asked new (Turns at x is still) =
      ap (λ (b : Two Bay). (in_bay b bay).medium) is ∙ kept_medium old.station.bays at bay x still
  altered_keeps asked new (Overwrites at x is free writes held) = unguarded_keeps new at x is free

  pub step_keeps : (asked : Request) (told : Option Files) (answer : Reply) (new : State) (after : Option Files) → Step asked old told answer new after
      → exchanges bay asked ≡ false → Keeps new
  step_keeps (request.Insert at name) told answer new after step apart =
      either (refusal_of old (request.Insert at name)) step (λ does. other_keeps new at _ does.2.2.exchanged.becomes apart) (λ cause refused. stays_keeps new refused.same.stays)
  step_keeps (request.Blank at name count) told answer new after step apart =
      either (refusal_of old (request.Blank at name count)) step (λ does. other_keeps new at _ does.2.exchanged.becomes apart) (λ cause refused. stays_keeps new refused.same.stays)
  step_keeps (request.BlankDd at name count) told answer new after step apart =
      either (refusal_of old (request.BlankDd at name count)) step (λ does. other_keeps new at _ does.2.exchanged.becomes apart) (λ cause refused. stays_keeps new refused.same.stays)
  step_keeps (request.Eject at) told answer new after step apart =
      either (refusal_of old (request.Eject at)) step (λ does. other_keeps new at _ does.1.4.exchanged.becomes apart) (λ cause refused. stays_keeps new refused.same.stays)
  step_keeps (request.Unit at) told answer new after step apart =
      either (refusal_of old (request.Unit at)) step
      (λ does. becomes_medium (record (set_bay old.station at (fresh_bay None)) { spares = old.station.spares - 1 }) new.station bay does.3.becomes
      ∙ ap (λ (b : Bay). b.medium) (other_bay old.station.bays at bay (fresh_bay None) apart))
      (λ cause refused. stays_keeps new refused.same.stays)
  step_keeps asked told answer new after step apart = altered_keeps asked new (calm_step asked old told answer new after refl step).2

  -- a refused request puts nothing in, and takes nothing out
  refused_keeps : (asked : Request) (told : Option Files) (answer : Reply) (new : State) (after : Option Files) → Step asked old told answer new after
      → is_refusal answer ≡ true → exchanges bay asked ≡ true → Keeps new
  refused_keeps (request.Insert at name) told answer new after step e same =
      either (refusal_of old (request.Insert at name)) step (λ does. absurd (not_done answer does.0 e)) (λ cause refused. stays_keeps new refused.same.stays)
  refused_keeps (request.Blank at name count) told answer new after step e same =
      either (refusal_of old (request.Blank at name count)) step (λ does. absurd (not_done answer does.0 e)) (λ cause refused. stays_keeps new refused.same.stays)
  refused_keeps (request.BlankDd at name count) told answer new after step e same =
      either (refusal_of old (request.BlankDd at name count)) step (λ does. absurd (not_done answer does.0 e)) (λ cause refused. stays_keeps new refused.same.stays)
  refused_keeps (request.Eject at) told answer new after step e same =
      either (refusal_of old (request.Eject at)) step (λ does. absurd (not_done answer does.0 e)) (λ cause refused. stays_keeps new refused.same.stays)
  refused_keeps (request.Unit at) told answer new after step e same =
      either (refusal_of old (request.Unit at)) step (λ does. absurd (not_done answer does.0 e)) (λ cause refused. stays_keeps new refused.same.stays)
  refused_keeps _ told answer new after step e same = absurd (true≢false (sym same))

  taken_keeps : (taken : Taken) (told after : Option Files) → Step taken.asked old told taken.answer taken.after after → has_exchanged bay taken ≡ false
      → Keeps taken.after
  taken_keeps taken told after step none = go (is_refusal taken.answer) (exchanges bay taken.asked) refl refl none
    where
      go : (refused asks : Bool) → is_refusal taken.answer ≡ refused → exchanges bay taken.asked ≡ asks → (not refused && asks) ≡ false → Keeps taken.after
      go refused false e f apart = step_keeps taken.asked told taken.answer taken.after after step f
      go true true e f apart = refused_keeps taken.asked told taken.answer taken.after after step e f
      go false true e f apart = absurd (true≢false apart)

-- what holds of each step by itself holds along a run
abbrev pub AlongRuns : (State → Taken → Type 0) → Type 0
AlongRuns Holds = (old new : State) (told after : Option Files) (course : List Taken) → Run old told course new after → EachStep Holds old course

pub each_step : (Holds : State → Taken → Type 0) → ((old : State) (told files : Option Files) (taken : Taken)
    → Step taken.asked old told taken.answer taken.after files → Holds old taken) → AlongRuns Holds
each_step Holds here old new told after [] run = tt
each_step Holds here old new told after (taken ∷ later) run =
    (here old told run.0 taken run.1, each_step Holds here taken.after new run.0 after later run.2)

pub each_keeps : AlongRuns KeepsGuarded
each_keeps = each_step KeepsGuarded (λ old told files taken step bay none guarded. taken_keeps old bay guarded taken told files step none)

-- ---- reads and writes

pub driven_less : (most : ℕ) (old new : Counters) → IsDriven 0 old new → IsDriven most old new
driven_less most old new idle = let none = idle.most_commands in record {
  most_commands = omega (arith, none);
  interrupts = idle.interrupts;
  past_driver = idle.past_driver;
}

read_step : (bay address : ℕ) (key : Chrn) (old new : State) (answer : Reply) (called : Result Bool Code) → answer ≡ read_reply called
    → Reads bay key address old.station called new.station
    → (is_refusal answer ≡ false → (deleted : Bool) × IsRead bay key address old.station deleted new.station)
    × IsDriven old.station.tries old.station.counters new.station.counters
read_step bay address key old new answer (Ok deleted) is reads =
    either (read_refusal old.station bay key address) reads
    (λ does. (λ fine. (deleted, does.found), does.driven))
    (λ code refused. let e = refused.refused in absurd (cc e))
read_step bay address key old new answer (Err code) is reads = (
  λ fine. absurd (true≢false (sym (ap is_refusal is) ∙ fine)),
  either (read_refusal old.station bay key address) reads (λ does. does.driven)
      (λ code refused. driven_less old.station.tries old.station.counters new.station.counters refused.idle),
)

reach_none : (written : Written) (medium after : Option Disk) → after ≡ medium → Reaches written medium [] after
reach_none written medium after same = subst (λ (m : Option Disk). Reaches written medium [] m) (sym same) (go medium)
  where
    go : (m : Option Disk) → Reaches written m [] m
    go (Some disk) = refl
    go None = (refl, refl)

pub fine_call : (answer : Reply) (called : Result (Unit {0}) Code) → answer ≡ reply_of called → is_refusal answer ≡ false → IsOk called
fine_call answer (Ok done) is fine = refl
fine_call answer (Err code) is fine = absurd (true≢false (sym (ap is_refusal is) ∙ fine))

pub ok_not : (called : Result (Unit {0}) Code) (code : Code) → called ≡ Err code → IsOk called → ⊥
ok_not (Ok done) code e ok = absurd (cc e)
ok_not (Err code) other e ok = true≢false (sym ok)

abbrev WritesHere : ℕ → ℕ → Chrn → Bool → State → State → Reply → Type 0
WritesHere bay address key deleted old new answer =
    (changes : List Change) × (length changes ≤ old.station.tries)
    × Reaches (written_from old.station key address deleted) (bay_of old.station bay).medium changes (bay_of new.station bay).medium
    × (is_refusal answer ≡ false → IsWritten (written_from old.station key address deleted) bay changes old.station new.station)

write_step : (bay address : ℕ) (key : Chrn) (deleted : Bool) (old new : State) (answer : Reply) (called : Result (Unit {0}) Code) → answer ≡ reply_of called
    → WritesTo bay key address deleted old.station called new.station → WritesHere bay address key deleted old new answer
write_step bay address key deleted old new answer called is writes =
    either (write_refusal old.station bay key address) writes
    (λ does. (does.changes, does.few, does.reach, λ fine. does.done (fine_call answer called is fine)))
    (λ code refused. (
      [],
      omega arith,
      reach_none (written_from old.station key address deleted) (bay_of old.station bay).medium (bay_of new.station bay).medium
          (becomes_medium (record old.station { counters = new.station.counters }) new.station bay refused.stays),
      λ fine. absurd (ok_not called code refused.refused (fine_call answer called is fine)),
    ))

pub each_reads : AlongRuns ReadsField
each_reads = each_step ReadsField (λ old told files taken step bay address key is.
    let here = subst (λ (q : Request). Step q old told taken.answer taken.after files) is step in
    read_step bay address key old taken.after taken.answer here.1.0 here.1.1 here.1.2)

writes_at : (old : State) (told files : Option Files) (taken : Taken) → Step taken.asked old told taken.answer taken.after files
    → (bay address : ℕ) (key : Chrn) (deleted : Bool) → IsWrite taken.asked bay key address deleted
    → WritesHere bay address key deleted old taken.after taken.answer
writes_at old told files taken step bay address key false is =
    let here = subst (λ (q : Request). Step q old told taken.answer taken.after files) is step in
    write_step bay address key false old taken.after taken.answer here.1.0 here.1.1 here.1.2
writes_at old told files taken step bay address key true is =
    let here = subst (λ (q : Request). Step q old told taken.answer taken.after files) is step in
    write_step bay address key true old taken.after taken.answer here.1.0 here.1.1 here.1.2

pub each_writes : AlongRuns WritesField
each_writes = each_step WritesField writes_at

-- ---- writes to regular disks

alone_step : (bay address : ℕ) (key : Chrn) (deleted : Bool) (old : State) (taken : Taken) (called : Result (Unit {0}) Code) → taken.answer ≡ reply_of called
    → WritesTo bay key address deleted old.station called taken.after.station → (disk : Disk) → (bay_of old.station bay).medium ≡ Some disk
    → IsRegularDisk disk → ((bay_of taken.after.station bay).medium ≡ Some disk) ⊎ WritesAlone bay key address deleted disk old taken
alone_step bay address key deleted old taken called is writes disk medium regular =
    either (write_refusal old.station bay key address) writes
    (λ does. inr (called, is, does.regular disk medium regular))
    (λ code refused. inl (becomes_medium (record old.station { counters = taken.after.station.counters }) taken.after.station bay refused.stays ∙ medium))

alone_at : (old : State) (told files : Option Files) (taken : Taken) → Step taken.asked old told taken.answer taken.after files → KeepsOtherFields old taken
alone_at old told files taken step bay address key false is =
    let here = subst (λ (q : Request). Step q old told taken.answer taken.after files) is step in
    alone_step bay address key false old taken here.1.0 here.1.1 here.1.2
alone_at old told files taken step bay address key true is =
    let here = subst (λ (q : Request). Step q old told taken.answer taken.after files) is step in
    alone_step bay address key true old taken here.1.0 here.1.1 here.1.2

pub each_alone : AlongRuns KeepsOtherFields
each_alone = each_step KeepsOtherFields alone_at
