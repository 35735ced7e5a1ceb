-- Each step of a run: what a format did, why a request was refused, and how many data commands were sent.
use Rattle.std.proofs.Common.{arith, ◌≡◌, ◌+◌, ◌*◌, ◌≤◌, ◌∙◌, ℕ, Bool, true, false, true≢false, List, [], Option, Some, None, Result, Ok, Err, refl, ap, sym, subst}
use Rattle.std.specs.Prelude.{option_map, MatchOption, MatchBool, IfErr, if◌then◌else◌}
use Rattle.laws_program.proofs.Common.{All-nil, Files, gap_at, standard_fill, sectors_at, Counters, IsDriven, Code, BadRequest, Chrn, Disk, Request, Format, Laying, Reply, Reason, StationState, bay_of, State, IsSame, is_bay, read_refusal, write_refusal, format_refusal, rate_refusal, IsRefusedAtOnce, ChangesMedium, Acks, AcksDrive, WritesTo, WritesDrive, written_from, Lays, FormatsTo, Step, IsDriverCall, IsRefused, refusal_of, read_reply, reply_of, is_refusal, same_within, ok_taken, format_in, IsFormat, FormatsTrack, by_driver, refusal_at_once, IsWriteRefused, IsDriveCause, TellsCause, most_commands, Sends, SendsFew}
use Rattle.laws_program.proofs.Stepping.{AlongRuns, each_step, becomes_medium, either, driven_less, fine_call, ok_not}
use Rattle.floppy_jobs.specs.declared.request.Request.TheVariants as request
use Rattle.sector_model.specs.declared.reply.Reply.TheVariants as reply
use Rattle.sector_model.specs.declared.reply.Reason.TheVariants as reason

-- ---- formats

lays_none : (format : Format) (medium after : Option Disk) → after ≡ medium → Lays format medium [] after
lays_none format medium after same = subst (λ (m : Option Disk). Lays format medium [] m) (sym same) (go medium)
  where
    go : (m : Option Disk) → Lays format m [] m
    go (Some disk) = refl
    go None = (refl, refl)

format_step : (bay c h : ℕ) (old new : State) (answer : Reply) (called : Result (Unit {0}) Code) → answer ≡ reply_of called
    → FormatsTo bay c h (gap_at (bay_of old.station bay).rate) standard_fill old.station called new.station
    → IsFormat (format_in old.station bay c h) bay old.station answer new.station
format_step bay c h old new answer called is formats =
    either (format_refusal old.station bay c h (gap_at (bay_of old.station bay).rate)) formats
    (λ does. record {
      layings = does.layings;
      few = does.few;
      lays = does.lays;
      only = does.only;
      done = λ fine. does.formatted_track (fine_call answer called is fine);
    })
    (λ code refused. record {
      layings = [];
      few = omega arith;
      lays = lays_none (format_in old.station bay c h) (bay_of old.station bay).medium (bay_of new.station bay).medium
          (becomes_medium (record old.station { counters = new.station.counters }) new.station bay refused.stays);
      only = λ faultless. All-nil (λ (laying : Laying). laying.cylinder ≡ c);
      done = λ fine. absurd (ok_not called code refused.refused (fine_call answer called is fine));
    })

pub each_formats : AlongRuns FormatsTrack
each_formats = each_step FormatsTrack (λ old told files taken step bay c h is.
    let here = subst (λ (q : Request). Step q old told taken.answer taken.after files) is step in
    format_step bay c h old taken.after taken.answer here.1.0 here.1.1 here.1.2)

-- ---- refusals

match_mapped : {A B P : Type 0} {Q : A → Type 0} (R : Type 0) (S : B → Type 0) (f : A → B) (value : Option A) → MatchOption value P Q → (P → R)
    → ((x : A) → Q x → S (f x)) → MatchOption (option_map f value) R S
match_mapped R S f None holds none some = none holds
match_mapped R S f (Some x) holds none some = some x holds

-- if the request was refused, the refusal is the drive's
abbrev ByDrive : Request → State → State → Reply → Type 0
ByDrive asked old new answer =
    (cause : Reason) → answer ≡ reply.Refused cause → (code : Code) × (cause ≡ reason.Driver code) × IsDriveCause asked old code new

-- the request was refused at once
abbrev AtOnce : State → State → Reply → Reason → Type 0
AtOnce old new answer cause = (answer ≡ reply.Refused cause) × IsSame 6 old new

-- the answer follows the order of refusals
abbrev ByOrder : Option Reason → Request → State → State → Reply → Type 0
ByOrder refusal asked old new answer = MatchOption refusal (ByDrive asked old new answer) (λ cause. AtOnce old new answer cause)

module _ (asked : Request) (old new : State) (answer : Reply) where
  -- what was done wasn't refused
  not_refused : is_refusal answer ≡ false → ByDrive asked old new answer
  not_refused fine cause refused = absurd (true≢false (sym (ap is_refusal refused) ∙ fine))

  -- a call that the driver's order refused
  at_once : {T : Type 0} (told after : Option Files) (called : Result T Code) (code : Code) → IsDriverCall old told new after
      → IsRefusedAtOnce code old.station called new.station → answer ≡ reply.Refused (reason.Driver code) → AtOnce old new answer (reason.Driver code)
  at_once told after called code call refused is =
      (is, record { names = call.names; stays = refused.stays; idle = refused.idle; costs = refused.costs; counts = call.counts })

  call_tells : {T P : Type 0} (refusal : Option Code) (told after : Option Files) (called : Result T Code) → IsDriverCall old told new after
      → ((code : Code) → called ≡ Err code → answer ≡ reply.Refused (reason.Driver code))
      → MatchOption refusal P (λ code. IsRefusedAtOnce code old.station called new.station) → (P → ByDrive asked old new answer)
      → ByOrder (by_driver refusal) asked old new answer
  call_tells refusal told after called call answered step drive =
      match_mapped (ByDrive asked old new answer) (λ cause. AtOnce old new answer cause) (λ code. reason.Driver code) refusal step drive
      (λ code refused. at_once told after called code call refused (answered code refused.refused))

  ack_tells : {P : Type 0} (good : Bool) (told after : Option Files) (called : Result (Unit {0}) Code) → IsDriverCall old told new after
      → answer ≡ reply_of called → MatchBool good P (IsRefusedAtOnce BadRequest old.station called new.station) → (P → ByDrive asked old new answer)
      → ByOrder (if good then None else Some (reason.Driver BadRequest)) asked old new answer
  ack_tells true told after called call is step drive = drive step
  ack_tells false told after called call is step drive = at_once told after called BadRequest call step (is ∙ ap reply_of step.refused)

  -- a request that the session refuses by itself
  own_tells : {P : Type 0} (told after : Option Files) (refusal : Option Reason) → MatchOption refusal P (λ cause. IsRefused cause old told answer new after)
      → (P → is_refusal answer ≡ false) → ByOrder refusal asked old new answer
  own_tells told after None step done = not_refused (done step)
  own_tells told after (Some cause) step done = (step.answered, same_within 0 6 old new (omega arith) step.same)

  drive_tells : (called : Result (Unit {0}) Code) → answer ≡ reply_of called → IfErr called (λ code. IsDriveCause asked old code new)
      → ByDrive asked old new answer
  drive_tells (Ok done) is causes = not_refused (ap is_refusal is)
  drive_tells (Err code) is causes = λ cause refused.
      let told : answer ≡ reply.Refused (reason.Driver code) = is in
      (code, cc (told, refused), causes)

  read_drive_tells : (called : Result Bool Code) → answer ≡ read_reply called → IfErr called (λ code. IsDriveCause asked old code new)
      → ByDrive asked old new answer
  read_drive_tells (Ok true) is causes = not_refused (ap is_refusal is)
  read_drive_tells (Ok false) is causes = not_refused (ap is_refusal is)
  read_drive_tells (Err code) is causes = λ cause refused.
      let told : answer ≡ reply.Refused (reason.Driver code) = is in
      (code, cc (told, refused), causes)

write_causes : (bay address : ℕ) (key : Chrn) (deleted : Bool) (old new : StationState) (called : Result (Unit {0}) Code)
    → WritesDrive (written_from old key address deleted) bay old called new
    → IfErr called (λ code. IsWriteRefused bay key address deleted old code new)
write_causes bay address key deleted old new (Ok done) does = tt
write_causes bay address key deleted old new (Err code) does = (does.changes, does.reach, does.refused)

tells_step : (asked : Request) (old new : State) (told after : Option Files) (answer : Reply) → Step asked old told answer new after
    → ByOrder (refusal_at_once old asked) asked old new answer
tells_step (request.Ack bay) old new told after answer step =
    let asked = request.Ack bay in
    ack_tells asked old new answer (is_bay bay) told after step.1.0 step.0 step.1.1 step.1.2
    (λ does. drive_tells asked old new answer step.1.0 step.1.1 does.refused)
tells_step (request.Read bay key address) old new told after answer step =
    let asked = request.Read bay key address in
    call_tells asked old new answer (read_refusal old.station bay key address) told after step.1.0 step.0 (λ code e. step.1.1 ∙ ap read_reply e) step.1.2
    (λ does. read_drive_tells asked old new answer step.1.0 step.1.1 does.refused)
tells_step (request.Write bay key address) old new told after answer step =
    let asked = request.Write bay key address in
    call_tells asked old new answer (write_refusal old.station bay key address) told after step.1.0 step.0 (λ code e. step.1.1 ∙ ap reply_of e) step.1.2
    (λ does. drive_tells asked old new answer step.1.0 step.1.1 (write_causes bay address key false old.station new.station step.1.0 does))
tells_step (request.WriteDeleted bay key address) old new told after answer step =
    let asked = request.WriteDeleted bay key address in
    call_tells asked old new answer (write_refusal old.station bay key address) told after step.1.0 step.0 (λ code e. step.1.1 ∙ ap reply_of e) step.1.2
    (λ does. drive_tells asked old new answer step.1.0 step.1.1 (write_causes bay address key true old.station new.station step.1.0 does))
tells_step (request.Format bay c h) old new told after answer step =
    let asked = request.Format bay c h in
    call_tells asked old new answer (format_refusal old.station bay c h (gap_at (bay_of old.station bay).rate)) told after step.1.0 step.0
    (λ code e. step.1.1 ∙ ap reply_of e) step.1.2 (λ does. drive_tells asked old new answer step.1.0 step.1.1 does.refused)
tells_step (request.SetRate bay rate) old new told after answer step =
    let asked = request.SetRate bay rate in
    call_tells asked old new answer (rate_refusal old.station bay) told after step.1.0 step.0 (λ code e. step.1.1 ∙ ap reply_of e) step.1.2
    (λ does. not_refused asked old new answer (ok_taken step.1.0 answer step.1.1 does.done))
tells_step (request.Tries tries) old new told after answer step = not_refused (request.Tries tries) old new answer (ap is_refusal step.1)
tells_step asked old new told after answer step = own_tells asked old new answer told after (refusal_of old asked) step (λ does. ap is_refusal does.0)

pub each_tells : AlongRuns TellsCause
each_tells = each_step TellsCause (λ old told files taken step. tells_step taken.asked old taken.after told files taken.answer step)

-- ---- data commands

sent : (most : ℕ) (old new : Counters) → IsDriven most old new → Sends most old new
sent most old new driven = record { commands = driven.most_commands; interrupts = driven.interrupts }

sent_none : (old new : Counters) → new.data_commands ≡ old.data_commands → old.taken ≤ new.taken → Sends 0 old new
sent_none old new none on = record { commands = omega (arith, none); interrupts = omega (arith, none, on) }

-- a call that was refused at once sent no data command
idle_sends : {T : Type 0} (most : ℕ) (code : Code) (old new : StationState) (called : Result T Code) → IsRefusedAtOnce code old called new
    → Sends most old.counters new.counters
idle_sends most code old new called refused = sent most old.counters new.counters (driven_less most old.counters new.counters refused.idle)

same_sends : {accesses : ℕ} (old new : State) → IsSame accesses old new → Sends 0 old.station.counters new.station.counters
same_sends old new same = sent 0 old.station.counters new.station.counters same.idle

write_sends : (bay address : ℕ) (key : Chrn) (deleted : Bool) (old new : StationState) (called : Result (Unit {0}) Code)
    → WritesTo bay key address deleted old called new → Sends (2 * old.tries) old.counters new.counters
write_sends bay address key deleted old new called writes =
    either (write_refusal old bay key address) writes (λ does. sent (2 * old.tries) old.counters new.counters does.driven)
    (λ code refused. idle_sends (2 * old.tries) code old new called refused)

format_sends : (bay c h : ℕ) (old new : StationState) (called : Result (Unit {0}) Code)
    → FormatsTo bay c h (gap_at (bay_of old bay).rate) standard_fill old called new
    → Sends (old.tries * (1 + sectors_at (bay_of old bay).rate)) old.counters new.counters
format_sends bay c h old new called formats =
    let most = old.tries * (1 + sectors_at (bay_of old bay).rate) in
    either (format_refusal old bay c h (gap_at (bay_of old bay).rate)) formats (λ does. sent most old.counters new.counters does.driven)
    (λ code refused. idle_sends most code old new called refused)

ack_sends : (bay : ℕ) (old new : StationState) (called : Result (Unit {0}) Code) → Acks bay old called new → Sends 6 old.counters new.counters
ack_sends bay old new called acks = go (is_bay bay) acks
  where
    go : (good : Bool) → MatchBool good (AcksDrive bay old called new) (IsRefusedAtOnce BadRequest old called new) → Sends 6 old.counters new.counters
    go true does = sent 6 old.counters new.counters does.driven
    go false refused = idle_sends 6 BadRequest old new called refused

-- media were exchanged, past the driver
changed_sends : (bay : ℕ) (name : Option (List ℕ)) (medium : Option Disk) (old new : State) → ChangesMedium bay name medium old new
    → Sends 0 old.station.counters new.station.counters
changed_sends bay name medium old new changes =
    sent_none old.station.counters new.station.counters changes.exchanged.access.no_commands changes.counts.taken

-- a request that the session refuses by itself
own_sends : {P : Type 0} (old new : State) (told after : Option Files) (answer : Reply) (refusal : Option Reason)
    → MatchOption refusal P (λ cause. IsRefused cause old told answer new after) → (P → Sends 0 old.station.counters new.station.counters)
    → Sends 0 old.station.counters new.station.counters
own_sends old new told after answer refusal step done = either refusal step done (λ cause refused. same_sends old new refused.same)

sends_step : (asked : Request) (old new : State) (told after : Option Files) (answer : Reply) → Step asked old told answer new after
    → Sends (most_commands old.station asked) old.station.counters new.station.counters
sends_step (request.Insert bay name) old new told after answer step =
    own_sends old new told after answer (refusal_of old (request.Insert bay name)) step (λ does. changed_sends bay _ _ old new does.2.2)
sends_step (request.Blank bay name count) old new told after answer step =
    own_sends old new told after answer (refusal_of old (request.Blank bay name count)) step (λ does. changed_sends bay _ _ old new does.2)
sends_step (request.BlankDd bay name count) old new told after answer step =
    own_sends old new told after answer (refusal_of old (request.BlankDd bay name count)) step (λ does. changed_sends bay _ _ old new does.2)
sends_step (request.Eject bay) old new told after answer step =
    own_sends old new told after answer (refusal_of old (request.Eject bay)) step (λ does. changed_sends bay _ _ old new does.1.4)
sends_step (request.Unit bay) old new told after answer step =
    own_sends old new told after answer (refusal_of old (request.Unit bay)) step (λ does.
    let same = does.3.counts.taken in
    sent_none old.station.counters new.station.counters does.3.access.no_commands (omega (arith, same)))
sends_step (request.Fill address count byte) old new told after answer step =
    own_sends old new told after answer (refusal_of old (request.Fill address count byte)) step
    (λ does. sent_none old.station.counters new.station.counters does.2.access.no_commands does.2.counts.taken)
sends_step (request.Dump address count) old new told after answer step =
    own_sends old new told after answer (refusal_of old (request.Dump address count)) step (λ does. same_sends old new does.2)
sends_step (request.Ack bay) old new told after answer step = ack_sends bay old.station new.station step.1.0 step.1.2
sends_step (request.Read bay key address) old new told after answer step =
    let most = old.station.tries in
    either (read_refusal old.station bay key address) step.1.2 (λ does. sent most old.station.counters new.station.counters does.driven)
    (λ code refused. idle_sends most code old.station new.station step.1.0 refused)
sends_step (request.Write bay key address) old new told after answer step =
    write_sends bay address key false old.station new.station step.1.0 step.1.2
sends_step (request.WriteDeleted bay key address) old new told after answer step =
    write_sends bay address key true old.station new.station step.1.0 step.1.2
sends_step (request.Format bay c h) old new told after answer step = format_sends bay c h old.station new.station step.1.0 step.1.2
sends_step (request.SetRate bay rate) old new told after answer step =
    either (rate_refusal old.station bay) step.1.2 (λ does. sent 0 old.station.counters new.station.counters does.idle)
    (λ code refused. idle_sends 0 code old.station new.station step.1.0 refused)
sends_step (request.Tries tries) old new told after answer step = sent 0 old.station.counters new.station.counters step.2.idle

pub each_sends : AlongRuns SendsFew
each_sends = each_step SendsFew (λ old told files taken step. sends_step taken.asked old taken.after told files taken.answer step)
