-- How a request or a run stops.
use Rattle.std.proofs.Common.{rules, ◌≡◌, ℕ, ◌<◌, ◌≤◌, List, Option, Some, None, Result, Ok, Err, OnOk, OnErr, IfErr, false, refl, arith, subst, sym}
use Rattle.std.proofs.lemmas.Bool.{lt-leb}
use Rattle.flop_base.specs.Shelf.{Files, stored}
use Rattle.flop_base.specs.declared.answers.Code.TheVariants.{BadRequest}
use Rattle.floppy_session.proofs.Common.{Disk, in_bay, bay_of, State, IsSame, ChangesMedium, Step, StopsAt, StopCause, StoresMedium, refusal_of, is_loaded, costs_none, goes_on_itself}
use Rattle.raw_image.specs.Image.{file_of}
use Rattle.floppy_jobs.specs.declared.request.Request.{Request}
use Rattle.floppy_jobs.specs.declared.request.Request.TheVariants as request
use Rattle.sector_model.specs.declared.reply.Reply.{Reply}
use Rattle.sector_model.specs.declared.reply.Reply.TheVariants as reply
use Rattle.sector_model.specs.declared.reply.Reason.TheVariants as reason
use Rattle.sector_model.specs.declared.reply.Stop.{Stop}
use Rattle.sector_model.specs.Runs.{EndsBay, DropsMedium, EndStopsAt, AtSecond, IsEndStop}

-- the step of the request that was asked, if that request is the named one
pub step_at : (old new : State) (told : Option Files) (asked named : Request) (answer : Reply) → asked ≡ named → Step named old told answer new told → Step asked old told answer new told
step_at old new told asked named answer same step = subst (λ (r : Request). Step r old told answer new told) (sym same) step

-- a state is the same as itself
pub same_still : (accesses : ℕ) (state : State) → IsSame accesses state state
same_still accesses state = record {
  names = refl;
  stays = refl;
  idle = record { most_commands = omega arith; interrupts = omega arith; past_driver = refl };
  costs = costs_none 0 accesses state.station.counters;
  counts = goes_on_itself state.station.counters;
}

-- a format in a bay past the second one is a bad request, and the state stays as it was
pub format_refused : (state : State) (told : Option Files) (bay c h : ℕ) → 1 < bay → Step (request.Format bay c h) state told (reply.Refused (reason.Driver BadRequest)) state told
format_refused state told bay c h past = (
  record { names = refl; files = refl; counts = goes_on_itself state.station.counters },
  (
    Err BadRequest,
    refl,
    rw (lt-leb bay 1 past) (record {
      refused = refl;
      stays = refl;
      idle = record { most_commands = omega arith; interrupts = omega arith; past_driver = refl };
      costs = costs_none 0 6 state.station.counters;
    }),
  ),
)

insert_taken : (state : State) (bay : ℕ) (name : List ℕ) → bay ≤ 1 → is_loaded state bay ≡ false → refusal_of state (request.Insert bay name) ≡ None
insert_taken state bay name low empty = grind (arith, rules)

-- an insert that got no image stops the run, and the state stays as it was
pub stops_loading : (state : State) (told told_after : Option Files) (bay : ℕ) (name : List ℕ) (ended : Stop) → bay ≤ 1 → is_loaded state bay ≡ false → ((bay : ℕ) → StopCause told (request.Insert bay name) ended) → told_after ≡ told → StopsAt (request.Insert bay name) state told ended state told_after
stops_loading state told told_after bay name ended low empty cause files = record {
  taken = insert_taken state bay name low empty;
  cause = cause bay;
  after = same_still 0 state;
  files = files;
}

-- a medium was taken out, with its name, and it was stored if the store succeeded
pub stores_out : (result : Result (Unit {0}) Stop) (old new : State) (told told_after : Option Files) (bay : ℕ) (disk : Disk) (name : List ℕ) → (bay_of old.station bay).medium ≡ Some disk → in_bay old.names bay ≡ Some name → ChangesMedium bay None None old new → OnOk result (told_after ≡ stored told name (file_of disk)) → OnOk result (StoresMedium bay old told new told_after)
stores_out (Ok u) old new told told_after bay disk name medium named changes kept = (disk, name, medium, named, changes, kept)
stores_out (Err e) old new told told_after bay disk name medium named changes kept = tt

-- if the end of bay 1 fails, it stops the end of the run
pub second_stops : (result : Result (Unit {0}) Stop) (old mid new : State) (told told_mid told_after : Option Files) → EndsBay 0 old told mid told_mid → IfErr result IsEndStop → OnErr result (DropsMedium 1 mid new) → OnErr result (told_after ≡ told_mid) → IfErr result (λ stop. IsEndStop stop × EndStopsAt old told new told_after)
second_stops (Ok u) old mid new told told_mid told_after first cause dropped files = tt
second_stops (Err stop) old mid new told told_mid told_after first cause dropped files =
    (cause, AtSecond mid (subst (λ (t : Option Files). EndsBay 0 old told mid t) (sym files) first) dropped)
