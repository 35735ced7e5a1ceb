-- A disk that was put in is in the bay.
use Rattle.std.proofs.Common.{◌≡◌, ℕ, false, List, ap, ◌∙◌, sym, Option, Some, None, unwrap_or}
use Rattle.commands.proofs.Common.{true≢false, Files, Reply, Reason, StationState, bay_of, State, Step, refusal_of, is_refusal, Shape, shape_in, shape_of, no_tracks, shape_at}
use Rattle.std.specs.Option.{MatchOption, option_map}
use Rattle.raw_image.specs.Disk.{Disk}
use Rattle.floppy_jobs.specs.declared.request.Request.TheVariants as request
use Rattle.sector_model.specs.declared.reply.Reply.TheVariants as reply

by_refusal : {P R : Type 0} {Q : Reason → Type 0} (refusal : Option Reason) → MatchOption refusal P Q → (P → R) → ((cause : Reason) → Q cause → R) → R
by_refusal None holds none some = none holds
by_refusal (Some cause) holds none some = some cause holds

not_refused : (answer : Reply) (cause : Reason) → is_refusal answer ≡ false → answer ≡ reply.Refused cause → ⊥
not_refused answer cause fine refused = true≢false (sym (ap is_refusal refused) ∙ fine)

pub put_in : (name : List ℕ) (answer : Reply) (old new : State) (told after : Option Files) → is_refusal answer ≡ false
    → Step (request.Insert 0 name) old told answer new after → (disk : Disk) × ((bay_of new.station 0).medium ≡ Some disk)
put_in name answer old new told after fine step =
    by_refusal (refusal_of old (request.Insert 0 name)) step
    (λ does. (does.2.0, ap (λ (s : StationState). (bay_of s 0).medium) does.2.2.exchanged.becomes))
    (λ cause refused. absurd (not_refused answer cause fine refused.answered))

-- the shape of the disk is the shape of the medium in the bay
pub shape_put : (name : List ℕ) (answer : Reply) (old new : State) (told after : Option Files) → is_refusal answer ≡ false
    → Step (request.Insert 0 name) old told answer new after → shape_in (bay_of new.station 0) ≡ Some (shape_at new 0)
shape_put name answer old new told after fine step =
    let disk = put_in name answer old new told after fine step in
    let some : shape_in (bay_of new.station 0) ≡ Some (shape_of disk.0) = ap (λ (medium : Option Disk). option_map shape_of medium) disk.1 in
    some ∙ ap (λ (o : Option Shape). Some (unwrap_or o no_tracks)) (sym some)

-- there is a shape where there is a disk
pub there_is : (name : List ℕ) (answer : Reply) (old new : State) (told after : Option Files) → is_refusal answer ≡ false
    → Step (request.Insert 0 name) old told answer new after → shape_in (bay_of new.station 0) ≡ None → ⊥
there_is name answer old new told after fine step none =
    let some = shape_put name answer old new told after fine step in
    absurd (cc (some, none))

-- the files stay
pub files_stay : (name : List ℕ) (answer : Reply) (old new : State) (told after : Option Files) → is_refusal answer ≡ false
    → Step (request.Insert 0 name) old told answer new after → after ≡ told
files_stay name answer old new told after fine step =
    by_refusal (refusal_of old (request.Insert 0 name)) step
    (λ does. does.1)
    (λ cause refused. absurd (not_refused answer cause fine refused.answered))
