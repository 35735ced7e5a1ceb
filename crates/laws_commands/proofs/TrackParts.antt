-- Parts of scripts on the tracks and the keys of a disk.
use Rattle.std.proofs.Common.{◌≡◌, ℕ, List, [], ◌∷◌, false, sym, subst, ◌∙◌, ap, Option, Some, arith, true≢false, refl, None, Result, Ok, Err, inl, inr}
use Rattle.laws_commands.proofs.Common.{flat_map, Chrn, Request, key_of, Reply, Step, is_refusal, Taken, World, Script, Part, through, each, by_track, formats, Passes, Did, same_part, carries_passes, through_does, each_named, each_nested, Track, format_each, DoesAll, option_map, Files, Disk, StationState, bay_of, State, IsImageOf, Shape, shape_of, shape_in, Opened, Code, R250, Status, IsUndisturbed, AcksDrive, Reason, reply_of, RunsScript, opens, sets_rate, rate_requests, IsWhole, IsRefused, Passed, joined, joined_did, did_both, carries_passed, sets_rate_passed, opens_passed, verify_opening}
use Rattle.std.proofs.lemmas.List.Concat.{flat_map_single}
use Rattle.sector_map.specs.Standard.{track_keys}
use Rattle.commands.proofs.Passed.{Does}
use Rattle.laws_commands.specs.Requests.{tracks_of}
use Rattle.laws_commands.proofs.Steps.{begins, ends_there, done_does, NeverFell, step_never_fell}
use Rattle.laws_commands.proofs.Verified.{one_image, reaches, quiet_parts}
use Rattle.commands.specs.Parts.{acknowledges}
use Rattle.laws_commands.proofs.Prepared.{acks}
use Rattle.flop_base.specs.declared.answers.Status.TheVariants as status
use Rattle.floppy_jobs.specs.declared.request.Request.TheVariants as request
use Rattle.sector_model.specs.declared.reply.Reply.TheVariants as reply

-- a part for each track of a disk is a part for each track of a list
pub tracks_part : {Found : Type 0} (cylinders heads : ℕ) (part : ℕ → ℕ → Found → Part Found) (found : Found) (rest : Found → Script)
    → by_track cylinders heads part found rest ≡ through (λ (track : Track). part track.0 track.1) (tracks_of cylinders heads) found rest
unfolding tracks_of
tracks_part {Found} cylinders heads part found rest = search (each_nested, each_named)

-- a part for each record of a track is a part for each key of a list
pub records_part : {Found : Type 0} (sectors c h : ℕ) (part : ℕ → Found → Part Found) (on : Chrn → Found → Part Found)
    → ((r : ℕ) (found : Found) (rest : Found → Script) → part r found rest ≡ on (key_of c h r) found rest)
    → (found : Found) (rest : Found → Script) → each 1 sectors part found rest ≡ through on (track_keys sectors c h) found rest
unfolding track_keys
records_part sectors c h part on same found rest = each_named on 1 sectors part (key_of c h) same found rest

-- the formats of all tracks
pub formats_pass : (bay cylinders heads : ℕ)
    → Passes status.AllOk (by_track cylinders heads (formats bay) tt) (Does (format_each bay (tracks_of cylinders heads)))
formats_pass bay cylinders heads =
    let tracks = tracks_of cylinders heads in
    let one : Track → List Request = λ track. request.Format bay track.0 track.1 ∷ [] in
    subst (λ (l : List Request). Passes status.AllOk (by_track cylinders heads (formats bay) tt) (Does l))
    (flat_map_single (λ (track : Track). request.Format bay track.0 track.1) tracks)
    (same_part status.AllOk (by_track cylinders heads (formats bay) tt) (through (λ (track : Track). formats bay track.0 track.1) tracks tt)
    (Does (flat_map one tracks))
    (tracks_part cylinders heads (formats bay) tt)
    (through_does status.AllOk (λ (track : Track). formats bay track.0 track.1) one (λ track. carries_passes (request.Format bay track.0 track.1)) tracks))

-- the requests of a part were done, and below it the same when a last line follows
pub did_all : (requests : List Request) (old : World) (course : List Taken) (new : World) → Did requests old course new
    → DoesAll requests old.state old.files course new.state new.files
did_all requests old course new did = record { run = did.run; all = did.all; done = did.fine }

pub over_all : (requests : List Request) (old : World) (course : List Taken) (mid : World) → Did requests old course mid
    → (new : World) → new.state ≡ mid.state → new.files ≡ mid.files → DoesAll requests old.state old.files course new.state new.files
over_all requests old course mid did new state files =
    subst (λ s. DoesAll requests old.state old.files course s new.files) (sym state)
    (subst (λ f. DoesAll requests old.state old.files course mid.state f) (sym files) (did_all requests old course mid did))

-- a part with one request
pub did_step : (asked : Request) (old : World) (course : List Taken) (mid : World) → Did (asked ∷ []) old course mid
    → (answer : Reply) × Step asked old.state old.files answer mid.state mid.files × (is_refusal answer ≡ false)
did_step asked old course mid did =
    let one = begins old.state mid.state old.files mid.files asked [] course (did_all (asked ∷ []) old course mid did) in
    let end = ends_there one.mid mid.state one.files mid.files one.later one.behind in (
      one.answer,
      subst (λ s. Step asked old.state old.files one.answer s mid.files) (sym end.0)
          (subst (λ f. Step asked old.state old.files one.answer one.mid f) (sym end.1) one.step),
      one.done,
    )

-- ---- the shape of the disk that a command puts in

-- a disk that was put in has the shape of its image
pub put_shape : (name : List ℕ) (disk : Disk) (files : Files) (old new : State) (after : Option Files) (answer : Reply)
    → IsImageOf (Some files) name disk → Step (request.Insert 0 name) old (Some files) answer new after → is_refusal answer ≡ false
    → shape_in (bay_of new.station 0) ≡ Some (shape_of disk)
put_shape name disk files old new after answer image step done =
    let put = (done_does old new (Some files) after (request.Insert 0 name) answer step done).2 in
    let same : put.0 ≡ disk = one_image files name put.0 disk put.1 image in
    let medium : (bay_of new.station 0).medium ≡ Some disk = ap (λ (s : StationState). (bay_of s 0).medium) put.2.exchanged.becomes ∙ ap (λ (d : Disk). Some d) same in
    ap (λ (m : Option Disk). option_map shape_of m) medium

-- a script that opens a disk finds the shape of the disk's image
pub opened_shape : (name : List ℕ) (disk : Disk) (files : Files) (old mid : World) (course : List Taken) (shape : Shape) → IsImageOf (Some files) name disk
    → old.files ≡ Some files → Opened name old course shape mid → shape ≡ shape_of disk
opened_shape name disk files old mid course shape image there opened =
    let put = did_step (request.Insert 0 name) old course mid opened.did in
    let told = put_shape name disk files old.state mid.state mid.files put.0 image
    (subst (λ (f : Option Files). Step (request.Insert 0 name) old.state f put.0 mid.state mid.files) there put.1) put.2 in
    cc (told, opened.there)

-- ---- the opening of a verify isn't refused if bay 0 was empty and nothing disturbs its drive

-- an insert into an empty bay isn't refused
insert_taken : (name : List ℕ) (old new : State) (told after : Option Files) (answer : Reply) → (bay_of old.station 0).medium ≡ None
    → Step (request.Insert 0 name) old told answer new after → is_refusal answer ≡ false
insert_taken name old new told after answer empty step = grind (arith, reaches)

-- an undisturbed acknowledgement of a bay with a medium isn't refused
ack_taken : (disk : Disk) (old new : State) (told after : Option Files) (answer : Reply) → (bay_of old.station 0).medium ≡ Some disk
    → IsUndisturbed 0 old.station.counters new.station.counters → NeverFell old.station.counters new.station.counters
    → Step (request.Ack 0) old told answer new after → is_refusal answer ≡ false
ack_taken disk old new told after answer medium quiet fell step = ap is_refusal step.1.1 ∙ go step.1.0 step.1.2
  where
    go : (called : Result (Unit {0}) Code) → AcksDrive 0 old.station called new.station → is_refusal (reply_of called) ≡ false
    go (Ok u) drive = refl
    go (Err code) drive = elim drive.refused.cause [
      | inl none ↦ absurd (cc (none, medium))
      | inr rose ↦ absurd (omega (arith, rose, quiet.faults, quiet.together, fell.stalls))
    ]

-- setting the rate of an acknowledged bay isn't refused
rate_taken : (count : ℕ) (old new : State) (told after : Option Files) (answer : Reply) → (bay_of old.station 0).acknowledged ≡ Some count
    → Step (request.SetRate 0 R250) old told answer new after → is_refusal answer ≡ false
rate_taken count old new told after answer acknowledged step = grind (arith, reaches)

-- ---- in a script

not_done : (cause : Reason) → is_refusal (reply.Refused cause) ≡ false → ⊥
not_done cause done = absurd (true≢false done)

-- the disk is in bay 0
record IsIn (disk : Disk) (old mid : World) : Type 0 where
  pub medium : (bay_of mid.state.station 0).medium ≡ Some disk
  pub fell : NeverFell old.state.station.counters mid.state.station.counters

put_in : (name : List ℕ) (disk : Disk) (files : Files) (old mid : World) (course : List Taken) → old.files ≡ Some files → IsImageOf (Some files) name disk
    → Did (request.Insert 0 name ∷ []) old course mid → IsIn disk old mid
put_in name disk files old mid course there image did =
    let step = did_step (request.Insert 0 name) old course mid did in
    let put = (done_does old.state mid.state old.files mid.files (request.Insert 0 name) step.0 step.1 step.2).2 in
    let same : put.0 ≡ disk = one_image files name put.0 disk (subst (λ (f : Option Files). IsImageOf f name put.0) there put.1) image in
    record {
      medium = ap (λ (s : StationState). (bay_of s 0).medium) put.2.exchanged.becomes ∙ ap (λ (d : Disk). Some d) same;
      fell = step_never_fell old.state mid.state old.files mid.files (request.Insert 0 name) step.0 step.1 refl;
    }

module _ (name : List ℕ) (disk : Disk) (files : Files) (rest : Shape → Unit {0} → Script) (old : World) (course : List Taken) (new : World) (ended : Status)
    (whole : IsWhole ended) (there : old.files ≡ Some files) (image : IsImageOf (Some files) name disk) (empty : (bay_of old.state.station 0).medium ≡ None)
    (quiet : IsUndisturbed 0 old.state.station.counters new.state.station.counters) where
  no_insert : IsRefused (request.Insert 0 name) old course new ended → ⊥
  no_insert run = not_done run.cause (insert_taken name old.state new.state old.files new.files (reply.Refused run.cause) empty run.step)

  no_ack : (mid : World) (later : List Taken) → IsIn disk old mid → IsRefused (request.Ack 0) mid later new ended → ⊥
  no_ack mid later is run = grind (arith, step_never_fell, quiet_parts, not_done, ack_taken)

  no_rate : (mid end : World) (between left : List Taken) → IsIn disk old mid → Did (request.Ack 0 ∷ []) mid between end
      → IsRefused (request.SetRate 0 R250) end left new ended → ⊥
  no_rate mid end between left is did run =
      let step = did_step (request.Ack 0) mid between end did in
      let kept = (acks 0 disk mid.state end.state mid.files end.files step.0 step.1 step.2 is.medium).kept in
      not_done run.cause (rate_taken _ end.state new.state end.files new.files (reply.Refused run.cause) kept run.step)

  -- the disk is put in, and the bay made ready
  pub opening_passed : RunsScript (opens name (λ shape. acknowledges 0 shape.rate (rest shape))) old course new ended
      → Passed (Does (verify_opening name disk)) (rest (shape_of disk)) old course new ended
  unfolding acknowledges
  opening_passed runs =
      let a = opens_passed name (λ shape. acknowledges 0 shape.rate (rest shape)) old course new ended whole no_insert runs in
      let same = opened_shape name disk files old a.mid a.one a.found image there a.knows in
      let is = put_in name disk files old a.mid a.one there image a.knows.did in
      let left = subst (λ (s : Shape). RunsScript (acknowledges 0 s.rate (rest s)) a.mid a.two new ended) same a.left in
      let b = carries_passed (request.Ack 0) (λ none. sets_rate 0 disk.rate (rest (shape_of disk))) a.mid a.two new ended whole (no_ack a.mid a.two is) left in
      let c = sets_rate_passed 0 disk.rate (rest (shape_of disk)) b.mid b.two new ended whole (no_rate a.mid b.mid b.one b.two is b.knows) b.left in
      let ready = joined_did (request.Ack 0 ∷ []) (rate_requests disk.rate 0) b c in
      joined a ready
      (did_both (request.Insert 0 name ∷ []) (request.Ack 0 ∷ rate_requests disk.rate 0) old a.mid ready.mid a.one ready.one a.knows.did ready.knows)
