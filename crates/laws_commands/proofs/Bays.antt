-- The requests that put media in, make bays ready and take media out. They are done when nothing disturbs them. Also
-- here is what holds after them.
use Rattle.std.proofs.Common.{arith, ◌≡◌, ◌∙◌, ◌≤◌, ℕ, Bool, true, false, true≢false, List, refl, sym, ap, subst, inl, inr, Option, Some, None, Result, Ok, Err, IsOk, le-leb, unwrap_or}
use Rattle.std.specs.Prelude.{◌&&◌, ◌==◌, not, is_some, IsSomeAnd, MatchBool, if◌then◌else◌}
use Rattle.laws_commands.proofs.Common.{option_map, Files, file_at, Code, BadRequest, Changed, Rate, R500, R250, Disk, Two, in_bay, IsUndisturbed, Request, Reply, Stop, StationState, Bay, Becomes, IsFresh, bay_of, set_bay, fresh_bay, is_bay, is_acknowledged, rate_refusal, AcksDrive, State, Step, StopsAt, IsImageOf, refusal_of, reply_of, is_loaded, unless_bad, is_blank_request, is_refusal, IsEndStop, blank_request, Shape, shape_of, Script, carries, no_tracks, shape_at}
use Rattle.commands.specs.Parts.{opens, sets_rate, acknowledges}
use Rattle.laws_commands.proofs.Prepared.{IsBlank, IsAcked, blanks, acks, in_with}
use Rattle.laws_commands.proofs.Steps.{keeps_drives}
use Rattle.laws_commands.proofs.Verified.{one_image, reaches}
use Rattle.laws_commands.proofs.Going.{Stage, at, calm_in, IsSafe, IsDone, GoesWell, goes_needs, goes_carries}
use Rattle.floppy_jobs.specs.declared.request.Request.TheVariants as request
use Rattle.sector_model.specs.declared.reply.Reason.TheVariants as reason
use Rattle.sector_model.specs.declared.reply.Stop.TheVariants as stop

pub both_true : (a b : Bool) → a ≡ true → b ≡ true → (a && b) ≡ true
both_true a b e f = rw (e, f) refl

-- if a request puts no file in, only the outside can stop it
stops_outside : (asked : Request) (old new : State) (told after : Option Files) (cause : Stop)
    → ((bay : ℕ) (name : List ℕ) → asked ≡ request.Insert bay name → ⊥) → StopsAt asked old told cause new after → IsEndStop cause
stops_outside asked old new told after (stop.BadImage name error) other stops = let is = stops.cause.0 in absurd (other is.0 name is.1)
stops_outside asked old new told after (stop.TooLong name most) other stops = let is = stops.cause.0 in absurd (other is.0 name is.1)
stops_outside asked old new told after (stop.Absent name) other stops = let is = stops.cause.0 in absurd (other is.0 name is.1)
stops_outside asked old new told after _ other stops = tt

pub safe : (asked : Request) (old : Stage) → keeps_drives asked ≡ true → ((bay : ℕ) (name : List ℕ) → asked ≡ request.Insert bay name → ⊥) → IsSafe asked old
safe asked old keeps other = record {
  keeps = keeps;
  stops = λ cause new stops. stops_outside asked old.state new.state old.files new.files cause other stops;
}

-- a call that answered Ok isn't refused
pub ok_taken : (called : Result (Unit {0}) Code) (answer : Reply) → answer ≡ reply_of called → IsOk called → is_refusal answer ≡ false
ok_taken (Ok u) answer is ok = ap is_refusal is
ok_taken (Err code) answer is ok = absurd (true≢false (sym ok))

-- what is done with one bay leaves the other bay as it is
abbrev pub AreApart : ℕ → ℕ → Type 0
AreApart bay other = (station : StationState) (value : Bay) → bay_of (set_bay station bay value) other ≡ bay_of station other

pub other_stays : (bay other : ℕ) (old new : StationState) (value : Bay) → AreApart bay other → Becomes (set_bay old bay value) new
    → bay_of new other ≡ bay_of old other
other_stays bay other old new value apart becomes = ap (λ (s : StationState). bay_of s other) becomes ∙ apart old value

-- ---- Blank media.

-- a bay of a fresh station is empty
pub fresh_empty : (state : State) (bay : ℕ) → IsFresh state.station → is_loaded state bay ≡ false
fresh_empty state bay fresh = ap (λ (bays : Two Bay). is_some (in_bay bays bay).medium) fresh.bays ∙ both_empty (bay == 0)
  where
    both_empty : (first : Bool) → is_some (if first then fresh_bay None else fresh_bay None).medium ≡ false
    both_empty true = refl
    both_empty false = refl

blank_order : (good loaded : Bool) → good ≡ true → loaded ≡ false → unless_bad good (if loaded then Some reason.Busy else None) ≡ None
blank_order good loaded e f = rw (e, f) refl

-- A request for a blank medium is safe. It isn't refused if the checks in this order refuse nothing.
blank_fine : (bay : ℕ) (rate : Rate) (name : List ℕ) (count : ℕ) (old : Stage)
    → unless_bad (is_blank_request bay count) (if is_loaded old.state bay then Some reason.Busy else None) ≡ None
    → IsSafe (blank_request bay name count rate) old
    × ((answer : Reply) (new : Stage) → Step (blank_request bay name count rate) old.state old.files answer new.state new.files → is_refusal answer ≡ false)
blank_fine bay R500 name count old free = (
  safe (request.Blank bay name count) old refl (λ at other same. cc same),
  λ answer new step. ap is_refusal (reaches _ (refusal_of old.state (request.Blank bay name count)) free step).0,
)
blank_fine bay R250 name count old free = (
  safe (request.BlankDd bay name count) old refl (λ at other same. cc same),
  λ answer new step. ap is_refusal (reaches _ (refusal_of old.state (request.BlankDd bay name count)) free step).0,
)

-- a blank medium is put into an empty bay
pub blank_done : (bay : ℕ) (rate : Rate) (name : List ℕ) (count : ℕ) (old : Stage) → is_bay bay ≡ true → 1 ≤ count → count ≤ 80
    → is_loaded old.state bay ≡ false
    → IsDone (λ new. IsBlank bay rate name count old.state old.files new.state new.files) (blank_request bay name count rate) old
blank_done bay rate name count old is_one least most empty =
    let good : is_blank_request bay count ≡ true = both_true _ _ (both_true _ _ is_one (le-leb 1 count least)) (le-leb count 80 most) in
    let fine = blank_fine bay rate name count old (blank_order (is_blank_request bay count) (is_loaded old.state bay) good empty) in
    record {
      safe = fine.0;
      answers = λ answer new step calm. let done = fine.1 answer new step in
          (done, blanks bay rate name count old.state new.state old.files new.files answer step done);
    }

-- ---- A bay is made ready.

-- the bay has this disk, and is acknowledged at the rate of the disk
pub record IsReadyFor (bay : ℕ) (disk : Disk) (station : StationState) : Type 0 where
  pub medium : (bay_of station bay).medium ≡ Some disk
  pub bay_rate : (bay_of station bay).rate ≡ disk.rate
  pub kept : is_acknowledged station bay ≡ true

pub ready_still : (bay : ℕ) (disk : Disk) (old new : StationState) → bay_of new bay ≡ bay_of old bay → IsReadyFor bay disk old → IsReadyFor bay disk new
ready_still bay disk old new same ready = search

-- one bay is ready for this disk, and the other bay is as it was
pub record IsReadyAlone (bay other : ℕ) (disk : Disk) (old new : Stage) : Type 0 where
  pub ready : IsReadyFor bay disk new.state.station
  pub same : bay_of new.state.station other ≡ bay_of old.state.station other

truly : {P : Type 0} (Q : Type 0) (good : Bool) → good ≡ true → MatchBool good P Q → P
truly Q true is holds = holds
truly Q false is holds = absurd (true≢false (sym is))

ack_ok : (bay : ℕ) (disk : Disk) (old new : StationState) (called : Result (Unit {0}) Code) → (bay_of old bay).medium ≡ Some disk
    → IsUndisturbed bay old.counters new.counters → old.counters.stalls ≤ new.counters.stalls → AcksDrive bay old called new → IsOk called
ack_ok bay disk old new (Ok u) medium calm stalls drive = refl
ack_ok bay disk old new (Err code) medium calm stalls drive = elim drive.refused.cause [
  | inl none ↦ absurd (cc (none, medium))
  | inr rose ↦ absurd (omega (arith, rose, calm.faults, calm.together, stalls))
]

ack_done : (bay : ℕ) (disk : Disk) (old : Stage) → is_bay bay ≡ true → (bay_of old.state.station bay).medium ≡ Some disk
    → IsDone (λ new. IsAcked bay disk old.state old.files new.state new.files) (request.Ack bay) old
ack_done bay disk old is_one medium = record {
  safe = safe (request.Ack bay) old refl (λ at name same. cc same);
  answers = λ answer new step calm.
      let quiet = calm_in bay (request.Ack bay) answer old.state.station.counters new.state.station.counters is_one refl calm in
      let ok = ack_ok bay disk old.state.station new.state.station step.1.0 medium quiet step.0.counts.stalls (truly _ (is_bay bay) is_one step.1.2) in
      let fine = ok_taken step.1.0 answer step.1.1 ok in
      (fine, acks bay disk old.state new.state old.files new.files answer step fine medium);
}

rate_order : (one acknowledged : Bool) → one ≡ true → acknowledged ≡ true
    → (if not one then Some BadRequest else (if not acknowledged then Some Changed else None)) ≡ None
rate_order one acknowledged e f = rw (e, f) refl

module _ (bay other : ℕ) (disk : Disk) (is_one : is_bay bay ≡ true) (apart : AreApart bay other) where
  rate_done : (old : Stage) → disk.rate ≡ R250 → (bay_of old.state.station bay).medium ≡ Some disk → is_acknowledged old.state.station bay ≡ true
      → IsDone (λ new. IsReadyAlone bay other disk old new) (request.SetRate bay R250) old
  rate_done old low medium kept = record {
    safe = safe (request.SetRate bay R250) old refl (λ at name same. cc same);
    answers = λ answer new step calm.
        let station = old.state.station in
        let sets = reaches _ (rate_refusal station bay) (rate_order (is_bay bay) (is_acknowledged station bay) is_one kept) step.1.2 in
        let value : Bay = record (bay_of station bay) { rate = R250 } in
        let at_bay = ap (λ (s : StationState). bay_of s bay) sets.becomes ∙ in_with station.bays bay value in (
          ok_taken step.1.0 answer step.1.1 sets.done,
          record {
            ready = record {
              medium = ap (λ (b : Bay). b.medium) at_bay ∙ medium;
              bay_rate = ap (λ (b : Bay). b.rate) at_bay ∙ sym low;
              kept = ap (λ (b : Bay). is_some b.acknowledged) at_bay ∙ kept;
            };
            same = other_stays bay other station new.state.station value apart sets.becomes;
          },
        );
  }

  -- after an acknowledgement the bay gets the rate of its disk
  rate_goes : (rate : Rate) (rest : Unit {0} → Script) (old mid : Stage) → disk.rate ≡ rate → IsAcked bay disk old.state old.files mid.state mid.files
      → ((new : Stage) → IsReadyAlone bay other disk old new → GoesWell (rest tt) new) → GoesWell (sets_rate bay rate rest) mid
  unfolding sets_rate
  rate_goes R500 rest old mid is acked behind =
      behind mid (record {
        ready = record { medium = acked.medium; bay_rate = acked.high is ∙ sym is; kept = ap (λ (o : Option ℕ). is_some o) acked.kept };
        same = other_stays bay other old.state.station mid.state.station acked.value apart acked.becomes;
      })
  rate_goes R250 rest old mid is acked behind =
      let same = other_stays bay other old.state.station mid.state.station acked.value apart acked.becomes in
      goes_carries (λ new. IsReadyAlone bay other disk mid new) (request.SetRate bay R250) rest mid
      (rate_done mid is acked.medium (ap (λ (o : Option ℕ). is_some o) acked.kept))
      (λ new alone. behind new (record { ready = alone.ready; same = alone.same ∙ same }))

  pub acknowledges_goes : (rest : Unit {0} → Script) (old : Stage) → (bay_of old.state.station bay).medium ≡ Some disk
      → ((new : Stage) → IsReadyAlone bay other disk old new → GoesWell (rest tt) new) → GoesWell (acknowledges bay disk.rate rest) old
  unfolding acknowledges
  acknowledges_goes rest old medium behind =
      goes_carries (λ new. IsAcked bay disk old.state old.files new.state new.files) (request.Ack bay) (λ none. sets_rate bay disk.rate rest) old
      (ack_done bay disk old is_one medium)
      (λ mid acked. rate_goes disk.rate rest old mid refl acked behind)

-- ---- A disk is taken out.

eject_order : (good loaded : Bool) → good ≡ true → loaded ≡ true → unless_bad good (if loaded then None else Some reason.Empty) ≡ None
eject_order good loaded e f = rw (e, f) refl

pub eject_goes : (bay : ℕ) (disk : Disk) (rest : Unit {0} → Script) (old : Stage) → is_bay bay ≡ true → (bay_of old.state.station bay).medium ≡ Some disk
    → ((new : Stage) → GoesWell (rest tt) new) → GoesWell (carries (request.Eject bay) rest) old
eject_goes bay disk rest old is_one medium behind =
    let free = eject_order (is_bay bay) (is_loaded old.state bay) is_one (ap (λ (m : Option Disk). is_some m) medium) in
    let done : IsDone (λ new. Unit {0}) (request.Eject bay) old = record {
      safe = safe (request.Eject bay) old refl (λ at name same. cc same);
      answers = λ answer new step calm. (ap is_refusal (reaches _ (refusal_of old.state (request.Eject bay)) free step).0, tt);
    } in
    goes_carries (λ new. Unit {0}) (request.Eject bay) rest old done (λ new none. behind new)

-- ---- The disk of a name is put in.

-- the disk is in bay 0, and bay 1 is empty
pub record IsPutIn (disk : Disk) (told : Option Files) (stage : Stage) : Type 0 where
  pub medium : (bay_of stage.state.station 0).medium ≡ Some disk
  pub empty : is_loaded stage.state 1 ≡ false
  pub files_are : stage.files ≡ told

-- two facts about a file that is there are facts about one content
pub of_one : {P Q : List ℕ → Type 0} (o : Option (List ℕ)) → IsSomeAnd o P → IsSomeAnd o Q → (bytes : List ℕ) × (o ≡ Some bytes) × P bytes × Q bytes
of_one None p q = absurd p
of_one (Some bytes) p q = (bytes, refl, p, q)

-- only the outside can stop an insert, if the file is there and is the image of a disk
pub insert_stops : (bay : ℕ) (from : List ℕ) (files : Files) (disk : Disk) (old new : State) (after : Option Files) (cause : Stop)
    → IsImageOf (Some files) from disk → StopsAt (request.Insert bay from) old (Some files) cause new after → IsEndStop cause
insert_stops bay from files disk old new after stop.FileFault image stops = tt
insert_stops bay from files disk old new after stop.NoMemory image stops = tt
insert_stops bay from files disk old new after (stop.BadImage name error) image stops = grind (arith, of_one)
insert_stops bay from files disk old new after (stop.TooLong name most) image stops = grind (arith, of_one)
insert_stops bay from files disk old new after (stop.Absent name) image stops =
    let e = stops.cause.0.1 in
    let same : name ≡ from = cc e in
    let one = of_one (file_at files from) image image in
    absurd (clash (file_at files from) (subst (λ (n : List ℕ). file_at files n ≡ None) same stops.cause.1) one.1)
  where
    clash : {bytes : List ℕ} (o : Option (List ℕ)) → o ≡ None → o ≡ Some bytes → ⊥
    clash o e f = cc (e, f)

-- the disk is put into the empty bay 0, and its shape is found
pub opens_goes : (from : List ℕ) (files : Files) (disk : Disk) (rest : Shape → Script) (old : State) → IsImageOf (Some files) from disk
    → IsFresh old.station → ((new : Stage) → IsPutIn disk (Some files) new → GoesWell (rest (shape_of disk)) new)
    → GoesWell (opens from rest) (at old (Some files))
unfolding opens
opens_goes from files disk rest old image fresh behind =
    let empty = fresh_empty old 0 fresh in
    let free : refusal_of old (request.Insert 0 from) ≡ None = rw empty refl in
    let done : IsDone (λ new. IsPutIn disk (Some files) new) (request.Insert 0 from) (at old (Some files)) = record {
      safe = record { keeps = refl; stops = λ cause new stops. insert_stops 0 from files disk old new.state new.files cause image stops };
      answers = λ answer new step calm.
          let does = reaches _ (refusal_of old (request.Insert 0 from)) free step in
          let put = does.2 in
          let becomes = put.2.exchanged.becomes in (
            ap is_refusal does.0,
            record {
              medium = ap (λ (s : StationState). (bay_of s 0).medium) becomes ∙ ap (λ (d : Disk). Some d) (one_image files from put.0 disk put.1 image);
              empty = ap (λ (s : StationState). is_loaded (record old { station = s }) 1) becomes ∙ fresh_empty old 1 fresh;
              files_are = does.1;
            },
          );
    } in
    goes_needs (λ new. IsPutIn disk (Some files) new) (request.Insert 0 from) _ (at old (Some files)) done
    (λ answer new put.
    let is : shape_at new.state 0 ≡ shape_of disk = ap (λ (medium : Option Disk). unwrap_or (option_map shape_of medium) no_tracks) put.medium in
    subst (λ (shape : Shape). GoesWell (rest shape) new) (sym is) (behind new put))

-- a disk is in bay 1, and bay 0 is as it was
pub record IsPutBehind (target : Disk) (old new : Stage) : Type 0 where
  pub medium : (bay_of new.state.station 1).medium ≡ Some target
  pub same : bay_of new.state.station 0 ≡ bay_of old.state.station 0

-- the disk of a name is put into an empty bay 1
pub second_done : (to : List ℕ) (files : Files) (target : Disk) (old : Stage) → IsImageOf (Some files) to target → is_loaded old.state 1 ≡ false
    → old.files ≡ Some files → IsDone (λ new. IsPutBehind target old new) (request.Insert 1 to) old
second_done to files target old image empty told =
    let free : refusal_of old.state (request.Insert 1 to) ≡ None = rw empty refl in
    record {
      safe = record {
        keeps = refl;
        stops = λ cause new stops. insert_stops 1 to files target old.state new.state new.files cause image
            (subst (λ (f : Option Files). StopsAt (request.Insert 1 to) old.state f cause new.state new.files) told stops);
      };
      answers = λ answer new step calm.
          let does = reaches _ (refusal_of old.state (request.Insert 1 to)) free step in
          let put = does.2 in
          let there = subst (λ (f : Option Files). IsImageOf f to put.0) told put.1 in
          let becomes = put.2.exchanged.becomes in (
            ap is_refusal does.0,
            record {
              medium = ap (λ (s : StationState). (bay_of s 1).medium) becomes ∙ ap (λ (d : Disk). Some d) (one_image files to put.0 target there image);
              same = ap (λ (s : StationState). bay_of s 0) becomes;
            },
          );
    }
