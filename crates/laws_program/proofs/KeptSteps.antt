-- Each step of a run keeps what stands in the bays and under their names.
use Rattle.std.proofs.Common.{◌≡◌, ◌∙◌, ℕ, Bool, true, false, List, [], ◌∷◌, Option, Some, None, refl, ap, sym, subst, inl, inr}
use Rattle.std.specs.Prelude.{is_some, MatchOption, if◌then◌else◌}
use Rattle.laws_program.proofs.Common.{put_in, blank_valid, list_all, leb-true, Files, stored, Rate, R500, R250, Disk, IsDisk, file_of, Two, in_bay, with_bay, Request, Reply, StationState, Bay, Becomes, Stays, bay_of, set_bay, fresh_bay, State, IsSame, is_bay, Step, IsImageOf, refusal_of, spare_refusal, is_loaded, is_blank_request, blank_of, Taken, Run, requests_of, and_both, IsDiskFile, Names, named_by, IsStoredBy, HoldsBy, InsertsDisk, unless_bad, IsRefused}
use Rattle.laws_program.proofs.Stepping.{either_is, keeps_media, Alters, Leaves, Turns, Overwrites, calm_step}
use Rattle.laws_program.proofs.Inserting.{IsHeld, AreHeld, IsKept, held_in, held_with, held_still, held_none, held_is, named_loaded, stored_last, stored_still, inserted_disk, choose, choose_out, both_free, not_loaded}
use Rattle.floppy_jobs.specs.declared.request.Request.TheVariants as request
use Rattle.sector_model.specs.declared.reply.Reason.TheVariants as reason

module _ (Holds : List ℕ → Type 0) (names : Names) (old : State) (told : Option Files) (kept : IsKept Holds names old told) where
  -- the bays of the new state are these, which have the names
  on_bays : (new : State) (after : Option Files) (bays : Two Bay) → new.station.bays ≡ bays → AreHeld names bays → new.names ≡ old.names → after ≡ told
      → IsKept Holds names new after
  on_bays new after bays is held same still = record {
    files = kept.files;
    told_is = still ∙ kept.told_is;
    named = same ∙ kept.named;
    held = subst (AreHeld names) (sym is) held;
    holds = λ name known. subst (λ (f : Option Files). IsDiskFile f name) (sym still) (kept.holds name known);
  }

  stays_kept : (new : State) (after : Option Files) → Stays old.station new.station → new.names ≡ old.names → after ≡ told → IsKept Holds names new after
  stays_kept new after stays same still = on_bays new after old.station.bays (ap (λ (s : StationState). s.bays) stays) kept.held same still

  pub same_kept : {accesses : ℕ} (new : State) (after : Option Files) → IsSame accesses old new → after ≡ told → IsKept Holds names new after
  same_kept new after same still = stays_kept new after same.stays same.names still

  -- a bay was changed, and has a disk if and only if it has a name
  bay_kept : (new : State) (after : Option Files) (at : ℕ) (x : Bay) → new.station.bays ≡ with_bay old.station.bays at x → IsHeld (in_bay names at) x.medium
      → new.names ≡ old.names → after ≡ told → IsKept Holds names new after
  bay_kept new after at x is held same still =
      on_bays new after (with_bay old.station.bays at x) is (held_still names old.station.bays at x kept.held held) same still

  here : (at : ℕ) → IsHeld (in_bay names at) (bay_of old.station at).medium
  here at = held_in names old.station.bays at kept.held

  altered_kept : (asked : Request) (new : State) (after : Option Files) → new.names ≡ old.names → after ≡ told → Alters asked old new → IsKept Holds names new after
  altered_kept asked new after same still (Leaves is) = on_bays new after old.station.bays is kept.held same still
  altered_kept asked new after same still (Turns at x is stays) = bay_kept new after at x is (subst (IsHeld (in_bay names at)) (sym stays) (here at)) same still
  altered_kept asked new after same still (Overwrites at x is free writes held) = bay_kept new after at x is (held (in_bay names at) (here at)) same still

  -- a step that keeps the media
  pub media_kept : (asked : Request) (answer : Reply) (new : State) (after : Option Files) → keeps_media asked ≡ true → Step asked old told answer new after
      → IsKept Holds names new after
  media_kept asked answer new after e step =
      let calm = calm_step asked old told answer new after e step in
      altered_kept asked new after calm.0 calm.1 calm.2

  -- ---- media that go in and out

  pub loaded_is : (at : ℕ) → is_loaded old at ≡ is_some (in_bay names at)
  loaded_is at = named_loaded (in_bay names at) (bay_of old.station at).medium (here at)

  abbrev Behind : Request → State → Option Files → Names → Type 0
  Behind asked new after now = IsKept (HoldsBy Holds names asked) now new after

  pub behind : (asked : Request) (new : State) (after : Option Files) → ((name : List ℕ) → IsStoredBy names asked name → ⊥) → IsKept Holds names new after
      → Behind asked new after names
  behind asked new after none is = record {
    files = is.files;
    told_is = is.told_is;
    named = is.named;
    held = is.held;
    holds = λ name known. elim known [ inl before ↦ is.holds name before | inr now ↦ absurd (none name now) ];
  }

  -- a disk in its ranges went in
  went_in : (asked : Request) (new : State) (after : Option Files) (at : ℕ) (name : List ℕ) (disk : Disk)
      → ((other : List ℕ) → IsStoredBy names asked other → ⊥) → IsDisk disk → new.names ≡ with_bay old.names at (Some name)
      → Becomes (set_bay old.station at (fresh_bay (Some disk))) new.station → after ≡ told
      → Behind asked new after (with_bay names at (Some name))
  went_in asked new after at name disk none valid named becomes still = record {
    files = kept.files;
    told_is = still ∙ kept.told_is;
    named = named ∙ ap (λ (n : Names). with_bay n at (Some name)) kept.named;
    held = subst (AreHeld (with_bay names at (Some name))) (sym (ap (λ (s : StationState). s.bays) becomes))
        (held_with names old.station.bays at (Some name) (fresh_bay (Some disk)) kept.held valid);
    holds = λ other known. elim known [
      | inl before ↦ subst (λ (f : Option Files). IsDiskFile f other) (sym still) (kept.holds other before)
      | inr now ↦ absurd (none other now)
    ];
  }

  -- a request that puts a medium in, by the order of its refusals
  put_kept : {P : Type 0} (asked : Request) (answer : Reply) (new : State) (after : Option Files) (at : ℕ) (good : Bool) (name : List ℕ)
      → ((other : List ℕ) → IsStoredBy names asked other → ⊥)
      → MatchOption (unless_bad good (if is_loaded old at then Some reason.Busy else None)) P (λ cause. IsRefused cause old told answer new after)
      → (good ≡ true → is_loaded old at ≡ false → P → Behind asked new after (with_bay names at (Some name)))
      → Behind asked new after (put_in names good at name)
  put_kept asked answer new after at good name none step done =
      subst (λ (b : Bool). Behind asked new after (if good then (if b then names else with_bay names at (Some name)) else names)) (loaded_is at)
      (choose (Behind asked new after) names (with_bay names at (Some name)) good (is_loaded old at) step done
      (λ cause refused. behind asked new after none (same_kept new after refused.same refused.files)))

  blank_kept : (asked : Request) (new : State) (after : Option Files) (at count : ℕ) (rate : Rate) (name : List ℕ)
      → ((other : List ℕ) → IsStoredBy names asked other → ⊥) → is_blank_request at count ≡ true → new.names ≡ with_bay old.names at (Some name)
      → Becomes (set_bay old.station at (fresh_bay (Some (blank_of count rate)))) new.station → after ≡ told
      → Behind asked new after (with_bay names at (Some name))
  blank_kept asked new after at count rate name none good named becomes still =
      let most = and_both _ _ good in
      let least = and_both _ _ most.0 in
      went_in asked new after at name (blank_of count rate) none (blank_valid count rate (leb-true 1 count least.1) (leb-true count 80 most.1)) named becomes still

  insert_kept : (at : ℕ) (name : List ℕ) (answer : Reply) (new : State) (after : Option Files) → InsertsDisk Holds names (request.Insert at name)
      → Step (request.Insert at name) old told answer new after → Behind (request.Insert at name) new after (named_by names (request.Insert at name))
  insert_kept at name answer new after known step =
      let asked = request.Insert at name in
      put_kept asked answer new after at (is_bay at) name (λ other none. none) step (λ good empty does.
      let put = does.2 in
      let holds = known (both_free (is_bay at) (is_some (in_bay names at)) good (sym (loaded_is at) ∙ empty)) in
      let is = subst (λ (f : Option Files). IsDiskFile f name) kept.told_is (kept.holds name holds) in
      let valid = inserted_disk kept.files name put.0 is (subst (λ (f : Option Files). IsImageOf f name put.0) kept.told_is put.1) in
      went_in asked new after at name put.0 (λ other none. none) valid put.2.names put.2.exchanged.becomes does.1)

  -- a disk comes out, and is stored
  ejected_kept : (at : ℕ) (new : State) (after : Option Files) (disk : Disk) (name : List ℕ) → (bay_of old.station at).medium ≡ Some disk
      → in_bay old.names at ≡ Some name → new.names ≡ with_bay old.names at None → Becomes (set_bay old.station at (fresh_bay None)) new.station
      → after ≡ stored told name (file_of disk) → Behind (request.Eject at) new after (with_bay names at None)
  ejected_kept at new after disk name medium under named becomes stores =
      let valid = held_is (in_bay names at) (bay_of old.station at).medium disk medium (here at) in
      record {
        files = _;
        told_is = stores ∙ ap (λ (f : Option Files). stored f name (file_of disk)) kept.told_is;
        named = named ∙ ap (λ (n : Names). with_bay n at None) kept.named;
        held = subst (AreHeld (with_bay names at None)) (sym (ap (λ (s : StationState). s.bays) becomes))
            (held_with names old.station.bays at None (fresh_bay None) kept.held tt);
        holds = λ other known. subst (λ (f : Option Files). IsDiskFile f other) (sym stores) (elim known as (λ _. IsDiskFile (stored told name (file_of disk)) other) [
          | inl before ↦ stored_still told name other disk valid (kept.holds other before)
          | inr now ↦
              let one = ap (λ (n : Names). in_bay n at) kept.named in
              let two = now.1 in
              let same : name ≡ other = cc (one, two, under) in
              subst (λ (n : List ℕ). IsDiskFile (stored told name (file_of disk)) n) same (stored_last told name disk valid)
        ]);
      }

  eject_kept : (at : ℕ) (answer : Reply) (new : State) (after : Option Files) → Step (request.Eject at) old told answer new after
      → Behind (request.Eject at) new after (named_by names (request.Eject at))
  eject_kept at answer new after step =
      let asked = request.Eject at in
      subst (λ (b : Bool). Behind asked new after (if is_bay at then (if b then with_bay names at None else names) else names)) (loaded_is at)
      (choose_out (Behind asked new after) names (with_bay names at None) (is_bay at) (is_loaded old at) step
      (λ does. ejected_kept at new after does.1.0 does.1.1 does.1.2 does.1.3 does.1.4.names does.1.4.exchanged.becomes does.1.5)
      (λ cause none refused. behind asked new after (λ other now. none now.0 (loaded_is at ∙ ap (λ (n : Option (List ℕ)). is_some n) now.1))
      (same_kept new after refused.same refused.files)))

  unit_kept : (at : ℕ) (answer : Reply) (new : State) (after : Option Files) → Step (request.Unit at) old told answer new after
      → Behind (request.Unit at) new after names
  unit_kept at answer new after step =
      let asked = request.Unit at in
      either_is (refusal_of old asked) step
      (λ free does.
      let empty = not_loaded (is_bay at) (is_loaded old at) (spare_refusal old) free in
      behind asked new after (λ other none. none)
      (bay_kept new after at (fresh_bay None) (ap (λ (s : StationState). s.bays) does.3.becomes)
      (held_none (in_bay names at) (bay_of old.station at).medium empty (here at)) does.2 does.1))
      (λ cause refused. behind asked new after (λ other none. none) (same_kept new after refused.same refused.files))

  pub step_kept : (asked : Request) (answer : Reply) (new : State) (after : Option Files) → InsertsDisk Holds names asked → Step asked old told answer new after
      → Behind asked new after (named_by names asked)
  step_kept (request.Insert at name) answer new after known step = insert_kept at name answer new after known step
  step_kept (request.Blank at name count) answer new after known step =
      let asked = request.Blank at name count in
      put_kept asked answer new after at (is_blank_request at count) name (λ other none. none) step
      (λ good empty does. blank_kept asked new after at count R500 name (λ other none. none) good does.2.names does.2.exchanged.becomes does.1)
  step_kept (request.BlankDd at name count) answer new after known step =
      let asked = request.BlankDd at name count in
      put_kept asked answer new after at (is_blank_request at count) name (λ other none. none) step
      (λ good empty does. blank_kept asked new after at count R250 name (λ other none. none) good does.2.names does.2.exchanged.becomes does.1)
  step_kept (request.Eject at) answer new after known step = eject_kept at answer new after step
  step_kept (request.Unit at) answer new after known step = unit_kept at answer new after step
  step_kept asked answer new after known step = behind asked new after (λ other none. none) (media_kept asked answer new after refl step)

-- ---- a run

-- media are kept through a course of requests that keep them
pub course_kept : (Holds : List ℕ → Type 0) (names : Names) (old new : State) (told after : Option Files) (course : List Taken)
    → list_all keeps_media (requests_of course) ≡ true → Run old told course new after → IsKept Holds names old told → IsKept Holds names new after
course_kept Holds names old new told after [] all run kept =
    subst (λ (f : Option Files). IsKept Holds names new f) (sym run.1) (subst (λ (s : State). IsKept Holds names s told) (sym run.0) kept)
course_kept Holds names old new told after (taken ∷ later) all run kept =
    let parts = and_both (keeps_media taken.asked) (list_all keeps_media (requests_of later)) all in
    course_kept Holds names taken.after new run.0 after later parts.1 run.2
    (media_kept Holds names old told kept taken.asked taken.answer taken.after run.0 parts.0 run.1)
