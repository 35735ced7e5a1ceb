-- A protected disk that stands under a name before a run stands there after it.
use Rattle.std.proofs.Common.{[], ◌≡◌, ◌∙◌, ℕ, Bool, true, false, true≢false, cond, List, ◌∷◌, length, Option, Some, None, Ok, refl, ap, sym, subst, inr, ◌++◌}
use Rattle.std.specs.Prelude.{◌≤◌, ◌-◌, is_some, IsSomeAnd}
use Rattle.laws_program.proofs.Common.{option_map_or, nat_cmp, eq_by_cmp, slice_cmp, Files, file_at, after_store, stored, Status, Disk, IsDisk, image_of, file_of, image_again, both, in_bay, DriveCounts, Board, Request, Reply, Bay, bay_of, set_bay, fresh_bay, State, IsSame, ChangesMedium, is_bay, Step, IsImageOf, refusal_of, spare_refusal, is_loaded, most_image_bytes, Taken, Run, requests_of, EndsBay, Stored, Left, EndStopsAt, AtFirst, AtSecond, World, Outside, world, Form, DoesForm, RunsOver, one_image, Names, is_same_bay, exchanges, IsGuarded, BlanksUnder, BlanksNone, IsJob}
use Rattle.std.proofs.lemmas.Map.Views.{tells_apart}
use Rattle.sector_model.specs.Steps.{StoresMedium}
use Rattle.sector_model.specs.Runs.{Ends}
use Rattle.laws_program.proofs.Courses.{Rests, Still, AtRequest, AtEnd, AtStore, Went, went_play, went_calls, went_or_starved}
use Rattle.laws_program.proofs.Stepping.{either, either_is, becomes_medium, calm_step, step_keeps}
use Rattle.laws_program.proofs.Inserting.{file_text, file_stored, not_loaded}
use Rattle.laws_program.proofs.AlikeDisks.{sorted, each_bay, same_bay, other_bay, in_same}
use Rattle.laws_program.proofs.JobRuns.{first_asked}
use Rattle.std.specs.FinMap as fin
use Rattle.floppy_jobs.specs.declared.request.Request.TheVariants as request
use Rattle.floppy_words.specs.declared.form.Form.TheVariants as form

-- ---- files

abbrev IsImageText : Option (List ℕ) → Disk → Type 0
IsImageText found disk = IsSomeAnd found (λ bytes. (length bytes ≤ most_image_bytes) × (image_of bytes ≡ Ok disk))

own_image : (disk : Disk) → IsDisk disk → IsImageText (Some (file_of disk)) disk
own_image disk valid = let text = file_text disk valid in (text.0, image_again (file_of disk) disk text.1)

-- the name keeps the image of the disk when a file is stored: that of the same disk, or one under another name
image_stored : (files : Files) (name other : List ℕ) (disk put : Disk) → IsDisk disk → (other ≡ name → put ≡ disk) → IsImageOf (Some files) name disk
    → IsImageOf (Some (after_store files other (file_of put))) name disk
image_stored files name other disk put valid same image =
    subst (λ (o : Option (List ℕ)). IsImageText o disk) (sym (file_stored files other (file_of put) name))
    (go (eq_by_cmp (slice_cmp nat_cmp) name other)
    (λ e. sym (tells_apart (fin.slice_cmp-IsAntisymmetric fin.nat_cmp-IsAntisymmetric) name other e)))
  where
    go : (t : Bool) → (t ≡ true → other ≡ name) → IsImageText (cond t (Some (file_of put)) (file_at files name)) disk
    go true is = subst (λ (d : Disk). IsImageText (Some (file_of d)) disk) (sym (same (is refl))) (own_image disk valid)
    go false is = image

-- ---- bays

-- the name has the image of the disk, and each medium of this name is that disk
pub record IsStored (name : List ℕ) (disk : Disk) (state : State) (told : Option Files) : Type 0 where
  pub files : Files
  pub told_is : told ≡ Some files
  pub image : IsImageOf (Some files) name disk
  pub held : (bay : ℕ) → in_bay state.names bay ≡ Some name → (bay_of state.station bay).medium ≡ Some disk

-- ---- one step

module _ (name : List ℕ) (disk : Disk) (valid : IsDisk disk) (guarded : disk.protected ≡ true) (old : State) (told : Option Files)
    (kept : IsStored name disk old told) where
  abbrev Keeps : State → Option Files → Type 0
  Keeps new after = IsStored name disk new after

  on_media : (new : State) (after : Option Files) → after ≡ told
      → ((bay : ℕ) → in_bay new.names bay ≡ Some name → (bay_of new.station bay).medium ≡ Some disk) → Keeps new after
  on_media new after still held = record { files = kept.files; told_is = still ∙ kept.told_is; image = kept.image; held = held }

  guard : (bay : ℕ) → (bay_of old.station bay).medium ≡ Some disk → IsGuarded old.station bay
  guard bay is = inr (ap (λ (m : Option Disk). option_map_or (λ (d : Disk). d.protected) m false) is ∙ guarded)

  named_still : (new : State) → new.names ≡ old.names → (bay : ℕ) → in_bay new.names bay ≡ Some name → (bay_of old.station bay).medium ≡ Some disk
  named_still new names bay named = kept.held bay (ap (λ (n : Names). in_bay n bay) (sym names) ∙ named)

  -- what holds after a step in which names, files and protected media stay
  same_media : (new : State) (after : Option Files) → new.names ≡ old.names → after ≡ told
      → ((bay : ℕ) → IsGuarded old.station bay → (bay_of new.station bay).medium ≡ (bay_of old.station bay).medium) → Keeps new after
  same_media new after names still media = on_media new after still (λ bay named.
      let here = named_still new names bay named in
      media bay (guard bay here) ∙ here)

  refused_kept : {accesses : ℕ} (new : State) (after : Option Files) → IsSame accesses old new → after ≡ told → Keeps new after
  refused_kept new after same still = same_media new after same.names still
      (λ bay guards. becomes_medium (record old.station { counters = new.station.counters }) new.station bay same.stays)

  calm_kept : (asked : Request) (answer : Reply) (new : State) (after : Option Files) → Step asked old told answer new after
      → ((bay : ℕ) → exchanges bay asked ≡ false) → new.names ≡ old.names → after ≡ told → Keeps new after
  calm_kept asked answer new after step apart names still = same_media new after names still
      (λ bay guards. step_keeps old bay guards asked told answer new after step (apart bay))

  -- a bay got another medium, or none
  changed_held : (at : ℕ) (put : Option (List ℕ)) (medium : Option Disk) (new : State) → (put ≡ Some name → medium ≡ Some disk)
      → ChangesMedium at put medium old new → (bay : ℕ) → in_bay new.names bay ≡ Some name → (bay_of new.station bay).medium ≡ Some disk
  changed_held at put medium new same changes bay named =
      let now = ap (λ (n : Names). in_bay n bay) (sym changes.names) ∙ named in
      let is = becomes_medium (set_bay old.station at (fresh_bay medium)) new.station bay changes.exchanged.becomes in
      sorted (is_same_bay at bay)
      (λ e. is ∙ ap (λ (b : Bay). b.medium) (in_same old.station.bays at bay (fresh_bay medium) e)
      ∙ same (sym (in_same old.names at bay put e) ∙ now))
      (λ e. is ∙ ap (λ (b : Bay). b.medium) (other_bay old.station.bays at bay (fresh_bay medium) e)
      ∙ kept.held bay (sym (other_bay old.names at bay put e) ∙ now))

  -- what is put in from the file of this name is the disk
  inserted_same : (other : List ℕ) (put : Disk) → IsImageOf told other put → Some other ≡ Some name → Some put ≡ Some disk
  inserted_same other put image is =
      let same : other ≡ name = cc is in
      let here = subst (λ (f : Option Files). IsImageOf f name put) kept.told_is (subst (λ (n : List ℕ). IsImageOf told n put) same image) in
      ap (λ (d : Disk). Some d) (one_image kept.files name put disk here kept.image)

  insert_kept : (at : ℕ) (other : List ℕ) (answer : Reply) (new : State) (after : Option Files) → Step (request.Insert at other) old told answer new after
      → Keeps new after
  insert_kept at other answer new after step =
      either (refusal_of old (request.Insert at other)) step
      (λ does. on_media new after does.1
      (changed_held at (Some other) (Some does.2.0) new (inserted_same other does.2.0 does.2.1) does.2.2))
      (λ cause refused. refused_kept new after refused.same refused.files)

  blank_kept : (at : ℕ) (other : List ℕ) (put : Disk) (new : State) (after : Option Files) → (other ≡ name → ⊥)
      → ChangesMedium at (Some other) (Some put) old new → after ≡ told → Keeps new after
  blank_kept at other put new after differs changes still =
      on_media new after still (changed_held at (Some other) (Some put) new (λ is. absurd (differs (cc is))) changes)

  -- a medium is stored under its name
  stores_kept : (at : ℕ) (new : State) (after : Option Files) (put : Disk) (other : List ℕ) → (bay_of old.station at).medium ≡ Some put
      → in_bay old.names at ≡ Some other → ChangesMedium at None None old new → after ≡ stored told other (file_of put) → Keeps new after
  stores_kept at new after put other medium named changes stores = record {
    files = after_store kept.files other (file_of put);
    told_is = stores ∙ ap (λ (f : Option Files). stored f other (file_of put)) kept.told_is;
    image = image_stored kept.files name other disk put valid (λ is.
        let here = kept.held at (named ∙ ap (λ (n : List ℕ). Some n) is) in
        cc (here, medium)) kept.image;
    held = changed_held at None None new (λ is. absurd (cc is)) changes;
  }

  pub taken_kept : (at : ℕ) (new : State) (after : Option Files) → StoresMedium at old told new after → Keeps new after
  taken_kept at new after is = stores_kept at new after is.0 is.1 is.2 is.3 is.4 is.5

  unit_kept : (at : ℕ) (answer : Reply) (new : State) (after : Option Files) → Step (request.Unit at) old told answer new after → Keeps new after
  unit_kept at answer new after step =
      either_is (refusal_of old (request.Unit at)) step
      (λ free does.
      let empty = not_loaded (is_bay at) (is_loaded old at) (spare_refusal old) free in
      on_media new after does.1 (λ bay named.
      let here = named_still new does.2 bay named in
      sorted (is_same_bay at bay)
      (λ e.
      let loaded = ap (λ (b : Bay). is_some b.medium) (same_bay old.station.bays at bay e) ∙ ap (λ (m : Option Disk). is_some m) here in
      absurd (true≢false (sym loaded ∙ empty)))
      (λ e. becomes_medium (record (set_bay old.station at (fresh_bay None)) { spares = old.station.spares - 1 }) new.station bay does.3.becomes
      ∙ ap (λ (b : Bay). b.medium) (other_bay old.station.bays at bay (fresh_bay None) e) ∙ here)))
      (λ cause refused. refused_kept new after refused.same refused.files)

  step_kept : (asked : Request) (answer : Reply) (new : State) (after : Option Files) → (BlanksUnder name asked → ⊥) → Step asked old told answer new after
      → Keeps new after
  step_kept (request.Insert at other) answer new after none step = insert_kept at other answer new after step
  step_kept (request.Blank at other count) answer new after none step =
      either (refusal_of old (request.Blank at other count)) step (λ does. blank_kept at other _ new after none does.2 does.1)
      (λ cause refused. refused_kept new after refused.same refused.files)
  step_kept (request.BlankDd at other count) answer new after none step =
      either (refusal_of old (request.BlankDd at other count)) step (λ does. blank_kept at other _ new after none does.2 does.1)
      (λ cause refused. refused_kept new after refused.same refused.files)
  step_kept (request.Eject at) answer new after none step =
      either (refusal_of old (request.Eject at)) step (λ does. taken_kept at new after does.1)
      (λ cause refused. refused_kept new after refused.same refused.files)
  step_kept (request.Unit at) answer new after none step = unit_kept at answer new after step
  step_kept asked answer new after none step =
      let calm = calm_step asked old told answer new after refl step in
      calm_kept asked answer new after step (λ bay. refl) calm.0 calm.1

  -- the end of a bay
  end_kept : (at : ℕ) (new : State) (after : Option Files) → EndsBay at old told new after → Keeps new after
  end_kept at new after (Stored is) = taken_kept at new after is
  end_kept at new after (Left is) = refused_kept new after is.same is.files

-- ---- a run

-- the told files have the image of the disk under the name
abbrev pub HasImage : List ℕ → Disk → Option Files → Type 0
HasImage name disk told = (files : Files) × (told ≡ Some files) × IsImageOf (Some files) name disk

pub still : (name : List ℕ) (disk : Disk) (told after : Option Files) → after ≡ told → HasImage name disk told → HasImage name disk after
still name disk told after same has = subst (λ (f : Option Files). HasImage name disk f) (sym same) has

pub image_in : (name : List ℕ) (disk : Disk) (state : State) (told : Option Files) → IsStored name disk state told → HasImage name disk told
image_in name disk state told kept = (kept.files, kept.told_is, kept.image)

module _ (name : List ℕ) (disk : Disk) (valid : IsDisk disk) (guarded : disk.protected ≡ true) where
  abbrev Has : State → Option Files → Type 0
  Has state told = IsStored name disk state told

  pub course_kept : (old new : State) (told after : Option Files) (course : List Taken) → BlanksNone name (requests_of course) → Run old told course new after
      → Has old told → Has new after
  course_kept old new told after [] none run kept =
      subst (λ (f : Option Files). Has new f) (sym run.1) (subst (λ (s : State). Has s told) (sym run.0) kept)
  course_kept old new told after (taken ∷ later) none run kept =
      course_kept taken.after new run.0 after later none.1 run.2
      (step_kept name disk valid guarded old told kept taken.asked taken.answer taken.after run.0 none.0 run.1)

  pub ends_kept : (old new : State) (told after : Option Files) → Ends old told new after → Has old told → HasImage name disk after
  ends_kept old new told after ends kept =
      let first = end_kept name disk valid guarded old told kept 0 ends.0 ends.1 ends.2 in
      image_in name disk new after (end_kept name disk valid guarded ends.0 ends.1 first 1 new after ends.3)

  pub end_stopped : (old new : State) (told after : Option Files) → EndStopsAt old told new after → Has old told → HasImage name disk after
  end_stopped old new told after (AtFirst drops same) kept = still name disk told after same (image_in name disk old told kept)
  end_stopped old new told after (AtSecond mid first drops) kept =
      image_in name disk mid after (end_kept name disk valid guarded old told kept 0 mid after first)

  rests_keep : (mid new : State) (files after : Option Files) → Rests mid files new after → Has mid files → HasImage name disk after
  rests_keep mid new files after (Still state same) kept = still name disk files after same (image_in name disk mid files kept)
  rests_keep mid new files after (AtRequest asked cause stops) kept = still name disk files after stops.files (image_in name disk mid files kept)
  rests_keep mid new files after (AtEnd ends) kept = ends_kept mid new files after ends kept
  rests_keep mid new files after (AtStore stops) kept = end_stopped mid new files after stops kept

  went_keeps : (old : World) (course : List Taken) (new : World) → BlanksNone name (requests_of course) → Has old.state old.files → Went old course new
      → HasImage name disk new.files
  went_keeps old course new none kept went =
      rests_keep went.mid new.state went.files new.files went.rests (course_kept old.state went.mid old.files went.files course none went.run kept)

-- a session begins with no medium
pub not_named : (name : List ℕ) (bay : ℕ) → in_bay (both None) bay ≡ Some name → ⊥
not_named name bay =
    let none : Names = both None in
    each_bay none none (λ x y. x ≡ Some name → ⊥) bay (λ e. cc e) (λ e. cc e)

pub begun : (name : List ℕ) (disk : Disk) (start : State) (told : Option Files) (files : Files) → told ≡ Some files → IsImageOf (Some files) name disk
    → start.names ≡ both None → IsStored name disk start told
begun name disk start told files is image names = record {
  files = files;
  told_is = is;
  image = image;
  held = λ bay named. absurd (not_named name bay (ap (λ (n : Names). in_bay n bay) (sym names) ∙ named));
}

module _ (name file : List ℕ) (spares : List DriveCounts) (old new : Board) (before after : Outside) (ended : Status) (files : Files) (disk : Disk) where
  abbrev KeepsDisk : (asked : Form) → RunsOver (Some asked) old spares before new after ended → Type 0
  KeepsDisk asked over =
      before.files ≡ Some files → IsImageOf (Some files) name disk → IsDisk disk → disk.protected ≡ true
      → BlanksNone name (requests_of over.runs.course) → HasImage name disk after.files

  form_stays : (asked : Form) (over : RunsOver (Some asked) old spares before new after ended)
      → ((one two : World) (course : List Taken) → DoesForm asked one course two ended → Went one course two) → KeepsDisk asked over
  form_stays asked over went told image valid guarded none =
      let first = world over.start before.files before.report in
      let last = world over.last after.files after.report in
      went_keeps name disk valid guarded first over.runs.course last none (begun name disk over.start before.files files told image over.set_up.names)
      (went_or_starved first over.runs.course last asked ended (went first last over.runs.course) over.runs.does)

  pub play_stays : (over : RunsOver (Some (form.Play file)) old spares before new after ended) → KeepsDisk (form.Play file) over
  play_stays over = form_stays (form.Play file) over (λ one two course does. went_play one course two file ended does)

  pub calls_stay : (over : RunsOver (Some (form.Int13 file)) old spares before new after ended) → KeepsDisk (form.Int13 file) over
  calls_stay over = form_stays (form.Int13 file) over (λ one two course does. went_calls one course two file ended does)

-- ---- which requests a batch job runs, by its text

front : (name : List ℕ) (one two : List Request) → BlanksNone name (one ++ two) → BlanksNone name one
front name [] two none = tt
front name (asked ∷ one) two none = (none.0, front name one two none.1)

pub job_stays : (name job : List ℕ) (spares : List DriveCounts) (old new : Board) (before after : Outside) (ended : Status) (requests : List Request)
    (disk : Disk) → RunsOver (Some (form.Play job)) old spares before new after ended → IsJob before.files job requests
    → IsImageOf before.files name disk → IsDisk disk → disk.protected ≡ true → BlanksNone name requests → HasImage name disk after.files
job_stays name job spares old new before after ended requests disk over spelled image valid guarded none =
    let first = first_asked job requests (world over.start before.files before.report) (world over.last after.files after.report) over.runs.course ended
    spelled over.runs.does in
    play_stays name job spares old new before after ended spelled.files disk over spelled.tells
    (subst (λ (f : Option Files). IsImageOf f name disk) spelled.tells image) valid guarded
    (front name (requests_of over.runs.course) first.0 (subst (λ (row : List Request). BlanksNone name row) first.1 none))
