-- A rescue with no log yet ends well when nothing can go wrong, or the outside failed.
use Rattle.std.proofs.Common.{arith, ◌≡◌, ◌≢◌, ◌∙◌, ◌+◌, ◌<◌, ◌≤◌, ℕ, zero, suc, false, List, [], ◌∷◌, ◌++◌, length, map, refl, sym, ap, subst, inl, inr, Option, Some, None, true≢false, append-nil, append_assoc}
use Rattle.std.specs.Prelude.{is_some}
use Rattle.laws_commands.proofs.Common.{AllByRecursion, flat_map, range_with_len, cases_eq, All-weaker, recursion_from_All, Files, file_at, stored, sectors_at, Chrn, Status, Disk, file_of, key_of, StationState, Bay, bay_of, IsImageOf, blank_of, Taken, has_refusal, World, blank_request, shape_of, Shape, Script, Runs, carries, through, formats, script_ties, LogLine, IsLogFound, IsFound, rescues, asked_keys, stores_log, rescue_rest, rescue_script, Rescues, by_absent, tracks_of, IsStandardKey, BeginsSound, EndsWellOrOutside, IsReadable, HaveSameSector, StoresSameAndLog, option_map, Two, in_bay, Store, after_store, Request, Reply, State, Step, StoresMedium, refusal_of, Run, EndsBay, Stored, Left, EndStopsAt, AtFirst, AtSecond, all_stored, StoresFirst, medium_store, bay_store, stores_by, stores_of, end_stores, state_after, StoresRun}
use Rattle.sector_map.specs.Standard.{cylinder_keys, track_keys}
use Rattle.commands.specs.Parts.{may_starve}
use Rattle.rescue.specs.Course.{standard_keys}
use Rattle.disk_commands.specs.Rescue.{acknowledges_both, prepares_new, prepares, rescues_all, rescue_found}
use Rattle.laws_commands.proofs.TrackParts.{tracks_part}
use Rattle.laws_commands.proofs.Verified.{image_ranges, key_is}
use Rattle.laws_commands.proofs.Prepared.{IsBlank}
use Rattle.laws_commands.proofs.Bays.{IsPutIn, ready_still, blank_done, acknowledges_goes, opens_goes}
use Rattle.laws_commands.proofs.Going.{Stage, GoesWell, goes_carries, AreFaultless, completes_unrefused}
use Rattle.laws_commands.proofs.SectorRequests.{AnyDisk, has_data, made_ready, blank_made, made_still}
use Rattle.laws_commands.proofs.CommandEnds.{IsCopying, fresh_memory}
use Rattle.laws_commands.proofs.RescueOpening.{opening, formats_carried, begins_new}
use Rattle.laws_commands.proofs.RescueRecords.{all_standard}
use Rattle.laws_commands.proofs.Whole.{GoesThrough, new_diskette, fell_opened, goes_through, saves_same}
use Rattle.laws_commands.proofs.RescueSteps.{IsSaving, StandsOnBoth, HasRecordsBut, formats_go, records_go, unstopped, none_found}
use Rattle.laws_commands.proofs.Steps.{among_all, among_only, either}
use Rattle.flop_base.specs.Shelf.{one_more}
use Rattle.sector_model.specs.Runs.{Ends}
use Rattle.flop_base.specs.declared.answers.Status.TheVariants as status
use Rattle.floppy_jobs.specs.declared.request.Request.TheVariants as request

-- ---- The script.

module _ (disk : Disk) (readable : IsReadable disk) (few_cylinders : disk.cylinders ≤ 80) (few_heads : disk.heads ≤ 2) where
  -- the formatted disk is the one to which records are saved
  formatted_saving : (stage : Stage) (formatted : IsCopying disk (HasRecordsBut disk few_heads []) stage) → IsSaving disk formatted.second.disk stage
  formatted_saving stage formatted =
      let made = formatted.second in
      search (made_ready 1 disk.rate disk.cylinders (HasRecordsBut disk few_heads []) stage.state.station made)

  standard_stand : (made : Disk) → HasRecordsBut disk few_heads [] made → (key : Chrn) → IsStandardKey disk key → StandsOnBoth disk made key
  standard_stand made has key standard =
      let there = readable.sectors key standard in
      record {
        size = standard.size;
        track = standard.track;
        least = standard.sector.0;
        field = has_data disk key there.0 readable.regular there.1 there.2;
        other = elim (has key.c key.h standard.track.0 standard.track.1) [
          | inl never ↦ absurd never
          | inr records ↦ records key.r standard.sector.0 standard.sector.1
        ];
      }

  new_goes : (to log : List ℕ) (told : Option Files) (old : Stage) → 1 ≤ disk.cylinders → IsPutIn disk told old
      → GoesWell (rescue_found to log (shape_of disk) None) old
  unfolding rescue_found rescues_all may_starve prepares prepares_new acknowledges_both
  new_goes to log told old some_cylinder put =
      let rate = disk.rate in
      let count = disk.cylinders in
      let blank = blank_of count rate in
      let tracks = tracks_of count disk.heads in
      let keys = standard_keys rate count disk.heads in
      let rest = through rescues keys [] (λ lines. carries (request.Eject 1) (λ still. stores_log log (length keys) lines)) in
      goes_carries (λ new. IsBlank 1 rate to count old.state old.files new.state new.files) (blank_request 1 to count rate) _ old
      (blank_done 1 rate to count old refl some_cylinder few_cylinders put.empty) (λ two is.
      let medium = ap (λ (s : StationState). (bay_of s 0).medium) is.becomes ∙ put.medium in
      acknowledges_goes 0 1 disk refl (λ station value. refl) _ two medium (λ three first.
      let second = ap (λ (b : Bay). b.medium) first.same ∙ is.medium in
      acknowledges_goes 1 0 blank refl (λ station value. refl) _ three second (λ four ready.
      let begun : IsCopying disk (HasRecordsBut disk few_heads tracks) four = record {
        first = ready_still 0 disk three.state.station four.state.station ready.same first.ready;
        second = made_still 1 rate count AnyDisk (HasRecordsBut disk few_heads tracks) four.state.station four.state.station
            (λ made any c h cylinder head. inl (among_all count disk.heads c h cylinder head)) refl
            (blank_made 1 rate count four.state.station is.valid ready.ready);
      } in
      subst (λ (s : Script). GoesWell s four)
      (sym (tracks_part count disk.heads (formats 1) tt (λ none. rest) ∙ formats_carried tracks (λ none. rest)))
      (formats_go disk few_heads tracks rest four (λ c h among. among_only count disk.heads c h among) begun (λ five formatted.
      let made = formatted.second.disk in
      records_go disk made readable.regular few_cylinders few_heads log (length keys) keys five
      (recursion_from_All (StandsOnBoth disk made) keys
      (All-weaker (IsStandardKey disk) (StandsOnBoth disk made) (standard_stand made formatted.second.also) keys (all_standard disk)))
      (formatted_saving five formatted))))))

-- ---- What is stored.

from_map : (P : Chrn → Type 0) (f : ℕ → Chrn) (a n : ℕ) → AllByRecursion P (map f (range_with_len a n)) → (k : ℕ) → a ≤ k → k < a + n → P (f k)
from_map P f a zero all k least below = absurd (omega arith)
from_map P f a (suc n) all k least below = elim (cases_eq a k) [
  | inl here ↦ subst (λ (i : ℕ). P (f i)) here all.0
  | inr other ↦ from_map P f (a + 1) n all.1 k (omega arith) (omega arith)
]

both_all : (P : Chrn → Type 0) (one two : List Chrn) → AllByRecursion P (one ++ two) → AllByRecursion P one × AllByRecursion P two
both_all P [] two all = (tt, all)
both_all P (key ∷ one) two all = let rest = both_all P one two all.1 in ((all.0, rest.0), rest.1)

from_flat : (P : Chrn → Type 0) (f : ℕ → List Chrn) (a n : ℕ) → AllByRecursion P (flat_map f (range_with_len a n)) → (k : ℕ) → a ≤ k → k < a + n
    → AllByRecursion P (f k)
from_flat P f a zero all k least below = absurd (omega arith)
from_flat P f a (suc n) all k least below =
    let both = both_all P (f a) (flat_map f (range_with_len (a + 1) n)) all in
    elim (cases_eq a k) [
      | inl here ↦ subst (λ (i : ℕ). AllByRecursion P (f i)) here both.0
      | inr other ↦ from_flat P f (a + 1) n both.1 k (omega arith) (omega arith)
    ]

-- a fact that holds of all standard keys holds of each
pub each_standard : (P : Chrn → Type 0) (disk : Disk) → AllByRecursion P (standard_keys disk.rate disk.cylinders disk.heads) → (key : Chrn)
    → IsStandardKey disk key → P key
unfolding standard_keys cylinder_keys track_keys
each_standard P disk all key standard =
    let sectors = sectors_at disk.rate in
    let on_cylinder = from_flat P (cylinder_keys sectors disk.heads) 0 disk.cylinders all key.c (omega arith) (omega (arith, standard.track.0)) in
    let on_track = from_flat P (track_keys sectors key.c) 0 disk.heads on_cylinder key.h (omega arith) (omega (arith, standard.track.1)) in
    subst P (sym (key_is key standard.size))
    (from_map P (key_of key.c key.h) 1 sectors on_track key.r standard.sector.0 (omega (arith, standard.sector.1)))

module _ (from to log : List ℕ) (old new : World) (course : List Taken) (files : Files) (disk : Disk) (begins : BeginsSound old)
    (told : old.files ≡ Some files) (image : IsImageOf (Some files) from disk) (readable : IsReadable disk) (absent : file_at files log ≡ None)
    (differ : to ≢ log) (faultless : AreFaultless old.state.station.counters new.state.station.counters) (fine : has_refusal course ≡ false) where
  new_stored : (found : Option (List LogLine)) → IsLogFound (Some files) log (sectors_at disk.rate) found
      → GoesThrough (opening from to (shape_of disk) (is_some found)) (asked_keys (shape_of disk) found) log files old course new status.AllOk
      → StoresSameAndLog disk to log (Some files) new.files
  new_stored (Some lines) there p = absurd (none_found files log (sectors_at disk.rate) lines absent there)
  new_stored None there p =
      let fell = fell_opened from to log disk None files old course new status.AllOk there image p in
      let second = faultless.second in
      let begun = begins_new from to disk files old.state p.opened.state p.opened.files p.top image p.opens (fresh_memory old.state.station begins.fresh)
      (omega (arith, fell.second, second.0), omega (arith, fell.second, second.1)) in
      let saves = saves_same from to log disk None files old course new status.AllOk there image p disk begun.0 differ begun.1
      (new_diskette disk disk begun.0 begun.2) (inl begun.2.laid) faultless.first second readable.regular fine in
      let keys = standard_keys disk.rate disk.cylinders disk.heads in
      record {
        between = stored (Some files) to (file_of saves.final);
        disk_stored = search (each_standard (HaveSameSector disk saves.final) disk (recursion_from_All (HaveSameSector disk saves.final) keys saves.sectors));
        log_stored = saves.files_are;
        disk_there = saves.disk_there;
        image = saves.stands saves.valid;
        log_there = saves.log_there;
      }

-- if nothing is left that can go wrong, a rescue of a readable disk with no log yet goes to its end, or the outside
-- failed
pub new_rescue_complete : (from to log : List ℕ) (old new : World) (ended : Status) (files : Files) (disk : Disk) → BeginsSound old → old.files ≡ Some files
    → IsImageOf (Some files) from disk → IsReadable disk → file_at files log ≡ None → to ≢ log → Runs (Rescues from to log) old new ended
    → EndsWellOrOutside (StoresSameAndLog disk to log (Some files) new.files) ended
new_rescue_complete from to log old new ended files disk begins told image readable absent differ runs =
    let answers = runs.does.0 in
    let are = runs.does.1 in
    let ranges = image_ranges files from disk image in
    let there = subst (λ (f : Option Files). IsFound f log (sectors_at disk.rate) (answers disk.rate)) told (are disk.rate) in
    completes_unrefused (rescue_script from to log answers) _ old new runs.course ended (Some files) told begins
    (opens_goes from files disk (λ (shape : Shape). rescue_rest to log shape (answers shape.rate)) old.state image begins.fresh (λ one put.
    by_absent files to log (shape_of disk) (λ (s : Script). GoesWell s one) absent
    (new_goes disk readable ranges.0 ranges.1 to log (Some files) one ranges.2 put) tt tt (answers disk.rate) there))
    ((script_ties (rescue_script from to log answers) old runs.course new ended runs.does.2).undisturbed begins.sound) runs.does.2 (λ done faultless fine.
    let all = goes_through from to log disk files old runs.course new status.AllOk tt (unstopped runs.course fine) told (answers, are, done) image in
    new_stored from to log old new runs.course files disk begins told image readable absent differ faultless fine all.found all.there all.goes)

-- ---- which stores a run makes: those of its ejects, and those of its end

-- ---- lists of stores

pub append_stored : (told : Option Files) (one two : List Store) → all_stored told (one ++ two) ≡ all_stored (all_stored told one) two
append_stored told [] two = refl
append_stored told (store ∷ one) two = append_stored (stored told store.name store.bytes) one two

-- the files after these stores, and the stores that the files list
record IsListed (files : Files) (made : List Store) : Type 0 where
  after : Files
  files_are : all_stored (Some files) made ≡ Some after
  stores : after.stores ≡ option_map (λ before. before ++ made) files.stores

none_more : (told : Option (List Store)) → told ≡ option_map (λ before. before ++ []) told
none_more None = refl
none_more (Some before) = ap (λ (l : List Store). Some l) (sym (append-nil before))

later_too : (told : Option (List Store)) (store : Store) (later : List Store)
    → option_map (λ before. before ++ later) (option_map (λ made. one_more made store.name store.bytes) told) ≡ option_map (λ before. before ++ store ∷ later) told
later_too None store later = refl
later_too (Some before) store later = ap (λ (l : List Store). Some l) (append_assoc before (store ∷ []) later)

listed : (files : Files) (made : List Store) → IsListed files made
listed files [] = record { after = files; files_are = refl; stores = none_more files.stores }
listed files (store ∷ later) = let rest = listed (after_store files store.name store.bytes) later in search (rest.stores ∙ later_too files.stores store later)

-- a shelf that tells its stores lists those that were made, after those that it listed before
pub stores_listed : (files after : Files) (made : List Store) → Some after ≡ all_stored (Some files) made
    → after.stores ≡ option_map (λ before. before ++ made) files.stores
stores_listed files after made is =
    let all = listed files made in
    let there : Some after ≡ Some all.after = is ∙ all.files_are in
    let same : after ≡ all.after = cc there in
    ap (λ (f : Files). f.stores) same ∙ all.stores

-- nothing was stored
pub nothing_first : (wanted : List Store) (told after : Option Files) → after ≡ told → StoresFirst wanted told after
nothing_first wanted told after same = record { made = []; rest = wanted; first = refl; files = same }

-- all wanted stores were made
pub all_first : (wanted : List Store) (told after : Option Files) → after ≡ all_stored told wanted → StoresFirst wanted told after
all_first wanted told after is = record { made = wanted; rest = []; first = sym (append-nil wanted); files = is }

-- ---- a step

bay_stored : (old : State) (told after : Option Files) (bay : ℕ) (disk : Disk) (name : List ℕ) → (bay_of old.station bay).medium ≡ Some disk
    → in_bay old.names bay ≡ Some name → after ≡ stored told name (file_of disk) → after ≡ all_stored told (bay_store old bay)
bay_stored old told after bay disk name medium named is =
    is ∙ sym (ap (λ (m : Option Disk). all_stored told (medium_store m (in_bay old.names bay))) medium
    ∙ ap (λ (n : Option (List ℕ)). all_stored told (medium_store (Some disk) n)) named)

taken_stored : (bay : ℕ) (old new : State) (told after : Option Files) → StoresMedium bay old told new after → after ≡ all_stored told (bay_store old bay)
taken_stored bay old new told after is = bay_stored old told after bay is.0 is.1 is.2 is.3 is.5

pub step_stores : (asked : Request) (old new : State) (told after : Option Files) (answer : Reply) → Step asked old told answer new after
    → after ≡ all_stored told (stores_by asked answer old)
step_stores (request.Eject bay) old new told after answer step =
    either (refusal_of old (request.Eject bay)) step
    (λ does. subst (λ (a : Reply). after ≡ all_stored told (stores_by (request.Eject bay) a old)) (sym does.0) (taken_stored bay old new told after does.1))
    (λ cause refused. subst (λ (a : Reply). after ≡ all_stored told (stores_by (request.Eject bay) a old)) (sym refused.answered) refused.files)
step_stores (request.Insert bay name) old new told after answer step =
    either (refusal_of old (request.Insert bay name)) step (λ does. does.1) (λ cause refused. refused.files)
step_stores (request.Blank bay name count) old new told after answer step =
    either (refusal_of old (request.Blank bay name count)) step (λ does. does.1) (λ cause refused. refused.files)
step_stores (request.BlankDd bay name count) old new told after answer step =
    either (refusal_of old (request.BlankDd bay name count)) step (λ does. does.1) (λ cause refused. refused.files)
step_stores (request.Fill address count byte) old new told after answer step =
    either (refusal_of old (request.Fill address count byte)) step (λ does. does.1) (λ cause refused. refused.files)
step_stores (request.Dump address count) old new told after answer step =
    either (refusal_of old (request.Dump address count)) step (λ does. does.1) (λ cause refused. refused.files)
step_stores (request.Unit bay) old new told after answer step =
    either (refusal_of old (request.Unit bay)) step (λ does. does.1) (λ cause refused. refused.files)
step_stores _ old new told after answer step = step.0.files

-- ---- a run

pub run_stores : (old new : State) (told after : Option Files) (course : List Taken) → Run old told course new after
    → after ≡ all_stored told (stores_of old course)
run_stores old new told after [] run = run.1
run_stores old new told after (taken ∷ later) run =
    run_stores taken.after new run.0 after later run.2
    ∙ ap (λ (f : Option Files). all_stored f (stores_of taken.after later)) (step_stores taken.asked old taken.after told run.0 taken.answer run.1)
    ∙ sym (append_stored told (stores_by taken.asked taken.answer old) (stores_of taken.after later))

pub run_leads : (old new : State) (told after : Option Files) (course : List Taken) → Run old told course new after → new ≡ state_after old course
run_leads old new told after [] run = run.0
run_leads old new told after (taken ∷ later) run = run_leads taken.after new run.0 after later run.2

-- ---- the end of a run

no_medium : (medium : Option Disk) (name : Option (List ℕ)) → is_some medium ≡ false → medium_store medium name ≡ []
no_medium None name empty = refl
no_medium (Some disk) name empty = absurd (true≢false empty)

bay_ends : (bay : ℕ) (old new : State) (told after : Option Files) → EndsBay bay old told new after → after ≡ all_stored told (bay_store old bay)
bay_ends bay old new told after (Stored is) = taken_stored bay old new told after is
bay_ends bay old new told after (Left is) =
    is.files ∙ sym (ap (λ (l : List Store). all_stored told l) (no_medium (bay_of old.station bay).medium (in_bay old.names bay) is.empty))

-- the end of bay 0 leaves bay 1 as it is
second_stays : (old mid : State) (told after : Option Files) → EndsBay 0 old told mid after → bay_store mid 1 ≡ bay_store old 1
second_stays old mid told after (Stored is) =
    let changes = is.4 in
    ap (λ (s : StationState). medium_store (bay_of s 1).medium (in_bay mid.names 1)) changes.exchanged.becomes
    ∙ ap (λ (n : Two (Option (List ℕ))). medium_store (bay_of old.station 1).medium (in_bay n 1)) changes.names
second_stays old mid told after (Left is) =
    ap (λ (s : StationState). medium_store (bay_of s 1).medium (in_bay mid.names 1)) is.same.stays
    ∙ ap (λ (n : Two (Option (List ℕ))). medium_store (bay_of old.station 1).medium (in_bay n 1)) is.same.names

pub ends_store : (old new : State) (told after : Option Files) → Ends old told new after → after ≡ all_stored told (end_stores old)
ends_store old new told after is =
    bay_ends 1 is.0 new is.1 after is.3
    ∙ ap (λ (l : List Store). all_stored is.1 l) (second_stays old is.0 told is.1 is.2)
    ∙ ap (λ (f : Option Files). all_stored f (bay_store old 1)) (bay_ends 0 old is.0 told is.1 is.2)
    ∙ sym (append_stored told (bay_store old 0) (bay_store old 1))

pub end_stops : (old new : State) (told after : Option Files) → EndStopsAt old told new after → StoresFirst (end_stores old) told after
end_stops old new told after (AtFirst drops same) = nothing_first (end_stores old) told after same
end_stops old new told after (AtSecond mid first drops) = record {
  made = bay_store old 0;
  rest = bay_store old 1;
  first = refl;
  files = bay_ends 0 old mid told after first;
}

-- ---- a run and its end

-- a run, and then a first part of its end's stores
pub run_then : (old mid : State) (told between after : Option Files) (course : List Taken) → Run old told course mid between
    → StoresFirst (end_stores mid) between after → StoresRun old course told after
run_then old mid told between after course run ends =
    subst (λ (s : State). StoresFirst (end_stores s) (all_stored told (stores_of old course)) after) (run_leads old mid told between course run)
    (subst (λ (f : Option Files). StoresFirst (end_stores mid) f after) (run_stores old mid told between course run) ends)

pub no_run : (old : State) (told after : Option Files) (course : List Taken) → course ≡ [] → after ≡ told → StoresRun old course told after
no_run old told after course nothing same =
    subst (λ (row : List Taken). StoresRun old row told after) (sym nothing) (nothing_first (end_stores old) told after same)
