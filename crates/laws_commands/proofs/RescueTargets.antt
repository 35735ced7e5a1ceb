-- A rescue that goes on by a log ends well when nothing can go wrong, or the outside failed.
use Rattle.std.proofs.Common.{arith, ◌≡◌, ◌≢◌, ◌∙◌, ◌<◌, ◌≤◌, ℕ, false, List, [], ◌∷◌, length, refl, sym, ap, subst, inl, Option, Some, None, All, Bool}
use Rattle.std.specs.Prelude.{IsSomeAnd, is_some}
use Rattle.laws_commands.proofs.Common.{AllByRecursion, recursion_from_All, Files, file_at, sectors_at, standard_code, Chrn, Rate, Status, Disk, Entry, IsOnMap, IsRegularDisk, key_cylinder, Bay, IsImageOf, Taken, has_refusal, World, shape_of, Shape, Script, Ends, Runs, carries, through, acknowledges, script_ties, logged_keys, IsLog, log_text, LogLine, IsLogFound, IsFound, most_log_bytes, rescues, asked_keys, stores_log, rescue_rest, rescue_script, Rescues, by_rest, by_log, entry_at, BeginsSound, EndsWellOrOutside, HasKey, TakesKeys, StoresRestAndLog, All-weaker, stored, Counters, IsDisk, HasTrack, track_of, file_of, IsSector, IsFlatSector, StoresCopy, copied_entry, StoresSameSectors, StoresFormatted, StoresDisk, sector_bytes, HasLaidFields, IsStandardKey}
use Rattle.commands.specs.Parts.{may_starve}
use Rattle.rescue.proofs.LawLemmas.{one_spelling}
use Rattle.disk_commands.specs.Rescue.{acknowledges_both, prepares_old, prepares, rescues_all, rescue_found}
use Rattle.laws_commands.proofs.Sectors.{few_sectors}
use Rattle.laws_commands.proofs.Verified.{image_ranges, key_is, stands_under, image_there}
use Rattle.laws_commands.proofs.Written.{HasSome}
use Rattle.laws_commands.proofs.Bays.{IsPutIn, IsPutBehind, ready_still, second_done, acknowledges_goes, opens_goes}
use Rattle.laws_commands.proofs.Going.{Stage, GoesWell, goes_carries, AreFaultless, completes_unrefused}
use Rattle.laws_commands.proofs.SectorRequests.{has_data, formatted_readable}
use Rattle.laws_commands.proofs.CommandEnds.{fresh_memory}
use Rattle.laws_commands.proofs.RescueOpening.{opening, begins_again}
use Rattle.laws_commands.proofs.RescueRecords.{IsAsked, asked_all}
use Rattle.laws_commands.proofs.Whole.{GoesThrough, same_diskette, goes_through, saves_same}
use Rattle.laws_commands.proofs.RescueSteps.{StandsOnBoth, records_go, unstopped, none_found}
use Rattle.laws_commands.specs.Targets.{HoldsTarget}
use Rattle.laws_commands.proofs.Steps.{formatted_laid}
use Rattle.flop_base.specs.declared.answers.Status.TheVariants as status
use Rattle.floppy_jobs.specs.declared.request.Request.TheVariants as request

-- ---- The script.

-- a key that is on the map of a regular disk is on the track of its own cylinder and head
module _ (disk : Disk) (key : Chrn) (regular : IsRegularDisk disk) (there : HasKey disk key) where
  at_places : (entry_of : ℕ → ℕ → Chrn → Entry) → IsOnMap disk (entry_of there.0.cylinder there.0.head there.0.key) → IsOnMap disk (entry_of key.c key.h key)
  at_places entry_of on = grind (arith, there, key_cylinder, regular)

  on_track : IsOnMap disk (entry_at key there.0.place there.0.deleted there.0.content)
  on_track = at_places (λ c h k. record {
    cylinder = c;
    head = h;
    place = there.0.place;
    key = k;
    deleted = there.0.deleted;
    content = there.0.content;
  }) there.1

  some_there : key.n ≡ standard_code → HasSome disk key.c key.h key.r
  some_there size =
      let entry = there.0 in (
        entry.place,
        entry.deleted,
        entry.content,
        subst
            (λ (k : Chrn). IsOnMap disk (record {
              cylinder = key.c;
              head = key.h;
              place = entry.place;
              key = k;
              deleted = entry.deleted;
              content = entry.content;
            })) (key_is key size) on_track,
      )

asked_stand : (disk target : Disk) (keys : List Chrn) → IsRegularDisk disk → IsRegularDisk target → AllByRecursion (IsAsked disk) keys
    → AllByRecursion (HasKey disk) keys → AllByRecursion (HasKey target) keys → AllByRecursion (StandsOnBoth disk target) keys
asked_stand disk target [] regular other asked has takes = tt
asked_stand disk target (key ∷ keys) regular other asked has takes = (
  assumption ((on_track disk key regular has.0).track, has_data disk key has.0.0 regular has.0.1 has.0.2, some_there target key other takes.0 asked.0.size),
  asked_stand disk target keys regular other asked.1 has.1 takes.1,
)

-- the script isn't a last line
abbrev IsNoEnd : Script → Type 0
IsNoEnd (Ends line wanted) = ⊥
IsNoEnd other = Unit {0}

found_goes_on : (to log : List ℕ) (shape : Shape) (asked : Option (List LogLine)) → IsNoEnd (rescue_found to log shape asked)
unfolding rescue_found may_starve
found_goes_on to log shape asked = tt

-- a name has the text of only one log
same_lines : (files : Files) (log : List ℕ) (count : ℕ) (lines asked : List LogLine) → count < 256 → IsLogFound (Some files) log count (Some lines)
    → IsLogFound (Some files) log count (Some asked) → asked ≡ lines
same_lines files log count lines asked few found other = go (file_at files log) found other
  where
    go : (o : Option (List ℕ)) → IsSomeAnd o (λ text. (length text ≤ most_log_bytes) × (IsLog count lines × (text ≡ log_text lines)))
        → IsSomeAnd o (λ text. (length text ≤ most_log_bytes) × (IsLog count asked × (text ≡ log_text asked))) → asked ≡ lines
    go None one two = absurd one
    go (Some text) one two = one_spelling count asked lines few two.1.0 one.1.0 (sym two.1.1 ∙ one.1.1)

-- if there is a log, it is what is found under its name
pub one_log : (files : Files) (log : List ℕ) (count : ℕ) (lines : List LogLine) (found : Option (List LogLine)) → count < 256
    → IsLogFound (Some files) log count (Some lines) → IsLogFound (Some files) log count found → found ≡ Some lines
one_log files log count lines None few there other = absurd (none_found files log count lines other there)
one_log files log count lines (Some asked) few there other = ap (λ (row : List LogLine). Some row) (same_lines files log count lines asked few there other)

pub small_sectors : (rate : Rate) → sectors_at rate < 256
small_sectors rate = omega (arith, few_sectors rate)

module _ (disk target : Disk) (files : Files) (to log : List ℕ) (lines : List LogLine) (regular : IsRegularDisk disk) (few_cylinders : disk.cylinders ≤ 80)
    (few_heads : disk.heads ≤ 2) (there : IsLogFound (Some files) log (sectors_at disk.rate) (Some lines)) (other : IsImageOf (Some files) to target)
    (has : All (HasKey disk) (logged_keys lines)) (takes : TakesKeys disk.rate (logged_keys lines) target) where
  further_goes : (old : Stage) → IsPutIn disk (Some files) old → GoesWell (rescue_found to log (shape_of disk) (Some lines)) old
  unfolding rescue_found rescues_all may_starve prepares prepares_old acknowledges_both
  further_goes old put =
      let keys = logged_keys lines in
      let all = asked_stand disk target keys regular takes.regular (asked_all disk files log (Some lines) few_cylinders few_heads there)
      (recursion_from_All (HasKey disk) keys has) (recursion_from_All (HasKey target) keys takes.sectors) in
      let rest = through rescues keys [] (λ lines. carries (request.Eject 1) (λ still. stores_log log (length keys) lines)) in
      goes_carries (λ new. IsPutBehind target old new) (request.Insert 1 to) _ old (second_done to files target old other put.empty put.files_are)
      (λ two behind.
      acknowledges_goes 0 1 disk refl (λ station value. refl) _ two (ap (λ (b : Bay). b.medium) behind.same ∙ put.medium) (λ three first.
      subst (λ (r : Rate). GoesWell (acknowledges 1 r (λ none. rest)) three) takes.rate
      (acknowledges_goes 1 0 target refl (λ station value. refl) _ three (ap (λ (b : Bay). b.medium) first.same ∙ behind.medium) (λ four ready.
      records_go disk target regular few_cylinders few_heads log (length keys) keys four all (record {
        first = ready_still 0 disk three.state.station four.state.station ready.same first.ready;
        now = target;
        second = ready.ready;
        bare = takes.protected;
        regular = takes.regular;
        kept = λ c h r had. had;
      })))))

-- ---- What is stored.

module _ (from to log : List ℕ) (old new : World) (course : List Taken) (files : Files) (disk target : Disk) (lines : List LogLine) (begins : BeginsSound old)
    (image : IsImageOf (Some files) from disk) (other : IsImageOf (Some files) to target) (differ : to ≢ log) (regular : IsRegularDisk disk)
    (takes : TakesKeys disk.rate (logged_keys lines) target) (faultless : AreFaultless old.state.station.counters new.state.station.counters)
    (fine : has_refusal course ≡ false) where
  further_stored : (found : Option (List LogLine)) → found ≡ Some lines → IsLogFound (Some files) log (sectors_at disk.rate) found
      → GoesThrough (opening from to (shape_of disk) (is_some found)) (asked_keys (shape_of disk) found) log files old course new status.AllOk
      → StoresRestAndLog disk target (logged_keys lines) to log (Some files) new.files
  further_stored None is there p = absurd (cc is)
  further_stored (Some asked) is there p =
      let same : asked ≡ lines = cc is in
      let has = begins_again from to disk target files old.state p.opened.state p.opened.files p.top image other takes.regular p.opens
      (fresh_memory old.state.station begins.fresh) in
      let saves = saves_same from to log disk (Some asked) files old course new status.AllOk there image p target target differ has
      (same_diskette disk target asked) (inl takes.laid) faultless.first faultless.second regular fine in
      subst (λ (row : List LogLine). StoresRestAndLog disk target (logged_keys row) to log (Some files) new.files) same (record {
        saved = saves.final;
        protected = saves.shape.protected ∙ takes.protected;
        valid = saves.valid;
        regular = saves.regular;
        laid = saves.laid takes.laid;
        cylinders = saves.shape.cylinders;
        rate = saves.shape.rate;
        sectors = saves.sectors;
        others = saves.others;
        files = saves.files_are;
        disk_there = saves.disk_there;
        image = saves.stands;
        log_there = saves.log_there;
      })

-- if nothing is left that can go wrong, a rescue that goes on by a log goes to its end, or the outside failed
pub further_rescue_complete : (from to log : List ℕ) (old new : World) (ended : Status) (files : Files) (disk target : Disk) (lines : List LogLine)
    → BeginsSound old → old.files ≡ Some files → IsImageOf (Some files) from disk → IsImageOf (Some files) to target
    → IsLogFound (Some files) log (sectors_at disk.rate) (Some lines) → to ≢ log → IsRegularDisk disk → All (HasKey disk) (logged_keys lines)
    → TakesKeys disk.rate (logged_keys lines) target → Runs (Rescues from to log) old new ended
    → EndsWellOrOutside (StoresRestAndLog disk target (logged_keys lines) to log (Some files) new.files) ended
further_rescue_complete from to log old new ended files disk target lines begins told image other there differ regular has takes runs =
    let answers = runs.does.0 in
    let are = runs.does.1 in
    let ranges = image_ranges files from disk image in
    let found = subst (λ (f : Option Files). IsFound f log (sectors_at disk.rate) (answers disk.rate)) told (are disk.rate) in
    completes_unrefused (rescue_script from to log answers) _ old new runs.course ended (Some files) told begins
    (opens_goes from files disk (λ (shape : Shape). rescue_rest to log shape (answers shape.rate)) old.state image begins.fresh (λ one put.
    let shape = shape_of disk in
    let no_end = by_log files to log shape IsNoEnd lines there (λ asked. found_goes_on to log shape (Some asked)) tt tt (answers disk.rate) found in
    by_rest (Some files) to log shape (λ (s : Script). IsNoEnd s → GoesWell s one)
    (λ asked is goes_on.
    subst (λ (f : Option (List LogLine)). GoesWell (rescue_found to log shape f) one)
    (sym (one_log files log (sectors_at disk.rate) lines asked (small_sectors disk.rate) there is))
    (further_goes disk target files to log lines regular ranges.0 ranges.1 there other has takes one put))
    (λ line end. absurd end) (λ any. tt) (λ any. tt) (answers disk.rate) found no_end))
    ((script_ties (rescue_script from to log answers) old runs.course new ended runs.does.2).undisturbed begins.sound) runs.does.2 (λ done faultless fine.
    let all = goes_through from to log disk files old runs.course new status.AllOk tt (unstopped runs.course fine) told (answers, are, done) image in
    let same = one_log files log (sectors_at disk.rate) lines all.found (small_sectors disk.rate) there all.there in
    further_stored from to log old new runs.course files disk target lines begins image other differ regular takes faultless fine
    all.found same all.there all.goes)

-- ---- disks that a rescue may go on with: those that a format, a copy or an import stored

-- if the file of a disk was stored last, its image is under that name
image_stands : (told : Option Files) (name : List ℕ) (disk : Disk) (after : Option Files) → IsDisk disk → after ≡ stored told name (file_of disk)
    → IsImageOf after name disk
image_stands told name disk after valid is = image_there after name disk (stands_under told name (file_of disk) after is) valid

pub formatted_target : (rate : Rate) (name : List ℕ) (count : ℕ) (told after : Option Files) (stores : StoresFormatted rate name count told after)
    → HoldsTarget name stores.disk stores.disk after
formatted_target rate name count told after stores =
    let readable = formatted_readable rate count stores.disk stores.is in
    assumption (image_stands told name stores.disk after stores.is.valid stores.files, formatted_laid rate count stores.disk stores.is)

pub copied_target : (to : List ℕ) (disk : Disk) (old : Counters) (told : Option Files) (course : List Taken) (new : Counters) (after : Option Files)
    (stores : StoresCopy disk to old told course new after) → HoldsTarget to disk stores.copied after
copied_target to disk old told course new after stores = record {
  valid = stores.valid;
  image = image_stands told to stores.copied after stores.valid stores.files;
  regular = stores.regular;
  protected = stores.protected;
  rate = stores.rate;
  laid = stores.laid_fields;
  sectors = λ key standard.
      let given = stores.sectors key.c key.h key.r standard.track standard.sector.0 standard.sector.1 in
      (copied_entry key.c key.h key.r given.0 given.1 given.2, given.4, sym (key_is key standard.size));
}

-- the track of a key has a sector of the key
abbrev pub HasSector : Disk → Chrn → Type 0
HasSector disk key = (deleted : Bool) × (content : List ℕ) × IsSector (track_of disk key.c key.h) key deleted content

on_map : (disk : Disk) (key : Chrn) → HasTrack disk key.c key.h → HasSector disk key → HasKey disk key
on_map disk key has (deleted, content, (place, found, address, look, is)) =
    (entry_at key place deleted content, record { track = has; address = address; content = (found, look, is) }, refl)

-- the disk that was stored has the shape of a copy and a sector of each standard key of the first disk; it is a target
pub sectors_target : (from to : List ℕ) (disk copied : Disk) (files : Files) (after : Option Files) → IsImageOf (Some files) from disk → IsDisk copied
    → IsRegularDisk copied → copied.protected ≡ false → HasLaidFields copied → copied.cylinders ≡ disk.cylinders → copied.heads ≡ 2
    → copied.rate ≡ disk.rate → ((key : Chrn) → IsStandardKey disk key → HasSector copied key) → after ≡ stored (Some files) to (file_of copied)
    → HoldsTarget to disk copied after
sectors_target from to disk copied files after image valid regular protected laid cylinders heads rate sectors is =
    let ranges = image_ranges files from disk image in
    record {
      valid = valid;
      image = image_stands (Some files) to copied after valid is;
      regular = regular;
      protected = protected;
      rate = rate;
      laid = laid;
      sectors = λ key standard.
          let has : HasTrack copied key.c key.h = (omega (arith, standard.track.0, cylinders), omega (arith, standard.track.1, ranges.1, heads)) in
          on_map copied key has (sectors key standard);
    }

pub same_target : (from to : List ℕ) (disk : Disk) (files : Files) (after : Option Files) (stores : StoresSameSectors disk to (Some files) after)
    → IsImageOf (Some files) from disk → HoldsTarget to disk stores.copied after
same_target from to disk files after stores image =
    sectors_target from to disk stores.copied files after image stores.valid stores.regular stores.protected stores.laid stores.cylinders stores.heads
    stores.rate (λ key standard. let same = stores.sectors key standard in (same.0, same.1, same.3)) stores.files

pub imported_target : (bytes name : List ℕ) (at : Rate) (told after : Option Files) (stores : StoresDisk bytes name at told after)
    → HoldsTarget name stores.disk stores.disk after
imported_target bytes name at told after stores = record {
  valid = stores.valid;
  image = image_stands told name stores.disk after stores.valid stores.files;
  regular = stores.regular;
  protected = stores.protected;
  rate = refl;
  laid = stores.laid;
  sectors = λ key standard.
      let sector : IsFlatSector (sectors_at at) key.c key.h key.r = record {
        cylinder = omega (arith, standard.track.0, stores.cylinders);
        head = omega (arith, standard.track.1, stores.heads);
        from_first = standard.sector.0;
        to_last = subst (λ (r : Rate). key.r ≤ sectors_at r) stores.rate standard.sector.1;
      } in
      let has = stores.sectors key.c key.h key.r sector in
      (copied_entry key.c key.h key.r has.0 false (sector_bytes bytes (sectors_at at) key.c key.h key.r), has.1, sym (key_is key standard.size));
}

-- sectors of the standard keys can be written to such a disk
pub target_takes : (name : List ℕ) (keyed disk : Disk) (after : Option Files) (keys : List Chrn) → HoldsTarget name keyed disk after
    → All (IsStandardKey keyed) keys → TakesKeys keyed.rate keys disk
target_takes name keyed disk after keys holds standard = assumption (All-weaker (IsStandardKey keyed) (HasKey disk) holds.sectors keys standard)
