-- The status of a run of port accesses, where each file that is put in is the file of a disk.
use Rattle.std.proofs.Common.{◌≡◌, ◌∙◌, ℕ, Bool, true, false, List, [], ◌∷◌, ◌++◌, Option, Some, None, Result, Ok, refl, ap, sym, subst, inl, inr}
use Rattle.std.specs.Prelude.{◌==◌, is_some, IfSome, MatchOption, if◌then◌else◌}
use Rattle.laws_program.proofs.Common.{Files, stored, both, in_bay, with_bay, DriveCounts, Status, Disk, IsDisk, file_of, Request, ports_of, PortLine, Board, IsInRange, drive_in, Reason, Stop, is_bay, StopCause, IsEndStop, IsText, ports_file_of, Stand, Performed, ports_world, LineAnswer, Bench, no_names, PortRun, DoesLine, KeepsMedia, LoadsMedium, StoresMedium, insert_refusal, eject_refusal, PlaysLines, EndsByReplies, IsDiskFile, Names, named_by, is_free, IsStoredBy, HoldsBy, InsertsDisks, media_among}
use Rattle.text_commands.specs.PortCourses.{Taken, lines_of, has_refusal}
use Rattle.text_commands.specs.PortLines.{StopsAt, IsRefused}
use Rattle.text_commands.specs.PortPlays.{World, Played, Stopped, BrokenOff, EndStopped, PlaysParsed, Plays, There, Missing, TooLong, Faulty, Starved}
use Rattle.laws_program.proofs.Inserting.{stored_last, stored_still, choose, choose_out, goes_in}
use Rattle.laws_program.proofs.Protected.{not_named}
use Rattle.laws_program.proofs.OfForms.{EndsBy, SaysRefused, whole_as, put_as, prints_as, stop_as, ends_so}
use Rattle.laws_program.proofs.FormTimes.{disks_stop, same_text, not_absent, not_long}
use Rattle.floppy_jobs.specs.declared.request.Request.TheVariants as request
use Rattle.floppy_jobs.specs.declared.ports.PortLine.TheVariants as port
use Rattle.text_commands.specs.declared.ports.answer.LineAnswer.TheVariants as answer

-- ---- what stands in the bays and under their names

-- the bays have these names. Each medium with a name is a disk in its ranges, and each name that holds the file of a
-- disk does so among the told files
record IsKept (Holds : List ℕ → Type 0) (names : Names) (bench : Bench) : Type 0 where
  pub files : Files
  pub told_is : bench.files ≡ Some files
  pub named : bench.names ≡ names
  pub valid : (bay : ℕ) (name : List ℕ) (disk : Disk) → in_bay names bay ≡ Some name → (drive_in bench.board bay).medium ≡ Some disk → IsDisk disk
  pub holds : (name : List ℕ) → Holds name → IsDiskFile bench.files name

-- the media of a board in its ranges are disks in their ranges
in_range : (board : Board) → IsInRange board → (bay : ℕ) (disk : Disk) → (drive_in board bay).medium ≡ Some disk → IsDisk disk
in_range board range bay disk is = go (bay == 0) is
  where
    go : (b : Bool) → (if b then board.first else board.second).medium ≡ Some disk → IsDisk disk
    go true is = subst (λ (m : Option Disk). IfSome m IsDisk) is range.first.medium
    go false is = subst (λ (m : Option Disk). IfSome m IsDisk) is range.second.medium

module _ (Holds : List ℕ → Type 0) (names : Names) (old : Bench) (kept : IsKept Holds names old) where
  -- a line that puts nothing in and takes nothing out
  media_kept : (new : Bench) → IsInRange new.board → KeepsMedia old new → IsKept Holds names new
  media_kept new range keeps = record {
    files = kept.files;
    told_is = keeps.files ∙ kept.told_is;
    named = keeps.names ∙ kept.named;
    valid = λ bay name disk under medium. in_range new.board range bay disk medium;
    holds = λ name known. subst (λ (f : Option Files). IsDiskFile f name) (sym keeps.files) (kept.holds name known);
  }

  abbrev Behind : Request → Bench → Names → Type 0
  Behind asked new now = IsKept (HoldsBy Holds names asked) now new

  -- a line that was refused
  refused_kept : (asked : Request) (new : Bench) → ((name : List ℕ) → IsStoredBy names asked name → ⊥) → new ≡ old → Behind asked new names
  refused_kept asked new none same = record {
    files = kept.files;
    told_is = ap (λ (b : Bench). b.files) same ∙ kept.told_is;
    named = ap (λ (b : Bench). b.names) same ∙ kept.named;
    valid = λ bay name disk under medium.
        kept.valid bay name disk under (sym (ap (λ (b : Bench). (drive_in b.board bay).medium) same) ∙ medium);
    holds = λ name known. elim known [
      | inl before ↦ subst (λ (b : Bench). IsDiskFile b.files name) (sym same) (kept.holds name before)
      | inr now ↦ absurd (none name now)
    ];
  }

  loaded_kept : (bay : ℕ) (name : List ℕ) (new : Bench) → IsInRange new.board → LoadsMedium bay name old new
      → Behind (request.Insert bay name) new (with_bay names bay (Some name))
  loaded_kept bay name new range loads = record {
    files = kept.files;
    told_is = loads.files ∙ kept.told_is;
    named = loads.names ∙ ap (λ (n : Names). with_bay n bay (Some name)) kept.named;
    valid = λ at under disk named medium. in_range new.board range at disk medium;
    holds = λ other known. elim known [
      | inl before ↦ subst (λ (f : Option Files). IsDiskFile f other) (sym loads.files) (kept.holds other before)
      | inr now ↦ absurd now
    ];
  }

  insert_kept : (bay : ℕ) (name : List ℕ) (said : LineAnswer) (new : Bench) → IsInRange new.board → DoesLine (port.Insert bay name) old said new
      → Behind (request.Insert bay name) new (named_by names (request.Insert bay name))
  insert_kept bay name said new range does =
      let asked = request.Insert bay name in
      choose (Behind asked new) names (with_bay names bay (Some name)) (is_bay bay) (is_some (in_bay names bay))
      (subst (λ (n : Names). MatchOption (insert_refusal n bay) ((said ≡ answer.Done) × LoadsMedium bay name old new) (λ (cause : Reason). IsRefused cause old said new))
      kept.named does)
      (λ good empty done. loaded_kept bay name new range done.1)
      (λ cause refused. refused_kept asked new (λ other none. none) refused.same)

  stored_kept : (bay : ℕ) (new : Bench) → IsInRange new.board → StoresMedium bay old new → Behind (request.Eject bay) new (with_bay names bay None)
  stored_kept bay new range stores =
      let name = stores.name in
      let disk = stores.disk in
      let one = ap (λ (n : Names). in_bay n bay) kept.named in
      let under = stores.named in
      let valid = kept.valid bay name disk (sym one ∙ under) stores.medium in
      record {
        files = _;
        told_is = stores.files ∙ ap (λ (f : Option Files). stored f name (file_of disk)) kept.told_is;
        named = stores.takes.names ∙ ap (λ (n : Names). with_bay n bay None) kept.named;
        valid = λ at there other named medium. in_range new.board range at other medium;
        holds = λ other known.
            subst (λ (f : Option Files). IsDiskFile f other) (sym stores.files) (elim known as (λ _. IsDiskFile (stored old.files name (file_of disk)) other) [
              | inl before ↦ stored_still old.files name other disk valid (kept.holds other before)
              | inr now ↦
                  let two = now.1 in
                  let same : name ≡ other = cc (one, two, under) in
                  subst (λ (n : List ℕ). IsDiskFile (stored old.files name (file_of disk)) n) same (stored_last old.files name disk valid)
            ]);
      }

  eject_kept : (bay : ℕ) (said : LineAnswer) (new : Bench) → IsInRange new.board → DoesLine (port.Eject bay) old said new
      → Behind (request.Eject bay) new (named_by names (request.Eject bay))
  eject_kept bay said new range does =
      let asked = request.Eject bay in
      choose_out (Behind asked new) names (with_bay names bay None) (is_bay bay) (is_some (in_bay names bay))
      (subst (λ (n : Names). MatchOption (eject_refusal n bay) ((said ≡ answer.Done) × StoresMedium bay old new) (λ (cause : Reason). IsRefused cause old said new))
      kept.named does)
      (λ done. stored_kept bay new range done.1)
      (λ cause none refused. refused_kept asked new (λ other now. none now.0 (ap (λ (o : Option (List ℕ)). is_some o) now.1)) refused.same)

-- ---- lines

-- a line was done, and the lines after it go on
through_line : {R : Type 0} (Holds : List ℕ → Type 0) (names : Names) (asked : PortLine) (more : List PortLine) (old : Bench) (said : LineAnswer) (new : Bench)
    → DoesLine asked old said new → IsInRange new.board → IsKept Holds names old → InsertsDisks Holds names (media_among (asked ∷ more))
    → ((Now : List ℕ → Type 0) (names : Names) → IsKept Now names new → InsertsDisks Now names (media_among more) → R) → R
through_line Holds names (port.In number) more old said new does range kept inserts next = next Holds names (media_kept Holds names old kept new range does.1) inserts
through_line Holds names (port.Insert bay name) more old said new does range kept inserts next =
    next (HoldsBy Holds names (request.Insert bay name)) (named_by names (request.Insert bay name))
    (insert_kept Holds names old kept bay name said new range does) inserts.1
through_line Holds names (port.Eject bay) more old said new does range kept inserts next =
    next (HoldsBy Holds names (request.Eject bay)) (named_by names (request.Eject bay)) (eject_kept Holds names old kept bay said new range does) inserts.1
through_line Holds names _ more old said new does range kept inserts next = next Holds names (media_kept Holds names old kept new range does.2) inserts

-- only the outside stops a line that puts the file of a disk in
line_stop : (Holds : List ℕ → Type 0) (names : Names) (old : Bench) → IsKept Holds names old → (asked : PortLine) (later : List PortLine) (cause : Stop)
    (new : Bench) → InsertsDisks Holds names (media_among (asked ∷ later)) → StopsAt asked old cause new → IsEndStop cause
line_stop Holds names old kept (port.Insert bay name) later cause new inserts stops =
    let goes = goes_in (is_bay bay) (is_some (in_bay old.names bay)) stops.0 in
    let free = subst (λ (n : Names). is_free n bay ≡ true) kept.named goes in
    let file = subst (λ (f : Option Files). IsDiskFile f name) kept.told_is (kept.holds name (inserts.0 free)) in
    disks_stop kept.files (request.Insert bay name) cause (subst (λ (f : Option Files). StopCause f (request.Insert bay name) cause) kept.told_is stops.1)
    (λ at other is. subst (λ (n : List ℕ). IsDiskFile (Some kept.files) n) (cc is) file)
line_stop Holds names old kept (port.Eject bay) later cause new inserts stops = stops.1
line_stop Holds names old kept _ later cause new inserts stops = absurd stops

-- only the outside stops such a line after a run
lines_stop : (asked : PortLine) (later : List PortLine) (cause : Stop) (mid new : Bench) → StopsAt asked mid cause new
    → (course : List Taken) (Holds : List ℕ → Type 0) (names : Names) (old : Bench) → PortRun old course mid
    → InsertsDisks Holds names (media_among (lines_of course ++ asked ∷ later)) → IsKept Holds names old → IsEndStop cause
lines_stop asked later cause mid new stops [] Holds names old run inserts kept =
    line_stop Holds names mid (subst (IsKept Holds names) (sym run) kept) asked later cause new inserts stops
lines_stop asked later cause mid new stops (taken ∷ rest) Holds names old run inserts kept =
    through_line Holds names taken.asked (lines_of rest ++ asked ∷ later) old taken.answer taken.after run.0 taken.range kept inserts
    (λ Now now then_kept then_inserts. lines_stop asked later cause mid new stops rest Now now taken.after run.1 then_inserts then_kept)

-- ---- the whole text

module _ (Holds : List ℕ → Type 0) (names : Names) where
  lines_by : (lines : List PortLine) (old : World) (course : List Taken) (new : World) (ended : Status) → InsertsDisks Holds names (media_among lines)
      → IsKept Holds names old.bench → PlaysLines lines old course new ended → EndsBy (has_refusal course) ended
  lines_by lines old course new ended inserts kept (Played is) =
      subst (EndsBy (has_refusal course)) (sym is.status) (whole_as (SaysRefused (has_refusal course)) (has_refusal course) refl)
  lines_by lines old course new ended inserts kept (Stopped is) =
      prints_as (SaysRefused (has_refusal course)) _ _ _ _ ended is.prints
      (λ well. stop_as (SaysRefused (has_refusal course)) is.cause
      (lines_stop is.asked is.later is.cause is.mid new.bench is.stops course Holds names old.bench is.run
      (subst (λ (l : List PortLine). InsertsDisks Holds names (media_among l)) is.all inserts) kept))
  lines_by lines old course new ended inserts kept (BrokenOff is) = put_as (SaysRefused (has_refusal course)) ended is.fault
  lines_by lines old course new ended inserts kept (EndStopped is) =
      subst (EndsBy (has_refusal course)) (sym is.status) (stop_as (SaysRefused (has_refusal course)) is.cause is.only)

ports_by : (file : List ℕ) (files : Files) (text : List ℕ) (lines : List PortLine) (old : World) (course : List Taken) (new : World) (ended : Status)
    → old.bench.files ≡ Some files → IsText (Some files) file text → ports_of text ≡ Ok lines
    → InsertsDisks (IsDiskFile (Some files)) (both None) (media_among lines) → IsKept (IsDiskFile (Some files)) (both None) old.bench
    → Plays file old course new ended → EndsBy (has_refusal course) ended
ports_by file files text lines old course new ended told is spells inserts kept (There there) =
    lines_by (IsDiskFile (Some files)) (both None) lines old course new ended inserts kept
    (subst (λ (parsed : Result (List PortLine) ℕ). PlaysParsed parsed old course new ended)
    (ap ports_of (same_text files file text old.bench.files told is there.text there.told) ∙ spells) there.plays)
ports_by file files text lines old course new ended told is spells inserts kept (Missing absent tells) = absurd (not_absent files file text old.bench.files told is absent)
ports_by file files text lines old course new ended told is spells inserts kept (TooLong longer tells) = absurd (not_long files file text old.bench.files told is longer)
ports_by file files text lines old course new ended told is spells inserts kept (Faulty idle) = subst (EndsBy (has_refusal course)) (sym idle.status) tt
ports_by file files text lines old course new ended told is spells inserts kept (Starved idle) = subst (EndsBy (has_refusal course)) (sym idle.status) tt

-- what holds of a machine before its first line
begins_kept : (files : Files) (bench : Bench) → bench.files ≡ Some files → bench.names ≡ both None → IsKept (IsDiskFile (Some files)) (both None) bench
begins_kept files bench is named = record {
  files = files;
  told_is = is;
  named = named;
  valid = λ bay name disk under medium. absurd (not_named name bay under);
  holds = λ name known. subst (λ (f : Option Files). IsDiskFile f name) (sym is) known;
}

pub ports_end : (file : List ℕ) (words : List (List ℕ)) (spares : List DriveCounts) (old new : Stand) (ended : Status) (files : Files) (text : List ℕ)
    (lines : List PortLine) (named : ports_file_of words ≡ Some file) → old.outside.outside.files ≡ Some files → IsText (Some files) file text
    → ports_of text ≡ Ok lines → InsertsDisks (IsDiskFile (Some files)) (both None) (media_among lines) → (done : Performed words spares old new ended)
    → EndsByReplies (has_refusal (done.does.ports file named).1.course) old new ended
ports_end file words spares old new ended files text lines named told is spells inserts done =
    let ran = done.does.ports file named in
    let first = ports_world old.board no_names old.outside.outside in
    ends_so (SaysRefused (has_refusal ran.1.course)) (EndsByReplies (has_refusal ran.1.course) old new) ended (λ e. e) (λ e. e) tt
    done.shelf_faults.rose done.sink_faults.rose
    (ports_by file files text lines first ran.1.course (ports_world new.board ran.0 new.outside.outside) ended told is spells inserts
    (begins_kept files first.bench told refl) ran.1.plays)
