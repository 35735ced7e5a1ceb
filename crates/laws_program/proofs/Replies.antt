-- The status of a rescue that goes on by a log, by whether some reply was a refusal.
use Rattle.std.proofs.Common.{◌≡◌, ℕ, true, false, List, [], ◌∷◌, length, Option, Some, refl, sym, ap, subst, inl, inr, unwrap_or, None, Ok}
use Rattle.std.specs.Prelude.{◌||◌}
use Rattle.laws_program.proofs.Common.{Files, sectors_at, Status, Disk, Reply, State, Step, StopsAt, IsImageOf, is_refusal, Taken, has_refusal, World, Shape, shape_of, Script, Fails, RunsScript, unless_refused, no_tracks, shape_at, through, with_report, logged_keys, LogLine, IsLogFound, IsFound, by_log, rescues, rescue_rest, Rescues, done_does, insert_stops, file_at, Rate, R250, R500, DriveCounts, IsFlatFile, Form, DoesForm, DoesOrStarves, AsAsked, StarvesWords, Stand, RanOver, EndsByReplies, IsDiskFile, InsertsDisks, both, job_of, Request, IsText}
use Rattle.commands.specs.Parts.{needs, carries, may_starve, opens}
use Rattle.disk_commands.specs.Rescue.{acknowledges_both, prepares_old, prepares, rescues_all, rescue_found}
use Rattle.laws_commands.proofs.TrackParts.{put_shape}
use Rattle.laws_program.proofs.RescueStatus.{records_by, behind, rescue_by}
use Rattle.laws_program.proofs.OfForms.{EndsBy, IsFaithful, acknowledges_tells, SaysRefused, prints_as, stop_as, script_tells, unrefused, world_before, world_after, run_course, ends_so}
use Rattle.laws_program.proofs.Completed.{format_by, copy_by, verify_by, import_by, export_by, exercise_by}
use Rattle.laws_program.proofs.FormTimes.{play_by, begins_kept}
use Rattle.flop_base.specs.declared.answers.Status.TheVariants as status
use Rattle.floppy_jobs.specs.declared.request.Request.TheVariants as request
use Rattle.sector_model.specs.declared.reply.Reply.TheVariants as reply
use Rattle.floppy_words.specs.declared.form.Form.TheVariants as form

-- ---- a file that is there is put in

inserts_tells : (bay : ℕ) (name : List ℕ) (rest : Unit {0} → Script) (files : Files) (disk : Disk) (old new : World) (course : List Taken) (ended : Status)
    → old.files ≡ Some files → IsImageOf (Some files) name disk → IsFaithful false (rest tt)
    → RunsScript (carries (request.Insert bay name) rest) old course new ended → EndsBy (has_refusal course) ended
unfolding carries needs
inserts_tells bay name rest files disk old new [] ended told image is runs =
    prints_as (SaysRefused false) _ _ _ _ ended runs.2
    (λ well. stop_as (SaysRefused false) runs.0 (insert_stops bay name files disk old.state new.state new.files runs.0 image
    (subst (λ (f : Option Files). StopsAt (request.Insert bay name) old.state f runs.0 new.state new.files) told runs.1)))
inserts_tells bay name rest files disk old new (taken ∷ later) ended told image is runs =
    script_tells (false || is_refusal taken.answer) (unless_refused (request.Insert bay name) taken.answer (rest tt)) (with_report taken.after runs.1 old.report)
    new later ended (unrefused (request.Insert bay name) taken.answer (rest tt) is) runs.3

-- ---- the disk to rescue is put in

module _ (name : List ℕ) (rest : Shape → Script) (files : Files) (disk : Disk) (image : IsImageOf (Some files) name disk) (new : World) (ended : Status)
    (next : (shape : Shape) (mid : World) (later : List Taken) → mid.files ≡ Some files → shape ≡ shape_of disk → RunsScript (rest shape) mid later new ended
    → EndsBy (has_refusal later) ended) where
  by_shape : (old mid : State) (after : Option Files) (report : Option (List (List ℕ))) (later : List Taken) (answer : Reply) → is_refusal answer ≡ false
      → Step (request.Insert 0 name) old (Some files) answer mid after
      → RunsScript (rest (shape_at mid 0)) (with_report mid after report) later new ended → EndsBy (has_refusal later) ended
  by_shape old mid after report later answer done step runs =
      next (shape_at mid 0) (with_report mid after report) later (done_does old mid (Some files) after (request.Insert 0 name) answer step done).1
      (ap (λ (o : Option Shape). unwrap_or o no_tracks) (put_shape name disk files old mid after answer image step done)) runs

  by_answer : (old mid : State) (after : Option Files) (report : Option (List (List ℕ))) (later : List Taken) (answer : Reply)
      → Step (request.Insert 0 name) old (Some files) answer mid after
      → RunsScript (unless_refused (request.Insert 0 name) answer (rest (shape_at mid 0))) (with_report mid after report) later new ended
      → EndsBy (is_refusal answer || has_refusal later) ended
  by_answer old mid after report later (reply.Refused cause) step runs =
      script_tells true (unless_refused (request.Insert 0 name) (reply.Refused cause) (rest (shape_at mid 0)))
      (with_report mid after report) new later ended refl runs
  by_answer old mid after report later answer step runs = by_shape old mid after report later answer refl step runs

  opens_then : (old : World) (course : List Taken) → old.files ≡ Some files → RunsScript (opens name rest) old course new ended
      → EndsBy (has_refusal course) ended
  unfolding opens needs
  opens_then old [] told runs =
      prints_as (SaysRefused false) _ _ _ _ ended runs.2
      (λ well. stop_as (SaysRefused false) runs.0 (insert_stops 0 name files disk old.state new.state new.files runs.0 image
      (subst (λ (f : Option Files). StopsAt (request.Insert 0 name) old.state f runs.0 new.state new.files) told runs.1)))
  opens_then old (taken ∷ later) told runs =
      by_answer old.state taken.after runs.1 old.report later taken.answer
      (subst (λ (f : Option Files). Step (request.Insert 0 name) old.state f taken.answer taken.after runs.1) told runs.2) runs.3

-- ---- by a log

again_by : (to log : List ℕ) (shape : Shape) (lines : List LogLine)
    → IsFaithful false (acknowledges_both shape.rate (λ none. through rescues (logged_keys lines) [] (behind to log shape (length (logged_keys lines)))))
unfolding acknowledges_both
again_by to log shape lines =
    acknowledges_tells 0 shape.rate _ (λ none. acknowledges_tells 1 shape.rate _ (λ none. records_by to log shape (logged_keys lines)))

found_by : (to log : List ℕ) (shape : Shape) (lines : List LogLine) (files : Files) (target : Disk) (mid new : World) (later : List Taken) (ended : Status)
    → mid.files ≡ Some files → IsImageOf (Some files) to target → RunsScript (rescue_found to log shape (Some lines)) mid later new ended
    → EndsBy (has_refusal later) ended
unfolding rescue_found rescues_all may_starve prepares prepares_old
found_by to log shape lines files target mid new later ended told image (inl runs) =
    inserts_tells 1 to _ files target mid new later ended told image (again_by to log shape lines) runs
found_by to log shape lines files target mid new later ended told image (inr none) =
    subst (λ (s : Status). EndsBy (has_refusal later) s) (sym none.2) tt

pub rescue_again_by : (from to log : List ℕ) (files : Files) (disk target : Disk) (lines : List LogLine) (old new : World) (course : List Taken)
    (ended : Status) → old.files ≡ Some files → IsImageOf (Some files) from disk → IsImageOf (Some files) to target
    → IsLogFound (Some files) log (sectors_at disk.rate) (Some lines) → Rescues from to log old course new ended → EndsBy (has_refusal course) ended
rescue_again_by from to log files disk target lines old new course ended told image other found (answers, are, runs) =
    opens_then from (λ shape. rescue_rest to log shape (answers shape.rate)) files disk image new ended
    (λ shape mid later there same left.
    by_log files to log shape (λ script. RunsScript script mid later new ended → EndsBy (has_refusal later) ended) lines
    (subst (λ (s : Shape). IsLogFound (Some files) log (sectors_at s.rate) (Some lines)) (sym same) found)
    (λ asked runs. found_by to log shape asked files target mid new later ended there other runs)
    (λ runs. script_tells false (Fails status.FileFault) mid new later ended tt runs)
    (λ runs. script_tells false (Fails status.NoMemory) mid new later ended tt runs)
    (answers shape.rate) (subst (λ (f : Option Files). IsFound f log (sectors_at shape.rate) (answers shape.rate)) told (are shape.rate)) left)
    old course told runs

-- ---- what the status of a subcommand (form) says of its replies

module _ {asked : Form} {spares : List DriveCounts} {old new : Stand} {ended : Status} (ran : RanOver (Some asked) spares old new ended) where
  abbrev Tells : Type 0
  Tells = EndsByReplies (has_refusal (run_course ran)) old new ended

  by_form : (DoesForm asked (world_before ran) (run_course ran) (world_after ran) ended → EndsBy (has_refusal (run_course ran)) ended) → Tells
  by_form by = go ran.runs.runs.does
    where
      go : DoesOrStarves asked (world_before ran) (run_course ran) (world_after ran) ended → Tells
      go (AsAsked does) =
          ends_so (SaysRefused (has_refusal (run_course ran))) (EndsByReplies (has_refusal (run_course ran)) old new) ended (λ e. e) (λ e. e) tt
          ran.shelf_faults.rose ran.sink_faults.rose (by does)
      go (StarvesWords nothing idle) = subst (λ (s : Status). EndsByReplies (has_refusal (run_course ran)) old new s) (sym idle.status) tt

module _ (spares : List DriveCounts) (old new : Stand) (ended : Status) where
  pub format_replies : (name : List ℕ) (count : ℕ) (ran : RanOver (Some (form.Format name count)) spares old new ended) → Tells ran
  format_replies name count ran =
      by_form ran (format_by R500 name count (world_before ran) (world_after ran) (run_course ran) ended)

  pub format_dd_replies : (name : List ℕ) (count : ℕ) (ran : RanOver (Some (form.FormatDd name count)) spares old new ended)
      → Tells ran
  format_dd_replies name count ran =
      by_form ran (format_by R250 name count (world_before ran) (world_after ran) (run_course ran) ended)

  pub copy_replies : (from to : List ℕ) (files : Files) (disk : Disk) → old.outside.outside.files ≡ Some files → IsImageOf (Some files) from disk
      → (ran : RanOver (Some (form.Copy from to)) spares old new ended) → Tells ran
  copy_replies from to files disk told image ran =
      by_form ran (copy_by from to files disk (world_before ran) (world_after ran) (run_course ran) ended told image)

  pub verify_replies : (name : List ℕ) (files : Files) (disk : Disk) → old.outside.outside.files ≡ Some files → IsImageOf (Some files) name disk
      → (ran : RanOver (Some (form.Verify name)) spares old new ended) → Tells ran
  verify_replies name files disk told image ran =
      by_form ran (verify_by name files disk (world_before ran) (world_after ran) (run_course ran) ended told image)

  pub import_replies : (flat name : List ℕ) (files : Files) (bytes : List ℕ) (at : Rate) → old.outside.outside.files ≡ Some files
      → IsFlatFile (Some files) flat bytes at → (ran : RanOver (Some (form.Import flat name)) spares old new ended) → Tells ran
  import_replies flat name files bytes at told is ran =
      by_form ran (import_by flat name bytes files at (world_before ran) (world_after ran) (run_course ran) ended told is)

  pub export_replies : (name flat : List ℕ) (files : Files) (disk : Disk) → old.outside.outside.files ≡ Some files → IsImageOf (Some files) name disk
      → (ran : RanOver (Some (form.Export name flat)) spares old new ended) → Tells ran
  export_replies name flat files disk told image ran =
      by_form ran (export_by name flat files disk (world_before ran) (world_after ran) (run_course ran) ended told image)

  pub exercise_replies : (seed count : ℕ) (ran : RanOver (Some (form.Exercise seed count)) spares old new ended) → Tells ran
  exercise_replies seed count ran =
      by_form ran (exercise_by seed count (world_before ran) (world_after ran) (run_course ran) ended)

  pub rescue_replies : (from to log : List ℕ) (files : Files) (disk : Disk) → old.outside.outside.files ≡ Some files → IsImageOf (Some files) from disk
      → file_at files log ≡ None → (ran : RanOver (Some (form.Rescue from to log)) spares old new ended) → Tells ran
  rescue_replies from to log files disk told image absent ran =
      by_form ran (rescue_by from to log files disk (world_before ran) (world_after ran) (run_course ran) ended told image absent)

  pub play_replies : (job : List ℕ) (files : Files) (text : List ℕ) (requests : List Request) → old.outside.outside.files ≡ Some files
      → IsText (Some files) job text → job_of text ≡ Ok requests → InsertsDisks (IsDiskFile (Some files)) (both None) requests
      → (ran : RanOver (Some (form.Play job)) spares old new ended) → Tells ran
  play_replies job files text requests told is spells inserts ran =
      by_form ran (play_by job files text requests (world_before ran) (run_course ran) (world_after ran) ended told is spells inserts
      (begins_kept files ran.runs.start old.outside.outside.files told ran.runs.set_up.names ran.runs.set_up.fresh))

  pub rescue_again_replies : (from to log : List ℕ) (files : Files) (disk target : Disk) (lines : List LogLine) → old.outside.outside.files ≡ Some files
      → IsImageOf (Some files) from disk → IsImageOf (Some files) to target → IsLogFound (Some files) log (sectors_at disk.rate) (Some lines)
      → (ran : RanOver (Some (form.Rescue from to log)) spares old new ended) → Tells ran
  rescue_again_replies from to log files disk target lines told image other found ran =
      by_form ran
      (rescue_again_by from to log files disk target lines (world_before ran) (world_after ran) (run_course ran) ended told image other found)
