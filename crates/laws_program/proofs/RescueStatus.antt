-- Two runs of one batch job over machines where nothing is left that could go wrong.
use Rattle.std.proofs.Common.{◌≡◌, ◌∙◌, ℕ, List, length, Some, ap, sym, inl, inr, arith, ◌≤◌, ◌-◌, Bool, true, false, [], ◌∷◌, ◌++◌, Option, None, refl, subst, if◌then◌else◌, Result, Ok, Err}
use Rattle.std.specs.Prelude.{◌⊎◌, ◌||◌, nat_lt}
use Rattle.laws_program.proofs.Common.{Files, DriveCounts, Status, Blames, World, AreBytes, BeginAlike, AreRegularBefore, AnswersAgree, IsFreeEnd, EndAlike, world, Stand, RanOver, IsSound, EndsOutside, or-false, or-true, lt-ltb, le-ltb, ltb-false, ltb-true, length-append, file_at, sectors_at, Code, Chrn, Disk, Reply, IsImageOf, is_refusal, Taken, has_refusal, whole_status, blank_request, Shape, Script, carries, formats, write_of, LogLine, IsFound, asked_keys, outcome_of, rescue_rest, Rescues, outcome_status, by_absent, stored, R500, R250, blank_disk, image_of, file_of, ImageError, imd_of, Board, State, Stopped, Outside, Halt, Makes, HasNoDisk, IsImdFile, HasNoImd, IsRemasterFile, HasNoRemaster, Form, DoesForm, AsAsked, StarvesWords, Does, RunsOver, StoresFirst, end_stores, StoresRun, StoresDiskAlone, StoresFileAlone, stores_in_order, nothing_first, all_first, ends_store, end_stops, run_then, no_run}
use Rattle.laws_program.proofs.PlaysAgree.{answers_determined}
use Rattle.laws_program.proofs.Courses.{as_play, Rests, Still, AtRequest, AtEnd, AtStore, Went, went_play, went_calls}
use Rattle.laws_program.proofs.OfForms.{nothing_left, ends_so, EndsBy, NeverInserts, IsFaithful, PartTells, opens_tells, carries_tells, carries_tells_at, acknowledges_tells, tracks_tell, some_whole}
use Rattle.commands.specs.Parts.{asks, may_starve, through}
use Rattle.disk_commands.specs.Rescue.{does_next, follows, rescues, acknowledges_both, prepares_new, prepares, rescues_all, stores_log, rescue_found}
use Rattle.laws_program.proofs.Completed.{blank_never, format_never}
use Rattle.archive_commands.specs.Making.{IsDiskFile}
use Rattle.laws_commands.proofs.ScriptStores.{verify_stores, exercise_stores, format_stores, copy_stores, import_stores, export_stores}
use Rattle.laws_program.specs.StoresMade.{StoresFor, StoresAsked}
use Rattle.flop_base.specs.declared.answers.Status.TheVariants as status
use Rattle.floppy_words.specs.declared.form.Form.TheVariants as form
use Rattle.flop_base.specs.declared.answers.Code.TheVariants as code
use Rattle.floppy_jobs.specs.declared.request.Request.TheVariants as request
use Rattle.sector_model.specs.declared.reply.Reply.TheVariants as reply
use Rattle.sector_model.specs.declared.reply.Reason.TheVariants as reason
use Rattle.archive_commands.specs.declared.halt.Halt.TheVariants as halt

-- if the outside ended the program, the fault was counted
free_counted : (old new : Stand) (ended : Status) → Blames (ended ≡ status.FileFault) old.outside.shelf_faults new.outside.shelf_faults
    → Blames (ended ≡ status.SinkFault) old.outside.sink_faults new.outside.sink_faults → IsFreeEnd ended → EndsOutside old new ended
free_counted old new ended shelf sink free = ends_so (λ flag. ⊥) (EndsOutside old new) ended (λ e. e) (λ e. e) tt shelf.rose sink.rose free

module _ (job : List ℕ) (spares other_spares : List DriveCounts) (old new other_old other_new : Stand) (ended other_ended : Status) (files others : Files)
    (one : RanOver (Some (form.Play job)) spares old new ended) (two : RanOver (Some (form.Play job)) other_spares other_old other_new other_ended) where
  abbrev first : World
  first = world one.runs.start old.outside.outside.files old.outside.outside.report

  abbrev second : World
  second = world two.runs.start other_old.outside.outside.files other_old.outside.outside.report

  abbrev first_after : World
  first_after = world one.runs.last new.outside.outside.files new.outside.outside.report

  abbrev second_after : World
  second_after = world two.runs.last other_new.outside.outside.files other_new.outside.outside.report

  -- both runs have as many spare drives
  same_spares : length other_spares ≡ length spares → two.runs.start.station.spares ≡ one.runs.start.station.spares
  same_spares many =
      sym two.runs.set_up.fresh.spares ∙ ap (λ (d : List DriveCounts). length d) two.runs.set_up.starts.spares_are ∙ many
      ∙ sym (ap (λ (d : List DriveCounts). length d) one.runs.set_up.starts.spares_are) ∙ one.runs.set_up.fresh.spares

  pub job_settled : IsSound old.board spares → IsSound other_old.board other_spares → length other_spares ≡ length spares
      → old.outside.outside.files ≡ Some files → other_old.outside.outside.files ≡ Some others → others.held ≡ files.held → AreBytes files
      → AnswersAgree one.runs.start one.runs.runs.course two.runs.runs.course
      × (AreRegularBefore one.runs.start one.runs.runs.course
      → EndsOutside old new ended ⊎ EndsOutside other_old other_new other_ended
      ⊎ EndAlike first second one.runs.runs.course two.runs.runs.course first_after second_after ended other_ended)
  job_settled sound other_sound many told told_too same bytes =
      let set_up = one.runs.set_up in
      let other_set_up = two.runs.set_up in
      let begins : BeginAlike first second = record {
        first = record {
          fresh = set_up.fresh;
          nothing_left = nothing_left old.board spares one.runs.start.station set_up.fresh set_up.starts sound;
        };
        second = record {
          fresh = other_set_up.fresh;
          nothing_left = nothing_left other_old.board other_spares two.runs.start.station other_set_up.fresh other_set_up.starts other_sound;
        };
        spares = same_spares many;
        names = other_set_up.names ∙ sym set_up.names;
        files = files;
        others = others;
        told = told;
        told_too = told_too;
        same = same;
        bytes = bytes;
      } in
      let both = answers_determined job first first_after second second_after one.runs.runs.course two.runs.runs.course ended other_ended begins
      (as_play first one.runs.runs.course first_after job ended one.runs.runs.does)
      (as_play second two.runs.runs.course second_after job other_ended two.runs.runs.does) in (
        both.0,
        λ regular. elim (both.1 regular) [
          | inl free ↦ inl (free_counted old new ended one.shelf_faults one.sink_faults free)
          | inr (inl free) ↦ inr (inl (free_counted other_old other_new other_ended two.shelf_faults two.sink_faults free))
          | inr (inr alike) ↦ inr (inr alike)
        ],
      )

-- ---- the status of a rescue without a log, by whether some reply was a refusal

-- some record was logged
abbrev some_line : List LogLine → Bool
some_line lines = nat_lt 0 (length lines)

one_line : (lines : List LogLine) (line : LogLine) → some_line (lines ++ line ∷ []) ≡ (some_line lines || true)
one_line lines line =
    let size = length-append lines (line ∷ []) in
    lt-ltb 0 (length (lines ++ line ∷ [])) (omega (arith, size)) ∙ sym (or-true (some_line lines))

write_never : (key : Chrn) (deleted : Bool) → NeverInserts (write_of key deleted)
write_never key true = λ bay name e. absurd (cc e)
write_never key false = λ bay name e. absurd (cc e)

module _ (key : Chrn) (lines : List LogLine) (rest : List LogLine → Script) (is : (now : List LogLine) → IsFaithful (some_line now) (rest now)) where
  written : (deleted : Bool) → IsFaithful (some_line lines || false) (carries (write_of key deleted) (λ none. rest lines))
  written deleted =
      subst (λ (b : Bool). IsFaithful b (carries (write_of key deleted) (λ none. rest lines))) (sym (or-false (some_line lines)))
      (carries_tells_at (some_line lines) (write_of key deleted) (write_never key deleted) (λ none. rest lines) (is lines))

  lined : (cause : Code) → IsFaithful (some_line lines || true) (rest (lines ++ record { key = key; code = cause } ∷ []))
  lined cause =
      let line : LogLine = record { key = key; code = cause } in
      subst (λ (b : Bool). IsFaithful b (rest (lines ++ line ∷ []))) (one_line lines line) (is (lines ++ line ∷ []))

  refused : (cause : Code) → IsFaithful (some_line lines || true) (follows key (reply.Refused (reason.Driver cause)) lines rest)
  unfolding follows does_next may_starve
  refused code.NoMark = lined code.NoMark
  refused code.NotFound = lined code.NotFound
  refused code.Overrun = lined code.Overrun
  refused code.BadCrc = lined code.BadCrc
  refused code.Seek = lined code.Seek
  refused _ = some_whole (some_line lines)

  followed : (answer : Reply) → IsFaithful (some_line lines || is_refusal answer) (follows key answer lines rest)
  unfolding follows does_next
  followed reply.Done = written false
  followed reply.DoneDeleted = written true
  followed (reply.Bytes address content) = written false
  followed (reply.Refused (reason.Driver cause)) = refused cause
  followed _ = some_whole (some_line lines)

rescued_by : (key : Chrn) (lines : List LogLine) → PartTells some_line (some_line lines) (rescues key lines)
unfolding rescues asks
rescued_by key lines rest is = (λ bay name e. absurd (cc e), λ answer after came. followed key lines rest is answer)

all_by : (keys : List Chrn) (lines : List LogLine) → PartTells some_line (some_line lines) (through rescues keys lines)
unfolding through
all_by [] lines rest is = is lines
all_by (key ∷ keys) lines rest is = rescued_by key lines (λ now. through rescues keys now rest) (λ now. all_by keys now rest is)

-- the status of the last line, by whether some record was logged
same_status : (asked n : ℕ) → 1 ≤ asked → nat_lt (asked - n) asked ≡ nat_lt 0 n
same_status asked n least = go (nat_lt 0 n) refl
  where
    go : (b : Bool) → nat_lt 0 n ≡ b → nat_lt (asked - n) asked ≡ b
    go true some = let more = ltb-true 0 n some in lt-ltb (asked - n) asked (omega (arith, more, least))
    go false none = let few = ltb-false 0 n none in le-ltb (asked - n) asked (omega (arith, few))

same_outcome : (asked : ℕ) (lines : List LogLine) → nat_lt (asked - length lines) asked ≡ some_line lines
    → outcome_status (outcome_of asked lines) ≡ whole_status (some_line lines)
same_outcome asked lines same = ap (λ (b : Bool). if b then status.SomeRefused else status.AllOk) same

stores_by : (log : List ℕ) (asked : ℕ) (lines : List LogLine) → nat_lt (asked - length lines) asked ≡ some_line lines
    → IsFaithful (some_line lines) (stores_log log asked lines)
unfolding stores_log may_starve
stores_by log asked lines same = same_outcome asked lines same

module _ (to log : List ℕ) (shape : Shape) where
  abbrev keys : List Chrn
  keys = asked_keys shape None

  abbrev pub behind : ℕ → List LogLine → Script
  behind asked lines = carries (request.Eject 1) (λ still. stores_log log asked lines)

  behind_by : (asked : ℕ) (lines : List LogLine) → nat_lt (asked - length lines) asked ≡ some_line lines → IsFaithful (some_line lines) (behind asked lines)
  behind_by asked lines same =
      carries_tells_at (some_line lines) (request.Eject 1) (λ bay name e. absurd (cc e)) (λ still. stores_log log asked lines) (stores_by log asked lines same)

  pub records_by : (row : List Chrn) → IsFaithful false (through rescues row [] (behind (length row)))
  unfolding through
  records_by [] = behind_by 0 [] refl
  records_by (key ∷ row) =
      all_by (key ∷ row) [] (behind (length (key ∷ row))) (λ lines. behind_by (length (key ∷ row)) lines (same_status (length (key ∷ row)) (length lines) (omega arith)))

  new_by : IsFaithful false (rescue_found to log shape None)
  unfolding rescue_found rescues_all may_starve prepares prepares_new acknowledges_both
  new_by =
      carries_tells (blank_request 1 to shape.cylinders shape.rate) (blank_never 1 to shape.cylinders shape.rate) _ (λ none.
      acknowledges_tells 0 shape.rate _ (λ none.
      acknowledges_tells 1 shape.rate _ (λ none.
      tracks_tell (λ none. false) (formats 1) (λ c h none. format_never 1 c h) shape.cylinders shape.heads tt _ (λ none.
      records_by keys))))

pub rescue_by : (from to log : List ℕ) (files : Files) (disk : Disk) (old new : World) (course : List Taken) (ended : Status)
    → old.files ≡ Some files → IsImageOf (Some files) from disk → file_at files log ≡ None
    → Rescues from to log old course new ended → EndsBy (has_refusal course) ended
rescue_by from to log files disk old new course ended told image absent (answers, are, runs) =
    opens_tells from (λ shape. rescue_rest to log shape (answers shape.rate)) files disk old new course ended told image
    (λ shape. by_absent files to log shape (IsFaithful false) absent (new_by to log shape) tt tt (answers shape.rate)
    (subst (λ (f : Option Files). IsFound f log (sectors_at shape.rate) (answers shape.rate)) told (are shape.rate))) runs

-- ---- which stores each subcommand (form) makes

-- ---- jobs, and calls of INT 13h

rests_store : (mid new : State) (files after : Option Files) → Rests mid files new after → StoresFirst (end_stores mid) files after
rests_store mid new files after (Still state same) = nothing_first (end_stores mid) files after same
rests_store mid new files after (AtRequest asked cause stops) = nothing_first (end_stores mid) files after stops.files
rests_store mid new files after (AtEnd ends) = all_first (end_stores mid) files after (ends_store mid new files after ends)
rests_store mid new files after (AtStore stops) = end_stops mid new files after stops

went_stores : (old : World) (course : List Taken) (new : World) → Went old course new → StoresRun old.state course old.files new.files
went_stores old course new went =
    run_then old.state went.mid old.files went.files new.files course went.run (rests_store went.mid new.state went.files new.files went.rests)

-- ---- subcommands that make a file of another

no_disk : Disk
no_disk = blank_disk 1 1 1 R500

no_disk_stored : (name : List ℕ) (told after : Option Files) → after ≡ told → StoresDiskAlone name told after
no_disk_stored name told after same = (no_disk, nothing_first _ told after same)

no_file_stored : (name : List ℕ) (told after : Option Files) → after ≡ told → StoresFileAlone name told after
no_file_stored name told after same = ([], nothing_first _ told after same)

makes_disk : {T : Type 0} (reading : List ℕ → Result T ImageError) (Becomes : T → List ℕ → ℕ → Type 0) (IsUnfit : T → ℕ → ℕ → Type 0)
    → ((source : T) (file : List ℕ) (count : ℕ) → Becomes source file count → (disk : Disk) × (file ≡ file_of disk))
    → (from to : List ℕ) (told : Option Files) (outcome : Result ℕ Halt) (after : Option Files) → Makes reading Becomes IsUnfit from to told outcome after
    → StoresDiskAlone to told after
makes_disk reading Becomes IsUnfit disk from to told (Ok count) after makes =
    let made = disk makes.0 makes.1 count makes.3 in
    (made.0, all_first _ told after (makes.4 ∙ ap (λ (file : List ℕ). stored told to file) made.1))
makes_disk reading Becomes IsUnfit disk from to told (Err (halt.Unfit c h)) after makes = no_disk_stored to told after makes.1
makes_disk reading Becomes IsUnfit disk from to told (Err (halt.Stopped cause)) after makes = no_disk_stored to told after makes.1

makes_file : {T : Type 0} (reading : List ℕ → Result T ImageError) (Becomes : T → List ℕ → ℕ → Type 0) (IsUnfit : T → ℕ → ℕ → Type 0)
    (from to : List ℕ) (told : Option Files) (outcome : Result ℕ Halt) (after : Option Files) → Makes reading Becomes IsUnfit from to told outcome after
    → StoresFileAlone to told after
makes_file reading Becomes IsUnfit from to told (Ok count) after makes = (makes.1, all_first _ told after makes.4)
makes_file reading Becomes IsUnfit from to told (Err (halt.Unfit c h)) after makes = no_file_stored to told after makes.1
makes_file reading Becomes IsUnfit from to told (Err (halt.Stopped cause)) after makes = no_file_stored to told after makes.1

-- ---- each subcommand

form_stores : (asked : Form) (old : World) (course : List Taken) (new : World) (ended : Status) → DoesForm asked old course new ended
    → StoresFor asked old.state course old.files new.files
form_stores (form.Play job) old course new ended does = went_stores old course new (went_play old course new job ended does)
form_stores (form.Int13 file) old course new ended does = went_stores old course new (went_calls old course new file ended does)
form_stores (form.Format name count) old course new ended does = format_stores name count R500 old course new ended does
form_stores (form.FormatDd name count) old course new ended does = format_stores name count R250 old course new ended does
form_stores (form.Copy from to) old course new ended does = copy_stores from to old course new ended does
form_stores (form.Verify name) old course new ended does = verify_stores name old course new ended does
form_stores (form.Exercise seed count) old course new ended does = exercise_stores seed count old course new ended does
form_stores (form.Import flat name) old course new ended does = import_stores flat name old course new ended does
form_stores (form.Export name flat) old course new ended does = export_stores name flat old course new ended does
form_stores (form.Rescue from to log) old course new ended does = stores_in_order from to log old new course ended does
form_stores (form.Survey name) old course new ended on = on.does.2
form_stores (form.FromImd imd name) old course new ended on =
    makes_disk imd_of IsDiskFile HasNoDisk (λ source file count becomes. (becomes.0, becomes.3)) imd name old.files on.does.0 new.files on.does.1
form_stores (form.ToImd name imd) old course new ended on =
    makes_file image_of IsImdFile HasNoImd name imd old.files on.does.0 new.files on.does.1
form_stores (form.Remaster from to) old course new ended on =
    makes_disk image_of IsRemasterFile HasNoRemaster (λ source file count becomes. (becomes.0, becomes.2)) from to old.files on.does.0 new.files on.does.1

-- the stores of a subcommand that did nothing
starved_stores : (asked : Form) (start : State) (course : List Taken) (told after : Option Files) → course ≡ [] → after ≡ told
    → StoresFor asked start course told after
starved_stores (form.Play job) start course told after nothing same = no_run start told after course nothing same
starved_stores (form.Int13 file) start course told after nothing same = no_run start told after course nothing same
starved_stores (form.Format name count) start course told after nothing same = no_disk_stored name told after same
starved_stores (form.FormatDd name count) start course told after nothing same = no_disk_stored name told after same
starved_stores (form.Copy from to) start course told after nothing same = no_disk_stored to told after same
starved_stores (form.Import flat name) start course told after nothing same = no_disk_stored name told after same
starved_stores (form.Export name flat) start course told after nothing same = no_file_stored flat told after same
starved_stores (form.Rescue from to log) start course told after nothing same = (no_disk, nothing_first _ told after same)
starved_stores (form.FromImd imd name) start course told after nothing same = no_disk_stored name told after same
starved_stores (form.ToImd name imd) start course told after nothing same = no_file_stored imd told after same
starved_stores (form.Remaster from to) start course told after nothing same = no_disk_stored to told after same
starved_stores _ start course told after nothing same = same

asked_stores : (asked : Option Form) (old : World) (course : List Taken) (new : World) (ended : Status) → Does asked old course new ended
    → StoresAsked asked old.state course old.files new.files
asked_stores (Some asked) old course new ended (AsAsked does) = form_stores asked old course new ended does
asked_stores (Some asked) old course new ended (StarvesWords nothing idle) =
    starved_stores asked old.state course old.files new.files nothing (ap (λ (w : World). w.files) idle.same)
asked_stores None old course new ended tells = tells.tells.files

pub each_form_stores : (asked : Option Form) (spares : List DriveCounts) (old new : Board) (before after : Outside) (ended : Status)
    (over : RunsOver asked old spares before new after ended) → StoresAsked asked over.start over.runs.course before.files after.files
each_form_stores asked spares old new before after ended over =
    asked_stores asked (world over.start before.files before.report) over.runs.course (world over.last after.files after.report) ended over.runs.does
