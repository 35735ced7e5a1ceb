-- How the subcommands (forms) on files alone end, where the file that they read is there and in its grammar.
use Rattle.std.proofs.Common.{Bool, ◌≡◌, ◌∙◌, arith, ℕ, List, Option, Result, Ok, Err, Some, sym, subst, inl, inr, true, false, [], ◌∷◌, length, refl, ap, zero, suc, ◌≤◌, not, None, IsSomeAnd, ◌++◌}
use Rattle.std.specs.Prelude.{codes, nat_le, MatchOption}
use Rattle.laws_program.proofs.Common.{Files, file_at, Status, Disk, image_of, ImageError, DriveCounts, imd_of, Stop, stop_status, SurveyLine, SurveysFile, TellsSurvey, Halt, ReadsAs, Tells, Makes, MakesFromImd, MakesToImd, MakesRemaster, HasNoDisk, HasNoImd, HasNoRemaster, IsImdFile, IsRemasterFile, Stand, RanOver, Form, DoesForm, Runs, IsEndStop, of_one, EndsByFit, EndsWell, MakesFile, TellsSurveyOf, HasUnfit, nil_from_length, leb-false, length-append, Code, Chrn, Two, in_bay, Look, Found, standard_keys, Bay, IsImageOf, whole_status, Board, Outside, world, RunsOver, IsUnmistaken, told_of, all_told_of, IsEndStatus, verify_tells, HadNoFault, HadNoStall, ListsFailing, false≢true, ports_of, PortLine, Seeking, has_ended, is_seeking, Seek, is_executing, IsInRange, controller_of, Bus, RunsNoSeek, Meets, Recalibrates, pulses_left, seeks, Acts, Goes, input_goes, meets_within, output_goes, wait_goes, waits_goes, IsFreshBoard, Reason, ports_file_of, Performed, ports_world, LineAnswer, Bench, no_names, PortRun, DoesLine, LoadsMedium, StoresMedium, insert_refusal, eject_refusal, PlaysLines, IsUsed, NotBoth, SeeksEnd}
use Rattle.imagedisk.specs.declared.image.ImdImage.{ImdImage}
use Rattle.archive_commands.specs.Files.{StopsAt}
use Rattle.archive_commands.specs.Making.{IsDiskFile}
use Rattle.laws_program.proofs.Archives.{made_well, survey_told}
use Rattle.laws_program.proofs.OfForms.{form_done, world_before, world_after, EndsAs, ByFlag, stop_as, prints_as, ends_so, undisturbed_first}
use Rattle.std.proofs.lemmas.Grind.{flat_map-append}
use Rattle.sector_map.specs.Failing.{AreFailing, unless_found}
use Rattle.fdc_commands.specs.declared.motion.Motion.{Motion}
use Rattle.fdc_commands.specs.declared.motion.Motion.TheVariants.{Outward}
use Rattle.pc_bus.specs.Calls.{AreCalled, IsCalled, ByEject, ByExchange, ByInb, ByInsert, ByOutb, ByRamSet, ByRefusal, ByTakeIrq, ByWait, ByWaitIrq}
use Rattle.pc_bus.specs.Handling.{Touches}
use Rattle.laws_machine.proofs.OnSteps.SeekEnds.{recalibrate_left, seek_ends, seek_ends_in_time}
use Rattle.machine_commands.specs.Ready.{IsIdle}
use Rattle.machine_commands.specs.declared.motors.Motors.{Motors}
use Rattle.text_commands.specs.PortCourses.{Taken}
use Rattle.text_commands.specs.PortFinishes.{EndInTime}
use Rattle.text_commands.specs.PortLines.{IsRefused}
use Rattle.text_commands.specs.PortPlays.{World, Played, Stopped, BrokenOff, EndStopped, PlaysParsed, Plays, There, Missing, TooLong, Faulty, Starved}
use Rattle.laws_program.proofs.SeekOrData.{goes_apart}
use Rattle.flop_base.specs.declared.answers.Status.TheVariants as status
use Rattle.sector_model.specs.declared.reply.Stop.TheVariants as stop
use Rattle.archive_commands.specs.declared.halt.Halt.TheVariants as halt
use Rattle.floppy_words.specs.declared.form.Form.TheVariants as form
use Rattle.floppy_jobs.specs.declared.ports.PortLine.TheVariants as port
use Rattle.text_commands.specs.declared.ports.answer.LineAnswer.TheVariants as answer

-- two readings of one file give the same
one_read : {T : Type 0} (reading : List ℕ → Result T ImageError) (files : Files) (name : List ℕ) (one : T) (other : Result T ImageError)
    → ReadsAs reading (Some files) name (Ok one) → ReadsAs reading (Some files) name other → other ≡ Ok one
one_read reading files name one other first second =
    let both = of_one (file_at files name) first second in
    sym both.3.1 ∙ both.2.1

-- only the outside stops a command whose file is there and reads well
read_stops : {T : Type 0} (reading : List ℕ → Result T ImageError) (files : Files) (name : List ℕ) (source : T) → ReadsAs reading (Some files) name (Ok source)
    → (cause : Stop) → StopsAt reading (Some files) name cause → IsEndStop cause
read_stops reading files name source reads stop.FileFault stops = tt
read_stops reading files name source reads stop.NoMemory stops = tt
read_stops reading files name source reads (stop.BadImage other error) stops =
    let same = one_read reading files name source (Err error) reads stops.1 in
    absurd (cc same)
read_stops reading files name source reads (stop.TooLong other most) stops =
    let both = of_one (file_at files name) reads stops.2 in
    absurd (omega (arith, both.2.0, both.3, stops.1))
read_stops reading files name source reads (stop.Absent other) stops =
    let there = (of_one (file_at files name) reads reads).1 in
    let gone = stops.1 in
    absurd (cc (there, gone))

module _ {T : Type 0} (reading : List ℕ → Result T ImageError) (Becomes : T → List ℕ → ℕ → Type 0) (Unfits : T → ℕ → ℕ → Type 0) (from to verb : List ℕ)
    (files : Files) (source : T) (old new : Stand) (ended : Status)
    (reads : ReadsAs reading (Some files) from (Ok source)) where
  abbrev Made : Type 0
  Made = MakesFile (Makes reading Becomes Unfits from to) verb old.outside.outside new.outside.outside

  abbrev IsUnfit : Type 0
  IsUnfit = HasUnfit (Unfits source) (Some files) new.outside.outside.files

  same_source : (other : T) → ReadsAs reading (Some files) from (Ok other) → other ≡ source
  same_source other is = let same = one_read reading files from source (Ok other) reads is in cc same

  ends_fit : (outcome : Result ℕ Halt) → Makes reading Becomes Unfits from to (Some files) outcome new.outside.outside.files
      → old.outside.outside.files ≡ Some files → Tells verb outcome old.outside.outside.report new.outside.outside.report ended
      → EndsAs (ByFlag Made IsUnfit) ended
  ends_fit (Ok count) makes told tells =
      prints_as (ByFlag Made IsUnfit) _ status.AllOk _ _ ended tells (λ well.
      made_well (Makes reading Becomes Unfits from to) verb old.outside.outside new.outside.outside (Ok count)
      (subst (λ (f : Option Files). Makes reading Becomes Unfits from to f (Ok count) new.outside.outside.files) (sym told) makes)
      (subst (λ (s : Status). Tells verb (Ok count) old.outside.outside.report new.outside.outside.report s) well tells))
  ends_fit (Err (halt.Unfit c h)) makes told tells =
      prints_as (ByFlag Made IsUnfit) _ status.SomeRefused _ _ ended tells
      (λ well. ((c, h, subst (λ (t : T). Unfits t c h) (same_source makes.0.0 makes.0.1) makes.0.2), makes.1))
  ends_fit (Err (halt.Stopped cause)) makes told tells =
      prints_as (ByFlag Made IsUnfit) _ (stop_status cause) _ _ ended tells
      (λ well. stop_as (ByFlag Made IsUnfit) cause (read_stops reading files from source reads cause makes.0))

  -- such a command over a machine
  made_ends : (asked : Form) (spares : List DriveCounts) (ran : RanOver (Some asked) spares old new ended) → old.outside.outside.files ≡ Some files
      → (Runs (DoesForm asked) (world_before ran) (world_after ran) ended → (outcome : Result ℕ Halt)
      × Makes reading Becomes Unfits from to old.outside.outside.files outcome new.outside.outside.files
      × Tells verb outcome old.outside.outside.report new.outside.outside.report ended)
      → EndsByFit Made IsUnfit old new ended
  made_ends asked spares ran told made =
      ends_so (ByFlag Made IsUnfit) (EndsByFit Made IsUnfit old new) ended (λ e. e) (λ e. e) tt ran.shelf_faults.rose ran.sink_faults.rose
      (elim (form_done asked old.board spares old.outside.outside new.board new.outside.outside ended ran.runs) [
        | inl runs ↦ (let does = made runs in
            ends_fit does.0 (subst (λ (f : Option Files). Makes reading Becomes Unfits from to f does.0 new.outside.outside.files) told does.1) told does.2)
        | inr starved ↦ subst (λ (s : Status). EndsAs (ByFlag Made IsUnfit) s) (sym starved) tt
      ])

module _ (spares : List DriveCounts) (old new : Stand) (ended : Status) (files : Files) (told : old.outside.outside.files ≡ Some files) where
  pub fromimd_ends : (imd name : List ℕ) (image : ImdImage) → ReadsAs imd_of (Some files) imd (Ok image)
      → RanOver (Some (form.FromImd imd name)) spares old new ended
      → EndsByFit (MakesFile (MakesFromImd imd name) (codes "fromimd") old.outside.outside new.outside.outside) (HasUnfit (HasNoDisk image) (Some files) new.outside.outside.files) old new ended
  fromimd_ends imd name image reads ran =
      made_ends imd_of IsDiskFile HasNoDisk imd name (codes "fromimd") files image old new ended reads (form.FromImd imd name) spares ran told (λ runs. runs.does.does)

  pub toimd_ends : (name imd : List ℕ) (disk : Disk) → ReadsAs image_of (Some files) name (Ok disk)
      → RanOver (Some (form.ToImd name imd)) spares old new ended
      → EndsByFit (MakesFile (MakesToImd name imd) (codes "toimd") old.outside.outside new.outside.outside) (HasUnfit (HasNoImd disk) (Some files) new.outside.outside.files) old new ended
  toimd_ends name imd disk reads ran =
      made_ends image_of IsImdFile HasNoImd name imd (codes "toimd") files disk old new ended reads (form.ToImd name imd) spares ran told (λ runs. runs.does.does)

  pub remaster_ends : (from to : List ℕ) (disk : Disk) → ReadsAs image_of (Some files) from (Ok disk)
      → RanOver (Some (form.Remaster from to)) spares old new ended
      → EndsByFit (MakesFile (MakesRemaster from to) (codes "remaster") old.outside.outside new.outside.outside) (HasUnfit (HasNoRemaster disk) (Some files) new.outside.outside.files) old new ended
  remaster_ends from to disk reads ran =
      made_ends image_of IsRemasterFile HasNoRemaster from to (codes "remaster") files disk old new ended reads (form.Remaster from to) spares ran told (λ runs. runs.does.does)

-- ---- A survey.

module _ (name : List ℕ) (files : Files) (disk : Disk) (old new : Stand) (ended : Status) (told : old.outside.outside.files ≡ Some files)
    (image : ReadsAs image_of (Some files) name (Ok disk)) where
  abbrev Told : Bool → Type 0
  Told = ByFlag (TellsSurveyOf name old.outside.outside new.outside.outside) ⊥

  survey_fit : (outcome : Result (List SurveyLine) Stop) → SurveysFile old.outside.outside.files name outcome → new.outside.outside.files ≡ old.outside.outside.files
      → TellsSurvey outcome old.outside.outside.report new.outside.outside.report ended → EndsAs Told ended
  survey_fit (Ok lines) surveys same tells =
      prints_as Told _ status.AllOk _ _ ended tells (λ well.
      survey_told name old.outside.outside new.outside.outside (Ok lines) surveys same
      (subst (λ (s : Status). TellsSurvey (Ok lines) old.outside.outside.report new.outside.outside.report s) well tells))
  survey_fit (Err cause) stops same tells =
      prints_as Told _ (stop_status cause) _ _ ended tells
      (λ well. stop_as Told cause (read_stops image_of files name disk image cause (subst (λ (f : Option Files). StopsAt image_of f name cause) told stops)))

pub survey_ends : (name : List ℕ) (spares : List DriveCounts) (old new : Stand) (ended : Status) (files : Files) (disk : Disk)
    → old.outside.outside.files ≡ Some files → ReadsAs image_of (Some files) name (Ok disk) → RanOver (Some (form.Survey name)) spares old new ended
    → EndsWell (TellsSurveyOf name old.outside.outside new.outside.outside) old new ended
survey_ends name spares old new ended files disk told image ran =
    let Holds = Told name files disk old new ended told image in
    ends_so Holds (EndsWell (TellsSurveyOf name old.outside.outside new.outside.outside) old new) ended (λ e. e) absurd tt
    ran.shelf_faults.rose ran.sink_faults.rose
    (elim (form_done (form.Survey name) old.board spares old.outside.outside new.board new.outside.outside ended ran.runs) [
      | inl runs ↦ (let does = runs.does.does in survey_fit name files disk old new ended told image does.0 does.1 does.2 does.3)
      | inr starved ↦ subst (λ (s : Status). EndsAs Holds s) (sym starved) tt
    ])

-- ---- what a verify prints

pub verifies_well : (name : List ℕ) (spares : List DriveCounts) (old new : Board) (before after : Outside) (ended : Status) (files : Files) (disk : Disk)
    (failed : List (Chrn × Look)) → RunsOver (Some (form.Verify name)) old spares before new after ended → IsEndStatus ended
    → before.files ≡ Some files → IsImageOf (Some files) name disk → HadNoFault 0 old new → HadNoStall old new → IsUnmistaken disk
    → AreFailing disk (standard_keys disk) failed → ListsFailing disk (all_told_of failed) before after ended
verifies_well name spares old new before after ended files disk failed over whole told image calm quick unmistaken failing =
    let start = over.start.station in
    let empty = ap (λ (bays : Two Bay). (in_bay bays 0).medium) over.set_up.fresh.bays in
    let quiet = undisturbed_first old new spares start over.last.station over.set_up.starts over.shows calm quick in
    elim (form_done (form.Verify name) old spares before new after ended over) [
      | inl runs ↦
          let tells = verify_tells name (world over.start before.files before.report) (world over.last after.files after.report) runs.course ended files disk failed
          runs.does whole told image empty quiet unmistaken failing in
          record { report = tells.report; status = tells.status }
      | inr starved ↦ absurd (subst IsEndStatus starved whole)
    ]

-- with status 0 nothing failed
none_refused : (refused : Bool) → status.AllOk ≡ whole_status refused → refused ≡ false
none_refused true well = absurd (cc well)
none_refused false well = refl

none_told : (n : ℕ) → status.AllOk ≡ whole_status (nat_le 1 n) → n ≡ 0
none_told n well = let few = leb-false 1 n (none_refused (nat_le 1 n) well) in omega (arith, few)

-- a key that isn't found is listed
told_one : (key : Chrn) (look : Look) → length (all_told_of (unless_found key look)) ≡ length (unless_found key look)
told_one key (Found deleted place) = refl
told_one key look = refl

-- each key that isn't found is listed
told_each : (disk : Disk) (keys : List Chrn) (failed : List (Chrn × Look)) → AreFailing disk keys failed → length (all_told_of failed) ≡ length failed
told_each disk [] failed none = ap (λ (row : List (Chrn × Look)). length (all_told_of row)) none ∙ sym (ap (λ (row : List (Chrn × Look)). length row) none)
told_each disk (key ∷ keys) failed (look, rest, on, is, others) =
    let first = told_one key look in
    let more = told_each disk keys rest others in
    let parted = ap (λ (row : List (Chrn × Code)). length row) (flat_map-append (λ (pair : Chrn × Look). told_of pair.0 pair.1) (unless_found key look) rest) in
    let joined = length-append (all_told_of (unless_found key look)) (all_told_of rest) in
    let both = length-append (unless_found key look) rest in
    let whole = ap (λ (row : List (Chrn × Look)). length (all_told_of row)) is in
    let size = ap (λ (row : List (Chrn × Look)). length row) is in
    omega (arith, first, more, parted, joined, both, whole, size)

pub verifies_all : (name : List ℕ) (spares : List DriveCounts) (old new : Board) (before after : Outside) (files : Files) (disk : Disk)
    (failed : List (Chrn × Look)) → RunsOver (Some (form.Verify name)) old spares before new after status.AllOk
    → before.files ≡ Some files → IsImageOf (Some files) name disk → HadNoFault 0 old new → HadNoStall old new → IsUnmistaken disk
    → AreFailing disk (standard_keys disk) failed → failed ≡ []
verifies_all name spares old new before after files disk failed over told image calm quick unmistaken failing =
    let lists = verifies_well name spares old new before after status.AllOk files disk failed over tt told image calm quick unmistaken failing in
    let none = none_told (length (all_told_of failed)) lists.status in
    let same = told_each disk (standard_keys disk) failed failing in
    nil_from_length failed (omega (arith, none, same))

-- ---- machines that were made and then used, and lines of port accesses: a seek on them ends

-- ---- every call of a machine

made_apart : (made : Board) → IsFreshBoard made → NotBoth (controller_of made)
made_apart made fresh = inl (ap (λ (bus : Bus). is_executing bus.chips.controller.phase) fresh.new.bus)

pub idle_apart : (motors : Motors) (board : Board) → IsIdle motors board → NotBoth (controller_of board)
idle_apart motors board idle = inl (ap is_executing idle.ready.phase)

same_board : (old new : Board) → new ≡ old → NotBoth (controller_of old) → NotBoth (controller_of new)
same_board old new same was = subst (λ (board : Board). NotBoth (controller_of board)) (sym same) was

handled_apart : (bay : ℕ) (old new : Board) → Touches bay old new → NotBoth (controller_of old) → NotBoth (controller_of new)
handled_apart bay old new touches was = goes_apart old new 0 (Goes.Does 0 old new Goes.Stays (Acts.Handles bay new touches)) was

call_apart : (old new : Board) → IsCalled old new → NotBoth (controller_of old) → NotBoth (controller_of new)
call_apart old new (ByInb number value access) was = goes_apart old new _ (input_goes number value old new access) was
call_apart old new (ByOutb number value access) was = goes_apart old new _ (output_goes number value old new access) was
call_apart old new (ByWait steps runs) was = goes_apart old new steps (wait_goes steps old new runs) was
call_apart old new (ByWaitIrq most set waits) was = goes_apart old new _ (waits_goes most set old new waits) was
call_apart old new (ByTakeIrq is) was = same_board _ new is was
call_apart old new (ByRamSet address value is) was = same_board _ new is was
call_apart old new (ByInsert bay medium small touches becomes) was = handled_apart bay old new touches was
call_apart old new (ByRefusal bay small touches becomes) was = handled_apart bay old new touches was
call_apart old new (ByEject bay small touches becomes) was = handled_apart bay old new touches was
call_apart old new (ByExchange bay drive small empty touches follows) was = handled_apart bay old new touches was

calls_apart : (calls : ℕ) (old new : Board) → AreCalled calls old new → NotBoth (controller_of old) → NotBoth (controller_of new)
unfolding AreCalled
calls_apart zero old new same was = same_board old new same was
calls_apart (suc calls) old new (between, before, call) was = call_apart between new call (calls_apart calls old between before was)

pub used_apart : (board : Board) → IsUsed board → NotBoth (controller_of board)
used_apart board used = calls_apart used.calls used.made board used.called (made_apart used.made used.fresh)

-- ---- a seek

idle_while : (board : Board) → NotBoth (controller_of board) → seeks board → is_executing (controller_of board).phase ≡ false
idle_while board (inl idle) runs = idle
idle_while board (inr none) runs = absurd (false≢true (sym none ∙ runs))

pub used_seek_ends : (old new : Board) (n : ℕ) → IsUsed old → Goes old n new → seeks old → pulses_left old ≤ n → Meets RunsNoSeek (pulses_left old) old n new
used_seek_ends old new n used goes runs many = seek_ends old new n goes (idle_while old (used_apart old used) runs) runs many

pub used_seek_in_time : (old new : Board) (n : ℕ) → IsUsed old → IsInRange old → Goes old n new → seeks old → 256 ≤ n → Meets RunsNoSeek 256 old n new
used_seek_in_time old new n used range goes runs many = seek_ends_in_time old new n goes range (idle_while old (used_apart old used) runs) runs many

recalibrate_runs : (seeking : Seeking) → IsSomeAnd seeking.seek (λ s. (pulses : ℕ) × (s.motion ≡ Outward pulses)) → is_seeking seeking ≡ true
recalibrate_runs seeking is = by_seek seeking.seek is
  where
    by_seek : (seek : Option Seek) → IsSomeAnd seek (λ s. (pulses : ℕ) × (s.motion ≡ Outward pulses)) → is_seeking (record seeking { seek = seek }) ≡ true
    by_seek None none = absurd none
    by_seek (Some seek) (pulses, moves) = ap (λ (motion : Motion). not (has_ended motion)) moves

pub used_recalibrate : (old new : Board) (n : ℕ) → IsUsed old → IsInRange old → Goes old n new → Recalibrates old → 80 ≤ n → Meets RunsNoSeek 80 old n new
used_recalibrate old new n used range goes is many =
    let few = recalibrate_left old range is in
    meets_within RunsNoSeek (pulses_left old) 80 n old new few
    (used_seek_ends old new n used goes (recalibrate_runs (controller_of old).seeks is) (omega arith))

-- ---- lines of port accesses

same_bench : (old new : Bench) → new ≡ old → NotBoth (controller_of old.board) → NotBoth (controller_of new.board)
same_bench old new same was = subst (λ (bench : Bench). NotBoth (controller_of bench.board)) (sym same) was

inserts_apart : (old new : Bench) (bay : ℕ) (name : List ℕ) (said : LineAnswer) (refusal : Option Reason)
    → MatchOption refusal ((said ≡ answer.Done) × LoadsMedium bay name old new) (λ cause. IsRefused cause old said new)
    → NotBoth (controller_of old.board) → NotBoth (controller_of new.board)
inserts_apart old new bay name said None (done, loads) was = handled_apart bay old.board new.board loads.touches was
inserts_apart old new bay name said (Some cause) refused was = same_bench old new refused.same was

ejects_apart : (old new : Bench) (bay : ℕ) (said : LineAnswer) (refusal : Option Reason)
    → MatchOption refusal ((said ≡ answer.Done) × StoresMedium bay old new) (λ cause. IsRefused cause old said new)
    → NotBoth (controller_of old.board) → NotBoth (controller_of new.board)
ejects_apart old new bay said None (done, stores) was = handled_apart bay old.board new.board stores.takes.touches was
ejects_apart old new bay said (Some cause) refused was = same_bench old new refused.same was

line_apart : (old new : Bench) (asked : PortLine) (said : LineAnswer) → DoesLine asked old said new → NotBoth (controller_of old.board)
    → NotBoth (controller_of new.board)
line_apart old new (port.In number) said (reads, keeps) was =
    goes_apart old.board new.board _ (input_goes number reads.value old.board new.board reads.inputs) was
line_apart old new (port.Out number value) said (nothing, writes, keeps) was =
    goes_apart old.board new.board _ (output_goes number value old.board new.board writes) was
line_apart old new (port.Wait steps) said (nothing, runs, keeps) was = goes_apart old.board new.board steps (wait_goes steps old.board new.board runs) was
line_apart old new port.Irq said (latch, is, keeps) was = same_board _ new.board is was
line_apart old new (port.Insert bay name) said does was = inserts_apart old new bay name said (insert_refusal old.names bay) does was
line_apart old new (port.Eject bay) said does was = ejects_apart old new bay said (eject_refusal old.names bay) does was

-- a seek that runs before a line ends in time
seeks_in : (old mid new : Bench) (course : List Taken) → NotBoth (controller_of old.board) → PortRun old course mid → EndInTime old course new
    → SeeksEnd old.board course new.board
seeks_in old mid new [] apart run ends = tt
seeks_in old mid new (taken ∷ later) apart (does, run) (finishes, ends) = (
  λ many runs. finishes.seek many (idle_while old.board apart runs) runs,
  seeks_in taken.after mid new later (line_apart old taken.after taken.asked taken.answer does apart) run ends,
)

-- ---- a run of port accesses

-- the lines of a course were done
abbrev WasRun : Bench → List Taken → Type 0
WasRun old course = (mid : Bench) × PortRun old course mid

run_more : (old mid : Bench) (course : List Taken) (taken : Taken) → PortRun old course mid → DoesLine taken.asked mid taken.answer taken.after
    → PortRun old (course ++ taken ∷ []) taken.after
run_more old mid [] taken run does = (subst (λ (b : Bench). DoesLine taken.asked b taken.answer taken.after) run does, refl)
run_more old mid (first ∷ later) taken run does = (run.0, run_more first.after mid later taken run.1 does)

lines_run : (old new : World) (lines : List PortLine) (course : List Taken) (ended : Status) → PlaysLines lines old course new ended → WasRun old.bench course
lines_run old new lines course ended (Played is) = (is.mid, is.run)
lines_run old new lines course ended (Stopped is) = (is.mid, is.run)
lines_run old new lines course ended (BrokenOff is) = (
  is.last.after,
  subst (λ (c : List Taken). PortRun old.bench c is.last.after) (sym is.course_is) (run_more old.bench is.mid is.before is.last is.run is.does),
)
lines_run old new lines course ended (EndStopped is) = (is.mid, is.run)

none_run : (old : Bench) (course : List Taken) → course ≡ [] → WasRun old course
none_run old course nothing = subst (λ (c : List Taken). WasRun old c) (sym nothing) (old, refl)

parsed_run : (old new : World) (parsed : Result (List PortLine) ℕ) (course : List Taken) (ended : Status) → PlaysParsed parsed old course new ended
    → WasRun old.bench course
parsed_run old new (Ok lines) course ended plays = lines_run old new lines course ended plays
parsed_run old new (Err bad) course ended alone = none_run old.bench course alone.nothing

plays_run : (old new : World) (file : List ℕ) (course : List Taken) (ended : Status) → Plays file old course new ended → WasRun old.bench course
plays_run old new file course ended (There there) = parsed_run old new (ports_of there.text) course ended there.plays
plays_run old new file course ended (Missing absent alone) = none_run old.bench course alone.nothing
plays_run old new file course ended (TooLong longer alone) = none_run old.bench course alone.nothing
plays_run old new file course ended (Faulty idle) = none_run old.bench course idle.nothing
plays_run old new file course ended (Starved idle) = none_run old.bench course idle.nothing

pub ports_seeks : (file : List ℕ) (words : List (List ℕ)) (spares : List DriveCounts) (old new : Stand) (ended : Status)
    (named : ports_file_of words ≡ Some file) → IsFreshBoard old.board → (done : Performed words spares old new ended)
    → SeeksEnd old.board (done.does.ports file named).1.course new.board
ports_seeks file words spares old new ended named fresh done =
    let ran = done.does.ports file named in
    let first = ports_world old.board no_names old.outside.outside in
    let last = ports_world new.board ran.0 new.outside.outside in
    let run = plays_run first last file ran.1.course ended ran.1.plays in
    seeks_in first.bench run.0 last.bench ran.1.course (made_apart old.board fresh) run.1 ran.1.ends
