-- What a copy stores.
use Rattle.std.proofs.Common.{◌≡◌, inl, inr, ℕ, List, Option, Some, sym, subst, ◌≢◌, ◌≤◌, All, [], None, arith, ◌+◌, length, ap}
use Rattle.laws_program.proofs.Common.{Files, Chrn, Disk, Counters, DriveCounts, key_of, Taken, IsImageOf, StationState, Board, ShowsStation, Starts, Outside, world, RunsOver, IsSure, StoresCopy, HaveSameSector, fresh_memory, HadNoFault, IsReadSure, HasSomeField, StoresCopyAsRead, file_at, sectors_at, Rate, R250, R500, Status, IsRegularDisk, logged_keys, LogLine, IsLogFound, IsFlatFile, Runs, Form, DoesForm, Stand, RanOver, StoresFormatted, StoresDisk, StoresFlatOf, BeginsSound, EndsWellOrOutside, HasKey, IsReadable, StoresSameSectors, StoresSameAndLog, StoresRestAndLog, TakesKeys, format_complete, copy_complete, verify_complete, import_complete, export_complete, new_rescue_complete, IsSound, EndsWell, ListsFailing, StoresImported, StoresExported, one_image, StoresFlatAsRead, used_within, Two, in_bay, words_at, Request, turn_of, Bay, IsFresh, course_port_accesses, course_time, port_accesses_of, time_of, World, DoesOrStarves, AsAsked, StarvesWords, RequestCosts, copy_cost, copy_time, copy_port_accesses, export_cost, export_time, export_port_accesses, format_cost, further_rescue_cost, further_rescue_port_accesses, further_rescue_time, whole_format_time, whole_format_port_accesses, import_cost, import_time, import_port_accesses, port_accesses_at, rescue_cost, rescue_time, rescue_port_accesses, times_at, verify_cost, verify_time, verify_port_accesses, HasTurns, CostsRun}
use Rattle.laws_commands.specs.Targets.{HoldsTarget}
use Rattle.laws_commands.proofs.Verified.{key_is}
use Rattle.laws_commands.proofs.CopyRun.{copy_stores, format_stores}
use Rattle.laws_commands.proofs.RescueTargets.{sectors_target, further_rescue_complete}
use Rattle.laws_program.proofs.OfForms.{form_well, faultless_first, faultless_second, form_done, world_before, world_after, nothing_left, ByFlag, ends_so}
use Rattle.laws_commands.specs.FlatComplete.{IsWholeDisk}
use Rattle.laws_commands.proofs.ImportRun.{import_stores}
use Rattle.laws_commands.proofs.ExportRun.{export_stores}
use Rattle.laws_commands.proofs.CommandTimes.{copy_most, export_most, format_most, imports_most, verify_most}
use Rattle.laws_commands.proofs.RequestTimes.{AreCharged, port_accesses_charged, port_access_sum, time_sum, times_charged}
use Rattle.laws_commands.proofs.RescueTimes.{further_most, rescue_most}
use Rattle.laws_commands.proofs.CommandEnds.{IsSum, idle_cost}
use Rattle.laws_program.proofs.FormTimes.{machine_lasts, machine_uses}
use Rattle.flop_base.specs.declared.answers.Status.TheVariants as status
use Rattle.floppy_words.specs.declared.form.Form.TheVariants as form

pub sure_read : (disk : Disk) (old new : Board) (spares : List DriveCounts) (start last : StationState) → Starts old spares start → ShowsStation new last
    → IsReadSure disk old new → IsSure disk start.counters last.counters
sure_read disk old new spares start last starts shows sure = elim sure.drive [
  | inl calm ↦ (sure.regular, inl (faultless_first old new spares start last starts shows calm))
  | inr lone ↦ (sure.regular, inr lone)
]

-- what a copy stores, as the law says it: fields of the disk that was read, and its sectors if the reads are sure
copy_of : (sure : Type 0) (disk : Disk) (to : List ℕ) (old new : Counters) (course : List Taken) (told after : Option Files)
    → (sure → IsSure disk old new) → StoresCopy disk to old told course new after → StoresCopyAsRead sure disk to told after
copy_of sure disk to old new course told after safe stores = record {
  copied = stores.copied;
  valid = stores.valid;
  protected = stores.protected;
  cylinders = stores.cylinders;
  heads = stores.heads;
  rate = stores.rate;
  words_per_track = stores.words_per_track;
  regular = stores.regular;
  laid = stores.laid;
  laid_fields = stores.laid_fields;
  fields = λ key standard.
      let given = stores.sectors key.c key.h key.r standard.track standard.sector.0 standard.sector.1 in
      let on = given.4 in
      let found = on.content in
      let some : HasSomeField disk stores.copied (key_of key.c key.h key.r) = (given.1, given.2, given.6, (given.0, found.0, on.address, found.1, found.2)) in
      subst (λ (k : Chrn). HasSomeField disk stores.copied k) (sym (key_is key standard.size)) some;
  sectors = λ is key standard.
      let given = stores.sectors key.c key.h key.r standard.track standard.sector.0 standard.sector.1 in
      let on = given.4 in
      let found = on.content in
      let same : HaveSameSector disk stores.copied (key_of key.c key.h key.r) =
      (given.1, given.2, given.5 (safe is), (given.0, found.0, on.address, found.1, found.2)) in
      subst (λ (k : Chrn). HaveSameSector disk stores.copied k) (sym (key_is key standard.size)) same;
  files = stores.files;
}

pub copies_well : (from to : List ℕ) (spares : List DriveCounts) (old new : Board) (before after : Outside) (files : Files) (disk : Disk)
    → RunsOver (Some (form.Copy from to)) old spares before new after status.AllOk → before.files ≡ Some files → IsImageOf (Some files) from disk
    → HadNoFault 1 old new → StoresCopyAsRead (IsReadSure disk old new) disk to (Some files) after.files
copies_well from to spares old new before after files disk over told image calm =
    let runs = form_well (form.Copy from to) old spares before new after over in
    let start = over.start.station in
    let last = over.last.station in
    copy_of (IsReadSure disk old new) disk to start.counters last.counters runs.course (Some files) after.files
    (sure_read disk old new spares start last over.set_up.starts over.shows)
    (copy_stores from to (world over.start before.files before.report) (world over.last after.files after.report) runs.course files disk runs.does told image
    (fresh_memory start over.set_up.fresh) (faultless_second old new spares start last over.set_up.starts over.shows calm))

-- the stored copy is a disk that a rescue may go on with
pub copy_target : (from to : List ℕ) (files : Files) (after : Option Files) (disk : Disk) (old new : Board)
    (stores : StoresCopyAsRead (IsReadSure disk old new) disk to (Some files) after) → IsImageOf (Some files) from disk
    → HoldsTarget to disk stores.copied after
copy_target from to files after disk old new stores image =
    sectors_target from to disk stores.copied files after image stores.valid stores.regular stores.protected stores.laid_fields stores.cylinders stores.heads
    stores.rate (λ key standard. let some = stores.fields key standard in (some.0, some.1, some.3)) stores.files

-- ---- how the subcommands (forms) on whole disks end where nothing can go wrong

module _ {asked : Form} {spares : List DriveCounts} {old new : Stand} {ended : Status} (ran : RanOver (Some asked) spares old new ended) where
  begins : IsSound old.board spares → BeginsSound (world_before ran)
  begins sound = record {
    fresh = ran.runs.set_up.fresh;
    sound = nothing_left old.board spares ran.runs.start.station ran.runs.set_up.fresh ran.runs.set_up.starts sound;
  }

  ends_by : {Inner Holds : Type 0} → (Inner → Holds) → (Runs (DoesForm asked) (world_before ran) (world_after ran) ended → EndsWellOrOutside Inner ended)
      → EndsWell Holds old new ended
  ends_by {Inner = Inner} {Holds = Holds} means complete =
      elim (form_done asked old.board spares old.outside.outside new.board new.outside.outside ended ran.runs) [
        | inl runs ↦ ends_so (ByFlag Inner ⊥) (EndsWell Holds old new) ended means (λ e. e) tt ran.shelf_faults.rose ran.sink_faults.rose (complete runs)
        | inr starved ↦ subst (λ (s : Status). EndsWell Holds old new s) (sym starved) tt
      ]

pub format_ends : (name : List ℕ) (count : ℕ) (spares : List DriveCounts) (old new : Stand) (ended : Status) → 1 ≤ count → count ≤ 80
    → RanOver (Some (form.Format name count)) spares old new ended → IsSound old.board spares
    → EndsWell (StoresFormatted R500 name count old.outside.outside.files new.outside.outside.files) old new ended
format_ends name count spares old new ended least most ran sound =
    ends_by ran (λ is. is) (format_complete R500 name count (world_before ran) (world_after ran) ended least most (begins ran sound))

pub format_dd_ends : (name : List ℕ) (count : ℕ) (spares : List DriveCounts) (old new : Stand) (ended : Status) → 1 ≤ count → count ≤ 80
    → RanOver (Some (form.FormatDd name count)) spares old new ended → IsSound old.board spares
    → EndsWell (StoresFormatted R250 name count old.outside.outside.files new.outside.outside.files) old new ended
format_dd_ends name count spares old new ended least most ran sound =
    ends_by ran (λ is. is) (format_complete R250 name count (world_before ran) (world_after ran) ended least most (begins ran sound))

pub copy_ends : (from to : List ℕ) (spares : List DriveCounts) (old new : Stand) (ended : Status) (files : Files) (disk : Disk)
    → RanOver (Some (form.Copy from to)) spares old new ended → IsSound old.board spares → old.outside.outside.files ≡ Some files
    → IsImageOf (Some files) from disk → IsReadable disk → EndsWell (StoresSameSectors disk to (Some files) new.outside.outside.files) old new ended
copy_ends from to spares old new ended files disk ran sound told image readable =
    ends_by ran (λ is. is) (copy_complete from to (world_before ran) (world_after ran) ended files disk (begins ran sound) told image readable)

pub verify_ends : (name : List ℕ) (spares : List DriveCounts) (old new : Stand) (ended : Status) (files : Files) (disk : Disk)
    → RanOver (Some (form.Verify name)) spares old new ended → IsSound old.board spares → old.outside.outside.files ≡ Some files
    → IsImageOf (Some files) name disk → IsReadable disk → EndsWell (ListsFailing disk [] old.outside.outside new.outside.outside status.AllOk) old new ended
verify_ends name spares old new ended files disk ran sound told image readable =
    ends_by ran (λ tells. record { report = tells.report; status = tells.status })
    (verify_complete name (world_before ran) (world_after ran) ended files disk (begins ran sound) told image readable)

pub import_ends : (flat name : List ℕ) (spares : List DriveCounts) (old new : Stand) (ended : Status) (files : Files) (bytes : List ℕ) (at : Rate)
    → RanOver (Some (form.Import flat name)) spares old new ended → IsSound old.board spares → old.outside.outside.files ≡ Some files
    → IsFlatFile (Some files) flat bytes at → EndsWell (StoresDisk bytes name at (Some files) new.outside.outside.files) old new ended
import_ends flat name spares old new ended files bytes at ran sound told is =
    ends_by ran (λ same. same) (import_complete flat name (world_before ran) (world_after ran) ended files bytes at (begins ran sound) told is)

pub export_ends : (name flat : List ℕ) (spares : List DriveCounts) (old new : Stand) (ended : Status) (files : Files) (disk : Disk)
    → RanOver (Some (form.Export name flat)) spares old new ended → IsSound old.board spares → old.outside.outside.files ≡ Some files
    → IsImageOf (Some files) name disk → IsWholeDisk disk → EndsWell (StoresFlatOf disk flat (Some files) new.outside.outside.files) old new ended
export_ends name flat spares old new ended files disk ran sound told image whole =
    ends_by ran (λ is. is) (export_complete name flat (world_before ran) (world_after ran) ended files disk (begins ran sound) told image whole)

pub new_rescue_ends : (from to log : List ℕ) (spares : List DriveCounts) (old new : Stand) (ended : Status) (files : Files) (disk : Disk)
    → RanOver (Some (form.Rescue from to log)) spares old new ended → IsSound old.board spares → old.outside.outside.files ≡ Some files
    → IsImageOf (Some files) from disk → IsReadable disk → file_at files log ≡ None → to ≢ log
    → EndsWell (StoresSameAndLog disk to log (Some files) new.outside.outside.files) old new ended
new_rescue_ends from to log spares old new ended files disk ran sound told image readable absent differ =
    ends_by ran (λ is. is)
    (new_rescue_complete from to log (world_before ran) (world_after ran) ended files disk (begins ran sound) told image readable absent differ)

pub further_rescue_ends : (from to log : List ℕ) (spares : List DriveCounts) (old new : Stand) (ended : Status) (files : Files) (disk target : Disk)
    (lines : List LogLine)
    → RanOver (Some (form.Rescue from to log)) spares old new ended → IsSound old.board spares → old.outside.outside.files ≡ Some files
    → IsImageOf (Some files) from disk → IsImageOf (Some files) to target → IsLogFound (Some files) log (sectors_at disk.rate) (Some lines) → to ≢ log
    → IsRegularDisk disk → All (HasKey disk) (logged_keys lines) → TakesKeys disk.rate (logged_keys lines) target
    → EndsWell (StoresRestAndLog disk target (logged_keys lines) to log (Some files) new.outside.outside.files) old new ended
further_rescue_ends from to log spares old new ended files disk target lines ran sound told image other there differ regular has takes =
    ends_by ran (λ is. is)
    (further_rescue_complete from to log (world_before ran) (world_after ran) ended files disk target lines (begins ran sound) told image other there differ regular has takes)

-- ---- what an import and an export store

pub imports_well : (flat name : List ℕ) (spares : List DriveCounts) (old new : Board) (before after : Outside)
    → RunsOver (Some (form.Import flat name)) old spares before new after status.AllOk → HadNoFault 0 old new
    → StoresImported flat name before.files after.files
imports_well flat name spares old new before after over calm =
    let runs = form_well (form.Import flat name) old spares before new after over in
    import_stores flat name (world over.start before.files before.report) (world over.last after.files after.report) runs.course runs.does
    (fresh_memory over.start.station over.set_up.fresh)
    (faultless_first old new spares over.start.station over.last.station over.set_up.starts over.shows calm)

-- what an export stores, as the law says it, without mention of the reads
as_read : (sure : Type 0) (name flat : List ℕ) (files : Files) (disk : Disk) (old new : Counters) (course : List Taken) (after : Option Files)
    → IsImageOf (Some files) name disk → (sure → IsSure disk old new) → StoresExported name flat old (Some files) course new after
    → StoresFlatAsRead sure disk flat (Some files) after
as_read sure name flat files disk old new course after image known stores =
    subst (λ (d : Disk). (sure → IsSure d old new) → StoresFlatAsRead sure d flat (Some files) after) (one_image files name stores.disk disk stores.image image)
    (λ safe. record {
      bytes = stores.bytes;
      size = stores.size;
      fields = λ c h r sector. let read = stores.sectors c h r sector in (read.deleted, read.field);
      sectors = λ is c h r sector. let read = stores.sectors c h r sector in (read.deleted, read.sector (safe is));
      files = stores.files;
    }) known

pub exports_well : (name flat : List ℕ) (spares : List DriveCounts) (old new : Board) (before after : Outside) (files : Files) (disk : Disk)
    → RunsOver (Some (form.Export name flat)) old spares before new after status.AllOk → before.files ≡ Some files → IsImageOf (Some files) name disk
    → StoresFlatAsRead (IsReadSure disk old new) disk flat (Some files) after.files
exports_well name flat spares old new before after files disk over told image =
    let runs = form_well (form.Export name flat) old spares before new after over in
    let start = over.start.station in
    let last = over.last.station in
    as_read (IsReadSure disk old new) name flat files disk start.counters last.counters runs.course after.files image
    (sure_read disk old new spares start last over.set_up.starts over.shows)
    (subst (λ (f : Option Files). StoresExported name flat start.counters f runs.course last.counters after.files) told
    (export_stores name flat (world over.start before.files before.report) (world over.last after.files after.report) runs.course runs.does
    (fresh_memory start over.set_up.fresh)))

-- ---- what a format stores

pub formats_well : (name : List ℕ) (count : ℕ) (spares : List DriveCounts) (old new : Board) (before after : Outside)
    → RunsOver (Some (form.Format name count)) old spares before new after status.AllOk → HadNoFault 0 old new
    → StoresFormatted R500 name count before.files after.files
formats_well name count spares old new before after over calm =
    let runs = form_well (form.Format name count) old spares before new after over in
    format_stores R500 name count (world over.start before.files before.report) (world over.last after.files after.report) runs.course runs.does
    (faultless_first old new spares over.start.station over.last.station over.set_up.starts over.shows calm)

pub formats_dd_well : (name : List ℕ) (count : ℕ) (spares : List DriveCounts) (old new : Board) (before after : Outside)
    → RunsOver (Some (form.FormatDd name count)) old spares before new after status.AllOk → HadNoFault 0 old new
    → StoresFormatted R250 name count before.files after.files
formats_dd_well name count spares old new before after over calm =
    let runs = form_well (form.FormatDd name count) old spares before new after over in
    format_stores R250 name count (world over.start before.files before.report) (world over.last after.files after.report) runs.course runs.does
    (faultless_first old new spares over.start.station over.last.station over.set_up.starts over.shows calm)

-- ---- how long whole commands over a machine last at most, and how many port accesses they make

-- at first both bays are empty, and three attempts are set
fresh_turns : (limit : Two ℕ) (station : StationState) → IsFresh station → HasTurns limit 3 station
fresh_turns limit station fresh =
    let first = ap (λ (bays : Two Bay). turn_of bays.first.medium) fresh.bays in
    let second = ap (λ (bays : Two Bay). turn_of bays.second.medium) fresh.bays in
    let tries = fresh.tries in
    record { first = omega (arith, first); second = omega (arith, second); attempts = omega (arith, tries) }

-- memory for the arguments ran out before the first request, or the subcommand was done
asked_cost : (one : Request → StationState → ℕ) (sum : StationState → List Taken → ℕ) → IsSum one sum → (most : ℕ) (asked : Form) (old new : World)
    (course : List Taken) (ended : Status) → (DoesForm asked old course new ended → sum old.state.station course ≤ most)
    → DoesOrStarves asked old course new ended → sum old.state.station course ≤ most
asked_cost one sum is most asked old new course ended costs (AsAsked does) = costs does
asked_cost one sum is most asked old new course ended costs (StarvesWords nothing idle) = idle_cost one sum is old.state.station course most nothing

-- ---- What a run costs over its course, and over the machine.

module _ {asked : Form} {spares : List DriveCounts} {old new : Board} {before after : Outside} {ended : Status}
    (over : RunsOver (Some asked) old spares before new after ended) where
  abbrev begun : World
  begun = world over.start before.files before.report

  abbrev done : World
  done = world over.last after.files after.report

  abbrev DoesIt : Type 0
  DoesIt = DoesForm asked begun over.runs.course done ended

  -- over the course it costs at most this, whatever is counted
  abbrev CostsCourse : Two ℕ → Rate → ((ℕ → RequestCosts) → ℕ) → Type 0
  CostsCourse limit rate most =
      (one : Request → StationState → ℕ) (sum : StationState → List Taken → ℕ) → IsSum one sum → (costs : ℕ → RequestCosts)
      → AreCharged one limit rate costs → HasTurns limit 3 over.start.station → DoesIt → sum over.start.station over.runs.course ≤ most costs

  within : (one : Request → StationState → ℕ) (sum : StationState → List Taken → ℕ) → IsSum one sum → (most : ℕ)
      → (DoesIt → sum over.start.station over.runs.course ≤ most) → sum over.start.station over.runs.course ≤ most
  within one sum is most costs = asked_cost one sum is most asked begun done over.runs.course ended costs over.runs.does

  pub run_costs : (limit : Two ℕ) (rate : Rate) (most : (ℕ → RequestCosts) → ℕ) → CostsCourse limit rate most
      → CostsRun (2 + most (λ bay. times_at (in_bay limit bay) rate)) (22 + most (λ bay. port_accesses_at rate)) old new
  run_costs limit rate most costs =
      let has = fresh_turns limit over.start.station over.set_up.fresh in
      let steps = most (λ bay. times_at (in_bay limit bay) rate) in
      let accesses = most (λ bay. port_accesses_at rate) in
      let lasts = machine_lasts (Some asked) spares old new before after ended over in
      let time = within time_of course_time time_sum steps
      (costs time_of course_time time_sum (λ bay. times_at (in_bay limit bay) rate) (times_charged limit rate) has) in
      let uses = within port_accesses_of course_port_accesses port_access_sum accesses
      (costs port_accesses_of course_port_accesses port_access_sum (λ bay. port_accesses_at rate) (port_accesses_charged limit rate) has) in (
        omega (arith, lasts, time),
        used_within (length old.bus.gaps) (length new.bus.gaps) (22 + course_port_accesses over.start.station over.runs.course) (22 + accesses)
            old.bus.taken new.bus.taken (omega (arith, uses)) (machine_uses (Some asked) spares old new before after ended over),
      )

-- ---- The commands.

abbrev limits : ℕ → ℕ → Two ℕ
limits first second = record { first = first; second = second }

module _ (spares : List DriveCounts) (old new : Board) (before after : Outside) (ended : Status) where
  abbrev Over : Form → Type 0
  Over asked = RunsOver (Some asked) old spares before new after ended

  pub format_run : (name : List ℕ) (cylinders : ℕ) → Over (form.Format name cylinders)
      → CostsRun (whole_format_time cylinders R500) (whole_format_port_accesses cylinders R500) old new
  format_run name cylinders over =
      run_costs over (limits (words_at R500) 0) R500 (λ costs. format_cost (costs 0) cylinders R500)
      (λ one sum is costs charged has does.
      format_most one sum is (limits (words_at R500) 0) R500 costs charged name cylinders (omega arith) (begun over)
      (done over) over.runs.course ended has does)

  pub formatdd_run : (name : List ℕ) (cylinders : ℕ) → Over (form.FormatDd name cylinders)
      → CostsRun (whole_format_time cylinders R250) (whole_format_port_accesses cylinders R250) old new
  formatdd_run name cylinders over =
      run_costs over (limits (words_at R250) 0) R250 (λ costs. format_cost (costs 0) cylinders R250)
      (λ one sum is costs charged has does.
      format_most one sum is (limits (words_at R250) 0) R250 costs charged name cylinders (omega arith) (begun over)
      (done over) over.runs.course ended has does)

  module _ (files : Files) (told : before.files ≡ Some files) where
    pub import_run : (file name bytes : List ℕ) (rate : Rate) → Over (form.Import file name) → IsFlatFile (Some files) file bytes rate
        → CostsRun (import_time rate) (import_port_accesses rate) old new
    import_run file name bytes rate over flat =
        run_costs over (limits (words_at rate) 0) rate (λ costs. import_cost (costs 0) rate)
        (λ one sum is costs charged has does.
        imports_most one sum is (limits (words_at rate) 0) rate costs charged (omega arith) name (begun over)
        (done over) over.runs.course ended has file bytes files flat told does)

    module _ (name : List ℕ) (disk : Disk) (image : IsImageOf (Some files) name disk) where
      pub verify_run : Over (form.Verify name) → CostsRun (verify_time disk) (verify_port_accesses disk) old new
      verify_run over =
          run_costs over (limits disk.words_per_track 0) disk.rate (λ costs. verify_cost (costs 0) disk)
          (λ one sum is costs charged has does.
          verify_most one sum is (limits disk.words_per_track 0) disk costs charged (omega arith) name files image (begun over)
          (done over) over.runs.course ended told has does)

      pub copy_run : (to : List ℕ) → Over (form.Copy name to) → CostsRun (copy_time disk) (copy_port_accesses disk) old new
      copy_run to over =
          run_costs over (limits disk.words_per_track (words_at disk.rate)) disk.rate
          (λ costs. copy_cost (costs 0) (costs 1) disk)
          (λ one sum is costs charged has does.
          copy_most one sum is (limits disk.words_per_track (words_at disk.rate)) disk costs charged (omega arith) name files image
          (begun over) (done over) over.runs.course ended told has to (omega arith) does)

      pub export_run : (flat : List ℕ) → Over (form.Export name flat) → CostsRun (export_time disk) (export_port_accesses disk) old new
      export_run flat over =
          run_costs over (limits disk.words_per_track 0) disk.rate
          (λ costs. export_cost (costs 0) disk.rate)
          (λ one sum is costs charged has does.
          export_most one sum is (limits disk.words_per_track 0) disk costs charged (omega arith) name files image
          (begun over) (done over) over.runs.course ended told has flat does)

      pub rescue_run : (to log : List ℕ) → Over (form.Rescue name to log) → file_at files log ≡ None
          → CostsRun (rescue_time disk) (rescue_port_accesses disk) old new
      rescue_run to log over absent =
          run_costs over (limits disk.words_per_track (words_at disk.rate)) disk.rate
          (λ costs. rescue_cost (costs 0) (costs 1) disk)
          (λ one sum is costs charged has does.
          rescue_most one sum is (limits disk.words_per_track (words_at disk.rate)) disk costs charged name to log files (omega arith) (omega arith) image absent
          (begun over) (done over) over.runs.course ended told has does)

      pub further_run : (to log : List ℕ) (target : Disk) (lines : List LogLine) → Over (form.Rescue name to log) → IsImageOf (Some files) to target
          → IsLogFound (Some files) log (sectors_at disk.rate) (Some lines)
          → CostsRun (further_rescue_time disk target (length lines)) (further_rescue_port_accesses disk (length lines)) old new
      further_run to log target lines over other found =
          let limit = limits disk.words_per_track target.words_per_track in
          run_costs over limit disk.rate
          (λ costs. further_rescue_cost (costs 0) (costs 1) disk.rate (length lines))
          (λ one sum is costs charged has does.
          further_most one sum is limit disk costs charged name to log files target lines (omega arith) (omega arith) image other found
          (begun over) (done over) over.runs.course ended told has does)
