-- The commands go to their end when nothing can disturb them, or the outside failed.
use Rattle.std.proofs.Common.{sym, ◌≡◌, ◌≤◌, ℕ, List, [], length, refl, ap, ◌∙◌, subst, inl, Option, Some, arith, false, ◌-◌, Bool, get_or, true≢false, zero, suc, ◌+◌, ◌*◌, ◌∷◌, inr}
use Rattle.laws_commands.proofs.Common.{length-replicate, Files, Rate, Status, Chrn, Disk, HasTrack, Two, in_bay, Counters, user_bytes, key_of, StationState, Bay, IsFresh, bay_of, IsImageOf, blank_of, Taken, World, whole_status, Script, RunsScript, Runs, script_ties, no_reads, one_more, write_request, no_marks, StoresFormatted, IsSure, StoresCopy, TellsFailing, BeginsSound, EndsWellOrOutside, IsReadable, HaveSameSector, StoresSameSectors, sectors_at, blank_request, formats, record_address, track_address, Reply, is_refusal, grown, Request, State, Step, Ends, Says, Asks, Stores, MayStarve, Fails, unless_refused, Part, by_track}
use Rattle.flop_base.specs.Memory.{zeroes}
use Rattle.disk_commands.specs.Format.{format_script, formats_disk}
use Rattle.disk_commands.specs.Verify.{verify_script, tells_failure, verifies_record, verifies_track, reads_disk}
use Rattle.disk_commands.specs.Copy.{copy_script, reads_record, writes_record, copies_track, makes_copy, copies_disk}
use Rattle.laws_commands.proofs.CopyRun.{copy_stores, format_stores}
use Rattle.laws_commands.proofs.VerifyRun.{Tally, verify_tells}
use Rattle.laws_commands.proofs.SectorRequests.{readable_unmistaken, none_failing, ReadsAlone, read_done, IsMaking, AnyDisk, HasRecords, MakesAlone, any_made, blank_made, made_still, format_done, write_done}
use Rattle.laws_commands.proofs.Prepared.{IsBlank}
use Rattle.laws_commands.proofs.Sectors.{few_sectors}
use Rattle.laws_commands.proofs.Verified.{image_ranges, key_is}
use Rattle.std.specs.Prelude.{◌||◌}
use Rattle.laws_commands.proofs.Bays.{IsReadyFor, ready_still, fresh_empty, blank_done, acknowledges_goes, eject_goes, opens_goes}
use Rattle.laws_commands.proofs.Going.{Stage, at, GoesWell, PartGoes, goes_asks, goes_needs, goes_carries, goes_each, goes_tracks, completes}
use Rattle.commands.specs.LastLines.{stopped_text}
use Rattle.commands.specs.Parts.{needs, carries, through, each}
use Rattle.flop_base.specs.declared.answers.Status.TheVariants as status
use Rattle.floppy_jobs.specs.declared.request.Request.TheVariants as request
use Rattle.sector_model.specs.declared.reply.Reply.TheVariants as reply

-- ---- Format.

-- if nothing is left that can go wrong, a format goes to its end, or the outside failed
pub format_complete : (rate : Rate) (name : List ℕ) (count : ℕ) (old new : World) (ended : Status) → 1 ≤ count → count ≤ 80 → BeginsSound old
    → Runs (RunsScript (format_script name count rate)) old new ended → EndsWellOrOutside (StoresFormatted rate name count old.files new.files) ended
unfolding format_script formats_disk
format_complete rate name count old new ended least most begins runs =
    let Making : Unit {0} → Stage → Type 0 = λ none stage. IsMaking 0 rate count AnyDisk stage.state.station in
    let begun = at old.state old.files in
    completes (format_script name count rate) _ old new runs.course ended old.files refl begins
    (goes_carries (λ new. IsBlank 0 rate name count old.state old.files new.state new.files) (blank_request 0 name count rate) _ begun
    (blank_done 0 rate name count begun refl least most (fresh_empty old.state 0 begins.fresh)) (λ one is.
    acknowledges_goes 0 1 (blank_of count rate) refl (λ station value. refl) _ one is.medium (λ two alone.
    goes_tracks Making count 2 (formats 0) tt two (λ c h cylinder head none mid made. λ rest behind.
    goes_carries (λ new. MakesAlone 0 1 rate count (HasRecords (sectors_at rate) c h) mid new) (request.Format 0 c h) rest mid
    (format_done 0 1 rate count c h refl (λ station value. refl) cylinder head AnyDisk mid made)
    (λ new done. behind tt new (any_made 0 rate count _ new.state.station done.made)))
    (blank_made 0 rate count two.state.station is.valid alone.ready) _
    (λ none three made. eject_goes 0 made.disk _ three refl made.medium (λ new. refl)))))
    ((script_ties (format_script name count rate) old runs.course new ended runs.does).undisturbed begins.sound) runs.does (λ done faultless.
    format_stores rate name count old new runs.course done faultless.first)

-- ---- Copy.

-- Bay 0 has the source. In bay 1 a disk of the source's cylinders and rate is being made, and this holds of that disk.
pub record IsCopying (source : Disk) (Also : Disk → Type 0) (stage : Stage) : Type 0 where
  pub first : IsReadyFor 0 source stage.state.station
  pub second : IsMaking 1 source.rate source.cylinders Also stage.state.station

module _ (source : Disk) (readable : IsReadable source) (few_cylinders : source.cylinders ≤ 80) (few_heads : source.heads ≤ 2) (c h : ℕ) (has : HasTrack source c h) where
  abbrev sectors : ℕ
  sectors = sectors_at source.rate

  -- the track was formatted in bay 1
  abbrev IsOnTrack : Stage → Type 0
  IsOnTrack stage = IsCopying source (HasRecords sectors c h) stage

  -- a call changed bay 1 alone
  made_on : (old new : Stage) → IsReadyFor 0 source old.state.station → MakesAlone 1 0 source.rate source.cylinders (HasRecords sectors c h) old new
      → IsOnTrack new
  made_on old new ready alone = record { first = ready_still 0 source old.state.station new.state.station alone.same ready; second = alone.made }

  copy_read_goes : (r : ℕ) (marks : List Bool) (old : Stage) → 1 ≤ r → r ≤ sectors → IsOnTrack old
      → PartGoes (λ now new. IsOnTrack new) (reads_record c h r marks) old
  unfolding reads_record
  copy_read_goes r marks old least most copying rest behind =
      goes_needs (λ new. ReadsAlone source old new) (request.Read 0 (key_of c h r) (record_address r)) _ old
      (read_done source c h r r old readable few_cylinders few_heads has least most least (omega (arith, most, few_sectors source.rate)) copying.first)
      (λ answer new alone. behind _ new (record {
        first = alone.ready;
        second = made_still 1 source.rate source.cylinders (HasRecords sectors c h) (HasRecords sectors c h) old.state.station new.state.station
            (λ disk has. has) (ap (λ (bays : Two Bay). in_bay bays 1) alone.same) copying.second;
      }))

  -- a write of a record goes well, whatever the record's mark is
  write_goes : (marks : List Bool) (r : ℕ) (old : Stage) → 1 ≤ r → r ≤ sectors → IsOnTrack old
      → PartGoes (λ none new. IsOnTrack new) (writes_record marks c h r tt) old
  unfolding writes_record
  write_goes marks r old least most copying rest behind =
      let deleted = get_or marks (r - 1) false in
      goes_carries (λ new. MakesAlone 1 0 source.rate source.cylinders (HasRecords sectors c h) old new)
      (write_request deleted (key_of c h r) (record_address r)) rest old
      (write_done 1 0 source.rate source.cylinders c h r deleted refl (λ station value. refl) has.0
      (omega (arith, has.1, few_heads)) least most old copying.second)
      (λ new alone. behind tt new (made_on old new copying.first alone))

  copied_goes : (old : Stage) → IsCopying source AnyDisk old → PartGoes (λ none new. IsCopying source AnyDisk new) (copies_track sectors c h tt) old
  unfolding copies_track
  copied_goes old copying rest behind =
      goes_carries (λ new. MakesAlone 1 0 source.rate source.cylinders (HasRecords sectors c h) old new) (request.Format 1 c h) _ old
      (format_done 1 0 source.rate source.cylinders c h refl (λ station value. refl) has.0 (omega (arith, has.1, few_heads)) AnyDisk old copying.second)
      (λ one alone.
      goes_each (λ marks new. IsOnTrack new) (reads_record c h) 1 sectors no_marks one
      (λ r least below marks mid there. copy_read_goes r marks mid least (omega arith) there)
      (made_on old one copying.first alone) _ (λ marks two there.
      goes_each (λ none new. IsOnTrack new) (writes_record marks c h) 1 sectors tt two
      (λ r least below none mid is. write_goes marks r mid least (omega arith) is) there rest
      (λ none three is. behind tt three (record { first = is.first; second = any_made 1 source.rate source.cylinders _ three.state.station is.second }))))

length-zeroes : (count : ℕ) → length (zeroes count) ≡ count
unfolding zeroes
length-zeroes count = length-replicate count 0

pub fresh_memory : (station : StationState) → IsFresh station → length station.memory ≡ user_bytes
fresh_memory station fresh = ap (λ (m : List ℕ). length m) fresh.memory ∙ length-zeroes user_bytes

-- if the reads are sure, the sectors that they gave are those of the disk
same_sectors : (disk : Disk) (to : List ℕ) (old new : Counters) (course : List Taken) (told after : Option Files) → IsSure disk old new
    → StoresCopy disk to old told course new after → StoresSameSectors disk to told after
same_sectors disk to old new course told after sure stores = record {
  copied = stores.copied;
  valid = stores.valid;
  protected = stores.protected;
  regular = stores.regular;
  laid = stores.laid_fields;
  cylinders = stores.cylinders;
  heads = stores.heads;
  rate = stores.rate;
  sectors = λ key standard.
      let given = stores.sectors key.c key.h key.r standard.track standard.sector.0 standard.sector.1 in
      let on = given.4 in
      let found = on.content in
      let same : HaveSameSector disk stores.copied (key_of key.c key.h key.r) = (given.1, given.2, given.5 sure, (given.0, found.0, on.address, found.1, found.2)) in
      subst (λ (k : Chrn). HaveSameSector disk stores.copied k) (sym (key_is key standard.size)) same;
  files = stores.files;
}

-- if nothing is left that can go wrong, a copy of a readable disk goes to its end, or the outside failed
pub copy_complete : (from to : List ℕ) (old new : World) (ended : Status) (files : Files) (disk : Disk) → BeginsSound old → old.files ≡ Some files
    → IsImageOf (Some files) from disk → IsReadable disk → Runs (RunsScript (copy_script from to)) old new ended
    → EndsWellOrOutside (StoresSameSectors disk to (Some files) new.files) ended
unfolding copy_script makes_copy copies_disk
copy_complete from to old new ended files disk begins told image readable runs =
    let rate = disk.rate in
    let count = disk.cylinders in
    let blank = blank_of count rate in
    let ranges = image_ranges files from disk image in
    completes (copy_script from to) _ old new runs.course ended (Some files) told begins
    (opens_goes from files disk _ old.state image begins.fresh (λ one put.
    goes_carries (λ new. IsBlank 1 rate to count one.state one.files new.state new.files) (blank_request 1 to count rate) _ one
    (blank_done 1 rate to count one refl ranges.2 ranges.0 put.empty) (λ two is.
    let medium = ap (λ (s : StationState). (bay_of s 0).medium) is.becomes ∙ put.medium in
    acknowledges_goes 0 1 disk refl (λ station value. refl) _ two medium (λ three first.
    let second = ap (λ (b : Bay). b.medium) first.same ∙ is.medium in
    acknowledges_goes 1 0 blank refl (λ station value. refl) _ three second (λ four ready.
    let copying : IsCopying disk AnyDisk four = record {
      first = ready_still 0 disk three.state.station four.state.station ready.same first.ready;
      second = blank_made 1 rate count four.state.station is.valid ready.ready;
    } in
    goes_tracks (λ none new. IsCopying disk AnyDisk new) count disk.heads (copies_track (sectors_at rate)) tt four
    (λ c h cylinder head none mid there. copied_goes disk readable ranges.0 ranges.1 c h (cylinder, head) mid there) copying _
    (λ none five there. eject_goes 1 there.second.disk _ five refl there.second.medium (λ new. refl)))))))
    ((script_ties (copy_script from to) old runs.course new ended runs.does).undisturbed begins.sound) runs.does (λ done faultless.
    same_sectors disk to old.state.station.counters new.state.station.counters runs.course (Some files) new.files (readable.regular, inl faultless.first)
    (copy_stores from to old new runs.course files disk done told image (fresh_memory old.state.station begins.fresh) faultless.second))

-- ---- Verify.

module _ (disk : Disk) (readable : IsReadable disk) (few_cylinders : disk.cylinders ≤ 80) (few_heads : disk.heads ≤ 2) where
  -- no read was refused so far
  record IsReading (refused : Bool) (stage : Stage) : Type 0 where
    pub ready : IsReadyFor 0 disk stage.state.station
    pub fine : refused ≡ false

  tells_none : (key : Chrn) (answer : Reply) (rest : Unit {0} → Script) (old : Stage) → is_refusal answer ≡ false → GoesWell (rest tt) old
      → GoesWell (tells_failure key answer rest) old
  unfolding tells_failure
  tells_none key (reply.Refused cause) rest old fine goes = absurd (true≢false fine)
  tells_none key _ rest old fine goes = goes

  none_more : (before now : Bool) → before ≡ false → now ≡ false → (before || now) ≡ false
  none_more before now e f = rw (e, f) refl

  verified_goes : (c h r : ℕ) (tally : Tally) (old : Stage) → HasTrack disk c h → 1 ≤ r → r ≤ sectors_at disk.rate → IsReading tally.refused old
      → PartGoes (λ now new. IsReading now.refused new) (verifies_record c h r tally) old
  unfolding verifies_record
  verified_goes c h r tally old has least most reading rest behind =
      goes_asks (λ new. ReadsAlone disk old new) (request.Read 0 (key_of c h r) track_address) _ old
      (read_done disk c h r 1 old readable few_cylinders few_heads has least most (omega arith) (omega arith) reading.ready)
      (λ answer new fine alone.
      tells_none (key_of c h r) answer _ new fine
      (behind (one_more tally (is_refusal answer)) new (record { ready = alone.ready; fine = none_more tally.refused (is_refusal answer) reading.fine fine })))

-- if nothing is left that can go wrong, a verify of a readable disk finds each key and goes to its end, or the outside
-- failed
pub verify_complete : (name : List ℕ) (old new : World) (ended : Status) (files : Files) (disk : Disk) → BeginsSound old → old.files ≡ Some files
    → IsImageOf (Some files) name disk → IsReadable disk → Runs (RunsScript (verify_script name)) old new ended
    → EndsWellOrOutside (TellsFailing disk [] old new status.AllOk) ended
unfolding verify_script reads_disk verifies_track
verify_complete name old new ended files disk begins told image readable runs =
    let ranges = image_ranges files name disk image in
    let empty = ap (λ (bays : Two Bay). (in_bay bays 0).medium) begins.fresh.bays in
    completes (verify_script name) _ old new runs.course ended (Some files) told begins
    (opens_goes name files disk _ old.state image begins.fresh (λ one put.
    acknowledges_goes 0 1 disk refl (λ station value. refl) _ one put.medium (λ two alone.
    goes_tracks (λ now new. IsReading disk readable ranges.0 ranges.1 now.refused new) disk.cylinders disk.heads
    (verifies_track (sectors_at disk.rate)) no_reads two (λ c h cylinder head tally mid there.
    goes_each (λ now new. IsReading disk readable ranges.0 ranges.1 now.refused new) (verifies_record c h) 1 (sectors_at disk.rate) tally mid
    (λ r least below now one is.
    verified_goes disk readable ranges.0 ranges.1 c h r now one (cylinder, head) least (omega (arith, below)) is) there)
    (record { ready = alone.ready; fine = refl }) _
    (λ tally three there. ap whole_status there.fine))))
    ((script_ties (verify_script name) old runs.course new ended runs.does).undisturbed begins.sound) runs.does (λ done faultless.
    verify_tells name old new runs.course status.AllOk files disk [] done tt told image empty faultless.calm (readable_unmistaken disk readable)
    (none_failing disk readable))

-- ---- what the runs of a script cost at most. The cost of a run is the sum of what its requests cost

-- the sum over a course of what each request costs, by the station that it finds
pub record IsSum (one : Request → StationState → ℕ) (sum : StationState → List Taken → ℕ) : Type 0 where
  pub none : (station : StationState) → sum station [] ≡ 0
  pub more : (station : StationState) (taken : Taken) (later : List Taken)
      → sum station (taken ∷ later) ≡ one taken.asked station + sum taken.after.station later

-- each run of the script from such a station costs at most this
abbrev pub Costs : (StationState → List Taken → ℕ) → (StationState → Type 0) → ℕ → Script → Type 0
Costs sum From most script =
    (old new : World) (course : List Taken) (ended : Status) → From old.state.station → RunsScript script old course new ended
    → sum old.state.station course ≤ most

-- the same where the files are told
abbrev pub CostsTold : (StationState → List Taken → ℕ) → Files → (StationState → Type 0) → ℕ → Script → Type 0
CostsTold sum files From most script =
    (old new : World) (course : List Taken) (ended : Status) → old.files ≡ Some files → From old.state.station → RunsScript script old course new ended
    → sum old.state.station course ≤ most

-- the part costs at most this, whatever comes after it; and it leaves a station such as what comes after it is given
abbrev pub PartCosts : {Found : Type 0} → (StationState → List Taken → ℕ) → (StationState → Type 0) → (StationState → Type 0) → ℕ → Part Found → Type 0
PartCosts {Found = Found} sum From To price part =
    (n : ℕ) (rest : Found → Script) → ((found : Found) → Costs sum To n (rest found)) → Costs sum From (price + n) (part rest)

-- a request leads from one such station to another, unless it is refused
abbrev pub Leads : (StationState → Type 0) → Request → (StationState → Type 0) → Type 0
Leads From asked To =
    (old new : State) (told after : Option Files) (answer : Reply) → From old.station → Step asked old told answer new after
    → is_refusal answer ≡ false → To new.station

module _ (one : Request → StationState → ℕ) (sum : StationState → List Taken → ℕ) (is : IsSum one sum) where
  pub idle_cost : (station : StationState) (course : List Taken) (most : ℕ) → course ≡ [] → sum station course ≤ most
  idle_cost station course most empty = grind arith

  pub more_cost : (From To : StationState → Type 0) (few most : ℕ) (script : Script) → few ≤ most → ((s : StationState) → To s → From s)
      → Costs sum From few script → Costs sum To most script
  more_cost From To few most script less stronger costs old new course ended holds runs = grind arith

  -- ---- Requests.

  pub ends_cost : (From : StationState → Type 0) (most : ℕ) (lines : List (List ℕ)) (wanted : Status) → Costs sum From most (Ends lines wanted)
  ends_cost From most lines wanted old new [] ended holds runs = idle_cost old.state.station [] most refl
  ends_cost From most lines wanted old new (taken ∷ later) ended holds runs = absurd runs

  pub stores_cost : (From : StationState → Type 0) (most : ℕ) (name bytes line : List ℕ) (wanted : Status) → Costs sum From most (Stores name bytes line wanted)
  stores_cost From most name bytes line wanted old new [] ended holds runs = idle_cost old.state.station [] most refl
  stores_cost From most name bytes line wanted old new (taken ∷ later) ended holds runs = absurd runs

  pub fails_cost : (From : StationState → Type 0) (most : ℕ) (cause : Status) → Costs sum From most (Fails cause)
  fails_cost From most cause old new [] ended holds runs = idle_cost old.state.station [] most refl
  fails_cost From most cause old new (taken ∷ later) ended holds runs = absurd runs

  pub says_cost : (From : StationState → Type 0) (most : ℕ) (line : List ℕ) (rest : Script) → Costs sum From most rest → Costs sum From most (Says line rest)
  says_cost From most line rest costs old new course ended holds (inl runs) =
      costs (record old { report = grown old.report (line ∷ []) }) new course ended holds runs
  says_cost From most line rest costs old new course ended holds (inr cut) = idle_cost old.state.station course most cut.0

  pub starve_cost : (From : StationState → Type 0) (most : ℕ) (rest : Script) → Costs sum From most rest → Costs sum From most (MayStarve rest)
  starve_cost From most rest costs old new course ended holds (inl runs) = costs old new course ended holds runs
  starve_cost From most rest costs old new course ended holds (inr none) = idle_cost old.state.station course most none.0

  -- a request, where what follows may go by its answer
  pub asks_cost : (From : StationState → Type 0) (To : Reply → StationState → Type 0) (price n : ℕ) (asked : Request) (rest : Reply → State → Script)
      → ((s : StationState) → From s → one asked s ≤ price)
      → ((old new : State) (told after : Option Files) (answer : Reply) → From old.station → Step asked old told answer new after → To answer new.station)
      → ((answer : Reply) (after : State) → Costs sum (To answer) n (rest answer after)) → Costs sum From (price + n) (Asks asked rest)
  asks_cost From To price n asked rest least leads later old new [] ended holds runs = idle_cost old.state.station [] (price + n) refl
  asks_cost From To price n asked rest least leads later old new (taken ∷ more) ended holds runs =
      let first = is.more old.state.station taken more in
      let same = ap (λ (q : Request). one q old.state.station) runs.0 in
      let few = least old.state.station holds in
      let left = later taken.answer taken.after (record old { state = taken.after; files = runs.1 }) new more ended
      (leads old.state taken.after old.files runs.1 taken.answer holds runs.2) runs.3 in
      omega (arith, first, same, few, left)

  -- what follows a request is run only if the request wasn't refused
  pub unless_run : (n : ℕ) (asked : Request) (answer : Reply) (later : Script) (old new : World) (course : List Taken) (ended : Status)
      → (is_refusal answer ≡ false → RunsScript later old course new ended → sum old.state.station course ≤ n)
      → RunsScript (unless_refused asked answer later) old course new ended → sum old.state.station course ≤ n
  unless_run n asked (reply.Refused cause) later old new course ended few runs =
      ends_cost (λ s. Unit {0}) n (stopped_text asked cause ∷ []) status.SomeRefused old new course ended tt runs
  unless_run n asked _ later old new course ended few runs = few refl runs

  pub needs_cost : (From To : StationState → Type 0) (price n : ℕ) (asked : Request) (rest : Reply → State → Script)
      → ((s : StationState) → From s → one asked s ≤ price) → Leads From asked To
      → ((answer : Reply) (after : State) → Costs sum To n (rest answer after)) → Costs sum From (price + n) (needs asked rest)
  unfolding needs
  needs_cost From To price n asked rest least leads later = grind (arith, asks_cost, unless_run)

  pub carries_cost : (From To : StationState → Type 0) (price : ℕ) (asked : Request) → ((s : StationState) → From s → one asked s ≤ price)
      → Leads From asked To → PartCosts sum From To price (carries asked)
  unfolding carries
  carries_cost From To price asked least leads n rest later =
      needs_cost From To price n asked (λ answer after. rest tt) least leads (λ answer after. later tt)

  -- ---- Loops.

  pub through_cost : {Thing Found : Type 0} (P : StationState → Type 0) (price : ℕ) (part : Thing → Found → Part Found)
      → ((thing : Thing) (found : Found) → PartCosts sum P P price (part thing found))
      → (things : List Thing) (count : ℕ) → length things ≡ count → (found : Found) → PartCosts sum P P (count * price) (through part things found)
  unfolding through
  through_cost P price part costs [] count same found n rest later =
      more_cost P P n (count * price + n) (rest found) (omega arith) (λ s holds. holds) (later found)
  through_cost P price part costs (thing ∷ things) zero same found n rest later = absurd (omega (arith, same))
  through_cost P price part costs (thing ∷ things) (suc count) same found n rest later =
      more_cost P P (price + (count * price + n)) (suc count * price + n) _ (omega arith) (λ s holds. holds)
      (costs thing found (count * price + n) (λ now. through part things now rest)
      (λ now. through_cost P price part costs things count (omega (arith, same)) now n rest later))

  pub each_cost : {Found : Type 0} (P : StationState → Type 0) (price : ℕ) (part : ℕ → Found → Part Found)
      → ((i : ℕ) (found : Found) → PartCosts sum P P price (part i found))
      → (start count : ℕ) (found : Found) → PartCosts sum P P (count * price) (each start count part found)
  unfolding each through
  each_cost P price part costs start zero found n rest later = more_cost P P n (zero * price + n) (rest found) (omega arith) (λ s holds. holds) (later found)
  each_cost P price part costs start (suc count) found n rest later =
      more_cost P P (price + (count * price + n)) (suc count * price + n) _ (omega arith) (λ s holds. holds)
      (costs start found (count * price + n) (λ now. each (start + 1) count part now rest)
      (λ now. each_cost P price part costs (start + 1) count now n rest later))

  pub tracks_cost : {Found : Type 0} (P : StationState → Type 0) (price : ℕ) (part : ℕ → ℕ → Found → Part Found)
      → ((c h : ℕ) (found : Found) → PartCosts sum P P price (part c h found))
      → (cylinders heads : ℕ) (found : Found) → PartCosts sum P P (cylinders * (heads * price)) (by_track cylinders heads part found)
  tracks_cost P price part costs cylinders heads found =
      each_cost P (heads * price) (λ c. each 0 heads (part c)) (λ c now. each_cost P price (part c) (costs c) 0 heads now) 0 cylinders found
