-- Which reads, formats and writes are done when nothing disturbs them: those of records that are on a regular disk, and
-- the formats and writes that make such a disk.
use Rattle.std.proofs.Common.{arith, ◌≡◌, ◌↔◌, ◌∙◌, ◌+◌, ◌-◌, ◌≤◌, ℕ, nat_le, Bool, true, false, List, refl, sym, ap, subst, Some, None, Result, Ok, Err, le-leb, suc, [], ◌∷◌, ◌≢◌, ◌<◌, inl, inr, Option, IsOk, lit≤}
use Rattle.std.specs.Prelude.{◌/◌, ◌==◌, not, if◌then◌else◌, All, is_some, IfErr}
use Rattle.laws_commands.proofs.Common.{sectors_at, standard_code, words_at, gap_at, standard_fill, Chrn, Code, BadRequest, Page, Changed, Protected, Disk, HasTrack, track_of, IsDisk, Two, in_bay, Counters, IsUndisturbed, DisturbedLess, FaultsRoseLess, IsAddressAt, content_size, LookAt, Entry, IsOnMap, IsRegularDisk, LookOn, HasClearAddress, AllFound, key_of, met_track, clear_address, key_cylinder, one_address, StationState, Bay, bay_of, met, Becomes, set_bay, is_sector_request, crosses_page, is_acknowledged, read_refusal, is_bay, is_protected, write_refusal, most_format_gap, format_refusal, ReadsDrive, IsReadCause, spoilable, read_reply, Step, IsDriverCall, reply_of, blank_of, is_refusal, record_address, Rate, Found, AreFailing, IsFormattedDisk, formatted_entry, standard_content, standard_track, IsStandardKey, IsUnmistaken, cases_eq, Files, IsRegular, Request, Written, with_track_keeps, alike_both, alike_itself, stays_regular, Reply, WritesDrive, WritesTo, IsWriteCause, ChangesAlone, written_from, State, copied_entry, option_map_or, R500, R250, format_keys, IsFormattable, formatted, format_at, AreAlike, KeepsTracks, format_fits, Fits, laid_words, FormatsDrive, IsReadable}
use Rattle.sector_map.specs.Standard.{standard_keys}
use Rattle.laws_commands.proofs.Verified.{standard_all, key_is, reaches}
use Rattle.laws_commands.proofs.Sectors.{formatted_regular, formatted_sector, few_sectors, track_regular, track_sector, HasContent}
use Rattle.laws_commands.proofs.Prepared.{in_with}
use Rattle.laws_commands.proofs.Written.{HasSome, blank_regular}
use Rattle.laws_commands.proofs.Going.{Stage, IsDone, IsSafe, calm_in}
use Rattle.laws_commands.proofs.Bays.{IsReadyFor, both_true, ready_still, safe, AreApart, ok_taken, other_stays}
use Rattle.laws_commands.proofs.DiskRecords.{drive_formats}
use Rattle.track_model.specs.declared.Look.TheVariants as look
use Rattle.floppy_jobs.specs.declared.request.Request.TheVariants as request

-- ---- a record in memory

same_page : (a b : ℕ) → a ≡ 1 → b ≡ 1 → not (a == b) ≡ false
same_page a b e f = rw (e, f) refl

-- each record of a track lies within one page of memory
pub within_page : (r : ℕ) → 1 ≤ r → r ≤ 18 → crosses_page (record_address r) (content_size standard_code) ≡ false
within_page r least most = same_page (record_address r / 65536) ((record_address r + content_size standard_code - 1) / 65536) (omega arith) (omega arith)

-- the driver can be asked for such a key
pub sector_asked : (bay c h r place : ℕ) → nat_le bay 1 ≡ true → c ≤ 79 → h ≤ 1 → 1 ≤ r → 1 ≤ place → place ≤ 18
    → is_sector_request bay (key_of c h r) (record_address place) ≡ true
sector_asked bay c h r place is_one cylinder head least from few =
    grind (arith, both_true)

read_order : (good crosses acknowledged : Bool) → good ≡ true → crosses ≡ false → acknowledged ≡ true
    → (if not good then Some BadRequest else (if crosses then Some Page else (if not acknowledged then Some Changed else None))) ≡ None
read_order good crosses acknowledged e f g = rw (e, f, g) refl

-- an undisturbed call is disturbed less often than its attempts allow
pub disturbed_less : (tries bay : ℕ) (old new : Counters) → IsUndisturbed bay old new → DisturbedLess (spoilable tries) bay old new
disturbed_less tries bay old new calm = record {
  faults = calm.faults;
  stalls = calm.stalls;
  together = omega (arith, calm.together);
}

-- ---- what is on the track

-- the track has the data of the key
abbrev pub HasData : List ℕ → Chrn → Type 0
HasData track key =
    (p : ℕ) × (deleted : Bool) × (place : ℕ) × IsAddressAt track p key × LookAt track p key.n (look.Found deleted place)

pub has_data : (disk : Disk) (key : Chrn) (entry : Entry) → IsRegularDisk disk → IsOnMap disk entry → entry.key ≡ key → HasData (track_of disk key.c key.h) key
has_data disk key entry regular on same = grind (arith, key_cylinder)

module _ (disk : Disk) (regular : IsRegularDisk disk) (key : Chrn) (has : HasTrack disk key.c key.h) (field : HasData (track_of disk key.c key.h) key) where
  clear : HasClearAddress (track_of disk key.c key.h) key
  clear = (field.0, clear_address (track_of disk key.c key.h) key.c key.h field.0 key (regular key.c key.h has) field.3)

  all_found : AllFound (track_of disk key.c key.h) key
  all_found p address =
      let same = one_address disk key.c key.h field.0 p key regular has field.3 address in
      (field.1, field.2, subst (λ (q : ℕ). LookAt (track_of disk key.c key.h) q key.n (look.Found field.1 field.2)) same field.4)

-- ---- the read

module _ (source : Disk) (regular : IsRegularDisk source) (c h r : ℕ) (has : HasTrack source c h) (old new : StationState) (ready : IsReadyFor 0 source old)
    (calm : IsUndisturbed 0 old.counters new.counters) (standard : HasData (track_of source c h) (key_of c h r)) where
  read_never : (code : Code) → IsReadCause (met (bay_of old 0) c h) (key_of c h r) old.tries 0 old code new → ⊥
  read_never code cause =
      let is = met_track (bay_of old 0).medium (bay_of old 0).rate c h source (record { is_in = ready.medium; has = has; same_rate = sym ready.bay_rate }) in
      let on = subst (λ (track : List ℕ). IsReadCause track (key_of c h r) old.tries 0 old code new) is cause in
      on.never (clear source regular (key_of c h r) has standard) (all_found source regular (key_of c h r) has standard)
      (disturbed_less old.tries 0 old.counters new.counters calm)

  called_taken : (address : ℕ) (called : Result Bool Code) → ReadsDrive 0 (key_of c h r) address old called new
      → (is_refusal (read_reply called) ≡ false) × (new.bays ≡ old.bays)
  called_taken address (Ok true) drive = (refl, ap (λ (s : StationState). s.bays) drive.found.becomes)
  called_taken address (Ok false) drive = (refl, ap (λ (s : StationState). s.bays) drive.found.becomes)
  called_taken address (Err code) drive = absurd (read_never code drive.refused.cause)

-- bay 0 is still ready, and both bays are as they were
pub record ReadsAlone (source : Disk) (old new : Stage) : Type 0 where
  pub ready : IsReadyFor 0 source new.state.station
  pub same : new.state.station.bays ≡ old.state.station.bays

-- a read of a record that is on its track is done; it may go to the place of any record in memory
pub stands_read : (source : Disk) (c h r place : ℕ) (old : Stage) → IsRegularDisk source → source.cylinders ≤ 80 → source.heads ≤ 2 → HasTrack source c h → 1 ≤ r
    → HasData (track_of source c h) (key_of c h r) → 1 ≤ place → place ≤ 18 → IsReadyFor 0 source old.state.station
    → IsDone (λ new. ReadsAlone source old new) (request.Read 0 (key_of c h r) (record_address place)) old
stands_read source c h r place old regular few_cylinders few_heads has least field from few ready = record {
  safe = safe (request.Read 0 (key_of c h r) (record_address place)) old refl (λ bay name same. cc same);
  answers = λ answer new step calm.
      let key = key_of c h r in
      let address = record_address place in
      let station = old.state.station in
      let good = sector_asked 0 c h r place refl (omega (arith, has.0, few_cylinders)) (omega (arith, has.1, few_heads)) least from few in
      let free = read_order (is_sector_request 0 key address) (crosses_page address (content_size standard_code)) (is_acknowledged station 0) good
      (within_page place from few) ready.kept in
      let drive = reaches _ (read_refusal station 0 key address) free step.1.2 in
      let taken = called_taken source regular c h r has station new.state.station ready calm.first field address step.1.0 drive in (
        ap is_refusal step.1.1 ∙ taken.0,
        record { ready = ready_still 0 source station new.state.station (ap (λ (bays : Two Bay). in_bay bays 0) taken.1) ready; same = taken.1 },
      );
}

-- a read of a standard key of a readable disk is done
pub read_done : (source : Disk) (c h r place : ℕ) (old : Stage) → IsReadable source → source.cylinders ≤ 80 → source.heads ≤ 2 → HasTrack source c h → 1 ≤ r
    → r ≤ sectors_at source.rate → 1 ≤ place → place ≤ 18 → IsReadyFor 0 source old.state.station
    → IsDone (λ new. ReadsAlone source old new) (request.Read 0 (key_of c h r) (record_address place)) old
read_done source c h r place old readable few_cylinders few_heads has least most from few ready =
    let there = readable.sectors (key_of c h r) (record { track = has; sector = (least, most); size = refl }) in
    stands_read source c h r place old readable.regular few_cylinders few_heads has least
    (has_data source (key_of c h r) there.0 readable.regular there.1 there.2) from few ready

-- ---- No key fails.

-- a formatted disk is readable
pub formatted_readable : (rate : Rate) (count : ℕ) (disk : Disk) → IsFormattedDisk rate count disk → IsReadable disk
formatted_readable rate count disk is = record {
  regular = formatted_regular rate count disk is;
  sectors = λ key standard.
      let there = formatted_sector rate count disk is key.c key.h key.r standard.track standard.sector.0 standard.sector.1 in
      (formatted_entry key.c key.h key.r there.0, there.1, sym (key_is key standard.size));
}

pub readable_unmistaken : (disk : Disk) → IsReadable disk → IsUnmistaken disk
readable_unmistaken disk readable = record {
  plain = λ c h has. (readable.regular c h has).plain;
  single = λ key standard p q a b. (readable.regular key.c key.h standard.track).keys.distinct p q key a b;
}

module _ (disk : Disk) (readable : IsReadable disk) where
  -- the look for a standard key of a readable disk finds it
  looks : (key : Chrn) → IsStandardKey disk key → (place : ℕ) × (deleted : Bool) × LookOn disk key (Found deleted place)
  looks key standard =
      let there = readable.sectors key standard in
      let on = has_data disk key there.0 readable.regular there.1 there.2 in
      let distinct = (readable.regular key.c key.h standard.track).keys.distinct in (
        on.2,
        on.1,
        record {
          there = λ has. (on.0, record { address = on.3; none_before = λ k before other. let same = distinct k on.0 key other on.3 in absurd (omega arith) }, on.4);
          absent = λ none. absurd (none standard.track);
        },
      )

  none_of : (keys : List Chrn) → All (IsStandardKey disk) keys → AreFailing disk keys []
  none_of [] all = refl
  none_of (key ∷ keys) all =
      let here = looks key (all 0 key (omega arith)) in
      (Found here.1 here.0, [], here.2, refl, none_of keys (λ k d below. all (suc k) d (omega (arith, below))))

  -- none of the standard keys of a readable disk fails
  pub none_failing : AreFailing disk (standard_keys disk) []
  none_failing = none_of (standard_keys disk) (standard_all disk)

-- ---- A disk that is made in a bay.

-- A disk of this rate and count of cylinders is in the bay, and `Also` holds of it. It is regular, and has the shape
-- and protection of a blank one. The bay is acknowledged, at that rate.
pub record IsMaking (bay : ℕ) (rate : Rate) (count : ℕ) (Also : Disk → Type 0) (station : StationState) : Type 0 where
  pub disk : Disk
  pub medium : (bay_of station bay).medium ≡ Some disk
  pub alike : AreAlike (blank_of count rate) disk
  pub bay_rate : (bay_of station bay).rate ≡ rate
  pub kept : is_acknowledged station bay ≡ true
  pub regular : IsRegularDisk disk
  pub also : Also disk

-- a condition that any disk meets
abbrev pub AnyDisk : Disk → Type 0
AnyDisk disk = Unit {0}

-- All records but the written one stay, and there is some record under the written one's key.
pub record KeepsRecords (disk next : Disk) (c h r : ℕ) : Type 0 where
  pub others : (entry : Entry) → entry.key ≢ key_of c h r → IsOnMap disk entry ↔ IsOnMap next entry
  pub some : HasSome next c h r

-- the disk has each record of a track
abbrev pub HasRecords : ℕ → ℕ → ℕ → Disk → Type 0
HasRecords sectors c h disk = (r : ℕ) → 1 ≤ r → r ≤ sectors → HasSome disk c h r

module _ (bay : ℕ) (rate : Rate) (count : ℕ) where
  -- once its bay is ready, a blank disk is such a disk
  pub blank_made : (station : StationState) → IsDisk (blank_of count rate) → IsReadyFor bay (blank_of count rate) station
      → IsMaking bay rate count AnyDisk station
  blank_made station valid ready = search (blank_of count rate, alike_itself (blank_of count rate) valid, blank_regular count rate)

  -- such a disk stays one if a weaker condition is asked of it and the bay stays as it is
  pub made_still : (Also Less : Disk → Type 0) (old new : StationState) → ((disk : Disk) → Also disk → Less disk) → bay_of new bay ≡ bay_of old bay
      → IsMaking bay rate count Also old → IsMaking bay rate count Less new
  made_still Also Less old new less same made = record {
    disk = made.disk;
    medium = ap (λ (b : Bay). b.medium) same ∙ made.medium;
    alike = made.alike;
    bay_rate = ap (λ (b : Bay). b.rate) same ∙ made.bay_rate;
    kept = ap (λ (b : Bay). is_some b.acknowledged) same ∙ made.kept;
    regular = made.regular;
    also = less made.disk made.also;
  }

  pub any_made : (Also : Disk → Type 0) (station : StationState) → IsMaking bay rate count Also station → IsMaking bay rate count AnyDisk station
  any_made Also station made = made_still Also AnyDisk station station (λ disk also. tt) refl made

-- the bay has such a disk, and the other bay is as it was
pub record MakesAlone (bay other : ℕ) (rate : Rate) (count : ℕ) (Also : Disk → Type 0) (old new : Stage) : Type 0 where
  pub made : IsMaking bay rate count Also new.state.station
  pub same : bay_of new.state.station other ≡ bay_of old.state.station other

-- a call that changed only the medium of one bay leaves such a disk there
remade : (bay other : ℕ) (rate : Rate) (count : ℕ) (Before Also : Disk → Type 0) (old new : Stage) (next : Disk) → AreApart bay other
    → IsMaking bay rate count Before old.state.station
    → Becomes (set_bay old.state.station bay (record (bay_of old.state.station bay) { medium = (bay_of new.state.station bay).medium })) new.state.station
    → (bay_of new.state.station bay).medium ≡ Some next → AreAlike (blank_of count rate) next → IsRegularDisk next → Also next
    → MakesAlone bay other rate count Also old new
remade bay other rate count Before Also old new next apart made becomes medium alike regular also =
    let station = old.state.station in
    let value : Bay = record (bay_of station bay) { medium = (bay_of new.state.station bay).medium } in
    let at_bay = ap (λ (s : StationState). bay_of s bay) becomes ∙ in_with station.bays bay value in
    record {
      made = search (ap (λ (b : Bay). b.rate) at_bay ∙ made.bay_rate, ap (λ (b : Bay). is_some b.acknowledged) at_bay ∙ made.kept);
      same = other_stays bay other station new.state.station value apart becomes;
    }

-- ---- A track is formatted.

-- the standard sectors of a rate fit on the tracks of that rate
standard_fits : (rate : Rate) (c h words : ℕ) → words ≡ words_at rate
    → Fits (format_keys (format_at c h rate (gap_at rate) standard_fill)) standard_code (gap_at rate) words
standard_fits rate c h words same = (format_fits (format_at c h rate (gap_at rate) standard_fill) words).1 (go rate words same)
  where
    go : (r : Rate) (w : ℕ) → w ≡ words_at r → laid_words (sectors_at r) standard_code (gap_at r) ≤ w
    go R500 w is = subst (λ (n : ℕ). laid_words 18 2 0x6C ≤ n) (sym is) (lit≤ tt)
    go R250 w is = subst (λ (n : ℕ). laid_words 9 2 0x50 ≤ n) (sym is) (lit≤ tt)

gap_asked : (rate : Rate) → (nat_le 16 (gap_at rate) ≡ true) × (nat_le (gap_at rate) (most_format_gap rate) ≡ true)
gap_asked R500 = (refl, refl)
gap_asked R250 = (refl, refl)

-- the medium in a bay isn't protected
pub protected_by : (medium : Option Disk) (disk : Disk) → medium ≡ Some disk → disk.protected ≡ false
    → option_map_or (λ (d : Disk). d.protected) medium false ≡ false
protected_by medium disk is free = rw (is, free) refl

format_order : (good acknowledged protected : Bool) → good ≡ true → acknowledged ≡ true → protected ≡ false
    → (if not good then Some BadRequest else (if not acknowledged then Some Changed else (if protected then Some Protected else None))) ≡ None
format_order good acknowledged protected e f g = rw (e, f, g) refl

module _ (bay other : ℕ) (rate : Rate) (count c h : ℕ) (is_one : is_bay bay ≡ true) (apart : AreApart bay other) (cylinder : c < count) (head : h < 2)
    (Also Then : Disk → Type 0)
    (leads : (disk next : Disk) → KeepsTracks disk c h next → HasRecords (sectors_at rate) c h next → Also disk → Then next)
    (old : Stage) (made : IsMaking bay rate count Also old.state.station) where
  abbrev station : StationState
  station = old.state.station

  format_free : format_refusal station bay c h (gap_at (bay_of station bay).rate) ≡ None
  format_free = grind (arith, gap_asked, made, le-leb, cylinder, head, both_true, protected_by, format_order)

  formatted_done : (answer : Reply) (new : Stage) → Step (request.Format bay c h) old.state old.files answer new.state new.files
      → IsUndisturbed bay station.counters new.state.station.counters
      → (is_refusal answer ≡ false) × MakesAlone bay other rate count Then old new
  formatted_done answer new step calm =
      let disk = made.disk in
      let alike = made.alike in
      let called = step.1.0 in
      let stalls = step.0.counts.stalls in
      let small_c : c < 256 = omega (arith, cylinder, alike.cylinders, alike.valid.cylinders.1) in
      let small_h : h < 256 = omega (arith, head) in
      let format = format_at c h rate (gap_at rate) standard_fill in
      let reached = reaches _ (format_refusal station bay c h (gap_at (bay_of station bay).rate)) format_free step.1.2 in
      let drive = subst (λ (r : Rate). FormatsDrive (format_at c h r (gap_at r) standard_fill) bay station called new.state.station) made.bay_rate reached in
      let track : HasTrack disk c h = (omega (arith, cylinder, alike.cylinders), omega (arith, head, alike.heads)) in
      let formattable : IsFormattable format (bay_of station bay).medium =
      (disk, made.medium, record { track = track; rate = alike.rate; fits = standard_fits rate c h disk.words_per_track alike.words_per_track }) in
      let ok : IsOk called = (drive.exactly calm).1 formattable in
      let laid = drive_formats bay rate c h disk station new.state.station called drive ok
      (omega (arith, calm.together, stalls), calm.faults) made.medium alike.valid in
      let next = laid.0 in
      let keeps = laid.2 in
      let is : track_of next c h ≡ standard_track rate c h = laid.3 ∙ ap (λ (n : ℕ). formatted format n) alike.words_per_track in
      let after = alike_both (blank_of count rate) disk next alike keeps.alike in
      let on_next : HasTrack next c h = (omega (arith, cylinder, after.cylinders), omega (arith, head, after.heads)) in
      let records = λ (r : ℕ) (least : 1 ≤ r) (most : r ≤ sectors_at rate).
      let there = track_sector rate c h r small_c small_h least most in
      let on = subst (λ (t : List ℕ). HasContent t there.0 (key_of c h r) standard_content) (sym is) there.1 in
      let some : HasSome next c h r = (there.0, false, standard_content, record { track = on_next; address = on.address; content = on.found }) in
      some in
      let laid_so = subst (λ (t : List ℕ). IsRegular t c h) (sym is) (track_regular rate c h small_c small_h) in (
        ok_taken called answer step.1.1 ok,
        remade bay other rate count Also _ old new next apart made drive.becomes laid.1 after
            (stays_regular disk c h next keeps made.regular laid_so) (leads disk next keeps records made.also),
      )

  pub format_leads : IsDone (λ new. MakesAlone bay other rate count Then old new) (request.Format bay c h) old
  format_leads = record {
    safe = safe (request.Format bay c h) old refl (λ at name same. cc same);
    answers = λ answer new step calm. formatted_done answer new step
        (calm_in bay (request.Format bay c h) answer station.counters new.state.station.counters is_one refl calm);
  }

-- after a format, the track has its records
pub format_done : (bay other : ℕ) (rate : Rate) (count c h : ℕ) → is_bay bay ≡ true → AreApart bay other → c < count → h < 2 → (Also : Disk → Type 0) (old : Stage)
    → IsMaking bay rate count Also old.state.station
    → IsDone (λ new. MakesAlone bay other rate count (HasRecords (sectors_at rate) c h) old new) (request.Format bay c h) old
format_done bay other rate count c h is_one apart cylinder head Also old made =
    format_leads bay other rate count c h is_one apart cylinder head Also (HasRecords (sectors_at rate) c h) (λ disk next keeps records also. records) old made

-- ---- A record is written.

-- a write to a bay, with its mark
abbrev pub write_to : ℕ → Bool → Chrn → ℕ → Request
write_to bay deleted key address = if deleted then request.WriteDeleted bay key address else request.Write bay key address

-- the write is a call of the driver, with this mark
abbrev Calls : ℕ → Chrn → ℕ → Bool → State → Option Files → Reply → State → Option Files → Type 0
Calls bay key address deleted old told answer new after =
    IsDriverCall old told new after × ((called : Result (Unit {0}) Code) × (answer ≡ reply_of called) × WritesTo bay key address deleted old.station called new.station)

write_called : (bay : ℕ) (key : Chrn) (address : ℕ) (deleted : Bool) (old new : State) (told after : Option Files) (answer : Reply)
    → Step (write_to bay deleted key address) old told answer new after → Calls bay key address deleted old told answer new after
write_called bay key address true old new told after answer step = step
write_called bay key address false old new told after answer step = step

write_order : (good crosses acknowledged protected : Bool) → good ≡ true → crosses ≡ false → acknowledged ≡ true → protected ≡ false
    → (if not good then Some BadRequest else (if crosses then Some Page else (if not acknowledged then Some Changed else (if protected then Some Protected else None)))) ≡ None
write_order good crosses acknowledged protected e f g i = rw (e, f, g, i) refl

-- any record that was there is still there, or was the one that was written
pub some_still : (disk next : Disk) (c h r : ℕ) → KeepsRecords disk next c h r → (b g s : ℕ) → HasSome disk b g s → HasSome next b g s
some_still disk next c h r keeps b g s had = elim (cases_eq s r) [
  | inr other ↦ stays (λ e. other (ap (λ (k : Chrn). k.r) e))
  | inl same_r ↦ elim (cases_eq g h) [
    | inr other ↦ stays (λ e. other (ap (λ (k : Chrn). k.h) e))
    | inl same_h ↦ elim (cases_eq b c) [
      | inr other ↦ stays (λ e. other (ap (λ (k : Chrn). k.c) e))
      | inl same_c ↦
          let at_r = subst (λ (k : ℕ). HasSome next c h k) (sym same_r) keeps.some in
          let at_h = subst (λ (k : ℕ). HasSome next c k s) (sym same_h) at_r in
          subst (λ (k : ℕ). HasSome next k g s) (sym same_c) at_h
    ]
  ]
]
  where
    stays : key_of b g s ≢ key_of c h r → HasSome next b g s
    stays differ = (had.0, had.1, had.2, (keeps.others (copied_entry b g s had.0 had.1 had.2) differ).0 had.3)

-- What a write of a record did to the disk in a bay. The other bay is as it was.
pub record WritesInto (bay other : ℕ) (disk : Disk) (c h r : ℕ) (old new : Stage) : Type 0 where
  pub next : Disk
  pub ready : IsReadyFor bay next new.state.station
  pub keeps : KeepsTracks disk c h next
  pub regular : IsRegularDisk next
  pub records : KeepsRecords disk next c h r
  pub same : bay_of new.state.station other ≡ bay_of old.state.station other

module _ (bay other : ℕ) (disk : Disk) (c h r slot : ℕ) (deleted : Bool) (is_one : is_bay bay ≡ true) (apart : AreApart bay other) (cylinder : c ≤ 79)
    (head : h ≤ 1) (least : 1 ≤ r) (from : 1 ≤ slot) (few : slot ≤ 18) (some : HasSome disk c h r) (bare : disk.protected ≡ false)
    (regular : IsRegularDisk disk) (old : Stage) (ready : IsReadyFor bay disk old.state.station) where
  abbrev before : StationState
  before = old.state.station

  abbrev written : Written
  written = written_from before (key_of c h r) (record_address slot) deleted

  abbrev place : ℕ
  place = some.0

  track : HasTrack disk c h
  track = some.3.track

  met_is : met (bay_of before bay) c h ≡ track_of disk c h
  met_is = met_track (bay_of before bay).medium (bay_of before bay).rate c h disk
      (record { is_in = ready.medium; has = track; same_rate = sym ready.bay_rate })

  address : IsAddressAt (met (bay_of before bay) c h) place (key_of c h r)
  address = subst (λ (t : List ℕ). IsAddressAt t place (key_of c h r)) (sym met_is) some.3.address

  write_free : write_refusal before bay (key_of c h r) (record_address slot) ≡ None
  write_free =
      let good = sector_asked bay c h r slot is_one cylinder head least from few in
      let free : is_protected before bay ≡ false = protected_by (bay_of before bay).medium disk ready.medium bare in
      write_order (is_sector_request bay (key_of c h r) (record_address slot)) (crosses_page (record_address slot) (content_size standard_code))
      (is_acknowledged before bay) (is_protected before bay)
      good (within_page slot from few) ready.kept free

  module _ (new : Stage) (calm : IsUndisturbed bay before.counters new.state.station.counters)
      (stalls : before.counters.stalls ≤ new.state.station.counters.stalls) (called : Result (Unit {0}) Code)
      (drive : WritesDrive written bay before called new.state.station) where
    never : (code : Code)
        → IsWriteCause written (met (bay_of before bay) c h) (met (bay_of new.state.station bay) c h) drive.changes bay before code new.state.station → ⊥
    never code cause = grind (arith, met_is, regular, track, address, inr, calm, disturbed_less)

    ok : IsOk called
    ok = go called drive.refused
      where
        go : (answer : Result (Unit {0}) Code)
            → IfErr answer (λ code. IsWriteCause written (met (bay_of before bay) c h)
            (met (bay_of new.state.station bay) c h) drive.changes bay before code new.state.station) → IsOk answer
        go (Ok u) cause = refl
        go (Err code) cause = absurd (never code cause)

    alone : ChangesAlone written bay place disk before called new.state.station
    alone = (drive.regular disk ready.medium regular).one place address (inr calm)

    few_faults : FaultsRoseLess 2 bay before.counters new.state.station.counters
    few_faults = (omega (arith, calm.together, stalls), calm.faults)

    writes : WritesInto bay other disk c h r old new
    writes =
        let keeps = with_track_keeps disk alone.after c h _ alone.cut in
        let value : Bay = record (bay_of before bay) { medium = (bay_of new.state.station bay).medium } in
        let at_bay = ap (λ (s : StationState). bay_of s bay) drive.becomes ∙ in_with before.bays bay value in
        record {
          next = alone.after;
          ready = record {
            medium = alone.medium;
            bay_rate = ap (λ (b : Bay). b.rate) at_bay ∙ ready.bay_rate ∙ sym keeps.alike.rate;
            kept = ap (λ (b : Bay). is_some b.acknowledged) at_bay ∙ ready.kept;
          };
          keeps = keeps;
          regular = alone.regular;
          records = record { others = alone.others; some = (place, deleted, written.content, alone.entry ok (inl few_faults)) };
          same = other_stays bay other before new.state.station value apart drive.becomes;
        }

  write_safe : (d : Bool) → IsSafe (write_to bay d (key_of c h r) (record_address slot)) old
  write_safe true = safe (request.WriteDeleted bay (key_of c h r) (record_address slot)) old refl (λ at name same. cc same)
  write_safe false = safe (request.Write bay (key_of c h r) (record_address slot)) old refl (λ at name same. cc same)

  -- a record that is on its track is written; the content may come from the place of any record in memory
  pub stands_written : IsDone (λ new. WritesInto bay other disk c h r old new) (write_to bay deleted (key_of c h r) (record_address slot)) old
  stands_written = record {
    safe = write_safe deleted;
    answers = λ answer new step calm.
        let quiet = calm_in bay (write_to bay deleted (key_of c h r) (record_address slot)) answer before.counters new.state.station.counters is_one
        (write_safe deleted).keeps calm in
        let call = write_called bay (key_of c h r) (record_address slot) deleted old.state new.state old.files new.files answer step in
        let drive = reaches _ (write_refusal before bay (key_of c h r) (record_address slot)) write_free call.1.2 in
        (ok_taken call.1.0 answer call.1.1 (ok new quiet call.0.counts.stalls call.1.0 drive), writes new quiet call.0.counts.stalls call.1.0 drive);
  }

-- a bay with a disk that is being made is ready for that disk
pub made_ready : (bay : ℕ) (rate : Rate) (count : ℕ) (Also : Disk → Type 0) (now : StationState) (made : IsMaking bay rate count Also now)
    → IsReadyFor bay made.disk now
made_ready bay rate count Also now made = record { medium = made.medium; bay_rate = made.bay_rate ∙ sym made.alike.rate; kept = made.kept }

-- a record is written to its track, from the record's own place in memory
pub write_done : (bay other : ℕ) (rate : Rate) (count c h r : ℕ) (deleted : Bool) → is_bay bay ≡ true → AreApart bay other → c < count → h < 2
    → 1 ≤ r → r ≤ sectors_at rate → (old : Stage) → IsMaking bay rate count (HasRecords (sectors_at rate) c h) old.state.station
    → IsDone (λ new. MakesAlone bay other rate count (HasRecords (sectors_at rate) c h) old new) (write_to bay deleted (key_of c h r) (record_address r)) old
write_done bay other rate count c h r deleted is_one apart cylinder head least most old making =
    let alike = making.alike in
    let few : r ≤ 18 = omega (arith, most, few_sectors rate) in
    let small : c ≤ 79 = omega (arith, cylinder, alike.cylinders, alike.valid.cylinders.1) in
    let ready = made_ready bay rate count (HasRecords (sectors_at rate) c h) old.state.station making in
    let done = stands_written bay other making.disk c h r r deleted is_one apart small (omega (arith, head)) least least few (making.also r least most)
    alike.protected making.regular old ready in
    record {
      safe = done.safe;
      answers = λ answer new step calm.
          let it = done.answers answer new step calm in
          let wrote = it.1 in (
            it.0,
            record {
              made = record {
                disk = wrote.next;
                medium = wrote.ready.medium;
                alike = alike_both (blank_of count rate) making.disk wrote.next alike wrote.keeps.alike;
                bay_rate = wrote.ready.bay_rate ∙ wrote.keeps.alike.rate ∙ alike.rate;
                kept = wrote.ready.kept;
                regular = wrote.regular;
                also = λ s from below. some_still making.disk wrote.next c h r wrote.records c h s (making.also s from below);
              };
              same = wrote.same;
            },
          );
    }
