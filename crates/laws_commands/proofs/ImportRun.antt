-- The command that imports, if it ends well. Each track is formatted, its records are put into memory byte by byte, and
-- they are written.
use Rattle.std.proofs.Common.{arith, ◌≡◌, ◌∙◌, ◌+◌, ◌-◌, ◌*◌, ◌<◌, ◌≤◌, ℕ, List, [], ◌∷◌, length, get_or, refl, sym, ap, subst, inl, inr, Option, zero, suc, false, ◌++◌, replicate, append_assoc, Some, Bool, true, Result, Ok, Err}
use Rattle.std.specs.Prelude.{slice_index, ◌==◌, nat_lt, if◌then◌else◌}
use Rattle.laws_commands.proofs.Common.{cases_eq, cases_lt, eqb-true, ext_get_or, length-replicate, with_items, Files, stored, Two, in_bay, user_bytes, bytes_from, sector_place, flat_length, sectors_told, StationState, Bay, bay_of, Taken, World, carries, rate_requests, record_address, Passes, Did, known, carries_passes, each_does, acknowledges_passes, Imports, sectors_of, import_text, import_script, length-with_items, with_items_before, flat_map, range_with_len, gap_at, standard_fill, sectors_at, Rate, Disk, HasTrack, track_of, Counters, IsFaultless, IsLaid, IsRegular, laid_tidy, Request, formatted, format_at, IsOnMap, IsRegularDisk, AreAlike, KeepsTracks, key_of, alike_tracks, alike_both, stays_regular, keeps_both, elsewhere_on_map, alike_itself, blank_of, write_records, standard_track, standard_content, copied_entry, HasLaidFields, file_of, TooShort, Trailing, Stop, State, stop_lines, stop_status, blank_request, RunsScript, last_run, prints_status, no_stop_is_ok, IsFlatFound, sector_bytes, HasFlatSector, StoresDisk, StoresImported}
use Rattle.sector_map.specs.Flat.{IsSector}
use Rattle.commands.proofs.Passed.{Does}
use Rattle.disk_commands.specs.Import.{fills_byte, fills_record, fills_track, writes_record, writes_track, imports_track}
use Rattle.laws_commands.proofs.CopiedTrack.{both_fell}
use Rattle.laws_commands.proofs.Steps.{NeverFell, step_never_fell, byte_from, with_at, length-bytes_from, still_laid}
use Rattle.laws_commands.proofs.DiskRecords.{keys_from, one_format}
use Rattle.laws_commands.proofs.Sectors.{track_regular, track_laid, track_sector, HasContent}
use Rattle.laws_commands.proofs.TrackParts.{did_all}
use Rattle.laws_commands.proofs.Written.{AreCopied, HasSome, all_writes, writes_keep, blank_regular, blank_fields}
use Rattle.laws_commands.proofs.Prepared.{blanks, blank_keeps}
use Rattle.laws_commands.proofs.ScriptAccesses.{Takes, each_takes, counts, did_fell, one_done, place_is, some_sectors, place_inside, one_track, Since, since_on, readied, tracks_take}
use Rattle.flop_base.specs.declared.answers.Status.TheVariants as status
use Rattle.floppy_jobs.specs.declared.request.Request.TheVariants as request

-- The first n bytes of a part of a flat file are in memory, from the first record's address on. The bays, the names and
-- the files are as they were.
pub record IsFilled (bytes : List ℕ) (from n : ℕ) (bays : Two Bay) (names : Two (Option (List ℕ))) (told : Option Files) (now : World) : Type 0 where
  pub bays_stay : now.state.station.bays ≡ bays
  pub names_stay : now.state.names ≡ names
  pub files_stay : now.files ≡ told
  pub size : length now.state.station.memory ≡ user_bytes
  pub filled : (j : ℕ) → j < n → get_or now.state.station.memory (0x10000 + j) 0 ≡ get_or bytes (from + j) 0

-- ---- one byte

one_more : (memory bytes : List ℕ) (from n address byte : ℕ) → length memory ≡ user_bytes → address ≡ 0x10000 + n → n < 9216
    → byte ≡ get_or bytes (from + n) 0 → ((j : ℕ) → j < n → get_or memory (0x10000 + j) 0 ≡ get_or bytes (from + j) 0) → (j : ℕ) → j < n + 1
    → get_or (with_items memory address (byte ∷ [])) (0x10000 + j) 0 ≡ get_or bytes (from + j) 0
one_more memory bytes from n address byte size at few is filled j below =
    let one = byte ∷ [] in
    let fits : address + length one ≤ length memory = omega (arith, size, at, few) in
    elim (cases_eq j n) [
      | inl same ↦
          let place : 0x10000 + j ≡ address + 0 = omega (arith, same, at) in
          let stands = with_at memory address one fits 0 (omega arith) in
          ap (λ k. get_or (with_items memory address one) k 0) place ∙ stands ∙ is ∙ ap (λ k. get_or bytes (from + k) 0) (sym same)
      | inr other ↦ with_items_before memory address one fits (0x10000 + j) (omega (arith, at, below, other)) ∙ filled j (omega (arith, below, other))
    ]

fills_one : (bytes : List ℕ) (from n address byte : ℕ) (bays : Two Bay) (names : Two (Option (List ℕ))) (told : Option Files) (old new : World)
    (steps : List Taken) → address ≡ 0x10000 + n → n < 9216 → byte ≡ get_or bytes (from + n) 0 → Did (request.Fill address 1 byte ∷ []) old steps new
    → IsFilled bytes from n bays names told old → IsFilled bytes from (n + 1) bays names told new
fills_one bytes from n address byte bays names told old new steps at few is did holds =
    let does = (one_done (request.Fill address 1 byte) old new steps did).does in
    let fills = does.2 in
    let one = byte ∷ [] in
    let memory : new.state.station.memory ≡ with_items old.state.station.memory address one = ap (λ (s : StationState). s.memory) fills.becomes in
    let size = holds.size in
    let long = length-with_items old.state.station.memory address one (omega (arith, size, at, few)) in
    record {
      bays_stay = ap (λ (s : StationState). s.bays) fills.becomes ∙ holds.bays_stay;
      names_stay = fills.names ∙ holds.names_stay;
      files_stay = does.1 ∙ holds.files_stay;
      size = ap length memory ∙ long ∙ size;
      filled = λ j below. ap (λ (m : List ℕ). get_or m (0x10000 + j) 0) memory ∙ one_more old.state.station.memory bytes from n address byte size at few is holds.filled j below;
    }

-- ---- the records of a track

module _ (ready : World) (bytes : List ℕ) (sectors c h w : ℕ) (few : sectors ≤ 18) (before_it : (c * 2 + h) * sectors ≡ w) where
  -- the first n bytes of the track's records are in memory
  abbrev pub Fills : ℕ → World → Type 0
  Fills n now = IsFilled bytes (w * 512) n ready.state.station.bays ready.state.names ready.files now

  -- this holds if memory had its size before, and no count fell
  pub record HasFilled (n : ℕ) (none : Unit {0}) (course : List Taken) (now : World) : Type 0 where
    pub fell : NeverFell (counts ready) (counts now)
    pub fills : length ready.state.station.memory ≡ user_bytes → Fills n now

  pub none_filled : HasFilled 0 tt [] ready
  none_filled = record {
    fell = record { first = omega arith; second = omega arith; stalls = omega arith };
    fills = λ size. record { bays_stay = refl; names_stay = refl; files_stay = refl; size = size; filled = λ j below. absurd (omega (arith, below)) };
  }

  byte_takes : (r i : ℕ) → 1 ≤ r → r < 1 + sectors → i < 512 → (none : Unit {0})
      → Passes status.AllOk (fills_byte bytes (sector_place sectors c h r) (record_address r) i none)
      (Takes (HasFilled (512 * (r - 1) + i)) (HasFilled (512 * (r - 1) + (i + 1))) none)
  unfolding fills_byte
  byte_takes r i least most small none =
      let base = 512 * (r - 1) in
      let place = place_is sectors c h r w least before_it in
      let address = record_address r + i in
      let byte = slice_index bytes (sector_place sectors c h r + i) in
      let at : address ≡ 0x10000 + (base + i) = omega arith in
      let from : sector_place sectors c h r + i ≡ w * 512 + (base + i) = omega (arith, place) in
      let more : base + i + 1 ≡ base + (i + 1) = omega arith in
      known status.AllOk (carries (request.Fill address 1 byte)) (Does (request.Fill address 1 byte ∷ []))
      (Takes (HasFilled (base + i)) (HasFilled (base + (i + 1))) none)
      (λ old course found mid did. λ before filled. record {
        fell = both_fell (counts ready) (counts old) (counts mid) filled.fell (did_fell (request.Fill address 1 byte ∷ []) old mid course did refl);
        fills = λ size. subst (λ k. Fills k mid) more
            (fills_one bytes (w * 512) (base + i) address byte ready.state.station.bays ready.state.names ready.files old mid course at
            (omega (arith, few, most, small, least)) (ap (λ k. get_or bytes k 0) from) did (filled.fills size));
      })
      (carries_passes (request.Fill address 1 byte))

  record_takes : (r : ℕ) → 1 ≤ r → r < 1 + sectors → (none : Unit {0})
      → Passes status.AllOk (fills_record bytes (sector_place sectors c h r) (record_address r) none)
      (Takes (HasFilled (512 * (r - 1))) (HasFilled (512 * (r + 1 - 1))) none)
  unfolding fills_record
  record_takes r least most none =
      let base = 512 * (r - 1) in
      let part = fills_record bytes (sector_place sectors c h r) (record_address r) none in
      let begun : base + 0 ≡ base = omega arith in
      let next : base + 512 ≡ 512 * (r + 1 - 1) = omega (arith, least) in
      subst (λ k. Passes status.AllOk part (Takes (HasFilled k) (HasFilled (512 * (r + 1 - 1))) none)) begun
      (subst (λ k. Passes status.AllOk part (Takes (HasFilled (base + 0)) (HasFilled k) none)) next
      (each_takes (λ i. HasFilled (base + i)) (fills_byte bytes (sector_place sectors c h r) (record_address r)) 0 512 512 (omega arith)
      (λ i from small now. byte_takes r i least most small now) none))

  pub track_filled : Passes status.AllOk (fills_track bytes sectors c h) (Takes (HasFilled 0) (HasFilled (512 * sectors)) tt)
  unfolding fills_track
  track_filled =
      let part = fills_track bytes sectors c h in
      let begun : 512 * (1 - 1) ≡ 0 = omega arith in
      let whole : 512 * (1 + sectors - 1) ≡ 512 * sectors = omega arith in
      subst (λ k. Passes status.AllOk part (Takes (HasFilled k) (HasFilled (512 * sectors)) tt)) begun
      (subst (λ k. Passes status.AllOk part (Takes (HasFilled (512 * (1 - 1))) (HasFilled k) tt)) whole
      (each_takes (λ r. HasFilled (512 * (r - 1))) (λ r. fills_record bytes (sector_place sectors c h r) (record_address r)) 1 sectors (1 + sectors) refl
      (λ r least most none. record_takes r least most none) tt))

  -- each record is then at its own place in memory
  pub record_stands : (now : World) (r : ℕ) → Fills (512 * sectors) now → 1 ≤ r → r ≤ sectors → sector_place sectors c h r + 512 ≤ length bytes
      → bytes_from now.state.station.memory (record_address r) 512 ≡ sector_bytes bytes sectors c h r
  record_stands now r holds least most inside =
      let memory = now.state.station.memory in
      let size = holds.size in
      let place = place_is sectors c h r w least before_it in
      let one : length (bytes_from memory (record_address r) 512) ≡ 512 = length-bytes_from memory (record_address r) 512 (omega (arith, size, few, most)) in
      let two : length (sector_bytes bytes sectors c h r) ≡ 512 = length-bytes_from bytes (sector_place sectors c h r) 512 inside in
      ext_get_or 0 (bytes_from memory (record_address r) 512) (sector_bytes bytes sectors c h r) (one ∙ sym two)
      (λ k within.
      let below : k < 512 = omega (arith, within, one) in
      let at : record_address r + k ≡ 0x10000 + (512 * (r - 1) + k) = omega arith in
      let from : w * 512 + (512 * (r - 1) + k) ≡ sector_place sectors c h r + k = omega (arith, place) in
      byte_from memory (record_address r) 512 k below
      ∙ ap (λ j. get_or memory j 0) at
      ∙ holds.filled (512 * (r - 1) + k) (omega (arith, below, most, least))
      ∙ ap (λ j. get_or bytes j 0) from
      ∙ sym (byte_from bytes (sector_place sectors c h r) 512 k below))

-- ---- The track.

-- bay 0 has a disk of 80 cylinders, and its first tracks, this many, have the sectors of the flat file
pub record IsImporting (bytes : List ℕ) (rate : Rate) (name : List ℕ) (told : Option Files) (tracks : ℕ) (now : World) : Type 0 where
  pub disk : Disk
  pub medium : (bay_of now.state.station 0).medium ≡ Some disk
  pub bay_rate : (bay_of now.state.station 0).rate ≡ rate
  pub alike : AreAlike (blank_of 80 rate) disk
  pub regular : IsRegularDisk disk
  pub laid : HasLaidFields disk
  pub size : length now.state.station.memory ≡ user_bytes
  pub named : in_bay now.state.names 0 ≡ Some name
  pub files : now.files ≡ told
  pub sectors : (c h r : ℕ) → IsSector (sectors_at rate) c h r → c * 2 + h < tracks → HasFlatSector bytes (sectors_at rate) disk c h r

-- ---- The writes.

writes_are : (c h a n : ℕ)
    → flat_map (λ r. request.Write 0 (key_of c h r) (record_address r) ∷ []) (range_with_len a n) ≡ write_records 0 (keys_from c h a n) (replicate n false)
writes_are c h a zero = refl
writes_are c h a (suc n) = ap (λ (rest : List Request). request.Write 0 (key_of c h a) (record_address a) ∷ rest) (writes_are c h (a + 1) n)

record_written : (c h r : ℕ) → Passes status.AllOk (writes_record c h r tt) (Does (request.Write 0 (key_of c h r) (record_address r) ∷ []))
unfolding writes_record
record_written c h r = carries_passes (request.Write 0 (key_of c h r) (record_address r))

-- the writes of all records of a track, none of them marked as deleted
abbrev writes_of : ℕ → ℕ → ℕ → List Request
writes_of sectors c h = write_records 0 (keys_from c h 1 sectors) (replicate sectors false)

writes_pass : (sectors c h : ℕ) → Passes status.AllOk (writes_track sectors c h) (Does (writes_of sectors c h))
unfolding writes_track
writes_pass sectors c h =
    subst (λ (all : List Request). Passes status.AllOk (writes_track sectors c h) (Does all)) (writes_are c h 1 sectors)
    (each_does status.AllOk 1 sectors (writes_record c h) (λ r. request.Write 0 (key_of c h r) (record_address r) ∷ []) (λ r. record_written c h r))

-- a record that was written is on the disk's map
one_copied : (disk : Disk) (memory : List ℕ) (c h a n : ℕ) → AreCopied disk memory c h a (replicate n false) → (r : ℕ) → a ≤ r → r < a + n
    → (place : ℕ) × IsOnMap disk (copied_entry c h r place false (bytes_from memory (record_address r) 512))
one_copied disk memory c h a zero copied r least below = absurd (omega (arith, least, below))
one_copied disk memory c h a (suc n) copied r least below = elim (cases_eq r a) [
  | inl same ↦ subst (λ k. (place : ℕ) × IsOnMap disk (copied_entry c h k place false (bytes_from memory (record_address k) 512))) (sym same) copied.0
  | inr other ↦ one_copied disk memory c h (a + 1) n copied.1 r (omega (arith, least, other)) (omega (arith, below))
]

-- ---- the track

-- a sector of another track stays as it was imported
sector_stays : (bytes : List ℕ) (sectors : ℕ) (disk : Disk) (c h : ℕ) (after : Disk) (b g r : ℕ) → KeepsTracks disk c h after → (b ≡ c → g ≡ h → ⊥)
    → HasFlatSector bytes sectors disk b g r → HasFlatSector bytes sectors after b g r
sector_stays bytes sectors disk c h after b g r keeps other had =
    (had.0, (elsewhere_on_map disk c h after keeps (copied_entry b g r had.0 false (sector_bytes bytes sectors b g r)) other).0 had.1)

module _ (bytes : List ℕ) (rate : Rate) (name : List ℕ) (told : Option Files) (c h : ℕ) (whole : length bytes ≡ flat_length (sectors_at rate))
    (cylinder : c < 80) (head : h < 2) where
  abbrev sectors : ℕ
  sectors = sectors_at rate

  abbrev before : ℕ
  before = (c * 2 + h) * sectors

  -- no count fell since the start, and the first t tracks were imported, if the drive had no fault since the start
  abbrev IsSoFar : Counters → ℕ → World → Type 0
  IsSoFar start t now = Since start (IsImporting bytes rate name told t) now

  few : sectors ≤ 18
  few = (some_sectors rate).1

  -- the first n bytes of the track's records were put into memory, from the world `ready` on
  abbrev FilledFrom : World → ℕ → Unit {0} → List Taken → World → Type 0
  FilledFrom ready = HasFilled ready bytes sectors c h before few refl

  track_done : (none : Unit {0}) (old ready full new : World) (one two three : List Taken) → Did (request.Format 0 c h ∷ []) old one ready
      → FilledFrom ready (512 * sectors) none two full → Did (writes_of sectors c h) full three new → (start : Counters) → IsSoFar start (c * 2 + h) old
      → IsSoFar start (c * 2 + h + 1) new
  track_done none old ready full new one two three format filled writes start since =
      let fell_format = did_fell (request.Format 0 c h ∷ []) old ready one format refl in
      let fell_fill = filled.fell in
      let fell_write = did_fell (writes_of sectors c h) full new three writes (writes_keep 0 (keys_from c h 1 sectors) (replicate sectors false)) in
      since_on start (IsImporting bytes rate name told (c * 2 + h)) (IsImporting bytes rate name told (c * 2 + h + 1)) old new since
      (both_fell (counts old) (counts ready) (counts new) fell_format (both_fell (counts ready) (counts full) (counts new) fell_fill fell_write))
      (λ faultless holds.
      let disk = holds.disk in
      let done = one_done (request.Format 0 c h) old ready one format in
      let calm_format : IsFaultless 0 (counts old) (counts ready) =
      (omega (arith, fell_format.first, fell_fill.first, fell_write.first, faultless.0), omega (arith, fell_fill.first, fell_write.first, faultless.1)) in
      let calm_write : IsFaultless 0 (counts full) (counts new) =
      (omega (arith, fell_format.first, fell_fill.first, fell_write.first, faultless.0), faultless.1) in
      let track : HasTrack disk c h = (omega (arith, cylinder, holds.alike.cylinders), omega (arith, head, holds.alike.heads)) in
      let small_c : c < 256 = omega (arith, cylinder) in
      let small_h : h < 256 = omega (arith, head) in
      let formats = one_format rate c h disk old.state ready.state old.files ready.files done.answer done.does done.fine
      calm_format holds.medium holds.bay_rate holds.alike.valid in
      let next = formats.next in
      let fills = filled.fills (ap length formats.memory ∙ holds.size) in
      let is : track_of next c h ≡ standard_track rate c h = formats.laid ∙ ap (λ (n : ℕ). formatted (format_at c h rate (gap_at rate) standard_fill) n) holds.alike.words_per_track in
      let regular = stays_regular disk c h next formats.keeps holds.regular (subst (λ (t : List ℕ). IsRegular t c h) (sym is) (track_regular rate c h small_c small_h)) in
      let has_next = (alike_tracks disk next c h formats.keeps.alike).0 track in
      let laid = subst IsLaid (sym is) (track_laid rate c h small_c small_h) in
      let there = λ (r : ℕ) (from : 1 ≤ r) (below : r < 1 + sectors).
      let it = track_sector rate c h r small_c small_h from (omega (arith, below)) in
      let on = subst (λ (t : List ℕ). HasContent t it.0 (key_of c h r) standard_content) (sym is) it.1 in
      let has : HasSome next c h r = (it.0, false, standard_content, record { track = has_next; address = on.address; content = on.found }) in
      has in
      let bay = ap (λ (bays : Two Bay). in_bay bays 0) fills.bays_stay in
      let medium : (bay_of full.state.station 0).medium ≡ Some next = ap (λ (b : Bay). b.medium) bay ∙ formats.medium in
      let bay_rate : (bay_of full.state.station 0).rate ≡ rate = ap (λ (b : Bay). b.rate) bay ∙ formats.bay_rate in
      let next_rate : next.rate ≡ rate = formats.keeps.alike.rate ∙ holds.alike.rate in
      let writes_all = all_writes laid_tidy 0 next c h 1 sectors (replicate sectors false) full.state new.state full.files new.files three
      (did_all (writes_of sectors c h) full three new writes)
      (length-replicate sectors false) (omega arith) (omega (arith, few)) there formats.keeps.alike.valid regular has_next laid fills.size calm_write medium
      (bay_rate ∙ sym next_rate) in
      let final = writes_all.final in
      let keeps = keeps_both disk next final c h formats.keeps writes_all.keeps in
      let own = λ (r : ℕ) (sector : IsSector sectors c h r).
      let it = one_copied final full.state.station.memory c h 1 sectors writes_all.copied r sector.from_first (omega (arith, sector.to_last)) in
      let stands = record_stands ready bytes sectors c h before few refl full r fills sector.from_first sector.to_last
      (omega (arith, place_inside rate c h r sector, whole)) in
      let has : HasFlatSector bytes sectors final c h r =
      (it.0, subst (λ (content : List ℕ). IsOnMap final (copied_entry c h r it.0 false content)) stands it.1) in
      has in
      record {
        disk = final;
        medium = writes_all.medium;
        bay_rate = writes_all.bay_rate ∙ bay_rate;
        alike = alike_both (blank_of 80 rate) disk final holds.alike keeps.alike;
        regular = writes_all.regular;
        laid = still_laid disk final c h keeps holds.laid writes_all.laid;
        size = ap length writes_all.memory ∙ fills.size;
        named = ap (λ (n : Two (Option (List ℕ))). in_bay n 0) (writes_all.names ∙ fills.names_stay ∙ formats.names) ∙ holds.named;
        files = writes_all.files ∙ fills.files_stay ∙ formats.files ∙ holds.files;
        sectors = λ b g r sector below. elim (cases_lt (b * 2 + g) (c * 2 + h)) [
          | inl earlier ↦ sector_stays bytes sectors disk c h final b g r keeps (λ e f. absurd (omega (arith, earlier, e, f)))
              (holds.sectors b g r sector earlier)
          | inr later ↦
              let same = one_track c h b g head sector.head (omega (arith, below, later)) in
              let mine = own r (record { cylinder = cylinder; head = head; from_first = sector.from_first; to_last = sector.to_last }) in
              subst (λ k. HasFlatSector bytes sectors final k g r) same.0 (subst (λ k. HasFlatSector bytes sectors final c k r) same.1 mine)
        ];
      })

  pub track_imported : (start : Counters) (none : Unit {0})
      → Passes status.AllOk (imports_track bytes sectors c h none)
      (Takes (λ none course now. IsSoFar start (c * 2 + h) now) (λ none course now. IsSoFar start (c * 2 + h + 1) now) none)
  unfolding imports_track
  track_imported start none rest old course new runs =
      let one = carries_passes (request.Format 0 c h) _ old course new runs in
      let ready = one.mid in
      let two = track_filled ready bytes sectors c h before few refl _ ready one.two new one.left in
      let three = writes_pass sectors c h rest two.mid two.two new two.left in
      record {
        one = one.one ++ (two.one ++ three.one);
        two = three.two;
        found = three.found;
        mid = three.mid;
        course_is = one.course_is ∙ ap (λ (l : List Taken). one.one ++ l)
            (two.course_is ∙ ap (λ (l : List Taken). two.one ++ l) three.course_is ∙ sym (append_assoc two.one three.one three.two))
            ∙ sym (append_assoc one.one (two.one ++ three.one) three.two);
        knows = λ earlier since.
            track_done two.found old ready two.mid three.mid one.one two.one three.one one.knows
            (two.knows [] (none_filled ready bytes sectors c h before few refl)) three.knows start since;
        left = three.left;
      }

-- ---- The command.

-- the length of a flat file
pub flat_size : (rate : Rate) (n : ℕ) → sectors_told n ≡ Ok (sectors_at rate) → n ≡ flat_length (sectors_at rate)
flat_size rate n told = go (n == 737280) (n == 1474560) (nat_lt n 737280) (nat_lt n 1474560) refl refl told
  where
    go : (nine eighteen below under : Bool) → (n == 737280) ≡ nine → (n == 1474560) ≡ eighteen
        → (if nine then Ok 9 else (if eighteen then Ok 18 else (if below then Err (TooShort 737280 n) else (if under then Err (TooShort 1474560 n) else Err (Trailing 1474560))))) ≡ Ok (sectors_at rate)
        → n ≡ flat_length (sectors_at rate)
    go true eighteen below under is other same = let sectors : 9 ≡ sectors_at rate = cc same in omega (arith, eqb-true n 737280 is, sectors)
    go false true below under is other same = let sectors : 18 ≡ sectors_at rate = cc same in omega (arith, eqb-true n 1474560 other, sectors)
    go false false true under is other same = absurd (cc same)
    go false false false true is other same = absurd (cc same)
    go false false false false is other same = absurd (cc same)

module _ (bytes name : List ℕ) (rate : Rate) (whole : length bytes ≡ flat_length (sectors_at rate)) where
  -- the first t tracks were imported, if the drive had no fault since the start
  abbrev WasSoFar : World → ℕ → World → Type 0
  WasSoFar old t now = Since (counts old) (IsImporting bytes rate name old.files t) now

  -- a blank disk of 80 cylinders is put in, and the bay made ready
  opened : (old one two : World) (first second : List Taken) → Did (blank_request 0 name 80 rate ∷ []) old first one
      → Did (request.Ack 0 ∷ rate_requests rate 0) one second two → length old.state.station.memory ≡ user_bytes → WasSoFar old 0 two
  opened old one two first second blanked acked size =
      let blank = blank_of 80 rate in
      let done = one_done (blank_request 0 name 80 rate) old one first blanked in
      let put = blanks 0 rate name 80 old.state one.state old.files one.files done.answer done.step done.fine in
      let ready = readied rate blank one two second acked refl put.medium in
      let fell = step_never_fell old.state one.state old.files one.files (blank_request 0 name 80 rate) done.answer done.step (blank_keeps 0 rate name 80) in
      record {
        fell = both_fell (counts old) (counts one) (counts two) fell ready.fell;
        holds = λ faultless. record {
          disk = blank;
          medium = ready.medium;
          bay_rate = ready.rate;
          alike = alike_itself blank put.valid;
          regular = blank_regular 80 rate;
          laid = blank_fields 80 rate;
          size = ap length (ready.memory ∙ ap (λ (s : StationState). s.memory) put.becomes) ∙ size;
          named = ap (λ (n : Two (Option (List ℕ))). in_bay n 0) ready.names ∙ ap (λ (n : Two (Option (List ℕ))). in_bay n 0) put.named;
          files = ready.files ∙ put.files;
          sectors = λ c h r sector below. absurd (omega (arith, below));
        };
      }

  -- the disk is taken out, and stored
  ejected : (old full new : World) (course : List Taken) → Did (request.Eject 0 ∷ []) full course new → IsFaultless 0 (counts old) (counts new)
      → WasSoFar old 160 full → StoresDisk bytes name rate old.files new.files
  ejected old full new course did faultless so_far =
      let fell = did_fell (request.Eject 0 ∷ []) full new course did refl in
      let before = so_far.fell in
      let holds = so_far.holds (omega (arith, before.first, fell.first, faultless.0), omega (arith, fell.first, faultless.1)) in
      let stores = (one_done (request.Eject 0) full new course did).does.1 in
      let same_disk : stores.0 ≡ holds.disk = cc (stores.2, holds.medium) in
      let same_name : stores.1 ≡ name = cc (stores.3, holds.named) in
      record {
        disk = holds.disk;
        valid = holds.alike.valid;
        protected = holds.alike.protected;
        cylinders = holds.alike.cylinders;
        heads = holds.alike.heads;
        rate = holds.alike.rate;
        words_per_track = holds.alike.words_per_track;
        regular = holds.regular;
        laid = holds.laid;
        sectors = λ c h r sector. holds.sectors c h r sector (omega (arith, sector.cylinder, sector.head));
        files = stores.5 ∙ ap (λ (n : List ℕ). stored full.files n (file_of stores.0)) same_name
            ∙ ap (λ (d : Disk). stored full.files name (file_of d)) same_disk
            ∙ ap (λ (f : Option Files). stored f name (file_of holds.disk)) holds.files;
      }

  imports_disk : (old new : World) (course : List Taken) → RunsScript (import_script (Ok (bytes, rate)) name) old course new status.AllOk
      → length old.state.station.memory ≡ user_bytes → IsFaultless 0 (counts old) (counts new) → StoresDisk bytes name rate old.files new.files
  imports_disk old new course runs size faultless =
      let one = carries_passes (blank_request 0 name 80 rate) _ old course new runs in
      let two = acknowledges_passes 0 rate _ one.mid one.two new one.left in
      let three = tracks_take (λ t none row now. WasSoFar old t now) (imports_track bytes (sectors_at rate))
      (λ c h cylinder head none. track_imported bytes rate name old.files c h whole cylinder head (counts old) none) tt _ two.mid two.two new two.left in
      let four = carries_passes (request.Eject 0) _ three.mid three.two new three.left in
      let last = last_run (import_text (sectors_of rate) ∷ []) status.AllOk four.mid four.two new status.AllOk four.left in
      let full = three.knows [] (opened old one.mid two.mid one.one two.one one.knows two.knows size) in
      let calm = subst (λ (s : State). IsFaultless 0 (counts old) s.station.counters) last.1.state faultless in
      subst (λ (f : Option Files). StoresDisk bytes name rate old.files f) (sym last.1.files) (ejected old three.mid four.mid four.one four.knows calm full)

-- an import that succeeds stores a disk of the flat file
pub import_stores : (flat name : List ℕ) (old new : World) (course : List Taken) → Imports flat name old course new status.AllOk
    → length old.state.station.memory ≡ user_bytes → IsFaultless 0 (counts old) (counts new) → StoresImported flat name old.files new.files
import_stores flat name old new course imports size faultless = go imports.0 imports.1 imports.2
  where
    go : (found : Result (List ℕ × Rate) Stop) → IsFlatFound old.files flat found → RunsScript (import_script found name) old course new status.AllOk
        → StoresImported flat name old.files new.files
    go (Ok (bytes, rate)) is runs = (
      bytes,
      rate,
      is,
      imports_disk bytes name rate
          (flat_size rate (length bytes) is.sectors) old new course runs size faultless,
    )
    go (Err cause) is runs =
        let last = last_run (stop_lines cause) (stop_status cause) old course new status.AllOk runs in
        absurd (no_stop_is_ok cause (prints_status _ _ (stop_status cause) status.AllOk _ (λ fault. fault) last.1.report).1)
