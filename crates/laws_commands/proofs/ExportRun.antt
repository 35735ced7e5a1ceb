-- The command that exports, if it ends well: what its reads gave, joined one after the other, and what it stores.
use Rattle.std.proofs.Common.{arith, ◌≡◌, ◌∙◌, ◌+◌, ◌-◌, ◌*◌, ◌<◌, ◌≤◌, ℕ, Bool, List, [], ◌∷◌, ◌++◌, length, drop, take, refl, sym, ap, subst, inl, inr, Option, Some, append-nil, append_assoc}
use Rattle.std.specs.Prelude.{◌⊎◌}
use Rattle.laws_commands.proofs.Common.{cases_eq, cases_lt, take_all, drop_at, drop-append-le, take-append-le, length-append, length-drop, Files, stored, sectors_at, Disk, track_of, Two, in_bay, Counters, user_bytes, bytes_from, Request, sector_place, key_of, Reply, Bay, bay_of, StationState, State, Step, IsImageOf, Taken, World, may_starve, by_track, rate_requests, record_address, Passes, IsTaken, known, needs_passes, Did, Opened, opens_passes, acknowledges_passes, export_text, export_script, mark_of, SomeStep, Gave, IsFieldOf, IsSure, length-with_items, option_map, Rate, Shape, shape_of, Stores, RunsScript, StoresLast, IsStored, NotStored, last_stored, sectors_of, sector_bytes, IsAsRead, StoresExported}
use Rattle.sector_map.specs.Flat.{IsSector}
use Rattle.disk_commands.specs.Export.{reads_record, reads_track}
use Rattle.laws_commands.proofs.CopiedTrack.{both_fell, some_first, some_second}
use Rattle.laws_commands.proofs.DiskRecords.{one_record, sure_parts}
use Rattle.laws_commands.proofs.Steps.{NeverFell, done_does, step_never_fell, at_stands}
use Rattle.laws_commands.proofs.ScriptAccesses.{some_sectors, one_track, next_track, place_is, Takes, each_takes, fed, counts, readied, did_fell, one_done, tracks_take}
use Rattle.flop_base.specs.declared.answers.Status.TheVariants as status
use Rattle.track_model.specs.Sectors as track
use Rattle.floppy_jobs.specs.declared.request.Request.TheVariants as request

-- ---- one read

-- the state after an answer, which is what is found
abbrev behind : Reply → State → State
behind answer after = after

-- a read of a record gave these bytes
record ReadGives (source : Disk) (c h r : ℕ) (bytes : List ℕ) (old new : World) (steps : List Taken) : Type 0 where
  pub deleted : Bool
  pub sized : length bytes ≡ 512
  pub step : SomeStep (Gave (key_of c h r) deleted bytes) steps
  pub field : IsFieldOf source (key_of c h r) deleted bytes
  pub sector : IsSure source (counts old) (counts new) → track.IsSector (track_of source c h) (key_of c h r) deleted bytes
  pub bays : new.state.station.bays ≡ old.state.station.bays
  pub size : length new.state.station.memory ≡ user_bytes
  pub files : new.files ≡ old.files
  pub fell : NeverFell (counts old) (counts new)

read_gives : (source : Disk) (c h r : ℕ) (old new : World) (course : List Taken) (found : State)
    → IsTaken (request.Read 0 (key_of c h r) (record_address r)) behind old course found new → 1 ≤ r → r ≤ 18
    → (bay_of old.state.station 0).medium ≡ Some source → length old.state.station.memory ≡ user_bytes
    → ReadGives source c h r (bytes_from found.station.memory (record_address r) 512) old new course
read_gives source c h r old new course found given least most medium size =
    let key = key_of c h r in
    let address = record_address r in
    let asked = request.Read 0 key address in
    let is = given.is in
    let taken = is.taken in
    let same = is.after in
    let step = subst (λ (s : State). Step asked old.state old.files taken.answer s new.files) (sym same) is.step in
    let one = one_record c h r source old.state new.state old.files new.files taken.answer
    (done_does old.state new.state old.files new.files asked taken.answer step given.fine) given.fine medium in
    let sized = one.sized in
    let fits : address + length one.content ≤ length old.state.station.memory = omega (arith, size, sized, most) in
    let long = length-with_items old.state.station.memory address one.content fits in
    let stands : bytes_from new.state.station.memory address 512 ≡ one.content = ap (λ (m : List ℕ). bytes_from m address 512) one.memory
    ∙ at_stands old.state.station.memory address one.content 512 sized fits in
    let from_found : bytes_from found.station.memory address 512 ≡ bytes_from new.state.station.memory address 512 =
    ap (λ (s : State). bytes_from s.station.memory address 512) (is.found_is ∙ sym same) in
    let placed : one.content ≡ bytes_from found.station.memory address 512 = sym (from_found ∙ stands) in
    let mark : mark_of taken.asked taken.answer ≡ one.deleted ∷ [] = ap (λ (q : Request). mark_of q taken.answer) is.asked_is ∙ one.mark in
    let content = ap (λ (s : State). bytes_from s.station.memory address 512) is.found_is in
    let gave : Gave key one.deleted (bytes_from found.station.memory address 512) taken =
    record { address = address; asked = is.asked_is; mark = mark; content = content } in
    record {
      deleted = one.deleted;
      sized = ap length (sym placed) ∙ sized;
      step = subst (λ (steps : List Taken). SomeStep (Gave key one.deleted (bytes_from found.station.memory address 512)) steps) (sym is.course_is) (inl gave);
      field = subst (λ (row : List ℕ). IsFieldOf source key one.deleted row) placed one.field;
      sector = λ sure. subst (λ (row : List ℕ). track.IsSector (track_of source c h) key one.deleted row) placed (one.sector sure);
      bays = one.bays;
      size = ap length one.memory ∙ long ∙ size;
      files = one.files;
      fell = step_never_fell old.state new.state old.files new.files asked taken.answer step refl;
    }

-- ---- bytes appended to bytes

before_stays : (xs ys : List ℕ) (p : ℕ) → p + 512 ≤ length xs → bytes_from (xs ++ ys) p 512 ≡ bytes_from xs p 512
before_stays xs ys p inside =
    let rest = length-drop p xs in
    ap (λ (l : List ℕ). take 512 l) (drop-append-le p xs ys (omega (arith, inside))) ∙ take-append-le 512 (drop p xs) ys (omega (arith, inside, rest))

behind_stands : (xs ys : List ℕ) (p : ℕ) → length xs ≡ p → length ys ≡ 512 → bytes_from (xs ++ ys) p 512 ≡ ys
behind_stands xs ys p long sized = ap (λ (l : List ℕ). take 512 l) (drop_at xs ys p long) ∙ take_all 512 ys (omega (arith, sized))

-- ---- the reads so far

-- the record is on one of the first t tracks, or is one of the first i records of track t
abbrev pub IsBefore : ℕ → ℕ → ℕ → ℕ → ℕ → Type 0
IsBefore t i c h r = (c * 2 + h < t) ⊎ ((c * 2 + h ≡ t) × (r ≤ i))

-- the record is at its place among these bytes, as a course read it
pub record IsGivenAt (sure : Type 0) (disk : Disk) (sectors c h r : ℕ) (bytes : List ℕ) (course : List Taken) : Type 0 where
  pub inside : sector_place sectors c h r + 512 ≤ length bytes
  pub read : IsAsRead sure course disk c h r (sector_bytes bytes sectors c h r)

-- the records of the first t tracks, and the first i of the next track, are at their places among these bytes
pub record IsGathered (start : Counters) (disk : Disk) (told : Option Files) (t i : ℕ) (bytes : List ℕ) (course : List Taken) (now : World) : Type 0 where
  pub fell : NeverFell start (counts now)
  pub medium : (bay_of now.state.station 0).medium ≡ Some disk
  pub size : length now.state.station.memory ≡ user_bytes
  pub files : now.files ≡ told
  pub count : length bytes ≡ (t * sectors_at disk.rate + i) * 512
  pub given : (c h r : ℕ) → IsSector (sectors_at disk.rate) c h r → IsBefore t i c h r
      → IsGivenAt (IsSure disk start (counts now)) disk (sectors_at disk.rate) c h r bytes course

-- what was given stays when bytes are appended
given_stays : (sure later : Type 0) (disk : Disk) (sectors c h r : ℕ) (bytes more : List ℕ) (before steps : List Taken) → (later → sure)
    → IsGivenAt sure disk sectors c h r bytes before → IsGivenAt later disk sectors c h r (bytes ++ more) (before ++ steps)
given_stays sure later disk sectors c h r bytes more before steps less given =
    let inside = given.inside in
    let same = sym (before_stays bytes more (sector_place sectors c h r) inside) in
    let had = subst (λ (row : List ℕ). IsAsRead sure before disk c h r row) same given.read in
    record {
      inside = omega (arith, inside, length-append bytes more);
      read = record { deleted = had.deleted; step = some_first _ before steps had.step; field = had.field; sector = λ s. had.sector (less s) };
    }

module _ (start : Counters) (disk : Disk) (told : Option Files) where
  gathers_record : (c h r : ℕ) → h < 2 → 1 ≤ r → r ≤ 18 → (old new : World) (so_far : List ℕ) (before steps : List Taken) (found : State)
      → IsTaken (request.Read 0 (key_of c h r) (record_address r)) behind old steps found new → IsGathered start disk told (c * 2 + h) (r - 1) so_far before old
      → IsGathered start disk told (c * 2 + h) r (so_far ++ bytes_from found.station.memory (record_address r) 512) (before ++ steps) new
  gathers_record c h r head least most old new so_far before steps found taken holds =
      let sectors = sectors_at disk.rate in
      let place = sector_place sectors c h r in
      let bytes = bytes_from found.station.memory (record_address r) 512 in
      let read = read_gives disk c h r old new steps found taken least most holds.medium holds.size in
      let sized = read.sized in
      let count = holds.count in
      let long = length-append so_far bytes in
      let at : length so_far ≡ place = omega (arith, count, place_is sectors c h r ((c * 2 + h) * sectors) least refl, least) in
      let stands : bytes ≡ sector_bytes (so_far ++ bytes) sectors c h r = sym (behind_stands so_far bytes place at sized) in
      let fell = both_fell start (counts old) (counts new) holds.fell read.fell in
      let sure = IsSure disk start (counts new) in
      let parts = λ (s : sure). sure_parts disk start (counts old) (counts new) holds.fell read.fell s in
      let whole : IsAsRead sure (before ++ steps) disk c h r bytes =
      record { deleted = read.deleted; step = some_second _ before steps read.step; field = read.field; sector = λ s. read.sector (parts s).1 } in
      let own : IsGivenAt sure disk sectors c h r (so_far ++ bytes) (before ++ steps) =
      record { inside = omega (arith, at, long, sized); read = subst (λ (row : List ℕ). IsAsRead sure (before ++ steps) disk c h r row) stands whole } in
      let kept = λ (b g q : ℕ) (sector : IsSector sectors b g q) (which : IsBefore (c * 2 + h) (r - 1) b g q).
      given_stays (IsSure disk start (counts old)) sure disk sectors b g q so_far bytes before steps (λ s. (parts s).0) (holds.given b g q sector which) in
      record {
        fell = fell;
        medium = ap (λ (bays : Two Bay). (in_bay bays 0).medium) read.bays ∙ holds.medium;
        size = read.size;
        files = read.files ∙ holds.files;
        count = omega (arith, long, count, sized, least);
        given = λ b g q sector which. elim which [
          | inl earlier ↦ kept b g q sector (inl earlier)
          | inr here ↦ elim (cases_eq q r) [
            | inl same ↦
                let track_is = one_track c h b g head sector.head (sym here.0) in
                subst (λ k. IsGivenAt sure disk sectors k g q (so_far ++ bytes) (before ++ steps)) track_is.0
                (subst (λ k. IsGivenAt sure disk sectors c k q (so_far ++ bytes) (before ++ steps)) track_is.1
                (subst (λ k. IsGivenAt sure disk sectors c h k (so_far ++ bytes) (before ++ steps)) (sym same) own))
            | inr other ↦ kept b g q sector (inr (here.0, omega (arith, here.1, other)))
          ]
        ];
      }

  -- after all records of a track, the next track begins
  whole_track : (t : ℕ) (bytes : List ℕ) (course : List Taken) (now : World) → IsGathered start disk told t (sectors_at disk.rate) bytes course now
      → IsGathered start disk told (t + 1) 0 bytes course now
  whole_track t bytes course now holds =
      let next = next_track disk.rate t in
      let count = holds.count in
      record {
        fell = holds.fell;
        medium = holds.medium;
        size = holds.size;
        files = holds.files;
        count = omega (arith, count, next);
        given = λ c h r sector which. elim which [
          | inl before ↦ elim (cases_lt (c * 2 + h) t) [
            | inl earlier ↦ holds.given c h r sector (inl earlier)
            | inr later ↦ holds.given c h r sector (inr (omega (arith, before, later), sector.to_last))
          ]
          | inr none ↦ absurd (omega (arith, none.1, sector.from_first))
        ];
      }

  -- ---- in the script

  record_gathered : (c h r : ℕ) → h < 2 → 1 ≤ r → r < 1 + sectors_at disk.rate → (bytes : List ℕ)
      → Passes status.AllOk (reads_record c h r bytes) (Takes (IsGathered start disk told (c * 2 + h) (r - 1))
      (IsGathered start disk told (c * 2 + h) (r + 1 - 1)) bytes)
  unfolding reads_record
  record_gathered c h r head least most bytes rest old course new runs =
      let some = some_sectors disk.rate in
      let next : r ≡ r + 1 - 1 = omega arith in
      let asked = request.Read 0 (key_of c h r) (record_address r) in
      let one = needs_passes asked behind (λ after. may_starve
      (λ none. rest (bytes ++ bytes_from after.station.memory (record_address r) 512))) old course new runs in
      let now = bytes ++ bytes_from one.found.station.memory (record_address r) 512 in
      record {
        one = one.one;
        two = one.two;
        found = now;
        mid = one.mid;
        course_is = one.course_is;
        knows = λ before holds. subst (λ k. IsGathered start disk told (c * 2 + h) k now (before ++ one.one) one.mid) next
            (gathers_record c h r head least (omega (arith, most, some.1)) old one.mid bytes before one.one one.found one.knows holds);
        left = fed (λ none. rest now) one.mid one.two new one.left;
      }

  pub track_gathered : (c h : ℕ) → h < 2 → (bytes : List ℕ)
      → Passes status.AllOk (reads_track (sectors_at disk.rate) c h bytes)
      (Takes (IsGathered start disk told (c * 2 + h) 0) (IsGathered start disk told (c * 2 + h + 1) 0) bytes)
  unfolding reads_track
  track_gathered c h head bytes =
      let sectors = sectors_at disk.rate in
      let begun : 1 - 1 ≡ 0 = omega arith in
      let whole : 1 + sectors - 1 ≡ sectors = omega arith in
      let track = reads_track sectors c h bytes in
      known status.AllOk track (Takes (IsGathered start disk told (c * 2 + h) 0) (IsGathered start disk told (c * 2 + h) sectors) bytes) _
      (λ old course found mid takes. λ before holds. whole_track (c * 2 + h) found (before ++ course) mid (takes before holds))
      (subst (λ k. Passes status.AllOk track (Takes (IsGathered start disk told (c * 2 + h) k) (IsGathered start disk told (c * 2 + h) sectors) bytes)) begun
      (subst (λ k. Passes status.AllOk track (Takes (IsGathered start disk told (c * 2 + h) (1 - 1)) (IsGathered start disk told (c * 2 + h) k) bytes)) whole
      (each_takes (λ r. IsGathered start disk told (c * 2 + h) (r - 1)) (reads_record c h) 1 sectors (1 + sectors) refl
      (λ r least most now. record_gathered c h r head least most now) bytes)))

-- ---- The command.

-- the disk of the name is in bay 0
record IsPutIn (name : List ℕ) (shape : Shape) (old new : World) : Type 0 where
  pub disk : Disk
  pub image : IsImageOf old.files name disk
  pub rate : disk.rate ≡ shape.rate
  pub medium : (bay_of new.state.station 0).medium ≡ Some disk
  pub memory : new.state.station.memory ≡ old.state.station.memory
  pub files : new.files ≡ old.files
  pub fell : NeverFell (counts old) (counts new)

put_in : (name : List ℕ) (shape : Shape) (old new : World) (course : List Taken) → Opened name old course shape new → IsPutIn name shape old new
put_in name shape old new course opened =
    let does = (one_done (request.Insert 0 name) old new course opened.did).does in
    let into = does.2 in
    let medium : (bay_of new.state.station 0).medium ≡ Some into.0 = ap (λ (s : StationState). (bay_of s 0).medium) into.2.exchanged.becomes in
    let told = ap (λ (m : Option Disk). option_map shape_of m) medium in
    let same : shape_of into.0 ≡ shape = cc (told, opened.there) in
    record {
      disk = into.0;
      image = into.1;
      rate = ap (λ (s : Shape). s.rate) same;
      medium = medium;
      memory = ap (λ (s : StationState). s.memory) into.2.exchanged.becomes;
      files = does.1;
      fell = did_fell (request.Insert 0 name ∷ []) old new course opened.did refl;
    }

-- before the first read, nothing is gathered, and bay 0 is ready
begun : (name : List ℕ) (shape : Shape) (old one two : World) (row course : List Taken) → (put : IsPutIn name shape old one)
    → Did (request.Ack 0 ∷ rate_requests shape.rate 0) one course two → length old.state.station.memory ≡ user_bytes
    → IsGathered (counts old) put.disk old.files 0 0 [] row two
begun name shape old one two row course put did size =
    let ready = readied shape.rate put.disk one two course did put.rate put.medium in
    record {
      fell = both_fell (counts old) (counts one) (counts two) put.fell ready.fell;
      medium = ready.medium;
      size = ap length (ready.memory ∙ put.memory) ∙ size;
      files = ready.files ∙ put.files;
      count = omega arith;
      given = λ c h r sector which. elim which [
        | inl before ↦ absurd (omega (arith, before))
        | inr here ↦ absurd (omega (arith, here.1, sector.from_first))
      ];
    }

-- if the status says so, the file was stored
stored_well : (flat bytes line : List ℕ) (mid new : World) → StoresLast flat bytes line status.AllOk mid new status.AllOk
    → (new.state ≡ mid.state) × (new.files ≡ stored mid.files flat bytes)
stored_well flat bytes line mid new (IsStored state files prints) = (state, files)
stored_well flat bytes line mid new (NotStored same fault) = absurd fault

-- an export that succeeds stores what its reads gave
pub export_stores : (name flat : List ℕ) (old new : World) (course : List Taken) → RunsScript (export_script name flat) old course new status.AllOk
    → length old.state.station.memory ≡ user_bytes → StoresExported name flat (counts old) old.files course (counts new) new.files
export_stores name flat old new course runs size =
    let one = opens_passes name _ old course new runs in
    let shape = one.found in
    let two = acknowledges_passes 0 shape.rate _ one.mid one.two new one.left in
    let put = put_in name shape old one.mid one.one one.knows in
    let disk = put.disk in
    let Gathered = λ (t : ℕ). IsGathered (counts old) disk old.files t 0 in
    let left = subst (λ (rate : Rate). RunsScript (by_track 80 2 (reads_track (sectors_at rate)) []
    (λ bytes. Stores flat bytes (export_text (sectors_of shape.rate)) status.AllOk)) two.mid two.two new status.AllOk) (sym put.rate) two.left in
    let three = tracks_take Gathered (reads_track (sectors_at disk.rate))
    (λ c h cylinder head bytes. track_gathered (counts old) disk old.files c h head bytes) []
    (λ bytes. Stores flat bytes (export_text (sectors_of shape.rate)) status.AllOk) two.mid two.two new left in
    let before = one.one ++ two.one in
    let full = three.knows before (begun name shape old one.mid two.mid before two.one put two.knows size) in
    let last = last_stored flat three.found (export_text (sectors_of shape.rate)) status.AllOk three.mid three.two new status.AllOk three.left in
    let end = stored_well flat three.found (export_text (sectors_of shape.rate)) three.mid new last.1 in
    let whole : course ≡ before ++ three.one =
    one.course_is ∙ ap (λ (l : List Taken). one.one ++ l)
    (two.course_is ∙ ap (λ (l : List Taken). two.one ++ l) (three.course_is ∙ ap (λ (l : List Taken). three.one ++ l) last.0 ∙ append-nil three.one))
    ∙ sym (append_assoc one.one two.one three.one) in
    let count = full.count in
    subst (λ (steps : List Taken). StoresExported name flat (counts old) old.files steps (counts new) new.files) (sym whole)
    (subst (λ (s : State). StoresExported name flat (counts old) old.files (before ++ three.one) s.station.counters new.files) (sym end.0) (record {
      disk = disk;
      image = put.image;
      bytes = three.found;
      size = omega (arith, count);
      sectors = λ c h r sector. (full.given c h r sector (inl (omega (arith, sector.cylinder, sector.head)))).read;
      files = end.1 ∙ ap (λ (f : Option Files). stored f flat three.found) full.files;
    }))
