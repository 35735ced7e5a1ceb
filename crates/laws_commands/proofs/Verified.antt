-- Files after a store: what is under each name, and when it is the image of a disk, or a log.
use Rattle.std.proofs.Common.{arith, ◌≡◌, ◌≢◌, ◌∙◌, ◌+◌, ◌*◌, ◌≤◌, ℕ, Bool, true, false, cond, List, length, Option, Some, None, refl, sym, ap, subst, inl, suc, All, [], ◌∷◌, ◌++◌, Result, Ok, Err, ◌<◌, zero}
use Rattle.std.specs.Prelude.{IfSome, MatchOption}
use Rattle.laws_commands.proofs.Common.{length-take, length-drop, mul-le, Files, file_at, after_store, stored, Disk, IsDisk, bytes_of, file_of, IsImageOf, most_image_bytes, IsLog, log_text, LogLine, IsLogFound, most_log_bytes, list_all, flat_map-append, standard_code, Chrn, Code, track_of, Look, Found, NoMark, NoSector, NoData, BadCrc, IsAddressAt, LookFor, IsSector, IsPlain, one_look_for, Counters, IsUndisturbed, faults_of, unless_found, AreFailing, key_of, met_track, Request, Reply, StationState, bay_of, read_refusal, IsRead, IsReadCause, ReadsDrive, State, Step, Does, read_reply, Taken, Run, requests_of, read_each, IsStandardKey, IsUnmistaken, told_of, all_told_of, refused_read, refused_reads, flat_map, range_with_len, append-nil, All-nil, All-append, sectors_at, Rate, R500, R250, track_keys, all_track_keys, has_refusal, DoesAll, rate_requests, verify_opening, ReadsDisk}
use Rattle.std.specs.Cmp.Lexicographic.{slice_cmp, nat_list_cmp_total}
use Rattle.std.specs.Ordering.{nat_cmp, eq_by_cmp}
use Rattle.std.proofs.lemmas.Cmp.{eq_by_cmp_equiv}
use Rattle.std.proofs.lemmas.Map.Views.{tells_apart}
use Rattle.raw_image.proofs.Pairs.{length-bytes_of}
use Rattle.raw_image.proofs.Images.{image_again}
use Rattle.laws_commands.proofs.Looks.{found_look, cause_look}
use Rattle.laws_commands.proofs.Steps.{NeverFell, step_never_fell, run_never_fell, keeps_drives, begins, ends_there, splits_run}
use Rattle.sector_map.specs.Standard.{standard_keys, cylinder_keys}
use Rattle.laws_commands.proofs.Prepared.{readies}
use Rattle.laws_commands.proofs.Ranges.{image_range}
use Rattle.std.specs.FinMap as fin
use Rattle.floppy_jobs.specs.declared.request.Request.TheVariants as request

-- ---- names

abbrev same_name : List ℕ → List ℕ → Bool
same_name = eq_by_cmp (slice_cmp nat_cmp)

told_apart : (a b : List ℕ) → a ≢ b → same_name a b ≡ false
told_apart a b differ = go (same_name a b) (λ same. tells_apart (fin.slice_cmp-IsAntisymmetric fin.nat_cmp-IsAntisymmetric) a b same)
  where
    go : (t : Bool) → (t ≡ true → a ≡ b) → t ≡ false
    go true same = absurd (differ (same refl))
    go false same = refl

at_stored : (files : Files) (name bytes other : List ℕ)
    → file_at (after_store files name bytes) other ≡ cond (same_name other name) (Some bytes) (file_at files other)
at_stored files name bytes other = fin.get-insert nat_list_cmp_total files.held name bytes other

-- a name has what was stored last under it
last_there : (files : Files) (name bytes : List ℕ) → file_at (after_store files name bytes) name ≡ Some bytes
last_there files name bytes = at_stored files name bytes name ∙ ap (λ (t : Bool). cond t (Some bytes) (file_at files name)) ((eq_by_cmp_equiv nat_list_cmp_total).refl name)

-- other names have what they had
other_there : (files : Files) (name bytes other : List ℕ) → other ≢ name → file_at (after_store files name bytes) other ≡ file_at files other
other_there files name bytes other differ = at_stored files name bytes other ∙ ap (λ (t : Bool). cond t (Some bytes) (file_at files other)) (told_apart other name differ)

pub stores_both : (files : Files) (to log disk lines : List ℕ) (after : Option Files) → to ≢ log → after ≡ stored (stored (Some files) to disk) log lines
    → IfSome after (λ files. file_at files to ≡ Some disk) × IfSome after (λ files. file_at files log ≡ Some lines)
stores_both files to log disk lines after differ is =
    subst (λ (f : Option Files). IfSome f (λ files. file_at files to ≡ Some disk) × IfSome f (λ files. file_at files log ≡ Some lines)) (sym is)
    (other_there (after_store files to disk) log lines to differ ∙ last_there files to disk, last_there (after_store files to disk) log lines)

-- a name has what was stored last under it, if the files are told
pub stands_under : (before : Option Files) (name bytes : List ℕ) (after : Option Files) → after ≡ stored before name bytes
    → IfSome after (λ files. file_at files name ≡ Some bytes)
stands_under None name bytes after is = subst (λ (f : Option Files). IfSome f (λ files. file_at files name ≡ Some bytes)) (sym is) tt
stands_under (Some files) name bytes after is =
    subst (λ (f : Option Files). IfSome f (λ files. file_at files name ≡ Some bytes)) (sym is) (last_there files name bytes)

-- ---- images

length-file : (d : Disk) → length (file_of d) ≡ 14 + 2 * length d.words
length-file d = grind (arith, file_of, bytes_of, length-take, length-drop, length-bytes_of)

-- the file of a disk is no longer than an image may be
pub file_fits : (d : Disk) → IsDisk d → length (file_of d) ≤ most_image_bytes
file_fits d valid = grind (arith, mul-le, length-file)

-- if the file of a disk is under a name, its image is too
pub image_there : (told : Option Files) (name : List ℕ) (d : Disk) → IfSome told (λ files. file_at files name ≡ Some (file_of d)) → IsDisk d
    → IsImageOf told name d
image_there None name d there valid = tt
image_there (Some files) name d there valid = grind (arith, file_fits, image_again, inl)

-- ---- logs

-- if the text of a log is under a name and isn't too long, the log is found there
pub log_stands : (told : Option Files) (log : List ℕ) (sectors : ℕ) (lines : List LogLine) → IfSome told (λ files. file_at files log ≡ Some (log_text lines))
    → IsLog sectors lines → length (log_text lines) ≤ most_log_bytes → IsLogFound told log sectors (Some lines)
log_stands None log sectors lines there is fits = tt
log_stands (Some files) log sectors lines there is fits = grind arith

-- ---- reads of the standard keys of a disk, one after the other, which nothing disturbs

-- bay 0 has the disk, at its rate, and its drive had no fault since the bay was acknowledged
pub record Holds (disk : Disk) (count : ℕ) (station : StationState) : Type 0 where
  pub medium : (bay_of station 0).medium ≡ Some disk
  pub rate : (bay_of station 0).rate ≡ disk.rate
  pub acknowledged : (bay_of station 0).acknowledged ≡ Some count
  pub faults : faults_of station.counters 0 ≡ count

-- a read of a standard key in an acknowledged bay reaches the drive
pub not_refused : (station : StationState) (c h r count : ℕ) → c ≤ 79 → h ≤ 1 → 1 ≤ r → (bay_of station 0).acknowledged ≡ Some count
    → read_refusal station 0 (key_of c h r) 0x10000 ≡ None
not_refused station c h r count cylinder head sector acknowledged = grind arith

pub reaches : {C P : Type 0} (Q : C → Type 0) (refusal : Option C) → refusal ≡ None → MatchOption refusal P Q → P
reaches Q None e p = p
reaches Q (Some code) e q = absurd (cc e)

-- a call that changed memory and counters alone leaves bay 0 as it was
pub bays_stay : (old new : StationState) (memory : List ℕ) → new ≡ record (record old { memory = memory }) { counters = new.counters }
    → bay_of new 0 ≡ bay_of old 0
bays_stay old new memory becomes = ap (λ (s : StationState). bay_of s 0) becomes

pub holds_on : (disk : Disk) (count : ℕ) (old new : StationState) → Holds disk count old → bay_of new 0 ≡ bay_of old 0
    → faults_of new.counters 0 ≡ count → Holds disk count new
holds_on disk count old new holds same faults = search

-- what one read told
pub record Tells (disk : Disk) (count : ℕ) (key : Chrn) (answer : Reply) (new : StationState) : Type 0 where
  pub look : Look
  pub looked : LookFor (track_of disk key.c key.h) key look
  pub told : refused_read (request.Read 0 key 0x10000) answer ≡ told_of key look
  pub holds : Holds disk count new

module _ (disk : Disk) (unmistaken : IsUnmistaken disk) (count : ℕ) (key : Chrn) (standard : IsStandardKey disk key) (old new : StationState) (holds : Holds disk count old) (quiet : IsUndisturbed 0 old.counters new.counters) (fell : NeverFell old.counters new.counters) where
  plain : IsPlain (track_of disk key.c key.h)
  plain = unmistaken.plain key.c key.h standard.track

  single : (p q : ℕ) → IsAddressAt (track_of disk key.c key.h) p key → IsAddressAt (track_of disk key.c key.h) q key → p ≡ q
  single = unmistaken.single key standard

  same_faults : faults_of new.counters 0 ≡ count
  same_faults = let first = fell.first in let stalls = fell.stalls in let together = quiet.together in let was = holds.faults in omega arith

  read_tells : (deleted : Bool) → IsRead 0 key 0x10000 old deleted new → (place : ℕ) × LookFor (track_of disk key.c key.h) key (Found deleted place)
  read_tells deleted is =
      let same : is.disk ≡ disk = cc (is.medium, holds.medium) in
      let steady = is.steady (record { kept = count; acknowledged = holds.acknowledged; count = same_faults; below = omega (arith, same_faults, quiet.faults) }) in
      let sector = is.sector (inl (omega (arith, same_faults, holds.faults), quiet.faults)) in
      let here = subst (λ (c : ℕ). IsSector (track_of is.disk c key.h) key deleted is.content) steady sector in
      let on = subst (λ (d : Disk). IsSector (track_of d key.c key.h) key deleted is.content) same here in
      found_look (track_of disk key.c key.h) key plain single deleted is.content on

  cause_tells : (tries : ℕ) (cause : Code) → IsReadCause (track_of disk key.c key.h) key tries 0 old cause new
      → (look : Look) × LookFor (track_of disk key.c key.h) key look × (told_of key look ≡ (key, cause) ∷ [])
  cause_tells tries cause is = cause_look (track_of disk key.c key.h) key plain single tries 0 cause old new is quiet fell.stalls fell.first

  -- what the driver's answer to a read tells
  drive_tells : (called : Result Bool Code) → ReadsDrive 0 key 0x10000 old called new → Tells disk count key (read_reply called) new
  drive_tells (Ok deleted) drive =
      let found = read_tells deleted drive.found in
      record {
        look = Found deleted found.0;
        looked = found.1;
        told = none_told deleted;
        holds = holds_on disk count old new holds (bays_stay old new _ drive.found.becomes) same_faults;
      }
    where
      none_told : (d : Bool) → refused_read (request.Read 0 key 0x10000) (read_reply (Ok d)) ≡ []
      none_told true = refl
      none_told false = refl
  drive_tells (Err cause) drive =
      let met = met_track (bay_of old 0).medium (bay_of old 0).rate key.c key.h disk (record { is_in = holds.medium; has = standard.track; same_rate = sym holds.rate }) in
      let is = subst (λ track. IsReadCause track key old.tries 0 old cause new) met drive.refused.cause in
      let told = cause_tells old.tries cause is in
      search (sym told.2, holds_on disk count old new holds (bays_stay old new _ drive.refused.becomes) same_faults)

pub key_is : (key : Chrn) → key.n ≡ standard_code → key ≡ key_of key.c key.h key.r
key_is key size = ap (λ (n : ℕ). record { c = key.c; h = key.h; r = key.r; n = n }) size

-- a read of a standard key
pub one_read : (disk : Disk) (count : ℕ) (key : Chrn) (old new : State) (told after : Option Files) (answer : Reply) → disk.cylinders ≤ 80
    → disk.heads ≤ 2 → IsUnmistaken disk → IsStandardKey disk key → Does (request.Read 0 key 0x10000) old told answer new after
    → Holds disk count old.station → IsUndisturbed 0 old.station.counters new.station.counters → NeverFell old.station.counters new.station.counters
    → Tells disk count key answer new.station
one_read disk count key old new told after answer few_cylinders few_heads unmistaken standard does holds quiet fell =
    let cylinder : key.c ≤ 79 = omega (arith, standard.track.0, few_cylinders) in
    let head : key.h ≤ 1 = omega (arith, standard.track.1, few_heads) in
    let free = subst (λ (k : Chrn). read_refusal old.station 0 k 0x10000 ≡ None) (sym (key_is key standard.size)) (not_refused old.station key.c key.h key.r count cylinder head standard.sector.0 holds.acknowledged) in
    let drive = reaches _ (read_refusal old.station 0 key 0x10000) free does.1.2 in
    let tells = drive_tells disk unmistaken count key standard old.station new.station holds quiet fell does.1.0 drive in
    subst (λ (r : Reply). Tells disk count key r new.station) (sym does.1.1) tells

-- if nothing disturbed a call of two parts, nothing disturbed either part
pub quiet_parts : (old mid new : Counters) → NeverFell old mid → NeverFell mid new → IsUndisturbed 0 old new → IsUndisturbed 0 old mid × IsUndisturbed 0 mid new
quiet_parts old mid new one two quiet = (
  record {
    faults = omega (arith, two.first, quiet.faults);
    stalls = omega (arith, two.stalls, quiet.stalls);
    together = omega (arith, one.first, two.first, one.stalls, two.stalls, quiet.together);
  },
  record {
    faults = quiet.faults;
    stalls = quiet.stalls;
    together = omega (arith, one.first, two.first, one.stalls, two.stalls, quiet.together);
  },
)

pub reads_keep : (keys : List Chrn) → list_all keeps_drives (read_each 0 keys) ≡ true
reads_keep [] = refl
reads_keep (key ∷ later) = reads_keep later

told_alone : (key : Chrn) (look : Look) → all_told_of (unless_found key look) ≡ told_of key look
told_alone key (Found deleted place) = refl
told_alone key NoMark = refl
told_alone key NoSector = refl
told_alone key NoData = refl
told_alone key BadCrc = refl

pub told_more : (key : Chrn) (look : Look) (rest : List (Chrn × Look)) → all_told_of (unless_found key look ++ rest) ≡ told_of key look ++ all_told_of rest
told_more key look rest = grind (arith, flat_map-append, told_alone)

-- the reads of some keys tell which of these keys aren't found
pub reads_tell : (disk : Disk) (count : ℕ) (keys : List Chrn) (failed : List (Chrn × Look)) (old new : State) (told after : Option Files)
    (course : List Taken)
    → disk.cylinders ≤ 80 → disk.heads ≤ 2 → IsUnmistaken disk → All (IsStandardKey disk) keys → AreFailing disk keys failed
    → Run old told course new after → requests_of course ≡ read_each 0 keys → Holds disk count old.station
    → IsUndisturbed 0 old.station.counters new.station.counters → refused_reads course ≡ all_told_of failed
reads_tell disk count [] failed old new told after [] few_cylinders few_heads unmistaken standard failing run all holds quiet = ap all_told_of (sym failing)
reads_tell disk count (key ∷ keys) failed old new told after (taken ∷ later) few_cylinders few_heads unmistaken standard failing run all holds quiet =
    let asked : taken.asked ≡ request.Read 0 key 0x10000 = cc all in
    let others : requests_of later ≡ read_each 0 keys = cc all in
    let is_standard : IsStandardKey disk key = standard 0 key (omega arith) in
    let does = subst (λ (q : Request). Step q old told taken.answer taken.after run.0) asked run.1 in
    let here = step_never_fell old taken.after told run.0 (request.Read 0 key 0x10000) taken.answer does refl in
    let keep = subst (λ (requests : List Request). list_all keeps_drives requests ≡ true) (sym others) (reads_keep keys) in
    let there = run_never_fell taken.after new run.0 after later run.2 keep in
    let parts = quiet_parts old.station.counters taken.after.station.counters new.station.counters here there quiet in
    let tells = one_read disk count key old taken.after told run.0 taken.answer few_cylinders few_heads unmistaken is_standard does holds parts.0 here in
    let same : tells.look ≡ failing.0 = one_look_for (track_of disk key.c key.h) key tells.look failing.0 tells.looked (failing.2.there is_standard.track) in
    let rest = reads_tell disk count keys failing.1 taken.after new run.0 after later few_cylinders few_heads unmistaken (λ i d below. standard (suc i) d (omega arith)) failing.4 run.2 others tells.holds parts.1 in
    let first : refused_read taken.asked taken.answer ≡ told_of key failing.0 = ap (λ (q : Request). refused_read q taken.answer) asked ∙ tells.told ∙ ap (told_of key) same in
    ap (λ (row : List (Chrn × Code)). row ++ refused_reads later) first
    ∙ ap (λ (row : List (Chrn × Code)). told_of key failing.0 ++ row) rest
    ∙ sym (told_more key failing.0 failing.1)
    ∙ ap all_told_of (sym failing.3)
reads_tell disk count _ failed old new told after _ few_cylinders few_heads unmistaken standard failing run all holds quiet = absurd (cc all)

-- ---- the run that reads a whole disk

-- ---- the standard keys

all_range : {X : Type 0} (P : X → Type 0) (f : ℕ → List X) (a n : ℕ) → ((k : ℕ) → k < a + n → All P (f k)) → All P (flat_map f (range_with_len a n))
all_range P f a zero each = All-nil P
all_range P f a (suc n) each = All-append P (f a) _ (each a (omega arith)) (all_range P f (a + 1) n (λ k below. each k (omega arith)))

pub standard_all : (disk : Disk) → All (IsStandardKey disk) (standard_keys disk)
unfolding standard_keys cylinder_keys
standard_all disk =
    all_range (IsStandardKey disk) (cylinder_keys (sectors_at disk.rate) disk.heads) 0 disk.cylinders (λ c cylinder.
    all_range (IsStandardKey disk) (track_keys (sectors_at disk.rate) c) 0 disk.heads (λ h head.
    all_track_keys (sectors_at disk.rate) c h (IsStandardKey disk) (λ r least most.
    record { track = (omega (arith, cylinder), omega (arith, head)); sector = (least, most); size = refl })))

-- ---- the disk of a name

-- the file of a name is the image of only one disk
pub one_image : (files : Files) (name : List ℕ) (a b : Disk) → IsImageOf (Some files) name a → IsImageOf (Some files) name b → a ≡ b
one_image files name a b one two = grind arith

-- the fields of such a disk are in range
pub image_ranges : (files : Files) (name : List ℕ) (disk : Disk) → IsImageOf (Some files) name disk
    → (disk.cylinders ≤ 80) × (disk.heads ≤ 2) × (1 ≤ disk.cylinders) × (disk.words_per_track ≤ 16384)
image_ranges files name disk is = grind (arith, image_range)

-- ---- the opening

-- bay 0 is ready after the opening, and nothing disturbs it until the run ends with these counters
record IsOpened (disk : Disk) (new : State) (end : Counters) : Type 0 where
  pub count : ℕ
  pub holds : Holds disk count new.station
  pub quiet : IsUndisturbed 0 new.station.counters end

opens : (name : List ℕ) (disk : Disk) (files : Files) (old new : State) (after : Option Files) (course : List Taken) (end : Counters)
    → IsImageOf (Some files) name disk → DoesAll (verify_opening name disk) old (Some files) course new after → NeverFell new.station.counters end
    → IsUndisturbed 0 old.station.counters end → IsOpened disk new end
opens name disk files old new after course end image all last quiet =
    let one = begins old new (Some files) after (request.Insert 0 name) (request.Ack 0 ∷ rate_requests disk.rate 0) course all in
    let put = one.does.2 in
    let same : put.0 ≡ disk = one_image files name put.0 disk put.1 image in
    let medium : (bay_of one.mid.station 0).medium ≡ Some disk = ap (λ (s : StationState). (bay_of s 0).medium) put.2.exchanged.becomes ∙ ap (λ (d : Disk). Some d) same in
    let whole = subst (λ (requests : List Request). DoesAll (request.Ack 0 ∷ requests) one.mid one.files one.later new after)
    (sym (append-nil (rate_requests disk.rate 0))) one.behind in
    let ready = readies 0 disk [] one.mid new one.files after one.later whole medium in
    let there = (ends_there ready.mid new ready.files after ready.course ready.behind).0 in
    let first = step_never_fell old one.mid (Some files) one.files (request.Insert 0 name) one.answer one.step refl in
    let second = ready.first in
    let third = ready.later in
    let fourth = subst (λ (s : State). NeverFell s.station.counters end) there last in
    let count = faults_of ready.acked.station.counters 0 in
    let holds : Holds disk count ready.mid.station = record {
      medium = ready.medium;
      rate = ready.rate;
      acknowledged = ready.kept;
      faults = omega (arith, first.first, second.first, third.first, fourth.first, first.stalls, second.stalls, third.stalls, fourth.stalls, quiet.together);
    } in
    let calm : IsUndisturbed 0 ready.mid.station.counters end = record {
      faults = quiet.faults;
      stalls = quiet.stalls;
      together = omega (arith, first.first, second.first, third.first, first.stalls, second.stalls, third.stalls, quiet.together);
    } in
    record {
      count = count;
      holds = subst (λ (s : State). Holds disk count s.station) (sym there) holds;
      quiet = subst (λ (s : State). IsUndisturbed 0 s.station.counters end) (sym there) calm;
    }

-- the requests of the opening are no reads
pub opening_tells : (name : List ℕ) (disk : Disk) (course : List Taken) → requests_of course ≡ verify_opening name disk → refused_reads course ≡ []
opening_tells name disk [] all = refl
opening_tells name disk (one ∷ []) all = absurd (cc all)
opening_tells name disk (one ∷ two ∷ later) all =
    let first : one.asked ≡ request.Insert 0 name = cc all in
    let second : two.asked ≡ request.Ack 0 = cc all in
    let rest : requests_of later ≡ rate_requests disk.rate 0 = cc all in
    ap (λ (q : Request). refused_read q one.answer ++ (refused_read two.asked two.answer ++ refused_reads later)) first
    ∙ ap (λ (q : Request). refused_read q two.answer ++ refused_reads later) second
    ∙ go disk.rate later rest
  where
    go : (rate : Rate) (course : List Taken) → requests_of course ≡ rate_requests rate 0 → refused_reads course ≡ []
    go R500 [] all = refl
    go R500 (taken ∷ later) all = absurd (cc all)
    go R250 [] all = refl
    go R250 (taken ∷ []) all = search
    go R250 (taken ∷ next ∷ later) all = absurd (cc all)

-- the reads of a whole disk tell which of its standard keys aren't found
pub disk_tells : (old new : State) (files : Files) (name : List ℕ) (disk : Disk) (course : List Taken) (after : Option Files) (failed : List (Chrn × Look))
    → ReadsDisk name disk old files course new after → IsUndisturbed 0 old.station.counters new.station.counters → IsUnmistaken disk
    → AreFailing disk (standard_keys disk) failed → refused_reads course ≡ all_told_of failed
disk_tells old new files name disk course after failed all quiet unmistaken failing =
    let parts = splits_run old new (Some files) after (verify_opening name disk) (read_each 0 (standard_keys disk)) course all.run all.all in
    let done = subst (λ (row : List Taken). has_refusal row ≡ false) parts.begun all.opened in
    let keep = subst (λ (requests : List Request). list_all keeps_drives requests ≡ true) (sym parts.all_two) (reads_keep (standard_keys disk)) in
    let last = run_never_fell parts.mid new parts.files after parts.two parts.run_two keep in
    let start = opens name disk files old parts.mid parts.files parts.one new.station.counters all.image (record { run = parts.run_one; all = parts.all_one; done = done }) last quiet in
    let ranges = image_ranges files name disk all.image in
    let told = reads_tell disk start.count (standard_keys disk) failed parts.mid new parts.files after parts.two ranges.0 ranges.1 unmistaken (standard_all disk) failing parts.run_two parts.all_two start.holds start.quiet in
    ap refused_reads parts.is
    ∙ flat_map-append (λ (taken : Taken). refused_read taken.asked taken.answer) parts.one parts.two
    ∙ ap (λ (row : List (Chrn × Code)). row ++ refused_reads parts.two) (opening_tells name disk parts.one parts.all_one)
    ∙ told
