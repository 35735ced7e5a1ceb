-- The records of a track in memory, where each was read to its own place.
use Rattle.std.proofs.Common.{arith, ◌≡◌, ◌∙◌, ◌+◌, ◌*◌, ◌≤◌, ℕ, zero, suc, Bool, true, false, true≢false, List, [], ◌∷◌, ◌++◌, map, length, refl, sym, ap, subst, inl, inr, Option, Some, Result, Ok, Err, IsOk, All}
use Rattle.laws_commands.proofs.Common.{range_with_len, list_all, length-map-range_with_len, Files, Chrn, Code, Disk, HasTrack, track_of, Two, in_bay, Counters, IsAddressAt, IsSector, IsUnder, IsLone, key_cylinder, with_items, user_bytes, bytes_from, Request, key_of, Reply, read_refusal, ReadsDrive, IsRead, StationState, Bay, bay_of, State, Step, Does, read_reply, is_refusal, Taken, requests_of, has_refusal, DoesAll, record_address, read_records, mark_of, marks_read, SomeStep, Gave, IsFieldOf, IsSure, length-with_items, cases_eq, gap_at, standard_fill, Rate, IsDisk, IsFaultless, Format, Laying, formatted, format_at, AreAlike, KeepsTracks, laying_keeps_tracks, alike_itself, alike_both, alike_tracks, keeps_itself, LaysDisk, Lays, FormatsDrive, format_refusal, Track, format_each}
use Rattle.track_model.specs.Bytes.{byte_at, bytes_at}
use Rattle.laws_commands.proofs.Steps.{NeverFell, step_never_fell, never_fell, keeps_drives, reached, or_false, done_does, below_stays, at_stands, begins, ends_there, ok_called, Among}
use Rattle.std.specs.Prelude.{◌⊎◌}
use Rattle.floppy_jobs.specs.declared.request.Request.TheVariants as request

-- ---- one read

pub length-bytes_at : (track : List ℕ) (place count : ℕ) → length (bytes_at track place count) ≡ count
length-bytes_at track place count = length-map-range_with_len (λ i. byte_at track (place + 16 * i)) 0 count

ok_read : (called : Result Bool Code) (answer : Reply) → answer ≡ read_reply called → is_refusal answer ≡ false → (deleted : Bool) × (called ≡ Ok deleted)
ok_read (Ok deleted) answer e done = (deleted, refl)
ok_read (Err code) answer e done = absurd (true≢false (subst (λ (r : Reply). is_refusal r ≡ false) e done))

-- what the read of a record did
pub record ReadsOne (c h r : ℕ) (source : Disk) (old : State) (told : Option Files) (answer : Reply) (new : State) (after : Option Files) : Type 0 where
  pub deleted : Bool
  pub mark : mark_of (request.Read 0 (key_of c h r) (record_address r)) answer ≡ deleted ∷ []
  pub content : List ℕ
  pub sized : length content ≡ 512
  pub memory : new.station.memory ≡ with_items old.station.memory (record_address r) content
  pub bays : new.station.bays ≡ old.station.bays
  pub names : new.names ≡ old.names
  pub files : after ≡ told
  pub field : (b : ℕ) × HasTrack source b h × IsUnder (track_of source b h) (key_of c h r) deleted content
  pub sector : IsSure source old.station.counters new.station.counters → IsSector (track_of source c h) (key_of c h r) deleted content

-- what is read of a regular disk is a sector on the track of its key
pub read_sector : (key : Chrn) (address : ℕ) (deleted : Bool) (source : Disk) (old new : StationState) (found : IsRead 0 key address old deleted new)
    → (bay_of old 0).medium ≡ Some source → IsSure source old.counters new.counters
    → IsSector (track_of source key.c key.h) key deleted found.content
read_sector key address deleted source old new found medium sure =
    let same : found.disk ≡ source = cc (found.medium, medium) in
    let track = subst (λ (d : Disk). HasTrack d found.cylinder key.h) same found.track in
    let field = subst (λ (d : Disk). IsAddressAt (track_of d found.cylinder key.h) found.place key) same found.address_field in
    let cylinder = (key_cylinder source found.cylinder key.h found.place key sure.0 track field).0 in
    let sector = elim sure.1 as (λ _. IsSector (track_of found.disk found.cylinder key.h) key deleted found.content) [
      | inl faultless ↦ found.sector (inl faultless)
      | inr lone ↦ found.sector (inr (subst (λ (d : Disk). IsLone (track_of d found.cylinder key.h) found.place) (sym same) (lone found.cylinder key.h found.place key track field)))
    ] in
    let on_source = subst (λ (d : Disk). IsSector (track_of d found.cylinder key.h) key deleted found.content) same sector in
    subst (λ (b : ℕ). IsSector (track_of source b key.h) key deleted found.content) (sym cylinder) on_source

told_mark : (key : Chrn) (address : ℕ) (deleted : Bool) → mark_of (request.Read 0 key address) (read_reply (Ok deleted)) ≡ deleted ∷ []
told_mark key address true = refl
told_mark key address false = refl

pub one_record : (c h r : ℕ) (source : Disk) (old new : State) (told after : Option Files) (answer : Reply)
    → Does (request.Read 0 (key_of c h r) (record_address r)) old told answer new after → is_refusal answer ≡ false
    → (bay_of old.station 0).medium ≡ Some source → ReadsOne c h r source old told answer new after
one_record c h r source old new told after answer does done medium =
    let key = key_of c h r in
    let address = record_address r in
    let ok = ok_read does.1.0 answer does.1.1 done in
    let is_ok : IsOk does.1.0 = rw ok.1 refl in
    let drive = reached (read_refusal old.station 0 key address) does.1.0 old.station new.station does.1.2 is_ok in
    let there = subst (λ (r : Result Bool Code). ReadsDrive 0 key address old.station r new.station) ok.1 drive in
    let found = there.found in
    let same : found.disk ≡ source = cc (found.medium, medium) in
    record {
      deleted = ok.0;
      mark = ap (mark_of (request.Read 0 key address)) (does.1.1 ∙ ap read_reply ok.1) ∙ told_mark key address ok.0;
      content = found.content;
      sized = ap length found.whole.content_is ∙ length-bytes_at (track_of found.disk found.cylinder h) (found.mark + 64) 512;
      memory = ap (λ (s : StationState). s.memory) found.becomes;
      bays = ap (λ (s : StationState). s.bays) found.becomes;
      names = does.0.names;
      files = does.0.files;
      field =
          subst (λ (d : Disk). (b : ℕ) × HasTrack d b h × IsUnder (track_of d b h) key ok.0 found.content) same
          (found.cylinder, found.track, (found.place, found.mark, found.address_field, found.data_mark, found.whole));
      sector = read_sector key address ok.0 source old.station new.station found medium;
    }

-- reads that are sure are sure in both parts of the run
pub sure_parts : (source : Disk) (old mid new : Counters) → NeverFell old mid → NeverFell mid new → IsSure source old new
    → IsSure source old mid × IsSure source mid new
sure_parts source old mid new one two (regular, inl faultless) = (
  (regular, inl (omega (arith, one.first, two.first, faultless.0), omega (arith, two.first, faultless.1))),
  (regular, inl (omega (arith, one.first, two.first, faultless.0), faultless.1)),
)
sure_parts source old mid new one two (regular, inr lone) = ((regular, inr lone), (regular, inr lone))

-- ---- the records of a track

-- the record was read with this mark, and its content is at its place in memory
pub record IsGiven (sure : Type 0) (source : Disk) (course : List Taken) (memory : List ℕ) (c h r : ℕ) (deleted : Bool) : Type 0 where
  pub step : SomeStep (Gave (key_of c h r) deleted (bytes_from memory (record_address r) 512)) course
  pub sector : sure → IsSector (track_of source c h) (key_of c h r) deleted (bytes_from memory (record_address r) 512)
  pub field : IsFieldOf source (key_of c h r) deleted (bytes_from memory (record_address r) 512)

-- each record from a on was read with its mark, and its content is at its place in memory
abbrev pub AreGiven : Type 0 → Disk → List Taken → List ℕ → ℕ → ℕ → ℕ → List Bool → Type 0
AreGiven sure source course memory c h a [] = Unit {0}
AreGiven sure source course memory c h a (deleted ∷ marks) = IsGiven sure source course memory c h a deleted × AreGiven sure source course memory c h (a + 1) marks

-- what was given in a course was also given in a longer course
pub given_later : (sure : Type 0) (source : Disk) (taken : Taken) (course : List Taken) (memory : List ℕ) (c h a : ℕ) (marks : List Bool)
    → AreGiven sure source course memory c h a marks → AreGiven sure source (taken ∷ course) memory c h a marks
given_later sure source taken course memory c h a [] given = tt
given_later sure source taken course memory c h a (deleted ∷ marks) given =
    (record { step = inr given.0.step; sector = given.0.sector; field = given.0.field }, given_later sure source taken course memory c h (a + 1) marks given.1)

-- what the reads of n records from a on did
pub record ReadsAll (sure : Type 0) (source : Disk) (c h a n : ℕ) (old : State) (told : Option Files) (course : List Taken) (new : State) (after : Option Files) : Type 0 where
  pub marks : List Bool
  pub marks_are : marks_read course ≡ marks
  pub count : length marks ≡ n
  pub given : AreGiven sure source course new.station.memory c h a marks
  pub below : (place : ℕ) → place + 512 ≤ record_address a → bytes_from new.station.memory place 512 ≡ bytes_from old.station.memory place 512
  pub size : length new.station.memory ≡ user_bytes
  pub bays : new.station.bays ≡ old.station.bays
  pub names : new.names ≡ old.names
  pub files : after ≡ told

abbrev pub keys_from : ℕ → ℕ → ℕ → ℕ → List Chrn
keys_from c h a n = map (key_of c h) (range_with_len a n)

pub reads_keep : (keys : List Chrn) → list_all keeps_drives (read_records 0 keys) ≡ true
reads_keep [] = refl
reads_keep (key ∷ later) = reads_keep later

pub all_records : (sure : Type 0) (source : Disk) (c h a n : ℕ) (old new : State) (told after : Option Files) (course : List Taken)
    → DoesAll (read_records 0 (keys_from c h a n)) old told course new after → length old.station.memory ≡ user_bytes → 1 ≤ a → a + n ≤ 19
    → (bay_of old.station 0).medium ≡ Some source → (sure → IsSure source old.station.counters new.station.counters)
    → ReadsAll sure source c h a n old told course new after
all_records sure source c h a zero old new told after [] all size least most medium calm = record {
  marks = [];
  marks_are = refl;
  count = refl;
  given = tt;
  below = λ place inside. ap (λ (s : State). bytes_from s.station.memory place 512) all.run.0;
  size = ap (λ (s : State). length s.station.memory) all.run.0 ∙ size;
  bays = ap (λ (s : State). s.station.bays) all.run.0;
  names = ap (λ (s : State). s.names) all.run.0;
  files = all.run.1;
}
all_records sure source c h a (suc n) old new told after (taken ∷ later) all size least most medium calm =
    let key = key_of c h a in
    let address = record_address a in
    let e = all.all in
    let asked : taken.asked ≡ request.Read 0 key address = cc e in
    let others : requests_of later ≡ read_records 0 (keys_from c h (a + 1) n) = cc e in
    let parts = or_false (is_refusal taken.answer) (has_refusal later) all.done in
    let step = subst (λ (q : Request). Step q old told taken.answer taken.after all.run.0) asked all.run.1 in
    let does = done_does old taken.after told all.run.0 (request.Read 0 key address) taken.answer step parts.0 in
    let one = one_record c h a source old taken.after told all.run.0 taken.answer does parts.0 medium in
    let sized = one.sized in
    let fits : address + length one.content ≤ length old.station.memory = omega arith in
    let same_size : length taken.after.station.memory ≡ user_bytes = ap length one.memory ∙ length-with_items old.station.memory address one.content fits ∙ size in
    let behind : DoesAll (read_records 0 (keys_from c h (a + 1) n)) taken.after all.run.0 later new after = record { run = all.run.2; all = others; done = parts.1 } in
    let fell = step_never_fell old taken.after told all.run.0 (request.Read 0 key address) taken.answer step refl in
    let fell_later = never_fell taken.after new all.run.0 after (read_records 0 (keys_from c h (a + 1) n)) later behind (reads_keep (keys_from c h (a + 1) n)) in
    let still = ap (λ (bays : Two Bay). (in_bay bays 0).medium) one.bays ∙ medium in
    let calms = λ (s : sure). sure_parts source old.station.counters taken.after.station.counters new.station.counters fell fell_later (calm s) in
    let rest = all_records sure source c h (a + 1) n taken.after new all.run.0 after later behind same_size (omega arith) (omega arith) still (λ s. (calms s).1) in
    let placed : bytes_from taken.after.station.memory address 512 ≡ one.content = ap (λ (m : List ℕ). bytes_from m address 512) one.memory ∙ at_stands old.station.memory address one.content 512 sized fits in
    let stays : bytes_from new.station.memory address 512 ≡ bytes_from taken.after.station.memory address 512 = rest.below address (omega arith) in
    let marked : mark_of taken.asked taken.answer ≡ one.deleted ∷ [] = ap (λ (q : Request). mark_of q taken.answer) asked ∙ one.mark in
    record {
      marks = one.deleted ∷ rest.marks;
      marks_are = ap (λ (row : List Bool). row ++ marks_read later) marked ∙ ap (λ (row : List Bool). one.deleted ∷ row) rest.marks_are;
      count = let count = rest.count in omega arith;
      given = (
        record {
          step = inl (record { address = address; asked = asked; mark = marked; content = stays });
          sector = λ s. subst (λ (bytes : List ℕ). IsSector (track_of source c h) key one.deleted bytes) (sym (stays ∙ placed)) (one.sector (calms s).0);
          field = subst (λ (bytes : List ℕ). IsFieldOf source key one.deleted bytes) (sym (stays ∙ placed)) one.field;
        },
        given_later sure source taken later new.station.memory c h (a + 1) rest.marks rest.given,
      );
      below = λ place inside.
          rest.below place (omega arith)
          ∙ ap (λ (m : List ℕ). bytes_from m place 512) one.memory
          ∙ below_stays old.station.memory address one.content place 512 fits inside;
      size = rest.size;
      bays = rest.bays ∙ one.bays;
      names = rest.names ∙ one.names;
      files = rest.files ∙ one.files;
    }
all_records sure source c h a _ old new told after _ all size least most medium calm = let e = all.all in absurd (cc e)

-- ---- formats of tracks one after the other

-- several layings of one cylinder keep the other tracks
lays_keep : (format : Format) (disk : Disk) (layings : List Laying) (after : Disk) → IsDisk disk → All (λ laying. laying.cylinder ≡ format.c) layings
    → LaysDisk format disk layings after → KeepsTracks disk format.c format.h after
lays_keep format disk [] after valid only lays = subst (KeepsTracks disk format.c format.h) (sym lays) (keeps_itself disk format.c format.h valid)
lays_keep format disk (laying ∷ later) after valid only lays =
    let here : laying.cylinder ≡ format.c = only 0 laying (omega arith) in
    let first = subst (λ (c : ℕ). KeepsTracks disk c format.h lays.0) here (laying_keeps_tracks format disk laying lays.0 lays.1) in
    let rest = lays_keep format lays.0 later after first.alike.valid (λ i d below. only (suc i) d (omega arith)) lays.2 in
    record {
      alike = alike_both disk lays.0 after first.alike rest.alike;
      others = λ b g has other.
          rest.others b g ((alike_tracks disk lays.0 b g first.alike).0 has) other ∙ first.others b g has other;
    }

-- what one format did to the disk in bay 0
pub record FormatsOne (rate : Rate) (c h : ℕ) (disk : Disk) (old : State) (told : Option Files) (new : State) (after : Option Files) : Type 0 where
  pub next : Disk
  pub medium : (bay_of new.station 0).medium ≡ Some next
  pub bay_rate : (bay_of new.station 0).rate ≡ rate
  pub keeps : KeepsTracks disk c h next
  pub laid : track_of next c h ≡ formatted (format_at c h rate (gap_at rate) standard_fill) disk.words_per_track
  pub memory : new.station.memory ≡ old.station.memory
  pub names : new.names ≡ old.names
  pub files : after ≡ told

same_some : {X : Type 0} (o : Option X) (x y : X) → o ≡ Some x → o ≡ Some y → x ≡ y
same_some o x y e f = cc

-- a list of layings leads from the disk before to the disk after, if these are in the bay
lays_in : (format : Format) (before after : Option Disk) (disk next : Disk) (layings : List Laying) → before ≡ Some disk → after ≡ Some next
    → Lays format before layings after → LaysDisk format disk layings next
lays_in format before after disk next layings e f lays = grind arith

pub drive_formats : (bay : ℕ) (rate : Rate) (c h : ℕ) (disk : Disk) (old new : StationState) (called : Result (Unit {0}) Code)
    → FormatsDrive (format_at c h rate (gap_at rate) standard_fill) bay old called new → IsOk called → IsFaultless bay old.counters new.counters
    → (bay_of old bay).medium ≡ Some disk → IsDisk disk
    → (next : Disk) × ((bay_of new bay).medium ≡ Some next) × KeepsTracks disk c h next
    × (track_of next c h ≡ formatted (format_at c h rate (gap_at rate) standard_fill) disk.words_per_track)
drive_formats bay rate c h disk old new called drive ok faultless medium valid = grind (arith, same_some, lays_keep, lays_in)

pub one_format : (rate : Rate) (c h : ℕ) (disk : Disk) (old new : State) (told after : Option Files) (answer : Reply)
    → Does (request.Format 0 c h) old told answer new after → is_refusal answer ≡ false → IsFaultless 0 old.station.counters new.station.counters
    → (bay_of old.station 0).medium ≡ Some disk → (bay_of old.station 0).rate ≡ rate → IsDisk disk → FormatsOne rate c h disk old told new after
one_format rate c h disk old new told after answer does done faultless medium bay_rate valid =
    let called = does.1.0 in
    let ok = ok_called called answer does.1.1 done in
    let drive = reached (format_refusal old.station 0 c h (gap_at (bay_of old.station 0).rate)) called old.station new.station does.1.2 ok in
    let at = subst (λ (r : Rate). FormatsDrive (format_at c h r (gap_at r) standard_fill) 0 old.station called new.station) bay_rate drive in
    let formats = drive_formats 0 rate c h disk old.station new.station called at ok faultless medium valid in
    search (ap (λ (s : StationState). (bay_of s 0).rate) drive.becomes ∙ bay_rate, ap (λ (s : StationState). s.memory) drive.becomes)

-- What formats of tracks did to the disk in bay 0. Each of these tracks is laid, and a track that was laid in this way
-- before stays.
pub record FormatsTracks (rate : Rate) (tracks : List Track) (disk : Disk) (old : State) (told : Option Files) (new : State) (after : Option Files) : Type 0 where
  pub final : Disk
  pub medium : (bay_of new.station 0).medium ≡ Some final
  pub alike : AreAlike disk final
  pub laid : (c h : ℕ) → HasTrack disk c h
      → (Among tracks c h ⊎ (track_of disk c h ≡ formatted (format_at c h rate (gap_at rate) standard_fill) disk.words_per_track))
      → track_of final c h ≡ formatted (format_at c h rate (gap_at rate) standard_fill) disk.words_per_track
  pub names : new.names ≡ old.names
  pub files : after ≡ told

-- the formatted track at a place
abbrev at_place : Rate → ℕ → ℕ → ℕ → List ℕ
at_place rate words c h = formatted (format_at c h rate (gap_at rate) standard_fill) words

-- after the formats that follow the first
module _ (rate : Rate) (b g : ℕ) (disk next final : Disk) (later : List Track) (keeps : KeepsTracks disk b g next) (first : track_of next b g ≡ at_place rate disk.words_per_track b g) (rest : (c h : ℕ) → HasTrack next c h → (Among later c h ⊎ (track_of next c h ≡ at_place rate next.words_per_track c h)) → track_of final c h ≡ at_place rate next.words_per_track c h) where
  goes_on : (c h : ℕ) → HasTrack disk c h → (Among later c h ⊎ (track_of next c h ≡ at_place rate disk.words_per_track c h))
      → track_of final c h ≡ at_place rate disk.words_per_track c h
  goes_on c h has which = grind (arith, alike_tracks)

  elsewhere : (c h : ℕ) → HasTrack disk c h → (c ≡ b → h ≡ g → ⊥)
      → (Among ((b, g) ∷ later) c h ⊎ (track_of disk c h ≡ at_place rate disk.words_per_track c h))
      → track_of final c h ≡ at_place rate disk.words_per_track c h
  elsewhere c h has other (inl (inl here)) = absurd (other (sym here.0) (sym here.1))
  elsewhere c h has other (inl (inr among)) = goes_on c h has (inl among)
  elsewhere c h has other (inr laid) = goes_on c h has (inr (keeps.others c h has other ∙ laid))

  at_first : (c h : ℕ) → c ≡ b → h ≡ g → track_of next c h ≡ at_place rate disk.words_per_track c h
  at_first c h same_c same_h = grind (arith, first)

  laid_still : (c h : ℕ) → HasTrack disk c h → (Among ((b, g) ∷ later) c h ⊎ (track_of disk c h ≡ at_place rate disk.words_per_track c h))
      → track_of final c h ≡ at_place rate disk.words_per_track c h
  laid_still c h has which = elim (cases_eq c b) [
    | inl same_c ↦ elim (cases_eq h g) [
      | inl same_h ↦ goes_on c h has (inr (at_first c h same_c same_h))
      | inr other ↦ elsewhere c h has (λ _ e. other e) which
    ]
    | inr other ↦ elsewhere c h has (λ e _. other e) which
  ]

pub formats_keep : (tracks : List Track) → list_all keeps_drives (format_each 0 tracks) ≡ true
formats_keep [] = refl
formats_keep (track ∷ later) = formats_keep later

pub each_format : (rate : Rate) (tracks : List Track) (disk : Disk) (old new : State) (told after : Option Files) (course : List Taken)
    → DoesAll (format_each 0 tracks) old told course new after → IsFaultless 0 old.station.counters new.station.counters
    → (bay_of old.station 0).medium ≡ Some disk → (bay_of old.station 0).rate ≡ rate → IsDisk disk → FormatsTracks rate tracks disk old told new after
each_format rate [] disk old new told after course all faultless medium bay_rate valid =
    let same = ends_there old new told after course all in
    record {
      final = disk;
      medium = subst (λ (s : State). (bay_of s.station 0).medium ≡ Some disk) (sym same.0) medium;
      alike = alike_itself disk valid;
      laid = λ c h has which. elim which [ inl among ↦ absurd among | inr laid ↦ laid ];
      names = ap (λ (s : State). s.names) same.0;
      files = same.1;
    }
each_format rate (track ∷ later) disk old new told after course all faultless medium bay_rate valid =
    let first = begins old new told after (request.Format 0 track.0 track.1) (format_each 0 later) course all in
    let here = step_never_fell old first.mid told first.files (request.Format 0 track.0 track.1) first.answer first.step refl in
    let there = never_fell first.mid new first.files after (format_each 0 later) first.later first.behind (formats_keep later) in
    let one = one_format rate track.0 track.1 disk old first.mid told first.files first.answer first.does first.done (omega arith, omega arith) medium bay_rate valid in
    let rest = each_format rate later one.next first.mid new first.files after first.later first.behind (omega arith, omega arith) one.medium one.bay_rate one.keeps.alike.valid in
    record {
      final = rest.final;
      medium = rest.medium;
      alike = alike_both disk one.next rest.final one.keeps.alike rest.alike;
      laid = λ c h has which.
          laid_still rate track.0 track.1 disk one.next rest.final later one.keeps one.laid rest.laid c h has which;
      names = rest.names ∙ one.names;
      files = rest.files ∙ one.files;
    }
