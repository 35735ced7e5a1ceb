-- The run that copies a disk.
use Rattle.std.proofs.Common.{arith, ◌≡◌, ◌∙◌, ◌≤◌, ℕ, Bool, true, false, List, [], ◌∷◌, ◌++◌, take, drop, refl, sym, ap, subst, inl, inr, Option, length, Some}
use Rattle.std.specs.Prelude.{◌⊎◌, ◌&&◌}
use Rattle.laws_commands.proofs.Common.{list_all, cases_eq, drop_at, Files, sectors_at, Rate, Disk, HasTrack, track_of, IsFaultless, IsLaid, Request, AreAlike, KeepsTracks, key_of, alike_itself, alike_both, alike_tracks, elsewhere_on_map, State, Taken, DoesAll, Track, copy_track, copy_each, marks_read, write_records, read_records, SomeStep, Gave, HasAsGiven, IsSure, copied_entry, HasLaidFields, track_keys, append-nil, stored, R500, R250, IsDisk, file_of, Two, in_bay, user_bytes, StationState, Bay, bay_of, IsImageOf, blank_of, blank_request, rate_requests, copy_opening, tracks_of, StoresCopy, CopiesDisk}
use Rattle.laws_commands.proofs.CopiedTrack.{IsReady, copies_track, given_in, marks-append, some_first, some_second, both_fell, is_no_read, no_marks}
use Rattle.laws_commands.proofs.DiskRecords.{reads_keep, sure_parts}
use Rattle.laws_commands.proofs.Steps.{and_both, splits, ends_there, never_fell, keeps_drives, Among, begins, among_all, among_only, still_laid}
use Rattle.laws_commands.proofs.Written.{AllTidy, writes_keep, blank_regular, blank_fields}
use Rattle.laws_commands.proofs.Prepared.{blanks, readies}
use Rattle.laws_commands.proofs.Verified.{one_image, image_ranges}
use Rattle.floppy_jobs.specs.declared.request.Request.TheVariants as request

pub all_and : (a b : Bool) → a ≡ true → b ≡ true → (a && b) ≡ true
all_and true b e f = f
all_and false b e f = e

pub keeps-append : (one two : List Request) → list_all keeps_drives one ≡ true → list_all keeps_drives two ≡ true → list_all keeps_drives (one ++ two) ≡ true
keeps-append [] two e f = f
keeps-append (asked ∷ one) two e f =
    let both = and_both (keeps_drives asked) (list_all keeps_drives one) e in
    all_and (keeps_drives asked) (list_all keeps_drives (one ++ two)) both.0 (keeps-append one two both.1 f)

pub copies_keep : (rate : Rate) (tracks : List Track) (marks : List Bool) → list_all keeps_drives (copy_each rate tracks marks) ≡ true
copies_keep rate [] marks = refl
copies_keep rate (track ∷ tracks) marks =
    grind (arith, keeps-append, reads_keep, writes_keep, copies_keep rate tracks (drop (sectors_at rate) marks))

-- What the copies of tracks made of the disk in bay 1. Each copied track is Laid, with its sectors as they were given.
-- Tracks that were so before stay so.
pub record CopiesTracks (sure : Type 0) (source : Disk) (at : Rate) (tracks : List Track) (whole : List Taken) (disk : Disk) (old : State) (told : Option Files) (new : State) (after : Option Files) : Type 0 where
  pub final : Disk
  pub ready : IsReady at source final new
  pub alike : AreAlike disk final
  pub laid : (c h : ℕ) → HasTrack disk c h → (Among tracks c h ⊎ IsLaid (track_of disk c h)) → IsLaid (track_of final c h)
  pub laid_fields : HasLaidFields disk → HasLaidFields final
  pub sectors : (c h r : ℕ) → HasTrack disk c h → 1 ≤ r → r ≤ sectors_at at → (Among tracks c h ⊎ HasAsGiven sure whole source disk c h r)
      → HasAsGiven sure whole source final c h r
  pub names : new.names ≡ old.names
  pub files : after ≡ told

-- what the reads of the course gave, they also gave in the whole course
abbrev IsPart : List Taken → List Taken → Type 0
IsPart course whole = (c h r : ℕ) (deleted : Bool) (content : List ℕ) → SomeStep (Gave (key_of c h r) deleted content) course → SomeStep (Gave (key_of c h r) deleted content) whole

-- a sector of another track stays as it was given
given_elsewhere : (sure : Type 0) (source : Disk) (whole : List Taken) (disk : Disk) (b g : ℕ) (next : Disk) (c h r : ℕ) → KeepsTracks disk b g next
    → (c ≡ b → h ≡ g → ⊥) → HasAsGiven sure whole source disk c h r → HasAsGiven sure whole source next c h r
given_elsewhere sure source whole disk b g next c h r keeps other (place, deleted, content, step, on, sector, field) =
    (place, deleted, content, step, (elsewhere_on_map disk b g next keeps (copied_entry c h r place deleted content) other).0 on, sector, field)

module _ (rate : Rate) (b g : ℕ) (later : List Track) (disk next : Disk) (keeps : KeepsTracks disk b g next) where
  -- after the first track was copied
  pub laid_still : IsLaid (track_of next b g) → (c h : ℕ) → HasTrack disk c h → (Among ((b, g) ∷ later) c h ⊎ IsLaid (track_of disk c h))
      → (Among later c h ⊎ IsLaid (track_of next c h))
  laid_still first c h has (inl (inr among)) = inl among
  laid_still first c h has (inl (inl here)) = inr (subst (λ k. IsLaid (track_of next k h)) here.0 (subst (λ k. IsLaid (track_of next b k)) here.1 first))
  laid_still first c h has (inr laid) = elim (cases_eq c b) [
    | inl same_c ↦ elim (cases_eq h g) [
      | inl same_h ↦ inr (subst (λ k. IsLaid (track_of next k h)) (sym same_c) (subst (λ k. IsLaid (track_of next b k)) (sym same_h) first))
      | inr other ↦ inr (subst IsLaid (sym (keeps.others c h has (λ _ e. other e))) laid)
    ]
    | inr other ↦ inr (subst IsLaid (sym (keeps.others c h has (λ e _. other e))) laid)
  ]

  given_still : (sure : Type 0) (source : Disk) (whole : List Taken) (r : ℕ) → HasAsGiven sure whole source next b g r → (c h : ℕ)
      → (Among ((b, g) ∷ later) c h ⊎ HasAsGiven sure whole source disk c h r) → (Among later c h ⊎ HasAsGiven sure whole source next c h r)
  given_still sure source whole r first c h (inl (inr among)) = inl among
  given_still sure source whole r first c h (inl (inl here)) = inr (subst (λ k. HasAsGiven sure whole source next k h r) here.0 (subst (λ k. HasAsGiven sure whole source next b k r) here.1 first))
  given_still sure source whole r first c h (inr given) = elim (cases_eq c b) [
    | inl same_c ↦ elim (cases_eq h g) [
      | inl same_h ↦ inr (subst (λ k. HasAsGiven sure whole source next k h r) (sym same_c) (subst (λ k. HasAsGiven sure whole source next b k r) (sym same_h) first))
      | inr other ↦ inr (given_elsewhere sure source whole disk b g next c h r keeps (λ _ e. other e) given)
    ]
    | inr other ↦ inr (given_elsewhere sure source whole disk b g next c h r keeps (λ e _. other e) given)
  ]

pub copies_each : (tidy : AllTidy) (sure : Type 0) (source : Disk) (rate : Rate) (tracks : List Track) (marks : List Bool) (whole : List Taken)
    (disk : Disk) (old new : State) (told after : Option Files) (course : List Taken)
    → DoesAll (copy_each rate tracks marks) old told course new after → marks ≡ marks_read course → IsPart course whole
    → ((c h : ℕ) → Among tracks c h → HasTrack disk c h) → IsReady rate source disk old → IsFaultless 1 old.station.counters new.station.counters
    → (sure → IsSure source old.station.counters new.station.counters) → CopiesTracks sure source rate tracks whole disk old told new after
copies_each tidy sure source rate [] marks whole disk old new told after course all asked part has ready faultless calm =
    let same = ends_there old new told after course all in
    record {
      final = disk;
      ready = subst (λ (s : State). IsReady rate source disk s) (sym same.0) ready;
      alike = alike_itself disk ready.valid;
      laid = λ c h has which. elim which [ inl among ↦ absurd among | inr laid ↦ laid ];
      laid_fields = λ had. had;
      sectors = λ c h r has least most which. elim which [ inl among ↦ absurd among | inr given ↦ given ];
      names = ap (λ (s : State). s.names) same.0;
      files = same.1;
    }
copies_each tidy sure source rate (track ∷ later) marks whole disk old new told after course all asked part has ready faultless calm =
    let b = track.0 in
    let g = track.1 in
    let sectors = sectors_at rate in
    let parts = splits old new told after (copy_track rate track (take sectors marks)) (copy_each rate later (drop sectors marks)) course all in
    let keys = track_keys sectors b g in
    let fell_first = never_fell old parts.mid told parts.files (copy_track rate track (take sectors marks)) parts.one parts.before (keeps-append (read_records 0 keys) (write_records 1 keys (take sectors marks)) (reads_keep keys) (writes_keep 1 keys (take sectors marks))) in
    let fell_later = never_fell parts.mid new parts.files after (copy_each rate later (drop sectors marks)) parts.two parts.behind (copies_keep rate later (drop sectors marks)) in
    let told_marks : marks ≡ marks_read parts.one ++ marks_read parts.two = asked ∙ ap marks_read parts.is ∙ marks-append parts.one parts.two in
    let here = has b g (inl (refl, refl)) in
    let calms = λ (s : sure). sure_parts source old.station.counters parts.mid.station.counters new.station.counters fell_first fell_later (calm s) in
    let one = copies_track tidy sure source rate b g (take sectors marks) (marks_read parts.two) disk old parts.mid told parts.files parts.one parts.before (ap (take sectors) told_marks) ready here (omega (arith, fell_later.second, faultless.0), omega (arith, fell_later.second, faultless.1)) (λ s. (calms s).0) in
    let later_marks : drop sectors marks ≡ marks_read parts.two = ap (drop sectors) told_marks ∙ drop_at (marks_read parts.one) (marks_read parts.two) sectors one.count in
    let part_one : IsPart parts.one whole = λ c h r deleted content step. part c h r deleted content (subst (SomeStep (Gave (key_of c h r) deleted content)) (sym parts.is) (some_first _ parts.one parts.two step)) in
    let part_two : IsPart parts.two whole = λ c h r deleted content step. part c h r deleted content (subst (SomeStep (Gave (key_of c h r) deleted content)) (sym parts.is) (some_second _ parts.one parts.two step)) in
    let alike = one.keeps.alike in
    let has_later = λ (c h : ℕ) (among : Among later c h). (alike_tracks disk one.final c h alike).0 (has c h (inr among)) in
    let rest = copies_each tidy sure source rate later (drop sectors marks) whole one.final parts.mid new parts.files after parts.two parts.behind later_marks part_two has_later one.ready (omega (arith, fell_first.second, faultless.0), faultless.1) (λ s. (calms s).1) in
    record {
      final = rest.final;
      ready = rest.ready;
      alike = alike_both disk one.final rest.final alike rest.alike;
      laid = λ c h had which. rest.laid c h ((alike_tracks disk one.final c h alike).0 had) (laid_still rate b g later disk one.final one.keeps one.laid c h had which);
      laid_fields = λ had. rest.laid_fields (still_laid disk one.final b g one.keeps had one.laid);
      sectors = λ c h r had least most which.
          let given = given_in sure source parts.one whole one.final b g r (part_one b g r) (one.sectors r least most) in
          rest.sectors c h r ((alike_tracks disk one.final c h alike).0 had) least most (given_still rate b g later disk one.final one.keeps sure source whole r given c h which);
      names = rest.names ∙ one.names;
      files = rest.files ∙ one.files;
    }

-- ---- the run of the command that copies a disk, from its opening to its last request

-- both media are in their bays
record AreIn (disk : Disk) (to : List ℕ) (files : Files) (rest : List Request) (new : State) (after : Option Files) : Type 0 where
  pub mid : State
  pub mid_files : Option Files
  pub course : List Taken
  pub valid : IsDisk (blank_of disk.cylinders disk.rate)
  pub first : (bay_of mid.station 0).medium ≡ Some disk
  pub second : (bay_of mid.station 1).medium ≡ Some (blank_of disk.cylinders disk.rate)
  pub size : length mid.station.memory ≡ user_bytes
  pub named : in_bay mid.names 1 ≡ Some to
  pub same_files : mid_files ≡ Some files
  pub behind : DoesAll rest mid mid_files course new after

are_in : (from to : List ℕ) (disk : Disk) (files : Files) (rest : List Request) (old new : State) (after : Option Files) (course : List Taken)
    → IsImageOf (Some files) from disk
    → DoesAll (request.Insert 0 from ∷ blank_request 1 to disk.cylinders disk.rate ∷ rest) old (Some files) course new after
    → length old.station.memory ≡ user_bytes → AreIn disk to files rest new after
are_in from to disk files rest old new after course image all size =
    let rate = disk.rate in
    let one = begins old new (Some files) after (request.Insert 0 from) (blank_request 1 to disk.cylinders rate ∷ rest) course all in
    let put = one.does.2 in
    let same : put.0 ≡ disk = one_image files from put.0 disk put.1 image in
    let inserted : (bay_of one.mid.station 0).medium ≡ Some disk = ap (λ (s : StationState). (bay_of s 0).medium) put.2.exchanged.becomes ∙ ap (λ (d : Disk). Some d) same in
    let two = begins one.mid new one.files after (blank_request 1 to disk.cylinders rate) rest one.later one.behind in
    let fresh = blanks 1 rate to disk.cylinders one.mid two.mid one.files two.files two.answer two.step two.done in
    record {
      mid = two.mid;
      mid_files = two.files;
      course = two.later;
      valid = fresh.valid;
      first = ap (λ (s : StationState). (bay_of s 0).medium) fresh.becomes ∙ inserted;
      second = fresh.medium;
      size = ap (λ (s : StationState). length s.memory) fresh.becomes ∙ ap (λ (s : StationState). length s.memory) put.2.exchanged.becomes ∙ size;
      named = ap (λ (n : Two (Option (List ℕ))). in_bay n 1) fresh.named;
      same_files = fresh.files ∙ one.does.1;
      behind = two.behind;
    }

-- both bays after the opening
pub record IsCopyOpened (disk : Disk) (to : List ℕ) (files : Files) (new : State) (after : Option Files) : Type 0 where
  pub valid : IsDisk (blank_of disk.cylinders disk.rate)
  pub first : (bay_of new.station 0).medium ≡ Some disk
  pub medium : (bay_of new.station 1).medium ≡ Some (blank_of disk.cylinders disk.rate)
  pub rate : (bay_of new.station 1).rate ≡ disk.rate
  pub size : length new.station.memory ≡ user_bytes
  pub named : in_bay new.names 1 ≡ Some to
  pub same_files : after ≡ Some files

pub opens_copy : (from to : List ℕ) (disk : Disk) (files : Files) (old new : State) (after : Option Files) (course : List Taken)
    → IsImageOf (Some files) from disk → DoesAll (copy_opening from to disk) old (Some files) course new after
    → length old.station.memory ≡ user_bytes → IsCopyOpened disk to files new after
opens_copy from to disk files old new after course image all size =
    let second = request.Ack 1 ∷ rate_requests disk.rate 1 in
    let put = are_in from to disk files (request.Ack 0 ∷ (rate_requests disk.rate 0 ++ second)) old new after course image all size in
    let one = readies 0 disk second put.mid new put.mid_files after put.course put.behind put.first in
    let medium = ap (λ (b : Two Bay). (in_bay b 1).medium) one.bays ∙ put.second in
    let whole = subst (λ (requests : List Request). DoesAll (request.Ack 1 ∷ requests) one.mid one.files one.course new after)
    (sym (append-nil (rate_requests disk.rate 1))) one.behind in
    let two = readies 1 (blank_of disk.cylinders disk.rate) [] one.mid new one.files after one.course whole medium in
    let end = ends_there two.mid new two.files after two.course two.behind in
    record {
      valid = put.valid;
      first = ap (λ (s : State). (bay_of s.station 0).medium) end.0 ∙ ap (λ (b : Two Bay). (in_bay b 0).medium) two.bays ∙ one.medium;
      medium = ap (λ (s : State). (bay_of s.station 1).medium) end.0 ∙ two.medium;
      rate = ap (λ (s : State). (bay_of s.station 1).rate) end.0 ∙ two.rate;
      size = ap (λ (s : State). length s.station.memory) end.0 ∙ ap (λ (m : List ℕ). length m) (two.memory ∙ one.memory) ∙ put.size;
      named = ap (λ (s : State). in_bay s.names 1) end.0 ∙ ap (λ (n : Two (Option (List ℕ))). in_bay n 1) (two.names ∙ one.names) ∙ put.named;
      same_files = end.1 ∙ two.same_files ∙ one.same_files ∙ put.same_files;
    }

pub opening_keeps : (rate : Rate) (to : List ℕ) (cylinders : ℕ) (from : List ℕ)
    → list_all keeps_drives (request.Insert 0 from ∷ blank_request 1 to cylinders rate ∷ request.Ack 0 ∷ (rate_requests rate 0 ++ (request.Ack 1 ∷ rate_requests rate 1))) ≡ true
opening_keeps R500 to cylinders from = refl
opening_keeps R250 to cylinders from = refl

pub opening_reads_none : (rate : Rate) (to : List ℕ) (cylinders : ℕ) (from : List ℕ)
    → list_all is_no_read (request.Insert 0 from ∷ blank_request 1 to cylinders rate ∷ request.Ack 0 ∷ (rate_requests rate 0 ++ (request.Ack 1 ∷ rate_requests rate 1))) ≡ true
opening_reads_none R500 to cylinders from = refl
opening_reads_none R250 to cylinders from = refl

pub copies_disk : (tidy : AllTidy) (from to : List ℕ) (disk : Disk) (files : Files) (old new : State) (after : Option Files) (course : List Taken)
    → CopiesDisk from to disk old files course new after → length old.station.memory ≡ user_bytes
    → IsFaultless 1 old.station.counters new.station.counters → StoresCopy disk to old.station.counters (Some files) course new.station.counters after
copies_disk tidy from to disk files old new after course all size faultless =
    let rate = disk.rate in
    let tracks = tracks_of disk.cylinders disk.heads in
    let marks = marks_read course in
    let blank = blank_of disk.cylinders rate in
    let ranges = image_ranges files from disk all.image in
    let eject = request.Eject 1 ∷ [] in
    let top = splits old new (Some files) after (copy_opening from to disk) (copy_each rate tracks marks ++ eject) course all.all in
    let body = splits top.mid new top.files after (copy_each rate tracks marks) eject top.two top.behind in
    let fell_top = never_fell old top.mid (Some files) top.files (copy_opening from to disk) top.one top.before (opening_keeps rate to disk.cylinders from) in
    let fell_end = never_fell body.mid new body.files after eject body.two body.behind refl in
    let fell_body = never_fell top.mid body.mid top.files body.files (copy_each rate tracks marks) body.one body.before (copies_keep rate tracks marks) in
    let opened = opens_copy from to disk files old top.mid top.files top.one all.image top.before size in
    let no_top = no_marks top.one (rw top.before.all (opening_reads_none rate to disk.cylinders from)) in
    let no_end = no_marks body.two (rw body.behind.all refl) in
    let told_marks : marks ≡ marks_read body.one =
    ap marks_read top.is ∙ marks-append top.one top.two ∙ ap (λ (row : List Bool). row ++ marks_read top.two) no_top
    ∙ ap marks_read body.is ∙ marks-append body.one body.two ∙ ap (λ (row : List Bool). marks_read body.one ++ row) no_end
    ∙ append-nil (marks_read body.one) in
    let sure = IsSure disk old.station.counters new.station.counters in
    let fell_rest = both_fell top.mid.station.counters body.mid.station.counters new.station.counters fell_body fell_end in
    let calm = λ (s : sure).
    (sure_parts disk top.mid.station.counters body.mid.station.counters new.station.counters fell_body fell_end
    (sure_parts disk old.station.counters top.mid.station.counters new.station.counters fell_top fell_rest s).1).0 in
    let ready : IsReady rate disk blank top.mid = assumption (blank_regular disk.cylinders rate) in
    let has = λ (c h : ℕ) (among : Among tracks c h).
    let at = among_only disk.cylinders disk.heads c h among in
    let track : HasTrack blank c h = (at.0, omega (arith, at.1, ranges.1)) in
    track in
    let part = λ (c h r : ℕ) (deleted : Bool) (content : List ℕ) (step : SomeStep (Gave (key_of c h r) deleted content) body.one).
    let inner = subst (SomeStep (Gave (key_of c h r) deleted content)) (sym body.is) (some_first _ body.one body.two step) in
    subst (SomeStep (Gave (key_of c h r) deleted content)) (sym top.is) (some_second _ top.one top.two inner) in
    let copies = copies_each tidy sure disk rate tracks marks course blank top.mid body.mid top.files body.files body.one body.before told_marks part has ready (omega (arith, fell_top.second, fell_end.second, faultless.0), omega (arith, fell_end.second, faultless.1)) calm in
    let last = begins body.mid new body.files after (request.Eject 1) [] body.two body.behind in
    let stores = last.does.1 in
    let named : in_bay body.mid.names 1 ≡ Some to = ap (λ (n : Two (Option (List ℕ))). in_bay n 1) copies.names ∙ opened.named in
    let same_disk : stores.0 ≡ copies.final = cc (stores.2, copies.ready.medium) in
    let same_name : stores.1 ≡ to = cc (stores.3, named) in
    let end = ends_there last.mid new last.files after last.later last.behind in
    let told : body.files ≡ Some files = copies.files ∙ opened.same_files in
    let blank_has = λ (c h : ℕ) (track : HasTrack disk c h). let it : HasTrack blank c h = (track.0, omega (arith, track.1, ranges.1)) in it in
    record {
      copied = copies.final;
      valid = copies.ready.valid;
      protected = copies.alike.protected;
      cylinders = copies.alike.cylinders;
      heads = copies.alike.heads;
      rate = copies.alike.rate;
      words_per_track = copies.alike.words_per_track;
      regular = copies.ready.regular;
      laid = λ c h track. copies.laid c h (blank_has c h track) (inl (among_all disk.cylinders disk.heads c h track.0 track.1));
      laid_fields = copies.laid_fields (blank_fields disk.cylinders rate);
      sectors = λ c h r track least most. copies.sectors c h r (blank_has c h track) least most (inl (among_all disk.cylinders disk.heads c h track.0 track.1));
      files = end.1 ∙ stores.5 ∙ ap (λ (n : List ℕ). stored body.files n (file_of stores.0)) same_name
          ∙ ap (λ (d : Disk). stored body.files to (file_of d)) same_disk ∙ ap (λ (f : Option Files). stored f to (file_of copies.final)) told;
    }
