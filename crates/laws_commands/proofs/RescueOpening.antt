-- What comes before the records of a rescue. Both diskettes are put in, and both bays are made ready.
use Rattle.std.proofs.Common.{true≢false, ◌↔◌, arith, ◌≡◌, ◌∙◌, ◌≤◌, ℕ, List, ◌∷◌, ◌++◌, refl, ap, Option, Some, Bool, true, false, [], subst, sym, inl, inr, length, ◌<◌}
use Rattle.laws_commands.proofs.Common.{list_all, Files, Rate, R500, R250, gap_at, words_at, Disk, IsDisk, HasTrack, track_of, Two, in_bay, faults_of, IsFaultless, IsUndisturbed, user_bytes, IsLaid, Request, AreAlike, alike_itself, alike_both, alike_tracks, IsRegularDisk, StationState, Bay, bay_of, format_refusal, State, Taken, Reply, Step, IsImageOf, blank_of, is_refusal, blank_request, Shape, shape_of, rate_requests, by_track, formats, Script, DoesAll, Track, tracks_of, format_each, HasLaidFields, is_write, HasShapeOf}
use Rattle.std.specs.Prelude.{if◌then◌else◌}
use Rattle.commands.specs.Parts.{carries, sets_rate, acknowledges, through}
use Rattle.laws_commands.proofs.CopiedTrack.{IsReady, formats_it, small}
use Rattle.laws_commands.proofs.Prepared.{acks, blanks, readies, sets, blank_keeps}
use Rattle.laws_commands.proofs.Steps.{and_both, keeps_drives, splits, NeverFell, begins, step_never_fell, ok_called, reached, done_does, ends_there, never_fell, Among, among_only, still_laid}
use Rattle.laws_commands.proofs.Verified.{one_image, image_ranges, Holds}
use Rattle.laws_commands.proofs.Sectors.{track_laid}
use Rattle.laws_commands.proofs.TrackParts.{tracks_part}
use Rattle.disk_commands.specs.Rescue.{acknowledges_both, prepares_old, prepares_new, prepares}
use Rattle.laws_commands.proofs.Gone.{carries_all}
use Rattle.laws_commands.proofs.RescueRecords.{shape_itself, shape_both, alike_shape}
use Rattle.laws_commands.proofs.Written.{blank_regular, blank_fields}
use Rattle.floppy_jobs.specs.declared.request.Request.TheVariants as request

-- ---- the requests of the opening

-- the formats of all tracks, if there is no log
abbrev pub formats_for : Shape → Bool → List Request
formats_for shape true = []
formats_for shape false = format_each 1 (tracks_of shape.cylinders shape.heads)

-- the request that puts in the other diskette: that of an earlier run, or a blank one
abbrev pub second_request : List ℕ → Shape → Bool → Request
second_request to shape true = request.Insert 1 to
second_request to shape false = blank_request 1 to shape.cylinders shape.rate

-- both bays are acknowledged, and set to the rate of the first disk
abbrev pub ready_requests : Rate → List Request → List Request
ready_requests rate rest =
    request.Ack 0 ∷ (rate_requests rate 0 ++ (request.Ack 1 ∷ (rate_requests rate 1 ++ rest)))

abbrev pub opening : List ℕ → List ℕ → Shape → Bool → List Request
opening from to shape logged =
    request.Insert 0 from ∷ second_request to shape logged ∷ ready_requests shape.rate (formats_for shape logged)

-- ---- the requests of the opening neither read nor write

abbrev is_read : Request → Bool
is_read (request.Read bay key address) = true
is_read _ = false

-- the request is no read and no write, and leaves the drives in their bays
abbrev pub is_plain : Request → Bool
is_plain asked = if is_write asked then false else (if is_read asked then false else keeps_drives asked)

pub plain_facts : (asked : Request) → is_plain asked ≡ true → (is_write asked ≡ false) × (keeps_drives asked ≡ true)
plain_facts asked = go (is_write asked) (is_read asked)
  where
    go : (writes reads : Bool) → (if writes then false else (if reads then false else keeps_drives asked)) ≡ true
        → (writes ≡ false) × (keeps_drives asked ≡ true)
    go true reads e = absurd (true≢false (sym e))
    go false true e = absurd (true≢false (sym e))
    go false false e = (refl, e)

pub plain_keep : (requests : List Request) → list_all is_plain requests ≡ true → list_all keeps_drives requests ≡ true
plain_keep [] e = refl
plain_keep (asked ∷ later) e =
    let both = and_both (is_plain asked) (list_all is_plain later) e in
    let first = (plain_facts asked both.0).1 in
    rw first (plain_keep later both.1)

formats_plain : (tracks : List Track) → list_all is_plain (format_each 1 tracks) ≡ true
formats_plain [] = refl
formats_plain (track ∷ later) = formats_plain later

ready_plain : (rate : Rate) (formats : List Request) → list_all is_plain formats ≡ true → list_all is_plain (ready_requests rate formats) ≡ true
ready_plain R500 formats e = e
ready_plain R250 formats e = e

blank_plain : (from to : List ℕ) (cylinders : ℕ) (rate : Rate) (formats : List Request) → list_all is_plain formats ≡ true
    → list_all is_plain (request.Insert 0 from ∷ blank_request 1 to cylinders rate ∷ ready_requests rate formats) ≡ true
blank_plain from to cylinders R500 formats e = e
blank_plain from to cylinders R250 formats e = e

pub opening_plain : (from to : List ℕ) (shape : Shape) (logged : Bool) → list_all is_plain (opening from to shape logged) ≡ true
opening_plain from to shape true = ready_plain shape.rate [] refl
opening_plain from to shape false = blank_plain from to shape.cylinders shape.rate (format_each 1 (tracks_of shape.cylinders shape.heads)) (formats_plain (tracks_of shape.cylinders shape.heads))

-- ---- the script runs these requests

pub formats_carried : (tracks : List Track) (rest : Unit {0} → Script)
    → through (λ (track : Track). formats 1 track.0 track.1) tracks tt rest ≡ carries_all (format_each 1 tracks) (rest tt)
unfolding through carries
formats_carried [] rest = refl
formats_carried (track ∷ tracks) rest = ap (λ (s : Script). carries (request.Format 1 track.0 track.1) (λ none. s)) (formats_carried tracks rest)

both_carried : (rate : Rate) (rest : Unit {0} → Script) (requests : List Request) (more : Script) → rest tt ≡ carries_all requests more
    → acknowledges_both rate rest ≡ carries_all (ready_requests rate requests) more
unfolding acknowledges_both acknowledges sets_rate
both_carried R500 rest requests more is = ap (λ (s : Script). carries (request.Ack 0) (λ none. carries (request.Ack 1) (λ still. s))) is
both_carried R250 rest requests more is =
    ap (λ (s : Script). carries (request.Ack 0)
    (λ none. carries (request.SetRate 0 R250) (λ now. carries (request.Ack 1) (λ still. carries (request.SetRate 1 R250) (λ yet. s))))) is

pub prepares_carried : (to : List ℕ) (shape : Shape) (logged : Bool) (rest : Unit {0} → Script)
    → prepares to shape logged rest ≡ carries_all (second_request to shape logged ∷ ready_requests shape.rate (formats_for shape logged)) (rest tt)
unfolding prepares prepares_old prepares_new
prepares_carried to shape true rest = ap (λ (s : Script). carries (request.Insert 1 to) (λ none. s)) (both_carried shape.rate rest [] (rest tt) refl)
prepares_carried to shape false rest =
    ap (λ (s : Script). carries (blank_request 1 to shape.cylinders shape.rate) (λ none. s))
    (both_carried shape.rate (λ still. by_track shape.cylinders shape.heads (formats 1) tt rest) (formats_for shape false) (rest tt)
    (tracks_part shape.cylinders shape.heads (formats 1) tt rest ∙ formats_carried (tracks_of shape.cylinders shape.heads) rest))

-- ---- the disks that were put in

-- the disk of the first name is in bay 0
pub disk_in : (from : List ℕ) (disk : Disk) (files : Files) (old new : State) (after : Option Files) (answer : Reply)
    → IsImageOf (Some files) from disk → Step (request.Insert 0 from) old (Some files) answer new after → is_refusal answer ≡ false
    → (bay_of new.station 0).medium ≡ Some disk
disk_in from disk files old new after answer image step done = grind (arith, done_does, one_image)

-- a disk that can be formatted and that has this shape
pub record IsFresh (shape : Shape) (disk : Disk) : Type 0 where
  pub valid : IsDisk disk
  pub regular : IsRegularDisk disk
  pub cylinders : disk.cylinders ≡ shape.cylinders
  pub rate : disk.rate ≡ shape.rate
  pub words : disk.words_per_track ≡ words_at shape.rate
  pub shape_is : HasShapeOf (blank_of shape.cylinders shape.rate) disk
  pub laid : HasLaidFields disk
  pub tracks : (c h : ℕ) → HasTrack disk c h ↔ (c < shape.cylinders × h < 2)

-- the other disk: that of an earlier run, or a fresh one
abbrev pub IsOther : Option Files → List ℕ → Shape → Bool → Disk → Type 0
IsOther told to shape true disk = IsImageOf told to disk
IsOther told to shape false disk = IsFresh shape disk

-- such a disk was put into bay 1
pub record IsPut (Such : Disk → Type 0) (to : List ℕ) (old : State) (told : Option Files) (new : State) (after : Option Files) : Type 0 where
  pub target : Disk
  pub such : Such target
  pub medium : (bay_of new.station 1).medium ≡ Some target
  pub first : bay_of new.station 0 ≡ bay_of old.station 0
  pub memory : new.station.memory ≡ old.station.memory
  pub named : in_bay new.names 1 ≡ Some to
  pub files : after ≡ told
  pub fell : NeverFell old.station.counters new.station.counters

pub second_put : (to : List ℕ) (shape : Shape) (logged : Bool) (old new : State) (told after : Option Files) (answer : Reply)
    → Step (second_request to shape logged) old told answer new after → is_refusal answer ≡ false → IsPut (IsOther told to shape logged) to old told new after
second_put to shape true old new told after answer step done =
    let does = done_does old new told after (request.Insert 1 to) answer step done in
    let put = does.2 in
    let becomes = put.2.exchanged.becomes in
    record {
      target = put.0;
      such = put.1;
      medium = ap (λ (s : StationState). (bay_of s 1).medium) becomes;
      first = ap (λ (s : StationState). bay_of s 0) becomes;
      memory = ap (λ (s : StationState). s.memory) becomes;
      named = ap (λ (n : Two (Option (List ℕ))). in_bay n 1) put.2.names;
      files = does.1;
      fell = step_never_fell old new told after (request.Insert 1 to) answer step refl;
    }
second_put to shape false old new told after answer step done =
    let fresh = blanks 1 shape.rate to shape.cylinders old new told after answer step done in
    record {
      target = blank_of shape.cylinders shape.rate;
      such = search (blank_regular shape.cylinders shape.rate, shape_itself (blank_of shape.cylinders shape.rate), blank_fields shape.cylinders shape.rate);
      medium = fresh.medium;
      first = ap (λ (s : StationState). bay_of s 0) fresh.becomes;
      memory = ap (λ (s : StationState). s.memory) fresh.becomes;
      named = ap (λ (n : Two (Option (List ℕ))). in_bay n 1) fresh.named;
      files = fresh.files;
      fell = step_never_fell old new told after (blank_request 1 to shape.cylinders shape.rate) answer step (blank_keeps 1 shape.rate to shape.cylinders);
    }

-- ---- both bays made ready

-- Both disks are in, and both bays are ready. If there is no log, the formats are left to do.
pub record AreOpen (disk : Disk) (to : List ℕ) (files : Files) (logged : Bool) (old new : State) (after : Option Files) : Type 0 where
  pub mid : State
  pub mid_files : Option Files
  pub course : List Taken
  pub formats_left : DoesAll (formats_for (shape_of disk) logged) mid mid_files course new after
  pub target : Disk
  pub such : IsOther (Some files) to (shape_of disk) logged target
  pub count : ℕ
  pub first : (bay_of mid.station 0).medium ≡ Some disk
  pub first_rate : (bay_of mid.station 0).rate ≡ disk.rate
  pub acknowledged : (bay_of mid.station 0).acknowledged ≡ Some count
  pub before : faults_of old.station.counters 0 ≤ count
  pub since : count ≤ faults_of mid.station.counters 0
  pub second : (bay_of mid.station 1).medium ≡ Some target
  pub second_rate : target.rate ≡ disk.rate → (bay_of mid.station 1).rate ≡ disk.rate
  pub memory : mid.station.memory ≡ old.station.memory
  pub named : in_bay mid.names 1 ≡ Some to
  pub files_are : mid_files ≡ Some files
  pub fell : NeverFell old.station.counters mid.station.counters

are_open : (from to : List ℕ) (disk : Disk) (files : Files) (logged : Bool) (old new : State) (after : Option Files) (course : List Taken)
    → IsImageOf (Some files) from disk
    → DoesAll (opening from to (shape_of disk) logged) old (Some files) course new after → AreOpen disk to files logged old new after
are_open from to disk files logged old new after course image all =
    let rate = disk.rate in
    let asked = second_request to (shape_of disk) logged in
    let formats = formats_for (shape_of disk) logged in
    let ready = ready_requests rate formats in
    let one = begins old new (Some files) after (request.Insert 0 from) (asked ∷ ready) course all in
    let two = begins one.mid new one.files after asked ready one.later one.behind in
    let put = second_put to (shape_of disk) logged one.mid two.mid one.files two.files two.answer two.step two.done in
    let first = ap (λ (b : Bay). b.medium) put.first ∙ disk_in from disk files old one.mid one.files one.answer image one.step one.done in
    let three = readies 0 disk (request.Ack 1 ∷ (rate_requests rate 1 ++ formats)) two.mid new two.files after two.later two.behind first in
    let other = ap (λ (b : Two Bay). (in_bay b 1).medium) three.bays ∙ put.medium in
    let four = begins three.mid new three.files after (request.Ack 1) (rate_requests rate 1 ++ formats) three.course three.behind in
    let acked = acks 1 put.target three.mid four.mid three.files four.files four.answer four.does four.done other in
    let set = sets 1 rate formats four.mid new four.files after four.later four.behind in
    let same : bay_of set.mid.station 0 ≡ bay_of three.mid.station 0 =
    ap (λ (b : Two Bay). in_bay b 0) set.bays ∙ ap (λ (s : StationState). bay_of s 0) acked.becomes in
    let a = step_never_fell old one.mid (Some files) one.files (request.Insert 0 from) one.answer one.step refl in
    let b = put.fell in
    let c = step_never_fell three.mid four.mid three.files four.files (request.Ack 1) four.answer four.step refl in
    record {
      mid = set.mid;
      mid_files = set.files;
      course = set.course;
      formats_left = set.behind;
      target = put.target;
      such = subst (λ (f : Option Files). IsOther f to (shape_of disk) logged put.target) one.does.1 put.such;
      count = faults_of three.acked.station.counters 0;
      first = ap (λ (b : Bay). b.medium) same ∙ three.medium;
      first_rate = ap (λ (b : Bay). b.rate) same ∙ three.rate;
      acknowledged = ap (λ (b : Bay). b.acknowledged) same ∙ three.kept;
      before = omega (arith, a.first, b.first, three.first.first);
      since = omega (arith, three.later.first, c.first, set.fell.first);
      second = set.medium ∙ acked.medium;
      second_rate = λ is. set.rate_is (λ high. acked.high (is ∙ high));
      memory = set.memory ∙ ap (λ (s : StationState). s.memory) acked.becomes ∙ three.memory ∙ put.memory
          ∙ ap (λ (s : StationState). s.memory) one.does.2.2.exchanged.becomes;
      named = ap (λ (n : Two (Option (List ℕ))). in_bay n 1) (set.names ∙ acked.names ∙ three.names) ∙ put.named;
      files_are = set.same_files ∙ acked.files ∙ three.same_files ∙ put.files ∙ one.does.1;
      fell = record {
        first = omega (arith, a.first, b.first, three.first.first, three.later.first, c.first, set.fell.first);
        second = omega (arith, a.second, b.second, three.first.second, three.later.second, c.second, set.fell.second);
        stalls = omega (arith, a.stalls, b.stalls, three.first.stalls, three.later.stalls, c.stalls, set.fell.stalls);
      };
    }

-- ---- the formats

-- formats in bay 1 leave bay 0 as it is
pub first_stays : (tracks : List Track) (old new : State) (told after : Option Files) (course : List Taken)
    → DoesAll (format_each 1 tracks) old told course new after → bay_of new.station 0 ≡ bay_of old.station 0
first_stays [] old new told after course all = ap (λ (s : State). bay_of s.station 0) (ends_there old new told after course all).0
first_stays (track ∷ later) old new told after course all =
    let one = begins old new told after (request.Format 1 track.0 track.1) (format_each 1 later) course all in
    let does = one.does in
    let ok = ok_called does.1.0 one.answer does.1.1 one.done in
    let drive = reached (format_refusal old.station 1 track.0 track.1 (gap_at (bay_of old.station 1).rate)) does.1.0 old.station one.mid.station does.1.2 ok in
    first_stays later one.mid new one.files after one.later one.behind ∙ ap (λ (s : StationState). bay_of s 0) drive.becomes

-- what the formats did to the disk in bay 1
pub record LaysTracks (at : Rate) (source : Disk) (tracks : List Track) (disk : Disk) (old : State) (told : Option Files) (new : State) (after : Option Files) : Type 0 where
  pub final : Disk
  pub ready : IsReady at source final new
  pub alike : AreAlike disk final
  pub laid : HasLaidFields disk → HasLaidFields final
  pub names : new.names ≡ old.names
  pub files : after ≡ told

pub lays_tracks : (rate : Rate) (source : Disk) (tracks : List Track) (disk : Disk) (old new : State) (told after : Option Files) (course : List Taken)
    → DoesAll (format_each 1 tracks) old told course new after → ((c h : ℕ) → Among tracks c h → HasTrack disk c h) → IsReady rate source disk old
    → IsFaultless 1 old.station.counters new.station.counters → LaysTracks rate source tracks disk old told new after
lays_tracks rate source [] disk old new told after course all has ready faultless =
    let same = ends_there old new told after course all in
    search (subst (λ (s : State). IsReady rate source disk s) (sym same.0) ready, alike_itself disk ready.valid, ap (λ (s : State). s.names) same.0)
lays_tracks rate source (track ∷ later) disk old new told after course all has ready faultless =
    let b = track.0 in
    let g = track.1 in
    let format = request.Format 1 b g ∷ [] in
    let parts = splits old new told after format (format_each 1 later) course all in
    let fell_first = never_fell old parts.mid told parts.files format parts.one parts.before refl in
    let fell_later = never_fell parts.mid new parts.files after (format_each 1 later) parts.two parts.behind
    (plain_keep (format_each 1 later) (formats_plain later)) in
    let here = has b g (inl (refl, refl)) in
    let made = formats_it rate source b g disk old parts.mid told parts.files parts.one parts.before ready here
    (omega (arith, fell_later.second, faultless.0), omega (arith, fell_later.second, faultless.1)) in
    let alike = made.keeps.alike in
    let has_later = λ (c h : ℕ) (among : Among later c h). (alike_tracks disk made.next c h alike).0 (has c h (inr among)) in
    let tiny = small disk b g ready.valid here in
    let fresh : IsLaid (track_of made.next b g) = subst IsLaid (sym made.track) (track_laid rate b g tiny.0 tiny.1) in
    let rest = lays_tracks rate source later made.next parts.mid new parts.files after parts.two parts.behind has_later made.ready
    (omega (arith, fell_first.second, faultless.0), faultless.1) in
    record {
      final = rest.final;
      ready = rest.ready;
      alike = alike_both disk made.next rest.final alike rest.alike;
      laid = λ had. rest.laid (still_laid disk made.next b g made.keeps had fresh);
      names = rest.names ∙ made.names;
      files = rest.files ∙ made.files;
    }

-- bay 0 stays as it is, whether or not there is a log
formats_stay : (shape : Shape) (logged : Bool) (old new : State) (told after : Option Files) (course : List Taken)
    → DoesAll (formats_for shape logged) old told course new after
    → (bay_of new.station 0 ≡ bay_of old.station 0) × NeverFell old.station.counters new.station.counters
formats_stay shape true old new told after course all = (first_stays [] old new told after course all, never_fell old new told after [] course all refl)
formats_stay shape false old new told after course all = search (first_stays, never_fell, plain_keep, formats_plain)

-- ---- the whole opening

-- after the opening, bay 0 is ready with the disk to rescue
pub holds_first : (from to : List ℕ) (disk : Disk) (files : Files) (logged : Bool) (old new : State) (after : Option Files) (course : List Taken)
    → IsImageOf (Some files) from disk → DoesAll (opening from to (shape_of disk) logged) old (Some files) course new after
    → IsUndisturbed 0 old.station.counters new.station.counters → (count : ℕ) × Holds disk count new.station
holds_first from to disk files logged old new after course image all quiet =
    let it = are_open from to disk files logged old new after course image all in
    let same = formats_stay (shape_of disk) logged it.mid new it.mid_files after it.course it.formats_left in
    let fell = same.1 in
    let top = it.fell in
    let before = it.before in
    let since = it.since in
    let holds : Holds disk it.count new.station = record {
      medium = ap (λ (b : Bay). b.medium) same.0 ∙ it.first;
      rate = ap (λ (b : Bay). b.rate) same.0 ∙ it.first_rate;
      acknowledged = ap (λ (b : Bay). b.acknowledged) same.0 ∙ it.acknowledged;
      faults = omega (arith, before, since, top.stalls, fell.first, fell.stalls, quiet.together);
    } in
    (it.count, holds)

-- the disk is in bay 0, even if something disturbed the opening
pub first_in : (from to : List ℕ) (disk : Disk) (files : Files) (logged : Bool) (old new : State) (after : Option Files) (course : List Taken)
    → IsImageOf (Some files) from disk → DoesAll (opening from to (shape_of disk) logged) old (Some files) course new after
    → (bay_of new.station 0).medium ≡ Some disk
first_in from to disk files logged old new after course image all =
    let it = are_open from to disk files logged old new after course image all in
    let same = formats_stay (shape_of disk) logged it.mid new it.mid_files after it.course it.formats_left in
    ap (λ (b : Bay). b.medium) same.0 ∙ it.first

-- a regular disk is in bay 1, under its name
pub record HasOther (start : Disk) (to : List ℕ) (files : Files) (state : State) (told : Option Files) : Type 0 where
  pub medium : (bay_of state.station 1).medium ≡ Some start
  pub regular : IsRegularDisk start
  pub size : length state.station.memory ≡ user_bytes
  pub named : in_bay state.names 1 ≡ Some to
  pub files_are : told ≡ Some files

-- a new disk has the shape of a blank one, and Laid fields
pub record IsNew (disk start : Disk) : Type 0 where
  pub shape : HasShapeOf (blank_of disk.cylinders disk.rate) start
  pub valid : IsDisk start
  pub laid : HasLaidFields start

pub begins_new : (from to : List ℕ) (disk : Disk) (files : Files) (old new : State) (after : Option Files) (course : List Taken)
    → IsImageOf (Some files) from disk
    → DoesAll (opening from to (shape_of disk) false) old (Some files) course new after → length old.station.memory ≡ user_bytes
    → IsFaultless 1 old.station.counters new.station.counters → (start : Disk) × HasOther start to files new after × IsNew disk start
begins_new from to disk files old new after course image all size faultless =
    let it = are_open from to disk files false old new after course image all in
    let such = it.such in
    let tracks = tracks_of disk.cylinders disk.heads in
    let ranges = image_ranges files from disk image in
    let ready : IsReady disk.rate disk it.target it.mid = assumption (it.second_rate such.rate, ap (λ (m : List ℕ). length m) it.memory ∙ size) in
    let has = λ (c h : ℕ) (among : Among tracks c h).
    let at = among_only disk.cylinders disk.heads c h among in
    (such.tracks c h).1 (at.0, omega (arith, at.1, ranges.1)) in
    let lays = lays_tracks disk.rate disk tracks it.target it.mid new it.mid_files after it.course it.formats_left has ready
    (omega (arith, it.fell.second, faultless.0), omega (arith, it.fell.second, faultless.1)) in
    let there : HasOther lays.final to files new after = search in
    let new_one : IsNew disk lays.final = record {
      shape = shape_both (blank_of disk.cylinders disk.rate) it.target lays.final such.shape_is (alike_shape it.target lays.final lays.alike);
      valid = lays.ready.valid;
      laid = lays.laid such.laid;
    } in
    (lays.final, there, new_one)

-- the disk of an earlier run is in bay 1
pub begins_again : (from to : List ℕ) (disk target : Disk) (files : Files) (old new : State) (after : Option Files) (course : List Taken)
    → IsImageOf (Some files) from disk
    → IsImageOf (Some files) to target → IsRegularDisk target → DoesAll (opening from to (shape_of disk) true) old (Some files) course new after
    → length old.station.memory ≡ user_bytes → HasOther target to files new after
begins_again from to disk target files old new after course image other regular all size =
    let it = are_open from to disk files true old new after course image all in
    let end = ends_there it.mid new it.mid_files after it.course it.formats_left in
    subst (λ (s : State). HasOther target to files s after) (sym end.0) (record {
      medium = it.second ∙ ap (λ (d : Disk). Some d) (one_image files to it.target target it.such other);
      regular = regular;
      size = ap (λ (m : List ℕ). length m) it.memory ∙ size;
      named = it.named;
      files_are = end.1 ∙ it.files_are;
    })
