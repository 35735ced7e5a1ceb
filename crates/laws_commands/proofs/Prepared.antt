-- A bay that was made ready for the requests of a whole disk. A medium was put in and acknowledged, and the bay got its
-- rate.
use Rattle.std.proofs.Common.{arith, ◌≡◌, ◌∙◌, ◌*◌, ◌<◌, ◌≤◌, ◌^◌, ℕ, Bool, true, false, true≢false, List, ◌∷◌, ◌++◌, length, get_or, replicate, refl, sym, ap, subst, inl, inr, Option, Some, Result, IsOk, lit≤, []}
use Rattle.std.specs.Prelude.{MatchOption, MatchBool, ◌==◌, if◌then◌else◌}
use Rattle.laws_commands.proofs.Common.{Code, BadRequest, leb-true, cases_lt, length-replicate, get_or-replicate, get_or_past, Files, words_at, Rate, R500, R250, Disk, IsDisk, Two, in_bay, with_bay, faults_of, Request, Reply, Reason, StationState, Bay, Becomes, bay_of, set_bay, fresh_bay, IsAcknowledged, rate_refusal, is_bay, IsRefusedAtOnce, State, ChangesMedium, Step, Does, unless_bad, blank_of, is_blank_request, is_refusal, Taken, DoesAll, blank_request, rate_requests, stored, file_of, IsFaultless, alike_tracks, IsFormattedDisk, LeavesFormatted, StoresFormatted, tracks_of, format_each, formatting, format_requests}
use Rattle.sector_model.specs.Steps.{IsRefused}
use Rattle.laws_commands.proofs.Steps.{begins, NeverFell, step_never_fell, done_does, ok_called, reached, and_both, ends_there, splits, never_fell, keeps_drives, among_all}
use Rattle.laws_commands.proofs.DiskRecords.{FormatsTracks, each_format}
use Rattle.floppy_jobs.specs.declared.request.Request.TheVariants as request

-- ---- blank media

abbrev row : ℕ → List ℕ
row n = replicate n 0

abbrev word : List ℕ → ℕ → ℕ
word words k = get_or words k 0

zero_words : (n k : ℕ) → word (row n) k < 2 ^ 16
zero_words n k =
    let long : length (row n) ≡ n = length-replicate n 0 in
    elim (cases_lt k n) [
      | inl inside ↦ let is : word (row n) k ≡ 0 = get_or-replicate n k 0 0 inside in omega arith
      | inr past ↦ let is : word (row n) k ≡ 0 = get_or_past (row n) k 0 (omega arith) in omega arith
    ]

some_words : (rate : Rate) → (64 ≤ words_at rate) × (words_at rate ≤ 16384)
some_words R500 = (lit≤ tt, lit≤ tt)
some_words R250 = (lit≤ tt, lit≤ tt)

pub blank_valid : (cylinders : ℕ) (rate : Rate) → 1 ≤ cylinders → cylinders ≤ 80 → IsDisk (blank_of cylinders rate)
blank_valid cylinders rate least most = record {
  cylinders = (least, most);
  heads = (lit≤ tt, lit≤ tt);
  words_per_track = some_words rate;
  count = length-replicate (cylinders * 2 * words_at rate) 0;
  each = zero_words (cylinders * 2 * words_at rate);
}

-- a request that wasn't refused had good arguments
good_request : (old new : State) (told after : Option Files) (good : Bool) (next : Option Reason) (answer : Reply) (P : Type 0)
    → MatchOption (unless_bad good next) P (λ cause. IsRefused cause old told answer new after) → is_refusal answer ≡ false → good ≡ true
good_request old new told after true next answer P holds done = refl
good_request old new told after false next answer P holds done =
    absurd (true≢false (subst (λ (r : Reply). is_refusal r ≡ false) holds.answered done))

-- a bay has the value that it was given
pub in_with : {T : Type 0} (two : Two T) (bay : ℕ) (value : T) → in_bay (with_bay two bay value) bay ≡ value
in_with {T} two bay value = go (bay == 0)
  where
    go : (b : Bool)
        → (if b then (if b then record two { first = value } else record two { second = value }).first else (if b then record two { first = value } else record two { second = value }).second) ≡ value
    go true = refl
    go false = refl

-- a blank medium was put into a bay
pub record IsBlank (bay : ℕ) (rate : Rate) (name : List ℕ) (count : ℕ) (old : State) (told : Option Files) (new : State) (after : Option Files) : Type 0 where
  pub valid : IsDisk (blank_of count rate)
  pub medium : (bay_of new.station bay).medium ≡ Some (blank_of count rate)
  pub named : new.names ≡ with_bay old.names bay (Some name)
  pub becomes : Becomes (set_bay old.station bay (fresh_bay (Some (blank_of count rate)))) new.station
  pub files : after ≡ told

is_blank : (bay : ℕ) (rate : Rate) (name : List ℕ) (cylinders : ℕ) (old new : State) (told after : Option Files)
    → is_blank_request bay cylinders ≡ true → ChangesMedium bay (Some name) (Some (blank_of cylinders rate)) old new → after ≡ told
    → IsBlank bay rate name cylinders old told new after
is_blank bay rate name cylinders old new told after good changes files =
    let most = and_both _ _ good in
    let least = and_both _ _ most.0 in
    let becomes = changes.exchanged.becomes in
    record {
      valid = blank_valid cylinders rate (leb-true 1 cylinders least.1) (leb-true cylinders 80 most.1);
      medium = ap (λ (s : StationState). (bay_of s bay).medium) becomes ∙ ap (λ (b : Bay). b.medium) (in_with old.station.bays bay (fresh_bay (Some (blank_of cylinders rate))));
      named = changes.names;
      becomes = becomes;
      files = files;
    }

pub blanks : (bay : ℕ) (rate : Rate) (name : List ℕ) (cylinders : ℕ) (old new : State) (told after : Option Files) (answer : Reply)
    → Step (blank_request bay name cylinders rate) old told answer new after → is_refusal answer ≡ false
    → IsBlank bay rate name cylinders old told new after
blanks bay R500 name cylinders old new told after answer step done =
    let does = done_does old new told after (request.Blank bay name cylinders) answer step done in
    is_blank bay R500 name cylinders old new told after (good_request old new told after _ _ answer _ step done) does.2 does.1
blanks bay R250 name cylinders old new told after answer step done =
    let does = done_does old new told after (request.BlankDd bay name cylinders) answer step done in
    is_blank bay R250 name cylinders old new told after (good_request old new told after _ _ answer _ step done) does.2 does.1

-- ---- acknowledged

-- a bay with this disk in it was acknowledged
pub record IsAcked (bay : ℕ) (disk : Disk) (old : State) (told : Option Files) (new : State) (after : Option Files) : Type 0 where
  pub medium : (bay_of new.station bay).medium ≡ Some disk
  pub high : disk.rate ≡ R500 → (bay_of new.station bay).rate ≡ R500
  pub kept : (bay_of new.station bay).acknowledged ≡ Some (faults_of new.station.counters bay)
  pub value : Bay
  pub becomes : Becomes (set_bay old.station bay value) new.station
  pub names : new.names ≡ old.names
  pub files : after ≡ told

only_high : (rate of_disk : Rate) → (rate ≡ R250 → of_disk ≡ R250) → of_disk ≡ R500 → rate ≡ R500
only_high R500 of_disk double high = refl
only_high R250 of_disk double high = let low = double refl in absurd (cc (low, high))

drive_acks : {P : Type 0} (good : Bool) (code : Code) (called : Result (Unit {0}) Code) (old new : StationState)
    → MatchBool good P (IsRefusedAtOnce code old called new) → IsOk called → P
drive_acks true code called old new holds ok = holds
drive_acks false code called old new holds ok = absurd (true≢false (sym (subst IsOk holds.refused ok)))

acked_bay : (bay : ℕ) (disk : Disk) (old new : StationState) (acked : IsAcknowledged bay old new) → (bay_of old bay).medium ≡ Some disk
    → bay_of new bay ≡ record { medium = Some disk; acknowledged = Some (faults_of new.counters bay); rate = acked.rate }
acked_bay bay disk old new acked medium =
    let same : acked.disk ≡ disk = cc (acked.medium, medium) in
    let count = faults_of new.counters bay in
    ap (λ (s : StationState). bay_of s bay) acked.becomes
    ∙ in_with old.bays bay (record { medium = Some acked.disk; acknowledged = Some count; rate = acked.rate })
    ∙ ap (λ (d : Disk). record { medium = Some d; acknowledged = Some count; rate = acked.rate }) same

pub acks : (bay : ℕ) (disk : Disk) (old new : State) (told after : Option Files) (answer : Reply) → Does (request.Ack bay) old told answer new after
    → is_refusal answer ≡ false → (bay_of old.station bay).medium ≡ Some disk → IsAcked bay disk old told new after
acks bay disk old new told after answer does done medium =
    let ok = ok_called does.1.0 answer does.1.1 done in
    let drive = drive_acks (is_bay bay) BadRequest does.1.0 old.station new.station does.1.2 ok in
    let acked = drive.done ok in
    let same : acked.disk ≡ disk = cc (acked.medium, medium) in
    let at = acked_bay bay disk old.station new.station acked medium in
    record {
      medium = ap (λ (b : Bay). b.medium) at;
      high = λ high. ap (λ (b : Bay). b.rate) at ∙ only_high acked.rate acked.disk.rate acked.double (ap (λ (d : Disk). d.rate) same ∙ high);
      kept = ap (λ (b : Bay). b.acknowledged) at;
      value = record { medium = Some acked.disk; acknowledged = Some (faults_of new.station.counters bay); rate = acked.rate };
      becomes = acked.becomes;
      names = does.0.names;
      files = does.0.files;
    }

-- ---- the bay is set to a rate

-- The bay was set to this rate, unless it has this rate after an acknowledgement anyway. These requests are left to do.
pub record IsSet (bay : ℕ) (rate : Rate) (old : State) (told : Option Files) (rest : List Request) (new : State) (after : Option Files) : Type 0 where
  pub mid : State
  pub files : Option Files
  pub course : List Taken
  pub medium : (bay_of mid.station bay).medium ≡ (bay_of old.station bay).medium
  pub rate_is : (rate ≡ R500 → (bay_of old.station bay).rate ≡ R500) → (bay_of mid.station bay).rate ≡ rate
  pub kept : (bay_of mid.station bay).acknowledged ≡ (bay_of old.station bay).acknowledged
  pub value : Bay
  pub bays : mid.station.bays ≡ with_bay old.station.bays bay value
  pub memory : mid.station.memory ≡ old.station.memory
  pub names : mid.names ≡ old.names
  pub same_files : files ≡ told
  pub fell : NeverFell old.station.counters mid.station.counters
  pub behind : DoesAll rest mid files course new after

with_itself : (two : Two Bay) (bay : ℕ) → two ≡ with_bay two bay (in_bay two bay)
with_itself two bay = go (bay == 0)
  where
    go : (b : Bool)
        → two ≡ (if b then record two { first = (if b then two.first else two.second) } else record two { second = (if b then two.first else two.second) })
    go true = refl
    go false = refl

pub sets : (bay : ℕ) (rate : Rate) (rest : List Request) (old new : State) (told after : Option Files) (course : List Taken)
    → DoesAll (rate_requests rate bay ++ rest) old told course new after → IsSet bay rate old told rest new after
sets bay R500 rest old new told after course all = record {
  mid = old;
  files = told;
  course = course;
  medium = refl;
  rate_is = λ high. high refl;
  kept = refl;
  value = bay_of old.station bay;
  bays = with_itself old.station.bays bay;
  memory = refl;
  names = refl;
  same_files = refl;
  fell = record { first = omega arith; second = omega arith; stalls = omega arith };
  behind = all;
}
sets bay R250 rest old new told after course all =
    let first = begins old new told after (request.SetRate bay R250) rest course all in
    let does = first.does in
    let ok = ok_called does.1.0 first.answer does.1.1 first.done in
    let drive = reached (rate_refusal old.station bay) does.1.0 old.station first.mid.station does.1.2 ok in
    let value : Bay = record (bay_of old.station bay) { rate = R250 } in
    let at = ap (λ (s : StationState). bay_of s bay) drive.becomes ∙ in_with old.station.bays bay value in
    record {
      mid = first.mid;
      files = first.files;
      course = first.later;
      medium = ap (λ (b : Bay). b.medium) at;
      rate_is = λ high. ap (λ (b : Bay). b.rate) at;
      kept = ap (λ (b : Bay). b.acknowledged) at;
      value = value;
      bays = ap (λ (s : StationState). s.bays) drive.becomes;
      memory = ap (λ (s : StationState). s.memory) drive.becomes;
      names = does.0.names;
      same_files = does.0.files;
      fell = step_never_fell old first.mid told first.files (request.SetRate bay R250) first.answer first.step refl;
      behind = first.behind;
    }

-- ---- both

-- a bay with a disk was acknowledged and has the rate of the disk, and these requests are left to do
pub record IsReadied (bay : ℕ) (disk : Disk) (old : State) (told : Option Files) (rest : List Request) (new : State) (after : Option Files) : Type 0 where
  pub mid : State
  pub files : Option Files
  pub course : List Taken
  pub acked : State
  pub medium : (bay_of mid.station bay).medium ≡ Some disk
  pub rate : (bay_of mid.station bay).rate ≡ disk.rate
  pub kept : (bay_of mid.station bay).acknowledged ≡ Some (faults_of acked.station.counters bay)
  pub value : Bay
  pub bays : mid.station.bays ≡ with_bay old.station.bays bay value
  pub memory : mid.station.memory ≡ old.station.memory
  pub names : mid.names ≡ old.names
  pub same_files : files ≡ told
  pub first : NeverFell old.station.counters acked.station.counters
  pub later : NeverFell acked.station.counters mid.station.counters
  pub behind : DoesAll rest mid files course new after

with_twice : (two : Two Bay) (bay : ℕ) (before value : Bay) → with_bay (with_bay two bay before) bay value ≡ with_bay two bay value
with_twice two bay before value = grind arith

pub readies : (bay : ℕ) (disk : Disk) (rest : List Request) (old new : State) (told after : Option Files) (course : List Taken)
    → DoesAll (request.Ack bay ∷ (rate_requests disk.rate bay ++ rest)) old told course new after → (bay_of old.station bay).medium ≡ Some disk
    → IsReadied bay disk old told rest new after
readies bay disk rest old new told after course all medium =
    let one = begins old new told after (request.Ack bay) (rate_requests disk.rate bay ++ rest) course all in
    let acked = acks bay disk old one.mid told one.files one.answer one.does one.done medium in
    let rated = sets bay disk.rate rest one.mid new one.files after one.later one.behind in
    record {
      mid = rated.mid;
      files = rated.files;
      course = rated.course;
      acked = one.mid;
      medium = rated.medium ∙ acked.medium;
      rate = rated.rate_is acked.high;
      kept = rated.kept ∙ acked.kept;
      value = rated.value;
      bays = rated.bays ∙ ap (λ (s : StationState). with_bay s.bays bay rated.value) acked.becomes ∙ with_twice old.station.bays bay acked.value rated.value;
      memory = rated.memory ∙ ap (λ (s : StationState). s.memory) acked.becomes;
      names = rated.names ∙ acked.names;
      same_files = rated.same_files ∙ acked.files;
      first = step_never_fell old one.mid told one.files (request.Ack bay) one.answer one.step refl;
      later = rated.fell;
      behind = rated.behind;
    }

-- ---- the run that formats a disk

pub blank_keeps : (bay : ℕ) (rate : Rate) (name : List ℕ) (cylinders : ℕ) → keeps_drives (blank_request bay name cylinders rate) ≡ true
blank_keeps bay R500 name cylinders = refl
blank_keeps bay R250 name cylinders = refl

-- the disk is a formatted one after all formats
is_formatted : (rate : Rate) (cylinders : ℕ) (old new : State) (told after : Option Files)
    → FormatsTracks rate (tracks_of cylinders 2) (blank_of cylinders rate) old told new after
    → (disk : Disk) × ((bay_of new.station 0).medium ≡ Some disk) × IsFormattedDisk rate cylinders disk
is_formatted rate cylinders old new told after formats =
    let alike = formats.alike in (
      formats.final,
      formats.medium,
      record {
        valid = alike.valid;
        protected = alike.protected;
        cylinders = alike.cylinders;
        heads = alike.heads;
        rate = alike.rate;
        words_per_track = alike.words_per_track;
        tracks = λ c h has.
            let had = (alike_tracks (blank_of cylinders rate) formats.final c h alike).1 has in
            formats.laid c h had (inl (among_all cylinders 2 c h had.0 had.1));
      },
    )

pub formats_disk : (rate : Rate) (name : List ℕ) (cylinders : ℕ) (old new : State) (told after : Option Files) (course : List Taken)
    → DoesAll (formatting rate name cylinders) old told course new after → IsFaultless 0 old.station.counters new.station.counters
    → LeavesFormatted rate name cylinders told new after
formats_disk rate name cylinders old new told after course all faultless =
    let blank = blank_of cylinders rate in
    let tracks = tracks_of cylinders 2 in
    let formats = format_each 0 tracks in
    let one = begins old new told after (blank_request 0 name cylinders rate) (request.Ack 0 ∷ (rate_requests rate 0 ++ formats)) course all in
    let put = blanks 0 rate name cylinders old one.mid told one.files one.answer one.step one.done in
    let ready = readies 0 blank formats one.mid new one.files after one.later one.behind put.medium in
    let first = step_never_fell old one.mid told one.files (blank_request 0 name cylinders rate) one.answer one.step (blank_keeps 0 rate name cylinders) in
    let second = ready.first in
    let third = ready.later in
    let laid = each_format rate tracks blank ready.mid new ready.files after ready.course ready.behind
    (omega arith, omega arith) ready.medium ready.rate put.valid in
    let disk = is_formatted rate cylinders ready.mid new ready.files after laid in
    record {
      disk = disk.0;
      there = search (ap (λ (n : Two (Option (List ℕ))). in_bay n 0) (laid.names ∙ ready.names) ∙ ap (λ (n : Two (Option (List ℕ))). in_bay n 0) put.named);
      is = disk.2;
      files = laid.files ∙ ready.same_files ∙ put.files;
    }

-- the formatted disk is stored
pub stores_disk : (rate : Rate) (name : List ℕ) (cylinders : ℕ) (old new : State) (told after : Option Files) (course : List Taken)
    → DoesAll (format_requests rate name cylinders) old told course new after → IsFaultless 0 old.station.counters new.station.counters
    → StoresFormatted rate name cylinders told after
stores_disk rate name cylinders old new told after course all faultless =
    let parts = splits old new told after (formatting rate name cylinders) (request.Eject 0 ∷ []) course all in
    let fell = never_fell parts.mid new parts.files after (request.Eject 0 ∷ []) parts.two parts.behind refl in
    let leaves = formats_disk rate name cylinders old parts.mid told parts.files parts.one parts.before (omega arith, omega arith) in
    let last = begins parts.mid new parts.files after (request.Eject 0) [] parts.two parts.behind in
    let stores = last.does.1 in
    let same_disk : stores.0 ≡ leaves.disk = cc (stores.2, leaves.there.medium) in
    let same_name : stores.1 ≡ name = cc (stores.3, leaves.there.named) in
    let end = ends_there last.mid new last.files after last.later last.behind in
    record {
      disk = leaves.disk;
      is = leaves.is;
      files = end.1 ∙ stores.5 ∙ ap (λ (n : List ℕ). stored parts.files n (file_of stores.0)) same_name
          ∙ ap (λ (d : Disk). stored parts.files name (file_of d)) same_disk ∙ ap (λ (f : Option Files). stored f name (file_of leaves.disk)) leaves.files;
    }
