-- The records of a rescue, one after the other. Either a record is saved and all others on the disk stay, or its line
-- is in the log.
use Rattle.std.proofs.Common.{arith, ◌≡◌, ℕ, suc, ◌<◌, ◌≤◌, All, List, [], ◌∷◌, length, get_or, subst, inl, inr, Option, Some, None, ◌≢◌, ◌↔◌, ◌∙◌, ◌+◌, Bool, true, false, ◌++◌, sym, ap, Result, IsOk, refl, Ok, Err}
use Rattle.std.specs.Prelude.{◌⊎◌, Contains}
use Rattle.laws_commands.proofs.Common.{AllByRecursion, AllPairs, All-map, All-weaker, recursion_from_All, Contains-append_right, Files, sectors_at, Chrn, Code, Disk, IsDisk, HasTrack, track_of, user_bytes, bytes_from, IsFaultless, Two, in_bay, IsAddressAt, content_size, IsLaid, HasFieldFor, IsTidy, written_laid, Request, Change, Written, IsChange, Entry, IsOnMap, IsRegularDisk, AreAlike, change_keeps_tracks, key_cylinder, Reply, write_refusal, StationState, bay_of, Bay, State, Step, IsDriverCall, reply_of, is_refusal, ChangesDisk, WritesTo, WritesDrive, written_from, Taken, World, shape_of, with_report, IsStandardKey, SomeStep, Gave, logged_keys, write_of, read_of, IsBefore, IsLogLine, IsLog, LogLine, IsLogFound, asked_keys, IsLogged, IsSaved, WasNotRead, entry_at, count_writes, line_at, log_of, IsTidyWrite, IsTidyFor, AreTidy, BringsUpNoMark, HasShapeOf, HasLaidFields}
use Rattle.sector_map.specs.Standard.{standard_keys as disk_keys}
use Rattle.laws_commands.proofs.Verified.{standard_all}
use Rattle.laws_commands.proofs.Steps.{ok_called, reached, length-bytes_from, still_laid}
use Rattle.laws_commands.proofs.Written.{AllTidy}
use Rattle.laws_commands.proofs.WrittenHere.{WritesHere, writes_here, reaches_in}
use Rattle.rescue.specs.Course.{standard_keys}
use Rattle.rescue.proofs.OrderLemmas.{standard_rises, logged_rises}
use Rattle.laws_commands.proofs.Gone.{GoesKeys, Over, Lost, Kept, keys_fell, write_fell, log_of_lost, log_of_kept, write_no_read, write_writes, read_keeps, call_fell, gave, gave_reads}
use Rattle.floppy_jobs.specs.declared.request.Request.TheVariants as request

-- ---- each record comes once

-- whether the key is one of these keys
abbrev pub IsAmong : Chrn → List Chrn → Type 0
IsAmong key [] = ⊥
IsAmong key (first ∷ later) = (first ≡ key) ⊎ IsAmong key later

-- no key is among those after it
abbrev pub AreDistinct : List Chrn → Type 0
AreDistinct [] = Unit {0}
AreDistinct (key ∷ later) = (IsAmong key later → ⊥) × AreDistinct later

-- where the key is in the list
pub index_of : (key : Chrn) (keys : List Chrn) → IsAmong key keys → (j : ℕ) × (j < length keys) × ((d : Chrn) → get_or keys j d ≡ key)
index_of key [] among = absurd among
index_of key (first ∷ later) (inl here) = (0, omega arith, λ d. here)
index_of key (first ∷ later) (inr there) = let rest = index_of key later there in (suc rest.0, omega (arith, rest.1), λ d. rest.2 d)

before_itself : (key : Chrn) → IsBefore key key → ⊥
before_itself key (inl less) = absurd (omega arith)
before_itself key (inr (same, inl less)) = absurd (omega arith)
before_itself key (inr (same, inr (also, less))) = absurd (omega arith)

rising_distinct : (keys : List Chrn) → AllPairs IsBefore keys → AreDistinct keys
rising_distinct [] pairs = tt
rising_distinct (key ∷ later) pairs = (
  λ among.
      let at = index_of key later among in
      let before = pairs 0 (suc at.0) key (omega arith) (omega (arith, at.1)) in
      before_itself key (subst (λ (k : Chrn). IsBefore key k) (at.2 key) before),
  rising_distinct later (λ i j d order inside. pairs (suc i) (suc j) d (omega arith) (omega arith)),
)

-- ---- which records are asked for

-- a key that is asked for: on a cylinder and a head of a drive, with a record of the disk's rate
pub record IsAsked (disk : Disk) (key : Chrn) : Type 0 where
  pub cylinder : key.c ≤ 79
  pub side : key.h ≤ 1
  pub sector : (1 ≤ key.r) × (key.r ≤ sectors_at disk.rate)
  pub size : key.n ≡ 2

pub all_standard : (disk : Disk) → All (IsStandardKey disk) (standard_keys disk.rate disk.cylinders disk.heads)
unfolding standard_keys disk_keys
all_standard disk = standard_all disk

-- the lines of a log that was found
found_log : (files : Files) (log : List ℕ) (sectors : ℕ) (lines : List LogLine) → IsLogFound (Some files) log sectors (Some lines) → IsLog sectors lines
found_log files log sectors lines found = grind arith

pub asked_all : (disk : Disk) (files : Files) (log : List ℕ) (found : Option (List LogLine)) → disk.cylinders ≤ 80 → disk.heads ≤ 2
    → IsLogFound (Some files) log (sectors_at disk.rate) found → AllByRecursion (IsAsked disk) (asked_keys (shape_of disk) found)
asked_all disk files log None few_cylinders few_heads found =
    let keys = standard_keys disk.rate disk.cylinders disk.heads in
    recursion_from_All (IsAsked disk) keys (All-weaker (IsStandardKey disk) (IsAsked disk) (λ key is. record {
      cylinder = omega (arith, is.track.0, few_cylinders);
      side = omega (arith, is.track.1, few_heads);
      sector = is.sector;
      size = is.size;
    }) keys (all_standard disk))
asked_all disk files log (Some lines) few_cylinders few_heads found =
    recursion_from_All (IsAsked disk) (logged_keys lines) (All-map (IsAsked disk) (λ (line : LogLine). line.key) lines
    (All-weaker (IsLogLine (sectors_at disk.rate)) (λ (line : LogLine). IsAsked disk line.key) (λ line is. assumption) lines (found_log files log (sectors_at disk.rate) lines found).each))

pub asked_rises : (disk : Disk) (files : Files) (log : List ℕ) (found : Option (List LogLine))
    → IsLogFound (Some files) log (sectors_at disk.rate) found → AllPairs IsBefore (asked_keys (shape_of disk) found)
asked_rises disk files log None found = standard_rises disk.rate disk.cylinders disk.heads
asked_rises disk files log (Some lines) found =
    logged_rises (sectors_at disk.rate) lines (found_log files log (sectors_at disk.rate) lines found)

pub asked_distinct : (disk : Disk) (files : Files) (log : List ℕ) (found : Option (List LogLine))
    → IsLogFound (Some files) log (sectors_at disk.rate) found → AreDistinct (asked_keys (shape_of disk) found)
asked_distinct disk files log found there = rising_distinct _ (asked_rises disk files log found there)

-- ---- the records in a course

-- a step reads the key
abbrev pub ReadsKey : Chrn → Taken → Type 0
ReadsKey key taken = (address : ℕ) × (taken.asked ≡ request.Read 0 key address)

-- a fact about a step of a course, replaced by a weaker one
pub some_apart : (P Q : Taken → Type 0) (course : List Taken) → ((taken : Taken) → P taken → Q taken) → SomeStep P course → SomeStep Q course
some_apart P Q [] f some = absurd some
some_apart P Q (taken ∷ later) f (inl here) = inl (f taken here)
some_apart P Q (taken ∷ later) f (inr there) = inr (some_apart P Q later f there)

-- The reads of a course are reads of these keys. Two reads of one key are the same step.
pub record ReadsOnce (keys : List Chrn) (course : List Taken) : Type 1 where
  pub only : (key : Chrn) → SomeStep (ReadsKey key) course → IsAmong key keys
  pub once : (key : Chrn) (P Q : Taken → Type 0) → ((taken : Taken) → P taken → ReadsKey key taken) → ((taken : Taken) → Q taken → ReadsKey key taken)
      → SomeStep P course → SomeStep Q course → (taken : Taken) × P taken × Q taken

-- a record is read, and the reads of others follow
reads_first : (key : Chrn) (keys : List Chrn) (read : Taken) (later : List Taken) → (IsAmong key keys → ⊥) → read.asked ≡ read_of key
    → ReadsOnce keys later → ReadsOnce (key ∷ keys) (read ∷ later)
reads_first key keys read later distinct asked reads = record {
  only = λ other some. elim some [ inl here ↦ inl (same other here) | inr there ↦ inr (reads.only other there) ];
  once = λ other P Q p q some also. elim some [
    | inl here ↦ elim also [ inl too ↦ (read, here, too) | inr there ↦ absurd (again other Q q (p read here) there) ]
    | inr there ↦ elim also [ inl here ↦ absurd (again other P p (q read here) there) | inr more ↦ reads.once other P Q p q there more ]
  ];
}
  where
    same : (other : Chrn) → ReadsKey other read → key ≡ other
    same other (address, is) = cc (asked, is)

    again : (other : Chrn) (P : Taken → Type 0) → ((taken : Taken) → P taken → ReadsKey other taken) → ReadsKey other read → SomeStep P later → ⊥
    again other P p here there = distinct (subst (λ (k : Chrn). IsAmong k keys) (sym (same other here)) (reads.only other (some_apart P _ later p there)))

-- a write adds no read
reads_write : (key : Chrn) (deleted : Bool) (keys : List Chrn) (write : Taken) (later : List Taken) → write.asked ≡ write_of key deleted
    → ReadsOnce keys later → ReadsOnce keys (write ∷ later)
reads_write key deleted keys write later asked reads = record {
  only = λ other some. elim some [ inl here ↦ absurd (none other here) | inr there ↦ reads.only other there ];
  once = λ other P Q p q some also. elim some [
    | inl here ↦ absurd (none other (p write here))
    | inr there ↦ elim also [ inl here ↦ absurd (none other (q write here)) | inr more ↦ reads.once other P Q p q there more ]
  ];
}
  where
    none : (other : Chrn) → ReadsKey other write → ⊥
    none other (address, is) = write_no_read key other deleted address (sym asked ∙ is)

pub keys_read : {keys : List Chrn} {old : World} {course : List Taken} {new : World} → GoesKeys keys old course new → AreDistinct keys → ReadsOnce keys course
keys_read (Over old) distinct = record { only = λ key some. some; once = λ key P Q p q some also. absurd some }
keys_read (Lost key keys cause old read files later new is goes) distinct =
    reads_first key keys read later distinct.0 is.asked (keys_read goes distinct.1)
keys_read (Kept key keys deleted old read files write more later new is wrote goes) distinct =
    reads_first key keys read (write ∷ later) distinct.0 is.asked
    (reads_write key deleted keys write later wrote.asked (keys_read goes distinct.1))

-- each record is either written or has its line in the log
pub keys_counted : {keys : List Chrn} {old : World} {course : List Taken} {new : World} → GoesKeys keys old course new
    → count_writes course + length (log_of course) ≡ length keys
keys_counted (Over old) = refl
keys_counted (Lost key keys cause old read files later new is goes) = grind (arith, log_of_lost, keys_counted goes)
keys_counted (Kept key keys deleted old read files write more later new is wrote goes) =
    grind (arith, write_writes, log_of_kept, keys_counted goes)

-- ---- changes of a disk

pub shape_itself : (disk : Disk) → HasShapeOf disk disk
shape_itself disk = record { protected = refl; cylinders = refl; heads = refl; rate = refl; words_per_track = refl }

pub shape_both : (disk middle after : Disk) → HasShapeOf disk middle → HasShapeOf middle after → HasShapeOf disk after
shape_both disk middle after first second = search

pub alike_shape : (disk after : Disk) → AreAlike disk after → HasShapeOf disk after
alike_shape disk after alike = assumption

-- if a list of changes isn't empty, its first change is possible on the disk
first_change : (written : Written) (disk : Disk) (earlier : List Change) (last : Change) (after : Disk)
    → ChangesDisk written disk (earlier ++ last ∷ []) after → (change : Change) × (next : Disk) × IsChange written disk change next
first_change written disk [] last after changes = (last, changes.0, changes.1)
first_change written disk (change ∷ earlier) last after changes = (change, changes.0, changes.1)

same_rate : (written : Written) (disk : Disk) (changes : List Change) (after : Disk) → ChangesDisk written disk changes after → after.rate ≡ disk.rate
same_rate written disk [] after same = ap (λ (d : Disk). d.rate) same
same_rate written disk (change ∷ later) after changes =
    same_rate written changes.0 later after changes.2 ∙ (change_keeps_tracks written disk change changes.0 changes.1).alike.rate

-- a write that was done went to the address field of its key, at the rate of the disk
pub record GoesToField (disk : Disk) (key : Chrn) (old : StationState) : Type 0 where
  pub has : HasTrack disk key.c key.h
  pub place : ℕ
  pub address : IsAddressAt (track_of disk key.c key.h) place key
  pub rate : (bay_of old 1).rate ≡ disk.rate

goes_to_field : (key : Chrn) (address : ℕ) (deleted : Bool) (disk : Disk) (old new : StationState) (called : Result (Unit {0}) Code)
    → IsRegularDisk disk → WritesDrive (written_from old key address deleted) 1 old called new → IsOk called → IsFaultless 1 old.counters new.counters
    → (bay_of old 1).medium ≡ Some disk → GoesToField disk key old
goes_to_field key address deleted disk old new called regular drive ok faultless medium =
    let written = written_from old key address deleted in
    let done = drive.done ok in
    let last = done.last faultless in
    let reach = reaches_in written _ _ disk done.disk drive.changes medium done.medium drive.reach in
    let first = first_change written disk last.0 last.1 done.disk (subst (λ (row : List Change). ChangesDisk written disk row done.disk) last.2 reach) in
    let place = first.0.place in
    let cylinder = sym (key_cylinder disk first.0.cylinder key.h place key regular first.2.track first.2.address).0 in
    record {
      has = subst (λ (b : ℕ). HasTrack disk b key.h) cylinder first.2.track;
      place = place;
      address = subst (λ (b : ℕ). IsAddressAt (track_of disk b key.h) place key) cylinder first.2.address;
      rate = sym done.same_rate ∙ same_rate written disk drive.changes done.disk reach;
    }

-- ---- the write

pub write_does : (key : Chrn) (deleted : Bool) (old new : State) (told after : Option Files) (answer : Reply)
    → Step (write_of key deleted) old told answer new after
    → IsDriverCall old told new after × ((called : Result (Unit {0}) Code) × (answer ≡ reply_of called) × WritesTo 1 key 0x10000 deleted old.station called new.station)
write_does key true old new told after answer step = step
write_does key false old new told after answer step = step

tidy_write : (key : Chrn) (deleted : Bool) (state : State) → IsTidyFor state (write_of key deleted) → IsTidyWrite state.station 1 key 0x10000 deleted
tidy_write key true state tidy = tidy
tidy_write key false state tidy = tidy

-- what the write did to the disk in bay 1
pub record SavesKey (disk : Disk) (key : Chrn) (deleted : Bool) (old : State) (told : Option Files) (new : State) (after : Option Files) (later : List Taken) : Type 0 where
  pub place : ℕ
  pub wrote : WritesHere 1 disk key place 0x10000 deleted old.station new.station
  pub laid : HasLaidFields disk → HasLaidFields wrote.next
  pub unmarked : BringsUpNoMark wrote.next new later
  pub memory : new.station.memory ≡ old.station.memory
  pub names : new.names ≡ old.names
  pub files : after ≡ told

module _ (tidy : AllTidy) (disk : Disk) (key : Chrn) (deleted : Bool) (old new : State) (called : Result (Unit {0}) Code) (regular : IsRegularDisk disk) (size : length old.station.memory ≡ user_bytes) (sized : key.n ≡ 2) (drive : WritesDrive (written_from old.station key 0x10000 deleted) 1 old.station called new.station) (ok : IsOk called) (faultless : IsFaultless 1 old.station.counters new.station.counters) (medium : (bay_of old.station 1).medium ≡ Some disk) where
  abbrev content : List ℕ
  content = bytes_from old.station.memory 0x10000 (content_size key.n)

  went : GoesToField disk key old.station
  went = goes_to_field key 0x10000 deleted disk old.station new.station called regular drive ok faultless medium

  long : length content ≡ content_size key.n
  long =
      let few : 0x10000 + 512 ≤ length old.station.memory = omega (arith, size) in
      length-bytes_from old.station.memory 0x10000 (content_size key.n) (subst (λ (n : ℕ). 0x10000 + content_size n ≤ length old.station.memory) (sym sized) few)

  field : HasFieldFor (track_of disk key.c key.h) went.place content
  field = (key, record { address = went.address; size = long })

  here : IsTidy (track_of disk key.c key.h) went.place deleted content → WritesHere 1 disk key went.place 0x10000 deleted old.station new.station
  here neat =
      writes_here 1 key 0x10000 deleted disk regular went.has went.place went.address old.station new.station neat called drive ok
      faultless medium went.rate

  laid_after : (neat : IsTidy (track_of disk key.c key.h) went.place deleted content) → HasLaidFields disk → HasLaidFields (here neat).next
  laid_after neat laid =
      let on = laid key.c key.h went.place key went.has went.address in
      let still = subst IsLaid (sym (here neat).window) (written_laid (track_of disk key.c key.h) went.place deleted content on field) in
      still_laid disk (here neat).next key.c key.h (here neat).keeps laid still

  saves : (told after : Option Files) (later : List Taken) (neat : IsTidy (track_of disk key.c key.h) went.place deleted content)
      → IsDriverCall old told new after → BringsUpNoMark (here neat).next new later → SavesKey disk key deleted old told new after later
  saves told after later neat call unmarked = record {
    place = went.place;
    wrote = here neat;
    laid = laid_after neat;
    unmarked = unmarked;
    memory = ap (λ (s : StationState). s.memory) drive.becomes;
    names = call.names;
    files = call.files;
  }

  pub unmarked_saves : (told after : Option Files) (later : List Taken) → IsDriverCall old told new after
      → (HasLaidFields disk ⊎ (IsTidyWrite old.station 1 key 0x10000 deleted × AreTidy new later))
      → SavesKey disk key deleted old told new after later
  unmarked_saves told after later call (inl laid) =
      let on = laid key.c key.h went.place key went.has went.address in
      let neat = tidy (track_of disk key.c key.h) went.place deleted content on field in
      saves told after later neat call (inl (laid_after neat laid))
  unmarked_saves told after later call (inr (first, rest)) =
      saves told after later (first disk key.c went.place medium went.has went.address) call (inr rest)

pub saves_key : (tidy : AllTidy) (disk : Disk) (key : Chrn) (deleted : Bool) (old : State) (told : Option Files) (taken : Taken)
    (after : Option Files) (later : List Taken)
    → IsRegularDisk disk → length old.station.memory ≡ user_bytes → key.n ≡ 2 → taken.asked ≡ write_of key deleted
    → Step (write_of key deleted) old told taken.answer taken.after after → is_refusal taken.answer ≡ false
    → IsFaultless 1 old.station.counters taken.after.station.counters → (bay_of old.station 1).medium ≡ Some disk
    → BringsUpNoMark disk old (taken ∷ later) → SavesKey disk key deleted old told taken.after after later
saves_key tidy disk key deleted old told taken after later regular size sized asked step done faultless medium unmarked =
    let call = write_does key deleted old taken.after told after taken.answer step in
    let ok = ok_called call.1.0 taken.answer call.1.1 done in
    let drive = reached (write_refusal old.station 1 key 0x10000) call.1.0 old.station taken.after.station call.1.2 ok in
    let both : HasLaidFields disk ⊎ (IsTidyWrite old.station 1 key 0x10000 deleted × AreTidy taken.after later) = elim unmarked [
      | inl laid ↦ inl laid
      | inr neat ↦ inr (tidy_write key deleted old (subst (λ (q : Request). IsTidyFor old q) asked neat.0), neat.1)
    ] in
    unmarked_saves tidy disk key deleted old taken.after call.1.0 regular size sized drive ok faultless medium told after later call.0 both

-- ---- the records, one after the other

-- what became of the keys and of the disk in bay 1; the course is a part of a longer one
pub record SavesKeys (whole : List Taken) (lines : List LogLine) (keys : List Chrn) (disk : Disk) (old : World) (course : List Taken)
    (new : World) : Type 0 where
  pub final : Disk
  pub medium : (bay_of new.state.station 1).medium ≡ Some final
  pub regular : IsRegularDisk final
  pub shape : HasShapeOf disk final
  pub valid : IsDisk disk → IsDisk final
  pub laid : HasLaidFields disk → HasLaidFields final
  pub names : new.state.names ≡ old.state.names
  pub files : new.files ≡ old.files
  pub settled : AllByRecursion (λ key. IsLogged whole lines key ⊎ IsSaved whole final key) keys
  pub others : (entry : Entry) → WasNotRead course entry.key → IsOnMap disk entry ↔ IsOnMap final entry

-- the rest of such a course brings up no address mark either
unmarked_later : (disk : Disk) (old : State) (first : Taken) (later : List Taken) → BringsUpNoMark disk old (first ∷ later)
    → BringsUpNoMark disk first.after later
unmarked_later disk old first later (inl laid) = inl laid
unmarked_later disk old first later (inr neat) = inr neat.1

module _ (tidy : AllTidy) (source : Disk) (whole : List Taken) (lines : List LogLine) where
  -- the steps and the lines of a course are among those of the longer course
  pub record IsPart (course : List Taken) : Type 1 where
    pub steps : (P : Taken → Type 0) → SomeStep P course → SomeStep P whole
    pub lines_are : (line : LogLine) → Contains (log_of course) line → Contains lines line

  part_later : (first : Taken) (later : List Taken) → IsPart (first ∷ later) → IsPart later
  part_later first later part = record {
    steps = λ P some. part.steps P (inr some);
    lines_are = λ line there. part.lines_are line (Contains-append_right (line_at first.asked first.answer) (log_of later) line there);
  }

  pub saves_keys : {keys : List Chrn} (disk : Disk) {old : World} {course : List Taken} {new : World} → GoesKeys keys old course new → IsPart course
      → AllByRecursion (IsAsked source) keys → AreDistinct keys → IsRegularDisk disk → length old.state.station.memory ≡ user_bytes
      → (bay_of old.state.station 1).medium ≡ Some disk → BringsUpNoMark disk old.state course
      → IsFaultless 1 old.state.station.counters new.state.station.counters → SavesKeys whole lines keys disk old course new
  saves_keys disk (Over old) part asked distinct regular size medium unmarked faultless = search
  saves_keys disk (Lost key keys cause old read files later new is goes) part asked distinct regular size medium unmarked faultless =
      let keeps = read_keeps key old.state.station read.after.station (Err cause) asked.0.size size is.reads in
      let fell = call_fell old.state read.after old.files files is.call in
      let still = ap (λ (bays : Two Bay). (in_bay bays 1).medium) keeps.bays ∙ medium in
      let all = saves_keys disk goes (part_later read later part) asked.1 distinct.1 regular
      (keeps.size ∙ size) still (unmarked_later disk old.state read later unmarked) (omega (arith, fell.second, faultless.0), faultless.1) in
      let line : LogLine = record { key = key; code = cause } in
      let here = log_of_lost key cause old read files later is in
      record {
        final = all.final;
        medium = all.medium;
        regular = all.regular;
        shape = all.shape;
        valid = all.valid;
        laid = all.laid;
        names = all.names ∙ is.call.names;
        files = all.files ∙ is.call.files;
        settled = (
          inl (record {
            code = cause;
            read = part.steps _ (inl (is.asked, is.answered));
            line = part.lines_are line (subst (λ (row : List LogLine). Contains row line) (sym here) (0, omega arith, refl));
          }),
          all.settled,
        );
        others = λ entry unread. all.others entry (λ deleted content some. unread deleted content (inr some));
      }
  saves_keys disk (Kept key keys deleted old read files write more later new is wrote goes) part asked distinct regular size medium unmarked faultless =
      let mid = with_report read.after files old.report in
      let next = with_report write.after more old.report in
      let keeps = read_keeps key old.state.station read.after.station (Ok deleted) asked.0.size size is.reads in
      let fell_read = call_fell old.state read.after old.files files is.call in
      let fell_write = write_fell key deleted mid next write more refl wrote in
      let there = keys_fell goes in
      let none_yet = unmarked_later disk old.state read (write ∷ later) unmarked in
      let still = ap (λ (bays : Two Bay). (in_bay bays 1).medium) keeps.bays ∙ medium in
      let calm : IsFaultless 1 mid.state.station.counters next.state.station.counters =
      (omega (arith, fell_read.second, there.second, faultless.0), omega (arith, there.second, faultless.1)) in
      let one = saves_key tidy disk key deleted read.after files write more later regular
      (keeps.size ∙ size) asked.0.size wrote.asked wrote.step
      wrote.done calm still none_yet in
      let all = saves_keys one.wrote.next goes (part_later write later (part_later read (write ∷ later) part))
      asked.1 distinct.1 one.wrote.regular
      (ap (λ (m : List ℕ). length m) one.memory ∙ keeps.size ∙ size) one.wrote.medium one.unmarked
      (omega (arith, fell_read.second, fell_write.second, faultless.0), faultless.1) in
      let content = bytes_from read.after.station.memory 0x10000 (content_size key.n) in
      let given = gave key deleted read is.asked is.answered in
      let reads = keys_read goes distinct.1 in
      let unread : WasNotRead later key = λ mark bytes some. distinct.0 (reads.only key (some_apart _ _ later (gave_reads key mark bytes) some)) in
      record {
        final = all.final;
        medium = all.medium;
        regular = all.regular;
        shape = shape_both disk one.wrote.next all.final (alike_shape disk one.wrote.next one.wrote.keeps.alike) all.shape;
        valid = λ is. all.valid one.wrote.keeps.alike.valid;
        laid = λ had. all.laid (one.laid had);
        names = all.names ∙ one.names ∙ is.call.names;
        files = all.files ∙ one.files ∙ is.call.files;
        settled = (
          inr (record {
            deleted = deleted;
            content = content;
            place = one.place;
            read = part.steps _ (inl given);
            entry = (all.others (entry_at key one.place deleted content) unread).0 one.wrote.entry;
          }),
          all.settled,
        );
        others = λ entry none.
            let differ : entry.key ≢ key = λ same. none deleted content (inl (subst (λ (k : Chrn). Gave k deleted content read) (sym same) given)) in
            let first = one.wrote.others entry differ in
            let rest = all.others entry (λ mark bytes some. none mark bytes (inr (inr some))) in
            (λ on. rest.0 (first.0 on), λ on. first.1 (rest.1 on));
      }
