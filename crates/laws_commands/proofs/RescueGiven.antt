-- What the reads of a rescue gave. They are intact fields of the disk in bay 0, whatever faults there were, and sectors
-- if the reads are sure.
use Rattle.std.proofs.Common.{arith, ◌≡◌, ◌∙◌, ◌+◌, ◌≤◌, ℕ, Bool, List, [], length, refl, sym, ap, subst, inl, inr, Option, Some, Result, Ok, Err, true, false, ◌∷◌, ◌++◌, map}
use Rattle.laws_commands.proofs.Common.{AllByRecursion, Files, Chrn, Code, Disk, track_of, Two, in_bay, user_bytes, bytes_from, content_size, IsSector, StationState, Bay, bay_of, read_refusal, write_refusal, Taken, World, with_report, SomeStep, Gave, IsFieldOf, IsSure, cases_lt, map-append, HasTrack, IsUndisturbed, faults_of, Look, Found, NoMark, one_look_for, LookOn, HasNothing, by_met, in_is_on, nothing_unrecorded, unless_found, AreFailing, met, Reads, ReadsDrive, IsReadCause, read_reply, IsStandardKey, IsUnmistaken, told_of, refused_read, all_told_of, LogLine, failing_lines, log_of, IsNotFound}
use Rattle.laws_commands.proofs.DiskRecords.{length-bytes_at, read_sector, sure_parts}
use Rattle.laws_commands.proofs.Steps.{ok_called, reached, at_stands, NeverFell}
use Rattle.laws_commands.proofs.Gone.{read_keeps, call_fell, gave, never_both, write_no_read, write_fell, fell_both, keys_fell, IsRead, IsWrite, GoesKeys, Over, Lost, Kept, log_of_lost, log_of_kept}
use Rattle.laws_commands.proofs.RescueRecords.{IsAsked, write_does}
use Rattle.laws_commands.proofs.Looks.{rose_by}
use Rattle.laws_commands.proofs.Verified.{Holds, not_refused, reaches, bays_stay, holds_on, key_is, one_read, quiet_parts, told_more}
use Rattle.flop_base.specs.declared.answers.Code.TheVariants as code
use Rattle.floppy_jobs.specs.declared.request.Request.TheVariants as request

module _ (disk : Disk) where
  -- bay 0 has the disk, and memory has its size
  pub record IsAtHand (station : StationState) : Type 0 where
    pub medium : (bay_of station 0).medium ≡ Some disk
    pub size : length station.memory ≡ user_bytes

  -- What a read gave is an intact field of its key. If the reads are sure, it is the key's sector.
  pub record IsGivenOf (sure : Type 0) (key : Chrn) (deleted : Bool) (content : List ℕ) : Type 0 where
    pub field : IsFieldOf disk key deleted content
    pub sector : sure → IsSector (track_of disk key.c key.h) key deleted content

  -- a read that was done gave such a field
  done_gives : (sure : Type 0) (key : Chrn) (mark : Bool) (old : World) (read : Taken) (files : Option Files) → key.n ≡ 2
      → IsRead key (Ok mark) old read files → IsAtHand old.state.station
      → (sure → IsSure disk old.state.station.counters read.after.station.counters) → (deleted : Bool) (content : List ℕ)
      → Gave key deleted content read → IsGivenOf sure key deleted content
  done_gives sure key mark old read files sized is hand calm deleted content given =
      let before = old.state.station.memory in
      let after = read.after.station.memory in
      let found = (reached (read_refusal old.state.station 0 key 0x10000) (Ok mark) old.state.station read.after.station is.reads refl).found in
      let same : found.disk ≡ disk = cc (found.medium, hand.medium) in
      let field = subst (λ (d : Disk). IsFieldOf d key mark found.content) same
      (found.cylinder, found.track, (found.place, found.mark, found.address_field, found.data_mark, found.whole)) in
      let gives : IsGivenOf sure key mark found.content = record {
        field = field;
        sector = λ s. read_sector key 0x10000 mark disk old.state.station read.after.station found hand.medium (calm s);
      } in
      let own = gave key mark read is.asked is.answered in
      let one = own.mark in
      let other = given.mark in
      let same_mark : mark ≡ deleted = cc (one, other) in
      let first = is.asked in
      let second = given.asked in
      let place : given.address ≡ 0x10000 = cc (first, second) in
      let long : length found.content ≡ 512 =
      ap length found.whole.content_is ∙ length-bytes_at (track_of found.disk found.cylinder key.h) (found.mark + 64) (content_size key.n)
      ∙ ap content_size sized in
      let size = hand.size in
      let fits : 0x10000 + length found.content ≤ length before = omega (arith, size, long) in
      let bytes : content ≡ found.content =
      given.content ∙ ap (λ (a : ℕ). bytes_from after a (content_size key.n)) place ∙ ap (λ (n : ℕ). bytes_from after 0x10000 (content_size n)) sized
      ∙ ap (λ (s : StationState). bytes_from s.memory 0x10000 512) found.becomes ∙ at_stands before 0x10000 found.content 512 long fits in
      subst (λ (b : Bool). IsGivenOf sure key b content) same_mark (subst (λ (row : List ℕ). IsGivenOf sure key mark row) (sym bytes) gives)

  read_gives : (sure : Type 0) (key other : Chrn) (called : Result Bool Code) (old : World) (read : Taken) (files : Option Files) → key.n ≡ 2
      → IsRead key called old read files → IsAtHand old.state.station → (sure → IsSure disk old.state.station.counters read.after.station.counters)
      → (deleted : Bool) (content : List ℕ) → Gave other deleted content read → IsGivenOf sure other deleted content
  read_gives sure key other called old read files sized is hand calm deleted content given =
      let first = is.asked in
      let second = given.asked in
      let same : other ≡ key = cc (first, second) in
      subst (λ (k : Chrn). IsGivenOf sure k deleted content) (sym same)
      (by_answer called is (subst (λ (k : Chrn). Gave k deleted content read) same given))
    where
      by_answer : (called : Result Bool Code) → IsRead key called old read files → Gave key deleted content read → IsGivenOf sure key deleted content
      by_answer (Ok mark) is given = done_gives sure key mark old read files sized is hand calm deleted content given
      by_answer (Err cause) is given = absurd (never_both key cause deleted content read (is.asked, is.answered) given)

  -- a read leaves the bays as they are, and memory keeps its size
  read_at_hand : (key : Chrn) (called : Result Bool Code) (old : World) (read : Taken) (files : Option Files) → key.n ≡ 2
      → IsRead key called old read files → IsAtHand old.state.station → IsAtHand read.after.station
  read_at_hand key called old read files sized is hand =
      let keeps = read_keeps key old.state.station read.after.station called sized hand.size is.reads in
      record { medium = ap (λ (bays : Two Bay). (in_bay bays 0).medium) keeps.bays ∙ hand.medium; size = keeps.size ∙ hand.size }

  -- a write goes to bay 1, and also leaves bay 0 and the size of memory
  write_at_hand : (key : Chrn) (deleted : Bool) (old : World) (write : Taken) (files : Option Files) → IsWrite key deleted old write files
      → IsAtHand old.state.station → IsAtHand write.after.station
  write_at_hand key deleted old write files wrote hand =
      let does = write_does key deleted old.state write.after old.files files write.answer wrote.step in
      let ok = ok_called does.1.0 write.answer does.1.1 wrote.done in
      let drive = reached (write_refusal old.state.station 1 key 0x10000) does.1.0 old.state.station write.after.station does.1.2 ok in
      record {
        medium = ap (λ (s : StationState). (bay_of s 0).medium) drive.becomes ∙ hand.medium;
        size = ap (λ (s : StationState). length s.memory) drive.becomes ∙ hand.size;
      }

  pub keys_give : (sure : Type 0) {keys : List Chrn} {old : World} {course : List Taken} {new : World} → GoesKeys keys old course new
      → AllByRecursion (IsAsked disk) keys → IsAtHand old.state.station
      → (sure → IsSure disk old.state.station.counters new.state.station.counters) → (other : Chrn) (deleted : Bool) (content : List ℕ)
      → SomeStep (Gave other deleted content) course → IsGivenOf sure other deleted content
  keys_give sure (Over old) asked hand calm other deleted content some = absurd some
  keys_give sure (Lost key keys cause old read files later new is goes) asked hand calm other deleted content some =
      let fell = call_fell old.state read.after old.files files is.call in
      let calms = λ (s : sure). sure_parts disk old.state.station.counters read.after.station.counters new.state.station.counters fell
      (keys_fell goes) (calm s) in
      elim some [
        | inl here ↦ read_gives sure key other (Err cause) old read files asked.0.size is hand (λ s. (calms s).0) deleted content here
        | inr there ↦
            keys_give sure goes asked.1 (read_at_hand key (Err cause) old read files asked.0.size is hand) (λ s. (calms s).1) other deleted content there
      ]
  keys_give sure (Kept key keys mark old read files write more later new is wrote goes) asked hand calm other deleted content some =
      let mid = with_report read.after files old.report in
      let next = with_report write.after more old.report in
      let now = write_at_hand key mark mid write more wrote (read_at_hand key (Ok mark) old read files asked.0.size is hand) in
      let fell_write = write_fell key mark mid next write more refl wrote in
      let fell_later = keys_fell goes in
      let first = λ (s : sure). sure_parts disk old.state.station.counters read.after.station.counters new.state.station.counters
      (call_fell old.state read.after old.files files is.call) (fell_both mid next new fell_write fell_later) (calm s) in
      let second = λ (s : sure). sure_parts disk read.after.station.counters write.after.station.counters new.state.station.counters
      fell_write fell_later (first s).1 in
      elim some [
        | inl here ↦ read_gives sure key other (Ok mark) old read files asked.0.size is hand (λ s. (first s).0) deleted content here
        | inr (inl here) ↦ absurd (write_no_read key other mark here.address (sym wrote.asked ∙ here.asked))
        | inr (inr there) ↦ keys_give sure goes asked.1 now (λ s. (second s).1) other deleted content there
      ]

-- ---- what the reads of a rescue tell, and what its log has, if nothing disturbs the reads and no address field
-- can be mistaken.

-- the refusal of a read, if the read was refused
abbrev pub told_by : Chrn → Result Bool Code → List (Chrn × Code)
told_by key called = refused_read (request.Read 0 key 0x10000) (read_reply called)

none_told : (key : Chrn) (deleted : Bool) → told_by key (Ok deleted) ≡ []
none_told key true = refl
none_told key false = refl

-- a read told the answer of the look for its key, which has only one answer
pub record TellsKey (disk : Disk) (count : ℕ) (key : Chrn) (called : Result Bool Code) (new : StationState) : Type 0 where
  pub look : Look
  pub one : (other : Look) → LookOn disk key other → other ≡ look
  pub told : told_by key called ≡ told_of key look
  pub holds : Holds disk count new

-- a key on whose cylinder and head the disk has no track
module _ (disk : Disk) (count : ℕ) (key : Chrn) (asked : IsAsked disk key) (none : HasTrack disk key.c key.h → ⊥) (old new : StationState)
    (holds : Holds disk count old) (quiet : IsUndisturbed 0 old.counters new.counters) (fell : NeverFell old.counters new.counters) where
  nothing : HasNothing (met (bay_of old 0) key.c key.h)
  nothing =
      subst HasNothing (sym (in_is_on (bay_of old 0).medium (bay_of old 0).rate key.c key.h disk holds.medium))
      (by_met disk (bay_of old 0).rate key.c key.h HasNothing (λ had same. absurd (none had)) (λ _. nothing_unrecorded disk.words_per_track))

  same_faults : faults_of new.counters 0 ≡ count
  same_faults = let first = fell.first in let stalls = fell.stalls in let together = quiet.together in let was = holds.faults in omega arith

  only_mark : (tries : ℕ) (cause : Code) → IsReadCause (met (bay_of old 0) key.c key.h) key tries 0 old cause new → told_by key (Err cause) ≡ told_of key NoMark
  only_mark tries code.NoMark is = refl
  only_mark tries code.NotFound is = absurd (nothing.marks (is.not_found refl quiet).0)
  only_mark tries code.BadCrc is = let bad = is.bad_data refl quiet in absurd (nothing.addresses bad.0 key bad.1)
  only_mark tries code.Overrun is = let rose = rose_by 1 _ _ (is.overrun refl) quiet.stalls in absurd (omega (arith, quiet.together, fell.first))
  only_mark tries code.Seek is = let rose = rose_by 77 _ _ (is.lost refl) quiet.faults in absurd (omega (arith, quiet.together, fell.stalls))
  only_mark tries _ is = absurd is.device

  drive_tells : (called : Result Bool Code) → ReadsDrive 0 key 0x10000 old called new → TellsKey disk count key called new
  drive_tells (Ok deleted) drive =
      let is = drive.found in
      let same : is.disk ≡ disk = cc (is.medium, holds.medium) in
      let cylinder = is.steady (record { kept = count; acknowledged = holds.acknowledged; count = same_faults; below = omega (arith, same_faults, quiet.faults) }) in
      let track = subst (λ (c : ℕ). HasTrack is.disk c key.h) cylinder is.track in
      absurd (none (subst (λ (d : Disk). HasTrack d key.c key.h) same track))
  drive_tells (Err cause) drive = record {
    look = NoMark;
    one = λ other on. on.absent none;
    told = only_mark old.tries cause drive.refused.cause;
    holds = holds_on disk count old new holds (bays_stay old new _ drive.refused.becomes) same_faults;
  }

  off_disk : (called : Result Bool Code) → Reads 0 key 0x10000 old called new → TellsKey disk count key called new
  off_disk called reads = grind (arith, key_is, not_refused, drive_tells, reaches)

-- ---- what the log has

-- the log lines of refusals
abbrev lines_of : List (Chrn × Code) → List LogLine
lines_of refused = map (λ (told : Chrn × Code). record { key = told.0; code = told.1 }) refused

-- the log lines of one more key
lines_more : (key : Chrn) (look : Look) (failed rest : List (Chrn × Look)) (later : List LogLine) → failed ≡ unless_found key look ++ rest
    → later ≡ failing_lines rest → lines_of (told_of key look) ++ later ≡ failing_lines failed
lines_more key look failed rest later all there =
    ap (λ (row : List LogLine). lines_of (told_of key look) ++ row) there
    ∙ sym (map-append (λ (told : Chrn × Code). record { key = told.0; code = told.1 }) (told_of key look) (all_told_of rest))
    ∙ ap lines_of (sym (told_more key look rest))
    ∙ ap failing_lines (sym all)

module _ (disk : Disk) where
  -- The lines are what the looks for these keys tell. Each of these looks has only one answer.
  abbrev pub AreTold : List Chrn → List LogLine → Type 0
  AreTold [] lines = lines ≡ []
  AreTold (key ∷ keys) lines =
      (look : Look) × ((other : Look) → LookOn disk key other → other ≡ look)
      × (later : List LogLine) × (lines ≡ lines_of (told_of key look) ++ later) × AreTold keys later

  abbrev AreLost : List LogLine → Type 0
  AreLost lines = AllByRecursion (λ (line : LogLine). IsNotFound disk line.key) lines

  lost_more : (key : Chrn) (look : Look) (later : List LogLine) → ((other : Look) → LookOn disk key other → other ≡ look) → AreLost later
      → AreLost (lines_of (told_of key look) ++ later)
  lost_more key (Found deleted place) later one lost = lost
  lost_more key look later one lost = (λ deleted place on. cc (one (Found deleted place) on), lost)

  -- the records that are logged aren't found on the disk
  pub told_lost : (keys : List Chrn) (lines : List LogLine) → AreTold keys lines → AreLost lines
  told_lost [] lines told = subst AreLost (sym told) tt
  told_lost (key ∷ keys) lines (look, one, later, is, told) = subst AreLost (sym is) (lost_more key look later one (told_lost keys later told))

  -- all that fail are logged
  pub told_failing : (keys : List Chrn) (lines : List LogLine) (failed : List (Chrn × Look)) → AreTold keys lines → AreFailing disk keys failed
      → lines ≡ failing_lines failed
  told_failing [] lines failed told failing = told ∙ ap failing_lines (sym failing)
  told_failing (key ∷ keys) lines failed (look, one, later, is, told) failing =
      grind (arith, lines_more, told_failing keys later failing.1 told failing.4)

module _ (disk : Disk) (few_cylinders : disk.cylinders ≤ 80) (few_heads : disk.heads ≤ 2) (unmistaken : IsUnmistaken disk) (count : ℕ) where
  -- what the read of a record told
  read_tells : (key : Chrn) (called : Result Bool Code) (old : World) (read : Taken) (files : Option Files) → IsAsked disk key
      → IsRead key called old read files → Holds disk count old.state.station
      → IsUndisturbed 0 old.state.station.counters read.after.station.counters → TellsKey disk count key called read.after.station
  read_tells key called old read files asked is holds quiet = elim (cases_lt key.c disk.cylinders) [
    | inl cylinder ↦ elim (cases_lt key.h disk.heads) [ inl head ↦ on_disk (cylinder, head) | inr past ↦ off (λ has. absurd (omega (arith, has.1))) ]
    | inr past ↦ off (λ has. absurd (omega (arith, has.0)))
  ]
    where
      fell : NeverFell old.state.station.counters read.after.station.counters
      fell = call_fell old.state read.after old.files files is.call

      off : (HasTrack disk key.c key.h → ⊥) → TellsKey disk count key called read.after.station
      off none = off_disk disk count key asked none old.state.station read.after.station holds quiet fell called is.reads

      on_disk : HasTrack disk key.c key.h → TellsKey disk count key called read.after.station
      on_disk has =
          let standard : IsStandardKey disk key = record { track = has; sector = asked.sector; size = asked.size } in
          let tells = one_read disk count key old.state read.after old.files files (read_reply called) few_cylinders few_heads unmistaken standard
          (is.call, (called, refl, is.reads)) holds quiet fell in
          record {
            look = tells.look;
            one = λ other on. one_look_for (track_of disk key.c key.h) key other tells.look (on.there has) tells.looked;
            told = tells.told;
            holds = tells.holds;
          }

  -- a write leaves bay 0 as it is
  write_holds : (key : Chrn) (deleted : Bool) (old new : World) (write : Taken) (files : Option Files) → new.state ≡ write.after
      → IsWrite key deleted old write files
      → Holds disk count old.state.station → IsUndisturbed 0 old.state.station.counters new.state.station.counters → Holds disk count new.state.station
  write_holds key deleted old new write files same wrote holds quiet = grind (arith, write_does, ok_called, reached, write_fell, holds_on)

  pub keys_told : {keys : List Chrn} {old : World} {course : List Taken} {new : World} → GoesKeys keys old course new
      → AllByRecursion (IsAsked disk) keys → Holds disk count old.state.station
      → IsUndisturbed 0 old.state.station.counters new.state.station.counters → AreTold disk keys (log_of course)
  keys_told (Over old) asked holds quiet = refl
  keys_told (Lost key keys cause old read files later new is goes) asked holds quiet =
      let here = call_fell old.state read.after old.files files is.call in
      let parts = quiet_parts old.state.station.counters read.after.station.counters new.state.station.counters here (keys_fell goes) quiet in
      let tells = read_tells key (Err cause) old read files asked.0 is holds parts.0 in
      let line = log_of_lost key cause old read files later is in
      let all = keys_told goes asked.1 tells.holds parts.1 in
      (tells.look, tells.one, log_of later, line ∙ ap (λ (told : List (Chrn × Code)). lines_of told ++ log_of later) tells.told, all)
  keys_told (Kept key keys deleted old read files write more later new is wrote goes) asked holds quiet =
      let mid = with_report read.after files old.report in
      let next = with_report write.after more old.report in
      let fell = write_fell key deleted mid next write more refl wrote in
      let there = keys_fell goes in
      let here = call_fell old.state read.after old.files files is.call in
      let parts = quiet_parts old.state.station.counters read.after.station.counters new.state.station.counters here
      (fell_both mid next new fell there) quiet in
      let last = quiet_parts read.after.station.counters write.after.station.counters new.state.station.counters fell there parts.1 in
      let tells = read_tells key (Ok deleted) old read files asked.0 is holds parts.0 in
      let now = write_holds key deleted mid next write more refl wrote tells.holds last.0 in
      let none = log_of_kept key deleted old mid read files write more later is wrote in
      let told = sym (none_told key deleted) ∙ tells.told in
      let all = keys_told goes asked.1 now last.1 in
      (tells.look, tells.one, log_of later, none ∙ ap (λ (told : List (Chrn × Code)). lines_of told ++ log_of later) told, all)
