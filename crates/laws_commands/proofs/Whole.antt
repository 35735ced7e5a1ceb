-- Rescues, by the status with which they end. This file has what they store and tell, and when the log is exactly the
-- keys that aren't found.
use Rattle.std.proofs.Common.{◌≡◌, ◌∙◌, List, [], ◌∷◌, ◌++◌, ℕ, length, ap, subst, inl, inr, append-nil, Option, Some, arith, ◌+◌, Bool, true, false, refl, sym, ◌↔◌, None, ◌≢◌, ◌-◌}
use Rattle.std.specs.Prelude.{is_some, ◌⊎◌, Contains, IfSome, All}
use Rattle.laws_commands.proofs.Common.{list_all, All-from_recursion, All-map, All-weaker, Files, stored, file_at, grown, sectors_at, Status, Chrn, Disk, IsDisk, file_of, Two, in_bay, IsFaultless, IsUndisturbed, user_bytes, laid_tidy, Request, IsRegularDisk, Entry, IsOnMap, IsImageOf, Taken, requests_of, has_refusal, Run, World, is_refusal, State, Shape, shape_of, Script, Ends, Fails, RunsScript, StoresLast, IsStored, NotStored, IsStoreFault, carries, through, last_run, last_failed, last_stored, prints_status, Passed, Opened, joined, did_both, opens_passed, DoesAll, IsEndStatus, SomeStep, Gave, IsSure, HaveSameSector, IsUnmistaken, logged_keys, outcome_status, log_text, LogLine, IsLogFound, IsFound, rescues, asked_keys, outcome_of, last_text, rescue_rest, Rescues, by_rest, HasLaidFields, IsNotStopped, count_writes, IsLogged, IsSaved, IsSettled, WasNotRead, BringsUpNoMark, HasTarget, diskette_for, HasShapeOf, StillHolds, KeepsEntries, outcome_in, IsRescue, IsNotFound, LogsNotFound, WasRefused, log_of, AreTidy}
use Rattle.commands.specs.Parts.{may_starve}
use Rattle.commands.proofs.Passed.{Does}
use Rattle.laws_commands.proofs.VerifyRun.{not_put, end_is_whole}
use Rattle.laws_commands.proofs.TrackParts.{did_all, opened_shape}
use Rattle.laws_commands.proofs.Steps.{and_both, or_false, begins, ends_there, never_fell}
use Rattle.laws_commands.proofs.Verified.{image_ranges, quiet_parts, stores_both, stands_under, image_there, log_stands}
use Rattle.rescue.specs.declared.outcome.Outcome.{Outcome}
use Rattle.disk_commands.specs.Rescue.{rescues_all, stores_log, rescue_found}
use Rattle.laws_commands.proofs.Gone.{later_fine, not_refused, carried, GoesKeys, keys_gone, AreRefusals, Fell, fell_both, keys_fell, line_of_done, gave_reads, never_both}
use Rattle.laws_commands.proofs.RescueOpening.{opening, ready_requests, second_request, formats_for, prepares_carried, HasOther, IsNew, begins_new, begins_again, holds_first, first_in, is_plain, plain_facts, plain_keep, opening_plain}
use Rattle.laws_commands.proofs.RescueRecords.{asked_all, asked_distinct, shape_itself, shape_both, IsPart, SavesKeys, saves_keys, ReadsKey, some_apart, keys_read, keys_counted, index_of}
use Rattle.laws_commands.proofs.RescueGiven.{IsAtHand, IsGivenOf, keys_give, told_lost, told_failing, keys_told}
use Rattle.laws_commands.proofs.CopiedTrack.{some_first, some_second}
use Rattle.laws_commands.proofs.CopyRun.{logs_again, only_of}
use Rattle.flop_base.specs.declared.answers.Status.TheVariants as status
use Rattle.floppy_jobs.specs.declared.request.Request.TheVariants as request

-- ---- the new log

-- the new log was stored, and the last line was printed
pub record StoresLog (log : List ℕ) (asked : ℕ) (lines : List LogLine) (old : World) (course : List Taken) (new : World) (ended : Status) : Type 0 where
  pub nothing : course ≡ []
  pub state : new.state ≡ old.state
  pub stores : new.files ≡ stored old.files log (log_text lines)
  pub report : new.report ≡ grown old.report (last_text (outcome_of asked lines) ∷ [])
  pub status : ended ≡ outcome_status (outcome_of asked lines)

not_store : (ended : Status) → IsEndStatus ended → IsStoreFault ended → ⊥
not_store status.AllOk whole fault = fault
not_store status.SomeRefused whole fault = fault
not_store _ whole fault = whole

module _ (log : List ℕ) (asked : ℕ) (lines : List LogLine) (old : World) (course : List Taken) (new : World) (ended : Status) (whole : IsEndStatus ended) where
  abbrev Last : Type 0
  Last = StoresLast log (log_text lines) (last_text (outcome_of asked lines)) (outcome_status (outcome_of asked lines)) old new ended

  file_stored : course ≡ [] → Last → StoresLog log asked lines old course new ended
  file_stored nothing (IsStored state files prints) =
      let printed = prints_status old.report _ _ ended new.report (not_put ended whole) prints in
      record { nothing = nothing; state = state; stores = files; report = printed.0; status = printed.1 }
  file_stored nothing (NotStored same fault) = absurd (not_store ended whole fault)

  log_stored : RunsScript (stores_log log asked lines) old course new ended → StoresLog log asked lines old course new ended
  unfolding stores_log may_starve
  log_stored (inl runs) = let last = last_stored log (log_text lines) _ _ old course new ended runs in file_stored last.0 last.1
  log_stored (inr starved) = absurd (subst IsEndStatus starved.2 whole)

-- a last line with another status than 0 or 1 isn't such an end
ends_not : (line : List (List ℕ)) (wanted : Status) (old : World) (course : List Taken) (new : World) (ended : Status)
    → IsEndStatus ended → (IsEndStatus wanted → ⊥) → RunsScript (Ends line wanted) old course new ended → ⊥
ends_not line wanted old course new ended whole bad runs = grind (arith, last_run, prints_status, not_put)

-- what comes after the records, with the lines of those that weren't read
abbrev Behind : List ℕ → List Chrn → List LogLine → Script
Behind log keys lines = carries (request.Eject 1) (λ still. stores_log log (length keys) lines)

-- ---- the whole

-- The requests were done. Then the records were gone through, and the other diskette was stored. Each of these has its
-- part of the course. Then the log was stored.
pub record GoesThrough (requests : List Request) (keys : List Chrn) (log : List ℕ) (files : Files)
    (old : World) (course : List Taken) (new : World) (ended : Status) : Type 0 where
  pub opened : World
  pub rescued : World
  pub ejected : World
  pub top : List Taken
  pub body : List Taken
  pub last : List Taken
  pub is : course ≡ top ++ (body ++ last)
  pub opens : DoesAll requests old.state (Some files) top opened.state opened.files
  pub goes : GoesKeys keys opened body rescued
  pub ejects : DoesAll (request.Eject 1 ∷ []) rescued.state rescued.files last ejected.state ejected.files
  pub report : ejected.report ≡ old.report
  pub refused : AreRefusals (log_of body)
  pub left : List Taken
  pub stores : StoresLog log (length keys) (log_of body) ejected left new ended

goes_on : (requests : List Request) (keys : List Chrn) (log : List ℕ) (files : Files) (old : World) (course : List Taken) (new : World) (ended : Status)
    → IsEndStatus ended → IsNotStopped course → old.files ≡ Some files
    → Passed {Found = Unit {0}} (Does requests) (λ none. through rescues keys [] (Behind log keys)) old course new ended
    → GoesThrough requests keys log files old course new ended
goes_on requests keys log files old course new ended whole fine told one =
    let fine_two = later_fine one.one one.two course one.course_is fine in
    let two = keys_gone keys [] (Behind log keys) one.mid one.two new ended whole fine_two one.left in
    let fine_three = later_fine two.one two.two one.two two.course_is fine_two in
    let three = carried (request.Eject 1 ∷ []) (stores_log log (length keys) two.found) two.mid two.two new ended whole fine_three two.left in
    let last = log_stored log (length keys) two.found three.mid three.two new ended whole three.left in
    let end = three.course_is ∙ ap (λ (row : List Taken). three.one ++ row) last.nothing ∙ append-nil three.one in
    record {
      opened = one.mid;
      rescued = two.mid;
      ejected = three.mid;
      top = one.one;
      body = two.one;
      last = three.one;
      is = one.course_is ∙ ap (λ (row : List Taken). one.one ++ row) (two.course_is ∙ ap (λ (row : List Taken). two.one ++ row) end);
      opens = subst (λ (f : Option Files). DoesAll requests old.state f one.one one.mid.state one.mid.files) told
          (did_all requests old one.one one.mid one.knows);
      goes = two.knows.0;
      ejects = did_all (request.Eject 1 ∷ []) two.mid three.one three.mid three.knows;
      report = three.knows.report ∙ two.knows.2 ∙ one.knows.report;
      refused = two.knows.3;
      left = three.two;
      stores = subst (λ (row : List LogLine). StoresLog log (length keys) row three.mid three.two new ended) two.knows.1 last;
    }

-- a rescue of this disk, by the log that was found
pub record RescuesDisk (from to log : List ℕ) (disk : Disk) (files : Files) (old : World) (course : List Taken) (new : World) (ended : Status) : Type 0 where
  pub found : Option (List LogLine)
  pub there : IsLogFound (Some files) log (sectors_at disk.rate) found
  pub goes : GoesThrough (opening from to (shape_of disk) (is_some found)) (asked_keys (shape_of disk) found) log files old course new ended

module _ (from to log : List ℕ) (disk : Disk) (files : Files) (old : World) (course : List Taken) (new : World) (ended : Status) (whole : IsEndStatus ended)
    (fine : IsNotStopped course) (told : old.files ≡ Some files) where
  -- the script after the disk was put in, by the log that was found
  by_found : {rest : Shape → Script} (a : Passed (Opened from) rest old course new ended) (found : Option (List LogLine))
      → IsLogFound (Some files) log (sectors_at disk.rate) found
      → RunsScript (rescue_found to log (shape_of disk) found) a.mid a.two new ended → RescuesDisk from to log disk files old course new ended
  unfolding rescue_found rescues_all may_starve
  by_found a found there (inl runs) =
      let shape = shape_of disk in
      let logged = is_some found in
      let keys = asked_keys shape found in
      let rest = through rescues keys [] (Behind log keys) in
      let all = subst (λ (s : Script). RunsScript s a.mid a.two new ended) (prepares_carried to shape logged (λ none. rest)) runs in
      let requests = second_request to shape logged ∷ ready_requests disk.rate (formats_for shape logged) in
      let b = carried requests rest a.mid a.two new ended whole (later_fine a.one a.two course a.course_is fine) all in
      record {
        found = found;
        there = there;
        goes = goes_on (opening from to shape logged) keys log files old course new ended whole fine told
            (joined a b (did_both (request.Insert 0 from ∷ []) requests old a.mid b.mid a.one b.one a.knows.did b.knows));
      }
  by_found a found there (inr starved) = absurd (subst IsEndStatus starved.2 whole)

  pub goes_through : Rescues from to log old course new ended → IsImageOf (Some files) from disk → RescuesDisk from to log disk files old course new ended
  goes_through (answers, are, runs) image =
      let rest = λ (shape : Shape). rescue_rest to log shape (answers shape.rate) in
      let a = opens_passed from rest old course new ended (end_is_whole ended whole) (not_refused (request.Insert 0 from) old course new ended fine) runs in
      let same = opened_shape from disk files old a.mid a.one a.found image told a.knows in
      let left = subst (λ (s : Shape). RunsScript (rest s) a.mid a.two new ended) same a.left in
      let there = subst (λ (f : Option Files). IsFound f log (sectors_at disk.rate) (answers disk.rate)) told (are disk.rate) in
      by_rest (Some files) to log (shape_of disk) (λ s. RunsScript s a.mid a.two new ended → RescuesDisk from to log disk files old course new ended)
      (by_found a)
      (λ line. never a line status.BadJob (λ e. e)) (fails a status.FileFault (λ e. e)) (fails a status.NoMemory (λ e. e)) (answers disk.rate) there left
    where
      never : {rest : Shape → Script} (a : Passed (Opened from) rest old course new ended) (line : List (List ℕ)) (wanted : Status) → (IsEndStatus wanted → ⊥)
          → RunsScript (Ends line wanted) a.mid a.two new ended → RescuesDisk from to log disk files old course new ended
      never a line wanted bad runs = absurd (ends_not line wanted a.mid a.two new ended whole bad runs)

      fails : {rest : Shape → Script} (a : Passed (Opened from) rest old course new ended) (cause : Status) → (IsEndStatus cause → ⊥)
          → RunsScript (Fails cause) a.mid a.two new ended → RescuesDisk from to log disk files old course new ended
      fails a cause bad runs = absurd (bad (subst IsEndStatus (last_failed cause a.mid a.two new ended runs).2 whole))

-- ---- courses that neither read nor write

-- no step of the course reads a key
plain_reads : (course : List Taken) → list_all is_plain (requests_of course) ≡ true → (key : Chrn) → SomeStep (ReadsKey key) course → ⊥
plain_reads [] e key some = some
plain_reads (taken ∷ later) e key (inl here) = grind (arith, and_both)
plain_reads (taken ∷ later) e key (inr there) =
    let both = and_both (is_plain taken.asked) (list_all is_plain (requests_of later)) e in
    plain_reads later both.1 key there

-- no step of the course writes a key
plain_writes : (course : List Taken) → list_all is_plain (requests_of course) ≡ true → count_writes course ≡ 0
plain_writes [] e = refl
plain_writes (taken ∷ later) e =
    let both = and_both (is_plain taken.asked) (list_all is_plain (requests_of later)) e in
    let first = (plain_facts taken.asked both.0).0 in
    let rest = plain_writes later both.1 in
    rw first (omega (arith, rest))

writes_join : (one two : List Taken) → count_writes (one ++ two) ≡ count_writes one + count_writes two
writes_join [] two = omega arith
writes_join (taken ∷ one) two = let rest = writes_join one two in omega (arith, rest)

log_join : (one two : List Taken) → log_of (one ++ two) ≡ log_of one ++ log_of two
log_join [] two = refl
log_join (taken ∷ one) two = grind (arith, log_join one two)

-- a course in which nothing was refused has no log lines
done_lines : (course : List Taken) → has_refusal course ≡ false → log_of course ≡ []
done_lines [] e = refl
done_lines (taken ∷ later) e =
    let parts = or_false (is_refusal taken.answer) (has_refusal later) e in
    let first = line_of_done taken.asked taken.answer parts.0 in
    rw first (done_lines later parts.1)

-- a step of a course is a step of one of the course's two parts
some_either : (P : Taken → Type 0) (one two : List Taken) → SomeStep P (one ++ two) → SomeStep P one ⊎ SomeStep P two
some_either P [] two some = inr some
some_either P (taken ∷ one) two (inl here) = inl (inl here)
some_either P (taken ∷ one) two (inr there) = elim (some_either P one two there) [ inl first ↦ inl (inr first) | inr second ↦ inr second ]

-- ---- the other diskette

-- The diskette to which records are saved, as it is in the beginning. It is a new diskette with Laid fields, or that of
-- an earlier run.
pub record IsDiskette (disk target : Disk) (found : Option (List LogLine)) (start : Disk) : Type 0 where
  pub shape : HasShapeOf (diskette_for found disk target) start
  pub valid : StillHolds IsDisk found target start
  pub laid : StillHolds HasLaidFields found target start

pub new_diskette : (disk target start : Disk) → IsNew disk start → IsDiskette disk target None start
new_diskette disk target start is = record { shape = is.shape; valid = is.valid; laid = is.laid }

pub same_diskette : (disk target : Disk) (lines : List LogLine) → IsDiskette disk target (Some lines) target
same_diskette disk target lines = record { shape = shape_itself target; valid = λ is. is; laid = λ is. is }

-- if saving keeps a fact about the diskette, the fact also holds in the end
holds_on : (Such : Disk → Type 0) (found : Option (List LogLine)) (target start final : Disk) → (Such start → Such final) → StillHolds Such found target start
    → StillHolds Such found target final
holds_on Such None target start final keeps such = keeps such
holds_on Such (Some lines) target start final keeps such = λ had. keeps (such had)

-- ---- what is stored

-- if the writes of a run are Tidy, those of its parts are
tidy_first : (old : State) (one two : List Taken) → AreTidy old (one ++ two) → AreTidy old one
tidy_first old [] two tidy = tt
tidy_first old (taken ∷ one) two tidy = (tidy.0, tidy_first taken.after one two tidy.1)

tidy_later : (old new : State) (told after : Option Files) (one two : List Taken) → Run old told one new after → AreTidy old (one ++ two) → AreTidy new two
tidy_later old new told after [] two run tidy = subst (λ (s : State). AreTidy s two) (sym run.0) tidy
tidy_later old new told after (taken ∷ one) two run tidy = tidy_later taken.after new run.0 after one two run.2 tidy.1

-- if a run brings up no address mark, a part of it doesn't either
unmarked_part : (old new : State) (told after : Option Files) (one two last : List Taken) (disk : Disk) → Run old told one new after
    → BringsUpNoMark disk old (one ++ (two ++ last)) → BringsUpNoMark disk new two
unmarked_part old new told after one two last disk run (inl laid) = inl laid
unmarked_part old new told after one two last disk run (inr tidy) = inr (tidy_first new two last (tidy_later old new told after one (two ++ last) run tidy))

same_outcome : (course : List Taken) (asked : ℕ) → count_writes course + length (log_of course) ≡ asked
    → outcome_of asked (log_of course) ≡ outcome_in course asked
same_outcome course asked count =
    let written : asked - length (log_of course) ≡ count_writes course = omega arith in
    ap (λ (n : ℕ). record { written = n; asked = asked }) written

-- a rescue that went on to its end, by the log that was found
module _ (from to log : List ℕ) (disk : Disk) (found : Option (List LogLine)) (files : Files) (old : World) (course : List Taken) (new : World)
    (ended : Status) (there : IsLogFound (Some files) log (sectors_at disk.rate) found) (image : IsImageOf (Some files) from disk)
    (p : GoesThrough (opening from to (shape_of disk) (is_some found)) (asked_keys (shape_of disk) found) log files old course new ended) where
  abbrev requests : List Request
  requests = opening from to (shape_of disk) (is_some found)

  abbrev keys : List Chrn
  keys = asked_keys (shape_of disk) found

  top_plain : list_all is_plain (requests_of p.top) ≡ true
  top_plain = ap (λ (row : List Request). list_all is_plain row) p.opens.all ∙ opening_plain from to (shape_of disk) (is_some found)

  last_plain : list_all is_plain (requests_of p.last) ≡ true
  last_plain = ap (λ (row : List Request). list_all is_plain row) p.ejects.all

  -- the log lines of the whole course are those of the records
  pub log_is : log_of course ≡ log_of p.body
  log_is = grind (arith, log_join, done_lines, append-nil)

  counted : count_writes course + length (log_of course) ≡ length keys
  counted = grind (arith, plain_writes, top_plain, last_plain, writes_join, log_is, keys_counted)

  -- the reads of the whole course are those of the records
  inner : (P : Taken → Type 0) (key : Chrn) → ((taken : Taken) → P taken → ReadsKey key taken) → SomeStep P course → SomeStep P p.body
  inner P key reads some = elim (some_either P p.top (p.body ++ p.last) (subst (SomeStep P) p.is some)) [
    | inl above ↦ absurd (plain_reads p.top top_plain key (some_apart P (ReadsKey key) p.top reads above))
    | inr below ↦ elim (some_either P p.body p.last below) [
      | inl here ↦ here
      | inr end ↦ absurd (plain_reads p.last last_plain key (some_apart P (ReadsKey key) p.last reads end))
    ]
  ]

  outer : (P : Taken → Type 0) → SomeStep P p.body → SomeStep P course
  outer P some = subst (SomeStep P) (sym p.is) (some_second P p.top (p.body ++ p.last) (some_first P p.body p.last some))

  -- no count falls
  fell_top : Fell old p.opened
  fell_top =
      never_fell old.state p.opened.state (Some files) p.opened.files requests p.top p.opens
      (plain_keep requests (opening_plain from to (shape_of disk) (is_some found)))

  pub fell_rescued : Fell p.rescued new
  fell_rescued = grind (arith, never_fell)

  pub fell_opened : Fell p.opened new
  fell_opened = fell_both p.opened p.rescued new (keys_fell p.goes) fell_rescued

  -- a record that wasn't asked for wasn't read
  unread : (key : Chrn) → (Contains keys key → ⊥) → WasNotRead course key
  unread key never deleted content some =
      let reads = keys_read p.goes (asked_distinct disk files log found there) in
      let gave = gave_reads key deleted content in
      let at = index_of key keys (reads.only key (some_apart _ (ReadsKey key) p.body gave (inner _ key gave some))) in
      never (at.0, at.1, at.2 key)

  module _ (target start : Disk) (has : HasOther start to files p.opened.state p.opened.files)
      (saves : SavesKeys course (log_of course) keys start p.opened p.body p.rescued) where
    disk_stored : p.ejected.files ≡ stored (Some files) to (file_of saves.final)
    disk_stored =
        let last = begins p.rescued.state p.ejected.state p.rescued.files p.ejected.files (request.Eject 1) [] p.last p.ejects in
        let disk = last.does.1 in
        let named : in_bay p.rescued.state.names 1 ≡ Some to = ap (λ (n : Two (Option (List ℕ))). in_bay n 1) saves.names ∙ has.named in
        let same_disk : disk.0 ≡ saves.final = cc (disk.2, saves.medium) in
        let same_name : disk.1 ≡ to = cc (disk.3, named) in
        (ends_there last.mid p.ejected.state last.files p.ejected.files last.later last.behind).1 ∙ disk.5
        ∙ ap (λ (n : List ℕ). stored p.rescued.files n (file_of disk.0)) same_name ∙ ap (λ (d : Disk). stored p.rescued.files to (file_of d)) same_disk
        ∙ ap (λ (f : Option Files). stored f to (file_of saves.final)) (saves.files ∙ has.files_are)

    settles : (key : Chrn) → IsLogged course (log_of course) key ⊎ IsSaved course saves.final key → IsSettled course saves.final (log_of course) key
    settles key either = record {
      either = either;
      never_both = λ logged kept.
          let reads = keys_read p.goes (asked_distinct disk files log found there) in
          let refused : (taken : Taken) → WasRefused key logged.code taken → ReadsKey key taken = λ taken is. (0x10000, is.0) in
          let gave = gave_reads key kept.deleted kept.content in
          let one = reads.once key _ _ refused gave (inner _ key refused logged.read) (inner _ key gave kept.read) in
          never_both key logged.code kept.deleted kept.content one.0 one.1 one.2;
    }

    -- what the reads gave comes from the first disk
    given_of : (sure : Type 0) → (sure → IsSure disk p.opened.state.station.counters p.rescued.state.station.counters) → (key : Chrn) (deleted : Bool)
        (content : List ℕ) → SomeStep (Gave key deleted content) course → IsGivenOf disk sure key deleted content
    given_of sure calm key deleted content some =
        let few = image_ranges files from disk image in
        let hand : IsAtHand disk p.opened.state.station = record {
          medium = first_in from to disk files (is_some found) old.state p.opened.state p.opened.files p.top image p.opens;
          size = has.size;
        } in
        keys_give disk sure p.goes (asked_all disk files log found few.0 few.1 there) hand calm
        key deleted content (inner _ key (gave_reads key deleted content) some)

    is_stored : new.files ≡ stored (stored (Some files) to (file_of saves.final)) log (log_text (log_of course))
    is_stored = grind (arith, disk_stored, saves, log_is)

    -- the next run finds the new log
    log_again : IfSome new.files (λ files. file_at files log ≡ Some (log_text (log_of course)))
        → IsLogFound new.files log (sectors_at disk.rate) (Some (log_of course))
    log_again stands = grind (arith, image_ranges, image, logs_again, found, log_is, log_stands)

    is_rescue : to ≢ log → IsDiskette disk target found start → KeepsEntries found course target saves.final
        → IsRescue disk target to log files old course new ended
    is_rescue differ begun keeps =
        let asked = length keys in
        let text = log_text (log_of course) in
        let lines = sym log_is in
        let both = stores_both files to log (file_of saves.final) text new.files differ is_stored in
        let same = ap (λ (row : List LogLine). outcome_of asked row) lines ∙ same_outcome course asked counted in
        record {
          found = found;
          there = there;
          stores = record {
            saved = saves.final;
            shape = shape_both (diskette_for found disk target) start saves.final begun.shape saves.shape;
            valid = holds_on IsDisk found target start saves.final saves.valid begun.valid;
            regular = saves.regular;
            laid = holds_on HasLaidFields found target start saves.final saves.laid begun.laid;
            stores = is_stored;
            disk_there = both.0;
            image = λ valid. image_there new.files to saves.final both.0 valid;
            log_there = both.1;
            log_found = log_again both.1;
            settled = All-weaker _ (IsSettled course saves.final (log_of course)) settles keys (All-from_recursion _ keys saves.settled);
            asked = subst (λ (row : List LogLine). All (Contains keys) (logged_keys row)) lines (only_of p.goes);
            unasked = unread;
            kept = keeps;
            given = λ key deleted content some. (given_of ⊥ (λ never. absurd never) key deleted content some).field;
          };
          tells = record {
            report = p.stores.report ∙ ap (λ (r : Option (List (List ℕ))). grown r (last_text (outcome_of asked (log_of p.body)) ∷ [])) p.report
                ∙ ap (λ (o : Outcome). grown old.report (last_text o ∷ [])) same;
            status = p.stores.status ∙ ap outcome_status same;
            others = counted;
          };
        }

    -- A record that was saved is the first disk's sector, if the first disk is regular, its drive had no fault, and
    -- nothing was refused.
    same_sector : IsRegularDisk disk → IsFaultless 0 old.state.station.counters new.state.station.counters → log_of course ≡ [] → (key : Chrn)
        → IsLogged course (log_of course) key ⊎ IsSaved course saves.final key → HaveSameSector disk saves.final key
    same_sector regular faultless none key (inl logged) =
        let line = subst (λ (row : List LogLine). Contains row (record { key = key; code = logged.code })) none logged.line in
        absurd (omega (arith, line.1))
    same_sector regular faultless none key (inr saved) =
        let body = keys_fell p.goes in
        let end = fell_rescued in
        let part : IsFaultless 0 p.opened.state.station.counters p.rescued.state.station.counters =
        (omega (arith, fell_top.first, end.first, faultless.0), omega (arith, end.first, faultless.1)) in
        let given = given_of (Unit {0}) (λ sure. (regular, inl part)) key saved.deleted saved.content saved.read in
        let found = saved.entry.content in
        (saved.deleted, saved.content, given.sector tt, (saved.place, found.0, saved.entry.address, found.1, found.2))

  -- the records are saved to the other disk, from how it is in the beginning
  saves_all : (start : Disk) → HasOther start to files p.opened.state p.opened.files → BringsUpNoMark start p.opened.state p.body
      → IsFaultless 1 old.state.station.counters new.state.station.counters → SavesKeys course (log_of course) keys start p.opened p.body p.rescued
  saves_all start has unmarked faultless =
      let fell = fell_rescued in
      let few = image_ranges files from disk image in
      let part : IsPart laid_tidy disk course (log_of course) p.body = record {
        steps = outer;
        lines_are = λ line some. subst (λ (row : List LogLine). Contains row line) (sym log_is) some;
      } in
      saves_keys laid_tidy disk course (log_of course) start p.goes part
      (asked_all disk files log found few.0 few.1 there) (asked_distinct disk files log found there)
      has.regular has.size has.medium unmarked (omega (arith, fell_top.second, fell.second, faultless.0), omega (arith, fell.second, faultless.1))

  -- If nothing was refused, and no drive had a fault, a disk with the same sectors for the asked keys is stored, and
  -- then an empty log.
  pub record SavesSame (target start : Disk) : Type 0 where
    pub final : Disk
    pub shape : HasShapeOf (diskette_for found disk target) final
    pub valid : StillHolds IsDisk found target final
    pub regular : IsRegularDisk final
    pub laid : StillHolds HasLaidFields found target final
    pub sectors : All (HaveSameSector disk final) keys
    pub others : (entry : Entry) → (Contains keys entry.key → ⊥) → IsOnMap start entry ↔ IsOnMap final entry
    pub files_are : new.files ≡ stored (stored (Some files) to (file_of final)) log (log_text [])
    pub disk_there : IfSome new.files (λ files. file_at files to ≡ Some (file_of final))
    pub stands : IsDisk final → IsImageOf new.files to final
    pub log_there : IfSome new.files (λ files. file_at files log ≡ Some (log_text []))

  pub saves_same : (target start : Disk) → to ≢ log → HasOther start to files p.opened.state p.opened.files → IsDiskette disk target found start
      → BringsUpNoMark start p.opened.state p.body → IsFaultless 0 old.state.station.counters new.state.station.counters
      → IsFaultless 1 old.state.station.counters new.state.station.counters → IsRegularDisk disk → has_refusal course ≡ false → SavesSame target start
  saves_same target start differ has begun unmarked first second regular fine =
      let saves = saves_all start has unmarked second in
      let none = done_lines course fine in
      let is = is_stored start start has saves ∙ ap (λ (row : List LogLine). stored (stored (Some files) to (file_of saves.final)) log (log_text row)) none in
      let both = stores_both files to log (file_of saves.final) (log_text []) new.files differ is in
      record {
        final = saves.final;
        shape = shape_both (diskette_for found disk target) start saves.final begun.shape saves.shape;
        valid = holds_on IsDisk found target start saves.final saves.valid begun.valid;
        regular = saves.regular;
        laid = holds_on HasLaidFields found target start saves.final saves.laid begun.laid;
        sectors = All-weaker _ (HaveSameSector disk saves.final) (same_sector start start has saves regular first none) keys
            (All-from_recursion _ keys saves.settled);
        others = λ entry never. saves.others entry (λ deleted content some. unread entry.key never deleted content (outer _ some));
        files_are = is;
        disk_there = both.0;
        stands = λ valid. image_there new.files to saves.final both.0 valid;
        log_there = both.1;
      }

  pub rescued : (target start : Disk) → to ≢ log → HasOther start to files p.opened.state p.opened.files → IsDiskette disk target found start
      → BringsUpNoMark start p.opened.state p.body
      → IsFaultless 1 old.state.station.counters new.state.station.counters
      → ((final : Disk) → ((entry : Entry) → WasNotRead course entry.key → IsOnMap start entry ↔ IsOnMap final entry) → KeepsEntries found course target final)
      → IsRescue disk target to log files old course new ended
  rescued target start differ has begun unmarked faultless keeps =
      let saves = saves_all start has unmarked faultless in
      is_rescue target start has saves differ begun (keeps saves.final
      (λ entry unread. saves.others entry (λ deleted content some. unread deleted content (outer _ some))))

  -- the log is exactly the records that aren't found
  pub logs_exactly : IsUndisturbed 0 old.state.station.counters new.state.station.counters → IsUnmistaken disk → LogsNotFound disk log files course new
  logs_exactly quiet unmistaken =
      let few = image_ranges files from disk image in
      let body = keys_fell p.goes in
      let parts = quiet_parts old.state.station.counters p.opened.state.station.counters new.state.station.counters fell_top fell_opened quiet in
      let calm = quiet_parts p.opened.state.station.counters p.rescued.state.station.counters new.state.station.counters body fell_rescued parts.1 in
      let first = holds_first from to disk files (is_some found) old.state p.opened.state p.opened.files p.top image p.opens parts.0 in
      let told = keys_told disk few.0 few.1 unmistaken first.0 p.goes (asked_all disk files log found few.0 few.1 there) first.1 calm.0 in
      record {
        found = found;
        there = there;
        log_there = stands_under p.ejected.files log (log_text (log_of course)) new.files
            (p.stores.stores ∙ ap (λ (row : List LogLine). stored p.ejected.files log (log_text row)) (sym log_is));
        lost = subst (λ (row : List LogLine). All (IsNotFound disk) (logged_keys row)) (sym log_is)
            (All-map (IsNotFound disk) (λ (line : LogLine). line.key) (log_of p.body)
            (All-from_recursion (λ (line : LogLine). IsNotFound disk line.key) (log_of p.body) (told_lost disk keys (log_of p.body) told)));
        exactly = λ failed failing. log_is ∙ told_failing disk keys (log_of p.body) failed told failing;
      }

-- ---- both ways to begin: with a new diskette, and with that of an earlier run

pub rescue_stores : (from to log : List ℕ) (disk target : Disk) (files : Files) (old : World) (course : List Taken) (new : World) (ended : Status)
    → Rescues from to log old course new ended → IsEndStatus ended → IsNotStopped course → to ≢ log → old.files ≡ Some files → IsImageOf (Some files) from disk
    → length old.state.station.memory ≡ user_bytes → IsFaultless 1 old.state.station.counters new.state.station.counters
    → ((found : Option (List LogLine)) → IsLogFound (Some files) log (sectors_at disk.rate) found → HasTarget found to target files old.state course)
    → IsRescue disk target to log files old course new ended
rescue_stores from to log disk target files old course new ended rescues whole fine differ told image size faultless other =
    let all = goes_through from to log disk files old course new ended whole fine told rescues image in
    go all.found all.there (other all.found all.there) all.goes
  where
    go : (found : Option (List LogLine)) → IsLogFound (Some files) log (sectors_at disk.rate) found → HasTarget found to target files old.state course
        → GoesThrough (opening from to (shape_of disk) (is_some found)) (asked_keys (shape_of disk) found) log files old course new ended
        → IsRescue disk target to log files old course new ended
    go None there other p =
        let fell = fell_opened from to log disk None files old course new ended there image p in
        let begins = begins_new from to disk files old.state p.opened.state p.opened.files p.top image p.opens size
        (omega (arith, fell.second, faultless.0), omega (arith, fell.second, faultless.1)) in
        rescued from to log disk None files old course new ended there image p target begins.0 differ begins.1
        (new_diskette disk target begins.0 begins.2) (inl begins.2.laid) faultless (λ final others. tt)
    go (Some lines) there other p =
        let has = begins_again from to disk target files old.state p.opened.state p.opened.files p.top image other.image other.regular p.opens size in
        let all = subst (λ (row : List Taken). BringsUpNoMark target old.state row) p.is other.unmarked in
        rescued from to log disk (Some lines) files old course new ended there image p target target differ has (same_diskette disk target lines)
        (unmarked_part old.state p.opened.state (Some files) p.opened.files p.top p.body p.last target p.opens.run all) faultless (λ final others. others)

pub rescue_logs : (from to log : List ℕ) (disk : Disk) (files : Files) (old : World) (course : List Taken) (new : World) (ended : Status)
    → Rescues from to log old course new ended → IsEndStatus ended → IsNotStopped course → old.files ≡ Some files → IsImageOf (Some files) from disk
    → IsUndisturbed 0 old.state.station.counters new.state.station.counters → IsUnmistaken disk → LogsNotFound disk log files course new
rescue_logs from to log disk files old course new ended rescues whole fine told image quiet unmistaken =
    let all = goes_through from to log disk files old course new ended whole fine told rescues image in
    logs_exactly from to log disk all.found files old course new ended all.there image all.goes quiet unmistaken
