-- One attempt at a write, as the station shows it.
use Rattle.std.proofs.Common.{MatchOption, IfErr, ◌≡◌, ◌↔◌, ℕ, zero, suc, ◌-◌, ◌≤◌, Bool, true, false, IsTrue, List, Option, Some, None, IsSome, is_some, Result, Ok, Err, refl, sym, ap, ◌∙◌, subst, arith}
use Rattle.floppy_driver.proofs.Common.{option_map_or, Chrn, Rate, Code, Disk, Two, in_bay, bytes_from, content_size, DriveCounts, Counters, GoesOn, IsUndisturbed, goes_on_after, faults_go_on, Prepare, Change, Written, change_keeps_tracks, Bay, StationState, Becomes, Stays, bay_of, set_bay, met, Rig, IsSound, track_under, ChangesMedium, Notes, Driver, notes_of, is_held, with_waiting, shown, with_notes, HasAsked, IsSure, IsAttached, IsPrepared, CanWrite, IsMissCause, IsReadBack, WritesChecked, ChangesBay, TriesWrite}
use Rattle.floppy_driver.specs.declared.retry_plan.Prepare.TheVariants as prepare
use Rattle.floppy_driver.proofs.Attempts.{can_try_stays, prepared_shown, prepared_steady, sure_way}
use Rattle.floppy_driver.proofs.FormatReady.{can_write_prepared}
use Rattle.floppy_driver.proofs.Shows.{waiting_goes_on, waiting_driven, waiting_undisturbed, driven_after, held_bay, bay_shown_at, held_bay_shown, held_lines_stay, attached_written}
use Rattle.floppy_driver.proofs.Rising.{less_first, less_later, disturbed_later, stalls_later, commands_later, rose_later}

-- ---- earlier counts

-- what was read back, seen from earlier counts
read_back_earlier : (written : Written) (medium now : Option Disk) (rate noted : Rate) (cylinder : ℕ) (change : Option Change) (bay : ℕ) (a b c : Counters) (waiting : List DriveCounts) → GoesOn a b → GoesOn b c → now ≡ medium → noted ≡ rate → IsReadBack written medium rate cylinder change bay b c → IsReadBack written now noted cylinder change bay (with_waiting a waiting) (with_waiting c waiting)
read_back_earlier written medium now rate noted cylinder change bay a b c waiting one two same_medium same_rate back = record {
  disk = back.disk;
  is_in = same_medium ∙ back.is_in;
  same_rate = back.same_rate ∙ sym same_rate;
  track = back.track;
  under = back.under;
  whole = λ less. back.whole (less_later bay a b c one two 1 less);
  sector = λ less. back.sector (less_later bay a b c one two 1 less);
  nearly = λ less. back.nearly (less_later bay a b c one two 2 less);
  commands = commands_later bay a b c one two 2 back.commands;
}

-- why a write was refused, seen from earlier counts, whatever spare drives wait
cause_earlier : (written : Written) (track : List ℕ) (change : Option Change) (bay : ℕ) (code : Code) (a b c : Counters) (waiting : List DriveCounts) → GoesOn a b → GoesOn b c → IsMissCause written track change bay b code c → IsMissCause written track change bay (with_waiting a waiting) code (with_waiting c waiting)
cause_earlier written track change bay code a b c waiting one two cause =
    let later = λ (quiet : IsUndisturbed bay (with_waiting a waiting) (with_waiting c waiting)). disturbed_later bay a b c one two 1 (waiting_undisturbed a c bay waiting quiet) in
    record {
      device = cause.device;
      no_mark = λ is quiet. cause.no_mark is (later quiet);
      not_found = λ is quiet. cause.not_found is (later quiet);
      bad_data = λ is quiet. cause.bad_data is (later quiet);
      overrun = λ is. stalls_later bay a b c one two 1 (cause.overrun is);
      lost = λ is. rose_later bay a b c one two 77 (cause.lost is);
      sent = λ other. commands_later bay a b c one two 1 (cause.sent other);
      read_back = λ is. commands_later bay a b c one two 2 (cause.read_back is);
    }

-- ---- the station that is shown

-- the medium of one bay changed, and nothing else that is shown
put_shown : (driver : Driver) (old new : Rig) (spares : ℕ) (waiting : List DriveCounts) (bay : ℕ) → bay ≤ 1 → in_bay new.media (1 - bay) ≡ in_bay old.media (1 - bay) → new.changes ≡ old.changes → new.memory ≡ old.memory → Becomes (set_bay (shown driver old spares waiting) bay (record (bay_of (shown driver old spares waiting) bay) { medium = in_bay new.media bay })) (shown driver new spares waiting)
put_shown driver old new spares waiting zero in_range other changes memory = rw (other, changes, memory) refl
put_shown driver old new spares waiting (suc zero) in_range other changes memory = rw (other, changes, memory) refl
put_shown driver old new spares waiting (suc (suc n)) in_range other changes memory = absurd (omega arith)

-- the same after a station in which only counters had changed
put_after : (start middle new : StationState) (bay : ℕ) (medium : Option Disk) → Stays start middle → Becomes (set_bay middle bay (record (bay_of middle bay) { medium = medium })) new → (bay_of new bay).medium ≡ medium → Becomes (set_bay start bay (record (bay_of start bay) { medium = (bay_of new bay).medium })) new
put_after start middle new bay medium stays becomes is =
    rw is (becomes ∙ ap (λ (s : StationState). record (set_bay s bay (record (bay_of s bay) { medium = medium })) { counters = new.counters }) stays)

-- ---- a bay that can be written

-- the medium stays in
medium_stays : (old : Rig) (bay : ℕ) (rate : Rate) (written : Written) (change : Option Change) (new : Rig) → MatchOption change (new.media ≡ old.media) (λ one. ChangesMedium bay rate written one old new) → in_bay new.media bay ≡ None → in_bay old.media bay ≡ None
medium_stays old bay rate written None new same none = ap (λ (t : Two (Option Disk)). in_bay t bay) (sym same) ∙ none
medium_stays old bay rate written (Some one) new changed none = absurd (cc (changed.is, none))

-- the medium stays unprotected
protection_stays : (old : Rig) (bay : ℕ) (rate : Rate) (written : Written) (change : Option Change) (new : Rig) → MatchOption change (new.media ≡ old.media) (λ one. ChangesMedium bay rate written one old new) → option_map_or (λ disk. disk.protected) (in_bay new.media bay) false ≡ option_map_or (λ disk. disk.protected) (in_bay old.media bay) false
protection_stays old bay rate written None new same = ap (λ (t : Two (Option Disk)). option_map_or (λ disk. disk.protected) (in_bay t bay) false) same
protection_stays old bay rate written (Some one) new changed =
    let Protection : Option Disk → Bool = λ m. option_map_or (λ disk. disk.protected) m false in
    ap Protection changed.is ∙ (change_keeps_tracks written changed.before one changed.after changed.makes).alike.protected ∙ ap Protection (sym changed.was)

pub can_write_checked : (driver : Driver) (old : Rig) (bay : ℕ) (rate : Rate) (written : Written) (answer : Result (Unit {0}) Code) (new : Rig) → CanWrite driver old bay → WritesChecked bay rate written old answer new → IsSound new → CanWrite driver new bay
can_write_checked driver old bay rate written answer new can wrote sound = record {
  ready =
      can_try_stays driver old new bay can.ready wrote.heads
      (attached_written driver old new bay can.ready.in_range wrote.counts wrote.heads wrote.other_medium (medium_stays old bay rate written wrote.change new wrote.does) can.ready.attached) sound;
  unprotected = protection_stays old bay rate written wrote.change new wrote.does ∙ can.unprotected;
}

-- ---- an attempt, from its prepared heads

module _ (driver after : Driver) (old mid : Rig) (bay target : ℕ) (way : Prepare) (ready : Bool) (can : CanWrite driver old bay) (is : after ≡ with_notes driver bay (notes_of after bay)) (prepared : IsPrepared bay target way old (notes_of driver bay) ready mid (notes_of after bay)) where
  module _ (spares : ℕ) (waiting : List DriveCounts) where
    medium_old : (bay_of (shown driver old spares waiting) bay).medium ≡ in_bay mid.media bay
    medium_old = ap (λ (b : Bay). b.medium) (bay_shown_at driver old spares waiting bay) ∙ ap (λ (t : Two (Option Disk)). in_bay t bay) (sym prepared.moves.media)

    rate_old : (bay_of (shown driver old spares waiting) bay).rate ≡ (notes_of driver bay).rate
    rate_old = ap (λ (b : Bay). b.rate) (held_bay_shown driver old spares waiting bay can.ready.held)

    rate_after : (notes_of after bay).rate ≡ (notes_of driver bay).rate
    rate_after = ap (λ (n : Notes). n.rate) prepared.notes_are

    asked : HasAsked (shown driver old spares waiting) (shown after mid spares waiting)
    asked = prepared_shown driver after old mid bay target way ready can.ready is prepared spares waiting

    module _ (sure : Type 0) (written : Written) (answer : Result (Unit {0}) Code) (new : Rig) (wrote : WritesChecked bay (notes_of driver bay).rate written mid answer new) where
      medium_new : (bay_of (shown after new spares waiting) bay).medium ≡ in_bay new.media bay
      medium_new = ap (λ (b : Bay). b.medium) (bay_shown_at after new spares waiting bay)

      does_bay : (change : Option Change) → MatchOption change (new.media ≡ mid.media) (λ one. ChangesMedium bay (notes_of driver bay).rate written one mid new) → MatchOption change ((bay_of (shown after new spares waiting) bay).medium ≡ (bay_of (shown driver old spares waiting) bay).medium) (λ one. ChangesBay written bay one (shown driver old spares waiting) (shown after new spares waiting))
      does_bay None same = medium_new ∙ ap (λ (t : Two (Option Disk)). in_bay t bay) same ∙ sym medium_old
      does_bay (Some one) changed = record {
        before = changed.before;
        after = changed.after;
        was = medium_old ∙ changed.was;
        is = medium_new ∙ changed.is;
        same_rate = changed.same_rate ∙ sym rate_old;
        makes = changed.makes;
        whole = λ quiet.
            changed.whole (disturbed_later bay old.counters mid.counters new.counters prepared.moves.counts wrote.counts 1 (waiting_undisturbed old.counters new.counters bay waiting quiet));
      }

      here_bay : (change : Option Change) → MatchOption change (new.media ≡ mid.media) (λ one. ChangesMedium bay (notes_of driver bay).rate written one mid new) → MatchOption change (Unit {0}) (λ one. one.cylinder ≡ in_bay mid.cylinders bay)
      here_bay None same = tt
      here_bay (Some one) changed = changed.here

      lines_now : in_bay new.changes bay ≡ in_bay old.changes bay
      lines_now =
          ap (λ (t : Two Bool). in_bay t bay) (wrote.heads.changes ∙ held_lines_stay old bay mid (notes_of driver bay) can.ready.held prepared.moves)

      held_now : is_held (notes_of after bay) (in_bay new.changes bay) ≡ true
      held_now = rw (lines_now, prepared.notes_are) can.ready.held

      bay_now : bay_of (shown after new spares waiting) bay ≡ held_bay (notes_of after bay) (in_bay new.media bay)
      bay_now = held_bay_shown after new spares waiting bay held_now

      met_now : met (bay_of (shown after new spares waiting) bay) (in_bay mid.cylinders bay) written.key.h ≡ track_under new bay (notes_of driver bay).rate written.key.h
      met_now = rw (bay_now, rate_after, wrote.heads.cylinders) refl

      refused_bay : (code : Code) → IsMissCause written (track_under new bay (notes_of driver bay).rate written.key.h) wrote.change bay mid.counters code new.counters → IsMissCause written (met (bay_of (shown after new spares waiting) bay) (in_bay mid.cylinders bay) written.key.h) wrote.change bay (with_waiting old.counters waiting) code (with_waiting new.counters waiting)
      refused_bay code cause =
          subst (λ row. IsMissCause written row wrote.change bay (with_waiting old.counters waiting) code (with_waiting new.counters waiting)) (sym met_now)
          (cause_earlier written _ wrote.change bay code old.counters mid.counters new.counters waiting prepared.moves.counts wrote.counts cause)

      refused_answer : (result : Result (Unit {0}) Code) → IfErr result (λ code. IsMissCause written (track_under new bay (notes_of driver bay).rate written.key.h) wrote.change bay mid.counters code new.counters) → IfErr result (λ code. IsMissCause written (met (bay_of (shown after new spares waiting) bay) (in_bay mid.cylinders bay) written.key.h) wrote.change bay (with_waiting old.counters waiting) code (with_waiting new.counters waiting))
      refused_answer (Ok unit) cause = cause
      refused_answer (Err code) cause = refused_bay code cause

      pub tries_checked : ready ≡ true → (way ≡ prepare.Seek → IsSome (notes_of driver bay).known) → (sure → way ≡ prepare.RecalibrateAndSeek) → written.key.c ≡ target → TriesWrite sure written bay (shown driver old spares waiting) answer (shown after new spares waiting)
      tries_checked is_ready known surely same = record {
        cylinder = in_bay mid.cylinders bay;
        change = wrote.change;
        becomes = put_after (shown driver old spares waiting) (shown after mid spares waiting) (shown after new spares waiting) bay (in_bay new.media bay) asked.stays
            (put_shown after mid new spares waiting bay can.ready.in_range wrote.other_medium wrote.heads.changes wrote.memory) medium_new;
        does = does_bay wrote.change wrote.does;
        here = here_bay wrote.change wrote.does;
        steady = λ steady.
            prepared_steady driver after old mid bay target way ready can.ready is prepared spares waiting (shown after new spares waiting) is_ready known
            (faults_go_on mid.counters new.counters bay wrote.counts) steady
            ∙ sym same;
        surely = λ is_sure less.
            prepared.surely is_ready (surely is_sure) (less_first bay old.counters mid.counters new.counters prepared.moves.counts wrote.counts 1 less) ∙ sym same;
        done = λ ok.
            read_back_earlier written (in_bay new.media bay) (bay_of (shown after new spares waiting) bay).medium (notes_of driver bay).rate (bay_of (shown driver old spares waiting) bay).rate
            (in_bay mid.cylinders bay) wrote.change bay old.counters mid.counters new.counters waiting prepared.moves.counts wrote.counts medium_new rate_old (wrote.done ok);
        refused = refused_answer answer wrote.refused;
        counts = waiting_goes_on old.counters new.counters waiting (goes_on_after old.counters mid.counters new.counters prepared.moves.counts wrote.counts);
        driven = waiting_driven 2 old.counters new.counters waiting
            (driven_after 0 2 old.counters mid.counters new.counters prepared.moves.counts wrote.counts prepared.moves.driven wrote.driven);
        unsent = λ is. absurd (wrote.placed is);
      }

-- what is written comes from memory as it was before the heads were prepared
pub checked_from : (mid : Rig) (bay : ℕ) (rate : Rate) (key : Chrn) (deleted : Bool) (address : ℕ) (memory was : List ℕ) (answer : Result (Unit {0}) Code) (new : Rig) → memory ≡ was → WritesChecked bay rate (record { key = key; deleted = deleted; content = bytes_from memory address (content_size key.n) }) mid answer new → WritesChecked bay rate (record { key = key; deleted = deleted; content = bytes_from was address (content_size key.n) }) mid answer new
checked_from mid bay rate key deleted address memory was answer new same wrote =
    subst (λ m. WritesChecked bay rate (record { key = key; deleted = deleted; content = bytes_from m address (content_size key.n) }) mid answer new) same wrote

-- one whole attempt
pub tries_once : (driver after : Driver) (old mid : Rig) (bay : ℕ) (way : Prepare) (ready : Bool) (tries attempt address : ℕ) (key : Chrn) (deleted known : Bool) (notes : Notes) (answer : Result (Unit {0}) Code) (new : Rig)
    → CanWrite driver old bay → after ≡ with_notes driver bay (notes_of after bay)
    → IsPrepared bay key.c way old (notes_of driver bay) ready mid (notes_of after bay)
    → notes ≡ notes_of driver bay → known ≡ is_some notes.known
    → (way ≡ prepare.Seek) ↔ ((attempt ≡ 1) × IsTrue known × (2 ≤ tries)) → ready ≡ true
    → WritesChecked bay notes.rate (record { key = key; deleted = deleted; content = bytes_from mid.memory address (content_size key.n) }) mid answer new
    → (spares : ℕ) (waiting : List DriveCounts) → TriesWrite (IsSure tries attempt) (record { key = key; deleted = deleted; content = bytes_from old.memory address (content_size key.n) }) bay (shown driver old spares waiting) answer (shown after new spares waiting)
tries_once driver after old mid bay way ready tries attempt address key deleted known notes answer new can is prepared noted known_is plan is_ready wrote spares waiting =
    let content : List ℕ = bytes_from mid.memory address (content_size key.n) in
    let at_rate : WritesChecked bay (notes_of driver bay).rate (record { key = key; deleted = deleted; content = content }) mid answer new = subst (λ (n : Notes). WritesChecked bay n.rate (record { key = key; deleted = deleted; content = content }) mid answer new) noted wrote in
    tries_checked driver after old mid bay key.c way ready can is prepared spares waiting (IsSure tries attempt) _ answer new
    (checked_from mid bay (notes_of driver bay).rate key deleted address mid.memory old.memory answer new prepared.moves.memory at_rate)
    is_ready (λ seek. sym (ap (λ (n : Notes). is_some n.known) noted) ∙ sym known_is ∙ (plan.0 seek).1) (sure_way way tries attempt known plan) refl

-- after one attempt the bay can still be written
pub can_write_once : (driver after : Driver) (old mid : Rig) (bay target : ℕ) (way : Prepare) (ready : Bool) (rate : Rate) (written : Written) (answer : Result (Unit {0}) Code) (new : Rig) → CanWrite driver old bay → after ≡ with_notes driver bay (notes_of after bay) → IsPrepared bay target way old (notes_of driver bay) ready mid (notes_of after bay) → IsAttached after mid → IsSound mid → WritesChecked bay rate written mid answer new → IsSound new → CanWrite after new bay
can_write_once driver after old mid bay target way ready rate written answer new can is prepared attached sound wrote later =
    can_write_checked after mid bay rate written answer new (can_write_prepared driver after old mid bay target way ready can is prepared attached sound) wrote later
