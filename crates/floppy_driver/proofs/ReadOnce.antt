-- One attempt at a read.
use Rattle.std.proofs.Common.{◌≡◌, ◌↔◌, ℕ, ◌≤◌, IsTrue, Bool, true, List, Option, is_some, Result, Ok, Err, IfOk, IfErr, refl, sym, ap, ◌∙◌, subst, arith, inl, inr}
use Rattle.floppy_driver.proofs.Common.{Disk, Chrn, Rate, Code, Seek, Prepare, content_size, Two, in_bay, DriveCounts, GoesOn, SameOutside, goes_on_after, faults_go_on, Rig, track_under, IsReadReason, IsReadMiss, FindsField, ReadsData, Bay, StationState, bay_of, met, Driver, notes_of, shown, with_notes, with_waiting, HasAsked, IsPrepared, CanTry, IsSure, IsReadWhole, IsReadFailed, TriesRead}
use Rattle.floppy_driver.specs.declared.retry_plan.Prepare.TheVariants as prepare
use Rattle.flop_base.specs.Lists.{with_items}
use Rattle.floppy_driver.proofs.Shows.{held_bay, held_bay_shown, read_shown, waiting_goes_on, waiting_driven, waiting_undisturbed, driven_after, undisturbed_faultless}
use Rattle.floppy_driver.proofs.ReadBacks.{read_device, read_not_seek}
use Rattle.floppy_driver.proofs.Rising.{disturbed_first, disturbed_later, less_later}
use Rattle.floppy_driver.proofs.Attempts.{sure_way, prepared_shown, prepared_steady}

module _ (driver after : Driver) (old mid : Rig) (bay : ℕ) (key : Chrn) (address : ℕ) (way : Prepare) (spares : ℕ) (waiting : List DriveCounts) (can : CanTry driver old bay) (notes : after ≡ with_notes driver bay (notes_of after bay)) where
  module _ (new : Rig) (tries attempt : ℕ) (answer : Result Bool Code) (rate : Rate) (same_rate : rate ≡ (notes_of driver bay).rate) (known : Bool) (known_is : known ≡ is_some (notes_of driver bay).known) (plan : (way ≡ prepare.Seek) ↔ ((attempt ≡ 1) × IsTrue known × (2 ≤ tries))) (prepared : IsPrepared bay key.c way old (notes_of driver bay) true mid (notes_of after bay)) (reads : ReadsData bay key rate address mid answer new) where
    asked : HasAsked (shown driver old spares waiting) (shown after mid spares waiting)
    asked = prepared_shown driver after old mid bay key.c way true can notes prepared spares waiting

    was : bay_of (shown driver old spares waiting) bay ≡ held_bay (notes_of driver bay) (in_bay old.media bay)
    was = held_bay_shown driver old spares waiting bay can.held

    later : GoesOn (with_waiting mid.counters waiting) (with_waiting new.counters waiting)
    later = waiting_goes_on mid.counters new.counters waiting reads.sends.counts

    done_field : (deleted : Bool) (content : List ℕ) → FindsField bay key rate mid deleted content new → new.memory ≡ with_items mid.memory address content → IsReadWhole bay key address (shown driver old spares waiting) deleted (shown after new spares waiting)
    done_field deleted content field memory =
        let g = faults_go_on mid.counters new.counters bay reads.sends.counts in
        let less = less_later bay old.counters mid.counters new.counters prepared.moves.counts reads.sends.counts 1 in
        let before = shown driver old spares waiting in
        let memory_is : new.memory ≡ with_items old.memory address content = memory ∙ ap (λ (m : List ℕ). with_items m address content) prepared.moves.memory in
        record {
          read = record {
            disk = field.disk;
            cylinder = in_bay mid.cylinders bay;
            place = field.place;
            mark = field.mark;
            content = content;
            medium = ap (λ (b : Bay). b.medium) was ∙ ap (λ (m : Two (Option Disk)). in_bay m bay) (sym prepared.moves.media) ∙ field.medium;
            same_rate = field.same_rate ∙ same_rate ∙ ap (λ (b : Bay). b.rate) (sym was);
            track = field.track;
            address_field = field.address_field;
            data_mark = field.data_mark;
            whole = field.whole;
            steady = λ steady. prepared_steady driver after old mid bay key.c way true can notes prepared spares waiting (shown after new spares waiting) refl (λ is. sym known_is ∙ (plan.0 is).1) g steady;
            sector = λ is. field.sector (elim is [ inl faultless ↦ inl (less faultless) | inr lone ↦ inr lone ]);
            becomes =
                read_shown after mid new spares waiting reads.sends
                ∙ ap (λ (s : StationState). record s { memory = new.memory; counters = with_waiting new.counters waiting }) asked.stays
                ∙ ap (λ (m : List ℕ). record before { memory = m; counters = with_waiting new.counters waiting }) memory_is;
            commands = let c = reads.sends.command in let d = prepared.moves.counts.data_commands in omega arith;
          };
          size = field.size;
        }

    failed_code : (code : Code) → IsReadMiss (track_under mid bay rate key.h) key bay mid.counters code new.counters → IsReadFailed (IsSure tries attempt) bay key (shown driver old spares waiting) code (shown after new spares waiting)
    failed_code code miss =
        let s = prepared.moves.counts.stalls in
        record {
          device = read_device code miss.coded;
          reason = λ sure quiet.
              let whole = waiting_undisturbed old.counters new.counters bay waiting quiet in
              let first = disturbed_first bay old.counters mid.counters new.counters prepared.moves.counts reads.sends.counts 1 whole in
              let second = disturbed_later bay old.counters mid.counters new.counters prepared.moves.counts reads.sends.counts 1 whole in
              let at = prepared.surely refl (sure_way way tries attempt known plan sure) (undisturbed_faultless bay old.counters mid.counters prepared.moves.counts first) in
              let track_is : track_under mid bay rate key.h ≡ met (bay_of (shown driver old spares waiting) bay) key.c key.h =
              rw (at, prepared.moves.media, same_rate, was) refl in
              subst (λ (t : List ℕ). IsReadReason t key code) track_is (miss.reason second);
          overrun = λ is. let r = miss.overrun is in omega arith;
          lost = λ is. absurd (read_not_seek code miss.coded is);
          sent = λ other. let c = reads.sends.command in let d = prepared.moves.counts.data_commands in omega arith;
        }

    by_ok : (a : Result Bool Code) → IfOk a (λ deleted. (content : List ℕ) × FindsField bay key rate mid deleted content new × (new.memory ≡ with_items mid.memory address content)) → IfOk a (λ deleted. IsReadWhole bay key address (shown driver old spares waiting) deleted (shown after new spares waiting))
    by_ok (Ok deleted) found = done_field deleted found.0 found.1 found.2
    by_ok (Err code) found = tt

    by_err : (a : Result Bool Code) → IfErr a (λ code. IsReadMiss (track_under mid bay rate key.h) key bay mid.counters code new.counters) → IfErr a (λ code. IsReadFailed (IsSure tries attempt) bay key (shown driver old spares waiting) code (shown after new spares waiting))
    by_err (Ok deleted) miss = tt
    by_err (Err code) miss = failed_code code miss

    placed : (a : Result Bool Code) → IfErr a (λ code. IsReadMiss (track_under mid bay rate key.h) key bay mid.counters code new.counters) → a ≡ Err Seek → ⊥
    placed (Ok deleted) miss is = cc is
    placed (Err code) miss is = read_not_seek code miss.coded (cc is)

    -- the sector was read for, with the heads ready
    pub tries_read : TriesRead (IsSure tries attempt) bay key address (shown driver old spares waiting) answer (shown after new spares waiting)
    tries_read =
        let before = shown driver old spares waiting in
        record {
          done = by_ok answer reads.found;
          failed = by_err answer reads.refused;
          memory = subst (λ (m : List ℕ). SameOutside address (content_size key.n) m new.memory) prepared.moves.memory reads.outside;
          becomes =
              read_shown after mid new spares waiting reads.sends
              ∙ ap (λ (s : StationState). record s { memory = new.memory; counters = with_waiting new.counters waiting }) asked.stays;
          counts = goes_on_after before.counters (with_waiting mid.counters waiting) (with_waiting new.counters waiting) asked.counts later;
          driven =
              driven_after 0 1 before.counters (with_waiting mid.counters waiting) (with_waiting new.counters waiting) asked.counts later asked.idle
              (waiting_driven 1 mid.counters new.counters waiting reads.sends.driven);
          unsent = λ is. absurd (placed answer reads.refused is);
        }
