-- One attempt of a format.
use Rattle.std.proofs.Common.{◌≡◌, ℕ, ◌+◌, ◌*◌, ◌≤◌, ◌⊎◌, true, false, [], Option, Some, None, MatchOption, Result, Ok, Err, IsOk, IsErr, IfErr, refl, sym, ap, ◌∙◌, subst, arith, inl, inr}
use Rattle.floppy_driver.proofs.Common.{false≢true, sectors_at, Code, NoMark, NotFound, Overrun, BadCrc, Seek, Disk, HasTrack, Two, in_bay, GoesOn, IsUndisturbed, IsFaultless, goes_on_after, Rate, R500, R250, met_in, MeetsTrack, met_cases, Format, Laying, IsFormattable, IsDeviceRefusal, IsFormatted, Rig, IsSound, track_under, FormatsTrack, LaysMedium, HasTrackUnder, CanFormatUnder, IsFormatCode, IsPrepared, IsValidFormat, IsBlankUnder, HoldsRecords, IsReadBackMiss, ReadsRecords, IsAttemptRefusal, FormatsIn, Notes}
use Rattle.floppy_driver.specs.declared.retry_plan.Prepare.TheVariants as prepare
use Rattle.floppy_driver.proofs.Shows.{driven_after, driven_within, sound_disk, undisturbed_faultless}
use Rattle.floppy_driver.proofs.ReadBacks.{read_device, read_not_seek}
use Rattle.floppy_driver.proofs.Rising.{disturbed_first, disturbed_later, less_first, less_later}
use Rattle.floppy_driver.proofs.LaidTracks.{lays_none, MayLay, layings_of, IsLaidWhole, one_at_most, laying_lays, laying_only, laying_untouched, laying_whole, laid_holds}

some_sectors : (rate : Rate) → 1 ≤ sectors_at rate
some_sectors R500 = omega arith
some_sectors R250 = omega arith

format_device : (code : Code) → IsFormatCode code → IsDeviceRefusal code
format_device NoMark coded = tt
format_device Overrun coded = tt
format_device _ coded = absurd coded

format_not_seek : (code : Code) → IsFormatCode code → code ≡ Seek → ⊥
format_not_seek code coded is = subst IsFormatCode is coded

seek_not_read : (Seek ≡ NotFound ⊎ Seek ≡ BadCrc) → ⊥
seek_not_read (inl e) = cc e
seek_not_read (inr e) = cc e

-- a format has no refusal of reading back
format_not_read : (code : Code) → IsFormatCode code → (code ≡ NotFound ⊎ code ≡ BadCrc) → ⊥
format_not_read code coded (inl e) = subst IsFormatCode e coded
format_not_read code coded (inr e) = subst IsFormatCode e coded

-- ---- track 0 wasn't reached

pub lost_attempt : (old : Rig) (notes : Notes) (bay : ℕ) (format : Format) (new : Rig) (after : Notes) → IsPrepared bay format.c prepare.RecalibrateAndSeek old notes false new after → FormatsIn 1 format bay (in_bay old.media bay) (in_bay new.media bay) old.counters (Err Seek) new.counters
lost_attempt old notes bay format new after prepared =
    let lost = prepared.lost refl in
    let same : in_bay new.media bay ≡ in_bay old.media bay = rw prepared.moves.media refl in
    let disturbed : IsUndisturbed bay old.counters new.counters → ⊥ = λ quiet.
    let less = quiet.together in
    let below = quiet.faults in
    let s = prepared.moves.counts.stalls in
    omega arith in
    record {
      layings = [];
      few = omega arith;
      lays = lays_none format (in_bay old.media bay) (in_bay new.media bay) same;
      only = λ quiet k d below. absurd (omega arith);
      untouched = λ quiet none. same;
      never = λ failed can quiet. disturbed quiet;
      driven = driven_within 0 (1 * (1 + sectors_at format.rate)) old.counters new.counters (omega arith) prepared.moves.driven;
      unsent = λ some is. let idle = prepared.moves.driven.most_commands in omega arith;
      ends = λ some. record {
        exactly = λ quiet. absurd (disturbed quiet);
        begun = λ quiet. absurd (disturbed quiet);
        commands = λ ok. absurd (false≢true ok);
        formatted_track = λ ok. absurd (false≢true ok);
        refused = record {
          device = tt;
          undisturbed = λ quiet. absurd (disturbed quiet);
          overrun = λ e. absurd (cc e);
          lost = λ e. lost;
          sent = λ other. absurd (other refl);
          read_back = λ which. absurd (seek_not_read which);
        };
      };
    }

-- ---- a format command from the cylinder

module _ (old middle laid : Rig) (notes after : Notes) (bay : ℕ) (format : Format) (prepared : IsPrepared bay format.c prepare.RecalibrateAndSeek old notes true middle after) (sound : IsSound middle) where
  abbrev was_in : Option Disk
  was_in = in_bay old.media bay

  abbrev is_in : Option Disk
  is_in = in_bay laid.media bay

  abbrev under : ℕ
  under = in_bay middle.cylinders bay

  same_in : in_bay middle.media bay ≡ was_in
  same_in = rw prepared.moves.media refl

  may_lay : (laying : Option Laying) → MatchOption laying (laid.media ≡ middle.media) (λ one. LaysMedium bay format one middle laid) → MayLay format under was_in laying is_in
  may_lay None same = rw same same_in
  may_lay (Some one) lays = record {
    old = lays.before;
    new = lays.after;
    was = sym same_in ∙ lays.was;
    is = lays.is;
    same_rate = lays.same_rate;
    here = lays.here;
    makes = lays.makes;
  }

  module _ (laying : Option Laying) (answer : Result (Unit {0}) Code) (formats : FormatsTrack bay format laying middle answer laid) where
    may : MayLay format under was_in laying is_in
    may = may_lay laying formats.does

    counts : GoesOn old.counters laid.counters
    counts = goes_on_after old.counters middle.counters laid.counters prepared.moves.counts formats.sends.counts

    there : IsFaultless bay old.counters laid.counters → under ≡ format.c
    there quiet =
        prepared.surely refl refl (less_first bay old.counters middle.counters laid.counters prepared.moves.counts formats.sends.counts 1 quiet)

    faultless_middle : IsFaultless bay old.counters laid.counters → IsFaultless bay middle.counters laid.counters
    faultless_middle = less_later bay old.counters middle.counters laid.counters prepared.moves.counts formats.sends.counts 1

    undisturbed_middle : IsUndisturbed bay old.counters laid.counters → IsUndisturbed bay middle.counters laid.counters
    undisturbed_middle = disturbed_later bay old.counters middle.counters laid.counters prepared.moves.counts formats.sends.counts 1

    track_under_is : under ≡ format.c → (disk : Disk) → was_in ≡ Some disk → HasTrack disk format.c format.h → disk.rate ≡ format.rate → HasTrackUnder middle bay format disk
    track_under_is place disk was has rate = record { medium = same_in ∙ was; track = rw place has; same_rate = rate }

    can_from : under ≡ format.c → CanFormatUnder middle bay format → IsFormattable format was_in
    can_from place can = (can.0, sym same_in ∙ can.1.medium, record { track = rw place at can.1.track; rate = can.1.same_rate; fits = can.2 })

    can_to : under ≡ format.c → IsFormattable format was_in → CanFormatUnder middle bay format
    can_to place can = (can.0, track_under_is place can.0 can.1 can.2.track can.2.rate, can.2.fits)

    whole : under ≡ format.c → (IsUndisturbed bay middle.counters laid.counters ⊎ (IsOk answer × IsFaultless bay middle.counters laid.counters)) → (disk : Disk) → was_in ≡ Some disk → HasTrack disk format.c format.h → disk.rate ≡ format.rate → IsLaidWhole format disk is_in
    whole place cause disk was has rate =
        laying_whole format under was_in is_in laying may place disk (sound_disk middle bay disk sound (same_in ∙ was)) was
        (formats.turn cause disk (track_under_is place disk was has rate))

    begins : under ≡ format.c → (IsUndisturbed bay middle.counters laid.counters ⊎ (IsOk answer × IsFaultless bay middle.counters laid.counters)) → IsFormatted format was_in is_in
    begins place cause disk was has rate =
        let made = whole place cause disk was has rate in
        (made.new, made.is, made.track)

  -- the command was refused
  module _ (laying : Option Laying) (code : Code) (formats : FormatsTrack bay format laying middle (Err code) laid) where
    abbrev refusal : Result (Unit {0}) Code
    refusal = Err code

    unformattable : IsUndisturbed bay old.counters laid.counters → IsFormattable format was_in → ⊥
    unformattable quiet can =
        let place = there laying refusal formats (undisturbed_faultless bay old.counters laid.counters (counts laying refusal formats) quiet) in
        (formats.refused.reason (undisturbed_middle laying refusal formats quiet)).1 (can_to laying refusal formats place can)

    pub refused_attempt : FormatsIn 1 format bay was_in is_in old.counters (Err code) laid.counters
    refused_attempt =
        let goes = counts laying refusal formats in
        let faultless = undisturbed_faultless bay old.counters laid.counters goes in
        let placed = there laying refusal formats in
        let later = undisturbed_middle laying refusal formats in
        let made = may laying refusal formats in
        record {
          layings = layings_of laying;
          few = one_at_most format under was_in is_in laying;
          lays = laying_lays format under was_in is_in laying made;
          only = λ quiet. laying_only format under was_in is_in laying made (placed quiet);
          untouched = λ quiet. laying_untouched format under was_in is_in laying made (placed (faultless quiet));
          never = λ failed can quiet. unformattable quiet can;
          driven =
              driven_within 1 (1 * (1 + sectors_at format.rate)) old.counters laid.counters (omega arith)
              (driven_after 0 1 old.counters middle.counters laid.counters prepared.moves.counts formats.sends.counts prepared.moves.driven formats.sends.driven);
          unsent = λ some is. absurd (format_not_seek code formats.refused.coded (cc is));
          ends = λ some. record {
            exactly = λ quiet. (λ ok. absurd (false≢true ok), λ can. absurd (unformattable quiet can));
            begun = λ quiet. begins laying refusal formats (placed (faultless quiet)) (inl (later quiet));
            commands = λ ok. absurd (false≢true ok);
            formatted_track = λ ok. absurd (false≢true ok);
            refused = record {
              device = format_device code formats.refused.coded;
              undisturbed = λ quiet. (formats.refused.reason (later quiet)).0;
              overrun = λ e. let rose = formats.refused.overrun e in let s = prepared.moves.counts.stalls in omega arith;
              lost = λ e. absurd (format_not_seek code formats.refused.coded e);
              sent = λ other. let one = formats.sends.command in let d = prepared.moves.counts.data_commands in omega arith;
              read_back = λ which. absurd (format_not_read code formats.refused.coded which);
            };
          };
        }

  -- the command was done, and the records were read back
  module _ (laying : Option Laying) (formats : FormatsTrack bay format laying middle (Ok tt) laid) (asked : IsValidFormat format) (answer : Result (Unit {0}) Code) (new : Rig) (reads : ReadsRecords bay (sectors_at format.rate) (IsBlankUnder laid bay format.rate format.h) (HoldsRecords (track_under laid bay format.rate format.h) format.c format.h (sectors_at format.rate) format.fill) laid answer new) where
    abbrev done : Result (Unit {0}) Code
    done = Ok tt

    goes_all : GoesOn old.counters new.counters
    goes_all = goes_on_after old.counters laid.counters new.counters (counts laying done formats) reads.counts

    faultless_laid : IsFaultless bay old.counters new.counters → IsFaultless bay old.counters laid.counters
    faultless_laid = less_first bay old.counters laid.counters new.counters (counts laying done formats) reads.counts 1

    undisturbed_laid : IsUndisturbed bay old.counters new.counters → IsUndisturbed bay old.counters laid.counters
    undisturbed_laid = disturbed_first bay old.counters laid.counters new.counters (counts laying done formats) reads.counts 1

    undisturbed_back : IsUndisturbed bay old.counters new.counters → IsUndisturbed bay laid.counters new.counters
    undisturbed_back = disturbed_later bay old.counters laid.counters new.counters (counts laying done formats) reads.counts 1

    faultless_all : IsUndisturbed bay old.counters new.counters → IsFaultless bay old.counters new.counters
    faultless_all = undisturbed_faultless bay old.counters new.counters goes_all

    -- the track that is met after the command was there when the command began
    was_under : (one : Option Laying) → MayLay format under was_in one is_in → (met : Disk) → MeetsTrack is_in format.rate (in_bay laid.cylinders bay) format.h met → (disk : Disk) × HasTrackUnder middle bay format disk
    was_under None same met meets =
        (met, record { medium = same_in ∙ (sym same ∙ meets.is_in); track = rw formats.sends.heads.cylinders at meets.has; same_rate = meets.same_rate })
    was_under (Some one) lays met meets = (lays.old, record { medium = same_in ∙ lays.was; track = rw lays.here at lays.makes.track; same_rate = lays.same_rate })

    formattable : IsFaultless bay old.counters new.counters → (met : Disk) → MeetsTrack is_in format.rate (in_bay laid.cylinders bay) format.h met → CanFormatUnder middle bay format
    formattable quiet met meets =
        let was = was_under laying (may laying done formats) met meets in
        (was.0, was.1, formats.fits refl (faultless_middle laying done formats (faultless_laid quiet)) was.0 was.1)

    made_so : IsOk answer → IsFaultless bay old.counters new.counters → IsFormattable format was_in × IsFormatted format was_in is_in
    made_so ok quiet =
        let first = faultless_laid quiet in
        let place = there laying done formats first in
        let can : CanFormatUnder middle bay format = elim (met_cases is_in format.rate (in_bay laid.cylinders bay) format.h) [
          | inl meets ↦ formattable quiet meets.0 meets.1
          | inr blank ↦ absurd (reads.found ok (some_sectors format.rate) blank)
        ] in
        (can_from laying done formats place can, begins laying done formats place (inr (refl, faultless_middle laying done formats first)))

    holds : IsFormattable format was_in → IsUndisturbed bay old.counters new.counters → HoldsRecords (track_under laid bay format.rate format.h) format.c format.h (sectors_at format.rate) format.fill
    holds can quiet =
        let first = faultless_laid (faultless_all quiet) in
        let place = there laying done formats first in
        let whole_track = whole laying done formats place (inr (refl, faultless_middle laying done formats first)) can.0 can.1 can.2.track can.2.rate in
        let there_now : in_bay laid.cylinders bay ≡ format.c = ap (λ (t : Two ℕ). in_bay t bay) formats.sends.heads.cylinders ∙ place in
        let At : ℕ → Type 0 = λ c. HoldsRecords (met_in is_in format.rate c format.h) format.c format.h (sectors_at format.rate) format.fill in
        subst At (sym there_now) (laid_holds format can.0 is_in asked.cylinder asked.head asked.byte can.2.fits whole_track)

    was_done : IsFormattable format was_in → IsUndisturbed bay old.counters new.counters → IsOk answer
    was_done can quiet = by_answer answer reads.refused
      where
        by_answer : (a : Result (Unit {0}) Code) → IfErr a (λ code. IsReadBackMiss bay (IsBlankUnder laid bay format.rate format.h) (HoldsRecords (track_under laid bay format.rate format.h) format.c format.h (sectors_at format.rate) format.fill) laid.counters code new.counters) → IsOk a
        by_answer (Ok is) missed = refl
        by_answer (Err code) missed = absurd (missed.disturbed (holds can quiet) (undisturbed_back quiet))

    why : IfErr answer (λ code. IsAttemptRefusal bay old.counters code new.counters)
    why = by_answer answer reads.refused
      where
        by_answer : (a : Result (Unit {0}) Code) → IfErr a (λ code. IsReadBackMiss bay (IsBlankUnder laid bay format.rate format.h) (HoldsRecords (track_under laid bay format.rate format.h) format.c format.h (sectors_at format.rate) format.fill) laid.counters code new.counters) → IfErr a (λ code. IsAttemptRefusal bay old.counters code new.counters)
        by_answer (Ok is) missed = tt
        by_answer (Err code) missed = record {
          device = read_device code missed.coded;
          undisturbed = λ quiet. elim (met_cases is_in format.rate (in_bay laid.cylinders bay) format.h) [
            | inl meets ↦ absurd (missed.disturbed (holds (can_from laying done formats (there laying done formats (faultless_laid (faultless_all quiet))) (formattable (faultless_all quiet) meets.0 meets.1)) quiet) (undisturbed_back quiet))
            | inr blank ↦ missed.unmarked blank (undisturbed_back quiet)
          ];
          overrun = λ e. let rose = missed.overrun e in let s = (counts laying done formats).stalls in omega arith;
          lost = λ e. absurd (read_not_seek code missed.coded e);
          sent = λ other. let rose = missed.sent in let d = (counts laying done formats).data_commands in omega arith;
          read_back = λ which.
              let d = prepared.moves.counts.data_commands in
              let one = formats.sends.command in
              let more = missed.sent in
              omega arith;
        }

    in_place : answer ≡ Err Seek → ⊥
    in_place = by_answer answer reads.refused
      where
        by_answer : (a : Result (Unit {0}) Code) → IfErr a (λ code. IsReadBackMiss bay (IsBlankUnder laid bay format.rate format.h) (HoldsRecords (track_under laid bay format.rate format.h) format.c format.h (sectors_at format.rate) format.fill) laid.counters code new.counters) → a ≡ Err Seek → ⊥
        by_answer (Ok is) missed same = cc same
        by_answer (Err code) missed same = read_not_seek code missed.coded (cc same)

    not_both : (a : Result (Unit {0}) Code) → IsErr a → IsOk a → ⊥
    not_both (Ok is) failed ok = false≢true failed
    not_both (Err code) failed ok = false≢true ok

    read_so : FormatsIn 1 format bay was_in is_in old.counters answer new.counters
    read_so =
        let made = may laying done formats in
        let placed : IsFaultless bay old.counters new.counters → under ≡ format.c = λ quiet. there laying done formats (faultless_laid quiet) in
        record {
          layings = layings_of laying;
          few = one_at_most format under was_in is_in laying;
          lays = laying_lays format under was_in is_in laying made;
          only = λ quiet. laying_only format under was_in is_in laying made (placed quiet);
          untouched = λ quiet. laying_untouched format under was_in is_in laying made (placed (faultless_all quiet));
          never = λ failed can quiet. not_both answer failed (was_done can quiet);
          driven =
              driven_within (0 + 1 + sectors_at format.rate) (1 * (1 + sectors_at format.rate)) old.counters new.counters (omega arith)
              (driven_after (0 + 1) (sectors_at format.rate) old.counters laid.counters new.counters (counts laying done formats) reads.counts
              (driven_after 0 1 old.counters middle.counters laid.counters prepared.moves.counts formats.sends.counts prepared.moves.driven formats.sends.driven) reads.driven);
          unsent = λ some is. absurd (in_place is);
          ends = λ some. record {
            exactly = λ quiet. (λ ok. (made_so ok (faultless_all quiet)).0, λ can. was_done can quiet);
            begun = λ quiet. begins laying done formats (placed (faultless_all quiet)) (inr (refl, faultless_middle laying done formats (faultless_laid (faultless_all quiet))));
            commands = λ ok.
                let first = prepared.moves.counts.data_commands in
                let one = formats.sends.command in
                let rest = reads.commands ok in
                omega arith;
            formatted_track = λ ok quiet. made_so ok quiet;
            refused = why;
          };
        }

    pub read_attempt : FormatsIn 1 format bay was_in (in_bay new.media bay) old.counters answer new.counters
    read_attempt = rw reads.media read_so
