-- Formats of the bench.
use Rattle.std.proofs.Common.{◌≡◌, ℕ, ◌+◌, ◌≤◌, ◌↔◌, ◌++◌, List, length, take, drop, Option, Some, None, Result, Ok, Err, IsOk, IfErr, MatchOption, refl, sym, ap, ◌∙◌, subst, arith}
use Rattle.test_driver.proofs.Common.{false≢true, take_all, Code, NoMark, Disk, HasTrack, IsWithTrack, track_of, Fits, lay, laid_words, Two, in_bay, with_bay, track_keys, Format, formatted, Laying, IsLaying, format_keys, MeetsTrack, one_met, Rig, SendsWrite, FormatsTrack, LaysMedium, HasTrackUnder, IsFormatMiss, BenchCounts, BenchDrive, HasSent, SameDrive, rig_of}
use Rattle.flop_base.specs.Standard.{standard_code, sectors_at}
use Rattle.flop_base.specs.Lists.{with_items}
use Rattle.sector_map.specs.LaidDisks.{laying_at}
use Rattle.sector_map.proofs.Laid.{format_fits, length-formatted}
use Rattle.test_driver.specs.Laid.{HasTrackOn, CanFormatOn, LaidOn, FormatsOn}
use Rattle.test_driver.proofs.WriteSteps.{written_on}

-- ---- the medium has no such track

pub formatted_none : (medium : Option Disk) (c : ℕ) (format : Format) → (HasTrackOn medium format.rate c format.h → ⊥) → FormatsOn c format None medium (Err NoMark) medium
formatted_none medium c format none = record {
  does = refl;
  turn = λ disk meets. absurd (none (disk, meets));
  fits = λ ok. absurd (false≢true ok);
  refused = (refl, λ can. none (can.0, can.1));
}

-- ---- a track that was laid out

module _ (format : Format) (sectors c : ℕ) (count : sectors ≡ sectors_at format.rate) (medium : Option Disk) (d after : Disk) (words : List ℕ) (k : ℕ) (is_in : medium ≡ Some d) (there : HasTrackOn medium format.rate c format.h) (is : words ≡ lay (track_keys sectors format.c format.h) 2 format.gap3 format.fill k) (long : k ≡ d.words_per_track) (laid : IsWithTrack d c format.h (take 0 (track_of d c format.h) ++ (words ++ drop (0 + length words) (track_of d c format.h))) after) where
  pub meets : MeetsTrack medium format.rate c format.h d
  meets = subst (MeetsTrack medium format.rate c format.h) (one_met medium format.rate c format.h d there.0 is_in there.1) there.1

  all_words : words ≡ take d.words_per_track (formatted format d.words_per_track)
  all_words =
      is
      ∙ ap (λ s. lay (track_keys s format.c format.h) 2 format.gap3 format.fill k) count
      ∙ ap (formatted format) long
      ∙ sym (take_all d.words_per_track (formatted format d.words_per_track) (omega (arith, length-formatted format d.words_per_track)))

  laid_with : (row : List ℕ) → words ≡ row → take 0 (track_of d c format.h) ++ (words ++ drop (0 + length words) (track_of d c format.h)) ≡ with_items (track_of d c format.h) 0 row
  unfolding with_items
  laid_with row e = ap (λ r. take 0 (track_of d c format.h) ++ (r ++ drop (0 + length r) (track_of d c format.h))) e

  abbrev laying : Laying
  laying = laying_at c d.words_per_track

  is_laying : IsLaying format d laying after
  is_laying = record {
    track = meets.has;
    most = omega arith;
    laid = subst (λ row. IsWithTrack d c format.h row after) (laid_with (take d.words_per_track (formatted format d.words_per_track)) all_words) laid;
  }

  fits_exactly : (laid_words sectors 2 format.gap3 ≤ k) ↔ CanFormatOn medium c format
  fits_exactly =
      let Within : ℕ → ℕ → Type 0 = λ s w. laid_words s 2 format.gap3 ≤ w in (
        λ fits. (d, meets, (format_fits format d.words_per_track).1 (subst (λ s. Within s d.words_per_track) count (subst (Within sectors) long fits))),
        λ (disk, here, can).
            let within = (format_fits format disk.words_per_track).0 can in
            let at = subst (λ (e : Disk). Within (sectors_at format.rate) e.words_per_track) (one_met medium format.rate c format.h d disk is_in here) within in
            subst (Within sectors) (sym long) (subst (λ s. Within s d.words_per_track) (sym count) at),
      )

  refusal : (answer : Result (Unit {0}) Code) → (IsOk answer ↔ laid_words sectors 2 format.gap3 ≤ k) → IfErr answer (λ code. code ≡ NoMark) → IfErr answer (λ code. (code ≡ NoMark) × (CanFormatOn medium c format → ⊥))
  refusal (Ok unit) fits no_mark = tt
  refusal (Err code) fits no_mark = (no_mark, λ can. false≢true (fits.1 (fits_exactly.1 can)))

  pub formatted_laid : (answer : Result (Unit {0}) Code) → (IsOk answer ↔ laid_words sectors 2 format.gap3 ≤ k) → IfErr answer (λ code. code ≡ NoMark) → FormatsOn c format (Some laying) medium answer (Some after)
  formatted_laid answer fits no_mark = record {
    does = record {
      disk = d;
      made = after;
      was = is_in;
      is = refl;
      same_rate = meets.same_rate;
      here = refl;
      makes = is_laying;
    };
    turn = λ disk here. ap (λ (e : Disk). e.words_per_track) (sym (one_met medium format.rate c format.h d disk is_in here));
    fits = λ ok. fits_exactly.0 (fits.0 ok);
    refused = refusal answer fits no_mark;
  }

-- ---- the step of the rig

module _ (old new : Rig) (bay : ℕ) (format : Format) (before : Option Disk) (c : ℕ) (after : Option Disk) (sends : SendsWrite bay old new) (was : in_bay old.media bay ≡ before) (at : in_bay old.cylinders bay ≡ c) (is : in_bay new.media bay ≡ after) (kept : after ≡ before → new.media ≡ old.media) where
  does : (laying : Option Laying) → MatchOption laying (after ≡ before) (λ one. LaidOn c format one before after) → MatchOption laying (new.media ≡ old.media) (λ one. LaysMedium bay format one old new)
  does None same = kept same
  does (Some one) made = record {
    before = made.disk;
    after = made.made;
    was = was ∙ made.was;
    is = is ∙ made.is;
    same_rate = made.same_rate;
    here = made.here ∙ sym at;
    makes = made.makes;
  }

  meets_there : (disk : Disk) → HasTrackUnder old bay format disk → MeetsTrack before format.rate c format.h disk
  meets_there disk has = record {
    is_in = sym was ∙ has.medium;
    has = subst (λ n. HasTrack disk n format.h) at has.track;
    same_rate = has.same_rate;
  }

  refused : (answer : Result (Unit {0}) Code) → IfErr answer (λ code. (code ≡ NoMark) × (CanFormatOn before c format → ⊥)) → IfErr answer (λ code. IsFormatMiss bay format old code new)
  refused (Ok unit) miss = tt
  refused (Err code) miss =
      subst (λ answer. IsFormatMiss bay format old answer new) (sym miss.0) (record {
        coded = tt;
        reason = λ quiet. (refl, λ can. miss.1 (can.0, meets_there can.0 can.1, can.2));
        overrun = λ e. absurd (cc e);
      })

  pub formats : (laying : Option Laying) (answer : Result (Unit {0}) Code) → FormatsOn c format laying before answer after → FormatsTrack bay format laying old answer new
  formats laying answer on = record {
    sends = sends;
    does = does laying on.does;
    turn = λ sure disk has. on.turn disk (meets_there disk has);
    fits = λ ok faultless disk has.
        let can = on.fits ok in
        subst (λ (d : Disk). Fits (format_keys format) standard_code format.gap3 d.words_per_track)
        (one_met before format.rate c format.h disk can.0 (meets_there disk has).is_in can.1) can.2;
    refused = refused answer on.refused;
  }

-- the format of the bench
pub bench_formats : (drives taken done : Two BenchDrive) (memory page : List ℕ) (counts next : BenchCounts) (bay : ℕ) (format : Format) (before after : BenchDrive) (answer : Result (Unit {0}) Code) → bay ≤ 1 → HasSent counts next → before ≡ in_bay drives bay → ((drive : BenchDrive) → with_bay taken bay drive ≡ with_bay drives bay drive) → done ≡ with_bay taken bay after → SameDrive before after → ((laying : Option Laying) × FormatsOn before.cylinder format laying before.medium answer after.medium) → (laying : Option Laying) × FormatsTrack bay format laying (rig_of drives memory page counts) answer (rig_of done memory page next)
bench_formats drives taken done memory page counts next bay format before after answer le sent was left put same (laying, on) =
    let on_drive = written_on drives memory page counts next after sent bay le (subst (λ (d : BenchDrive). SameDrive d after) was same) in
    let old = rig_of drives memory page counts in
    let new = rig_of (with_bay drives bay after) memory page next in
    let there = subst (λ (d : BenchDrive). FormatsOn d.cylinder format laying d.medium answer after.medium) was on in
    let step = formats old new bay format (in_bay drives bay).medium (in_bay drives bay).cylinder after.medium on_drive.sends on_drive.was on_drive.at on_drive.is on_drive.kept laying answer there in
    (laying, subst (λ all. FormatsTrack bay format laying old answer (rig_of all memory page next)) (sym (put ∙ left after)) step)
