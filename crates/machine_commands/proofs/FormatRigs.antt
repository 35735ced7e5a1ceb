-- A FORMAT TRACK as its driver sees it.
use Rattle.std.proofs.Common.{◌≡◌, ◌⊎◌, inl, inr, ℕ, ◌<◌, ◌≤◌, true, false, List, Option, Some, None, Result, Ok, Err, refl, sym, ◌∙◌, ap, arith}
use Rattle.std.specs.Prelude.{IsOk, IfErr, MatchOption}
use Rattle.machine_commands.proofs.Common.{RoseBy, standard_code, Code, Chrn, in_bay, IsFaultless, IsUndisturbed, Disk, Format, Laying, format_keys, rate_fits, Ending, Numbers, Track, Write, Stalled, Scene, head_sent, IsUnchanged, Board, drive_in, memory_of, FormatsTrack, HasTrackUnder, IsFormatMiss, LaysMedium, counters_of, rig_of, told_of, Motors, Done, false≢true, cases_lt, IsLaying, same_rates, FormatEndsAs, FitsOn, HasLaying, LaysTo, LaysTurn}
use Rattle.track_model.specs.Layouts.{Fits}
use Rattle.laws_machine.specs.OnWrites.Drives.{IsThere}
use Rattle.machine_commands.proofs.Beginning.{HasRun, told_as}
use Rattle.machine_commands.proofs.Seeing.{calm_drive, cylinder_before, faultless, medium_after, medium_before, stall_counts, unstalled, write_sends}
use Rattle.machine_commands.proofs.WriteRigs.{fits_same, rate_is, two_bays}
use Rattle.flop_base.specs.declared.answers.Code.TheVariants as code
use Rattle.fdc_stages.specs.declared.ending.Ending.TheVariants as ending

-- a FORMAT of these numbers and keys, on a medium that isn't protected
pub record IsFormatOn (scene : Scene) (numbers : Numbers) (keys : List Chrn) (format : Format) : Type 0 where
  pub head : head_sent scene.sent ≡ format.h
  pub keys_are : keys ≡ format_keys format
  pub code_is : numbers.n ≡ standard_code
  pub gap_is : numbers.gap3 ≡ format.gap3
  pub unprotected : scene.disk.protected ≡ false

-- whether the medium has the track
is_there : (scene : Scene) → IsThere scene ⊎ (IsThere scene → ⊥)
is_there scene = elim (cases_lt scene.cylinder scene.disk.cylinders) [
  | inl low ↦ elim (cases_lt (head_sent scene.sent) scene.disk.heads) [
    | inl under ↦ inl (low, under)
    | inr high ↦ inr (λ there. not_both _ _ there.1 high)
  ]
  | inr high ↦ inr (λ there. not_both _ _ there.0 high)
]
  where
    not_both : (a b : ℕ) → a < b → b ≤ a → ⊥
    not_both a b below above = omega arith

some_same : (a b : Disk) (medium : Option Disk) → medium ≡ Some a → medium ≡ Some b → b ≡ a
some_same a b medium one two = cc

module _ {numbers : Numbers} {scene : Scene} {motors : Motors} {format : Format} {start old : Board} {outcome : Result Done Code} {new : Board}
    (run : HasRun (Write (Track numbers)) scene motors format.rate start old outcome new) (keys : List Chrn) (on : IsFormatOn scene numbers keys format) (same : memory_of run.over.at ≡ memory_of start)
    (lays : (laying : Laying) (after : Disk) → LaysTo scene numbers keys laying after → IsLaying format scene.disk laying after) where
  abbrev now : Board
  now = run.over.at

  unchanged : IsUnchanged scene (drive_in now scene.bay) → (rig_of new).media ≡ (rig_of old).media
  unchanged is = two_bays scene.bay (rig_of new).media (rig_of old).media run.scene_is.bay (medium_after run ∙ (is ∙ sym (medium_before run)))
      (write_sends run same).other_medium

  laid : (has : HasLaying scene numbers keys (drive_in now scene.bay)) → LaysMedium scene.bay format has.laying (rig_of old) (rig_of new)
  laid has = record {
    before = scene.disk;
    after = has.after;
    was = medium_before run;
    is = medium_after run ∙ has.medium;
    same_rate = rate_is scene format.rate run.rate_is has.lays.rate;
    here = has.lays.cylinder ∙ sym (cylinder_before run);
    makes = lays has.laying has.after has.lays;
  }

  -- the disk that a driver sees under the head is the disk of the scene, and has the track
  the_disk : (disk : Disk) → HasTrackUnder (rig_of old) scene.bay format disk → disk ≡ scene.disk
  the_disk disk under = some_same scene.disk disk (in_bay (rig_of old).media scene.bay) (medium_before run) under.medium

  there_under : (disk : Disk) → HasTrackUnder (rig_of old) scene.bay format disk → IsThere scene
  there_under disk under = rw (← the_disk disk under, on.head, ← cylinder_before run) under.track

  fits_under : (disk : Disk) → HasTrackUnder (rig_of old) scene.bay format disk → FitsOn scene numbers keys → Fits (format_keys format) standard_code format.gap3 disk.words_per_track
  fits_under disk under fits = rw (on.keys_are, on.code_is, on.gap_is, ← the_disk disk under) at fits

  fits_back : (disk : Disk) → HasTrackUnder (rig_of old) scene.bay format disk → Fits (format_keys format) standard_code format.gap3 disk.words_per_track → FitsOn scene numbers keys
  fits_back disk under fits = rw (on.keys_are, on.code_is, on.gap_is, ← the_disk disk under) fits

  -- that disk has the rate of the format
  rate_under : (disk : Disk) → HasTrackUnder (rig_of old) scene.bay format disk → rate_fits scene.rate scene.disk.rate ≡ true
  rate_under disk under =
      rw (run.rate_is, fits_same format.rate scene.disk.rate) (same_rates scene.disk.rate format.rate (sym (ap (λ d. d.rate) (the_disk disk under)) ∙ under.same_rate))

  -- what is shown of the media, together with the answer
  pub record ShowsFormat (laying : Option Laying) (answer : Result (Unit {0}) Code) : Type 0 where
    pub does : MatchOption laying ((rig_of new).media ≡ (rig_of old).media) (λ one. LaysMedium scene.bay format one (rig_of old) (rig_of new))
    pub turn : (IsUndisturbed scene.bay (counters_of old) (counters_of new) ⊎ (IsOk answer × IsFaultless scene.bay (counters_of old) (counters_of new)))
        → (disk : Disk) → HasTrackUnder (rig_of old) scene.bay format disk → MatchOption laying ⊥ (λ one. one.words ≡ disk.words_per_track)
    pub fits : IsOk answer → IsFaultless scene.bay (counters_of old) (counters_of new) → (disk : Disk) → HasTrackUnder (rig_of old) scene.bay format disk
        → Fits (format_keys format) standard_code format.gap3 disk.words_per_track
    pub refused : IfErr answer (λ code. IsFormatMiss scene.bay format (rig_of old) code (rig_of new))

  either_faultless : {P : Type 0} → (IsUndisturbed scene.bay (counters_of old) (counters_of new) ⊎ (P × IsFaultless scene.bay (counters_of old) (counters_of new)))
      → IsFaultless scene.bay (counters_of old) (counters_of new)
  either_faultless (inl none) = faultless run none
  either_faultless (inr (ok, none)) = none

  -- what is shown after a whole revolution, whatever the answer
  turned : (answer : Result (Unit {0}) Code) → LaysTurn scene numbers keys (drive_in now scene.bay)
      → (IsOk answer → FitsOn scene numbers keys) → IfErr answer (λ code. IsFormatMiss scene.bay format (rig_of old) code (rig_of new))
      → (laying : Option Laying) × ShowsFormat laying answer
  turned answer turn fits refused = elim (is_there scene) [
    | inl there ↦ let whole = turn.there there in (
      Some whole.has.laying,
      record {
        does = laid whole.has;
        turn = λ none disk under. whole.whole (calm_drive run (either_faultless none)) ∙ sym (ap (λ d. d.words_per_track) (the_disk disk under));
        fits = λ ok none disk under. fits_under disk under (fits ok);
        refused = refused;
      },
    )
    | inr absent ↦ (
      None,
      record {
        does = unchanged (turn.absent absent);
        turn = λ none disk under. absurd (absent (there_under disk under));
        fits = λ ok none disk under. fits_under disk under (fits ok);
        refused = refused;
      },
    )
  ]

  -- the medium has another rate, so that no track of it can be formatted
  other_rate : rate_fits scene.rate scene.disk.rate ≡ false → (disk : Disk) → HasTrackUnder (rig_of old) scene.bay format disk → ⊥
  other_rate other disk under = false≢true (sym other ∙ rate_under disk under)

  none_overrun : (reason : Code) → (reason ≡ code.Overrun → ⊥) → reason ≡ code.Overrun → RoseBy 1 (counters_of old).stalls (counters_of new).stalls
  none_overrun reason other is = absurd (other is)

  -- what is shown with a refusal that can't come of an undisturbed revolution, where the track is there
  refuses : (laying : Option Laying) (reason : Code)
      → MatchOption laying ((rig_of new).media ≡ (rig_of old).media) (λ one. LaysMedium scene.bay format one (rig_of old) (rig_of new))
      → (IsUndisturbed scene.bay (counters_of old) (counters_of new) → (disk : Disk) → HasTrackUnder (rig_of old) scene.bay format disk → ⊥)
      → IsFormatMiss scene.bay format (rig_of old) reason (rig_of new) → (laying : Option Laying) × ShowsFormat laying (Err reason)
  refuses laying reason does never missed = (
    laying,
    record {
      does = does;
      turn = λ none disk under. elim none [ inl calm ↦ absurd (never calm disk under) | inr (ok, few) ↦ absurd (false≢true ok) ];
      fits = λ ok none disk under. absurd (false≢true ok);
      refused = missed;
    },
  )

  -- what is shown, by the way in which the command ended
  shows_as : (key : Chrn) (over : Ending) → FormatEndsAs scene numbers keys (drive_in now scene.bay) over → (over ≡ ending.Overrun → Stalled start now) → (laying : Option Laying) × ShowsFormat laying (told_of (told_as over key))
  shows_as key (ending.Done marked) (turn, fits) stalls = turned (Ok tt) turn (λ ok. fits) tt
  shows_as key ending.NoField (turn, out) stalls = turned (Err code.NoMark) turn (λ ok. absurd (false≢true ok)) (record {
    coded = tt;
    reason = λ none. (refl, λ (disk, under, fits). out (fits_back disk under fits));
    overrun = none_overrun code.NoMark (λ e. absurd cc);
  })
  shows_as key ending.NoMark (is, other) stalls = refuses None code.NoMark (unchanged is) (λ none. other_rate other) (record {
    coded = tt;
    reason = λ none. (refl, λ (disk, under, fits). other_rate other disk under);
    overrun = none_overrun code.NoMark (λ e. absurd cc);
  })
  shows_as key ending.Overrun wrote stalls = by_way wrote
    where
      stalled : Stalled start now
      stalled = stalls refl

      missed : IsFormatMiss scene.bay format (rig_of old) code.Overrun (rig_of new)
      missed = record {
        coded = tt;
        reason = λ undisturbed. absurd (unstalled run undisturbed stalled);
        overrun = λ same_code. stall_counts run stalled;
      }

      by_way : (IsUnchanged scene (drive_in now scene.bay) ⊎ HasLaying scene numbers keys (drive_in now scene.bay)) → (laying : Option Laying) × ShowsFormat laying (Err code.Overrun)
      by_way (inl is) = refuses None code.Overrun (unchanged is) (λ none disk under. unstalled run none stalled) missed
      by_way (inr has) = refuses (Some has.laying) code.Overrun (laid has) (λ none disk under. unstalled run none stalled) missed
  shows_as key ending.Protected (is, protected) stalls = absurd (false≢true (sym on.unprotected ∙ protected))
  shows_as key _ none stalls = absurd none

  -- what the driver is answered, and what was recorded
  pub format_shown : (key : Chrn) (over : Ending) → FormatEndsAs scene numbers keys (drive_in now scene.bay) over → (over ≡ ending.Overrun → Stalled start now)
      → (laying : Option Laying) × FormatsTrack scene.bay format laying (rig_of old) (told_of (told_as over key)) (rig_of new)
  format_shown key over ends stalls =
      let (laying, shows) = shows_as key over ends stalls in
      (laying, record { sends = write_sends run same; does = shows.does; turn = shows.turn; fits = shows.fits; refused = shows.refused })
