-- Words ahead on a track that is heard.
use Rattle.std.proofs.Common.{◌≡◌, ◌+◌, ◌*◌, ℕ, true, false, List, [], ◌∷◌, ◌++◌, Some, refl, sym, ap, subst, ◌∙◌, inl, arith, zero, suc}
use Rattle.fdc_core.proofs.Common.{append-nil, append_assoc, Chrn, IsDisk, IsRun, IsPlain, run_ends, DriveState, rate_of, word_under, Past, heard, stepped, rate_fits, seen_of, SeesUnder, HasSingle, HearsWhole, IsCertain, IsCertainOf, let_pass, IsHeard, IsHeardWhole, start_of, IsHearing, IsRecorded, Outset, track_heard, HoldsLines, IsStill, Fdc}
use Rattle.drive_model.specs.Ahead.{AreAhead, LetsPass}
use Rattle.fdc_core.proofs.Coursing.{ahead_behind, passes_calmly}
use Rattle.fdc_core.proofs.drives.Fields.{address_heard, mark_heard, whole_shifted}
use Rattle.fdc_core.proofs.drives.Passing.{hearing_on}
use Rattle.fdc_core.proofs.drives.Shifted.{shifted_run}
use Rattle.fdc_core.specs.Courses.{Courses}
use Rattle.fdc_core.specs.Drives.WordTimes.{PassesWordTime, WordTimes}

-- the words of the revolution, heard as they stand on the track
pub record AreOn (track seen : List ℕ) : Type 0 where
  pub start : ℕ
  pub heard : IsHeard track start seen
  pub whole : IsHeardWhole track start seen

-- with the words that are ahead
module _ (outset : Outset) (recorded : IsRecorded outset) (valid : IsDisk outset.disk) where
  -- the word that is ahead is seen
  sees : (word : ℕ) (past : Past) (drive : DriveState) → IsHearing outset past true drive → word_under drive outset.head ≡ word → SeesUnder outset.rate outset.head drive word (let_pass drive)
  sees word past drive was under =
      let medium = (was.under refl).medium in
      let fits : rate_fits outset.rate (rate_of drive.medium) ≡ true = ap (λ m. rate_fits outset.rate (rate_of m)) medium ∙ recorded.fits in
      (word, inl (sym under), sym (ap (λ fits. seen_of fits word) fits))

  hears_ahead : (words : List ℕ) (past : Past) (drive : DriveState) → IsHearing outset past true drive → AreAhead outset.head words drive
      → (later : Past) × (after : DriveState) × (later.turns ≡ past.turns) × (later.seen ≡ past.seen ++ words) × (after.faults ≡ drive.faults) × IsHearing outset later true after
  unfolding AreAhead
  hears_ahead [] past drive was ahead = (past, drive, refl, sym (append-nil past.seen), refl, was)
  hears_ahead (word ∷ rest) past drive was (under, no_index, ahead) =
      let on = hearing_on outset past drive (let_pass drive) word true valid was (sees word past drive was under) (passes_calmly drive (let_pass drive) refl) in
      let next : Past = heard false word (stepped past) in
      let now : IsHearing outset next true (let_pass drive) = subst (λ index. IsHearing outset (heard index word (stepped past)) true (let_pass drive)) no_index on in
      let (later, after, turns, seen, faults, hearing) = hears_ahead rest next (let_pass drive) now (ahead_behind outset.head rest drive ahead) in
      (later, after, turns, seen ∙ append_assoc past.seen (word ∷ []) rest, faults, hearing)

-- a command that heard all words of a track, with the words ahead
pub are_on : (outset : Outset) (past : Past) (drive : DriveState) (words : List ℕ) → HearsWhole outset past drive → AreAhead outset.head words drive → AreOn (track_heard outset) (past.seen ++ words)
are_on outset past drive words hears ahead =
    let track : List ℕ = track_heard outset in
    let (later, after, turns, seen, faults, hearing) = hears_ahead outset hears.recorded hears.valid words past drive hears.hearing ahead in
    let calm = hears.calm in
    let whole = hearing.whole (omega (arith, faults, calm.0), omega (arith, faults, calm.1)) in
    record {
      start = start_of outset.from later.turns;
      heard = subst (λ words. IsHeard track (start_of outset.from later.turns) words) seen hearing.heard.now;
      whole = subst (λ words. IsHeardWhole track (start_of outset.from later.turns) words) seen whole.now;
    }

module _ (track seen : List ℕ) (are : AreOn track seen) where
  run_on : (q : ℕ) → IsRun seen q → IsRun track (q + 16 * are.start)
  run_on q run =
      let inside = are.heard.inside in
      let ends = run_ends seen q run in
      shifted_run seen track q (q + 16 * are.start) 48 (whole_shifted track are.start seen q 48 are.whole inside ends) q (q + 16 * are.start) (omega arith) (omega arith) (omega arith) run

  pub plain_on : IsPlain track → IsPlain seen
  plain_on plain p mark q low high run =
      plain (p + 16 * are.start) (mark_heard track are.start seen are.heard p mark) (q + 16 * are.start) (omega (arith, low)) (omega (arith, high)) (run_on q run)

  pub single_on : (key : Chrn) → HasSingle key track → HasSingle key seen
  single_on key single p q one other =
      let same : p + 16 * are.start ≡ q + 16 * are.start = single (p + 16 * are.start) (q + 16 * are.start) (address_heard track are.start seen are.heard p key one) (address_heard track are.start seen are.heard q key other) in
      omega (arith, same)

pub plain_certain : (outset : Outset) (past : Past) (drive : DriveState) → HearsWhole outset past drive → drive.left ≡ Some 0 → IsPlain (track_heard outset) → IsCertain outset.head past.seen drive
plain_certain outset past drive hears left plain =
    record { faultless = left; plain = λ words ahead. plain_on (track_heard outset) (past.seen ++ words) (are_on outset past drive words hears ahead) plain }

pub single_certain : (outset : Outset) (past : Past) (drive : DriveState) (key : Chrn) → HearsWhole outset past drive → HasSingle key (track_heard outset) → IsCertainOf key outset.head past.seen drive
single_certain outset past drive key hears single words ahead =
    single_on (track_heard outset) (past.seen ++ words) (are_on outset past drive words hears ahead) key single

-- ---- word times of a controller and its drives, one by one and in a row

-- ---- word times in a row

pub times_none : (selected : ℕ) (fdc : Fdc) (first second : DriveState) → WordTimes 0 selected fdc first second fdc first second
unfolding WordTimes
times_none selected fdc first second = (refl, refl, refl)

-- of the first drive
times_first : (count : ℕ) (old : Fdc) (first second : DriveState) (new : Fdc) (first_after second_after : DriveState)
    → Courses count old first new first_after → LetsPass count second second_after
    → WordTimes count 0 old first second new first_after second_after
unfolding WordTimes Courses LetsPass
times_first zero old first second new first_after second_after courses passes = (courses.0, courses.1, passes)
times_first (suc count) old first second new first_after second_after courses passes =
    let passes_one : PassesWordTime 0 old first second courses.0 courses.1 (let_pass second) = record {
      at_first = λ _. (courses.2, refl);
      at_second = λ is. absurd cc;
      at_none = λ more. absurd (omega arith);
    } in (
      courses.0,
      courses.1,
      let_pass second,
      passes_one,
      courses.3,
      times_first count courses.0 courses.1 (let_pass second) new first_after second_after courses.4 passes,
    )

-- of the second
times_second : (count : ℕ) (old : Fdc) (first second : DriveState) (new : Fdc) (first_after second_after : DriveState)
    → Courses count old second new second_after → LetsPass count first first_after
    → WordTimes count 1 old first second new first_after second_after
unfolding WordTimes Courses LetsPass
times_second zero old first second new first_after second_after courses passes = (courses.0, passes, courses.1)
times_second (suc count) old first second new first_after second_after courses passes =
    let passes_one : PassesWordTime 1 old first second courses.0 (let_pass first) courses.1 = record {
      at_first = λ is. absurd cc;
      at_second = λ _. (courses.2, refl);
      at_none = λ more. absurd (omega arith);
    } in (
      courses.0,
      let_pass first,
      courses.1,
      passes_one,
      courses.3,
      times_second count courses.0 (let_pass first) courses.1 new first_after second_after courses.4 passes,
    )

-- the drive whose number is selected
pub times_zero : (count selected : ℕ) (old : Fdc) (first second : DriveState) (new : Fdc) (first_after second_after : DriveState)
    → selected ≡ 0 → Courses count old first new first_after → LetsPass count second second_after
    → WordTimes count selected old first second new first_after second_after
times_zero count selected old first second new first_after second_after is courses passes =
    subst (λ (n : ℕ). WordTimes count n old first second new first_after second_after) (sym is)
    (times_first count old first second new first_after second_after courses passes)

pub times_one : (count selected : ℕ) (old : Fdc) (first second : DriveState) (new : Fdc) (first_after second_after : DriveState)
    → selected ≡ 1 → Courses count old second new second_after → LetsPass count first first_after
    → WordTimes count selected old first second new first_after second_after
times_one count selected old first second new first_after second_after is courses passes =
    subst (λ (n : ℕ). WordTimes count n old first second new first_after second_after) (sym is)
    (times_second count old first second new first_after second_after courses passes)

-- of both, where the controller is still
pub times_still : (count selected : ℕ) (fdc : Fdc) (first second first_after second_after : DriveState)
    → IsStill fdc → LetsPass count first first_after → LetsPass count second second_after
    → WordTimes count selected fdc first second fdc first_after second_after
unfolding WordTimes LetsPass
times_still zero selected fdc first second first_after second_after still ones twos = (refl, ones, twos)
times_still (suc count) selected fdc first second first_after second_after still ones twos =
    let passes_one : PassesWordTime selected fdc first second fdc (let_pass first) (let_pass second) = record {
      at_first = λ _. (still.works first, refl);
      at_second = λ _. (still.works second, refl);
      at_none = λ _. (still.alone, refl, refl);
    } in
    let holds : HoldsLines fdc fdc = record { request = refl; interrupt = refl; ended = refl; mark = refl } in
    (fdc, let_pass first, let_pass second, passes_one, holds, times_still count selected fdc (let_pass first) (let_pass second) first_after second_after still ones twos)

-- ---- what stays

-- DOR, and so which drive is selected, stays
pub dor_stays : (selected : ℕ) (old : Fdc) (first second : DriveState) (new : Fdc) (first_after second_after : DriveState)
    → PassesWordTime selected old first second new first_after second_after → new.dor ≡ old.dor
dor_stays zero old first second new first_after second_after passes = (passes.at_first refl).0.stays.dor
dor_stays (suc zero) old first second new first_after second_after passes = (passes.at_second refl).0.stays.dor
dor_stays (suc (suc n)) old first second new first_after second_after passes = (passes.at_none (omega arith)).0.stays.dor

-- so does the rate
pub rate_stays : (selected : ℕ) (old : Fdc) (first second : DriveState) (new : Fdc) (first_after second_after : DriveState)
    → PassesWordTime selected old first second new first_after second_after → new.rate ≡ old.rate
rate_stays zero old first second new first_after second_after passes = (passes.at_first refl).0.stays.rate
rate_stays (suc zero) old first second new first_after second_after passes = (passes.at_second refl).0.stays.rate
rate_stays (suc (suc n)) old first second new first_after second_after passes = (passes.at_none (omega arith)).0.stays.rate

pub rate_stays_on : (count selected : ℕ) (old : Fdc) (first second : DriveState) (new : Fdc) (first_after second_after : DriveState)
    → WordTimes count selected old first second new first_after second_after → new.rate ≡ old.rate
unfolding WordTimes
rate_stays_on zero selected old first second new first_after second_after times = ap (λ fdc. fdc.rate) times.0
rate_stays_on (suc count) selected old first second new first_after second_after times =
    rate_stays_on count selected times.0 times.1 times.2 new first_after second_after times.5
    ∙ rate_stays selected old first second times.0 times.1 times.2 times.3
