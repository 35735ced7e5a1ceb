-- From the words that were laid to the medium.
use Rattle.std.proofs.Common.{true, ◌≡◌, ◌⊎◌, inl, inr, ℕ, ◌+◌, ◌*◌, ◌≤◌, Bool, false, List, [], ◌∷◌, length, take, drop, refl, sym, ◌∙◌, ap, subst, arith}
use Rattle.laws_machine.proofs.Common.{Chrn, Disk, HasTrack, IsWithTrack, track_of, Channel, DriveState, Fifo, Past, Ending, Done, NoMark, NoField, Overrun, Protected, Late, Numbers, HasLaid, IsBehindFirst, IsWholeTurn, IsFirstOf, IsContent, MayFormatIn, MayFormatTask, Long, Phase, Execute, Result, Task, content_of, place_in, IsCalm, Scene, IsScene, head_sent, IsAtDrive, IsThere, start_in, IsTaken, range_of, refuses, refuses_as, AreKeysOf, with_items, HasFormatted, IsFormatting, Formats, none_or_some, FormatEndedIn, FormatEndsAs, FitsOn, HasLaying, IsSameOrLaid, LaysTo, LaysTurn, layout_in, there_or_not, outset_of}
use Rattle.track_model.specs.Layouts.{laid_words, lay}
use Rattle.sector_map.specs.Layings.{Format, IsLaying, Laying, format_keys, formatted}
use Rattle.flop_base.specs.Standard.{standard_code}
use Rattle.fdc_stages.proofs.Ended.{stopped_formatted}
use Rattle.fdc_stages.specs.declared.formatting.FormatStage.{FormatStage}
use Rattle.laws_machine.proofs.OnWrites.Results.{take_less, handed_rest}

-- ---- the words

start_zero : (from : ℕ) (turns : List (List ℕ)) (seen : List ℕ) → IsBehindFirst turns seen → place_in from turns seen ≡ 0
start_zero from turns seen behind =
    ap (λ t. place_in from t seen) behind.turns_are ∙ ap (λ s. place_in from (behind.first ∷ []) s) behind.nothing

-- the words are the first of the layout, from the index on
pub record IsOfLayout (scene : Scene) (numbers : Numbers) (keys : List Chrn) (past : Past) : Type 0 where
  pub start : start_in scene past ≡ 0
  pub first : IsFirstOf past.words (layout_in scene numbers keys)

pub of_laid : (scene : Scene) (numbers : Numbers) (keys : List Chrn) (past : Past) (memory : List ℕ) (channel : Channel) (handed : List ℕ) → IsScene scene
    → IsTaken scene past.taken past.counted memory channel → scene.size ≡ 4 * numbers.sectors → AreKeysOf scene numbers keys → IsContent past.counted past.taken handed
    → start_in scene past + length past.words ≤ scene.disk.words_per_track → HasLaid past numbers handed → (past.words ≡ []) ⊎ IsOfLayout scene numbers keys past
of_laid scene numbers keys past memory channel handed whole taken size are content inside has = by_behind has.behind
  where
    by_behind : (past.words ≡ []) ⊎ IsBehindFirst past.turns past.seen → (past.words ≡ []) ⊎ IsOfLayout scene numbers keys past
    by_behind (inl none) = inl none
    by_behind (inr behind) =
        let few = has.first.few in
        let rest = drop (length handed) (range_of scene) in
        let (all, long) = handed_rest scene past.taken past.counted memory channel whole taken handed content (omega arith) in
        let laid = has.first.laid keys rest (record { many = are.many; bytes = are.bytes ∙ sym all }) in
        let start = start_zero scene.from past.turns past.seen behind in
        inr (record { start = start; first = laid.first scene.disk.words_per_track (omega arith) })

-- a command that goes on
laid_stage : (past : Past) (numbers : Numbers) (handed : List ℕ) (now : FormatStage) → IsFormatting past numbers handed now → HasLaid past numbers handed
laid_stage past numbers handed now was =
    let has = (stopped_formatted Overrun now (record past { counted = false }) numbers handed was refl).begun in
    record { behind = has.behind; first = has.first }

-- what the command has laid out, whatever its phase is
pub laid_in : (scene : Scene) (numbers : Numbers) (past : Past) (phase : Phase) (asking : Bool) (fifo : Fifo) → MayFormatIn past scene.sent.head_drive numbers phase asking fifo
    → (handed : List ℕ) × IsContent past.counted past.taken handed × HasLaid past numbers handed
laid_in scene numbers past (Result (Long ending results read)) asking fifo (low, same, (handed, has)) = (handed, has.content, has.formatted.begun)
laid_in scene numbers past (Execute execution) asking fifo was = in_task execution.task execution.head_drive execution.steps was
  where
    in_task : (task : Task) (head_drive steps : ℕ) → MayFormatTask past scene.sent.head_drive numbers head_drive steps task asking fifo
        → (handed : List ℕ) × IsContent past.counted past.taken handed × HasLaid past numbers handed
    in_task (Formats formatting) head_drive steps (asks, (handed, on)) = (
      handed,
      subst (λ counted. IsContent counted past.taken handed) (sym on.counted_is) (content_of formatting.counted past.taken handed fifo.bytes on.handed_is),
      laid_stage past numbers handed formatting.stage on.formats,
    )
    in_task _ head_drive steps was = absurd was
laid_in scene numbers past _ asking fifo was = absurd was

pub words_of : (scene : Scene) (numbers : Numbers) (keys : List Chrn) (past : Past) (memory : List ℕ) (channel : Channel) → IsScene scene
    → IsTaken scene past.taken past.counted memory channel → scene.size ≡ 4 * numbers.sectors → AreKeysOf scene numbers keys
    → start_in scene past + length past.words ≤ scene.disk.words_per_track → (phase : Phase) (asking : Bool) (fifo : Fifo) → MayFormatIn past scene.sent.head_drive numbers phase asking fifo
    → (past.words ≡ []) ⊎ IsOfLayout scene numbers keys past
words_of scene numbers keys past memory channel whole taken size are inside phase asking fifo was =
    let (handed, content, has) = laid_in scene numbers past phase asking fifo was in
    of_laid scene numbers keys past memory channel handed whole taken size are content inside has

-- ---- the medium

-- so many of the words stand on the medium
pub record MakesLaying (scene : Scene) (numbers : Numbers) (keys : List Chrn) (past : Past) (drive : DriveState) : Type 0 where
  pub has : HasLaying scene numbers keys drive
  pub whole : IsCalm scene.faults drive.faults → has.laying.words ≡ length past.words

made : (scene : Scene) (numbers : Numbers) (keys : List Chrn) (executes : Bool) (past : Past) (drive : DriveState) → IsAtDrive scene past executes drive → IsThere scene → 1 ≤ length past.words
    → IsOfLayout scene numbers keys past → MakesLaying scene numbers keys past drive
made scene numbers keys executes past drive was there some of =
    let put = was.medium.put there some in
    let (others, is) = of.first in
    let track = track_of scene.disk scene.cylinder (head_sent scene.sent) in
    let inside = put.stands.inside in
    let row : with_items track (start_in scene past) (take put.count past.words) ≡ with_items track 0 (take put.count (layout_in scene numbers keys)) =
    ap (with_items track (start_in scene past)) (take_less past.words (layout_in scene numbers keys) others put.count is put.stands.few)
    ∙ ap (λ n. with_items track n (take put.count (layout_in scene numbers keys))) of.start in
    record {
      has = record {
        laying = record { cylinder = scene.cylinder; words = put.count };
        after = put.now;
        medium = put.medium;
        lays = record {
          cylinder = refl;
          rate = was.fits some;
          unprotected = was.unprotected some;
          track = there;
          most = omega arith;
          laid = subst (λ r. IsWithTrack scene.disk scene.cylinder (head_sent scene.sent) r put.now) row put.stands.track;
        };
      };
      whole = put.whole;
    }

pub only : (scene : Scene) (numbers : Numbers) (keys : List Chrn) (executes : Bool) (past : Past) (drive : DriveState) → IsAtDrive scene past executes drive
    → (past.words ≡ []) ⊎ IsOfLayout scene numbers keys past → IsSameOrLaid scene numbers keys drive
only scene numbers keys executes past drive was (inl none) = inl (was.medium.quiet none)
only scene numbers keys executes past drive was (inr of) = elim (none_or_some past.words) [
  | inl none ↦ inl (was.medium.quiet none)
  | inr some ↦ elim (there_or_not (outset_of scene)) [
    | inl there ↦ inr (made scene numbers keys executes past drive was there some of).has
    | inr absent ↦ inl (was.medium.absent absent)
  ]
]

-- ---- the endings

module _ (scene : Scene) (numbers : Numbers) (keys : List Chrn) (executes : Bool) (past : Past) (drive : DriveState) (memory : List ℕ) (channel : Channel) (whole : IsScene scene) (was : IsAtDrive scene past executes drive)
    (taken : IsTaken scene past.taken past.counted memory channel) (size : scene.size ≡ 4 * numbers.sectors) (are : AreKeysOf scene numbers keys) where
  -- the index came after the words, so they are a revolution
  turn_long : IsBehindFirst past.turns past.seen → past.place ≡ 0 → 1 ≤ length past.words → length past.words ≡ scene.disk.words_per_track
  turn_long behind index some =
      let start = start_zero scene.from past.turns past.seen behind in
      let end = was.index index some in
      omega arith

  turn_ends : (past.words ≡ []) ⊎ IsOfLayout scene numbers keys past → 1 ≤ length past.words → length past.words ≡ scene.disk.words_per_track → LaysTurn scene numbers keys drive
  turn_ends (inl none) some long = let zero_words = ap length none in absurd (omega arith)
  turn_ends (inr of) some long = record {
    rate = was.fits some;
    there = λ there. let makes = made scene numbers keys executes past drive was there some of in record { has = makes.has; whole = λ calm. makes.whole calm ∙ long };
    absent = was.medium.absent;
  }

  some_laid : (count n gap3 words : ℕ) → laid_words count n gap3 ≤ words → 1 ≤ words
  some_laid count n gap3 words fits = omega arith

  late_ends : past.steps ≡ 65536 → ⊥
  late_ends last = let early = was.early in let few = whole.disk.words_per_track.1 in omega arith

  pub done_ends : (handed : List ℕ) → (past.words ≡ []) ⊎ IsOfLayout scene numbers keys past → (others : List Chrn) → IsWholeTurn past numbers handed others → LaysTurn scene numbers keys drive × FitsOn scene numbers keys
  done_ends handed either others is =
      let some = some_laid (length others) numbers.n numbers.gap3 (length past.words) is.fits in
      let long = turn_long is.behind is.index some in
      let same : length others ≡ length keys = is.many ∙ sym are.many in (
        turn_ends either some long,
        subst (λ words. laid_words (length keys) numbers.n numbers.gap3 ≤ words) long
            (subst (λ count. laid_words count numbers.n numbers.gap3 ≤ length past.words) same is.fits),
      )

  ends : (handed : List ℕ) → IsContent past.counted past.taken handed → (ending : Ending) → (refuses_as ending ≡ true → scene.disk.protected ≡ true) → HasFormatted past numbers handed ending → FormatEndsAs scene numbers keys drive ending
  ends handed content (Done marked) covered has =
      done_ends handed (of_laid scene numbers keys past memory channel handed whole taken size are content was.inside has.begun) has.cause.1.0 has.cause.1.1
  ends handed content NoField covered has =
      let cause = has.cause in
      let long = turn_long cause.behind cause.index cause.some in (
        turn_ends (of_laid scene numbers keys past memory channel handed whole taken size are content was.inside has.begun) cause.some long,
        λ fits. cause.misfit keys are.many (subst (λ words. laid_words (length keys) numbers.n numbers.gap3 ≤ words) (sym long) fits),
      )
  ends handed content NoMark covered has = (was.medium.quiet has.cause.0, was.barred has.cause.1)
  ends handed content Overrun covered has = only scene numbers keys executes past drive was (of_laid scene numbers keys past memory channel handed whole taken size are content was.inside has.begun)
  ends handed content Protected covered has = (was.medium.quiet has.cause, covered refl)
  ends handed content Late covered has = late_ends has.cause
  ends handed content _ covered has = has.cause

  pub ended : (phase : Phase) (asking : Bool) (fifo : Fifo) → (refuses phase ≡ true → scene.disk.protected ≡ true) → MayFormatIn past scene.sent.head_drive numbers phase asking fifo → FormatEndedIn scene numbers keys drive phase
  ended (Result (Long ending results taken)) asking fifo covered (low, same, (handed, has)) = (same, ends handed has.content ending covered has.formatted)
  ended _ asking fifo covered may = tt

-- ---- a laying of the disk

pub lays_disk : (scene : Scene) (numbers : Numbers) (keys : List Chrn) (laying : Laying) (after : Disk) (format : Format) → head_sent scene.sent ≡ format.h
    → keys ≡ format_keys format → numbers.n ≡ standard_code → numbers.gap3 ≡ format.gap3 → numbers.fill ≡ format.fill → LaysTo scene numbers keys laying after → IsLaying format scene.disk laying after
lays_disk scene numbers keys laying after format head same code gap fill is =
    let words = scene.disk.words_per_track in
    let layout : layout_in scene numbers keys ≡ formatted format words =
    ap (λ k. lay k numbers.n numbers.gap3 numbers.fill words) same
    ∙ (ap (λ n. lay (format_keys format) n numbers.gap3 numbers.fill words) code
    ∙ (ap (λ g. lay (format_keys format) standard_code g numbers.fill words) gap ∙ ap (λ f. lay (format_keys format) standard_code format.gap3 f words) fill)) in
    let At : ℕ → ℕ → List ℕ → Type 0 = λ c h row. HasTrack scene.disk c h × IsWithTrack scene.disk c h (with_items (track_of scene.disk c h) 0 (take laying.words row)) after in
    let there : At scene.cylinder (head_sent scene.sent) (layout_in scene numbers keys) = (is.track, is.laid) in
    let here : At laying.cylinder format.h (formatted format words) =
    subst (λ c. At c format.h (formatted format words)) (sym is.cylinder) (subst (λ h. At scene.cylinder h (formatted format words)) head (subst (At scene.cylinder (head_sent scene.sent)) layout there)) in
    record { track = here.0; most = is.most; laid = here.1 }
