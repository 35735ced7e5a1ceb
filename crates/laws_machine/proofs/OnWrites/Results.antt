-- What was handed in is from the range.
use Rattle.std.proofs.Common.{◌≡◌, inl, inr, ℕ, ◌+◌, ◌<◌, ◌≤◌, Bool, false, List, ◌++◌, length, get_or, take, drop, replicate, sym, ◌∙◌, ap, arith, length-append, true, ◌⊎◌, ◌*◌, [], ◌∷◌, Some, refl, subst}
use Rattle.laws_machine.proofs.Common.{Channel, IsContent, Scene, IsScene, IsTaken, range_of, get_or-append, false≢true, ext_get_or, get_or-take, length-take, length-drop, take_all, take-append-drop, Disk, HasTrack, IsWithTrack, track_of, Chrn, IsAddressAt, content_size, HasAddressMark, length-track_of, DriveState, Fifo, Past, IsTurnIn, IsAmong, HasNoClear, Ending, Done, NoMark, NoSector, NoField, BadCheck, Overrun, NoCount, Protected, Late, IsFirstOf, IsWhole, IsWriting, WriteStage, Results, is_overrun, MayWriteIn, MayWriteTask, Long, Phase, Execute, Result, Task, content_of, start_of, AreHeard, IsCalm, head_sent, track_met, IsAtWindow, refuses, refuses_as, append-nil, with_items, IsMissed, HasBegun, HasNoWindow, HasWritten, overran, address_heard, mark_heard, ChangesTo, ChangesWhole, WriteEndedIn, WriteEndsAs, HasChanged, IsUnchanged, WritesWell, window_in, written_in, heard_met, outset_of, between_is, turn_heard, WriteTask as Write}
use Rattle.track_model.specs.Windows.{IsCuttable, cut_of, window_word}
use Rattle.track_model.specs.Writing.{window}
use Rattle.track_model.proofs.Frames.{same_address_at}
use Rattle.track_model.proofs.Splices.{same_before}
use Rattle.track_model.proofs.Written.{length-window}
use Rattle.sector_map.specs.Changes.{Change, IsChange}
use Rattle.fdc_stages.specs.Windows.{words_behind}
use Rattle.laws_machine.proofs.OnReads.Words.{length-met}
use Rattle.fdc_stages.specs.declared.writing.WriteStage.TheVariants as stage

module _ (scene : Scene) (taken : List ℕ) (counted : Bool) (memory : List ℕ) (channel : Channel) (whole : IsScene scene) (was : IsTaken scene taken counted memory channel) where
  abbrev rest_of_memory : List ℕ
  rest_of_memory = drop scene.address scene.memory

  enough : scene.size ≤ length rest_of_memory
  enough = let long = length-drop scene.address scene.memory in let fits = whole.fits in omega arith

  -- each byte taken is that of the range
  each_taken : (k : ℕ) → k < length taken → get_or taken k 0 ≡ get_or rest_of_memory k 0
  each_taken k below = ap (λ bytes. get_or bytes k 0) was.first ∙ get_or-take (length taken) rest_of_memory k 0 below

  -- each byte handed in is that of the range
  each_handed : (handed : List ℕ) → IsContent counted taken handed → length handed ≤ scene.size → (k : ℕ) → k < length handed → get_or handed k 0 ≡ get_or rest_of_memory k 0
  each_handed handed (inl (rest, is)) few k below =
      let long = length-append handed rest in
      let lengths = ap length is in
      sym (get_or-append handed rest 0 k below) ∙ (sym (ap (λ bytes. get_or bytes k 0) is) ∙ each_taken k (omega arith))
  each_handed handed (inr (over, (zeros, is))) few k below =
      let all = (was.over over).1 in
      ap (λ bytes. get_or bytes k 0) is ∙ (get_or-append taken (replicate zeros 0) 0 k (omega arith) ∙ each_taken k (omega arith))

  range_long : length (range_of scene) ≡ scene.size
  range_long = let long = length-take scene.size rest_of_memory in let some = enough in omega arith

  -- so what was handed in is the first part of the range
  handed_is : (handed : List ℕ) → IsContent counted taken handed → length handed ≤ scene.size → handed ≡ take (length handed) (range_of scene)
  handed_is handed content few =
      let long = length-take (length handed) (range_of scene) in
      let range = range_long in
      ext_get_or 0 handed (take (length handed) (range_of scene)) (omega arith)
      (λ k below.
      each_handed handed content few k below
      ∙ (sym (get_or-take scene.size rest_of_memory k 0 (omega arith)) ∙ sym (get_or-take (length handed) (range_of scene) k 0 below)))

  -- the rest of the range completes what was handed in
  pub handed_rest : (handed : List ℕ) → IsContent counted taken handed → length handed ≤ scene.size
      → (handed ++ drop (length handed) (range_of scene) ≡ range_of scene) × (length handed + length (drop (length handed) (range_of scene)) ≡ scene.size)
  handed_rest handed content few =
      let long = length-drop (length handed) (range_of scene) in
      let range = range_long in (
        ap (λ bytes. bytes ++ drop (length handed) (range_of scene)) (handed_is handed content few) ∙ take-append-drop (length handed) (range_of scene),
        omega arith,
      )

  pub handed_all : (handed : List ℕ) → IsContent counted taken handed → length handed ≡ scene.size → handed ≡ range_of scene
  handed_all handed content all =
      let range = range_long in
      handed_is handed content (omega arith) ∙ take_all (length handed) (range_of scene) (omega arith)

  -- the whole content isn't handed in before the terminal count
  pub not_all : (handed : List ℕ) → IsContent counted taken handed → length handed ≡ scene.size → counted ≡ false → ⊥
  not_all handed (inl (rest, is)) all uncounted =
      let (left, more, set) = was.goes_on uncounted in
      let long = length-append handed rest in
      let lengths = ap length is in
      omega arith
  not_all handed (inr (over, padded)) all uncounted = false≢true (sym uncounted ∙ over)

-- ---- from the words that were written to the medium

-- ---- the words

-- the words are the first of the window of an address field that was heard, at its place
pub record IsOfWindow (scene : Scene) (deleted : Bool) (past : Past) : Type 0 where
  pub p : ℕ
  pub address : IsAddressAt past.seen p scene.sent.key
  pub place : length past.seen ≡ window_word p
  pub some : 1 ≤ length past.words
  pub first : IsFirstOf past.words (window_in scene deleted)

-- it is so if they are the first of the window of each content that goes on from what was handed in
of_window : (scene : Scene) (deleted : Bool) (past : Past) (memory : List ℕ) (channel : Channel) (handed : List ℕ) (p : ℕ) → IsScene scene → IsTaken scene past.taken past.counted memory channel
    → scene.size ≡ content_size scene.sent.key.n → IsContent past.counted past.taken handed → IsAddressAt past.seen p scene.sent.key → length past.seen ≡ window_word p → 1 ≤ length past.words
    → length handed ≤ content_size scene.sent.key.n → ((rest : List ℕ) → length handed + length rest ≡ content_size scene.sent.key.n → IsFirstOf past.words (window deleted (handed ++ rest))) → IsOfWindow scene deleted past
of_window scene deleted past memory channel handed p whole taken size content address place some few first =
    let (all, long) = handed_rest scene past.taken past.counted memory channel whole taken handed content (omega arith) in
    record { p = p; address = address; place = place; some = some; first = subst (λ bytes. IsFirstOf past.words (window deleted bytes)) all (first (drop (length handed) (range_of scene)) (omega arith)) }

begun_of : (scene : Scene) (deleted : Bool) (past : Past) (memory : List ℕ) (channel : Channel) (handed : List ℕ) → IsScene scene → IsTaken scene past.taken past.counted memory channel
    → scene.size ≡ content_size scene.sent.key.n → IsContent past.counted past.taken handed → HasBegun past scene.sent.key deleted handed → (past.words ≡ []) ⊎ IsOfWindow scene deleted past
begun_of scene deleted past memory channel handed whole taken size content (inl none) = inl none.0
begun_of scene deleted past memory channel handed whole taken size content (inr (p, begun)) =
    inr (of_window scene deleted past memory channel handed p whole taken size content begun.address begun.place begun.some begun.few begun.first)

stage_of : (scene : Scene) (deleted : Bool) (past : Past) (memory : List ℕ) (channel : Channel) (handed : List ℕ) → IsScene scene → IsTaken scene past.taken past.counted memory channel
    → scene.size ≡ content_size scene.sent.key.n → IsContent past.counted past.taken handed → (now : WriteStage) → IsWriting past scene.sent.key deleted handed now
    → (past.words ≡ []) ⊎ IsOfWindow scene deleted past
stage_of scene deleted past memory channel handed whole taken size content (stage.Window window) (at, ((p, within), some)) =
    inr (of_window scene deleted past memory channel handed p whole taken size content within.address within.place some (let few = within.bytes in omega arith)
    (λ rest all. let bytes = within.bytes in (words_behind (Some window) rest, sym (within.goes_on rest (omega arith)))))
stage_of scene deleted past memory channel handed whole taken size content _ was = inl was.1.1.0

-- what the command has written, whatever its phase is
pub words_of : (scene : Scene) (deleted : Bool) (past : Past) (memory : List ℕ) (channel : Channel) → IsScene scene → IsTaken scene past.taken past.counted memory channel
    → scene.size ≡ content_size scene.sent.key.n → (phase : Phase) (asking : Bool) (fifo : Fifo) → MayWriteIn past scene.sent deleted phase asking fifo
    → (past.words ≡ []) ⊎ IsOfWindow scene deleted past
words_of scene deleted past memory channel whole taken size (Result (Long ending results read)) asking fifo (low, are, (handed, has)) =
    begun_of scene deleted past memory channel handed whole taken size has.content has.written.begun
words_of scene deleted past memory channel whole taken size (Execute execution) asking fifo was = in_task execution.task execution.head_drive execution.steps was
  where
    in_task : (task : Task) (head_drive steps : ℕ) → MayWriteTask past scene.sent deleted head_drive steps task asking fifo → (past.words ≡ []) ⊎ IsOfWindow scene deleted past
    in_task (Write writing) head_drive steps (asks, (handed, on)) =
        let content : IsContent past.counted past.taken handed = subst (λ counted. IsContent counted past.taken handed) (sym on.counted_is) (content_of writing.counted past.taken handed fifo.bytes on.handed_is) in
        let key = ap (λ s. s.key) on.sent_is in
        stage_of scene deleted past memory channel handed whole taken size content writing.stage
        (subst (λ d. IsWriting past scene.sent.key d handed writing.stage) on.deleted_is (subst (λ k. IsWriting past k writing.deleted handed writing.stage) key on.writes))
    in_task _ head_drive steps was = absurd was
words_of scene deleted past memory channel whole taken size _ asking fifo was = absurd was

-- ---- the medium

-- so many of the words stand on the medium
pub record MakesChange (scene : Scene) (deleted : Bool) (past : Past) (drive : DriveState) (p : ℕ) : Type 0 where
  pub changed : HasChanged scene deleted drive
  pub whole : IsCalm scene.faults drive.faults → changed.change.words ≡ length past.words
  pub place : changed.change.place ≡ p + 16 * start_of scene.from past.turns

pub take_less : (words whole others : List ℕ) (count : ℕ) → whole ≡ words ++ others → count ≤ length words → take count words ≡ take count whole
take_less words whole others count is few =
    let long = ap length is in
    let joined = length-append words others in
    let one = length-take count words in
    let two = length-take count whole in
    ext_get_or 0 (take count words) (take count whole) (omega arith)
    (λ k below.
    get_or-take count words k 0 (omega arith)
    ∙ (sym (get_or-append words others 0 k (omega arith)) ∙ (sym (ap (λ list. get_or list k 0) is) ∙ sym (get_or-take count whole k 0 (omega arith)))))

-- the address field before the words stays
address_kept : (track : List ℕ) (p k : ℕ) (words : List ℕ) (key : Chrn) → IsCuttable track p k words → IsAddressAt track p key → IsAddressAt (cut_of track p k words) p key
address_kept track p k words key cuttable address =
    let most = cuttable.most in
    let inside = cuttable.inside in
    let long = length-take k words in
    same_address_at track (cut_of track p k words) p key (same_before track (window_word p) (take k words) (omega arith) p 160 (omega arith)) address

made : (scene : Scene) (deleted executes : Bool) (past : Past) (drive : DriveState) → IsScene scene → IsAtWindow scene past executes drive → (of : IsOfWindow scene deleted past) → MakesChange scene deleted past drive of.p
made scene deleted executes past drive whole was of =
    let start = start_of scene.from past.turns in
    let met = heard_met (outset_of scene) past drive.faults was.at.hears of.p scene.sent.key of.address in
    let put = was.at.medium.put (was.there of.some) of.some in
    let (others, is) = of.first in
    let track = track_of scene.disk scene.cylinder (head_sent scene.sent) in
    let place = of.place in
    let at : window_word (of.p + 16 * start) ≡ start + length past.seen = omega arith in
    let address : IsAddressAt track (of.p + 16 * start) scene.sent.key =
    subst (λ t. IsAddressAt t (of.p + 16 * start) scene.sent.key) met.track (address_heard (track_met scene) start past.seen was.at.hears.heard.now of.p scene.sent.key of.address) in
    let long = length-track_of scene.disk scene.cylinder (head_sent scene.sent) whole.disk met.has in
    let few = put.stands.few in
    let inside = put.stands.inside in
    let lengths = ap length is in
    let joined = length-append past.words others in
    let row : with_items track (start + length past.seen) (take put.count past.words) ≡ cut_of track (of.p + 16 * start) put.count (window_in scene deleted) =
    ap (with_items track (start + length past.seen)) (take_less past.words (window_in scene deleted) others put.count is few)
    ∙ ap (λ n. with_items track n (take put.count (window_in scene deleted))) (sym at) in
    let cuttable : IsCuttable track (of.p + 16 * start) put.count (window_in scene deleted) = record { most = omega arith; inside = omega arith } in
    let cut : IsWithTrack scene.disk scene.cylinder (head_sent scene.sent) (cut_of track (of.p + 16 * start) put.count (window_in scene deleted)) put.now =
    subst (λ r. IsWithTrack scene.disk scene.cylinder (head_sent scene.sent) r put.now) row put.stands.track in
    record {
      changed = record {
        change = record { cylinder = scene.cylinder; place = of.p + 16 * start; words = put.count };
        after = put.now;
        medium = put.medium;
        changes = record {
          cylinder = refl;
          rate = met.fits;
          unprotected = was.at.unprotected of.some;
          track = met.has;
          address = address;
          cuttable = cuttable;
          cut = cut;
          stays = subst (λ t. IsAddressAt t (of.p + 16 * start) scene.sent.key) (sym cut.has)
              (address_kept track (of.p + 16 * start) put.count (window_in scene deleted) scene.sent.key cuttable address);
        };
      };
      whole = put.whole;
      place = refl;
    }

pub only : (scene : Scene) (deleted executes : Bool) (past : Past) (drive : DriveState) → IsScene scene → IsAtWindow scene past executes drive → (past.words ≡ []) ⊎ IsOfWindow scene deleted past
    → IsUnchanged scene drive ⊎ HasChanged scene deleted drive
only scene deleted executes past drive whole was (inl none) = inl (was.at.medium.quiet none)
only scene deleted executes past drive whole was (inr of) = inr (made scene deleted executes past drive whole was of).changed

-- ---- a revolution that was heard

among_between : (turns : List (List ℕ)) (seen between first : List ℕ) → turns ≡ between ∷ first ∷ [] → IsTurnIn turns seen between
among_between turns seen between first is = inr (subst (λ t. IsAmong t between) (sym is) (inl refl))

-- ---- the endings

module _ (scene : Scene) (deleted executes : Bool) (past : Past) (drive : DriveState) (memory : List ℕ) (channel : Channel) (whole : IsScene scene) (was : IsAtWindow scene past executes drive)
    (taken : IsTaken scene past.taken past.counted memory channel) (size : scene.size ≡ content_size scene.sent.key.n) where
  pub done_ends : (handed : List ℕ) → IsContent past.counted past.taken handed → (p : ℕ) → IsWhole past.seen past.words scene.sent.key deleted handed p → ChangesWhole scene deleted drive
  done_ends handed content p is =
      let long = is.size in
      let all : handed ≡ range_of scene = handed_all scene past.taken past.counted memory channel whole taken handed content (omega arith) in
      let words : past.words ≡ window_in scene deleted = is.whole ∙ ap (window deleted) all in
      let lengths = ap length words in
      let wide = length-window deleted (range_of scene) in
      let of : IsOfWindow scene deleted past = record {
        p = p;
        address = is.address;
        place = is.place;
        some = omega arith;
        first = ([], sym words ∙ sym (append-nil past.words));
      } in
      let makes = made scene deleted executes past drive whole was of in
      record { changed = makes.changed; whole = λ calm. makes.whole calm ∙ lengths }

  mark_ends : past.words ≡ [] → IsMissed past (Some scene.sent.key) NoMark → WriteEndsAs scene deleted drive NoMark
  mark_ends none (missed, unmarked) = (
    was.at.medium.quiet none,
    λ calm mark.
        let same = between_is (track_met scene) scene.from past missed.between was.at.hears.heard (was.at.hears.whole calm) missed.is in
        unmarked (missed.between, among_between past.turns past.seen missed.between missed.is.first missed.is.turns, subst HasAddressMark (sym same) mark),
  )

  sector_ends : past.words ≡ [] → IsMissed past (Some scene.sent.key) NoSector → WriteEndsAs scene deleted drive NoSector
  sector_ends none (missed, (words, among, (p, mark))) =
      let (start, turned, turned_whole) = turn_heard (track_met scene) scene.from past.turns past.seen words was.at.hears.heard among in (
        was.at.medium.quiet none,
        (p + 16 * start, mark_heard (track_met scene) start words turned p mark),
        λ calm.
            let same = between_is (track_met scene) scene.from past missed.between was.at.hears.heard (was.at.hears.whole calm) missed.is in
            subst (HasNoClear (Some scene.sent.key)) same (missed.none missed.between (among_between past.turns past.seen missed.between missed.is.first missed.is.turns)),
      )

  field_ends : (past.words ≡ []) ⊎ IsOfWindow scene deleted past → HasNoWindow past scene.sent.key → WriteEndsAs scene deleted drive NoField
  field_ends either (inl (none, (turn, p, behind))) =
      let heard_over : AreHeard (track_met scene) scene.from (turn ∷ behind.over.earlier) = subst (AreHeard (track_met scene) scene.from) behind.over.last was.at.hears.heard.over in
      let start = start_of scene.from behind.over.earlier in
      let end = heard_over.1 in
      let late = behind.behind in (
        inl (was.at.medium.quiet none),
        (p + 16 * start, address_heard (track_met scene) start turn heard_over.0 p scene.sent.key behind.address, λ inside. omega arith),
      )
  field_ends (inl none) (inr (inl (p, short))) = let zero_words = ap length none in let some = short.some in absurd (omega arith)
  field_ends (inr of) (inr (inl (p, short))) =
      let makes = made scene deleted executes past drive whole was of in
      let start = start_of scene.from past.turns in
      let end = was.at.index short.index short.some in
      let few = short.few in
      let place = of.place in
      let at = makes.place in
      let long = length-met scene whole.disk in (
        inr (record { changed = makes.changed; out = λ inside. omega arith }),
        (of.p + 16 * start, address_heard (track_met scene) start past.seen was.at.hears.heard.now of.p scene.sent.key of.address, λ inside. omega arith),
      )
  field_ends either (inr (inr (none, barred))) = absurd (false≢true (sym was.unbarred ∙ barred))

  late_ends : past.steps ≡ 65536 → ⊥
  late_ends last = let early = was.at.early in let few = whole.disk.words_per_track.1 in omega arith

  ends : (handed : List ℕ) → IsContent past.counted past.taken handed → (ending : Ending) → (refuses_as ending ≡ true → scene.disk.protected ≡ true) → HasWritten past scene.sent.key deleted handed ending
      → WriteEndsAs scene deleted drive ending
  ends handed content (Done marked) covered has = done_ends handed content has.cause.2.0 has.cause.2.1
  ends handed content NoMark covered has = mark_ends has.cause.0 has.cause.1
  ends handed content NoSector covered has = sector_ends has.cause.0 has.cause.1
  ends handed content NoField covered has = field_ends (begun_of scene deleted past memory channel handed whole taken size content has.begun) has.cause
  ends handed content BadCheck covered has = has.cause
  ends handed content Overrun covered has = only scene deleted executes past drive whole was (begun_of scene deleted past memory channel handed whole taken size content has.begun)
  ends handed content NoCount covered has =
      let (uncounted, (p, is)) = has.cause in
      let long = is.size in
      not_all scene past.taken past.counted memory channel whole taken handed content (omega arith) uncounted
  ends handed content Protected covered has = (was.at.medium.quiet has.cause, covered refl)
  ends handed content Late covered has = late_ends has.cause

  pub ended : (phase : Phase) (asking : Bool) (fifo : Fifo) → (refuses phase ≡ true → scene.disk.protected ≡ true) → MayWriteIn past scene.sent deleted phase asking fifo → WriteEndedIn scene deleted drive phase
  ended (Result (Long ending results taken)) asking fifo covered (low, are, (handed, has)) = (are, ends handed has.content ending covered has.written)
  ended _ asking fifo covered may = tt

-- if nothing disturbed the write, the whole window stands wherever it is inside the track
pub well : (scene : Scene) (deleted : Bool) (drive : DriveState) (ending : Ending) → IsCalm scene.faults drive.faults → overran ending ≡ false → WriteEndsAs scene deleted drive ending → WritesWell scene deleted drive
well scene deleted drive (Done marked) calm on_time says = inr (says.changed, λ inside. says.whole calm)
well scene deleted drive NoField calm on_time (inl same, out) = inl same
well scene deleted drive NoField calm on_time (inr short, out) = inr (short.changed, λ inside. absurd (short.out inside))
well scene deleted drive Overrun calm on_time says = absurd (false≢true (sym on_time))
well scene deleted drive BadCheck calm on_time says = absurd says
well scene deleted drive NoCount calm on_time says = absurd says
well scene deleted drive Late calm on_time says = absurd says
well scene deleted drive _ calm on_time says = inl says.0

pub ended_well : (scene : Scene) (deleted : Bool) (drive : DriveState) (phase : Phase) (ending : Ending) (results : Results) (read : ℕ) → phase ≡ Result (Long ending results read)
    → IsCalm scene.faults drive.faults → is_overrun phase ≡ false → WriteEndedIn scene deleted drive phase → WritesWell scene deleted drive
ended_well scene deleted drive phase ending results read is calm on_time says =
    well scene deleted drive ending calm (sym (ap is_overrun is) ∙ on_time) (subst (WriteEndedIn scene deleted drive) is says).1

-- ---- a change of the disk

pub changes_disk : (scene : Scene) (deleted : Bool) (change : Change) (after : Disk) → head_sent scene.sent ≡ scene.sent.key.h → ChangesTo scene deleted change after
    → IsChange (written_in scene deleted) scene.disk change after
changes_disk scene deleted change after same is =
    let At : ℕ → ℕ → Type 0 = λ c h. HasTrack scene.disk c h
    × IsAddressAt (track_of scene.disk c h) change.place scene.sent.key
    × IsCuttable (track_of scene.disk c h) change.place change.words (window_in scene deleted)
    × IsWithTrack scene.disk c h (cut_of (track_of scene.disk c h) change.place change.words (window_in scene deleted)) after in
    let there : At scene.cylinder (head_sent scene.sent) = (is.track, is.address, is.cuttable, is.cut) in
    let here : At change.cylinder scene.sent.key.h = subst (λ c. At c scene.sent.key.h) (sym is.cylinder) (subst (At scene.cylinder) same there) in
    record { track = here.0; address = here.1; cuttable = here.2; cut = here.3 }
