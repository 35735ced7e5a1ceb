-- What is served, through device steps, the channel and port accesses.
use Rattle.std.proofs.Common.{◌≡◌, ◌⊎◌, inl, inr, ℕ, ◌+◌, ◌-◌, nat_lt, Bool, true, false, not, ◌&&◌, ◌||◌, ◌==◌, if◌then◌else◌, Option, Some, None, List, [], ◌∷◌, ◌++◌, length, refl, sym, ◌∙◌, ap, subst, append-nil, arith}
use Rattle.laws_chip.proofs.Common.{and_from, and_parts, eq-eqb, eqb-true, false≢true, IsSizeCode, content_size, has_ended_seek, Past, new_past, Ending, Done, BadCheck, Command, byte_out, taken_in, taken_out, to_memory_of, told_count, MayReadIn, Sent, gave, results_sent, told_in, WordTime, Stopped, after_time, is_executing, AreOfField, ReadMeans, ReadMeansIn, bytes_held, resets, asks, ending_told, given_up, is_idle, mark_of, without_seek, ending_of_phase, head_of, MayWriteIn, took, Long, Fdc, Phase, Taking, Execute, Result, starts_given, write_tells, writes_window, AdapterState, StepsAdapter, WritesAdapter, lines_at, selected_at, BeginsSector, Front, GivesAt, GivesCommand, GivesFront, GivesMoving, GivesTransfer, SeeksFirst, Starts, StartsIf, TakesAt, TakesFront, TakesMoving, WritesFront, begun_if, count_told, is_ready, moving_of, passed_one, results_taken, taken_at, told_front, told_if, with_controller, EndsIf, EndsSector, FollowsStep, MovesOn, SeeksOn, StepsFront, goes_on, has_met_other, is_unwanted, judged_if, passed_over_if, Accounts, AreLeft, AreMoved, BeginsServing, Carries, GoesOn, History, IsFieldDone, IsLastOne, IsFree, IsMarkOf, IsOfOther, IsOfSector, IsRefused, IsTimeOf, KeepsServing, MayMove, Means, MeansJudged, Part, Passes, PassesAt, RefusesFirst, Serves, ServesAt, ServesCounted, ServesStep, ServesUnless, StepsTo, bytes_moved, has_other, has_results, hears_count, history_counted, history_ended, history_given, history_moved, history_passed, history_sought, history_stepped, history_taken, nothing_moved, passed_in, passed_out, results_ended, sector_after, sent_of, still_seeks, is_other, is_skipping, next_of, size_of, Operation, Read, Write, MovingSector, FrontStage, Through, Seeking, Moving, Telling, Transfer, front_reset_if as reset_if, front_judged as judged}
use Rattle.fdc_core.specs.Tellings.{WriteMeans, WriteMeansIn}
use Rattle.fdc_core.proofs.Meanings.{read_gives, read_tells}
use Rattle.laws_chip.proofs.Judged.{judges}
use Rattle.laws_chip.proofs.Known.{BadGoes, KnownOn, MovedOn, bytes_told, clash, either_way, in_on, out_on, port_busy, port_mark, port_on, steps_on}
use Rattle.laws_chip.proofs.Free.{free_executes, given_free, next_size, port_free, sector_size, sought_free, step_dma, step_free}
use Rattle.laws_chip.proofs.Marks.{mark_then, then_bad, then_busy}
use Rattle.laws_chip.proofs.Started.{Begun, answered_idle, begun_busy, begun_carries, seek_answered, size_is, told_carries}
use Rattle.laws_chip.proofs.Courses.{accounts_on, bytes_more, bytes_next, goes_would, met_then, moved_more, none_more, not_over, one_passed, one_told, other_more, over_told, part_moved, sector_more, sector_opcode, would_uncounted, given_starts, no_command, no_transfer, ready_idle, served_on}

-- ---- what stays

pub none_told : (counted : Bool) → counted ≡ (counted || false)
none_told true = refl
none_told false = refl

-- the whole front stays
pub same_front : (first : Transfer) (history : History) (old new : Front) → new ≡ old → Serves first history old → GoesOn [] false first history history new
same_front first history old new is serves = (none_more first.opcode.operation history, none_told history.counted, subst (Serves first history) (sym is) serves)

-- the stage stays
pub same_stage : (first : Transfer) (history : History) (stage : FrontStage) (new : Front) → new.stage ≡ stage → IsSizeCode first.key.n → AreMoved first.opcode.operation first history.parts
    → ServesAt stage first history new.adapter.controller → GoesOn [] false first history history new
same_stage first history stage new is sized parts now =
    (none_more first.opcode.operation history, none_told history.counted, record { sized = sized; parts = parts; now = subst (λ s. ServesAt s first history new.adapter.controller) (sym is) now })

-- the sector goes on, and these bytes of it passed
pub same_sector : (first : Transfer) (parts : List Part) (past now : Past) (counted told then_counted : Bool) (passed : List ℕ) (moving : MovingSector) (new : Front) → new.stage ≡ Moving moving
    → IsSizeCode first.key.n → AreMoved first.opcode.operation first parts → moving.transfer ≡ sector_after (length parts) first → moving.counted ≡ then_counted → then_counted ≡ (counted || told)
    → bytes_moved first.opcode.operation now ≡ bytes_moved first.opcode.operation past ++ passed
    → Carries first.opcode.operation (has_other first.opcode.operation parts) moving now new.adapter.controller
    → GoesOn passed told first (record { parts = parts; past = past; counted = counted }) (record { parts = parts; past = now; counted = then_counted }) new
same_sector first parts past now counted told then_counted passed moving new is sized were here counts told_is bytes carries = (
  bytes_more first.opcode.operation parts past now counted then_counted passed bytes,
  told_is,
  record { sized = sized; parts = were; now = subst (λ s. ServesAt s first (record { parts = parts; past = now; counted = then_counted }) new.adapter.controller) (sym is) (here, counts, carries) },
)

-- ---- a sector begins

-- either the front serves this sector after the ones that are over, or the sector is refused
pub begins_serve : (first : Transfer) (parts : List Part) (at : Transfer) (counted passed_over : Bool) (old new : Front) → AreMoved first.opcode.operation first parts → at ≡ sector_after (length parts) first
    → passed_over ≡ has_other first.opcode.operation parts → BeginsSector at counted passed_over old new → Serves first (record { parts = parts; past = told_in counted new_past; counted = counted }) new ⊎ IsRefused new
begins_serve first parts at counted passed_over old new were here met begins = by_busy (is_executing begins.between.controller.phase) refl begins.begun
  where
    by_busy : (b : Bool) → is_executing begins.between.controller.phase ≡ b → new ≡ begun_if b at counted passed_over begins.between old → Serves first (record { parts = parts; past = told_in counted new_past; counted = counted }) new ⊎ IsRefused new
    by_busy true busy is =
        let begun = begun_busy at (lines_at old.adapter) old.adapter.controller begins.between.controller begins.takes.takes busy in
        let same = ap (λ opcode. opcode.operation) (ap (λ a. a.opcode) here ∙ sector_opcode (length parts) first) in
        let carries = begun_carries first.opcode.operation passed_over at counted begins.between (subst (λ operation. Begun operation (sent_of at) begins.between.controller) same begun) in
        let known = subst (λ b. Carries first.opcode.operation b (moving_of at counted passed_over) (told_in counted new_past) (told_if counted begins.between).controller) met carries in
        inl (record {
          sized = subst IsSizeCode (ap (λ a. a.key.n) here ∙ sector_size (length parts) first) begun.sized;
          parts = were;
          now = subst (λ front. ServesAt front.stage first (record { parts = parts; past = told_in counted new_past; counted = counted }) front.adapter.controller) (sym is) (here, refl, known);
        })
    by_busy false idle is = inr (record {
      through = ap (λ front. front.stage) is;
      answer_is = ap (λ front. front.adapter.controller.phase) is ∙ answered_idle at (lines_at old.adapter) old.adapter.controller begins.between.controller begins.takes.takes idle;
    })

-- the sector isn't refused where the controller executes its command
not_refused : {A : Type 0} (at : Transfer) (counted passed_over : Bool) (old new : Front) (begins : BeginsSector at counted passed_over old new) → is_executing begins.between.controller.phase ≡ true → IsRefused new → A
not_refused at counted passed_over old new begins busy refused =
    let moves : new.stage ≡ Moving (moving_of at counted passed_over) = ap (λ front. front.stage) begins.begun ∙ ap (λ b. (begun_if b at counted passed_over begins.between old).stage) busy in
    absurd (cc (moves, refused.through))

-- ---- ---- a sector ends

-- what is known of the controller as it gives its results
read_means : (past : Past) (sent : Sent) (fdc : Fdc) (ending : Ending) → IsSizeCode sent.key.n → MayMove (Read false false) past sent fdc → ending_told fdc ≡ Some ending → Means (Read false false) past sent ending
read_means past sent fdc ending sized was is = by_phase fdc.phase is (read_tells past sent fdc sized was)
  where
    by_phase : (phase : Phase) → ending_of_phase phase ≡ Some ending → ReadMeansIn past sent phase → Means (Read false false) past sent ending
    by_phase (Result (Long other results read)) is tells = let same : other ≡ ending = cc is in subst (ReadMeans past sent) same tells.1
    by_phase _ is tells = absurd (cc is)

write_means : (deleted : Bool) (past : Past) (sent : Sent) (fdc : Fdc) (ending : Ending) → MayMove (Write deleted) past sent fdc → ending_told fdc ≡ Some ending → Means (Write deleted) past sent ending
write_means deleted past sent fdc ending was is = by_phase fdc.phase is (write_tells past sent deleted fdc was)
  where
    by_phase : (phase : Phase) → ending_of_phase phase ≡ Some ending → WriteMeansIn past sent deleted phase → Means (Write deleted) past sent ending
    by_phase (Result (Long other results read)) is tells =
        let same : other ≡ ending = cc is in
        subst (λ e. WriteMeans past sent deleted e (results_sent e sent)) same (subst (WriteMeans past sent deleted other) tells.results_are tells)
    by_phase _ is tells = absurd (cc is)

pub ended_means : (operation : Operation) (past : Past) (sent : Sent) (fdc : Fdc) (ending : Ending) → IsSizeCode sent.key.n → MayMove operation past sent fdc → ending_told fdc ≡ Some ending
    → Means operation past sent ending
ended_means (Read wanted skip) past sent fdc ending sized was is = read_means past sent fdc ending sized was is
ended_means (Write deleted) past sent fdc ending sized was is = write_means deleted past sent fdc ending was is

-- whatever passed is of the sector
pub of_sector : (operation : Operation) (past : Past) (sent : Sent) (fdc : Fdc) → MayMove operation past sent fdc → IsOfSector operation past sent
of_sector (Read wanted skip) past sent fdc was = by_phase fdc.phase (read_gives past sent fdc was)
  where
    by_phase : (phase : Phase) → AreOfField past sent.key (bytes_held phase past fdc.fifo.bytes) → AreOfField past sent.key past.given
    by_phase Taking gives = gives
    by_phase (Result ended) gives = gives
    by_phase (Execute execution) (told, of_field, rest) = (told, of_field, starts_given past.given fdc.fifo.bytes told rest)
of_sector (Write deleted) past sent fdc was = writes_window past sent deleted fdc was

-- as long as there are no results, the command is in execution
pub still_busy : (operation : Operation) (past : Past) (sent : Sent) (fdc : Fdc) → MayMove operation past sent fdc → ending_told fdc ≡ None → is_executing fdc.phase ≡ true
still_busy (Read wanted skip) past sent fdc was none = by_phase fdc.phase was none
  where
    by_phase : (phase : Phase) → MayReadIn past sent phase fdc.asking fdc.fifo.bytes → ending_of_phase phase ≡ None → is_executing phase ≡ true
    by_phase (Execute execution) was none = refl
    by_phase (Result (Long ending results read)) was none = absurd (cc none)
    by_phase _ was none = absurd was
still_busy (Write deleted) past sent fdc was none = by_phase fdc.phase was none
  where
    by_phase : (phase : Phase) → MayWriteIn past sent deleted phase fdc.asking fdc.fifo → ending_of_phase phase ≡ None → is_executing phase ≡ true
    by_phase (Execute execution) was none = refl
    by_phase (Result (Long ending results read)) was none = absurd (cc none)
    by_phase _ was none = absurd was

-- ---- a device step while a sector is moved

-- a failure leaves the mark as it was
ends_then : (moving : MovingSector) (was : Option Bool) (phase : Phase) (ending : Ending) (old new : Front) → ending_of_phase phase ≡ Some ending
    → EndsSector was moving (judged moving ending) old new → EndsSector (mark_then was phase) moving (judged moving ending) old new
ends_then moving was phase BadCheck old new is ends = subst (λ mark. EndsSector mark moving (judged moving BadCheck) old new) (sym (then_bad was phase is)) ends
ends_then moving was phase ending old new is ends = ends

module _ (first : Transfer) (parts : List Part) (past : Past) (counted : Bool) (moving : MovingSector) (sized : IsSizeCode first.key.n) (were : AreMoved first.opcode.operation first parts) (here : moving.transfer ≡ sector_after (length parts) first) (counts : moving.counted ≡ counted) where
  abbrev operation : Operation
  operation = first.opcode.operation

  abbrev so_far : History
  so_far = record { parts = parts; past = past; counted = counted }

  -- whether a field of the other mark was met before
  abbrev met : Bool
  met = has_other operation parts

  same_operation : moving.transfer.opcode.operation ≡ operation
  same_operation = ap (λ opcode. opcode.operation) (ap (λ a. a.opcode) here ∙ sector_opcode (length parts) first)

  -- the results are given
  tells_on : (now : Past) (mark : Option Bool) (ending : Ending) (new : Front) → bytes_moved operation now ≡ bytes_moved operation past → Accounts operation met moving now mark
      → IsOfSector operation now (sent_of moving.transfer) → MeansJudged ending moving.skipped operation now (sent_of moving.transfer) mark → IsLastOne moving ending → IsMarkOf ending mark
      → new.stage ≡ Telling (results_ended mark moving ending) → GoesOn [] false first so_far (record so_far { past = now }) new
  tells_on now mark ending new bytes accounts of_sector means last marked is = (
    bytes_more operation parts past now counted counted [] (bytes ∙ sym (append-nil (bytes_moved operation past))),
    none_told counted,
    record {
      sized = sized;
      parts = were;
      now = subst (λ s. ServesAt s first (record { parts = parts; past = now; counted = counted }) new.adapter.controller) (sym is) (record {
        moving = moving;
        here = here;
        counted = counts;
        ending = ending;
        mark = mark;
        means = subst (λ at. MeansJudged ending moving.skipped operation now (sent_of at) mark) here means;
        last = last;
        marked = marked;
        accounts = accounts;
        of_sector = subst (λ at. IsOfSector operation now (sent_of at)) here of_sector;
        results_are = refl;
      });
    },
  )

  ends_if : (b : Bool) (now : Past) (mark : Option Bool) (marked : Bool) (old new : Front) → goes_on moving marked ≡ b → IsFree old.adapter.controller → bytes_moved operation now ≡ bytes_moved operation past
      → Accounts operation met moving now mark → IsOfSector operation now (sent_of moving.transfer) → IsFieldDone moving.skipped operation now (sent_of moving.transfer) marked → mark ≡ Some marked
      → EndsIf b moving marked old new
      → GoesOn [] false first so_far (history_ended b moving.transfer marked now so_far) new
  ends_if true now mark marked old new goes free bytes accounts of_sector done mark_is ends =
      let part : Part = record { at = moving.transfer; past = now; marked = marked } in
      let would = goes_would moving marked goes in
      let more = moved_more operation first parts part were here (part_moved operation met moving now mark marked same_operation would mark_is accounts done) in
      let behind = ap next_of here ∙ sym (sector_more first parts part) in
      let other = met_then operation met moving now mark marked same_operation mark_is accounts ∙ sym (other_more operation parts part) in
      let uncounted = sym (would_uncounted moving marked would) ∙ (counts ∙ none_told counted) in
      let fits = subst IsSizeCode (sym (next_size moving.transfer)) accounts.sized in
      let busy = free_executes (next_of moving.transfer) (lines_at old.adapter) old.adapter.controller ends.between.controller fits free ends.takes.takes in
      elim (begins_serve first (parts ++ part ∷ []) (next_of moving.transfer) false (has_met_other moving marked) old new more behind other ends) [
        | inl serves ↦ (bytes_next operation parts part past counted false bytes, uncounted, serves)
        | inr refused ↦ not_refused (next_of moving.transfer) false (has_met_other moving marked) old new ends busy refused
      ]
  ends_if false now mark marked old new goes free bytes accounts of_sector done mark_is ends =
      tells_on now mark (Done marked) new bytes accounts of_sector done goes mark_is (ap (λ front. front.stage) ends)

  ends_on : (ending : Ending) (now : Past) (mark : Option Bool) (old new : Front) → IsFree old.adapter.controller → bytes_moved operation now ≡ bytes_moved operation past → Accounts operation met moving now mark
      → IsOfSector operation now (sent_of moving.transfer) → MeansJudged ending moving.skipped operation now (sent_of moving.transfer) mark → IsMarkOf ending mark → EndsSector mark moving ending old new
      → GoesOn [] false first so_far (history_moved (Some ending) moving mark now so_far) new
  ends_on (Done marked) now mark old new free bytes accounts of_sector means mark_is ends = ends_if (goes_on moving marked) now mark marked old new refl free bytes accounts of_sector means mark_is ends
  ends_on ending now mark old new free bytes accounts of_sector means mark_is ends = tells_on now mark ending new bytes accounts of_sector means tt tt (ap (λ front. front.stage) ends)

  -- ---- a field of the other mark is passed over

  unwanted_is : (mark : Option Bool) → is_unwanted moving mark ≡ true → (is_skipping operation ≡ true) × IsOfOther operation mark × (moving.left ≡ size_of moving.transfer.key.n)
  unwanted_is None is = absurd (false≢true is)
  unwanted_is (Some marked) is =
      let (skips, rest) = and_parts (is_skipping moving.transfer.opcode.operation) (is_other moving.transfer.opcode.operation marked && (moving.left == size_of moving.transfer.key.n)) is in
      let (other, full) = and_parts (is_other moving.transfer.opcode.operation marked) (moving.left == size_of moving.transfer.key.n) rest in (
        sym (ap is_skipping same_operation) ∙ skips,
        (marked, refl, sym (ap (λ o. is_other o marked) same_operation) ∙ other),
        eqb-true moving.left (size_of moving.transfer.key.n) full,
      )

  unwanted_at : (mark : Option Bool) → is_skipping operation ≡ true → IsOfOther operation mark → moving.left ≡ size_of moving.transfer.key.n → is_unwanted moving mark ≡ true
  unwanted_at mark skips (marked, is, other) full =
      ap (is_unwanted moving) is
      ∙ and_from (is_skipping moving.transfer.opcode.operation) (is_other moving.transfer.opcode.operation marked && (moving.left == size_of moving.transfer.key.n)) (ap is_skipping same_operation ∙ skips)
      (and_from (is_other moving.transfer.opcode.operation marked) (moving.left == size_of moving.transfer.key.n) (ap (λ o. is_other o marked) same_operation ∙ other)
      (eq-eqb moving.left (size_of moving.transfer.key.n) full))

  -- where no field is to be passed over, no byte of a field of the other mark will pass
  wanted_passes : (now : Past) (mark : Option Bool) → is_unwanted moving mark ≡ false → Accounts operation met moving now mark → is_skipping operation ≡ true → IsOfOther operation mark → moving.left ≡ 0
  wanted_passes now mark wanted accounts skips other = by_left accounts.bytes
    where
      by_left : AreLeft operation met moving mark (bytes_moved operation now) → moving.left ≡ 0
      by_left (inr (skipped, passed, skipping, unwanted, none, empty)) = none
      by_left (inl (own, passed, all)) =
          let empty = ap length (accounts.clean skips other) in
          let same = size_is moving.transfer.key.n accounts.sized in
          let full : moving.left ≡ content_size moving.transfer.key.n = omega arith in
          clash (is_unwanted moving mark) wanted (unwanted_at mark skips other (full ∙ sym same))

  passes_over : (b : Bool) (now : Past) (old new : Front) → old.stage ≡ Moving moving → is_unwanted moving (mark_of old.adapter.controller) ≡ b → bytes_moved operation now ≡ bytes_moved operation past
      → MayMove operation now (sent_of moving.transfer) old.adapter.controller → is_executing old.adapter.controller.phase ≡ true → IsFree old.adapter.controller → Accounts operation met moving now (mark_of old.adapter.controller)
      → new ≡ passed_over_if b moving old → GoesOn [] false first so_far (record so_far { past = told_in b now }) new
  passes_over false now old new stage_is wanted bytes moves busy free accounts is =
      same_sector first parts past now counted false counted [] moving new (ap (λ front. front.stage) is ∙ stage_is) sized were here counts (none_told counted) (bytes ∙ sym (append-nil (bytes_moved operation past)))
      (subst (λ front. Carries operation met moving now front.adapter.controller) (sym is)
      (record { moves = moves; busy = busy; free = free; accounts = accounts; passes = wanted_passes now (mark_of old.adapter.controller) wanted accounts }))
  passes_over true now old new stage_is unwanted bytes moves busy free accounts is =
      let (skips, other, full) = unwanted_is (mark_of old.adapter.controller) unwanted in
      let empty = accounts.clean skips other in
      let over : MovingSector = record moving { left = 0; passed_over = true; skipped = true } in
      same_sector first parts past (told_in true now) counted false counted [] over new (ap (λ front. front.stage) is) sized were here counts (none_told counted)
      (bytes_told operation true now ∙ (bytes ∙ sym (append-nil (bytes_moved operation past))))
      (subst (λ front. Carries operation met over (told_in true now) front.adapter.controller) (sym is)
      (told_carries operation met over now old.adapter.controller moves busy free (record {
        sized = accounts.sized;
        bytes = inr (refl, refl, skips, other, refl, bytes_told operation true now ∙ empty);
        clean = λ skipping unwanted. bytes_told operation true now ∙ empty;
        told = over_told moving.counted;
      }) (λ skipping unwanted. refl)))

  -- ---- the end of a device step

  any_mark : (ending : Ending) (mark other : Option Bool) (now : Past) → history_moved (Some ending) moving mark now so_far ≡ history_moved (Some ending) moving other now so_far
  any_mark (Done marked) mark other now = refl
  any_mark ending mark other now = refl

  moves_on : (ending : Option Ending) (now : Past) (was : Option Bool) (old new : Front) → old.stage ≡ Moving moving → ending_told old.adapter.controller ≡ ending → IsFree old.adapter.controller
      → bytes_moved operation now ≡ bytes_moved operation past → Accounts operation met moving now (mark_then was old.adapter.controller.phase)
      → MayMove operation now (sent_of moving.transfer) old.adapter.controller → (is_skipping operation ≡ true → IsOfOther operation was → moving.left ≡ 0)
      → BadGoes operation now moving.transfer.key was old.adapter.controller → MovesOn was (judged_if moving ending) moving old new
      → GoesOn [] false first so_far (history_moved (judged_if moving ending) moving (mark_of old.adapter.controller) now so_far) new
  moves_on None now was old new stage_is none free bytes accounts moves passes bad does =
      let busy = still_busy operation now (sent_of moving.transfer) old.adapter.controller moves none in
      passes_over (is_unwanted moving (mark_of old.adapter.controller)) now old new stage_is refl bytes moves busy free
      (subst (Accounts operation met moving now) (then_busy was old.adapter.controller.phase busy) accounts) does
  moves_on (Some ending) now was old new stage_is some free bytes accounts moves passes bad does =
      let fdc = old.adapter.controller in
      let sent = sent_of moving.transfer in
      let (means, marked) = judges operation met moving now was fdc same_operation accounts passes bad ending some (ended_means operation now sent fdc ending accounts.sized moves some) in
      subst (λ h. GoesOn [] false first so_far h new) (any_mark (judged moving ending) (mark_then was fdc.phase) (mark_of fdc) now)
      (ends_on (judged moving ending) now (mark_then was fdc.phase) (record old { adapter = with_controller (given_up fdc) old.adapter }) new (given_free fdc free) bytes accounts
      (of_sector operation now sent fdc moves) means marked (ends_then moving was fdc.phase ending (record old { adapter = with_controller (given_up fdc) old.adapter }) new some does))

  -- whatever is known of the word time, this follows from it
  pub known_moves : (old : Front) (between : AdapterState) (new : Front) (Is : WordTime → Type 0) → old.stage ≡ Moving moving → Carries operation met moving past old.adapter.controller → StepsAdapter old.adapter between
      → (known : KnownOn operation past (sent_of moving.transfer) (mark_of old.adapter.controller) Is between.controller) → MovesOn (mark_of old.adapter.controller) (judged_if moving (ending_told between.controller)) moving (record old { adapter = between }) new
      → GoesOn [] false first so_far (history_moved (judged_if moving (ending_told between.controller)) moving (mark_of between.controller) (after_time known.time past) so_far) new
  known_moves old between new Is stage_is carries steps known does =
      let was = mark_of old.adapter.controller in
      let now = after_time known.time past in
      let free = step_free operation past (sent_of moving.transfer) old.adapter between steps carries.busy carries.moves carries.free in
      moves_on (ending_told between.controller) now was (record old { adapter = between }) new stage_is refl free known.bytes
      (accounts_on operation met moving past now was (mark_then was between.controller.phase) known.marks known.bytes known.counted carries.accounts) known.moves carries.passes known.bad does

  step_moves : (old : Front) (between : AdapterState) (new : Front) → old.stage ≡ Moving moving → Carries operation met moving past old.adapter.controller → StepsAdapter old.adapter between
      → MovesOn (mark_of old.adapter.controller) (judged_if moving (ending_told between.controller)) moving (record old { adapter = between }) new → StepsTo first so_far old between new
  step_moves old between new stage_is carries steps does =
      let known = steps_on operation past (sent_of moving.transfer) old.adapter between steps carries.busy carries.moves in
      record {
        time = known.time;
        passes = subst (λ stage. Passes stage known.time old.adapter between) (sym stage_is) (subst (λ o. IsTimeOf o known.time) (sym same_operation) known.is.0, known.is.1);
        goes = subst (λ stage. GoesOn [] false first so_far (history_stepped stage known.time between.controller so_far) new) (sym stage_is)
            (known_moves old between new (λ time. IsTimeOf operation time × PassesAt (selected_at old.adapter) (head_of moving.transfer.head_drive) time old.adapter between) stage_is carries steps known does);
      }

  -- ---- bytes

  -- a byte passed. After the last byte of a sector the controller is given the terminal count
  passes_one : (byte : ℕ) (now : Past) (fdc : Fdc) (old new : Front) → nat_lt 0 moving.left ≡ true → MovedOn operation past (sent_of moving.transfer) byte now fdc → is_executing fdc.phase ≡ true → IsFree fdc
      → Accounts operation met moving past (mark_of fdc) → (is_skipping operation ≡ true → IsOfOther operation (mark_of fdc) → moving.left ≡ 0) → new ≡ passed_one moving fdc old
      → GoesOn (byte ∷ []) false first so_far (history_passed moving now so_far) new
  passes_one byte now fdc old new some moved busy free accounts passes is = by_last (moving.left - 1 == 0) refl
    where
      after : (b : Bool) → (moving.left - 1 == 0) ≡ b → Accounts operation met (record moving { left = moving.left - 1 }) (told_in b now) (mark_of fdc)
      after b last = record {
        sized = accounts.sized;
        bytes = subst (AreLeft operation met (record moving { left = moving.left - 1 }) (mark_of fdc)) (sym (bytes_told operation b now ∙ moved.bytes))
            (one_passed operation met moving (mark_of fdc) (bytes_moved operation past) byte some accounts.bytes);
        clean = λ skips other. not_over moving.left some (passes skips other);
        told = one_told moving.counted moving.left past now some moved.counted accounts.told b last;
      }

      by_count : (b : Bool) → (moving.left - 1 == 0) ≡ b → Carries operation met (record moving { left = moving.left - 1 }) (told_in b now) (if b then told_count fdc else fdc)
      by_count true last =
          told_carries operation met (record moving { left = moving.left - 1 }) now fdc moved.moves busy free (after true last) (λ skips other. not_over moving.left some (passes skips other))
      by_count false last =
          record { moves = moved.moves; busy = busy; free = free; accounts = after false last; passes = λ skips other. not_over moving.left some (passes skips other) }

      by_last : (b : Bool) → (moving.left - 1 == 0) ≡ b → GoesOn (byte ∷ []) false first so_far (record so_far { past = told_in (moving.left - 1 == 0) now }) new
      by_last b last = subst (λ c. GoesOn (byte ∷ []) false first so_far (record so_far { past = told_in c now }) new) (sym last) (same_sector first parts past (told_in b now) counted false counted (byte ∷ []) (record moving { left = moving.left - 1 }) new (ap (λ front. front.stage) is) sized were here
          counts (none_told counted)
          (bytes_told operation b now ∙ moved.bytes)
          (subst (λ front. Carries operation met (record moving { left = moving.left - 1 }) (told_in b now) front.adapter.controller) (sym is)
          (subst (λ c. Carries operation met (record moving { left = moving.left - 1 }) (told_in b now) (if c then told_count fdc else fdc)) (sym last) (by_count b last))))

  takes_one : (byte : Option ℕ) (old new : Front) → Serves first so_far old → Carries operation met moving past old.adapter.controller → TakesMoving moving old byte new
      → GoesOn (passed_out byte) false first so_far (history_taken (Moving moving) byte so_far) new
  takes_one None old new serves carries (quiet, is) = same_front first so_far old new is serves
  takes_one (Some byte) old new serves carries (up, byte_is, is) =
      let fdc = old.adapter.controller in
      let (some, asked) = and_parts (nat_lt 0 moving.left) (asks fdc && to_memory_of fdc) up in
      subst (λ b. GoesOn (b ∷ []) false first so_far (history_passed moving (gave b past) so_far) new) (sym byte_is)
      (passes_one (byte_out fdc) (gave (byte_out fdc) past) (taken_out fdc) old new some (out_on operation past (sent_of moving.transfer) fdc asked carries.moves) carries.busy
      (record { rests = carries.free.rests; by_dma = carries.free.by_dma }) carries.accounts carries.passes is)

  gives_one : (byte : ℕ) (was : Bool) (old new : Front) → Serves first so_far old → Carries operation met moving past old.adapter.controller → GivesMoving moving byte old was new
      → GoesOn (passed_in was byte) false first so_far (history_given (Moving moving) byte was so_far) new
  gives_one byte false old new serves carries (quiet, is) = same_front first so_far old new is serves
  gives_one byte true old new serves carries (up, is) =
      let fdc = old.adapter.controller in
      let (some, asked) = and_parts (nat_lt 0 moving.left) (asks fdc && not (to_memory_of fdc)) up in
      passes_one byte (took byte past) (taken_in byte fdc) old new some (in_on operation past (sent_of moving.transfer) byte fdc carries.busy asked carries.moves) carries.busy
      (record { rests = carries.free.rests; by_dma = carries.free.by_dma }) carries.accounts carries.passes is

  -- ---- the terminal count

  counts_one : (old new : Front) → Carries operation met moving past old.adapter.controller → new ≡ record old { adapter = told_if true old.adapter; stage = Moving (record moving { counted = true }) }
      → GoesOn [] true first so_far (history_counted (Moving moving) so_far) new
  counts_one old new carries is =
      let told : MovingSector = record moving { counted = true } in
      let accounts = carries.accounts in
      same_sector first parts past (told_in true past) counted true true [] told new (ap (λ front. front.stage) is) sized were here refl (over_told counted) (bytes_told operation true past ∙ sym (append-nil (bytes_moved operation past)))
      (subst (λ front. Carries operation met told (told_in true past) front.adapter.controller) (sym is)
      (told_carries operation met told past old.adapter.controller carries.moves carries.busy carries.free (record {
        sized = accounts.sized;
        bytes = subst (AreLeft operation met told (mark_of old.adapter.controller)) (sym (bytes_told operation true past)) accounts.bytes;
        clean = λ skips other. bytes_told operation true past ∙ accounts.clean skips other;
        told = refl;
      }) carries.passes))

  -- ---- a write of another port

  writes_one : (old new : Front) (port value : ℕ) → old.stage ≡ Moving moving → Carries operation met moving past old.adapter.controller → (port == 0x3F5) ≡ false → resets port value ≡ false
      → WritesAdapter port value old.adapter new.adapter → new.stage ≡ old.stage → GoesOn [] false first so_far so_far new
  writes_one old new port value stage_is carries no_byte no_reset writes same =
      let mark = port_mark port value (lines_at old.adapter) old.adapter.controller new.adapter.controller writes.writes no_byte no_reset in
      same_sector first parts past past counted false counted [] moving new (same ∙ stage_is) sized were here counts (none_told counted) (sym (append-nil (bytes_moved operation past))) (record {
        moves = port_on operation past (sent_of moving.transfer) port value (lines_at old.adapter) old.adapter.controller new.adapter.controller writes.writes no_byte no_reset carries.moves;
        busy = port_busy port value (lines_at old.adapter) old.adapter.controller new.adapter.controller writes.writes no_byte no_reset carries.busy;
        free = port_free port value (lines_at old.adapter) old.adapter.controller new.adapter.controller writes.writes no_byte no_reset carries.free;
        accounts = subst (Accounts operation met moving past) (sym mark) carries.accounts;
        passes = λ skips other. carries.passes skips (subst (IsOfOther operation) mark other);
      })

-- ---- a device step

-- the heads have come to the command's cylinder, or not
seeks_on : (b : Bool) (first : Transfer) (history : History) (at : Transfer) (counted : Bool) (old new : Front) → has_ended_seek old.adapter.controller.seeks ≡ b → old.stage ≡ Seeking at counted → IsSizeCode first.key.n
    → at ≡ first → history ≡ nothing_moved counted → SeeksOn b at counted old new → GoesOn [] false first history (history_sought b counted history) new ⊎ ((old.adapter.controller.non_dma ≡ true) × IsRefused new)
seeks_on true first history at counted old new ended stage_is sized here none does =
    let fdc = old.adapter.controller in
    let sought : Front = record old { adapter = with_controller (without_seek fdc) old.adapter } in
    elim (begins_serve first [] at counted false sought new tt here refl does) [
      | inl serves ↦ inl (subst (λ h. GoesOn [] false first h (history_sought true counted h) new) (sym none)
          (bytes_told first.opcode.operation counted new_past ∙ none_more first.opcode.operation (nothing_moved counted), none_told counted, serves))
      | inr refused ↦
          let fits = subst (λ transfer. IsSizeCode transfer.key.n) (sym here) sized in
          let set : old.adapter.controller.non_dma ≡ true = either_way fdc.non_dma (λ is. is) (λ clear.
          not_refused at counted false sought new does (free_executes at (lines_at sought.adapter) (without_seek fdc) does.between.controller fits (sought_free fdc ended clear) does.takes.takes) refused) in
          inr (set, refused)
    ]
seeks_on false first history at counted old new ended stage_is sized here none does =
    inl (same_stage first history (Seeking at counted) new (ap (λ front. front.stage) does ∙ stage_is) sized (subst (λ h. AreMoved first.opcode.operation first h.parts) (sym none) tt) (here, none))

step_at : (stage : FrontStage) (first : Transfer) (history : History) (old : Front) (between : AdapterState) (new : Front) → old.stage ≡ stage → IsSizeCode first.key.n → AreMoved first.opcode.operation first history.parts
    → ServesAt stage first history old.adapter.controller → StepsAdapter old.adapter between → FollowsStep (mark_of old.adapter.controller) stage (record old { adapter = between }) new
    → StepsTo first history old between new ⊎ RefusesFirst old new
step_at Through first history old between new stage_is sized parts now steps follows = absurd now
step_at (Seeking at counted) first history old between new stage_is sized parts (here, none) steps follows =
    elim (seeks_on (has_ended_seek between.controller.seeks) first history at counted (record old { adapter = between }) new refl stage_is sized here none follows) [
      | inl goes ↦ inl (record {
        time = Stopped;
        passes = subst (λ stage. Passes stage Stopped old.adapter between) (sym stage_is) tt;
        goes = subst (λ stage. GoesOn [] false first history (history_stepped stage Stopped between.controller history) new) (sym stage_is) goes;
      })
      | inr (set, refused) ↦ inr (record { seeks = ap still_seeks stage_is; non_dma = sym (step_dma old.adapter between steps) ∙ set; refused = refused })
    ]
step_at (Moving moving) first history old between new stage_is sized parts (here, counts, carries) steps follows =
    inl (step_moves first history.parts history.past history.counted moving sized parts here counts old between new stage_is carries steps follows)
step_at (Telling results) first history old between new stage_is sized parts now steps follows =
    inl (record {
      time = Stopped;
      passes = subst (λ stage. Passes stage Stopped old.adapter between) (sym stage_is) tt;
      goes = subst (λ stage. GoesOn [] false first history (history_stepped stage Stopped between.controller history) new) (sym stage_is)
          (same_stage first history (Telling results) new (ap (λ front. front.stage) follows ∙ stage_is) sized parts now);
    })

pub steps_serve : (old new : Front) (step : StepsFront old new) → ServesStep old new step
steps_serve old new step first history serves = step_at old.stage first history old step.between new refl serves.sized serves.parts serves.now step.steps step.follows

-- ---- the channel

take_at : (stage : FrontStage) (byte : Option ℕ) (first : Transfer) (history : History) (old new : Front) → ServesAt stage first history old.adapter.controller → Serves first history old → TakesAt stage old byte new
    → GoesOn (passed_out byte) false first history (history_taken stage byte history) new
take_at Through byte first history old new now serves takes = absurd now
take_at (Moving moving) byte first history old new (here, counts, carries) serves takes = takes_one first history.parts history.past history.counted moving serves.sized serves.parts here counts byte old new serves carries takes
take_at stage byte first history old new now serves (none, is) = subst (λ b. GoesOn (passed_out b) false first history history new) (sym none) (same_front first history old new is serves)

pub takes_serve : (old : Front) (byte : Option ℕ) (new : Front) → TakesFront old byte new → KeepsServing (passed_out byte) (history_taken old.stage byte) old new
takes_serve old byte new takes first history serves = take_at old.stage byte first history old new serves.now serves takes

give_at : (stage : FrontStage) (byte : ℕ) (was : Bool) (first : Transfer) (history : History) (old new : Front) → ServesAt stage first history old.adapter.controller → Serves first history old → GivesAt stage byte old was new
    → GoesOn (passed_in was byte) false first history (history_given stage byte was history) new
give_at Through byte was first history old new now serves gives = absurd now
give_at (Moving moving) byte was first history old new (here, counts, carries) serves gives = gives_one first history.parts history.past history.counted moving serves.sized serves.parts here counts byte was old new serves carries gives
give_at stage byte was first history old new now serves (none, is) = subst (λ w. GoesOn (passed_in w byte) false first history history new) (sym none) (same_front first history old new is serves)

pub gives_serve : (byte : ℕ) (old : Front) (was : Bool) (new : Front) → GivesFront byte old was new → KeepsServing (passed_in was byte) (history_given old.stage byte was) old new
gives_serve byte old was new gives first history serves = give_at old.stage byte was first history old new serves.now serves gives

-- the terminal count comes while the heads seek
seek_counted : (first : Transfer) (history : History) (at : Transfer) (counted : Bool) (new : Front) → IsSizeCode first.key.n → at ≡ first → history ≡ nothing_moved counted → new.stage ≡ Seeking at true → GoesOn [] true first history (record history { counted = true }) new
seek_counted first history at counted new sized here none is = subst (λ h. GoesOn [] true first h (record h { counted = true }) new) (sym none) (
  none_more first.opcode.operation (nothing_moved counted),
  over_told counted,
  record { sized = sized; parts = tt; now = subst (λ s. ServesAt s first (nothing_moved true) new.adapter.controller) (sym is) (here, refl) },
)

count_at : (stage : FrontStage) (first : Transfer) (history : History) (old new : Front) → ServesAt stage first history old.adapter.controller → Serves first history old → new ≡ count_told stage old
    → GoesOn [] (hears_count stage) first history (history_counted stage history) new
count_at Through first history old new now serves is = absurd now
count_at (Seeking at counted) first history old new (here, none) serves is = seek_counted first history at counted new serves.sized here none (ap (λ front. front.stage) is)
count_at (Moving moving) first history old new (here, counts, carries) serves is = counts_one first history.parts history.past history.counted moving serves.sized serves.parts here counts old new carries is
count_at (Telling results) first history old new now serves is = same_front first history old new is serves

pub counts_serve : (old new : Front) → new ≡ told_front old → ServesCounted old new
counts_serve old new is first history serves = count_at old.stage first history old new serves.now serves is

-- ---- other commands, and results

pub commands_serve : (command : Command) (old new : Front) → GivesCommand command old new → KeepsServing [] (λ history. history) old new
commands_serve command old new gives first history serves = same_front first history old new (no_command command old.stage old new (served_on first history old serves) gives) serves

pub transfers_serve : (transfer : Transfer) (old new : Front) → GivesTransfer transfer old new → KeepsServing [] (λ history. history) old new
transfers_serve transfer old new gives first history serves = same_front first history old new (no_transfer transfer old.stage old new (served_on first history old serves) gives) serves

end_at : (stage : FrontStage) (old new : Front) → old.stage ≡ stage → new ≡ taken_at stage old → ServesUnless (has_results stage) old new
end_at Through old new stage_is is = λ first history serves. absurd (served_on first history old serves stage_is)
end_at (Telling results) old new stage_is is = ap (λ front. front.stage) is
end_at _ old new stage_is is = λ first history serves. same_front first history old new is serves

pub ends_serve : (old new : Front) → new ≡ results_taken old → ServesUnless (has_results old.stage) old new
ends_serve old new is = end_at old.stage old new refl is

-- ---- writes of a port

other_port : (stage : FrontStage) (port value : ℕ) (first : Transfer) (history : History) (old new : Front) → old.stage ≡ stage → IsSizeCode first.key.n → AreMoved first.opcode.operation first history.parts
    → ServesAt stage first history old.adapter.controller → (port == 0x3F5) ≡ false → resets port value ≡ false → WritesAdapter port value old.adapter new.adapter → new.stage ≡ old.stage → GoesOn [] false first history history new
other_port Through port value first history old new stage_is sized parts now no_byte no_reset writes same = absurd now
other_port (Seeking at counted) port value first history old new stage_is sized parts now no_byte no_reset writes same = same_stage first history (Seeking at counted) new (same ∙ stage_is) sized parts now
other_port (Moving moving) port value first history old new stage_is sized parts (here, counts, carries) no_byte no_reset writes same =
    writes_one first history.parts history.past history.counted moving sized parts here counts old new port value stage_is carries no_byte no_reset writes same
other_port (Telling results) port value first history old new stage_is sized parts now no_byte no_reset writes same = same_stage first history (Telling results) new (same ∙ stage_is) sized parts now

pub writes_serve : (port value : ℕ) (old new : Front) → WritesFront port value old new → ServesUnless (resets port value) old new
writes_serve port value old new writes = by_port (port == 0x3F5) refl
  where
    by_reset : (b : Bool) → (port == 0x3F5) ≡ false → resets port value ≡ b → WritesAdapter port value old.adapter new.adapter → new ≡ record (reset_if b old) { adapter = new.adapter } → ServesUnless b old new
    by_reset true no_byte reset wrote is = ap (λ front. front.stage) is
    by_reset false no_byte no_reset wrote is = λ first history serves.
        other_port old.stage port value first history old new refl serves.sized serves.parts serves.now no_byte no_reset wrote (ap (λ front. front.stage) is)

    by_port : (b : Bool) → (port == 0x3F5) ≡ b → ServesUnless (resets port value) old new
    by_port true is =
        let here = eqb-true port 0x3F5 is in
        subst (λ b. ServesUnless b old new) (sym (ap (λ p. resets p value) here))
        (λ first history serves. same_front first history old new (writes.bytes here) serves)
    by_port false is = let (wrote, after) = writes.others is in by_reset (resets port value) is refl wrote after

-- ---- how a command begins

starts_serve : (first : Transfer) (old new : Front) → (first.seeks ≡ true → IsSizeCode first.key.n) → is_idle old.adapter.controller ≡ true → Starts first old new → BeginsServing first new
starts_serve first old new sized idle starts = by_seek first.seeks refl starts
  where
    by_idle : (seeks : SeeksFirst first old new) (b : Bool) → is_idle seeks.between.controller ≡ b → IsSizeCode first.key.n → new.stage ≡ (if b then Seeking first false else Through) → BeginsServing first new
    by_idle seeks true still fits is = inl (record { sized = fits; parts = tt; now = subst (λ s. ServesAt s first (nothing_moved false) new.adapter.controller) (sym is) (refl, refl) })
    by_idle seeks false busy fits is = inr (record {
      through = is;
      answer_is = ap (λ front. front.adapter.controller.phase) seeks.begun
          ∙ seek_answered first.head_drive first.key.c (lines_at old.adapter) old.adapter.controller seeks.between.controller seeks.takes.takes idle busy;
    })

    by_seek : (b : Bool) → first.seeks ≡ b → StartsIf b first old new → BeginsServing first new
    by_seek true set seeks = by_idle seeks (is_idle seeks.between.controller) refl (sized set) (ap (λ front. front.stage) seeks.begun)
    by_seek false clear begins = begins_serve first [] first false false old new tt refl refl begins

pub begins_serving : (first : Transfer) (old new : Front) → (first.seeks ≡ true → IsSizeCode first.key.n) → is_ready old ≡ true → GivesTransfer first old new → BeginsServing first new
begins_serving first old new sized ready gives = starts_serve first old new sized (ready_idle old.stage old.adapter.controller ready) (given_starts first old new ready gives)
