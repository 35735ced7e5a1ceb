-- What is served, through calls one after the other.
use Rattle.std.proofs.Common.{◌≡◌, inl, inr, ℕ, zero, suc, ◌&&◌, Bool, true, false, ◌||◌, List, [], ◌∷◌, ◌++◌, replicate, refl, sym, ◌∙◌, ap, subst, append_assoc, ◌⊎◌, ◌+◌, ◌≤◌, not, if◌then◌else◌, Option, Some, length, arith, length-append, None}
use Rattle.laws_chip.proofs.Common.{AreWithin, Behind, Changes, Counts, Gives, Grows, Steps, Takes, is_count, is_counted, passed_in_all, resets, mark_of, Front, KeepsFront, FollowsStep, StepsFront, GoesOn, History, KeepsServing, Serves, ServesAt, ServesUnless, all_bytes, hears_count, history_counted, history_given, history_stepped, history_taken, Operation, Through, Transfer, SectorCallsCall as Call, SectorCallsDoes as Does, SectorCallsWrites as Writes, chip_passed_by as passed_by, false≢true, not-false, Chrn, content_size, Past, new_past, FindsSector, Ending, Done, BadCheck, NoCount, Results, Sent, IsContent, Fdc, goes_on, has_failed_other, has_met_other, is_bad_other, results_behind, results_failed, would_go_on, EndsSo, HasField, IsFailure, IsFieldWith, IsJudged, IsMovedBut, PassedWhole, PassesOfSector, ResultsSay, StopsBehind, TellsOther, Accounts, AreLeft, IsFieldDone, IsLastOne, IsMarkOf, IsMoved, IsOfSector, Means, MeansJudged, Part, bytes_moved, has_other, results_ended, sector_after, sent_of, is_last, is_other, is_skipping, next_of, results_told, Read, Write, MovingSector, FrontStage, Seeking, Moving, Telling, DriveState, Phase, Execute, Result, Works, is_executing, MovesIn, RestsIn, polled, Taking as Command}
use Rattle.fdc_sequencer.specs.Moves.{RunsFrontWith}
use Rattle.laws_chip.proofs.Courses.{none_more, done_written, met_then, nothing_left, or_none, over_counted, part_moved, sector_opcode, skipped_over, would_uncounted, ignored, served_on}
use Rattle.laws_chip.proofs.Served.{counts_serve, gives_serve, none_told, same_front, steps_serve, takes_serve, writes_serve, of_sector}
use Rattle.laws_chip.specs.Serving.{Ends}
use Rattle.laws_chip.proofs.Known.{clash, polled_phase}
use Rattle.fdc_core.specs.Steps.{Moves}

-- ---- media

pub media_serve : (old new : Front) → KeepsFront old new → KeepsServing [] (λ history. history) old new
media_serve old new keeps first history serves = (
  none_more first.opcode.operation history,
  none_told history.counted,
  record {
    sized = serves.sized;
    parts = serves.parts;
    now = subst (λ stage. ServesAt stage first history new.adapter.controller) (sym keeps.stage) (subst (ServesAt old.stage first history) (sym keeps.controller) serves.now);
  },
)

-- ---- runs

-- if each access is the controller's, a device step leaves that so
through_before : (old new : Front) → StepsFront old new → old.stage ≡ Through → new.stage ≡ Through
through_before old new step through =
    let same : new ≡ record old { adapter = step.between } = subst (λ stage. FollowsStep (mark_of old.adapter.controller) stage (record old { adapter = step.between }) new) through step.follows in
    ap (λ front. front.stage) same ∙ through

-- one call more
one_more : (calls : List Call) (call : Call) (old between new : Front) → AreWithin calls old between → Does call between new → (new.stage ≡ Through → ⊥) → AreWithin (calls ++ call ∷ []) old new
one_more [] call old between new same does within = (new, subst (λ front. Does call front new) same does, within, refl)
one_more (first ∷ calls) call old between new (mid, did, stays, rest) does within = (mid, did, stays, one_more calls call mid between new rest does within)

pub both_within : (first second : List Call) (old between new : Front) → AreWithin first old between → AreWithin second between new → AreWithin (first ++ second) old new
both_within [] second old between new same rest = subst (λ front. AreWithin second front new) same rest
both_within (call ∷ first) second old between new (mid, did, stays, more) rest = (mid, did, stays, both_within first second mid between new more rest)

steps_more : (n : ℕ) → replicate n Steps ++ Steps ∷ [] ≡ replicate (suc n) Steps
steps_more zero = refl
steps_more (suc n) = ap (λ calls. Steps ∷ calls) (steps_more n)

-- a run is so many device steps, if after it some accesses still aren't the controller's
pub run_steps : (int drq : Bool) (n : ℕ) (old new : Front) → RunsFrontWith int drq n old new → (new.stage ≡ Through → ⊥) → AreWithin (replicate n Steps) old new
unfolding RunsFrontWith
run_steps int drq zero old new same within = same
run_steps int drq (suc n) old new (between, runs, lines, step) within =
    subst (λ calls. AreWithin calls old new) (steps_more n)
    (one_more (replicate n Steps) Steps old between new (run_steps int drq n old between runs (λ through. within (through_before between new step through))) step within)

-- ---- all calls

then_bytes : (operation : Operation) (start between end : History) (first second : List ℕ) → all_bytes operation between ≡ all_bytes operation start ++ first
    → all_bytes operation end ≡ all_bytes operation between ++ second → all_bytes operation end ≡ all_bytes operation start ++ (first ++ second)
then_bytes operation start between end first second before behind =
    behind ∙ (ap (λ bytes. bytes ++ second) before ∙ append_assoc (all_bytes operation start) first second)

-- what is known after one call
pub record One (first : Transfer) (old : History) (call : Call) (start front : Front) (does : Does call start front) : Type 0 where
  pub history : History
  pub grows : Grows call start front does old history
  pub serves : Serves first history front
  pub bytes : all_bytes first.opcode.operation history ≡ all_bytes first.opcode.operation old ++ passed_by call
  pub told : history.counted ≡ (old.counted || (is_count call && hears_count start.stage))

one_of : (call : Call) (first : Transfer) (old history : History) (told : Bool) (start new : Front) (does : Does call start new) → Grows call start new does old history
    → told ≡ (is_count call && hears_count start.stage) → GoesOn (passed_by call) told first old history new → One first old call start new does
one_of call first old history told start new does grows is (bytes, counts, serves) =
    record { history = history; grows = grows; serves = serves; bytes = bytes; told = counts ∙ ap (λ b. old.counted || b) is }

-- a command goes on being served, unless each access is now the controller's
unless_left : (left : Bool) (first : Transfer) (history : History) (old new : Front) → (new.stage ≡ Through → ⊥) → Serves first history old → ServesUnless left old new → GoesOn [] false first history history new
unless_left true first history old new within serves through = absurd (within through)
unless_left false first history old new within serves keeps = keeps first history serves

pub call_serves : (call : Call) (first : Transfer) (history : History) (old new : Front) (does : Does call old new) → (new.stage ≡ Through → ⊥) → Serves first history old → One first history call old new does
call_serves Steps first history old new does within serves = elim (steps_serve old new does first history serves) [
  | inl on ↦ one_of Steps first history (history_stepped old.stage on.time does.between.controller history) false old new does (on.time, on.passes, refl) refl on.goes
  | inr refuses ↦ absurd (within refuses.refused.through)
]
call_serves (Takes byte) first history old new does within serves =
    one_of (Takes byte) first history (history_taken old.stage byte history) false old new does refl refl (takes_serve old byte new does first history serves)
call_serves (Gives byte was) first history old new does within serves =
    one_of (Gives byte was) first history (history_given old.stage byte was history) false old new does refl refl (gives_serve byte old was new does first history serves)
call_serves Counts first history old new does within serves =
    one_of Counts first history (history_counted old.stage history) (hears_count old.stage) old new does refl refl (counts_serve old new does first history serves)
call_serves (Writes port value) first history old new does within serves =
    one_of (Writes port value) first history history false old new does refl refl (unless_left (resets port value) first history old new within serves (writes_serve port value old new does))
call_serves Changes first history old new does within serves = one_of Changes first history history false old new does refl refl (media_serve old new does first history serves)
call_serves call first history old new does within serves =
    one_of call first history history false old new does refl refl (same_front first history old new (ignored call old new tt does (served_on first history old serves) within) serves)

or_assoc : (a b c : Bool) → ((a || b) || c) ≡ (a || (b || c))
or_assoc true b c = refl
or_assoc false b c = refl

pub calls_serve : (calls : List Call) (first : Transfer) (history : History) (old new : Front) (within : AreWithin calls old new) → Serves first history old → Behind first history calls old new within
calls_serve [] first history old new same serves = record {
  history = history;
  gather = refl;
  serves = subst (Serves first history) (sym same) serves;
  bytes = none_more first.opcode.operation history;
  told = none_told history.counted;
}
calls_serve (call ∷ calls) first history old new (between, does, within, rest) serves =
    let on = call_serves call first history old between does within serves in
    let more = calls_serve calls first on.history between new rest on.serves in
    record {
      history = more.history;
      gather = (on.history, on.grows, more.gather);
      serves = more.serves;
      bytes = then_bytes first.opcode.operation history on.history more.history (passed_by call) (passed_in_all calls) on.bytes more.bytes;
      told = more.told ∙ (ap (λ b. b || is_counted calls between new rest) on.told
          ∙ or_assoc history.counted (is_count call && hears_count old.stage) (is_counted calls between new rest));
    }

-- ---- what the results of a command that is served say

-- ---- ---- EN comes only from the front

full_over : (operation : Operation) (met : Bool) (moving : MovingSector) (mark : Option Bool) (bytes : List ℕ) → content_size moving.transfer.key.n ≤ length bytes → AreLeft operation met moving mark bytes
    → moving.left ≡ 0
full_over operation met moving mark bytes full (inl (own, passed, all)) = omega arith
full_over operation met moving mark bytes full (inr (skipped, passed, skips, other, none, empty)) = none

-- a write that wasn't given the terminal count took at least as many bytes as it wrote
taken_full : (counted : Bool) (taken handed : List ℕ) → counted ≡ false → IsContent counted taken handed → length handed ≤ length taken
taken_full counted taken handed uncounted (inl (rest, is)) =
    let lengths = ap length is in let joined = length-append handed rest in omega arith
taken_full counted taken handed uncounted (inr (over, padded)) = absurd (false≢true (sym uncounted ∙ over))

no_count : (operation : Operation) (met : Bool) (moving : MovingSector) (past : Past) (mark : Option Bool) → Accounts operation met moving past mark → Means operation past (sent_of moving.transfer) NoCount → ⊥
no_count (Read wanted skip) met moving past mark accounts means =
    let size = means.1 in
    let none = full_over (Read wanted skip) met moving mark past.given (omega arith) accounts.bytes in
    false≢true (sym means.0 ∙ over_counted (Read wanted skip) met moving past mark accounts none)
no_count (Write deleted) met moving past mark accounts means =
    let size = means.cause.1.1.size in
    let taken = taken_full past.counted past.taken means.handed means.cause.0 means.content in
    let none = full_over (Write deleted) met moving mark past.taken (omega arith) accounts.bytes in
    false≢true (sym means.cause.0 ∙ over_counted (Write deleted) met moving past mark accounts none)

-- ---- the controller's own command was done

field_with : (operation : Operation) (past : Past) (sent : Sent) (marked : Bool) (missing : ℕ) → Means operation past sent (Done marked) → length (bytes_moved operation past) + missing ≡ content_size sent.key.n
    → IsFieldWith operation past sent.key marked missing
field_with (Read wanted skip) past sent marked missing means all = means
field_with (Write deleted) past sent marked missing means all = done_written deleted past sent marked missing means all

moved_but : (operation : Operation) (met : Bool) (moving : MovingSector) (past : Past) (mark : Option Bool) (marked : Bool) → mark ≡ Some marked → Accounts operation met moving past mark
    → IsFieldDone moving.skipped operation past (sent_of moving.transfer) marked → IsMovedBut operation past moving.transfer.key marked moving.left
moved_but operation met moving past mark marked is accounts done = by_left accounts.bytes
  where
    by_left : AreLeft operation met moving mark (bytes_moved operation past) → IsMovedBut operation past moving.transfer.key marked moving.left
    by_left (inl (own, passed, all)) =
        let at = sent_of moving.transfer in
        let means : Means operation past at (Done marked) = subst (λ b. IsFieldDone b operation past at marked) own done in
        inl (field_with operation past at marked moving.left means all, all)
    by_left (inr (skipped, passed, skips, other, none, empty)) = inr (none, skipped_over operation met moving past mark marked is accounts done skipped skips other none empty)

-- either CM says whether such a field was met before, or this field is passed over
other_told : (operation : Operation) (met : Bool) (moving : MovingSector) (mark : Option Bool) (bytes : List ℕ) → AreLeft operation met moving mark bytes
    → (moving.passed_over ≡ met) ⊎ ((moving.passed_over ≡ true) × (is_skipping operation ≡ true))
other_told operation met moving mark bytes (inl (own, passed, all)) = inl passed
other_told operation met moving mark bytes (inr (skipped, passed, skips, other, none, empty)) = inr (passed, skips)

before_told : (operation : Operation) (met : Bool) (moving : MovingSector) (mark : Option Bool) (bytes : List ℕ) → moving.skipped ≡ false → AreLeft operation met moving mark bytes → moving.passed_over ≡ met
before_told operation met moving mark bytes kept (inl (own, passed, all)) = passed
before_told operation met moving mark bytes kept (inr (skipped, passed, skips, other, none, empty)) = clash moving.skipped kept skipped

unwanted_or : (other skips : Bool) → (not other || skips) ≡ false → (other ≡ true) × (skips ≡ false)
unwanted_or true skips is = (refl, is)
unwanted_or false skips is = absurd (false≢true (sym is))

module _ (operation : Operation) (met told : Bool) (moving : MovingSector) (past : Past) (mark : Option Bool) (results : Results) (same : moving.transfer.opcode.operation ≡ operation) (counts : moving.counted ≡ told) (accounts : Accounts operation met moving past mark) (of_it : IsOfSector operation past (sent_of moving.transfer)) where
  abbrev sector : Transfer
  sector = moving.transfer

  stops : (counted : Bool) (marked : Bool) → moving.counted ≡ counted → would_go_on moving marked ≡ false → IsFieldDone moving.skipped operation past (sent_of sector) marked → StopsBehind operation told marked moving.left
  stops true marked is would done = inl (sym counts ∙ is)
  stops false marked is would done =
      let (other, skips) = unwanted_or (is_other operation marked) (is_skipping operation) (subst (λ o. (not (is_other o marked) || is_skipping o) ≡ false) same
      (sym (ap (λ c. not c && (not (is_other moving.transfer.opcode.operation marked) || is_skipping moving.transfer.opcode.operation)) is) ∙ would)) in
      inr (other, skips, nothing_left operation met moving past mark marked is accounts done)

  done_so : (would : Bool) (marked : Bool) → would_go_on moving marked ≡ would → goes_on moving marked ≡ false → mark ≡ Some marked → IsFieldDone moving.skipped operation past (sent_of sector) marked
      → results ≡ results_behind moving marked → EndsSo operation met told sector past results
  done_so true marked would goes mark_is done are = inr (inl (record {
    marked = marked;
    moved = part_moved operation met moving past mark marked same would mark_is accounts done;
    last = not-false (is_last sector) (sym (ap (λ b. b && not (is_last sector)) would) ∙ goes);
    uncounted = sym counts ∙ would_uncounted moving marked would;
    results_are = are ∙ (ap (λ b. if b then results_told NoCount sector sector.key (has_met_other moving marked) else results_told (Done false) sector (next_of sector).key (has_met_other moving marked)) would
        ∙ ap (results_told NoCount sector sector.key) (met_then operation met moving past mark marked same mark_is accounts));
  }))
  done_so false marked would goes mark_is done are = inl (record {
    marked = marked;
    missing = moving.left;
    moved = moved_but operation met moving past mark marked mark_is accounts done;
    stops = stops moving.counted marked refl would done;
    results_are = are ∙ (ap (λ b. if b then results_told NoCount sector sector.key (has_met_other moving marked) else results_told (Done false) sector (next_of sector).key (has_met_other moving marked)) would
        ∙ ap (results_told (Done false) sector (next_of sector).key) (met_then operation met moving past mark marked same mark_is accounts));
  })

  fails_so : (ending : Ending) → IsFailure ending → Means operation past (sent_of sector) ending → IsJudged ending operation past sector.key mark
      → TellsOther ending operation met mark (has_failed_other mark moving ending) → results ≡ results_failed mark moving ending → EndsSo operation met told sector past results
  fails_so ending fails means judged other are = grind (arith, mark, of_sector)

  tells : ((moving.passed_over || false) ≡ met) ⊎ (((moving.passed_over || false) ≡ true) × (is_skipping operation ≡ true))
  tells = subst (λ b. (b ≡ met) ⊎ ((b ≡ true) × (is_skipping operation ≡ true))) (sym (or_none moving.passed_over))
      (other_told operation met moving mark (bytes_moved operation past) accounts.bytes)

  -- the field whose CRC is wrong isn't passed over, and CM says of it too whether its mark is wanted
  bad_tells : moving.skipped ≡ false → has_failed_other mark moving BadCheck ≡ (met || is_bad_other operation BadCheck mark)
  bad_tells kept = ap (λ b. b || is_bad_other moving.transfer.opcode.operation BadCheck mark) (before_told operation met moving mark (bytes_moved operation past) kept accounts.bytes)
      ∙ ap (λ o. met || is_bad_other o BadCheck mark) same

  ends_so : (ending : Ending) → MeansJudged ending moving.skipped operation past (sent_of sector) mark → IsLastOne moving ending → IsMarkOf ending mark → results ≡ results_ended mark moving ending
      → EndsSo operation met told sector past results
  ends_so (Done marked) means last mark_is are = done_so (would_go_on moving marked) marked refl last mark_is means are
  ends_so BadCheck (kept, means, bad) last mark_is are = fails_so BadCheck tt means bad (bad_tells kept) are
  ends_so NoCount means last mark_is are = absurd (no_count operation met moving past mark accounts means)
  ends_so ending means last mark_is are = fails_so ending tt means tt tells are

ended_so : (operation : Operation) (met told : Bool) (at : Transfer) (past : Past) (results : Results) → at.opcode.operation ≡ operation → Ends operation met told at past results → EndsSo operation met told at past results
ended_so operation met told at past results same ends =
    subst (λ a. EndsSo operation met told a past results) ends.here
    (ends_so operation met told ends.moving past ends.mark results (ap (λ a. a.opcode.operation) ends.here ∙ same) ends.counted ends.accounts
    (subst (λ a. IsOfSector operation past (sent_of a)) (sym ends.here) ends.of_sector) ends.ending
    (subst (λ a. MeansJudged ends.ending ends.moving.skipped operation past (sent_of a) ends.mark) (sym ends.here) ends.means) ends.last ends.marked ends.results_are)

pub results_say : (first : Transfer) (history : History) (front : Front) (results : Results) → Serves first history front → front.stage ≡ Telling results → ResultsSay first history results
results_say first history front results serves is =
    ended_so first.opcode.operation (has_other first.opcode.operation history.parts) history.counted (sector_after (length history.parts) first) history.past results
    (ap (λ opcode. opcode.operation) (sector_opcode (length history.parts) first))
    (subst (λ stage. ServesAt stage first history front.adapter.controller) is serves.now)

-- ---- whatever passed

none_passed : (operation : Operation) (sent : Sent) → IsOfSector operation new_past sent
none_passed (Read wanted skip) sent = ([], inl refl, ([], refl))
none_passed (Write deleted) sent = ([], inl ([], refl), inl refl)

passes_at : (stage : FrontStage) (first : Transfer) (history : History) (fdc : Fdc) → ServesAt stage first history fdc → PassesOfSector first history
passes_at Through first history fdc now = absurd now
passes_at (Seeking at counted) first history fdc (here, none) = subst (PassesOfSector first) (sym none) (none_passed first.opcode.operation (sent_of first))
passes_at (Moving moving) first history fdc (here, counts, carries) =
    subst (λ at. IsOfSector first.opcode.operation history.past (sent_of at)) here (of_sector first.opcode.operation history.past (sent_of moving.transfer) fdc carries.moves)
passes_at (Telling results) first history fdc ends = ends.of_sector

pub passes_of : (first : Transfer) (history : History) (front : Front) → Serves first history front → PassesOfSector first history
passes_of first history front serves = passes_at front.stage first history front.adapter.controller serves.now

-- ---- a sector that is over

-- if as many bytes as the size were given, they are the content
pub has_field : (past : Past) (key : Chrn) (marked : Bool) (given : List ℕ) → FindsSector past key given marked → length given ≡ content_size key.n → HasField past key marked given
has_field past key marked given (counted, (turn, p, q, found)) all =
    record { turn = turn; p = p; q = q; among = found.among; address = found.address; finds = found.finds; content_is = found.content all }

pub passed_whole : (operation : Operation) (part : Part) → IsMoved operation part → PassedWhole operation part
passed_whole (Read wanted skip) part (inl whole) = inl (has_field part.past part.at.key part.marked part.past.given whole.field whole.all)
passed_whole (Read wanted skip) part (inr over) = inr over
passed_whole (Write deleted) part (inl whole) = (whole.all, whole.field)
passed_whole (Write deleted) part (inr over) = absurd (false≢true over.skips)

-- ---- device steps of a controller that executes nothing: no medium changes

-- a word time with its pulse leaves the medium
pub moves_same : (pulse : Option Bool) (before after : DriveState) → Moves pulse before after → after.medium ≡ before.medium
moves_same None before after is = ap (λ s. s.medium) is
moves_same (Some inward) before after (between, pulses, is) =
    ap (λ s. s.medium) is ∙ elim pulses [ inl moved ↦ ap (λ s. s.medium) moved.becomes | inr lost ↦ ap (λ s. s.medium) lost.0.becomes ]

idle_moves : (phase : Phase) (polls : Fdc) (before after : DriveState) → is_executing phase ≡ false → MovesIn phase polls before after → after.medium ≡ before.medium
idle_moves (Execute execution) polls before after idle moves = absurd (false≢true (sym idle))
idle_moves _ polls before after idle moves = moves_same _ before after moves

pub idle_medium : (old new : Fdc) (before after : DriveState) → is_executing old.phase ≡ false → Works old before new after → after.medium ≡ before.medium
idle_medium old new before after idle works = idle_moves old.phase (polled old) before after idle (subst (λ phase. MovesIn phase (polled old) before after) (polled_phase old) works.drive)

-- the controller goes on executing nothing
pub idle_rests : (track0 : Bool) (old new : Fdc) → is_executing old.phase ≡ false → RestsIn (polled old).phase track0 (polled old) new → is_executing new.phase ≡ false
idle_rests track0 old new idle rests = by_phase (polled old).phase refl rests
  where
    by_phase : (phase : Phase) → (polled old).phase ≡ phase → RestsIn phase track0 (polled old) new → is_executing new.phase ≡ false
    by_phase Command is rests = ap (λ fdc. is_executing fdc.phase) rests ∙ ap is_executing is
    by_phase (Result answer) is rests = ap (λ fdc. is_executing fdc.phase) rests ∙ ap is_executing is
    by_phase (Execute execution) is rests = absurd (false≢true (sym idle ∙ (ap is_executing (sym (polled_phase old)) ∙ ap is_executing is)))
