-- In a chip that isn't busy, a seek that has ended has its result in the inner controller: through all calls.
use Rattle.std.proofs.Common.{◌≡◌, inl, inr, ℕ, zero, suc, ◌%◌, ◌<◌, Bool, true, false, not, ◌&&◌, ◌==◌, if◌then◌else◌, nat_le, Option, Some, None, option_map, [], bit_and, refl, sym, ◌∙◌, ap, subst}
use Rattle.laws_chip.proofs.Common.{and_from, and_parts, eqb-true, false≢true, not-true, has_ended_seek, pulses_within, seek_bits, sensed, with_motion, Outward, DriveSeek, Results, recalibrating, given, IsInRange, is_held, is_idle, Fdc, after_result, without_result, Front, GivesCommand, interrupts_outside, is_ready, results_outside, results_taken, with_controller, StepsFront, pending_outside, recalibrated_at, recalibrated_outside, sensed_at, sensed_outside, ChipState, with_front, code_of, AttendsIf, AttendsTo, MovesIf, GivesOn, Obeys, chip_configured, configuring, drained, drained_one, is_moving, moves_heads, moving, needs_heads, relative_target, Ends, EndsAt, EndsAs, MayEnd, is_over, judged, cylinder_of, GoesOnIf, Paces, PulsesIf, is_due, CollectsIf, ComesIf, GivesIf, ReadsAt, ReadsIf, TakesByte, is_whole, may_come, value_behind, with_next, step_words, Follows, FollowsTask, ChipOpcode, PacedSeek, ChipStage, Ready, Held, Busy, ChipTask, Track, Call, Does, WritesByte, is_of_data_port, is_reset, is_step, IsSound, RestsBehind, chip_stepped as stepped, ChipTelling as Telling}
use Rattle.fdc_chip.specs.Doing.{drained_by}
use Rattle.laws_chip.proofs.Attended.{free_stands}
use Rattle.laws_chip.proofs.CommandsBegun.{configured_stands}
use Rattle.laws_chip.proofs.HeadsLeft.{seek_given}
use Rattle.laws_chip.proofs.HeadsTold.{HasResult, TellsEnd, front_nearer, runs_tells, sense_tells, taken_seeks}
use Rattle.laws_chip.proofs.NextStages.{IsAtTask, call_keeps, data_quiet, Comes, ends_come}
use Rattle.laws_chip.proofs.Rests.{IsResting, drained_rests, front_rests, waits_shown, waits_taken}
use Rattle.laws_chip.proofs.SeeksBegun.{none_kept}
use Rattle.laws_chip.proofs.SoundCalls.{byte_stays, code_few, comes_free, front_anew}
use Rattle.laws_chip.proofs.SoundParts.{IsBasis, at_rest, basis_front, basis_same, busy_at, is_busy, sound_basis, tells_shown, tells_taken}
use Rattle.laws_chip.proofs.SoundSteps.{IsAtStep, IsStepped, busy_none, front_stepped, set_basis, stepped_rests, swallows_many}
use Rattle.laws_chip.proofs.UnderWay.{clash, either_way, Stands, given_obeyed, heads_stand, ready_free, stands_idle}
use Rattle.laws_chip.proofs.WholeTransfers.{kept_front, call_idle, no_port}
use Rattle.laws_chip.proofs.WorkEnds.{obeys_busy}
use Rattle.fdc_commands.specs.declared.command.Command.TheVariants as command
use Rattle.fdc_chip.specs.Paces as paces
use Rattle.fdc_chip.specs.declared.code.ChipOpcode.TheVariants as code
use Rattle.fdc_chip.specs.declared.stage.ChipTask.TheVariants as task
use Rattle.laws_chip.specs.Calls as made
use Rattle.laws_chip.proofs.SoundParts as parts
use Rattle.laws_chip.proofs.NextStages as outcome

-- a chip that isn't busy has the result of a seek that has ended
pub record KnowsEnd (chip : ChipState) : Type 0 where
  pub tells : is_busy chip.stage ≡ false → TellsEnd chip.front.adapter.controller.seeks

abbrev Tells : ChipState → Type 0
Tells chip = TellsEnd chip.front.adapter.controller.seeks

knows : (chip : ChipState) → Tells chip → KnowsEnd chip
knows chip tells = record { tells = λ idle. tells }

knows_busy : (chip : ChipState) → is_busy chip.stage ≡ true → KnowsEnd chip
knows_busy chip busy = record { tells = λ idle. clash (is_busy chip.stage) idle busy }

-- the same front, or the same seeks
front_tells : (old new : ChipState) → new.front ≡ old.front → Tells old → Tells new
front_tells old new is tells = subst (λ (front : Front). TellsEnd front.adapter.controller.seeks) (sym is) tells

stands_tell : (front : Front) → Stands front → TellsEnd front.adapter.controller.seeks
stands_tell front stands =
    let seeks = front.adapter.controller.seeks in
    subst (λ (seek : Option DriveSeek). HasResult seek seeks.pending) (sym (none_kept seeks.seek stands.rests)) tt

-- ---- ---- results are taken over

one_tells : (chip : ChipState) → RestsBehind chip.front → Tells chip → Tells (drained_one chip)
one_tells chip rests tells =
    let front = chip.front in
    let fdc = front.adapter.controller in
    let is : (drained_one chip).front ≡ record front { adapter = with_controller (after_result fdc) front.adapter } =
    kept_front (pending_outside front) (with_front (sensed_outside front) chip) ∙ ap (λ stage. sensed_at stage front) rests.through in
    subst (λ (f : Front). TellsEnd f.adapter.controller.seeks) (sym is) (by_idle (is_idle fdc))
  where
    by_idle : (b : Bool) → TellsEnd (if b then without_result (sensed chip.front.adapter.controller.seeks) chip.front.adapter.controller else chip.front.adapter.controller).seeks
    by_idle true = subst TellsEnd (sym (taken_seeks chip.front.adapter.controller)) (sense_tells chip.front.adapter.controller.seeks tells)
    by_idle false = tells

drains_tell : (n : ℕ) (chip : ChipState) → chip.front.adapter.controller.command ≡ [] → RestsBehind chip.front → Tells chip → Tells (drained_by n chip)
unfolding drained_by
drains_tell zero chip none rests tells = tells
drains_tell (suc n) chip none rests tells = one_tells (drained_by n chip) (drained_rests n chip none rests).rests (drains_tell n chip none rests tells)

-- ---- ---- the inner controller is given a command

sought_tells : (unit target : ℕ) (start : Front) (new : ChipState) → Stands start → GivesCommand (moving unit (Some target)) start new.front → Tells new
sought_tells unit target start new stands gives = runs_tells new.front.adapter.controller.seeks (seek_given unit target start new stands gives).runs

moves_tell : (b : Bool) (goal : Option ℕ) (old new : ChipState) → Stands old.front → MovesIf b goal old new → Tells new
moves_tell true goal old new stands is = front_tells old new (ap (λ (chip : ChipState). chip.front) is) (stands_tell old.front stands)
moves_tell false (Some target) old new stands (gives, rest) = sought_tells old.order.unit target old.front new stands gives
moves_tell false None old new stands (gives, rest) =
    let obeyed = given_obeyed (command.Recalibrate old.order.unit) old.front new.front stands refl gives in
    let is : new.front.adapter.controller ≡ recalibrating old.order.unit (record old.front.adapter.controller { command = [] }) = obeyed.obeys.0 stands.rests in
    runs_tells new.front.adapter.controller.seeks (ap (λ (fdc : Fdc). has_ended_seek fdc.seeks) is)

configure_tells : (old new : ChipState) → Stands old.front → GivesOn (configuring old.order.key.c old.order.key.h) (chip_configured old) new → Tells new
configure_tells old new stands (gives, rest) =
    let options = bit_and old.order.key.c 0x3F in
    let obeyed = given_obeyed (command.Configure 0 options old.order.key.h) old.front new.front stands refl gives in
    stands_tell new.front (configured_stands options old.order.key.h old.front new.front stands obeyed).0

-- ---- ---- a whole command

obeys_known : (found : ChipOpcode) (old new : ChipState) → IsBasis old → RestsBehind old.front → Tells old → (needs_heads found && is_moving old) ≡ false → Obeys found old new → KnowsEnd new
obeys_known code.Recalibrate old new basis rests tells free moves = knows new (moves_tell old.paced None old new (free_stands old basis rests free) moves)
obeys_known code.Seek old new basis rests tells free moves = knows new (moves_tell old.paced (Some old.order.key.c) old new (free_stands old basis rests free) moves)
obeys_known (code.RelativeSeek inward) old new basis rests tells free moves =
    knows new (moves_tell old.paced (Some (relative_target inward (cylinder_of old.order.unit old.interrupts) old.order.key.c)) old new (free_stands old basis rests free) moves)
obeys_known code.Configure old new basis rests tells free gives = knows new (configure_tells old new (free_stands old basis rests free) gives)
obeys_known (code.ReadId mfm) old new basis rests tells free obeys = knows_busy new (obeys_busy (code.ReadId mfm) old new refl obeys)
obeys_known (code.FormatTrack mfm) old new basis rests tells free obeys = knows_busy new (obeys_busy (code.FormatTrack mfm) old new refl obeys)
obeys_known (code.Transfer mfm) old new basis rests tells free obeys = knows_busy new (obeys_busy (code.Transfer mfm) old new refl obeys)
obeys_known (code.Verify mfm) old new basis rests tells free obeys = knows_busy new (obeys_busy (code.Verify mfm) old new refl obeys)
obeys_known (code.ReadTrack mfm) old new basis rests tells free obeys = knows_busy new (obeys_busy (code.ReadTrack mfm) old new refl obeys)
obeys_known _ old new basis rests tells free is = knows new (front_tells old new (ap (λ (chip : ChipState). chip.front) is) tells)

attends_known : (b : Bool) (found : ChipOpcode) (old new : ChipState) → IsBasis old → RestsBehind old.front → Tells old → (needs_heads found && is_moving old) ≡ b → AttendsIf b found old new → KnowsEnd new
attends_known true found old new basis rests tells moves is = knows new (front_tells old new (ap (λ (chip : ChipState). chip.front) is) tells)
attends_known false found old new basis rests tells free obeys = obeys_known found old new basis rests tells free obeys

attended_known : (found : Option ChipOpcode) (old new : ChipState) → IsBasis old → RestsBehind old.front → Tells old → AttendsTo found old new → KnowsEnd new
attended_known None old new basis rests tells is = knows new (front_tells old new (ap (λ (chip : ChipState). chip.front) is) tells)
attended_known (Some found) old new basis rests tells attends =
    let set = drained old in
    let resting : IsResting old set = drained_rests 4 old basis.whole rests in
    attends_known (needs_heads found && is_moving set) found set new (basis_same old set basis resting.base resting.count resting.order) resting.rests (drains_tell 4 old basis.whole rests tells) refl attends

-- ---- ---- pulses that come in the time that SPECIFY sets

ends_tell : (goal : Option ℕ) (pace : PacedSeek) (old new : ChipState) → Stands old.front → paces.EndsAt goal pace (record old { pace = None }) new → Tells new
ends_tell (Some target) pace old new stands (gives, rest) = sought_tells pace.unit target old.front new stands gives
ends_tell None pace old new stands is =
    let fdc = old.front.adapter.controller in
    let may : (is_idle fdc && (seek_bits fdc.seeks == 0)) ≡ true = and_from (is_idle fdc) (seek_bits fdc.seeks == 0) (stands_idle old.front stands) (ap (λ n. n == 0) stands.rests) in
    let set : Fdc = record fdc { seeks = with_motion fdc.seeks (pace.unit % 4) (Outward (pulses_within pace.left)) } in
    let given : recalibrated_outside pace.unit pace.left old.front ≡ record old.front { adapter = with_controller set old.front.adapter } =
    ap (λ stage. recalibrated_at stage pace.unit pace.left old.front) stands.through
    ∙ ap (λ b. record old.front { adapter = with_controller (if b then set else fdc) old.front.adapter }) may in
    let same : new.front ≡ record old.front { adapter = with_controller set old.front.adapter } = ap (λ (chip : ChipState). chip.front) is ∙ given in
    runs_tells new.front.adapter.controller.seeks (ap (λ (f : Front). has_ended_seek f.adapter.controller.seeks) same)

pulses_tell : (b : Bool) (pace : PacedSeek) (old new : ChipState) → Stands old.front → PulsesIf b pace old new → Tells new
pulses_tell true pace old new stands ends = ends_tell pace.goal pace old new stands ends
pulses_tell false pace old new stands (gives, rest) = sought_tells pace.unit (stepped (step_words old.settings) pace).cylinder old.front new stands gives

goes_tell : (b : Bool) (pace : PacedSeek) (old new : ChipState) → old.front.adapter.controller.non_dma ≡ false → old.front.adapter.controller.command ≡ [] → RestsBehind old.front → Tells old → is_due pace old ≡ b → GoesOnIf b pace old new → Tells new
goes_tell true pace old new by_dma none rests tells due pulses =
    let waited = nat_le pace.wait 1 in
    let (timed, still) = and_parts (waited && is_ready old.front) (not (moves_heads old.front)) due in
    let free = ready_free old.front (and_parts waited (is_ready old.front) timed).1 in
    pulses_tell (paces.is_over pace) pace old new (record {
      through = rests.through;
      takes = rests.takes;
      none = none;
      free = free;
      rests = heads_stand old.front rests.through free rests.takes none rests.seek (not-true (moves_heads old.front) still);
      by_dma = by_dma;
    }) pulses
goes_tell false pace old new by_dma none rests tells due is = front_tells old new (ap (λ (chip : ChipState). chip.front) is) tells

paces_tell : (pace : Option PacedSeek) (old new : ChipState) → old.front.adapter.controller.non_dma ≡ false → old.front.adapter.controller.command ≡ [] → RestsBehind old.front → Tells old → Paces pace old new → Tells new
paces_tell None old new by_dma none rests tells is = front_tells old new (ap (λ (chip : ChipState). chip.front) is) tells
paces_tell (Some pace) old new by_dma none rests tells goes =
    let set = drained old in
    let was = drained_rests 4 old none rests in
    goes_tell (is_due pace set) pace set new (was.base.non_dma ∙ by_dma) was.base.command was.rests (drains_tell 4 old none rests tells) refl goes

-- ---- a device step of a chip that isn't busy

idle_paced : (old : ChipState) (between : Front) (paced : ChipState) → IsSound old → is_busy old.stage ≡ false → IsInRange old.front.adapter.controller → Tells old → StepsFront old.front between
    → Paces old.pace (with_front between old) paced → Tells paced
idle_paced old between paced sound idle range tells step paces =
    let rests = at_rest old.stage old.front idle sound.now in
    let (still, base) = front_rests old.front between step sound.whole rests in
    paces_tell old.pace (with_front between old) paced (base.non_dma ∙ sound.by_dma) base.command still (front_nearer old.front between step rests range.seeks.pending tells).tells paces

drained_known : (b : Bool) (old paced new : ChipState) → IsResting old paced → Tells paced → new ≡ (if b then drained paced else paced) → KnowsEnd new
drained_known true old paced new was tells is = knows new (front_tells (drained paced) new (ap (λ (chip : ChipState). chip.front) is) (drains_tell 4 paced was.base.command was.rests tells))
drained_known false old paced new was tells is = knows new (front_tells paced new (ap (λ (chip : ChipState). chip.front) is) tells)

idle_step : (stage : ChipStage) (old : ChipState) (between : Front) (new : ChipState) → old.stage ≡ stage → is_busy stage ≡ false → IsSound old → IsInRange old.front.adapter.controller → Tells old → StepsFront old.front between
    → Follows stage (with_front between old) new → KnowsEnd new
idle_step Ready old between new at idle sound range tells step (paced, paces, is) =
    drained_known (interrupts_outside paced.front) old paced new (stepped_rests old between paced sound (ap is_busy at) step paces) (idle_paced old between paced sound (ap is_busy at) range tells step paces) is
idle_step Held old between new at idle sound range tells step (paced, paces, attends) =
    let was = stepped_rests old between paced sound (ap is_busy at) step paces in
    attended_known (code_of paced.order.code) paced new (basis_same old paced (sound_basis old (ap parts.is_ready at) sound) was.base was.count was.order) was.rests
    (idle_paced old between paced sound (ap is_busy at) range tells step paces) attends
idle_step (Telling answer read) old between new at idle sound range tells step paces = knows new (idle_paced old between new sound (ap is_busy at) range tells step paces)
idle_step (Busy what) old between new at idle sound range tells step follows = absurd (false≢true (sym idle))

-- ---- a device step of a chip that is busy

-- the host reads the results, which were taken from the inner controller
come_front : (old new : ChipState) → is_busy new.stage ≡ false → Comes old new → new.front ≡ old.front
come_front old new idle (outcome.Told results is) = ap (λ (chip : ChipState). chip.front) is
come_front old new idle (outcome.Looks what unit gives) = clash (is_busy new.stage) idle (ap (λ (chip : ChipState). is_busy chip.stage) gives.1)
come_front old new idle (outcome.Reads track key reads) = clash (is_busy new.stage) idle (ap (λ (chip : ChipState). is_busy chip.stage) reads.1)

taken_tells : (what : ChipTask) (results : Results) (chip new : ChipState) → is_busy new.stage ≡ false → results_outside chip.front ≡ Some results → Stands (results_taken chip.front) → MayEnd what chip new → Tells new
taken_tells what results chip new idle shown stands may =
    let set = with_front (results_taken chip.front) chip in
    let ends : Ends what (judged chip results) set new = subst (λ r. EndsAs (option_map (judged chip) r) what chip new) shown may in
    front_tells set new (come_front set new idle (ends_come what (judged chip results) set new ends)) (stands_tell (results_taken chip.front) stands)

may_tell : (what under : ChipTask) (chip new : ChipState) → is_busy new.stage ≡ false → IsBasis chip → chip.stage ≡ Busy under → IsAtStep under chip.front → MayEnd what chip new → Tells new
may_tell what under chip new idle basis at (inl busy) may =
    let same : new ≡ chip = subst (λ r. EndsAs (option_map (judged chip) r) what chip new) (busy_none under chip.front busy) may in
    clash (is_busy new.stage) idle (ap (λ (c : ChipState). is_busy c.stage) same ∙ ap is_busy at)
may_tell what under chip new idle basis at (inr (inl tells)) may =
    taken_tells what tells.results chip new idle (tells_shown chip.front tells) (tells_taken chip.front basis.free basis.whole basis.by_dma tells).0 may
may_tell what under chip new idle basis at (inr (inr waits)) may =
    taken_tells what waits.results chip new idle (waits_shown chip.front waits) (waits_taken chip.front basis.free basis.whole basis.by_dma waits).0 may

verify_tells : (left : ℕ) (old : ChipState) (between : Front) (new : ChipState) → is_busy new.stage ≡ false → IsBasis old → IsStepped (task.Verify left) old.front between → FollowsTask (task.Verify left) (with_front between old) new → Tells new
verify_tells left old between new idle basis was (set, all, may) =
    let after = swallows_many 16 (task.Verify left) left all.now old.front between all.front was all.swallows in
    let chip : ChipState = record (with_front all.front old) { stage = Busy (task.Verify all.now) } in
    may_tell (task.Verify left) (task.Verify all.now) chip new idle (set_basis (Busy (task.Verify all.now)) (with_front all.front old) (basis_front all.front old basis after.base)) refl after.at
    (subst (λ from. MayEnd (task.Verify left) from new) all.after may)

busy_tells : (what : ChipTask) (old : ChipState) (between : Front) (new : ChipState) → is_busy new.stage ≡ false → old.stage ≡ Busy what → IsBasis old → IsStepped what old.front between → FollowsTask what (with_front between old) new → Tells new
busy_tells (task.Verify left) old between new idle at basis was follows = verify_tells left old between new idle basis was follows
busy_tells (task.Refused unit key mfm) old between new idle at basis was may =
    may_tell (task.Refused unit key mfm) (task.Refused unit key mfm) (with_front between old) new idle (basis_front between old basis was.base) at was.at may
busy_tells what old between new idle at basis was may = may_tell what what (with_front between old) new idle (basis_front between old basis was.base) at was.at may

step_known : (stage : ChipStage) (old : ChipState) (between : Front) (new : ChipState) → old.stage ≡ stage → IsSound old → IsInRange old.front.adapter.controller → KnowsEnd old → StepsFront old.front between → Follows stage (with_front between old) new → KnowsEnd new
step_known (Busy what) old between new at sound range was step follows = record {
  tells = λ idle. busy_tells what old between new idle at (sound_basis old (ap parts.is_ready at) sound) (front_stepped what old.front between step sound.whole sound.by_dma (busy_at old what at sound)) follows;
}
step_known Ready old between new at sound range was step follows = idle_step Ready old between new at refl sound range (was.tells (ap is_busy at)) step follows
step_known Held old between new at sound range was step follows = idle_step Held old between new at refl sound range (was.tells (ap is_busy at)) step follows
step_known (Telling answer read) old between new at sound range was step follows = idle_step (Telling answer read) old between new at refl sound range (was.tells (ap is_busy at)) step follows

-- ---- other calls

same_known : (old new : ChipState) → new ≡ old → KnowsEnd old → KnowsEnd new
same_known old new is was = subst KnowsEnd (sym is) was

-- the stage and the seeks stay
seeks_known : (old new : ChipState) → new.stage ≡ old.stage → new.front.adapter.controller.seeks ≡ old.front.adapter.controller.seeks → KnowsEnd old → KnowsEnd new
seeks_known old new stage seeks was = record { tells = λ idle. subst TellsEnd (sym seeks) (was.tells (sym (ap is_busy stage) ∙ idle)) }

-- ---- ---- the data port

idle_read : (stage : ChipStage) (value : ℕ) (old new : ChipState) → old.stage ≡ stage → is_busy stage ≡ false → KnowsEnd old → ReadsAt stage old value new → KnowsEnd new
idle_read (Busy what) value old new at idle was reads = absurd (false≢true (sym idle))
idle_read (Telling answer read) value old new at idle was (value_is, is) =
    knows new (front_tells old new (ap (λ (chip : ChipState). chip.front) is ∙ (byte_stays answer read old).front) (was.tells (ap is_busy at)))
idle_read _ value old new at idle was reads = same_known old new (subst (λ b. ReadsIf b old value new) (no_port old (ap is_busy at)) reads).1 was

collects_known : (b : Bool) (byte : ℕ) (old new : ChipState) → old.stage ≡ Ready → byte < 256 → IsSound old → KnowsEnd old → is_held old.front.adapter.controller ≡ false
    → CollectsIf b (code_of (with_next byte old).order.code) (with_next byte old) new → KnowsEnd new
collects_known true byte old new at few sound was free attends =
    let set : ChipState = record (with_next byte old) { count = 0 } in
    attended_known (code_of set.order.code) set new (record {
      by_dma = sound.by_dma;
      whole = sound.whole;
      free = free;
      none = refl;
      gated = sound.lets_out free;
      code = code_few old.count byte old.order few sound.code;
    }) (at_rest old.stage old.front (ap is_busy at) sound.now) (was.tells (ap is_busy at)) attends
collects_known false byte old new at few sound was free is = knows new (front_tells old new (ap (λ (chip : ChipState). chip.front) is) (was.tells (ap is_busy at)))

comes_known : (b : Bool) (byte : ℕ) (old new : ChipState) → may_come old ≡ b → old.stage ≡ Ready → byte < 256 → IsSound old → KnowsEnd old → ComesIf b byte old new → KnowsEnd new
comes_known true byte old new comes at few sound was collects =
    collects_known (is_whole (with_next byte old).count (code_of (with_next byte old).order.code)) byte old new at few sound was (comes_free old sound comes) collects
comes_known false byte old new comes at few sound was is = same_known old new is was

idle_write : (stage : ChipStage) (value : ℕ) (old new : ChipState) → old.stage ≡ stage → is_busy stage ≡ false → value < 256 → IsSound old → KnowsEnd old → TakesByte stage value old new → KnowsEnd new
idle_write Ready value old new at idle few sound was comes = comes_known (may_come old) value old new refl at few sound was comes
idle_write (Busy what) value old new at idle few sound was gives = absurd (false≢true (sym idle))
idle_write _ value old new at idle few sound was gives = same_known old new (subst (λ b. GivesIf b value old new) (no_port old (ap is_busy at)) gives) was

idle_call : (call : Call) (old new : ChipState) → is_busy old.stage ≡ false → IsSound old → KnowsEnd old → Does call old new → WritesByte call → is_step call ≡ false → is_reset call ≡ false → KnowsEnd new
idle_call call old new idle sound was does writes other quiet = either_way (is_of_data_port call)
    (λ here. by_data call here does writes)
    (λ no_data. let keeps = call_idle call old new idle does other quiet no_data in seeks_known old new keeps.stage keeps.left.seeks was)
  where
    by_data : (call : Call) → is_of_data_port call ≡ true → Does call old new → WritesByte call → KnowsEnd new
    by_data (made.Reads port value) here does writes = idle_read old.stage value old new refl idle was (does.byte (eqb-true port 0x3F5 here))
    by_data (made.Writes port value) here does writes = idle_write old.stage value old new refl idle writes sound was (does.bytes (eqb-true port 0x3F5 here))
    by_data _ here does writes = absurd (false≢true here)

-- a busy chip stays busy, or is reset
task_busy : (what : ChipTask) (stage : ChipStage) → IsAtTask what stage → is_busy stage ≡ true
task_busy (task.Track track) stage (now, is) = ap is_busy is
task_busy _ stage is = ap is_busy is

reset_known : (call : Call) (old new : ChipState) → is_reset call ≡ true → Does call old new → KnowsEnd new
reset_known (made.Writes port value) old new anew does = either_way (port == 0x3F5)
    (λ here. absurd (false≢true (sym (data_quiet port value (eqb-true port 0x3F5 here)) ∙ anew)))
    (λ no_data. knows new (subst TellsEnd (sym (front_anew port (value_behind port value) old.front new.front (does.others no_data).0 no_data anew).0.seeks) tt))
reset_known _ old new anew does = absurd (false≢true anew)

other_call : (stage : ChipStage) (call : Call) (old new : ChipState) → old.stage ≡ stage → IsSound old → KnowsEnd old → Does call old new → WritesByte call → is_step call ≡ false → is_reset call ≡ false → KnowsEnd new
other_call (Busy what) call old new at sound was does writes other quiet = knows_busy new (task_busy what new.stage (call_keeps call what old new does at other quiet).stage)
other_call _ call old new at sound was does writes other quiet = idle_call call old new (ap is_busy at) sound was does writes other quiet

pub call_known : (call : Call) (old new : ChipState) → IsSound old → IsInRange old.front.adapter.controller → KnowsEnd old → Does call old new → WritesByte call → KnowsEnd new
call_known made.Steps old new sound range was does writes = step_known old.stage old does.between new refl sound range was does.steps does.follows
call_known call old new sound range was does writes = either_way (is_reset call)
    (λ anew. reset_known call old new anew does)
    (λ quiet. other_call old.stage call old new refl sound was does writes refl quiet)
