-- The poll of a reset, through each call of a chip: once it has come, it isn't to come until the next reset.
use Rattle.std.proofs.Common.{◌≡◌, ℕ, zero, suc, ◌*◌, ◌%◌, ◌==◌, Bool, true, false, not, ◌&&◌, if◌then◌else◌, Option, Some, None, refl, sym, ◌∙◌, ap}
use Rattle.laws_chip.proofs.Common.{eqb-true, Seeks, pulses_within, seek_bits, sensed, with_motion, Outward, Results, Command, is_held, is_idle, Fdc, after_result, without_result, Front, interrupts_outside, told_front, GivesCommand, results_taken, pending_outside, recalibrated_at, sensed_at, sensed_outside, size_of, FrontStage, Through, ChipState, is_data, passes_by_channel, passes_by_port, with_front, code_of, AttendsIf, AttendsTo, Begins, BeginsReadId, FormatsIf, MovesIf, Obeys, RemembersIf, TransfersIf, absent_key, begun, configuring, drained, identifying, implies, is_moving, is_size, moving, needs_heads, no_key, reading_one, relative_target, sectors_verified, sought_if, track_begun, verifying, with_keys, with_last, GivesOn, Opens, Refuses, configured, formatting, ready, transfer_sent, MayEnd, results_judged, EndsAs, EndsPace, GoesOnIf, Paces, PulsesIf, is_due, step_words, cylinder_of, is_of_data, CollectsIf, ComesIf, GivesChipIf, GivesIf, ReadsAt, ReadsChip, ReadsIf, TakesByte, TakesIf, counted_if, is_whole, may_come, quieted_if, value_behind, with_next, Follows, FollowsTask, StepsChip, SwallowsAs, ChipOpcode, ReadTrack, Recalibrate, ReadId, FormatTrack, Seek, RelativeSeek, Configure, Verify, PacedSeek, ChipStage, Ready, Held, Busy, ChipTask, Track, Order, Call, Does, is_reset, Chrn, is_over_pace as is_over, chip_stepped as stepped, chip_count_told as count_told, TransferCode as Transfer, ChipTelling as Telling}
use Rattle.fdc_chip.specs.Doing.{drained_by}
use Rattle.fdc_chip.specs.Steps.{SwallowsBy}
use Rattle.laws_chip.proofs.PassedOn.{other_read}
use Rattle.laws_chip.proofs.Polled.{and_true}
use Rattle.laws_chip.proofs.PollComes.{awaits_poll, command_poll, counts_poll, gives_poll, results_poll, step_poll, transfer_poll, takes_poll, writes_poll}
use Rattle.laws_chip.proofs.UnderWay.{either_way}
use Rattle.laws_chip.proofs.WholeTransfers.{kept_front}
use Rattle.laws_chip.proofs.NextStages.{Comes, ends_come}
use Rattle.fdc_chip.specs.declared.stage.ChipTask.TheVariants as task
use Rattle.laws_chip.specs.Calls as made
use Rattle.laws_chip.proofs.NextStages as outcome

-- whether the poll is to come
abbrev to_come : ChipState → Bool
to_come chip = awaits_poll chip.front

-- ---- results that are taken over

result_poll : (result : Option (ℕ × ℕ)) (old : Fdc) → (without_result result old).poll_due ≡ old.poll_due
result_poll None old = refl
result_poll (Some result) old = refl

after_poll : (old : Fdc) → (after_result old).poll_due ≡ old.poll_due
after_poll old = by_idle (is_idle old)
  where
    by_idle : (b : Bool) → (if b then without_result (sensed old.seeks) old else old).poll_due ≡ old.poll_due
    by_idle true = result_poll (sensed old.seeks) old
    by_idle false = refl

sensed_poll : (stage : FrontStage) (old : Front) → awaits_poll (sensed_at stage old) ≡ awaits_poll old
sensed_poll Through old = after_poll old.adapter.controller
sensed_poll _ old = refl

drained_poll : (n : ℕ) (old : ChipState) → to_come (drained_by n old) ≡ to_come old
unfolding drained_by
drained_poll zero old = refl
drained_poll (suc n) old =
    let chip = drained_by n old in
    ap awaits_poll (kept_front (pending_outside chip.front) (with_front (sensed_outside chip.front) chip)) ∙ (sensed_poll chip.front.stage chip.front ∙ drained_poll n old)

-- ---- a command

sent_poll : (command : Command) (old new : ChipState) → GivesOn command old new → to_come old ≡ false → to_come new ≡ false
sent_poll command old new (gives, rest) none = command_poll command old.front new.front gives none

moves_poll : (paced : Bool) (goal : Option ℕ) (old new : ChipState) → MovesIf paced goal old new → to_come old ≡ false → to_come new ≡ false
moves_poll true goal old new is none = ap to_come is ∙ none
moves_poll false goal old new gives none = sent_poll (moving old.order.unit goal) (ready old) new gives none

remembers_poll : (forgotten : Bool) (old new : ChipState) → RemembersIf forgotten old new → to_come old ≡ false → to_come new ≡ false
remembers_poll true old new (gives, rest) none = command_poll (configuring old.settings.options old.settings.precompensation) old.front new.front gives none
remembers_poll false old new is none = ap to_come is ∙ none

opens_poll : (what : ChipTask) (old new : ChipState) → Opens what old new → to_come old ≡ false → to_come new ≡ false
opens_poll what old new opens none = remembers_poll old.settings.forgotten (begun what old) new opens none

begins_poll : (what : ChipTask) (command : Command) (old new : ChipState) → Begins what (GivesCommand command) old new → to_come old ≡ false → to_come new ≡ false
begins_poll what command old new begins none = command_poll command begins.set.front new.front begins.gives (opens_poll what old begins.set begins.opens none)

refuses_poll : (key : Chrn) (mfm : Bool) (old new : ChipState) → Refuses key mfm old new → to_come old ≡ false → to_come new ≡ false
refuses_poll key mfm old new begins none = begins_poll (task.Refused old.order.unit key mfm) (identifying old.order.unit) old new begins none

identifies_poll : (mfm : Bool) (old new : ChipState) → BeginsReadId mfm old new → to_come old ≡ false → to_come new ≡ false
identifies_poll true old new begins none = begins_poll task.Sent (identifying old.order.unit) old new begins none
identifies_poll false old new begins none = refuses_poll no_key false old new begins none

formats_poll : (whole mfm : Bool) (old new : ChipState) → FormatsIf whole mfm old new → to_come old ≡ false → to_come new ≡ false
formats_poll true mfm old new begins none = begins_poll task.Sent (formatting old.order) old new begins none
formats_poll false mfm old new begins none = refuses_poll no_key mfm old new begins none

sought_poll : (seeks : Bool) (old : ChipState) → to_come (sought_if seeks old) ≡ to_come old
sought_poll true old = refl
sought_poll false old = refl

transfers_poll : (whole mfm : Bool) (what : ChipTask) (order : Order) (old new : ChipState) → TransfersIf whole mfm what order old new → to_come old ≡ false → to_come new ≡ false
transfers_poll true mfm what order old new begins none =
    transfer_poll (transfer_sent (implies old) order) begins.set.front new.front begins.gives
    (opens_poll what (sought_if (implies old) old) begins.set begins.opens (sought_poll (implies old) old ∙ none))
transfers_poll false mfm what order old new begins none = refuses_poll old.order.key mfm old new begins none

obeys_poll : (code : ChipOpcode) (old new : ChipState) → Obeys code old new → to_come old ≡ false → to_come new ≡ false
obeys_poll Recalibrate old new moves none = moves_poll old.paced None old new moves none
obeys_poll Seek old new moves none = moves_poll old.paced (Some old.order.key.c) old new moves none
obeys_poll (RelativeSeek inward) old new moves none = moves_poll old.paced (Some (relative_target inward (cylinder_of old.order.unit old.interrupts) old.order.key.c)) old new moves none
obeys_poll Configure old new gives none = sent_poll (configuring old.order.key.c old.order.key.h) (configured old) new gives none
obeys_poll (ReadId mfm) old new begins none = identifies_poll mfm old new begins none
obeys_poll (FormatTrack mfm) old new begins none =
    formats_poll (mfm && is_size old.order.key.c) mfm (with_keys old.order.key.h (with_last old.order.key.h old)) new begins none
obeys_poll (Transfer mfm) old new begins none = transfers_poll (mfm && is_size old.order.key.n) mfm task.Sent old.order (with_last old.order.last_sector old) new begins none
obeys_poll (Verify mfm) old new begins none =
    transfers_poll (mfm && is_size old.order.key.n) mfm (task.Verify (sectors_verified old.order * size_of old.order.key.n)) (verifying old.order) (with_last old.order.last_sector old) new begins none
obeys_poll (ReadTrack mfm) old new begins none =
    transfers_poll (mfm && is_size old.order.key.n) mfm (task.Track (track_begun (implies old) old.order)) (reading_one (absent_key old.order.key.c) old.order) (with_last old.order.last_sector old) new
    begins none
obeys_poll _ old new is none = ap to_come is ∙ none

attends_by : (holds : Bool) (code : ChipOpcode) (old new : ChipState) → AttendsIf holds code old new → to_come old ≡ false → to_come new ≡ false
attends_by true code old new is none = ap to_come is ∙ none
attends_by false code old new obeys none = obeys_poll code old new obeys none

attends_poll : (code : Option ChipOpcode) (old new : ChipState) → AttendsTo code old new → to_come old ≡ false → to_come new ≡ false
attends_poll None old new is none = ap to_come is ∙ none
attends_poll (Some code) old new attends none = attends_by (needs_heads code && is_moving (drained old)) code (drained old) new attends (drained_poll 4 old ∙ none)

-- ---- a device step

-- pulses that come in the time that SPECIFY sets
recalibrates_poll : (stage : FrontStage) (unit pulses : ℕ) (old : Front) → awaits_poll (recalibrated_at stage unit pulses old) ≡ awaits_poll old
recalibrates_poll Through unit pulses old =
    let fdc = old.adapter.controller in
    by_free (is_idle fdc && (seek_bits fdc.seeks == 0)) (with_motion fdc.seeks (unit % 4) (Outward (pulses_within pulses))) fdc
  where
    by_free : (b : Bool) (seeks : Seeks) (fdc : Fdc) → (if b then record fdc { seeks = seeks } else fdc).poll_due ≡ fdc.poll_due
    by_free true seeks fdc = refl
    by_free false seeks fdc = refl
recalibrates_poll _ unit pulses old = refl

over_poll : (goal : Option ℕ) (pace : PacedSeek) (old new : ChipState) → EndsPace goal pace old new → to_come old ≡ false → to_come new ≡ false
over_poll (Some target) pace old new gives none = sent_poll (moving pace.unit (Some target)) old new gives none
over_poll None pace old new is none = ap to_come is ∙ (recalibrates_poll old.front.stage pace.unit pace.left old.front ∙ none)

pulses_poll : (over : Bool) (pace : PacedSeek) (old new : ChipState) → PulsesIf over pace old new → to_come old ≡ false → to_come new ≡ false
pulses_poll true pace old new ends none = over_poll pace.goal pace (record old { pace = None }) new ends none
pulses_poll false pace old new (gives, rest) none = command_poll (moving pace.unit (Some (stepped (step_words old.settings) pace).cylinder)) old.front new.front gives none

goes_poll : (due : Bool) (pace : PacedSeek) (old new : ChipState) → GoesOnIf due pace old new → to_come old ≡ false → to_come new ≡ false
goes_poll true pace old new pulses none = pulses_poll (is_over pace) pace old new pulses none
goes_poll false pace old new is none = ap to_come is ∙ none

paces_poll : (pace : Option PacedSeek) (old new : ChipState) → Paces pace old new → to_come old ≡ false → to_come new ≡ false
paces_poll None old new is none = ap to_come is ∙ none
paces_poll (Some pace) old new goes none = goes_poll (is_due pace (drained old)) pace (drained old) new goes (drained_poll 4 old ∙ none)

-- bytes of a VERIFY
swallowed_poll : (last : Bool) (front : Front) → awaits_poll (if last then told_front front else front) ≡ awaits_poll front
swallowed_poll true front = counts_poll front
swallowed_poll false front = refl

swallows_as : (byte : Option ℕ) (left : ℕ) (between : Front) (now : ℕ) (new : Front) → SwallowsAs byte left between now new → awaits_poll new ≡ awaits_poll between
swallows_as None left between now new (left_is, is) = ap awaits_poll is
swallows_as (Some byte) left between now new (left_is, is) = ap awaits_poll is ∙ swallowed_poll (left == 1) between

swallows_poll : (n left : ℕ) (old : Front) (now : ℕ) (new : Front) → SwallowsBy n left old now new → awaits_poll new ≡ awaits_poll old
unfolding SwallowsBy
swallows_poll zero left old now new (left_is, is) = ap awaits_poll is
swallows_poll (suc n) left old now new (some, between, swallows, one) =
    swallows_as one.byte some one.between now new one.after ∙ (takes_poll between one.byte one.between one.takes ∙ swallows_poll n left old some between swallows)

-- results are taken
come_poll : (old new : ChipState) → Comes old new → to_come old ≡ false → to_come new ≡ false
come_poll old new (outcome.Told results is) none = ap to_come is ∙ none
come_poll old new (outcome.Looks what unit gives) none = sent_poll (identifying unit) (record old { stage = Busy what }) new gives none
come_poll old new (outcome.Reads track key (reads, rest)) none =
    (ap (λ (front : Front). awaits_poll front) reads.begun ∙ ap (λ (fdc : Fdc). fdc.poll_due) reads.reads.reads.2) ∙ none

may_end_by : (results : Option Results) (what : ChipTask) (old new : ChipState) → EndsAs results what old new → to_come old ≡ false → to_come new ≡ false
may_end_by (Some results) what old new ends none =
    let set = with_front (results_taken old.front) old in come_poll set new (ends_come what results set new ends) (results_poll old.front ∙ none)
may_end_by None what old new is none = ap to_come is ∙ none

may_end_poll : (what : ChipTask) (old new : ChipState) → MayEnd what old new → to_come old ≡ false → to_come new ≡ false
may_end_poll what old new ends none = may_end_by (results_judged old) what old new ends none

task_poll : (what : ChipTask) (old new : ChipState) → FollowsTask what old new → to_come old ≡ false → to_come new ≡ false
task_poll (task.Verify left) old new (between, all, ends) none =
    may_end_poll (task.Verify left) between new ends (ap to_come all.after ∙ (swallows_poll 16 left old.front all.now all.front all.swallows ∙ none))
task_poll what old new ends none = may_end_poll what old new ends none

-- results are taken over, where INT of the inner controller is up
over_taken : (up : Bool) (chip : ChipState) → to_come (if up then drained chip else chip) ≡ to_come chip
over_taken true chip = drained_poll 4 chip
over_taken false chip = refl

follows_poll : (stage : ChipStage) (old new : ChipState) → Follows stage old new → to_come old ≡ false → to_come new ≡ false
follows_poll Ready old new (paced, paces, is) none =
    ap to_come is ∙ (over_taken (interrupts_outside paced.front) paced ∙ paces_poll old.pace old paced paces none)
follows_poll Held old new (paced, paces, attends) none = attends_poll (code_of paced.order.code) paced new attends (paces_poll old.pace old paced paces none)
follows_poll (Busy what) old new follows none = task_poll what old new follows none
follows_poll (Telling answer read) old new paces none = paces_poll old.pace old new paces none

chip_steps : (old new : ChipState) → StepsChip old new → (to_come old && not (is_held old.front.adapter.controller)) ≡ to_come old → to_come new ≡ false
chip_steps old new step comes = follows_poll old.stage (with_front step.between old) new step.follows (step_poll old.front step.between step.steps comes)

-- the poll comes where DOR doesn't hold the controller in reset
pub step_makes : (old new : ChipState) → is_held old.front.adapter.controller ≡ false → StepsChip old new → new.front.adapter.controller.poll_due ≡ false
step_makes old new free step = chip_steps old new step (ap (λ held. to_come old && not held) free ∙ and_true (to_come old))

-- ---- other calls

takes_by : (passes : Bool) (old : ChipState) (byte : Option ℕ) (new : ChipState) → TakesIf passes old byte new → to_come new ≡ to_come old
takes_by true old byte new (takes, rest) = takes_poll old.front byte new.front takes
takes_by false old byte new (none, is) = ap to_come is

gives_by : (passes : Bool) (byte : ℕ) (old : ChipState) (was : Bool) (new : ChipState) → GivesChipIf passes byte old was new → to_come new ≡ to_come old
gives_by true byte old was new (gives, rest) = gives_poll byte old.front was new.front gives
gives_by false byte old was new (none, is) = ap to_come is

counted_by : (passes : Bool) (old : ChipState) → to_come (counted_if passes old) ≡ to_come old
counted_by true old = counts_poll old.front
counted_by false old = refl

task_counts : (what : ChipTask) (old : ChipState) → to_come (count_told (Busy what) old) ≡ to_come old
task_counts task.Sent old = counted_by true old
task_counts (task.Track track) old = counted_by (is_data track.place) (record old { stage = Busy (task.Track (record track { counted = true })) })
task_counts _ old = refl

chip_counts : (stage : ChipStage) (old : ChipState) → to_come (count_told stage old) ≡ to_come old
chip_counts (Busy what) old = task_counts what old
chip_counts _ old = refl

reads_by : (passes : Bool) (old : ChipState) (value : ℕ) (new : ChipState) → ReadsIf passes old value new → to_come new ≡ to_come old
reads_by true old value new reads = takes_poll old.front reads.byte new.front reads.takes
reads_by false old value new (none, is) = ap to_come is

quieted_poll : (quiets : Bool) (old : ChipState) → to_come (quieted_if quiets old) ≡ to_come old
quieted_poll true old = refl
quieted_poll false old = refl

reads_at : (stage : ChipStage) (old : ChipState) (value : ℕ) (new : ChipState) → ReadsAt stage old value new → to_come new ≡ to_come old
reads_at (Telling answer read) old value new (value_is, is) = ap to_come is ∙ quieted_poll (is_of_data answer && (read == 0)) old
reads_at _ old value new reads = reads_by (passes_by_port old) old value new reads

gives_if : (passes : Bool) (byte : ℕ) (old new : ChipState) → GivesIf passes byte old new → to_come new ≡ to_come old
gives_if true byte old new gives = gives_poll byte old.front gives.was new.front gives.gives
gives_if false byte old new is = ap to_come is

collects_by : (whole : Bool) (code : Option ChipOpcode) (old new : ChipState) → CollectsIf whole code old new → to_come old ≡ false → to_come new ≡ false
collects_by true code old new attends none = attends_poll code (record old { count = 0 }) new attends none
collects_by false code old new is none = ap to_come is ∙ none

comes_by : (comes : Bool) (byte : ℕ) (old new : ChipState) → ComesIf comes byte old new → to_come old ≡ false → to_come new ≡ false
comes_by true byte old new collects none = let set = with_next byte old in let code = code_of set.order.code in collects_by (is_whole set.count code) code set new collects none
comes_by false byte old new is none = ap to_come is ∙ none

byte_poll : (stage : ChipStage) (byte : ℕ) (old new : ChipState) → TakesByte stage byte old new → to_come old ≡ false → to_come new ≡ false
byte_poll Ready byte old new comes none = comes_by (may_come old) byte old new comes none
byte_poll _ byte old new gives none = gives_if (passes_by_port old) byte old new gives ∙ none

read_chip : (port value : ℕ) (old new : ChipState) → ReadsChip port old value new → to_come new ≡ to_come old
read_chip port value old new reads = either_way (port == 0x3F5)
    (λ here. reads_at old.stage old value new (reads.byte (eqb-true port 0x3F5 here)))
    (λ other. ap to_come (other_read port value old new other reads))

-- all calls that don't reset
pub call_makes : (call : Call) (old new : ChipState) → Does call old new → is_reset call ≡ false → old.front.adapter.controller.poll_due ≡ false → new.front.adapter.controller.poll_due ≡ false
call_makes made.Steps old new does quiet none = chip_steps old new does (ap (λ b. b && not (is_held old.front.adapter.controller)) none ∙ sym none)
call_makes (made.Takes byte) old new does quiet none = takes_by (passes_by_channel old) old byte new does ∙ none
call_makes (made.Gives byte was) old new does quiet none = gives_by (passes_by_channel old) byte old was new does ∙ none
call_makes made.Counts old new does quiet none = ap to_come does ∙ (chip_counts old.stage old ∙ none)
call_makes (made.Reads port value) old new does quiet none = read_chip port value old new does ∙ none
call_makes (made.Writes port value) old new does quiet none = either_way (port == 0x3F5)
    (λ here. byte_poll old.stage value old new (does.bytes (eqb-true port 0x3F5 here)) none)
    (λ other. writes_poll port (value_behind port value) old.front new.front (does.others other).0 quiet none)
call_makes made.Changes old new does quiet none = ap (λ (fdc : Fdc). fdc.poll_due) does.front.controller ∙ none
call_makes _ old new does quiet none = ap to_come does ∙ none
