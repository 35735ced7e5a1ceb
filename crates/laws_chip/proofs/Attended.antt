-- A whole command of a sound chip: it is done, begun or held, and the chip stays sound.
use Rattle.std.proofs.Common.{◌≡◌, inl, inr, ℕ, ◌*◌, ◌<◌, ◌%◌, Bool, true, false, ◌&&◌, ◌==◌, if◌then◌else◌, Option, Some, None, [], is_some, bit_and, slice_index, refl, sym, ◌∙◌, ap, subst, arith}
use Rattle.laws_chip.proofs.Common.{and_parts, or_parts, pulses_within, seek_bits, with_motion, Command, Motion, Outward, Toward, is_idle, Fdc, Front, GivesCommand, GivesTransfer, with_controller, recalibrated_at, recalibrated_outside, size_of, ChipState, KeepsRest, code_of, AttendsIf, AttendsTo, Begins, BeginsReadId, FormatsIf, GivesOn, MovesIf, Obeys, Transfers, TransfersIf, absent_key, configured, configuring, drained, formatting, identifying, implies, is_moving, is_size, moves_heads, moving, needs_heads, no_key, reading_one, ready, relative_target, sectors_verified, track_begun, transfer_sent, verifying, with_keys, with_last, cylinder_of, ChipOpcode, ReadTrack, Recalibrate, ReadId, FormatTrack, Seek, RelativeSeek, Configure, Verify, Order, Ready, ChipTask, IsOfFour, ExecutesBehind, IsBusyWith, IsSound, RestsBehind, ServesBehind, TransferCode as Transfer}
use Rattle.laws_chip.proofs.CommandsBegun.{IsSent, begins_sent, configured_stands, sought_sent}
use Rattle.laws_chip.proofs.Rests.{IsResting, base_on, base_same, drained_rests, stands_rests, format_executes, id_executes}
use Rattle.laws_chip.proofs.SoundParts.{IsBasis, basis_busy, basis_rests, basis_same, basis_set, is_busy, first_serves}
use Rattle.laws_chip.proofs.UnderWay.{IsObeyed, Stands, format_obeyed, given_obeyed, heads_stand, IsBase}
use Rattle.fdc_commands.specs.declared.command.Command.TheVariants as command
use Rattle.fdc_chip.specs.declared.stage.ChipTask.TheVariants as task

-- ---- ---- the inner controller does nothing

-- the front, the count of bytes and the order stay
pub record StaysBut (old new : ChipState) : Type 0 where
  pub front : new.front ≡ old.front
  pub count : new.count ≡ old.count
  pub order : new.order ≡ old.order

stays_rests : (old new : ChipState) → IsBasis old → RestsBehind old.front → StaysBut old new → IsBasis new × RestsBehind new.front
stays_rests old new basis rests stays = (
  basis_same old new basis (subst (λ (front : Front). IsBase old.front.adapter.controller front.adapter.controller) (sym stays.front) (base_same old.front.adapter.controller basis.whole)) stays.count stays.order,
  subst RestsBehind (sym stays.front) rests,
)

pub done_sound : (old set new : ChipState) → IsBasis old → RestsBehind old.front → StaysBut old set → is_busy set.stage ≡ false → new ≡ set → IsSound new
done_sound old set new basis rests stays idle is =
    let (still, behind) = stays_rests old set basis rests stays in
    subst IsSound (sym is) (basis_rests set set.stage still behind refl idle)

-- ---- a command of the controller's own that moves the heads

pub free_stands : (chip : ChipState) → IsBasis chip → RestsBehind chip.front → is_moving chip ≡ false → Stands chip.front
free_stands chip basis rests stands = record {
  through = rests.through;
  takes = rests.takes;
  none = basis.whole;
  free = basis.free;
  rests = heads_stand chip.front rests.through basis.free rests.takes basis.whole rests.seek (or_parts (is_some chip.pace) (moves_heads chip.front) stands).1;
  by_dma = basis.by_dma;
}

-- the heads move, and the chip stays sound
moved_sound : (old new : ChipState) → IsBasis old → KeepsRest (ready old) new → RestsBehind new.front → IsBase old.front.adapter.controller new.front.adapter.controller → IsSound new
moved_sound old new basis rest rests base =
    basis_rests new Ready (basis_same old new basis base (ap (λ (chip : ChipState). chip.count) rest) (ap (λ (chip : ChipState). chip.order) rest)) rests
    (ap (λ (chip : ChipState). chip.stage) rest) refl

-- a seek of one of four drives begins
seek_rests : (command : Command) (unit : ℕ) (motion : Motion) (start new : Front) → Stands start → IsObeyed command start new
    → new.adapter.controller ≡ record start.adapter.controller { command = []; seeks = with_motion start.adapter.controller.seeks (unit % 4) motion }
    → RestsBehind new × IsBase start.adapter.controller new.adapter.controller
seek_rests command unit motion start new stands obeyed is = (
  record {
    through = obeyed.through;
    takes = ap (λ (fdc : Fdc). fdc.phase) is ∙ stands.takes;
    seek = subst (λ (fdc : Fdc). IsOfFour fdc.seeks.seek) (sym is) (omega arith);
  },
  record { dor = ap (λ (fdc : Fdc). fdc.dor) is; non_dma = ap (λ (fdc : Fdc). fdc.non_dma) is; command = ap (λ (fdc : Fdc). fdc.command) is },
)

-- the inner controller is given a SEEK or a RECALIBRATE
pub given_moves : (unit : ℕ) (goal : Option ℕ) (start new : Front) → Stands start → GivesCommand (moving unit goal) start new → RestsBehind new × IsBase start.adapter.controller new.adapter.controller
given_moves unit (Some target) start new stands gives =
    let obeyed = given_obeyed (command.Seek unit target) start new stands refl gives in
    seek_rests (command.Seek unit target) unit (Toward (slice_index start.adapter.controller.seeks.cylinders (unit % 4)) target) start new stands obeyed (obeyed.obeys.0 stands.rests)
given_moves unit None start new stands gives =
    let obeyed = given_obeyed (command.Recalibrate unit) start new stands refl gives in
    seek_rests (command.Recalibrate unit) unit (Outward 79) start new stands obeyed (obeyed.obeys.0 stands.rests)

-- the inner controller begins a RECALIBRATE that gives at most so many pulses
within_rests : (b : Bool) (unit pulses : ℕ) (front : Front) → Stands front
    → (let fdc = front.adapter.controller in let new = (if b then record fdc { seeks = with_motion fdc.seeks (unit % 4) (Outward (pulses_within pulses)) } else fdc) in
    RestsBehind (record front { adapter = with_controller new front.adapter }) × IsBase fdc new)
within_rests true unit pulses front stands = (
  record { through = stands.through; takes = stands.takes; seek = (omega arith) },
  record { dor = refl; non_dma = refl; command = stands.none },
)
within_rests false unit pulses front stands =
    (stands_rests front stands, base_same front.adapter.controller stands.none)

pub recalibrated_rests : (unit pulses : ℕ) (front : Front) → Stands front → RestsBehind (recalibrated_outside unit pulses front) × IsBase front.adapter.controller (recalibrated_outside unit pulses front).adapter.controller
recalibrated_rests unit pulses front stands =
    let fdc = front.adapter.controller in
    subst (λ (f : Front). RestsBehind f × IsBase fdc f.adapter.controller) (sym (ap (λ stage. recalibrated_at stage unit pulses front) stands.through))
    (within_rests (is_idle fdc && (seek_bits fdc.seeks == 0)) unit pulses front stands)

-- the inner controller moves the heads, or their pulses are to come in the time that SPECIFY sets
moves_sound : (b : Bool) (goal : Option ℕ) (old new : ChipState) → IsBasis old → RestsBehind old.front → Stands old.front → MovesIf b goal old new → IsSound new
moves_sound true goal old new basis rests stands is = done_sound old _ new basis rests (record { front = refl; count = refl; order = refl }) refl is
moves_sound false goal old new basis rests stands (gives, rest) =
    let (still, base) = given_moves old.order.unit goal old.front new.front stands gives in moved_sound old new basis rest still base

configure_sound : (old new : ChipState) → IsBasis old → Stands old.front → GivesOn (configuring old.order.key.c old.order.key.h) (configured old) new → IsSound new
configure_sound old new basis stands (gives, rest) =
    let obeyed = given_obeyed (configuring old.order.key.c old.order.key.h) old.front new.front stands refl gives in
    let (still, base) = configured_stands (bit_and old.order.key.c 0x3F) old.order.key.h old.front new.front stands obeyed in
    basis_rests new Ready (basis_same old new basis base (ap (λ (chip : ChipState). chip.count) rest) (ap (λ (chip : ChipState). chip.order) rest)) (stands_rests new.front still)
    (ap (λ (chip : ChipState). chip.stage) rest) refl

-- ---- ---- a command that the inner controller executes

busy_sound : (what : ChipTask) (Gives : Front → Front → Type 0) (old new : ChipState) → IsBasis old → (sent : IsSent what Gives old new) → IsBusyWith what new.front → IsBase sent.set.adapter.controller new.front.adapter.controller → IsSound new
busy_sound what Gives old new basis sent busy base =
    basis_busy new what (basis_same old new basis (base_on old.front.adapter.controller sent.set.adapter.controller new.front.adapter.controller sent.base base) sent.count sent.order) busy sent.stage

-- READ ID
id_sound : (what : ChipTask) (unit : ℕ) (old new : ChipState) → IsBasis old → Stands old.front → (ExecutesBehind new.front → IsBusyWith what new.front) → Begins what (GivesCommand (identifying unit)) old new → IsSound new
id_sound what unit old new basis stands busy begins =
    let sent = begins_sent what (GivesCommand (identifying unit)) old new stands begins in
    let (executes, base) = id_executes unit sent.set new.front sent.stands (given_obeyed (command.ReadId unit) sent.set new.front sent.stands refl sent.gives) in
    busy_sound what (GivesCommand (identifying unit)) old new basis sent (busy executes) base

read_id_sound : (mfm : Bool) (old new : ChipState) → IsBasis old → Stands old.front → BeginsReadId mfm old new → IsSound new
read_id_sound true old new basis stands begins = id_sound task.Sent old.order.unit old new basis stands (λ executes. inr executes) begins
read_id_sound false old new basis stands begins = id_sound (task.Refused old.order.unit no_key false) old.order.unit old new basis stands (λ executes. executes) begins

-- FORMAT TRACK
formats_sound : (b mfm : Bool) (old new : ChipState) → IsBasis old → Stands old.front → (mfm && is_size old.order.key.c) ≡ b → FormatsIf b mfm old new → IsSound new
formats_sound true mfm old new basis stands is begins =
    let order = old.order in
    let sent = begins_sent task.Sent (GivesCommand (formatting order)) old new stands begins in
    let obeyed = format_obeyed order.unit order.key.c order.key.h order.key.r order.key.n sent.set new.front sent.stands (and_parts mfm (is_size order.key.c) is).1 sent.gives in
    let (executes, base) = format_executes order.unit order.key.c order.key.h order.key.r order.key.n sent.set new.front sent.stands obeyed in
    busy_sound task.Sent (GivesCommand (formatting order)) old new basis sent (inr executes) base
formats_sound false mfm old new basis stands is begins = id_sound (task.Refused old.order.unit no_key mfm) old.order.unit old new basis stands (λ executes. executes) begins

-- a command of sectors
transfers_sound : (b mfm : Bool) (what : ChipTask) (order : Order) (old new : ChipState) → IsBasis old → Stands old.front → (is_size old.order.key.n ≡ true → is_size order.key.n ≡ true)
    → (ServesBehind new.front → IsBusyWith what new.front) → (mfm && is_size old.order.key.n) ≡ b → TransfersIf b mfm what order old new → IsSound new
transfers_sound true mfm what order old new basis stands sized busy is begins =
    let first = transfer_sent (implies old) order in
    let sent = sought_sent (implies old) what (GivesTransfer first) old new stands begins in
    let (serves, base) = first_serves first sent.set new.front sent.stands (sized (and_parts mfm (is_size old.order.key.n) is).1) sent.gives in
    busy_sound what (GivesTransfer first) old new basis sent (busy serves) base
transfers_sound false mfm what order old new basis stands sized busy is begins =
    id_sound (task.Refused old.order.unit old.order.key mfm) old.order.unit old new basis stands (λ executes. executes) begins

-- a command of sectors, which the inner controller is given as that of another order
sectors_sound : (mfm : Bool) (what : ChipTask) (order : Order) (old new : ChipState) → IsBasis old → Stands old.front → (is_size old.order.key.n ≡ true → is_size order.key.n ≡ true)
    → (ServesBehind new.front → IsBusyWith what new.front) → Transfers mfm what order old new → IsSound new
sectors_sound mfm what order old new basis stands sized busy transfers =
    let noted = with_last old.order.last_sector old in
    transfers_sound (mfm && is_size old.order.key.n) mfm what order noted new (basis_set old noted basis) stands sized busy refl transfers

-- ---- all commands

obeys_sound : (code : ChipOpcode) (old new : ChipState) → IsBasis old → RestsBehind old.front → code_of old.order.code ≡ Some code → (needs_heads code && is_moving old) ≡ false → Obeys code old new → IsSound new
obeys_sound Recalibrate old new basis rests found free moves = moves_sound old.paced None old new basis rests (free_stands old basis rests free) moves
obeys_sound Seek old new basis rests found free moves = moves_sound old.paced (Some old.order.key.c) old new basis rests (free_stands old basis rests free) moves
obeys_sound (RelativeSeek inward) old new basis rests found free moves =
    moves_sound old.paced (Some (relative_target inward (cylinder_of old.order.unit old.interrupts) old.order.key.c)) old new basis rests (free_stands old basis rests free) moves
obeys_sound Configure old new basis rests found free gives = configure_sound old new basis (free_stands old basis rests free) gives
obeys_sound (ReadId mfm) old new basis rests found free begins = read_id_sound mfm old new basis (free_stands old basis rests free) begins
obeys_sound (FormatTrack mfm) old new basis rests found free begins =
    let set = with_keys old.order.key.h (with_last old.order.key.h old) in
    formats_sound (mfm && is_size old.order.key.c) mfm set new (basis_set old set basis) (free_stands old basis rests free) refl begins
obeys_sound (Transfer mfm) old new basis rests found free obeys = sectors_sound mfm task.Sent old.order old new basis (free_stands old basis rests free) (λ sized. sized) (λ serves. inl serves) obeys
obeys_sound (Verify mfm) old new basis rests found free obeys =
    sectors_sound mfm (task.Verify (sectors_verified old.order * size_of old.order.key.n)) (verifying old.order) old new basis (free_stands old basis rests free) (λ sized. sized) (λ serves. serves) obeys
obeys_sound (ReadTrack mfm) old new basis rests found free obeys =
    sectors_sound mfm (task.Track (track_begun (implies old) old.order)) (reading_one (absent_key old.order.key.c) old.order) old new basis (free_stands old basis rests free) (λ sized. refl) (λ serves. serves) obeys
obeys_sound _ old new basis rests found free is = done_sound old _ new basis rests (record { front = refl; count = refl; order = refl }) refl is

attends_by : (b : Bool) (code : ChipOpcode) (old new : ChipState) → IsBasis old → RestsBehind old.front → code_of old.order.code ≡ Some code → (needs_heads code && is_moving old) ≡ b → AttendsIf b code old new → IsSound new
attends_by true code old new basis rests found moves is = done_sound old _ new basis rests (record { front = refl; count = refl; order = refl }) refl is
attends_by false code old new basis rests found free obeys = obeys_sound code old new basis rests found free obeys

-- a whole command is attended to, or bytes that aren't one
pub attended_sound : (found : Option ChipOpcode) (old new : ChipState) → IsBasis old → RestsBehind old.front → code_of old.order.code ≡ found → AttendsTo found old new → IsSound new
attended_sound None old new basis rests is told = done_sound old _ new basis rests (record { front = refl; count = refl; order = refl }) refl told
attended_sound (Some code) old new basis rests is attends =
    let set = drained old in
    let resting : IsResting old set = drained_rests 4 old basis.whole rests in
    attends_by (needs_heads code && is_moving set) code set new (basis_same old set basis resting.base resting.count resting.order) resting.rests (ap (λ (order : Order). code_of order.code) resting.order ∙ is) refl attends
