-- Where no command is executed and no answer is given, a call leaves the heads and all results as they are, unless it is a
-- device step, a reset or an access of the data port.
use Rattle.std.proofs.Common.{◌≡◌, true, false, not, ◌&&◌, ◌==◌, refl, sym, ◌∙◌, ap, subst, if◌then◌else◌, ℕ, zero, suc, ◌+◌, ◌%◌, ◌<◌, nat_le, Bool, ◌||◌, Option, Some, None, is_some}
use Rattle.laws_chip.proofs.Common.{and_left, and_right, eqb-true, false≢true, is_held, Fdc, ChipState, passes, passes_at, passes_by_channel, passes_by_port, with_front, is_format, GivesChipIf, GivesIf, ReadsAt, ReadsIf, TakesByte, TakesIf, latched_by, reset_if, value_behind, is_by_port, ChipStage, Busy, Held, Call, Does, is_reset, is_step, is_of_data_port, waits_for_heads, chip_count_told as count_told, and_from, or_parts, Front, is_ready, pending_outside, sensed_outside, code_of, parameters, Attends, AttendsIf, AttendsTo, drained, implies, is_moving, is_size, is_told, kept, moves_heads, needs_heads, transfer_sent, with_result, Paces, CollectsIf, ComesIf, WritesChip, is_whole, may_come, with_next, Follows, StepsChip, ChipOpcode, Specify, SenseInterrupt, DumpRegisters, Version, Perpendicular, Lock, Order, Ready, BeginsUnless, Completes, CompletesTransfer, IsBegun, IsDoneFree, IsFreeBehind, IsHeldFor, IsTransferOf, completed, still_moves, IsSound, RestsBehind, TransferCode as Transfer}
use Rattle.laws_chip.proofs.Channels.{IsLeft, front_left}
use Rattle.laws_chip.proofs.PassedOn.{other_read}
use Rattle.laws_chip.proofs.SoundParts.{is_busy, IsBasis, at_rest, basis_same, sound_basis}
use Rattle.laws_chip.proofs.UnderWay.{clash, either_way, port_stage, Stands, stands_ready}
use Rattle.fdc_chip.specs.Doing.{drained_by}
use Rattle.laws_chip.proofs.Attended.{free_stands}
use Rattle.laws_chip.proofs.CommandsBegun.{transfer_begun}
use Rattle.laws_chip.proofs.Rests.{IsResting, drained_rests}
use Rattle.laws_chip.proofs.SoundCalls.{code_few, comes_free}
use Rattle.laws_chip.proofs.SoundSteps.{stepped_rests}
use Rattle.laws_chip.specs.Calls as made
use Rattle.laws_chip.proofs.SoundParts as parts

pub record KeepsHeads (old new : ChipState) : Type 0 where
  pub stage : new.stage ≡ old.stage
  pub count : new.count ≡ old.count
  pub order : new.order ≡ old.order
  pub interrupts : new.interrupts ≡ old.interrupts
  pub settings : new.settings ≡ old.settings
  pub pace : new.pace ≡ old.pace
  pub through : new.front.stage ≡ old.front.stage
  pub left : IsLeft old.front.adapter.controller new.front.adapter.controller

same_left : (old new : Fdc) → new ≡ old → IsLeft old new
same_left old new is = subst (IsLeft old) (sym is) (record { phase = refl; seeks = refl; non_dma = refl; command = refl; poll = refl; interrupt = refl; free = λ held. held })

pub left_free : (old new : Fdc) → IsLeft old new → is_held old ≡ false → is_held new ≡ false
left_free old new left free = either_way (is_held new) (λ held. clash (is_held old) free (left.free held)) (λ unheld. unheld)

-- nothing changes but the front, straps, and what DOR and TDR latch
rest_kept : (old set new : ChipState) → set ≡ record old { gated = set.gated; tape = set.tape; strapped = set.strapped; paced = set.paced } → new ≡ with_front new.front set → new.front.stage ≡ old.front.stage
    → IsLeft old.front.adapter.controller new.front.adapter.controller → KeepsHeads old new
rest_kept old set new set_is rest through left = record {
  stage = ap (λ (chip : ChipState). chip.stage) rest ∙ ap (λ (chip : ChipState). chip.stage) set_is;
  count = ap (λ (chip : ChipState). chip.count) rest ∙ ap (λ (chip : ChipState). chip.count) set_is;
  order = ap (λ (chip : ChipState). chip.order) rest ∙ ap (λ (chip : ChipState). chip.order) set_is;
  interrupts = ap (λ (chip : ChipState). chip.interrupts) rest ∙ ap (λ (chip : ChipState). chip.interrupts) set_is;
  settings = ap (λ (chip : ChipState). chip.settings) rest ∙ ap (λ (chip : ChipState). chip.settings) set_is;
  pace = ap (λ (chip : ChipState). chip.pace) rest ∙ ap (λ (chip : ChipState). chip.pace) set_is;
  through = through;
  left = left;
}

same_kept : (old set new : ChipState) → set ≡ record old { gated = set.gated; tape = set.tape; strapped = set.strapped; paced = set.paced } → new ≡ set → KeepsHeads old new
same_kept old set new set_is is =
    let front = ap (λ (chip : ChipState). chip.front) is ∙ ap (λ (chip : ChipState). chip.front) set_is in
    rest_kept old set new set_is (is ∙ ap (λ f. with_front f set) (sym (ap (λ (chip : ChipState). chip.front) is))) (ap (λ f. f.stage) front)
    (same_left old.front.adapter.controller new.front.adapter.controller (ap (λ f. f.adapter.controller) front))

no_bytes_at : (stage : ChipStage) → is_busy stage ≡ false → passes_at stage ≡ false
no_bytes_at (Busy task) idle = absurd (false≢true (sym idle))
no_bytes_at _ idle = refl

no_bytes : (chip : ChipState) → is_busy chip.stage ≡ false → passes chip ≡ false
no_bytes chip idle = and_left (passes_at chip.stage) (not (is_format chip.order && (chip.keys == 0))) (no_bytes_at chip.stage idle)

no_channel : (chip : ChipState) → is_busy chip.stage ≡ false → passes_by_channel chip ≡ false
no_channel chip idle = and_right (chip.gated && not (is_by_port chip.settings)) (passes chip) (no_bytes chip idle)

pub no_port : (chip : ChipState) → is_busy chip.stage ≡ false → passes_by_port chip ≡ false
no_port chip idle = and_right (is_by_port chip.settings) (passes chip) (no_bytes chip idle)

not_counted : (stage : ChipStage) (chip : ChipState) → is_busy stage ≡ false → count_told stage chip ≡ chip
not_counted (Busy task) chip idle = absurd (false≢true (sym idle))
not_counted _ chip idle = refl

pub call_idle : (call : Call) (old new : ChipState) → is_busy old.stage ≡ false → Does call old new → is_step call ≡ false → is_reset call ≡ false → is_of_data_port call ≡ false → KeepsHeads old new
call_idle made.Steps old new idle does no_step quiet other = absurd (false≢true (sym no_step))
call_idle (made.Takes byte) old new idle does no_step quiet other = same_kept old old new refl (subst (λ b. TakesIf b old byte new) (no_channel old idle) does).1
call_idle (made.Gives byte given) old new idle does no_step quiet other = same_kept old old new refl (subst (λ b. GivesChipIf b byte old given new) (no_channel old idle) does).1
call_idle made.Counts old new idle does no_step quiet other = same_kept old old new refl (does ∙ not_counted old.stage old idle)
call_idle (made.Reads port value) old new idle does no_step quiet other = same_kept old old new refl (other_read port value old new other does)
call_idle (made.Writes port value) old new idle does no_step quiet other =
    let given = value_behind port value in
    let set = latched_by port value old in
    let (front, rest) = does.others other in
    rest_kept old set new refl (subst (λ b. new ≡ with_front new.front (reset_if b set)) quiet rest) (port_stage port given old.front new.front front other quiet) (front_left port given old.front new.front front other quiet)
call_idle made.Changes old new idle does no_step quiet other =
    rest_kept old old new refl does.rest does.front.stage (same_left old.front.adapter.controller new.front.adapter.controller does.front.controller)
call_idle (made.Straps on) old new idle does no_step quiet other = same_kept old (record old { strapped = on }) new refl does
call_idle (made.StrapsSteps on) old new idle does no_step quiet other = same_kept old (record old { paced = on }) new refl does

waits_idle : (stage : ChipStage) → waits_for_heads stage ≡ true → is_busy stage ≡ false
waits_idle (Busy task) waits = absurd (false≢true waits)
waits_idle _ waits = refl

pub call_heads : (call : Call) (old new : ChipState) → waits_for_heads old.stage ≡ true → Does call old new → is_step call ≡ false → is_reset call ≡ false → is_of_data_port call ≡ false → KeepsHeads old new
call_heads call old new waits does no_step quiet other = call_idle call old new (waits_idle old.stage waits) does no_step quiet other

-- an access of the data port leaves all as it is, where the chip neither takes nor gives bytes
pub data_same : (call : Call) (old new : ChipState) → old.stage ≡ Held → Does call old new → is_of_data_port call ≡ true → new ≡ old
data_same (made.Reads port value) old new at does here =
    let reads : ReadsIf (passes_by_port old) old value new = subst (λ stage. ReadsAt stage old value new) at (does.byte (eqb-true port 0x3F5 here)) in
    (subst (λ b. ReadsIf b old value new) (no_port old (ap is_busy at)) reads).1
data_same (made.Writes port value) old new at does here =
    let gives : GivesIf (passes_by_port old) value old new = subst (λ stage. TakesByte stage value old new) at (does.bytes (eqb-true port 0x3F5 here)) in
    subst (λ b. GivesIf b value old new) (no_port old (ap is_busy at)) gives
data_same _ old new at does here = absurd (false≢true here)

-- ---- the last byte of a command: the inner controller is free for it, and it begins; or it is held until heads
-- stand.

-- ---- ---- results that are taken over leave the inner controller in a state that follows from the one before

pub kept_front : (result : Option (ℕ × ℕ)) (old : ChipState) → (kept result old).front ≡ old.front
kept_front None old = refl
kept_front (Some (status, cylinder)) old = by_told (is_told old.pace status)
  where
    by_told : (b : Bool) → (if b then record old { interrupts = with_result status cylinder old.interrupts } else old).front ≡ old.front
    by_told true = refl
    by_told false = refl

pub drained_front : (n : ℕ) (one other : ChipState) → one.front ≡ other.front → (drained_by n one).front ≡ (drained_by n other).front
unfolding drained_by
drained_front zero one other same = same
drained_front (suc n) one other same =
    let first = drained_by n one in
    let second = drained_by n other in
    kept_front (pending_outside first.front) (with_front (sensed_outside first.front) first)
    ∙ (ap sensed_outside (drained_front n one other same)
    ∙ sym (kept_front (pending_outside second.front) (with_front (sensed_outside second.front) second)))

kept_pace : (result : Option (ℕ × ℕ)) (old : ChipState) → (kept result old).pace ≡ old.pace
kept_pace None old = refl
kept_pace (Some (status, cylinder)) old = by_told (is_told old.pace status)
  where
    by_told : (b : Bool) → (if b then record old { interrupts = with_result status cylinder old.interrupts } else old).pace ≡ old.pace
    by_told true = refl
    by_told false = refl

pub drained_pace : (n : ℕ) (chip : ChipState) → (drained_by n chip).pace ≡ chip.pace
unfolding drained_by
drained_pace zero chip = refl
drained_pace (suc n) chip =
    let before = drained_by n chip in
    kept_pace (pending_outside before.front) (with_front (sensed_outside before.front) before) ∙ drained_pace n chip

pub same_moves : (one other : ChipState) → one.front ≡ other.front → one.pace ≡ other.pace → still_moves one ≡ still_moves other
same_moves one other same paced =
    ap (λ b. b || moves_heads (drained one).front) (ap is_some (drained_pace 4 one ∙ (paced ∙ sym (drained_pace 4 other))))
    ∙ ap (λ (front : Front). is_some (drained other).pace || moves_heads front) (drained_front 4 one other same)

-- ---- a whole command

-- a chip where nothing is under way attends to the command
pub record IsAttended (code : ChipOpcode) (set new : ChipState) : Type 0 where
  pub basis : IsBasis set
  pub rests : RestsBehind set.front
  pub attends : Attends code set new

free_of : (front : Front) → Stands front → RestsBehind front → moves_heads front ≡ false → IsFreeBehind front
free_of front stands rests still = record {
  ready = stands_ready front stands;
  stands = still;
  seek = rests.seek;
  by_dma = stands.by_dma;
}

pub attended_free : (code : ChipOpcode) (old new : ChipState) → IsAttended code old new → still_moves old ≡ false → IsDoneFree code old.order (implies old) new
attended_free code old new attended still =
    let set = drained old in
    let resting : IsResting old set = drained_rests 4 old attended.basis.whole attended.rests in
    let stands = free_stands set (basis_same old set attended.basis resting.base resting.count resting.order) resting.rests still in
    record {
      set = set;
      order_is = resting.order;
      implied = resting.implied;
      free = free_of set.front stands resting.rests (or_parts (is_some set.pace) (moves_heads set.front) still).1;
      obeys = subst (λ b. AttendsIf b code set new) (and_right (needs_heads code) (is_moving set) still) attended.attends;
    }

pub attended_held : (code : ChipOpcode) (old new : ChipState) → IsAttended code old new → needs_heads code ≡ true → still_moves old ≡ true → IsHeldFor old.order new
attended_held code old new attended heads moves =
    let set = drained old in
    let resting : IsResting old set = drained_rests 4 old attended.basis.whole attended.rests in
    let is : new ≡ record set { stage = Held } = subst (λ b. AttendsIf b code set new) (and_from (needs_heads code) (is_moving set) heads moves) attended.attends in
    record { held = ap (λ (chip : ChipState). chip.stage) is; order_is = ap (λ (chip : ChipState). chip.order) is ∙ resting.order }

attended_begins : (b : Bool) (old new : ChipState) → still_moves old ≡ b → IsTransferOf old.order → IsAttended (Transfer true) old new → BeginsUnless b (implies old) old.order new
attended_begins true old new moves whole attended = attended_held (Transfer true) old new attended refl moves
attended_begins false old new still whole attended =
    let done = attended_free (Transfer true) old new attended still in
    let size : is_size done.set.order.key.n ≡ true = ap (λ (order : Order). is_size order.key.n) done.order_is ∙ whole.size in
    subst (λ order. IsBegun (transfer_sent (implies old) order) new) done.order_is
    (subst (λ seeks. IsBegun (transfer_sent seeks done.set.order) new) done.implied (transfer_begun done.set new size done.free done.obeys))

-- ---- ---- the last byte of a command

-- the chip that attends to the command: none of its bytes waits
abbrev pub attending : ℕ → ChipState → ChipState
attending byte old = record (with_next byte old) { count = 0 }

-- the byte isn't the first one, and no more are wanted
pub last_bytes : (code : ChipOpcode) → needs_heads code ≡ true → ((parameters code == 0) ≡ false) × (nat_le (parameters code + 1) ((parameters code + 1) % 256) ≡ true)
last_bytes Specify heads = absurd (false≢true heads)
last_bytes SenseInterrupt heads = absurd (false≢true heads)
last_bytes Version heads = absurd (false≢true heads)
last_bytes Perpendicular heads = absurd (false≢true heads)
last_bytes DumpRegisters heads = absurd (false≢true heads)
last_bytes (Lock on) heads = absurd (false≢true heads)
last_bytes _ heads = (refl, refl)

pub byte_attends : (code : ChipOpcode) (byte : ℕ) (old new : ChipState) → IsSound old → byte < 256 → needs_heads code ≡ true → Completes code byte old → WritesChip 0x3F5 byte old new → IsAttended code (attending byte old) new
byte_attends code byte old new sound few heads completes writes =
    let (some, enough) = last_bytes code heads in
    let begun : (old.count == 0) ≡ false = ap (λ n. n == 0) completes.others ∙ some in
    let at : old.stage ≡ Ready = sound.comes begun in
    let comes : may_come old ≡ true = ap (λ b. not b || is_ready old.front) begun in
    let taken : ComesIf (may_come old) byte old new = subst (λ stage. TakesByte stage byte old new) at (writes.bytes refl) in
    let found = code_of (completed byte old).code in
    let collects : CollectsIf (is_whole ((old.count + 1) % 256) found) found (with_next byte old) new = subst (λ b. ComesIf b byte old new) comes taken in
    let named : CollectsIf (is_whole ((old.count + 1) % 256) (Some code)) (Some code) (with_next byte old) new =
    subst (λ (is : Option ChipOpcode). CollectsIf (is_whole ((old.count + 1) % 256) is) is (with_next byte old) new) completes.whole collects in
    let whole : is_whole ((old.count + 1) % 256) (Some code) ≡ true = ap (λ n. nat_le (parameters code + 1) ((n + 1) % 256)) completes.others ∙ enough in
    record {
      basis = record {
        by_dma = sound.by_dma;
        whole = sound.whole;
        free = comes_free old sound comes;
        none = refl;
        gated = sound.lets_out (comes_free old sound comes);
        code = code_few old.count byte old.order few sound.code;
      };
      rests = at_rest old.stage old.front (ap is_busy at) sound.now;
      attends = subst (λ b. CollectsIf b (Some code) (with_next byte old) new) whole named;
    }

pub byte_free : (code : ChipOpcode) (byte : ℕ) (old new : ChipState) → IsSound old → byte < 256 → needs_heads code ≡ true → Completes code byte old → WritesChip 0x3F5 byte old new → still_moves old ≡ false
    → IsDoneFree code (completed byte old) (implies old) new
byte_free code byte old new sound few heads completes writes still =
    attended_free code (attending byte old) new (byte_attends code byte old new sound few heads completes writes) (same_moves (attending byte old) old refl refl ∙ still)

pub byte_begins : (byte : ℕ) (old new : ChipState) → IsSound old → byte < 256 → CompletesTransfer byte old → WritesChip 0x3F5 byte old new
    → BeginsUnless (still_moves old) (implies old) (completed byte old) new
byte_begins byte old new sound few completes writes =
    let last : Completes (Transfer true) byte old = record { others = completes.eight; whole = completes.whole.code } in
    attended_begins (still_moves old) (attending byte old) new (same_moves (attending byte old) old refl refl) completes.whole (byte_attends (Transfer true) byte old new sound few refl last writes)

-- ---- ---- a device step of a held command

pub step_attends : (code : ChipOpcode) (old paced new : ChipState) → IsSound old → old.stage ≡ Held → code_of old.order.code ≡ Some code → IsResting old paced → AttendsTo (code_of paced.order.code) paced new → IsAttended code paced new
step_attends code old paced new sound at is was attends = record {
  basis = basis_same old paced (sound_basis old (ap parts.is_ready at) sound) was.base was.count was.order;
  rests = was.rests;
  attends = subst (λ (found : Option ChipOpcode). AttendsTo found paced new) (ap (λ (order : Order). code_of order.code) was.order ∙ is) attends;
}

-- what the chip does after the device step
pub follows_held : (old new : ChipState) (step : StepsChip old new) → old.stage ≡ Held → Follows Held (with_front step.between old) new
follows_held old new step at = subst (λ stage. Follows stage (with_front step.between old) new) at step.follows

pub step_rests : (old paced new : ChipState) (step : StepsChip old new) → IsSound old → old.stage ≡ Held → Paces old.pace (with_front step.between old) paced → IsResting old paced
step_rests old paced new step sound at paces = stepped_rests old step.between paced sound (ap is_busy at) step.steps paces

of_order : (code : ChipOpcode) (one other : Order) (seeks implied : Bool) (new : ChipState) → one ≡ other → seeks ≡ implied → IsDoneFree code one seeks new → IsDoneFree code other implied new
of_order code one other seeks implied new is same done = record { set = done.set; order_is = done.order_is ∙ is; implied = done.implied ∙ same; free = done.free; obeys = done.obeys }

pub step_free : (code : ChipOpcode) (old new : ChipState) (step : StepsChip old new) → IsSound old → old.stage ≡ Held → code_of old.order.code ≡ Some code
    → (paced : ChipState) × Paces old.pace (with_front step.between old) paced × (still_moves paced ≡ false → IsDoneFree code old.order (implies old) new)
step_free code old new step sound at is =
    let (paced, paces, attends) = follows_held old new step at in
    let was = step_rests old paced new step sound at paces in
    let attended = step_attends code old paced new sound at is was attends in
    (paced, paces, λ still. of_order code paced.order old.order (implies paced) (implies old) new was.order was.implied (attended_free code paced new attended still))

pub step_begins : (order : Order) (old new : ChipState) (step : StepsChip old new) → IsSound old → IsHeldFor order old → IsTransferOf order
    → (paced : ChipState) × Paces old.pace (with_front step.between old) paced × BeginsUnless (still_moves paced) (implies old) order new
step_begins order old new step sound held whole =
    let (paced, paces, attends) = follows_held old new step held.held in
    let was = step_rests old paced new step sound held.held paces in
    let same : paced.order ≡ order = was.order ∙ held.order_is in
    let is : code_of old.order.code ≡ Some (Transfer true) = ap (λ (o : Order). code_of o.code) held.order_is ∙ whole.code in
    let attended = step_attends (Transfer true) old paced new sound held.held is was attends in (
      paced,
      paces,
      subst (λ o. BeginsUnless (still_moves paced) (implies old) o new) same
          (subst (λ seeks. BeginsUnless (still_moves paced) seeks paced.order new) was.implied (attended_begins (still_moves paced) paced new refl (subst IsTransferOf (sym same) whole) attended)),
    )

-- ---- ---- the command is held through each other call

pub call_held : (order : Order) (call : Call) (old new : ChipState) → IsHeldFor order old → Does call old new → is_step call ≡ false → is_reset call ≡ false → IsHeldFor order new
call_held order call old new was does no_step quiet = either_way (is_of_data_port call)
    (λ here. subst (IsHeldFor order) (sym (data_same call old new was.held does here)) was)
    (λ other.
    let keeps = call_heads call old new (ap waits_for_heads was.held) does no_step quiet other in
    record { held = keeps.stage ∙ was.held; order_is = keeps.order ∙ was.order_is })
