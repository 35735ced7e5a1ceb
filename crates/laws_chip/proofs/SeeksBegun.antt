-- A seek begins: its last byte comes to a chip whose heads stand, with the strap for the time of step pulses off or on.
use Rattle.std.proofs.Common.{◌≡◌, inl, inr, ℕ, zero, suc, ◌+◌, ◌*◌, ◌%◌, ◌^◌, ◌<◌, ◌≤◌, Bool, true, false, not, if◌then◌else◌, Option, Some, None, is_some, List, [], ◌∷◌, length, option_map, position, slice_index, slice_set, refl, sym, ◌∙◌, ap, subst, arith, pow_pos}
use Rattle.laws_chip.proofs.Common.{option_map_or, and_from, and_right, false≢true, or_parts, IsMotion, is_begun, Motion, Outward, Toward, DriveSeek, Taking, recalibrating, seeking_to, is_taking, takes_in, IsInRange, is_held, is_idle, Fdc, after_result, without_result, Front, GivesCommand, with_controller, pending_outside, sensed_at, sensed_outside, Through, ChipState, with_front, AttendsIf, Moves, MovesIf, Obeys, drained, drained_one, is_moving, is_told, kept, moves_heads, moving, needs_heads, pace_begun, relative_target, Interrupting, cylinder_of, with_result, WritesChip, step_words, ChipOpcode, Specify, Recalibrate, SenseInterrupt, DumpRegisters, Seek, RelativeSeek, Version, Perpendicular, Lock, Order, PacedSeek, Ready, Completes, completed, still_moves, HeadsPaced, StandsBehind, most_paced, pulses_left, HeadsGo, IsSoundInRange, SeeksBehind, goal_of, most_of, steps_left, Seeks as Seeking}
use Rattle.fdc_chip.specs.Doing.{drained_by}
use Rattle.laws_chip.proofs.Attended.{free_stands}
use Rattle.laws_chip.proofs.Rests.{IsResting, drained_rests}
use Rattle.laws_chip.proofs.SoundParts.{basis_same}
use Rattle.laws_chip.proofs.WholeTransfers.{attending, byte_attends, drained_front, drained_pace, kept_front, same_moves}
use Rattle.laws_chip.proofs.HeadsGoing.{none_pending}
use Rattle.laws_chip.proofs.UnderWay.{Stands, given_obeyed}
use Rattle.fdc_commands.specs.Seeking as seeking
use Rattle.fdc_commands.specs.declared.command.Command.TheVariants as command

-- ---- results that are taken over

-- the pending results without that of the lowest drive
abbrev without_first : List (Option ℕ) → List (Option ℕ)
without_first pending = option_map_or (λ p. slice_set pending p None) (position is_some pending) pending

all_clear : (w x y z : Option ℕ) → without_first (without_first (without_first (without_first (w ∷ x ∷ y ∷ z ∷ [])))) ≡ none_pending
all_clear None None None None = refl
all_clear None None None (Some z) = refl
all_clear None None (Some y) None = refl
all_clear None None (Some y) (Some z) = refl
all_clear None (Some x) None None = refl
all_clear None (Some x) None (Some z) = refl
all_clear None (Some x) (Some y) None = refl
all_clear None (Some x) (Some y) (Some z) = refl
all_clear (Some w) None None None = refl
all_clear (Some w) None None (Some z) = refl
all_clear (Some w) None (Some y) None = refl
all_clear (Some w) None (Some y) (Some z) = refl
all_clear (Some w) (Some x) None None = refl
all_clear (Some w) (Some x) None (Some z) = refl
all_clear (Some w) (Some x) (Some y) None = refl
all_clear (Some w) (Some x) (Some y) (Some z) = refl

four_clear : (pending : List (Option ℕ)) → length pending ≡ 4 → without_first (without_first (without_first (without_first pending))) ≡ none_pending
four_clear (w ∷ x ∷ y ∷ z ∷ []) four = all_clear w x y z
four_clear _ four = absurd (omega arith)

-- the controller takes commands
pub record IsIdleAt (front : Front) : Type 0 where
  pub through : front.stage ≡ Through
  pub takes : front.adapter.controller.phase ≡ Taking
  pub whole : front.adapter.controller.command ≡ []
  pub free : is_held front.adapter.controller ≡ false

-- the controller takes commands once a result was taken
record IsTaken (old new : Fdc) : Type 0 where
  takes : new.phase ≡ Taking
  whole : new.command ≡ []
  held : is_held new ≡ is_held old
  poll : new.poll_due ≡ old.poll_due
  pending : new.seeks.pending ≡ without_first old.seeks.pending

result_taken : (fdc : Fdc) → IsTaken fdc (without_result (seeking.sensed fdc.seeks) fdc)
result_taken fdc = by_first (position is_some s.pending) refl
  where
    s : Seeking
    s = fdc.seeks

    by_first : (first : Option ℕ) → position is_some fdc.seeks.pending ≡ first
        → IsTaken fdc (without_result (option_map (λ drive. (seeking.status_of fdc.seeks drive, slice_index fdc.seeks.cylinders drive)) first) fdc)
    by_first None is = record { takes = refl; whole = refl; held = refl; poll = refl; pending = sym (ap (λ f. option_map_or (λ p. slice_set fdc.seeks.pending p None) f fdc.seeks.pending) is) }
    by_first (Some drive) is = record {
      takes = refl;
      whole = refl;
      held = refl;
      poll = refl;
      pending = ap (λ f. (option_map_or (seeking.without_result fdc.seeks) f fdc.seeks).pending) is ∙ sym (ap (λ f. option_map_or (λ p. slice_set fdc.seeks.pending p None) f fdc.seeks.pending) is);
    }

pub idle_takes : (front : Front) → IsIdleAt front → is_idle front.adapter.controller ≡ true
idle_takes front idle =
    let fdc = front.adapter.controller in
    and_from (is_taking fdc) (not (is_begun fdc.command)) (ap (λ phase. takes_in phase (is_held fdc)) idle.takes ∙ ap not idle.free) (ap (λ command. not (is_begun command)) idle.whole)

-- results were taken
pub record AreTaken (old new : Front) : Type 0 where
  pub idle : IsIdleAt new
  pub poll : new.adapter.controller.poll_due ≡ old.adapter.controller.poll_due

pub one_taken : (chip : ChipState) → IsIdleAt chip.front → AreTaken chip.front (drained_one chip).front × ((drained_one chip).front.adapter.controller.seeks.pending ≡ without_first chip.front.adapter.controller.seeks.pending)
one_taken chip idle =
    let front = chip.front in
    let fdc = front.adapter.controller in
    let taken = result_taken fdc in
    let over : after_result fdc ≡ without_result (seeking.sensed fdc.seeks) fdc = ap (λ b. if b then without_result (seeking.sensed fdc.seeks) fdc else fdc) (idle_takes front idle) in
    let is : (drained_one chip).front ≡ record front { adapter = with_controller (without_result (seeking.sensed fdc.seeks) fdc) front.adapter } =
    kept_front (pending_outside front) (with_front (sensed_outside front) chip)
    ∙ (ap (λ stage. sensed_at stage front) idle.through ∙ ap (λ (c : Fdc). record front { adapter = with_controller c front.adapter }) over) in
    subst (λ (f : Front). AreTaken front f × (f.adapter.controller.seeks.pending ≡ without_first fdc.seeks.pending)) (sym is) (
      record { idle = record { through = idle.through; takes = taken.takes; whole = taken.whole; free = taken.held ∙ idle.free }; poll = taken.poll },
      taken.pending,
    )

-- all results were taken
pub record AreAllTaken (old new : Front) : Type 0 where
  pub taken : AreTaken old new
  pub pending : new.adapter.controller.seeks.pending ≡ none_pending

pub all_taken : (chip : ChipState) → IsIdleAt chip.front → length chip.front.adapter.controller.seeks.pending ≡ 4 → AreAllTaken chip.front (drained chip).front
unfolding drained_by
all_taken chip idle four =
    let first = drained_one chip in
    let second = drained_one first in
    let third = drained_one second in
    let (one, a) = one_taken chip idle in
    let (two, b) = one_taken first one.idle in
    let (three, c) = one_taken second two.idle in
    let (last, d) = one_taken third three.idle in
    record {
      taken = record { idle = last.idle; poll = last.poll ∙ (three.poll ∙ (two.poll ∙ one.poll)) };
      pending = d ∙ (ap without_first c ∙ (ap (λ p. without_first (without_first p)) b ∙ (ap (λ p. without_first (without_first (without_first p))) a ∙ four_clear chip.front.adapter.controller.seeks.pending four)));
    }

-- what taking over leaves of the chip's interrupts depends only on its pace, its interrupts and the result
kept_interrupts : (result : Option (ℕ × ℕ)) (one other : ChipState) → one.pace ≡ other.pace → one.interrupts ≡ other.interrupts
    → (kept result one).interrupts ≡ (kept result other).interrupts
kept_interrupts None one other pace same = same
kept_interrupts (Some (status, cylinder)) one other pace same =
    by_told (is_told one.pace status)
    ∙ ap (λ p. (if is_told p status then record other { interrupts = with_result status cylinder other.interrupts } else other).interrupts) pace
  where
    by_told : (b : Bool) → (if b then record one { interrupts = with_result status cylinder one.interrupts } else one).interrupts
        ≡ (if b then record other { interrupts = with_result status cylinder other.interrupts } else other).interrupts
    by_told true = ap (with_result status cylinder) same
    by_told false = same

drained_interrupts : (n : ℕ) (one other : ChipState) → one.front ≡ other.front → one.pace ≡ other.pace → one.interrupts ≡ other.interrupts → (drained_by n one).interrupts ≡ (drained_by n other).interrupts
unfolding drained_by
drained_interrupts zero one other front pace same = same
drained_interrupts (suc n) one other front pace same =
    let first = drained_by n one in
    let second = drained_by n other in
    let after = with_front (sensed_outside second.front) second in
    kept_interrupts (pending_outside first.front) (with_front (sensed_outside first.front) first) after
    (drained_pace n one ∙ (pace ∙ sym (drained_pace n other))) (drained_interrupts n one other front pace same)
    ∙ ap (λ (f : Front). (kept (pending_outside f) after).interrupts) (drained_front n one other front)

-- the chip but its front and interrupts stays
kept_rest : (result : Option (ℕ × ℕ)) (old : ChipState) → (interrupts : Interrupting) × (kept result old ≡ record old { interrupts = interrupts })
kept_rest None old = (old.interrupts, refl)
kept_rest (Some (status, cylinder)) old = by_told (is_told old.pace status)
  where
    by_told : (b : Bool) → (interrupts : Interrupting) × ((if b then record old { interrupts = with_result status cylinder old.interrupts } else old) ≡ record old { interrupts = interrupts })
    by_told true = (with_result status cylinder old.interrupts, refl)
    by_told false = (old.interrupts, refl)

pub drained_rest : (n : ℕ) (chip : ChipState) → (front : Front) × (interrupts : Interrupting) × (drained_by n chip ≡ record chip { front = front; interrupts = interrupts })
unfolding drained_by
drained_rest zero chip = (chip.front, chip.interrupts, refl)
drained_rest (suc n) chip =
    let before = drained_by n chip in
    let front = sensed_outside before.front in
    let (interrupts, is) = kept_rest (pending_outside before.front) (with_front front before) in
    (front, interrupts, is ∙ ap (λ (set : ChipState). record set { front = front; interrupts = interrupts }) (drained_rest n chip).2)

-- ---- the command

goal_heads : (code : ChipOpcode) (order : Order) (interrupts : Interrupting) (goal : Option ℕ) → goal_of code order interrupts ≡ Some goal → needs_heads code ≡ true
goal_heads Specify order interrupts goal is = absurd (cc)
goal_heads SenseInterrupt order interrupts goal is = absurd (cc)
goal_heads Version order interrupts goal is = absurd (cc)
goal_heads Perpendicular order interrupts goal is = absurd (cc)
goal_heads DumpRegisters order interrupts goal is = absurd (cc)
goal_heads (Lock on) order interrupts goal is = absurd (cc)
goal_heads _ order interrupts goal is = refl

same_some : (one other : Option ℕ) → Some one ≡ Some other → one ≡ other
same_some one other is = cc

goal_moves : (code : ChipOpcode) (goal : Option ℕ) (set new : ChipState) → goal_of code set.order set.interrupts ≡ Some goal → Obeys code set new → Moves goal set new
goal_moves Recalibrate goal set new is obeys = subst (λ g. Moves g set new) (same_some None goal is) obeys
goal_moves Seek goal set new is obeys = subst (λ g. Moves g set new) (same_some (Some set.order.key.c) goal is) obeys
goal_moves (RelativeSeek inward) goal set new is obeys =
    subst (λ g. Moves g set new) (same_some (Some (relative_target inward (cylinder_of set.order.unit set.interrupts) set.order.key.c)) goal is) obeys
goal_moves _ goal set new is obeys = absurd (cc)

-- ---- what is then under way in the inner controller

pub motion_within : (motion : Motion) → IsMotion motion → steps_left motion ≤ 256
motion_within (Toward cylinder target) (first, second) = omega arith
motion_within _ few = omega arith

-- where the seek goes that the inner controller is given, and from where
abbrev pub motion_to : ℕ → ℕ → Front → Motion
motion_to unit target start = Toward (slice_index start.adapter.controller.seeks.cylinders (unit % 4)) target

-- the inner controller is given a SEEK
pub seek_sent : (unit target : ℕ) (start new : Front) → Stands start → GivesCommand (moving unit (Some target)) start new
    → (new.stage ≡ Through) × (new.adapter.controller ≡ seeking_to unit target (record start.adapter.controller { command = [] }))
seek_sent unit target start new stands gives = let obeyed = given_obeyed (command.Seek unit target) start new stands refl gives in
    (obeyed.through, obeyed.obeys.0 stands.rests)

pub given_within : (unit target : ℕ) (start new : Front) → Stands start → IsInRange new.adapter.controller → GivesCommand (moving unit (Some target)) start new → steps_left (motion_to unit target start) ≤ 256
given_within unit target start new stands range gives =
    let motion = motion_to unit target start in
    motion_within motion (range.seeks.motion (record { drive = unit % 4; motion = motion }) (ap (λ (fdc : Fdc). fdc.seeks.seek) (seek_sent unit target start new stands gives).1))

pub given_seek : (left unit target : ℕ) (start new : Front) → Stands start → start.adapter.controller.seeks.pending ≡ none_pending → start.adapter.controller.poll_due ≡ false → IsInRange new.adapter.controller
    → GivesCommand (moving unit (Some target)) start new → steps_left (motion_to unit target start) ≤ left → SeeksBehind left (unit % 4) (Some target) new
given_seek left unit target start new stands none polled range gives within =
    let (through, is) = seek_sent unit target start new stands gives in
    record {
      through = through;
      takes = ap (λ (fdc : Fdc). fdc.phase) is ∙ stands.takes;
      whole = ap (λ (fdc : Fdc). fdc.command) is;
      free = ap is_held is ∙ stands.free;
      polled = ap (λ (fdc : Fdc). fdc.poll_due) is ∙ polled;
      motion = motion_to unit target start;
      seek = ap (λ (fdc : Fdc). fdc.seeks.seek) is;
      goes = refl;
      within = within;
      pending = ap (λ (fdc : Fdc). fdc.seeks.pending) is ∙ none;
      four = range.seeks.cylinders;
    }

pub given_seeks : (unit : ℕ) (goal : Option ℕ) (start new : Front) → Stands start → start.adapter.controller.seeks.pending ≡ none_pending → start.adapter.controller.poll_due ≡ false → IsInRange new.adapter.controller
    → GivesCommand (moving unit goal) start new → SeeksBehind (most_of goal) (unit % 4) goal new
given_seeks unit None start new stands none polled range gives =
    let obeyed = given_obeyed (command.Recalibrate unit) start new stands refl gives in
    let is : new.adapter.controller ≡ recalibrating unit (record start.adapter.controller { command = [] }) = obeyed.obeys.0 stands.rests in
    record {
      through = obeyed.through;
      takes = ap (λ (fdc : Fdc). fdc.phase) is ∙ stands.takes;
      whole = ap (λ (fdc : Fdc). fdc.command) is;
      free = ap is_held is ∙ stands.free;
      polled = ap (λ (fdc : Fdc). fdc.poll_due) is ∙ polled;
      motion = Outward 79;
      seek = ap (λ (fdc : Fdc). fdc.seeks.seek) is;
      goes = tt;
      within = omega arith;
      pending = ap (λ (fdc : Fdc). fdc.seeks.pending) is ∙ none;
      four = range.seeks.cylinders;
    }
given_seeks unit (Some target) start new stands none polled range gives = search (given_seek, given_within)

none_of : (pace : Option PacedSeek) → is_some pace ≡ false → pace ≡ None
none_of None is = refl
none_of (Some pace) is = absurd (false≢true (sym is))

-- ---- its last byte

-- the inner controller stands, and the chip begins the seek
record IsComing (goal : Option ℕ) (byte : ℕ) (old new : ChipState) : Type 0 where
  set : ChipState
  order_is : set.order ≡ completed byte old
  numbers : set.interrupts ≡ (drained old).interrupts
  stands : Stands set.front
  unpaced : set.pace ≡ None
  pending : set.front.adapter.controller.seeks.pending ≡ none_pending
  poll : set.front.adapter.controller.poll_due ≡ old.front.adapter.controller.poll_due
  moves : MovesIf old.paced goal set new

comes_by : (code : ChipOpcode) (goal : Option ℕ) (byte : ℕ) (old new : ChipState) → IsSoundInRange old → byte < 256 → Completes code byte old → goal_of code (completed byte old) (drained old).interrupts ≡ Some goal
    → WritesChip 0x3F5 byte old new → still_moves old ≡ false → IsComing goal byte old new
comes_by code goal byte old new was few completes is writes still =
    let heads = goal_heads code (completed byte old) (drained old).interrupts goal is in
    let start = attending byte old in
    let attended = byte_attends code byte old new was.sound few heads completes writes in
    let set = drained start in
    let resting : IsResting start set = drained_rests 4 start attended.basis.whole attended.rests in
    let stays : still_moves start ≡ false = same_moves start old refl refl ∙ still in
    let obeys : Obeys code set new = subst (λ b. AttendsIf b code set new) (and_right (needs_heads code) (is_moving set) stays) attended.attends in
    let numbers : set.interrupts ≡ (drained old).interrupts = drained_interrupts 4 start old refl refl refl in
    let same : goal_of code set.order set.interrupts ≡ Some goal =
    ap (λ (order : Order). goal_of code order set.interrupts) resting.order ∙ (ap (λ (i : Interrupting). goal_of code (completed byte old) i) numbers ∙ is) in
    let moves : MovesIf set.paced goal set new = goal_moves code goal set new same obeys in
    let taken = all_taken start (record { through = attended.rests.through; takes = attended.rests.takes; whole = attended.basis.whole; free = attended.basis.free }) was.range.seeks.pending in
    record {
      set = set;
      order_is = resting.order;
      numbers = numbers;
      stands = free_stands set (basis_same start set attended.basis resting.base resting.count resting.order) resting.rests stays;
      unpaced = none_of set.pace (or_parts (is_some set.pace) (moves_heads set.front) stays).0;
      pending = taken.pending;
      poll = taken.taken.poll;
      moves = subst (λ b. MovesIf b goal set new) (ap (λ (chip : ChipState). chip.paced) (drained_rest 4 start).2) moves;
    }

pub seek_comes : (code : ChipOpcode) (goal : Option ℕ) (byte : ℕ) (old new : ChipState) → IsSoundInRange old → IsSoundInRange new → byte < 256
    → Completes code byte old → goal_of code (completed byte old) (drained old).interrupts ≡ Some goal → WritesChip 0x3F5 byte old new → still_moves old ≡ false → old.paced ≡ false
    → old.front.adapter.controller.poll_due ≡ false → HeadsGo (most_of goal) ((completed byte old).unit % 4) goal Ready new
seek_comes code goal byte old new was is_after few completes is writes still unpaced polled =
    let coming = comes_by code goal byte old new was few completes is writes still in
    let set = coming.set in
    let (gives, rest) = subst (λ b. MovesIf b goal set new) unpaced coming.moves in
    subst (λ (order : Order). HeadsGo (most_of goal) (order.unit % 4) goal Ready new) coming.order_is (record {
      at = ap (λ (chip : ChipState). chip.stage) rest;
      unpaced = ap (λ (chip : ChipState). chip.pace) rest ∙ coming.unpaced;
      few = omega arith;
      going = given_seeks set.order.unit goal set.front new.front coming.stands coming.pending (coming.poll ∙ polled) is_after.range gives;
    })

-- ---- with the strap for the time of step pulses on

-- if no seek bit is set, no seek is kept
pub none_kept : (seek : Option DriveSeek) → option_map_or (λ (s : DriveSeek). 2 ^ s.drive) seek 0 ≡ 0 → seek ≡ None
none_kept None none = refl
none_kept (Some seek) none = let some = pow_pos seek.drive in absurd (omega arith)

-- the pulses of the whole seek, from the cylinder that the chip counts
abbrev begun_at : Option ℕ → Order → Interrupting → PacedSeek
begun_at goal order interrupts = pace_begun order.unit (cylinder_of order.unit interrupts) goal

pub paced_comes : (code : ChipOpcode) (goal : Option ℕ) (byte : ℕ) (old new : ChipState) → IsSoundInRange old → IsSoundInRange new → byte < 256
    → Completes code byte old → goal_of code (completed byte old) (drained old).interrupts ≡ Some goal → WritesChip 0x3F5 byte old new → still_moves old ≡ false → old.paced ≡ true
    → old.front.adapter.controller.poll_due ≡ false
    → HeadsPaced (most_paced (step_words new.settings) (pulses_left (pace_begun (completed byte old).unit (cylinder_of (completed byte old).unit (drained old).interrupts) goal)))
    ((completed byte old).unit % 4) goal Ready new
paced_comes code goal byte old new was is_after few completes is writes still paced polled =
    let coming = comes_by code goal byte old new was few completes is writes still in
    let set = coming.set in
    let now : new ≡ record set { stage = Ready; pace = Some (begun_at goal set.order set.interrupts) } = subst (λ b. MovesIf b goal set new) paced coming.moves in
    let front : new.front ≡ set.front = ap (λ (chip : ChipState). chip.front) now in
    let fdc = set.front.adapter.controller in
    let same : begun_at goal set.order set.interrupts ≡ begun_at goal (completed byte old) (drained old).interrupts =
    ap (λ (order : Order). begun_at goal order set.interrupts) coming.order_is ∙ ap (λ (i : Interrupting). begun_at goal (completed byte old) i) coming.numbers in
    record {
      at = ap (λ (chip : ChipState). chip.stage) now;
      few = omega arith;
      pace = begun_at goal (completed byte old) (drained old).interrupts;
      paced = ap (λ (chip : ChipState). chip.pace) now ∙ ap Some same;
      drive_is = refl;
      goal_is = refl;
      behind = 0;
      apart = 254;
      going = inl (subst (StandsBehind 254 ((completed byte old).unit % 4) (cylinder_of (completed byte old).unit (drained old).interrupts)) (sym front) (record {
        through = coming.stands.through;
        takes = coming.stands.takes;
        whole = coming.stands.none;
        free = coming.stands.free;
        polled = coming.poll ∙ polled;
        seek = none_kept fdc.seeks.seek coming.stands.rests;
        pending = coming.pending;
        four = ap (λ (f : Front). length f.adapter.controller.seeks.cylinders) (sym front) ∙ is_after.range.seeks.cylinders;
        counts = inr (omega arith);
      }));
      within = omega arith;
    }
