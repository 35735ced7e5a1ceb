-- A seek that has ended has its result in the inner controller, until the result is taken over. The heads that move
-- come nearer with each device step.
use Rattle.std.proofs.Common.{◌≡◌, ℕ, suc, ◌+◌, ◌-◌, ◌<◌, ◌≤◌, nat_lt, Bool, true, false, ◌&&◌, ◌||◌, ◌==◌, if◌then◌else◌, Option, Some, None, is_some, option_map, List, [], length, slice_index, slice_index_or, slice_set, refl, sym, ◌∙◌, ap, subst, arith}
use Rattle.laws_chip.proofs.Common.{option_map_or, and_right, eqb-false, false≢true, nat_tests, get_or-set_other, get_or-set_same, length-set, after_sense, ended, first_pending, has_ended, has_ended_seek, neighbour, recalibrated, released, sensed, sought, stepped_seek, with_motion, with_polls, Motion, Outward, Toward, Ended, DriveSeek, polled, seek_stepped, Fdc, lines_at, after_result, without_result, Front, with_controller, StepsFront, pending_outside, sensed_at, sensed_outside, ChipState, with_front, drained, drained_one, IsOfFour, seek_steps, steps_left, RestsBehind, Seeks as Seeking, commands_stepped as stepped}
use Rattle.fdc_commands.specs.Seeking.{status_of, without_result as without_one}
use Rattle.fdc_chip.specs.Doing.{drained_by}
use Rattle.laws_chip.proofs.HeadsGoing.{neighbour_left, none_pending, rests_by_line}
use Rattle.laws_chip.proofs.Known.{polled_by}
use Rattle.laws_chip.proofs.Rests.{taking_stays, through_step}
use Rattle.laws_chip.proofs.SeeksBegun.{IsIdleAt, all_taken, idle_takes, one_taken}
use Rattle.laws_chip.proofs.WholeTransfers.{kept_front}

-- ---- the result of a seek

abbrev pub HasResult : Option DriveSeek → List (Option ℕ) → Type 0
HasResult None pending = Unit {0}
HasResult (Some seek) pending = has_ended seek.motion ≡ true → is_some (slice_index_or pending seek.drive None) ≡ true

abbrev pub TellsEnd : Seeking → Type 0
TellsEnd seeks = HasResult seeks.seek seeks.pending

-- a seek that runs has no result yet
pub runs_tells : (s : Seeking) → has_ended_seek s ≡ false → TellsEnd s
runs_tells s runs = by_seek s.seek runs
  where
    by_seek : (seek : Option DriveSeek) → option_map_or (λ (d : DriveSeek). has_ended d.motion) seek false ≡ false → HasResult seek s.pending
    by_seek None runs = tt
    by_seek (Some seek) runs = λ over. absurd (false≢true (sym runs ∙ over))

-- ---- ---- a result is taken over

not_both : (b c : Bool) → (b && c) ≡ false → c ≡ true → b ≡ false
not_both true true both is = both
not_both true false both is = absurd (false≢true is)
not_both false c both is = refl

pub sense_tells : (s : Seeking) → TellsEnd s → TellsEnd (after_sense s)
sense_tells s tells = by_first (first_pending s)
  where
    by_seek : (drive : ℕ) (seek : Option DriveSeek) → HasResult seek s.pending → HasResult (released drive seek) (slice_set s.pending drive None)
    by_seek drive None has = tt
    by_seek drive (Some seek) has = by_drive ((seek.drive == drive) && has_ended seek.motion) refl
      where
        by_drive : (b : Bool) → ((seek.drive == drive) && has_ended seek.motion) ≡ b → HasResult (if b then None else Some seek) (slice_set s.pending drive None)
        by_drive true is = tt
        by_drive false is = λ over.
            let other = eqb-false seek.drive drive (not_both (seek.drive == drive) (has_ended seek.motion) is over) in
            ap is_some (get_or-set_other s.pending drive seek.drive None None other) ∙ has over

    by_first : (first : Option ℕ) → TellsEnd (option_map_or (without_one s) first s)
    by_first None = tells
    by_first (Some drive) = by_seek drive s.seek tells

sense_runs : (s : Seeking) → has_ended_seek s ≡ false → (after_sense s).seek ≡ s.seek
sense_runs s runs = by_first (first_pending s)
  where
    by_seek : (drive : ℕ) (seek : Option DriveSeek) → option_map_or (λ (d : DriveSeek). has_ended d.motion) seek false ≡ false → released drive seek ≡ seek
    by_seek drive None runs = refl
    by_seek drive (Some seek) runs = ap (λ b. if b then None else Some seek) (and_right (seek.drive == drive) (has_ended seek.motion) runs)

    by_first : (first : Option ℕ) → (option_map_or (without_one s) first s).seek ≡ s.seek
    by_first None = refl
    by_first (Some drive) = by_seek drive s.seek runs

less_still : (a b c : ℕ) → a ≤ b → b ≤ c → a ≤ c
less_still a b c one two = omega arith

sense_left : (s : Seeking) → seek_steps (after_sense s).seek ≤ seek_steps s.seek
sense_left s = by_first (first_pending s)
  where
    by_seek : (drive : ℕ) (seek : Option DriveSeek) → seek_steps (released drive seek) ≤ seek_steps seek
    by_seek drive None = omega arith
    by_seek drive (Some seek) = by_drive ((seek.drive == drive) && has_ended seek.motion)
      where
        by_drive : (b : Bool) → seek_steps (if b then None else Some seek) ≤ steps_left seek.motion
        by_drive true = omega arith
        by_drive false = omega arith

    by_first : (first : Option ℕ) → seek_steps (option_map_or (without_one s) first s).seek ≤ seek_steps s.seek
    by_first None = omega arith
    by_first (Some drive) = by_seek drive s.seek

-- ---- ---- all results are taken over

pub taken_seeks : (fdc : Fdc) → (without_result (sensed fdc.seeks) fdc).seeks ≡ after_sense fdc.seeks
taken_seeks fdc = by_first (first_pending fdc.seeks) refl
  where
    by_first : (first : Option ℕ) → first_pending fdc.seeks ≡ first
        → (without_result (option_map (λ drive. (status_of fdc.seeks drive, slice_index fdc.seeks.cylinders drive)) first) fdc).seeks ≡ after_sense fdc.seeks
    by_first None is = sym (ap (λ first. option_map_or (without_one fdc.seeks) first fdc.seeks) is)
    by_first (Some drive) is = refl

pub one_seeks : (chip : ChipState) → IsIdleAt chip.front → (drained_one chip).front.adapter.controller.seeks ≡ after_sense chip.front.adapter.controller.seeks
one_seeks chip idle =
    let front = chip.front in
    let fdc = front.adapter.controller in
    let over : after_result fdc ≡ without_result (sensed fdc.seeks) fdc = ap (λ b. if b then without_result (sensed fdc.seeks) fdc else fdc) (idle_takes front idle) in
    ap (λ (f : Front). f.adapter.controller.seeks) (kept_front (pending_outside front) (with_front (sensed_outside front) chip)
    ∙ (ap (λ stage. sensed_at stage front) idle.through ∙ ap (λ (c : Fdc). record front { adapter = with_controller c front.adapter }) over))
    ∙ taken_seeks fdc

abbrev sense_all : Seeking → Seeking
sense_all s = after_sense (after_sense (after_sense (after_sense s)))

drained_seeks : (chip : ChipState) → IsIdleAt chip.front → (drained chip).front.adapter.controller.seeks ≡ sense_all chip.front.adapter.controller.seeks
unfolding drained_by
drained_seeks chip idle =
    let first = drained_one chip in
    let second = drained_one first in
    let third = drained_one second in
    let one = (one_taken chip idle).0.idle in
    let two = (one_taken first one).0.idle in
    let three = (one_taken second two).0.idle in
    one_seeks third three ∙ ap after_sense (one_seeks second two ∙ ap after_sense (one_seeks first one ∙ ap after_sense (one_seeks chip idle)))

pub drained_tells : (chip : ChipState) → IsIdleAt chip.front → TellsEnd chip.front.adapter.controller.seeks → TellsEnd (drained chip).front.adapter.controller.seeks
drained_tells chip idle tells =
    let s = chip.front.adapter.controller.seeks in
    subst TellsEnd (sym (drained_seeks chip idle))
    (sense_tells (after_sense (after_sense (after_sense s))) (sense_tells (after_sense (after_sense s)) (sense_tells (after_sense s) (sense_tells s tells))))

-- a seek that runs goes on
pub drained_same : (chip : ChipState) → IsIdleAt chip.front → has_ended_seek chip.front.adapter.controller.seeks ≡ false → (drained chip).front.adapter.controller.seeks.seek ≡ chip.front.adapter.controller.seeks.seek
drained_same chip idle runs =
    let s = chip.front.adapter.controller.seeks in
    let one = sense_runs s runs in
    let two = sense_runs (after_sense s) (runs_as (after_sense s) s one runs) ∙ one in
    let three = sense_runs (after_sense (after_sense s)) (runs_as (after_sense (after_sense s)) s two runs) ∙ two in
    let four = sense_runs (after_sense (after_sense (after_sense s))) (runs_as (after_sense (after_sense (after_sense s))) s three runs) ∙ three in
    ap (λ (seeks : Seeking). seeks.seek) (drained_seeks chip idle) ∙ four
  where
    runs_as : (one other : Seeking) → one.seek ≡ other.seek → has_ended_seek other ≡ false → has_ended_seek one ≡ false
    runs_as one other same runs = ap (λ (seek : Option DriveSeek). option_map_or (λ (d : DriveSeek). has_ended d.motion) seek false) same ∙ runs

-- heads that have come there stand
none_runs : (seek : Option DriveSeek) → HasResult seek none_pending → option_map_or (λ (d : DriveSeek). has_ended d.motion) seek false ≡ false
none_runs None has = refl
none_runs (Some seek) has = by_end (has_ended seek.motion) refl
  where
    by_drive : (drive : ℕ) → is_some (slice_index_or none_pending drive None) ≡ true → ⊥
    by_drive (suc (suc (suc (suc drive)))) is = false≢true is
    by_drive _ is = false≢true is

    by_end : (b : Bool) → has_ended seek.motion ≡ b → b ≡ false
    by_end true over = absurd (by_drive seek.drive (has over))
    by_end false over = refl

pub drained_runs : (chip : ChipState) → IsIdleAt chip.front → length chip.front.adapter.controller.seeks.pending ≡ 4 → TellsEnd chip.front.adapter.controller.seeks
    → has_ended_seek (drained chip).front.adapter.controller.seeks ≡ false
drained_runs chip idle four tells =
    let new = (drained chip).front.adapter.controller.seeks in
    none_runs new.seek (subst (HasResult new.seek) (all_taken chip idle four).pending (drained_tells chip idle tells))

pub drained_left : (chip : ChipState) → IsIdleAt chip.front → seek_steps (drained chip).front.adapter.controller.seeks.seek ≤ seek_steps chip.front.adapter.controller.seeks.seek
drained_left chip idle =
    let s = chip.front.adapter.controller.seeks in
    subst (λ (seeks : Seeking). seek_steps seeks.seek ≤ seek_steps s.seek) (sym (drained_seeks chip idle))
    (less_still _ _ _ (sense_left (after_sense (after_sense (after_sense s))))
    (less_still _ _ _ (sense_left (after_sense (after_sense s))) (less_still _ _ _ (sense_left (after_sense s)) (sense_left s))))

-- ---- ---- a device step

record IsNearer (old new : Seeking) : Type 0 where
  tells : TellsEnd new
  four : length new.pending ≡ 4
  left : seek_steps new.seek ≤ seek_steps old.seek - 1

ended_nearer : (old : Seeking) (drive cylinder status : ℕ) → length old.pending ≡ 4 → drive < 4 → IsNearer old (ended old drive cylinder status)
ended_nearer old drive cylinder status four few = record {
  tells = λ over. ap is_some (get_or-set_same old.pending drive (Some status) None (in_list drive (length old.pending) four few));
  four = length-set old.pending drive (Some status) ∙ four;
  left = omega arith;
}
  where
    in_list : (drive n : ℕ) → n ≡ 4 → drive < 4 → drive < n
    in_list drive n four few = omega arith

on_nearer : (old : Seeking) (drive : ℕ) (was on : Motion) → length old.pending ≡ 4 → has_ended on ≡ false → steps_left on ≤ steps_left was - 1 → old.seek ≡ Some (record { drive = drive; motion = was }) → IsNearer old (with_motion old drive on)
on_nearer old drive was on four runs fewer seek = record {
  four = four;
  tells = λ over. absurd (false≢true (sym runs ∙ over));
  left = subst (λ (s : Option DriveSeek). steps_left on ≤ seek_steps s - 1) (sym seek) fewer;
}

toward_fewer : (now was : ℕ) → now + 1 ≤ was → now ≤ was - 1
toward_fewer now was fewer = omega arith

motion_nearer : (old : Seeking) (drive : ℕ) (was : Motion) (track0 : Bool) → length old.pending ≡ 4 → drive < 4 → old.seek ≡ Some (record { drive = drive; motion = was }) → TellsEnd old → IsNearer old (stepped_seek old drive was track0)
motion_nearer old drive (Outward pulses) track0 four few seek tells = by_last (track0 || (pulses == 0)) refl
  where
    by_last : (b : Bool) → (track0 || (pulses == 0)) ≡ b → IsNearer old (if b then ended old drive 0 (recalibrated drive track0) else with_motion old drive (Outward (pulses - 1)))
    by_last true is = ended_nearer old drive 0 (recalibrated drive track0) four few
    by_last false is = on_nearer old drive (Outward pulses) (Outward (pulses - 1)) four refl (grind (arith, nat_tests)) seek
motion_nearer old drive (Toward cylinder target) track0 four few seek tells = by_there (cylinder == target) refl
  where
    by_there : (b : Bool) → (cylinder == target) ≡ b → IsNearer old (if b then ended old drive target (sought drive) else with_motion old drive (Toward (neighbour cylinder target) target))
    by_there true is = ended_nearer old drive target (sought drive) four few
    by_there false is =
        let next : Motion = Toward (neighbour cylinder target) target in
        on_nearer old drive (Toward cylinder target) next four refl
        (toward_fewer (steps_left next) (steps_left (Toward cylinder target)) (neighbour_left cylinder target (nat_lt cylinder target) refl is)) seek
motion_nearer old drive Ended track0 four few seek tells = record { tells = tells; four = four; left = subst (λ (s : Option DriveSeek). seek_steps s ≤ seek_steps s - 1) (sym seek) (omega arith) }

stepped_nearer : (track0 : Bool) (old : Seeking) → length old.pending ≡ 4 → IsOfFour old.seek → TellsEnd old → IsNearer old (stepped old track0)
stepped_nearer track0 old four few tells = by_seek old.seek refl
  where
    by_seek : (seek : Option DriveSeek) → old.seek ≡ seek → IsNearer old (stepped old track0)
    by_seek None is =
        let same : stepped old track0 ≡ old = ap (λ (s : Option DriveSeek). option_map_or (λ (d : DriveSeek). stepped_seek old d.drive d.motion track0) s old) is in
        subst (IsNearer old) (sym same) (record { tells = tells; four = four; left = subst (λ (s : Option DriveSeek). seek_steps s ≤ seek_steps s - 1) (sym is) (omega arith) })
    by_seek (Some seek) is =
        let at : stepped old track0 ≡ stepped_seek old seek.drive seek.motion track0 = ap (λ (s : Option DriveSeek). option_map_or (λ (d : DriveSeek). stepped_seek old d.drive d.motion track0) s old) is in
        subst (IsNearer old) (sym at) (motion_nearer old seek.drive seek.motion track0 four (subst IsOfFour is few) is tells)

-- the poll gives each drive a result
record IsPolled (old new : Seeking) : Type 0 where
  four : length new.pending ≡ 4
  seek : new.seek ≡ old.seek
  tells : TellsEnd new

polls_tell : (old : Seeking) → IsOfFour old.seek → TellsEnd (with_polls old)
polls_tell old few = by_seek old.seek few
  where
    by_drive : (drive : ℕ) → drive < 4 → is_some (slice_index_or (with_polls old).pending drive None) ≡ true
    by_drive (suc (suc (suc (suc drive)))) few = absurd (omega arith)
    by_drive _ few = refl

    by_seek : (seek : Option DriveSeek) → IsOfFour seek → HasResult seek (with_polls old).pending
    by_seek None few = tt
    by_seek (Some seek) few = λ over. by_drive seek.drive few

polled_tells : (old : Fdc) → length old.seeks.pending ≡ 4 → IsOfFour old.seeks.seek → TellsEnd old.seeks → IsPolled old.seeks (polled old).seeks
polled_tells old four few tells =
    polled_by (λ (fdc : Fdc). IsPolled old.seeks fdc.seeks) old (record { four = four; seek = refl; tells = tells }) (record { four = refl; seek = refl; tells = polls_tell old.seeks few })

fdc_nearer : (track0 : Bool) (old : Fdc) → length old.seeks.pending ≡ 4 → IsOfFour old.seeks.seek → TellsEnd old.seeks → IsNearer old.seeks (seek_stepped track0 (polled old)).seeks
fdc_nearer track0 old four few tells =
    let polls = polled_tells old four few tells in
    let near = stepped_nearer track0 (polled old).seeks polls.four (subst IsOfFour (sym polls.seek) few) polls.tells in
    record {
      tells = near.tells;
      four = near.four;
      left = subst (λ (s : Option DriveSeek). seek_steps (stepped (polled old).seeks track0).seek ≤ seek_steps s - 1) polls.seek near.left;
    }

-- heads come nearer in a device step
pub record ComesNearer (old new : Front) : Type 0 where
  pub tells : TellsEnd new.adapter.controller.seeks
  pub four : length new.adapter.controller.seeks.pending ≡ 4
  pub left : seek_steps new.adapter.controller.seeks.seek ≤ seek_steps old.adapter.controller.seeks.seek - 1

pub front_nearer : (old new : Front) → StepsFront old new → RestsBehind old → length old.adapter.controller.seeks.pending ≡ 4 → TellsEnd old.adapter.controller.seeks → ComesNearer old new
front_nearer old new step rests four tells =
    let fdc = old.adapter.controller in
    let track0 = (lines_at old.adapter).track0 in
    let is = taking_stays track0 fdc step.between.controller rests.takes (rests_by_line old.adapter step.between step.steps) in
    let near = fdc_nearer track0 fdc four rests.seek tells in
    subst (ComesNearer old) (sym (through_step old new step rests.through))
    (record {
      tells = subst (λ (c : Fdc). TellsEnd c.seeks) (sym is) near.tells;
      four = subst (λ (c : Fdc). length c.seeks.pending ≡ 4) (sym is) near.four;
      left = subst (λ (c : Fdc). seek_steps c.seeks.seek ≤ seek_steps fdc.seeks.seek - 1) (sym is) near.left;
    })
