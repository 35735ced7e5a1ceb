-- Seeks that give a pulse in each device step: they go on, and end by INT.
use Rattle.std.proofs.Common.{◌≡◌, ◌⊎◌, inl, inr, ℕ, suc, ◌+◌, ◌-◌, ◌≤◌, nat_lt, Bool, true, false, not, ◌&&◌, ◌||◌, ◌==◌, if◌then◌else◌, Option, Some, None, List, [], ◌∷◌, length, slice_index, slice_set, unwrap_or, refl, sym, ◌∙◌, ap, subst, arith}
use Rattle.laws_chip.proofs.Common.{option_map_or, and_from, or_right, nat_tests, DriveState, Dor, ended, has_ended, is_seeking, neighbour, recalibrated, sought, stepped_seek, with_motion, with_polls, Motion, Outward, Toward, Ended, DriveSeek, Taking, is_gated, is_held, Rests, polled, seek_stepped, Fdc, AdapterState, StepsAdapter, lines_at, selected_at, Front, interrupts_at, interrupts_outside, StepsFront, Through, ChipState, interrupts_chip, with_front, drained, drained_one, is_told, moves_heads, Interrupting, with_result, StepsChip, PacedSeek, ChipStage, Ready, EndsBySignal, GoesTo, HeadsGo, HeadsStand, SeeksBehind, status_at_end, steps_left, IsSound, Seeks as Seeking, commands_stepped as stepped}
use Rattle.std.specs.Prelude.{bit_and}
use Rattle.fdc_registers.specs.St0.{seek_end}
use Rattle.fdc_core.specs.Drives.Lines.{absent_lines, lines_of_drive, lines_of_selected}
use Rattle.fdc_chip.specs.Doing.{drained_by}
use Rattle.laws_chip.proofs.Known.{adapter_stays, which_drive}
use Rattle.laws_chip.proofs.Polled.{and_true, build, built, ready_interrupts, ready_step}
use Rattle.laws_chip.proofs.Rests.{taking_stays, through_step}

-- ---- the motion in a device step

pub neighbour_left : (cylinder target : ℕ) (b : Bool) → nat_lt cylinder target ≡ b → (cylinder == target) ≡ false
    → steps_left (Toward (if b then cylinder + 1 else cylinder - 1) target) + 1 ≤ steps_left (Toward cylinder target)
neighbour_left cylinder target true is differs = grind (arith, nat_tests)
neighbour_left cylinder target false is differs = grind (arith, nat_tests)

-- the seek goes on, one step nearer, or ends
abbrev OnOrEnds : ℕ → ℕ → Option ℕ → Bool → Seeking → Seeking → Type 0
OnOrEnds left drive goal track0 old new =
    ((on : Motion) × (new ≡ with_motion old drive on) × GoesTo goal on × (steps_left on ≤ left)) ⊎ (new ≡ ended old drive (unwrap_or goal 0) (status_at_end goal drive track0))

motion_steps : (left drive : ℕ) (goal : Option ℕ) (motion : Motion) (track0 : Bool) (old : Seeking) → GoesTo goal motion → steps_left motion ≤ left + 1 → OnOrEnds left drive goal track0 old (stepped_seek old drive motion track0)
motion_steps left drive None (Outward pulses) track0 old goes few = by_last (track0 || (pulses == 0)) refl
  where
    by_last : (b : Bool) → (track0 || (pulses == 0)) ≡ b
        → OnOrEnds left drive None track0 old (if b then ended old drive 0 (recalibrated drive track0) else with_motion old drive (Outward (pulses - 1)))
    by_last true is = inr refl
    by_last false is = inl (Outward (pulses - 1), refl, tt, (grind (arith, nat_tests)))
motion_steps left drive (Some target) (Toward cylinder to) track0 old goes few = by_there (cylinder == to) refl
  where
    by_there : (b : Bool) → (cylinder == to) ≡ b
        → OnOrEnds left drive (Some target) track0 old (if b then ended old drive to (sought drive) else with_motion old drive (Toward (neighbour cylinder to) to))
    by_there true is = inr (ap (λ t. ended old drive t (sought drive)) goes)
    by_there false is = inl (Toward (neighbour cylinder to) to, refl, goes, (let nearer = neighbour_left cylinder to (nat_lt cylinder to) refl is in omega arith))
motion_steps left drive (Some target) (Outward pulses) track0 old goes few = absurd goes
motion_steps left drive (Some target) Ended track0 old goes few = absurd goes
motion_steps left drive None _ track0 old goes few = absurd goes

runs : (goal : Option ℕ) (motion : Motion) → GoesTo goal motion → not (has_ended motion) ≡ true
runs None Ended goes = absurd goes
runs (Some target) Ended goes = absurd goes
runs goal _ goes = refl

-- ---- the controller

record StaysIdle (old new : Fdc) : Type 0 where
  takes : new.phase ≡ Taking
  whole : new.command ≡ old.command
  polled : new.poll_due ≡ false
  dor : new.dor ≡ old.dor

record StepsSeek (left drive : ℕ) (goal : Option ℕ) (track0 : Bool) (old new : Fdc) : Type 0 where
  idle : StaysIdle old new
  seeks : OnOrEnds left drive goal track0 old.seeks new.seeks
  up : new.seeks ≡ ended old.seeks drive (unwrap_or goal 0) (status_at_end goal drive track0) → new.interrupt ≡ true

fdc_steps : (left drive : ℕ) (goal : Option ℕ) (motion : Motion) (track0 : Bool) (old new : Fdc) → old.phase ≡ Taking → old.poll_due ≡ false → old.seeks.seek ≡ Some (record { drive = drive; motion = motion })
    → GoesTo goal motion → steps_left motion ≤ left + 1 → Rests track0 (polled old) new → StepsSeek left drive goal track0 old new
fdc_steps left drive goal motion track0 old new takes none seek goes few rests =
    let same : polled old ≡ old = ap (λ b. if b && not (is_held old) then record old { poll_due = false; interrupt = true; seeks = with_polls old.seeks } else old) none in
    let is : new ≡ seek_stepped track0 old = taking_stays track0 old new takes rests ∙ ap (seek_stepped track0) same in
    let seeks_are : new.seeks ≡ stepped_seek old.seeks drive motion track0 =
    ap (λ (fdc : Fdc). fdc.seeks) is ∙ ap (λ (s : Option DriveSeek). option_map_or (λ (d : DriveSeek). stepped_seek old.seeks d.drive d.motion track0) s old.seeks) seek in
    let ran : is_seeking old.seeks ≡ true = ap (λ (s : Option DriveSeek). option_map_or (λ (d : DriveSeek). not (has_ended d.motion)) s false) seek ∙ runs goal motion goes in
    record {
      idle = record {
        takes = ap (λ (fdc : Fdc). fdc.phase) is ∙ takes;
        whole = ap (λ (fdc : Fdc). fdc.command) is;
        polled = ap (λ (fdc : Fdc). fdc.poll_due) is ∙ none;
        dor = ap (λ (fdc : Fdc). fdc.dor) is;
      };
      seeks = subst (OnOrEnds left drive goal track0 old.seeks) (sym seeks_are) (motion_steps left drive goal motion track0 old.seeks goes few);
      up = λ ends. ap (λ (fdc : Fdc). fdc.interrupt) is
          ∙ or_right old.interrupt (is_seeking old.seeks && not (is_seeking (stepped old.seeks track0)))
          (and_from (is_seeking old.seeks) (not (is_seeking (stepped old.seeks track0))) ran (ap (λ s. not (is_seeking s)) (sym (ap (λ (fdc : Fdc). fdc.seeks) is) ∙ ends)));
    }

-- where DOR selects no drive that is there, the track 0 line is low
no_line : (selected : ℕ) (first second : DriveState) → 2 ≤ selected → (lines_of_selected selected first second).track0 ≡ false
no_line selected first second many =
    let not_first : (selected == 0) ≡ false = grind (arith, nat_tests) in
    let not_second : (selected == 1) ≡ false = grind (arith, nat_tests) in
    ap (λ b. (if b then lines_of_drive first else (if selected == 1 then lines_of_drive second else absent_lines)).track0) not_first
    ∙ ap (λ b. (if b then lines_of_drive second else absent_lines).track0) not_second

pub rests_by_line : (old new : AdapterState) → StepsAdapter old new → Rests (lines_at old).track0 (polled old.controller) new.controller
rests_by_line old new steps =
    let line : ℕ → Bool = λ s. (lines_of_selected s old.first old.second).track0 in
    elim (which_drive (selected_at old)) [
      | inl at ↦ subst (λ t. Rests t (polled old.controller) new.controller) (sym (ap line at)) (steps.at_first at).0.rests
      | inr (inl at) ↦ subst (λ t. Rests t (polled old.controller) new.controller) (sym (ap line at)) (steps.at_second at).0.rests
      | inr (inr at) ↦ subst (λ t. Rests t (polled old.controller) new.controller) (sym (no_line (selected_at old) old.first old.second at)) (steps.at_none at).0.rests
    ]

-- ---- the front

abbrev pub none_pending : List (Option ℕ)
none_pending = None ∷ None ∷ None ∷ None ∷ []

-- the seek has ended in the inner controller, and its result is there
pub record HasEnded (drive status target : ℕ) (cylinders : List ℕ) (front : Front) : Type 0 where
  pub through : front.stage ≡ Through
  pub takes : front.adapter.controller.phase ≡ Taking
  pub whole : front.adapter.controller.command ≡ []
  pub free : is_held front.adapter.controller ≡ false
  pub polled : front.adapter.controller.poll_due ≡ false
  pub up : front.adapter.controller.interrupt ≡ true
  pub seeks : front.adapter.controller.seeks
      ≡ record { cylinders = slice_set cylinders drive target; seek = Some (record { drive = drive; motion = Ended }); pending = slice_set none_pending drive (Some status) }
  pub four : length cylinders ≡ 4

abbrev pub status_in : Option ℕ → ℕ → Front → ℕ
status_in goal drive old = status_at_end goal drive (lines_at old.adapter).track0

pub front_steps : (left drive : ℕ) (goal : Option ℕ) (old new : Front) → StepsFront old new → SeeksBehind (left + 1) drive goal old
    → SeeksBehind left drive goal new ⊎ HasEnded drive (status_in goal drive old) (unwrap_or goal 0) old.adapter.controller.seeks.cylinders new
front_steps left drive goal old new step was =
    let fdc = old.adapter.controller in
    let is = through_step old new step was.through in
    let steps = fdc_steps left drive goal was.motion (lines_at old.adapter).track0 fdc step.between.controller was.takes was.polled was.seek was.goes was.within (rests_by_line old.adapter step.between step.steps) in
    let idle = steps.idle in
    let free = (ap (λ (d : Dor). is_held (record fdc { dor = d })) idle.dor) ∙ was.free in
    subst (λ (front : Front). SeeksBehind left drive goal front ⊎ HasEnded drive (status_in goal drive old) (unwrap_or goal 0) fdc.seeks.cylinders front) (sym is) (elim steps.seeks [
      | inl (on, seeks, goes, within) ↦ inl (record {
        through = was.through;
        takes = idle.takes;
        whole = idle.whole ∙ was.whole;
        free = free;
        polled = idle.polled;
        motion = on;
        seek = ap (λ (s : Seeking). s.seek) seeks;
        goes = goes;
        within = within;
        pending = ap (λ (s : Seeking). s.pending) seeks ∙ was.pending;
        four = ap (λ (s : Seeking). length s.cylinders) seeks ∙ was.four;
      })
      | inr seeks ↦ inr (record {
        through = was.through;
        takes = idle.takes;
        whole = idle.whole ∙ was.whole;
        free = free;
        polled = idle.polled;
        up = steps.up seeks;
        seeks = seeks ∙ ap (λ p. record {
          cylinders = slice_set fdc.seeks.cylinders drive (unwrap_or goal 0);
          seek = Some (record { drive = drive; motion = Ended });
          pending = slice_set p drive (Some (status_in goal drive old));
        }) was.pending;
        four = was.four;
      })
    ])

-- ---- results that are taken over

-- no result is pending
abbrev pub bare : List ℕ → Option DriveSeek → Bool → Bool → ChipState → ChipState
bare cylinders seek due up chip = record chip { front = build chip.front Through Taking [] (record { cylinders = cylinders; seek = seek; pending = none_pending }) due up }

bare_one : (cylinders : List ℕ) (seek : Option DriveSeek) (due up : Bool) (chip : ChipState) → is_held chip.front.adapter.controller ≡ false → drained_one (bare cylinders seek due up chip) ≡ bare cylinders seek due up chip
bare_one cylinders seek due up chip free = rw free refl

bare_drained : (cylinders : List ℕ) (seek : Option DriveSeek) (due up : Bool) (chip : ChipState) → is_held chip.front.adapter.controller ≡ false → drained (bare cylinders seek due up chip) ≡ bare cylinders seek due up chip
unfolding drained_by
bare_drained cylinders seek due up chip free = let same = bare_one cylinders seek due up chip free in
    ap (λ c. drained_one (drained_one (drained_one c))) same ∙ (ap (λ c. drained_one (drained_one c)) same ∙ (ap drained_one same ∙ same))

-- where no result is pending the chip stays as it is
pub none_drained : (chip : ChipState) → chip.front.stage ≡ Through → chip.front.adapter.controller.phase ≡ Taking → chip.front.adapter.controller.command ≡ [] → is_held chip.front.adapter.controller ≡ false
    → chip.front.adapter.controller.seeks.pending ≡ none_pending → drained chip ≡ chip
none_drained chip through takes whole free none =
    let fdc = chip.front.adapter.controller in
    let s = fdc.seeks in
    let seeks : s ≡ record { cylinders = s.cylinders; seek = s.seek; pending = none_pending } = ap (λ p. record s { pending = p }) none in
    let same : chip ≡ bare s.cylinders s.seek fdc.poll_due fdc.interrupt chip =
    ap (λ (f : Front). record chip { front = f }) (built chip.front Through Taking [] (record { cylinders = s.cylinders; seek = s.seek; pending = none_pending }) fdc.poll_due fdc.interrupt through takes whole seeks refl refl) in
    ap drained same ∙ (bare_drained s.cylinders s.seek fdc.poll_due fdc.interrupt chip free ∙ sym same)

pub going_drained : (left drive : ℕ) (goal : Option ℕ) (chip : ChipState) → SeeksBehind left drive goal chip.front → drained chip ≡ chip
going_drained left drive goal chip is = none_drained chip is.through is.takes is.whole is.free is.pending

-- the result of the seek that has ended is the only one, and the heads stand
abbrev ending : ℕ → ℕ → List ℕ → ChipState → ChipState
ending drive status cylinders chip = record chip {
  front = build chip.front Through Taking [] (record { cylinders = cylinders; seek = Some (record { drive = drive; motion = Ended }); pending = slice_set none_pending drive (Some status) }) false true;
}

abbrev pub stood : ℕ → ℕ → List ℕ → ChipState → ChipState
stood status cylinder cylinders chip = record (bare cylinders None false false chip) { interrupts = with_result status cylinder chip.interrupts }

-- the result is reported where no pulses come in the time that SPECIFY sets
unpaced_told : (pace : Option PacedSeek) (status : ℕ) → pace ≡ None → is_told pace status ≡ true
unpaced_told pace status none = ap (λ p. is_told p status) none ∙ or_right (bit_and status seek_end == 0) true refl

ends_one : (drive status : ℕ) (cylinders : List ℕ) (chip : ChipState) → drive ≤ 3 → is_held chip.front.adapter.controller ≡ false → is_told chip.pace status ≡ true
    → drained_one (ending drive status cylinders chip) ≡ stood status (slice_index cylinders drive) cylinders chip
ends_one (suc (suc (suc (suc drive)))) status cylinders chip few free told = absurd (omega arith)
ends_one _ status cylinders chip few free told = rw (free, told) refl

ends_drained : (drive status : ℕ) (cylinders : List ℕ) (chip : ChipState) → drive ≤ 3 → is_held chip.front.adapter.controller ≡ false → chip.pace ≡ None
    → drained (ending drive status cylinders chip) ≡ stood status (slice_index cylinders drive) cylinders chip
unfolding drained_by
ends_drained drive status cylinders chip few free unpaced =
    let after = stood status (slice_index cylinders drive) cylinders chip in
    let same : drained_one after ≡ after = bare_one cylinders None false false after free in
    ap (λ c. drained_one (drained_one (drained_one c))) (ends_one drive status cylinders chip few free (unpaced_told chip.pace status unpaced)) ∙ (ap (λ c. drained_one (drained_one c)) same ∙ (ap drained_one same ∙ same))

-- the result isn't reported while pulses are to come in the time that SPECIFY sets
untold_one : (drive status : ℕ) (cylinders : List ℕ) (chip : ChipState) → drive ≤ 3 → is_held chip.front.adapter.controller ≡ false → is_told chip.pace status ≡ false
    → drained_one (ending drive status cylinders chip) ≡ bare cylinders None false false chip
untold_one (suc (suc (suc (suc drive)))) status cylinders chip few free untold = absurd (omega arith)
untold_one _ status cylinders chip few free untold = rw (free, untold) refl

untold_drained : (drive status : ℕ) (cylinders : List ℕ) (chip : ChipState) → drive ≤ 3 → is_held chip.front.adapter.controller ≡ false → is_told chip.pace status ≡ false
    → drained (ending drive status cylinders chip) ≡ bare cylinders None false false chip
unfolding drained_by
untold_drained drive status cylinders chip few free untold =
    let same = bare_one cylinders None false false chip free in
    ap (λ c. drained_one (drained_one (drained_one c))) (untold_one drive status cylinders chip few free untold) ∙ (ap (λ c. drained_one (drained_one c)) same ∙ (ap drained_one same ∙ same))

-- the cylinder number that is reported is where the heads went
pub told_at : (drive target : ℕ) (cylinders : List ℕ) → drive ≤ 3 → length cylinders ≡ 4 → slice_index (slice_set cylinders drive target) drive ≡ target
told_at (suc (suc (suc (suc drive)))) target (a ∷ b ∷ c ∷ d ∷ []) few four = absurd (omega arith)
told_at _ target (a ∷ b ∷ c ∷ d ∷ []) few four = refl
told_at drive target _ few four = absurd (omega arith)

pub stood_stands : (status cylinder : ℕ) (cylinders : List ℕ) (chip : ChipState) → is_held chip.front.adapter.controller ≡ false → HeadsStand (stood status cylinder cylinders chip).front
stood_stands status cylinder cylinders chip free = record {
  through = refl;
  takes = refl;
  whole = refl;
  polled = refl;
  seek = refl;
  stand = stand;
}
  where
    stand : moves_heads (stood status cylinder cylinders chip).front ≡ false
    stand = rw free refl

-- the chip as it is where the seek has ended
as_ending : (drive status target : ℕ) (cylinders : List ℕ) (chip : ChipState) → HasEnded drive status target cylinders chip.front → chip ≡ ending drive status (slice_set cylinders drive target) chip
as_ending drive status target cylinders chip is =
    let at = slice_set cylinders drive target in
    ap (λ (f : Front). record chip { front = f }) (built chip.front Through Taking [] (record { cylinders = at; seek = Some (record { drive = drive; motion = Ended }); pending = slice_set none_pending drive (Some status) }) false true
    is.through is.takes is.whole is.seeks is.polled is.up)

pub ended_drained : (drive status target : ℕ) (cylinders : List ℕ) (chip : ChipState) → drive ≤ 3 → HasEnded drive status target cylinders chip.front → chip.pace ≡ None
    → drained chip ≡ stood status target (slice_set cylinders drive target) chip
ended_drained drive status target cylinders chip few is unpaced =
    let at = slice_set cylinders drive target in
    ap drained (as_ending drive status target cylinders chip is)
    ∙ (ends_drained drive status at chip few is.free unpaced ∙ ap (λ c. stood status c at chip) (told_at drive target cylinders few is.four))

-- with pulses to come in the time that SPECIFY sets
pub ended_untold : (drive status target : ℕ) (cylinders : List ℕ) (chip : ChipState) → drive ≤ 3 → HasEnded drive status target cylinders chip.front → is_told chip.pace status ≡ false
    → drained chip ≡ bare (slice_set cylinders drive target) None false false chip
ended_untold drive status target cylinders chip few is untold =
    ap drained (as_ending drive status target cylinders chip is) ∙ untold_drained drive status (slice_set cylinders drive target) chip few is.free untold

-- ---- a device step of the chip

pub either_same : (b : Bool) (one other : ChipState) → one ≡ other → (if b then one else other) ≡ other
either_same true one other is = is
either_same false one other is = refl

ended_up : (drive status target : ℕ) (cylinders : List ℕ) (old : ChipState) (front : Front) → HasEnded drive status target cylinders front → is_gated front.adapter.controller ≡ true → interrupts_outside front ≡ true
ended_up drive status target cylinders old front is gated =
    ap (λ stage. interrupts_at stage front.adapter.controller) is.through ∙ and_from (is_gated front.adapter.controller) front.adapter.controller.interrupt gated is.up

pub heads_step : (left drive : ℕ) (goal : Option ℕ) (old new : ChipState) → IsSound old → HeadsGo (left + 1) drive goal Ready old → StepsChip old new → HeadsGo left drive goal Ready new ⊎ EndsBySignal drive goal old new
heads_step left drive goal old new sound was step =
    let set = with_front step.between old in
    let is = ready_step old new step was.at was.unpaced in
    elim (front_steps left drive goal old.front step.between step.steps was.going) [
      | inl going ↦
          let same : new ≡ set = is ∙ either_same (interrupts_outside step.between) (drained set) set (going_drained left drive goal set going) in
          inl (subst (HeadsGo left drive goal Ready) (sym same) (record { at = was.at; unpaced = was.unpaced; few = was.few; going = going }))
      | inr ended ↦
          let status = status_in goal drive old.front in
          let cylinders = old.front.adapter.controller.seeks.cylinders in
          let target = unwrap_or goal 0 in
          let stays = adapter_stays old.front.adapter step.steps.between step.steps.steps in
          let controller = ap (λ (f : Front). f.adapter.controller) (through_step old.front step.between step.steps was.going.through) in
          let dor : step.between.adapter.controller.dor ≡ old.front.adapter.controller.dor = ap (λ (c : Fdc). c.dor) controller ∙ stays.dor in
          let gated : is_gated step.between.adapter.controller ≡ true = ap (λ (d : Dor). is_gated (record old.front.adapter.controller { dor = d })) dor ∙ sound.lets_out was.going.free in
          let up = ended_up drive status target cylinders old step.between ended gated in
          let same : new ≡ stood status target (slice_set cylinders drive target) set =
          is ∙ (ap (λ b. if b then drained set else set) up ∙ ended_drained drive status target cylinders set was.few ended was.unpaced) in
          inr (subst (EndsBySignal drive goal old) (sym same) (record { stage = refl; unpaced = was.unpaced; results = refl; standing = stood_stands status target (slice_set cylinders drive target) set ended.free }))
    ]

pub heads_some : (drive : ℕ) (goal : Option ℕ) (stage : ChipStage) (chip : ChipState) → HeadsGo 0 drive goal stage chip → ⊥
heads_some drive goal stage chip was = none goal was.going.motion was.going.goes was.going.within
  where
    none : (goal : Option ℕ) (motion : Motion) → GoesTo goal motion → steps_left motion ≤ 0 → ⊥
    none None Ended goes few = goes
    none (Some target) Ended goes few = goes
    none goal _ goes few = absurd (omega arith)

-- INT is up
pub ends_interrupt : (drive : ℕ) (goal : Option ℕ) (old new : ChipState) → old.stage ≡ Ready → EndsBySignal drive goal old new → interrupts_chip new ≡ new.gated
ends_interrupt drive goal old new at ends =
    ready_interrupts new (ends.stage ∙ at) ∙ (ap (λ (i : Interrupting). new.gated && (i.line || interrupts_outside new.front)) ends.results ∙ and_true new.gated)
