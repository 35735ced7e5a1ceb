-- The inner controller while only its heads move: device steps, and results that are taken over.
use Rattle.std.proofs.Common.{◌≡◌, ◌⊎◌, inl, inr, ℕ, zero, suc, ◌+◌, ◌-◌, ◌%◌, ◌<◌, ◌≤◌, min, nat_lt, Bool, true, false, not, ◌&&◌, ◌||◌, ◌==◌, if◌then◌else◌, Option, Some, None, is_some, List, [], ◌∷◌, slice_set, refl, sym, ◌∙◌, ap, subst, arith}
use Rattle.fdc_chip.proofs.Common.{option_map_or, ForSome, and_right, eqb-true, false≢true, nat_tests, ended, has_ended, is_seeking, neighbour, pulse_due, pulse_of, pulses_ahead, pulses_from, recalibrated, sought, stepped_seek, with_motion, with_polls, Outward, Toward, Ended, DriveSeek, Phase, Taking, mark_of, Works, is_gated, is_held, Fdc, AdapterState, StepsAdapter, selected_at, heads_at, steps_ahead, Front, interrupts_at, interrupts_outside, FollowsStep, StepsFront, Through, ChipState, drained, drained_one, is_told, moves_heads, PacedSeek}
use Rattle.drive_model.specs.Drive.{DriveState}
use Rattle.fdc_registers.specs.declared.drive_lines.Dor.{Dor}
use Rattle.fdc_commands.specs.Seeking.{Seeking, stepped}
use Rattle.fdc_commands.specs.declared.motion.Motion.{Motion}
use Rattle.fdc_core.specs.Steps.{Moves, MovesIn, Rests, RestsIn, Stays, polled, seek_stepped}
use Rattle.fdc_chip.specs.Doing.{drained_by}
use Rattle.fdc_chip.proofs.Giving.{IsTaking, bit_moves}

-- ---- what is known

abbrev pub none_pending : List (Option ℕ)
none_pending = None ∷ None ∷ None ∷ None ∷ []

-- the inner controller takes commands. No poll comes, no result is pending, and INT is down
pub record IsAhead (front : Front) : Type 0 where
  pub taking : IsTaking front
  pub polled : front.adapter.controller.poll_due ≡ false
  pub pending : front.adapter.controller.seeks.pending ≡ none_pending
  pub down : (is_gated front.adapter.controller && front.adapter.controller.interrupt) ≡ false
  pub four : ForSome front.adapter.controller.seeks.seek (λ seek. seek.drive < 4)

pub ahead_down : (front : Front) → IsAhead front → interrupts_outside front ≡ false
ahead_down front is = ap (λ stage. interrupts_at stage front.adapter.controller) is.taking.through ∙ is.down

-- the result of a seek that ended. It isn't reported while pulses are to come in the time that SPECIFY sets
pub record HasEnded (front : Front) : Type 0 where
  pub taking : IsTaking front
  pub polled : front.adapter.controller.poll_due ≡ false
  pub drive : ℕ
  pub few : drive < 4
  pub status : ℕ
  pub cylinders : List ℕ
  pub seeks : front.adapter.controller.seeks
      ≡ record { cylinders = cylinders; seek = Some (record { drive = drive; motion = Ended }); pending = slice_set none_pending drive (Some status) }
  pub untold : (pace : PacedSeek) → is_told (Some pace) status ≡ false

-- ---- results that are taken over

-- the front with this of the controller
abbrev pub build : Front → Seeking → Bool → Front
build front seeks up = record front {
  stage = Through;
  adapter = record front.adapter { controller = record front.adapter.controller { phase = Taking; command = []; seeks = seeks; poll_due = false; interrupt = up } };
}

built : (front : Front) (seeks : Seeking) (up : Bool) → IsTaking front → front.adapter.controller.poll_due ≡ false → front.adapter.controller.seeks ≡ seeks → front.adapter.controller.interrupt ≡ up → front ≡ build front seeks up
built front seeks up is none seeks_is up_is =
    let fdc = front.adapter.controller in
    let made : Seeking → Bool → Bool → Phase → List ℕ → Front = λ s due i phase command. record front {
      stage = Through;
      adapter = record front.adapter { controller = record fdc { phase = phase; command = command; seeks = s; poll_due = due; interrupt = i } };
    } in
    ap (λ stage. record front { stage = stage }) is.through
    ∙ (ap (λ phase. made fdc.seeks fdc.poll_due fdc.interrupt phase fdc.command) is.takes
    ∙ (ap (λ command. made fdc.seeks fdc.poll_due fdc.interrupt Taking command) is.none
    ∙ (ap (λ s. made s fdc.poll_due fdc.interrupt Taking []) seeks_is
    ∙ (ap (λ due. made seeks due fdc.interrupt Taking []) none
    ∙ ap (λ i. made seeks false i Taking []) up_is))))

-- no result is pending
abbrev pub bare : List ℕ → Option DriveSeek → Bool → ChipState → ChipState
bare cylinders seek up chip = record chip { front = build chip.front (record { cylinders = cylinders; seek = seek; pending = none_pending }) up }

bare_one : (cylinders : List ℕ) (seek : Option DriveSeek) (up : Bool) (chip : ChipState) → is_held chip.front.adapter.controller ≡ false → drained_one (bare cylinders seek up chip) ≡ bare cylinders seek up chip
bare_one cylinders seek up chip free = rw free refl

bare_drained : (cylinders : List ℕ) (seek : Option DriveSeek) (up : Bool) (chip : ChipState) → is_held chip.front.adapter.controller ≡ false → drained (bare cylinders seek up chip) ≡ bare cylinders seek up chip
unfolding drained_by
bare_drained cylinders seek up chip free = let same = bare_one cylinders seek up chip free in
    ap (λ c. drained_one (drained_one (drained_one c))) same ∙ (ap (λ c. drained_one (drained_one c)) same ∙ (ap drained_one same ∙ same))

-- where no result is pending the chip stays as it is
pub ahead_drained : (chip : ChipState) → IsAhead chip.front → drained chip ≡ chip
ahead_drained chip is =
    let fdc = chip.front.adapter.controller in
    let s = fdc.seeks in
    let seeks : s ≡ record { cylinders = s.cylinders; seek = s.seek; pending = none_pending } = ap (λ p. record s { pending = p }) is.pending in
    let same : chip ≡ bare s.cylinders s.seek fdc.interrupt chip =
    ap (λ (f : Front). record chip { front = f }) (built chip.front (record { cylinders = s.cylinders; seek = s.seek; pending = none_pending }) fdc.interrupt is.taking is.polled seeks refl) in
    ap drained same ∙ (bare_drained s.cylinders s.seek fdc.interrupt chip is.taking.free ∙ sym same)

abbrev ending : ℕ → ℕ → List ℕ → Bool → ChipState → ChipState
ending drive status cylinders up chip =
    record chip { front = build chip.front (record { cylinders = cylinders; seek = Some (record { drive = drive; motion = Ended }); pending = slice_set none_pending drive (Some status) }) up }

untold_one : (drive status : ℕ) (cylinders : List ℕ) (up : Bool) (chip : ChipState) → drive < 4 → is_held chip.front.adapter.controller ≡ false → is_told chip.pace status ≡ false
    → drained_one (ending drive status cylinders up chip) ≡ bare cylinders None false chip
untold_one (suc (suc (suc (suc drive)))) status cylinders up chip few free untold = absurd (omega arith)
untold_one _ status cylinders up chip few free untold = rw (free, untold) refl

untold_drained : (drive status : ℕ) (cylinders : List ℕ) (up : Bool) (chip : ChipState) → drive < 4 → is_held chip.front.adapter.controller ≡ false → is_told chip.pace status ≡ false
    → drained (ending drive status cylinders up chip) ≡ bare cylinders None false chip
unfolding drained_by
untold_drained drive status cylinders up chip few free untold =
    let same = bare_one cylinders None false chip free in
    ap (λ c. drained_one (drained_one (drained_one c))) (untold_one drive status cylinders up chip few free untold) ∙ (ap (λ c. drained_one (drained_one c)) same ∙ (ap drained_one same ∙ same))

-- the result of a single pulse is taken over, and isn't reported
pub ended_drained : (pace : PacedSeek) (chip : ChipState) (over : HasEnded chip.front) → chip.pace ≡ Some pace → drained chip ≡ bare over.cylinders None false chip
ended_drained pace chip over paced =
    let fdc = chip.front.adapter.controller in
    let same : chip ≡ ending over.drive over.status over.cylinders fdc.interrupt chip =
    ap (λ (f : Front). record chip { front = f }) (built chip.front (record {
      cylinders = over.cylinders;
      seek = Some (record { drive = over.drive; motion = Ended });
      pending = slice_set none_pending over.drive (Some over.status);
    }) fdc.interrupt over.taking over.polled over.seeks refl) in
    ap drained same
    ∙ untold_drained over.drive over.status over.cylinders fdc.interrupt chip over.few over.taking.free (ap (λ p. is_told p over.status) paced ∙ over.untold pace)

pub bare_ahead : (cylinders : List ℕ) (chip : ChipState) → is_held chip.front.adapter.controller ≡ false → IsAhead (bare cylinders None false chip).front
bare_ahead cylinders chip free = record {
  taking = record { through = refl; takes = refl; none = refl; free = free };
  polled = refl;
  pending = refl;
  down = and_right (is_gated chip.front.adapter.controller) false refl;
  four = λ seek is. absurd (false≢true (ap is_some is));
}

pub some_four : (seek : DriveSeek) → seek.drive < 4 → ForSome (Some seek) (λ seek. seek.drive < 4)
some_four seek few = λ one of. subst (λ n. n < 4) (ap (λ (s : Option DriveSeek). option_map_or (λ (d : DriveSeek). d.drive) s 0) of) few

-- ---- ---- the motion in a device step

status_untold : (drive : ℕ) (track0 : Bool) (pace : PacedSeek) → drive < 4 → is_told (Some pace) (recalibrated drive track0) ≡ false
status_untold zero true pace few = refl
status_untold zero false pace few = refl
status_untold (suc zero) true pace few = refl
status_untold (suc zero) false pace few = refl
status_untold (suc (suc zero)) true pace few = refl
status_untold (suc (suc zero)) false pace few = refl
status_untold (suc (suc (suc zero))) true pace few = refl
status_untold (suc (suc (suc zero))) false pace few = refl
status_untold (suc (suc (suc (suc drive)))) track0 pace few = absurd (omega arith)

-- what a device step makes of the seek of a drive, whose heads stand on this cylinder and then on the next one: nothing,
-- or a pulse, or its end
data Moved (here next : ℕ) (old new : Seeking) : Type 0 where
  unmoved : new ≡ old → pulses_ahead here old ≡ 0 → Moved here next old new
  pulsed : (drive : ℕ) (on : Motion) → drive < 4 → has_ended on ≡ false → new ≡ with_motion old drive on → pulses_ahead here old ≤ pulses_from next on + 1 → Moved here next old new
  arrived : (drive cylinder status : ℕ) → drive < 4 → pulses_ahead here old ≡ 0 → new ≡ ended old drive cylinder status → ((pace : PacedSeek) → is_told (Some pace) status ≡ false) → Moved here next old new

-- a RECALIBRATE brings the heads no more than one cylinder outward
abbrev IsNear : ℕ → ℕ → Seeking → Type 0
IsNear here next old = (drive pulses : ℕ) → old.seek ≡ Some (record { drive = drive; motion = Outward pulses }) → here ≤ next + 1

one_nearer : (from target : ℕ) (b : Bool) → nat_lt from target ≡ b → (from == target) ≡ false
    → (from - target) + (target - from) ≤ ((if b then from + 1 else from - 1) - target) + (target - (if b then from + 1 else from - 1)) + 1
one_nearer from target true is differs = grind (arith, nat_tests)
one_nearer from target false is differs = grind (arith, nat_tests)

none_outward : (here pulses : ℕ) → ((here == 0) || (pulses == 0)) ≡ true → min pulses here ≡ 0
none_outward here pulses last = by_zero (here == 0) refl last
  where
    by_zero : (b : Bool) → (here == 0) ≡ b → (b || (pulses == 0)) ≡ true → min pulses here ≡ 0
    by_zero true none last = let is = eqb-true here 0 none in omega (arith, is)
    by_zero false some last = let is = eqb-true pulses 0 last in omega (arith, is)

none_toward : (from target : ℕ) → from ≡ target → (from - target) + (target - from) ≡ 0
none_toward from target same = omega arith

-- the pulses that this motion still gives
of_motion : (here drive : ℕ) (motion : Motion) (old : Seeking) → old.seek ≡ Some (record { drive = drive; motion = motion }) → pulses_ahead here old ≡ pulses_from here motion
of_motion here drive motion old is = ap (λ (s : Option DriveSeek). option_map_or (λ (d : DriveSeek). pulses_from here d.motion) s 0) is

motion_moved : (here next drive : ℕ) (motion : Motion) (old : Seeking) → IsNear here next old → drive < 4 → old.seek ≡ Some (record { drive = drive; motion = motion })
    → Moved here next old (stepped_seek old drive motion (here == 0))
motion_moved here next drive (Outward pulses) old near few is = by_last ((here == 0) || (pulses == 0)) refl
  where
    by_last : (b : Bool) → ((here == 0) || (pulses == 0)) ≡ b
        → Moved here next old (if b then ended old drive 0 (recalibrated drive (here == 0)) else with_motion old drive (Outward (pulses - 1)))
    by_last true last =
        arrived drive 0 (recalibrated drive (here == 0)) few (of_motion here drive (Outward pulses) old is ∙ none_outward here pulses last) refl
        (λ pace. status_untold drive (here == 0) pace few)
    by_last false last =
        let close = near drive pulses is in
        pulsed drive (Outward (pulses - 1)) few refl refl (subst (λ n. n ≤ min (pulses - 1) next + 1) (sym (of_motion here drive (Outward pulses) old is)) (omega (arith, close)))
motion_moved here next drive (Toward from target) old near few is = by_there (from == target) refl
  where
    by_there : (b : Bool) → (from == target) ≡ b
        → Moved here next old (if b then ended old drive target (sought drive) else with_motion old drive (Toward (neighbour from target) target))
    by_there true there =
        arrived drive target (sought drive) few (of_motion here drive (Toward from target) old is ∙ none_toward from target (eqb-true from target there)) refl
        (λ pace. status_untold drive true pace few)
    by_there false there =
        pulsed drive (Toward (neighbour from target) target) few refl refl
        (subst (λ n. n ≤ pulses_from next (Toward (neighbour from target) target) + 1) (sym (of_motion here drive (Toward from target) old is)) (one_nearer from target (nat_lt from target) refl there))
motion_moved here next drive Ended old near few is = unmoved refl (of_motion here drive Ended old is)

seeks_moved : (here next : ℕ) (old : Seeking) → IsNear here next old → ForSome old.seek (λ seek. seek.drive < 4) → Moved here next old (stepped old (here == 0))
seeks_moved here next old near four = by_seek old.seek refl
  where
    by_seek : (seek : Option DriveSeek) → old.seek ≡ seek → Moved here next old (option_map_or (λ (d : DriveSeek). stepped_seek old d.drive d.motion (here == 0)) seek old)
    by_seek None is = unmoved refl (ap (λ (s : Option DriveSeek). option_map_or (λ (d : DriveSeek). pulses_from here d.motion) s 0) is)
    by_seek (Some seek) is = motion_moved here next seek.drive seek.motion old near (four seek is) is

-- ---- the controller in a device step

polled_phase : (old : Fdc) → (polled old).phase ≡ old.phase
polled_phase old = by_poll (old.poll_due && not (is_held old))
  where
    by_poll : (b : Bool) → (if b then record old { poll_due = false; interrupt = true; seeks = with_polls old.seeks } else old).phase ≡ old.phase
    by_poll true = refl
    by_poll false = refl

none_polled : (old : Fdc) → old.poll_due ≡ false → polled old ≡ old
none_polled old none = ap (λ b. if b && not (is_held old) then record old { poll_due = false; interrupt = true; seeks = with_polls old.seeks } else old) none

-- where no poll comes, only the seek moves
only_seeks : (track0 : Bool) (old new : Fdc) → old.phase ≡ Taking → old.poll_due ≡ false → Rests track0 (polled old) new → new ≡ seek_stepped track0 old
only_seeks track0 old new takes none rests =
    let same = none_polled old none in
    subst (λ phase. RestsIn phase track0 (polled old) new) (polled_phase old ∙ takes) rests ∙ ap (seek_stepped track0) same

-- a pulse outward moves the heads by one cylinder at most
outward_near : (b : Bool) (before after : DriveState) → Moves (if b then None else Some false) before after → before.cylinder ≤ after.cylinder + 1
outward_near true before after is = subst (λ c. before.cylinder ≤ c + 1) (sym (ap (λ (s : DriveState). s.cylinder) is)) (omega arith)
outward_near false before after (between, pulses, is) =
    subst (λ c. before.cylinder ≤ c + 1) (sym (ap (λ (s : DriveState). s.cylinder) is)) (elim pulses [
      | inl moved ↦ subst (λ c. before.cylinder ≤ c + 1) (sym (ap (λ (s : DriveState). s.cylinder) moved.becomes)) (omega arith)
      | inr lost ↦ subst (λ c. before.cylinder ≤ c + 1) (sym (ap (λ (s : DriveState). s.cylinder) lost.0.becomes)) (omega arith)
    ])

works_near : (old new : Fdc) (before after : DriveState) → old.phase ≡ Taking → old.poll_due ≡ false → Works old before new after → IsNear before.cylinder after.cylinder old.seeks
works_near old new before after takes none works drive pulses is =
    let same : polled old ≡ old = none_polled old none in
    let moves : Moves (pulse_due (polled old).seeks (before.cylinder == 0)) before after = subst (λ phase. MovesIn phase (polled old) before after) (polled_phase old ∙ takes) works.drive in
    let pulse : pulse_due (polled old).seeks (before.cylinder == 0) ≡ pulse_of (Outward pulses) (before.cylinder == 0) =
    ap (λ (fdc : Fdc). pulse_due fdc.seeks (before.cylinder == 0)) same ∙ ap (λ (s : Option DriveSeek). option_map_or (λ (d : DriveSeek). pulse_of d.motion (before.cylinder == 0)) s None) is in
    outward_near ((before.cylinder == 0) || (pulses == 0)) before after (subst (λ p. Moves p before after) pulse moves)

-- ---- the adapter in a device step

record AdapterMoved (old new : AdapterState) : Type 0 where
  track0 : Bool
  is : new.controller ≡ seek_stepped track0 old.controller
  moved : Moved (heads_at old) (heads_at new) old.controller.seeks (stepped old.controller.seeks track0)

drive_moved : (old new : AdapterState) (before after : DriveState) → old.controller.phase ≡ Taking → old.controller.poll_due ≡ false → ForSome old.controller.seeks.seek (λ seek. seek.drive < 4)
    → heads_at old ≡ before.cylinder → heads_at new ≡ after.cylinder → Works old.controller before new.controller after → AdapterMoved old new
drive_moved old new before after takes none four at_old at_new works =
    let seeks = old.controller.seeks in
    let track0 = before.cylinder == 0 in
    let moved = seeks_moved before.cylinder after.cylinder seeks (works_near old.controller new.controller before after takes none works) four in
    record {
      track0 = track0;
      is = only_seeks track0 old.controller new.controller takes none works.rests;
      moved = subst (λ h. Moved h (heads_at new) seeks (stepped seeks track0)) (sym at_old) (subst (λ n. Moved before.cylinder n seeks (stepped seeks track0)) (sym at_new) moved);
    }

-- the drive that DOR selects
which_drive : (n : ℕ) → (n ≡ 0) ⊎ ((n ≡ 1) ⊎ (2 ≤ n))
which_drive zero = inl refl
which_drive (suc zero) = inr (inl refl)
which_drive (suc (suc n)) = inr (inr (omega arith))

abbrev heads_by : AdapterState → ℕ → ℕ
heads_by adapter selected = if selected == 0 then adapter.first.cylinder else (if selected == 1 then adapter.second.cylinder else 255)

heads_none : (adapter : AdapterState) (selected : ℕ) → 2 ≤ selected → heads_by adapter selected ≡ 255
heads_none adapter selected many =
    let not_first : (selected == 0) ≡ false = grind (arith, nat_tests) in
    let not_second : (selected == 1) ≡ false = grind (arith, nat_tests) in
    ap (λ b. if b then adapter.first.cylinder else (if selected == 1 then adapter.second.cylinder else 255)) not_first
    ∙ ap (λ b. if b then adapter.second.cylinder else 255) not_second

adapter_moved : (old new : AdapterState) → StepsAdapter old new → old.controller.phase ≡ Taking → old.controller.poll_due ≡ false → ForSome old.controller.seeks.seek (λ seek. seek.drive < 4) → AdapterMoved old new
adapter_moved old new steps takes none four = elim (which_drive (selected_at old)) [
  | inl at ↦
      let works = (steps.at_first at).0 in
      drive_moved old new old.first new.first takes none four (ap (heads_by old) at) (ap (heads_by new) (same works.stays ∙ at)) works
  | inr (inl at) ↦
      let works = (steps.at_second at).0 in
      drive_moved old new old.second new.second takes none four (ap (heads_by old) at) (ap (heads_by new) (same works.stays ∙ at)) works
  | inr (inr at) ↦
      let works = (steps.at_none at).0 in
      let seeks = old.controller.seeks in
      let after : heads_at new ≡ 255 = ap (heads_by new) (same works.stays) ∙ heads_none new (selected_at old) at in
      record {
        track0 = false;
        is = only_seeks false old.controller new.controller takes none works.rests;
        moved = subst (λ h. Moved h (heads_at new) seeks (stepped seeks false)) (sym (heads_none old (selected_at old) at))
            (subst (λ n. Moved 255 n seeks (stepped seeks false)) (sym after) (seeks_moved 255 255 seeks (λ drive pulses is. omega arith) four));
      }
]
  where
    same : Stays old.controller new.controller → selected_at new ≡ selected_at old
    same stays = ap (λ (dor : Dor). dor.0 % 4) stays.dor

-- ---- the front in a device step

-- the seek goes on, or none runs
pub record GoesAhead (old new : Front) : Type 0 where
  pub ahead : IsAhead new
  pub fewer : steps_ahead old.adapter ≤ steps_ahead new.adapter + 1
  pub moves : 1 ≤ steps_ahead old.adapter → moves_heads new ≡ true

and_not : (b : Bool) → (b && not b) ≡ false
and_not true = refl
and_not false = refl

or_none : (one other : Bool) → other ≡ false → (one || other) ≡ one
or_none true other none = refl
or_none false other none = none

module _ (old : Front) (between : AdapterState) (was : IsAhead old) (track0 : Bool) (is : between.controller ≡ seek_stepped track0 old.adapter.controller) where
  taking_stays : IsTaking (record old { adapter = between })
  taking_stays = record {
    through = was.taking.through;
    takes = ap (λ (f : Fdc). f.phase) is ∙ was.taking.takes;
    none = ap (λ (f : Fdc). f.command) is ∙ was.taking.none;
    free = ap is_held is ∙ was.taking.free;
  }

  -- INT stays down where no seek ends
  down_stays : (is_seeking old.adapter.controller.seeks && not (is_seeking (stepped old.adapter.controller.seeks track0))) ≡ false → (is_gated between.controller && between.controller.interrupt) ≡ false
  down_stays none =
      ap (λ (f : Fdc). is_gated f && f.interrupt) is
      ∙ (ap (λ i. is_gated old.adapter.controller && i) (or_none old.adapter.controller.interrupt (is_seeking old.adapter.controller.seeks && not (is_seeking (stepped old.adapter.controller.seeks track0))) none) ∙ was.down)

  seeks_are : between.controller.seeks ≡ stepped old.adapter.controller.seeks track0
  seeks_are = ap (λ (f : Fdc). f.seeks) is

  front_moved : Moved (heads_at old.adapter) (heads_at between) old.adapter.controller.seeks (stepped old.adapter.controller.seeks track0) → GoesAhead old (record old { adapter = between }) ⊎ (HasEnded (record old { adapter = between }) × (steps_ahead old.adapter ≡ 0))
  front_moved (unmoved same none) = let seeks = seeks_are ∙ same in
      inl (record {
        ahead = record {
          taking = taking_stays;
          polled = ap (λ (f : Fdc). f.poll_due) is ∙ was.polled;
          pending = ap (λ (s : Seeking). s.pending) seeks ∙ was.pending;
          down = down_stays (ap (λ (s : Seeking). is_seeking old.adapter.controller.seeks && not (is_seeking s)) same ∙ and_not (is_seeking old.adapter.controller.seeks));
          four = subst (λ (s : Seeking). ForSome s.seek (λ seek. seek.drive < 4)) (sym seeks) was.four;
        };
        fewer = omega (arith, none);
        moves = λ some. absurd (omega (arith, none, some));
      })
  front_moved (pulsed drive on few goes same fewer) = let seeks = seeks_are ∙ same in
      inl (record {
        ahead = record {
          taking = taking_stays;
          polled = ap (λ (f : Fdc). f.poll_due) is ∙ was.polled;
          pending = ap (λ (s : Seeking). s.pending) seeks ∙ was.pending;
          down = down_stays (ap (λ (s : Seeking). is_seeking old.adapter.controller.seeks && not (is_seeking s)) same ∙ and_right (is_seeking old.adapter.controller.seeks) (not (not (has_ended on))) (ap (λ b. not (not b)) goes));
          four = subst (λ (s : Seeking). ForSome s.seek (λ seek. seek.drive < 4)) (sym seeks) (some_four (record { drive = drive; motion = on }) few);
        };
        fewer = subst (λ (s : Seeking). steps_ahead old.adapter ≤ pulses_ahead (heads_at between) s + 1) (sym seeks) fewer;
        moves = λ some. bit_moves (record old { adapter = between }) (record { drive = drive; motion = on }) taking_stays few (ap (λ (s : Seeking). s.seek) seeks);
      })
  front_moved (arrived drive cylinder status few none same untold) =
      inr (
        record {
          taking = taking_stays;
          polled = ap (λ (f : Fdc). f.poll_due) is ∙ was.polled;
          drive = drive;
          few = few;
          status = status;
          cylinders = slice_set old.adapter.controller.seeks.cylinders drive cylinder;
          seeks = seeks_are ∙ (same ∙ ap (λ p. record {
            cylinders = slice_set old.adapter.controller.seeks.cylinders drive cylinder;
            seek = Some (record { drive = drive; motion = Ended });
            pending = slice_set p drive (Some status);
          }) was.pending);
          untold = untold;
        },
        none,
      )

through_step : (old new : Front) (step : StepsFront old new) → old.stage ≡ Through → new ≡ record old { adapter = step.between }
through_step old new step through = subst (λ stage. FollowsStep (mark_of old.adapter.controller) stage (record old { adapter = step.between }) new) through step.follows

-- a device step while only heads move, or nothing does
pub front_goes : (old new : Front) → IsAhead old → StepsFront old new → GoesAhead old new ⊎ (HasEnded new × (steps_ahead old.adapter ≡ 0))
front_goes old new was step =
    let moved = adapter_moved old.adapter step.between step.steps was.taking.takes was.polled was.four in
    subst (λ (front : Front). GoesAhead old front ⊎ (HasEnded front × (steps_ahead old.adapter ≡ 0))) (sym (through_step old new step was.taking.through))
    (front_moved old step.between was moved.track0 moved.is moved.moved)
