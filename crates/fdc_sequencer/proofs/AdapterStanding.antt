-- Device steps of a controller that does nothing.
use Rattle.std.proofs.Common.{◌≡◌, ℕ, zero, suc, ◌==◌, ◌&&◌, Bool, true, false, not, if◌then◌else◌, refl, sym, ap, ◌∙◌, subst, arith}
use Rattle.fdc_sequencer.proofs.Common.{true≢false, DriveState, IsStill, Works, WorksAlone, is_executing, is_held, EndsIn, RestsIn, polled, Fdc, Phase, Execute, with_polls, PassesWordTime, selected_at, Stands}

-- ---- a word time in which nothing is executed

-- a device step of a data command doesn't leave the command at the same step
not_executing : (phase : Phase) → EndsIn phase phase → is_executing phase ≡ false
not_executing (Execute execution) ends = let fewer = ends.0 in absurd (omega arith)
not_executing _ ends = refl

-- the poll doesn't change the phase
polled_phase : (old : Fdc) → (polled old).phase ≡ old.phase
polled_phase old = by_poll (old.poll_due && not (is_held old))
  where
    by_poll : (b : Bool) → (if b then record old { poll_due = false; interrupt = true; seeks = with_polls old.seeks } else old).phase ≡ old.phase
    by_poll true = refl
    by_poll false = refl

-- any two outcomes of one device step are the same
one_outcome : (phase : Phase) (track0 : Bool) (polls one other : Fdc) → is_executing phase ≡ false → RestsIn phase track0 polls one → RestsIn phase track0 polls other → other ≡ one
one_outcome (Execute execution) track0 polls one other idle first second = absurd (true≢false idle)
one_outcome _ track0 polls one other idle first second = second ∙ sym first

idle_polled : (old : Fdc) → EndsIn old.phase old.phase → is_executing (polled old).phase ≡ false
idle_polled old ends = ap is_executing (polled_phase old) ∙ not_executing old.phase ends

still_with : (old : Fdc) (before : DriveState) (new : Fdc) (after : DriveState) → IsStill old → Works old before new after → new ≡ old
still_with old before new after still works =
    let none = still.works before in
    one_outcome (polled old).phase (before.cylinder == 0) (polled old) old new (idle_polled old none.ends) none.rests works.rests

still_alone : (old new : Fdc) → IsStill old → WorksAlone old new → new ≡ old
still_alone old new still works =
    one_outcome (polled old).phase false (polled old) old new (idle_polled old still.alone.ends) still.alone.rests works.rests

still_stays : (selected : ℕ) (old : Fdc) (first second : DriveState) (new : Fdc) (first_after second_after : DriveState)
    → IsStill old → PassesWordTime selected old first second new first_after second_after → new ≡ old
still_stays zero old first second new first_after second_after still passes = still_with old first new first_after still (passes.at_first refl).0
still_stays (suc zero) old first second new first_after second_after still passes = still_with old second new second_after still (passes.at_second refl).0
still_stays (suc (suc n)) old first second new first_after second_after still passes = still_alone old new still (passes.at_none (omega arith)).0

-- if a device step may leave a controller unchanged, each device step leaves it unchanged
pub stands : (fdc : Fdc) → IsStill fdc → Stands fdc
stands fdc still old new is step =
    still_stays (selected_at old) old.controller old.first old.second new.controller new.first new.second (subst IsStill (sym is) still) step ∙ is
