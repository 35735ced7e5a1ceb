-- Device steps at once while the inner controller moves a sector.
use Rattle.std.proofs.Common.{◌≡◌, ℕ, zero, suc, ◌+◌, Bool, false, refl, sym, ap, subst, ◌∙◌, arith}
use Rattle.std.specs.Prelude.{None, option_map}
use Rattle.fdc_chip.proofs.Common.{Front, interrupts_at, interrupts_outside, results_at, MovesAlong, StepsFront, Moving, ChipState, with_front, EndsAs, judged, results_judged, Follows, HasLinesChip, StepsChip, ChipStage, Busy, Sent}
use Rattle.fdc_sequencer.specs.Moves.{LeapsFront}
use Rattle.fdc_sequencer.specs.declared.stage.Moving.{Moving as MovingSector}
use Rattle.fdc_chip.specs.Steps.{RunsChipWith}
use Rattle.fdc_chip.proofs.Quieting.{same_lines}
use Rattle.fdc_chip.proofs.Runs.{runs_one, runs_plus}

-- while a sector is moved, no results wait and INT of the inner controller is down
moving_waits : (moving : MovingSector) (chip : ChipState) → chip.front.stage ≡ Moving moving → results_judged chip ≡ None
moving_waits moving chip at = ap (λ stage. option_map (judged chip) (results_at stage chip.front.adapter.controller)) at

moving_shows : (moving : MovingSector) (front : Front) → front.stage ≡ Moving moving → interrupts_outside front ≡ false
moving_shows moving front at = ap (λ stage. interrupts_at stage front.adapter.controller) at

-- nothing is done after such a device step
sent_step : (chip : ChipState) (front : Front) → chip.stage ≡ Busy Sent → StepsFront chip.front front → MovesAlong chip.front front
    → StepsChip chip (with_front front chip)
sent_step chip front at step along =
    let new : ChipState = with_front front chip in
    record {
      between = front;
      steps = step;
      follows = subst (λ (stage : ChipStage). Follows stage new new) (sym at)
          (subst (λ ends. EndsAs ends Sent new new) (sym (moving_waits along.moving new along.is)) refl);
    }

-- neither line changes in such a device step
sent_lines : (int drq : Bool) (chip : ChipState) (front : Front) → MovesAlong chip.front front → HasLinesChip int drq chip → HasLinesChip int drq (with_front front chip)
sent_lines int drq chip front along lines =
    let same = same_lines chip front along.request (moving_shows along.moving front along.is ∙ sym (moving_shows along.moving chip.front along.was)) in
    (same.0 ∙ lines.0, same.1 ∙ lines.1)

pub sent_runs : (int drq : Bool) (n : ℕ) (chip : ChipState) (front : Front) → chip.stage ≡ Busy Sent → HasLinesChip int drq chip → LeapsFront n chip.front front
    → RunsChipWith int drq n chip (with_front front chip)
unfolding LeapsFront RunsChipWith
sent_runs int drq zero chip front at lines leaps = ap (λ (f : Front). with_front f chip) leaps
sent_runs int drq (suc n) chip front at lines (mid, step, along, rest) =
    let same : 1 + n ≡ suc n = omega arith in
    subst (λ (count : ℕ). RunsChipWith int drq count chip (with_front front chip)) same
    (runs_plus int drq 1 n chip (with_front mid chip) (with_front front chip)
    (runs_one int drq chip (with_front mid chip) lines (sent_step chip mid at step along))
    (sent_runs int drq n (with_front mid chip) front at (sent_lines int drq chip mid along lines) rest))
