-- What has to hold of a station between calls, obtained from the mere existence of a proof of it.
use Rattle.std.proofs.Common.{◌≡◌, refl, ap, ◌∙◌, arith, Option, Some, None, ⊎_elim}
use mathlib.Core.HLevel.{⊥_prop}
use mathlib.Core.Logic.{∥∥₁_elim, ∥∥₁_map}
use Rattle.std.proofs.Props.{props}
use Rattle.std.proofs.lemmas.Bool.{cases_eq}
use Rattle.sector_desk.proofs.Common.{plain_state, PlainDrive, Board, controller_of, IsStationReady, MachineStation}
use Rattle.fdc_core.specs.State.{dor_of}
use Rattle.fdc_core.specs.declared.controller.Fdc.{Fdc}
use Rattle.fdc_phases.specs.declared.phases.Phase.{Phase}
use Rattle.fdc_phases.specs.declared.phases.Phase.TheVariants.{Command}
use Rattle.fdc_commands.specs.Seeking.{Seeking}
use Rattle.machine_commands.specs.Ready.{AreSeeksOver, HasMotors, IsIdle, IsReady, dor_with}
use Rattle.machine_commands.specs.declared.motors.Motors.{Motors}

none_again : {A : Type 0} (o : Option A) → ∥ o ≡ None ∥₁ → o ≡ None
none_again None told = refl
none_again (Some x) told = let none : ⊥ = ∥∥₁_elim told ⊥_prop (λ is. cc) in absurd none

phase_again : (phase : Phase) → ∥ phase ≡ Command ∥₁ → phase ≡ Command
phase_again Command told = refl
phase_again _ told = let none : ⊥ = ∥∥₁_elim told ⊥_prop (λ is. cc) in absurd none

seeks_again : (seeks : Seeking) → ∥ AreSeeksOver seeks ∥₁ → AreSeeksOver seeks
seeks_again seeks told = record {
  no_seek = none_again seeks.seek (∥∥₁_map told (λ r. r.no_seek));
  no_result = ∥∥₁_elim told (hlevel props) (λ r. r.no_result);
  four = ∥∥₁_elim told (hlevel props) (λ r. r.four);
  first = ∥∥₁_elim told (hlevel props) (λ r. r.first);
  second = ∥∥₁_elim told (hlevel props) (λ r. r.second);
}

ready_again : (fdc : Fdc) → ∥ IsReady fdc ∥₁ → IsReady fdc
ready_again fdc told = record {
  phase = phase_again fdc.phase (∥∥₁_map told (λ r. r.phase));
  no_bytes = ∥∥₁_elim told (hlevel props) (λ r. r.no_bytes);
  seeks = seeks_again fdc.seeks (∥∥₁_map told (λ r. r.seeks));
  by_dma = ∥∥₁_elim told (hlevel props) (λ r. r.by_dma);
  polled = ∥∥₁_elim told (hlevel props) (λ r. r.polled);
  no_interrupt = ∥∥₁_elim told (hlevel props) (λ r. r.no_interrupt);
  not_asking = ∥∥₁_elim told (hlevel props) (λ r. r.not_asking);
  fifo_on = ∥∥₁_elim told (hlevel props) (λ r. r.fifo_on);
  threshold = ∥∥₁_elim told (hlevel props) (λ r. r.threshold);
}

-- a DOR that doesn't select bay 0 selects bay 1
other_bay : (motors : Motors) (board : Board) → (dor_of (controller_of board) ≡ dor_with motors 0 → ⊥) → HasMotors motors board → dor_of (controller_of board) ≡ dor_with motors 1
other_bay motors board other has =
    ⊎_elim (λ (zero : has.bay ≡ 0). absurd (other (has.dor ∙ ap (dor_with motors) zero)))
    (λ (more : has.bay ≡ 0 → ⊥). let one : has.bay ≡ 1 = omega (arith, more, has.bay_in) in has.dor ∙ ap (dor_with motors) one)
    (cases_eq has.bay 0)

motors_again : (motors : Motors) (board : Board) → ∥ HasMotors motors board ∥₁ → HasMotors motors board
motors_again motors board told =
    ⊎_elim (λ (same : dor_of (controller_of board) ≡ dor_with motors 0). let has : HasMotors motors board = record {
      bay = 0;
      bay_in = omega arith;
      dor = same;
      first = ∥∥₁_elim told (hlevel props) (λ r. r.first);
      second = ∥∥₁_elim told (hlevel props) (λ r. r.second);
    } in has)
    (λ (other : dor_of (controller_of board) ≡ dor_with motors 0 → ⊥). let has : HasMotors motors board = record {
      bay = 1;
      bay_in = omega arith;
      dor = ∥∥₁_elim told (hlevel props) (λ r. other_bay motors board other r);
      first = ∥∥₁_elim told (hlevel props) (λ r. r.first);
      second = ∥∥₁_elim told (hlevel props) (λ r. r.second);
    } in has)
    (cases_eq (dor_of (controller_of board)) (dor_with motors 0))

idle_again : (motors : Motors) (board : Board) → ∥ IsIdle motors board ∥₁ → IsIdle motors board
idle_again motors board told = record {
  ready = ready_again (controller_of board) (∥∥₁_map told (λ r. r.ready));
  motors_are = motors_again motors board (∥∥₁_map told (λ r. r.motors_are));
  low = ∥∥₁_elim told (hlevel props) (λ r. r.low);
  first = ∥∥₁_elim told (hlevel props) (λ r. r.first);
  second = ∥∥₁_elim told (hlevel props) (λ r. r.second);
}

pub station_again : (station : MachineStation PlainDrive) → ∥ IsStationReady plain_state station ∥₁ → IsStationReady plain_state station
station_again station told = record {
  idle = idle_again station.machine.motors _ (∥∥₁_map told (λ r. r.idle));
  attached = ∥∥₁_elim told (hlevel props) (λ r. r.attached);
  flags = ∥∥₁_elim told (hlevel props) (λ r. r.flags);
  spare = ∥∥₁_elim told (hlevel props) (λ r. r.spare);
}
