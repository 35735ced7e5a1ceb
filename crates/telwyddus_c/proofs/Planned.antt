-- The drives of a new controller, once faults are planned for them.
use Rattle.std.proofs.Common.{◌≡◌, ℕ, true, false, not, List, Option, Some, None, is_some, ◌∙◌, ap}
use mathlib.Core.Bool.{false≢true}
use Rattle.telwyddus_c.proofs.Common.{bay_state, drive_within, faults_by, faults_in_bay, left_by, new_in_bay, state_replanned, BayDrive, Pulled, ControllerValue, DriveState, with_motor, total_left, told, Fault, Plan, ChipState, KeepsChip, IsPlain, state_of, IsPlanned, Replans, held}
use Rattle.telwyddus_c.proofs.Kept.{keeps_twice}

-- a drive as it is in a new controller
abbrev made_in_bay : Option ℕ → DriveState
made_in_bay left = with_motor false (new_in_bay left)

left_planned : (pulled : Option Pulled) (count left : ℕ) → not (is_some pulled) ≡ true → faults_by pulled count ≡ 0
    → left_by pulled (told count left) ≡ told 0 left
left_planned None count left attached none = ap (λ (it : ℕ). told it left) none
left_planned (Some pulled) count left attached none = absurd (false≢true attached)

replanned_new : (bay : BayDrive) (faults : List Fault) → bay_state bay ≡ made_in_bay (Some 0)
    → state_replanned faults bay ≡ made_in_bay (told 0 (total_left faults))
replanned_new bay faults is =
    let left : left_by bay.pulled (told (drive_within bay).faults (total_left faults)) ≡ told 0 (total_left faults) =
    left_planned bay.pulled (drive_within bay).faults (total_left faults) (ap (λ (s : DriveState). s.cable) is) (ap (λ (s : DriveState). s.faults) is) in
    ap (λ (it : Option ℕ). let d : DriveState = record (bay_state bay) { left = it } in d) left
    ∙ ap (λ (s : DriveState). let d : DriveState = record s { left = told 0 (total_left faults) } in d) is

-- first the faults of bay 0 are planned, then those of bay 1
pub planned_both : (plan : Plan) (old mid new : ControllerValue) → IsPlain old → Replans 0 plan.bay0 old mid → Replans 1 plan.bay1 mid new
    → IsPlanned plan new
planned_both plan old mid new plain first second =
    let keeps : KeepsChip (state_of old) (state_of new) = keeps_twice (state_of old) (state_of mid) (state_of new) first.beside.chip second.beside.chip in
    record {
      chip = record {
        front = record {
          adapter = record {
            controller = keeps.front.controller ∙ plain.front.adapter.controller;
            first = ap bay_state second.beside.other ∙ first.state ∙ replanned_new (held old 0) plan.bay0 plain.front.adapter.first;
            second = second.state ∙ replanned_new (held mid 1) plan.bay1 (ap bay_state first.beside.other ∙ plain.front.adapter.second);
          };
          stage = keeps.front.stage ∙ plain.front.stage;
        };
        stage = ap (λ (it : ChipState). it.stage) keeps.rest ∙ plain.stage;
        order = ap (λ (it : ChipState). it.order) keeps.rest ∙ plain.order;
        count = ap (λ (it : ChipState). it.count) keeps.rest ∙ plain.count;
        interrupts = ap (λ (it : ChipState). it.interrupts) keeps.rest ∙ plain.interrupts;
        settings = ap (λ (it : ChipState). it.settings) keeps.rest ∙ plain.settings;
        strapped = ap (λ (it : ChipState). it.strapped) keeps.rest ∙ plain.strapped;
        keys = ap (λ (it : ChipState). it.keys) keeps.rest ∙ plain.keys;
        gated = ap (λ (it : ChipState). it.gated) keeps.rest ∙ plain.gated;
        pace = ap (λ (it : ChipState). it.pace) keeps.rest ∙ plain.pace;
        paced = ap (λ (it : ChipState). it.paced) keeps.rest ∙ plain.paced;
        tape = ap (λ (it : ChipState). it.tape) keeps.rest ∙ plain.tape;
      };
      first = ap faults_in_bay second.beside.other ∙ first.faults_are;
      second = second.faults_are;
    }
