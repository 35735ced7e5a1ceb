use Rattle.std.proofs.Common.{◌∙◌, ap}
use Rattle.telwyddus_c.proofs.Common.{bay_state, drive_within, faults_in_bay, state_replanned, BayDrive, replanned}
use Rattle.telwyddus_c.proofs.Kept.{keeps_twice}
use Rattle.telwyddus_c.proofs.controller.drives.replan.Goals as goal

pub returns : goal.returns
returns c = record {
  faults_are = ap faults_in_bay c.swap_drive-2.ensures.put ∙ c.replan.ensures.faults;
  within =
      ap drive_within c.swap_drive-2.ensures.put
      ∙ c.replan.ensures.within
      ∙ ap (λ (bay : BayDrive). replanned c.args.faults.items (drive_within bay)) c.swap_drive.ensures.taken;
  state =
      ap bay_state c.swap_drive-2.ensures.put
      ∙ c.replan.ensures.state
      ∙ ap (state_replanned c.args.faults.items) c.swap_drive.ensures.taken;
  beside = record {
    chip = keeps_twice _ _ _ c.swap_drive.ensures.keeps c.swap_drive-2.ensures.keeps;
    other = c.swap_drive-2.ensures.other ∙ c.swap_drive.ensures.other;
  };
}
