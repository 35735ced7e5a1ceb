use Rattle.std.proofs.Common.{◌∙◌, ap}
use Rattle.telwyddus_c.proofs.Common.{bay_state, drive_in_bay, is_attached, state_with_cable}
use Rattle.telwyddus_c.proofs.Kept.{keeps_twice}
use Rattle.telwyddus_c.proofs.controller.drives.set_cable.Goals as goal

pub returns : goal.returns
returns c = record {
  is = ap is_attached c.swap_drive-2.ensures.put ∙ c.with_cable-cabled.ensures.is;
  drive = ap drive_in_bay c.swap_drive-2.ensures.put ∙ c.with_cable-cabled.ensures.drive ∙ ap drive_in_bay c.swap_drive.ensures.taken;
  state = ap bay_state c.swap_drive-2.ensures.put ∙ c.with_cable-cabled.ensures.state ∙ ap (state_with_cable c.args.on) c.swap_drive.ensures.taken;
  beside = record {
    chip = keeps_twice _ _ _ c.swap_drive.ensures.keeps c.swap_drive-2.ensures.keeps;
    other = c.swap_drive-2.ensures.other ∙ c.swap_drive.ensures.other;
  };
}
