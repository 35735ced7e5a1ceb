use Rattle.std.proofs.Common.{◌∙◌, ap}
use Rattle.telwyddus_c.proofs.Common.{tracks_in_bay, without_tracks}
use Rattle.telwyddus_c.proofs.Kept.{keeps_twice}
use Rattle.telwyddus_c.proofs.controller.drives.take_tracks.Goals as goal

pub returns : goal.returns
returns c = record {
  told = c.array-map.ensures ∙ c.take_tracks-tracks.ensures.taken ∙ ap tracks_in_bay c.swap_drive.ensures.taken;
  forgets = c.swap_drive-2.ensures.put ∙ c.take_tracks-tracks.ensures.left ∙ ap without_tracks c.swap_drive.ensures.taken;
  beside = record {
    chip = keeps_twice _ _ _ c.swap_drive.ensures.keeps c.swap_drive-2.ensures.keeps;
    other = c.swap_drive-2.ensures.other ∙ c.swap_drive.ensures.other;
  };
}
