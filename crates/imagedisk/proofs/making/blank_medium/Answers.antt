use Rattle.std.proofs.Common.{ℕ, List, ap, ◌∙◌}
use Rattle.imagedisk.proofs.Common.{blank_disk, ImdTrack, cylinder_count, head_count}
use Rattle.imagedisk.proofs.OnMedium.{begun}
use Rattle.imagedisk.proofs.making.blank_medium.Goals as goal

pub returns : goal.returns
returns c =
    let image = c.args.image.now in
    let rate = image.rate in
    let cylinders = c.cylinder_count-cylinders.ensures.value ∙ ap (λ (ts : List ImdTrack). cylinder_count ts) c.as_slice-tracks.ensures in
    let heads = c.head_count-heads.ensures.value ∙ ap (λ (ts : List ImdTrack). head_count ts) c.as_slice-tracks.ensures in
    λ least. begun least image c.in_ok-medium.medium
    (c.in_ok-medium.ensures
    ∙ ap (λ (n : ℕ). blank_disk n c.head_count-heads.result c.words.result rate) cylinders
    ∙ ap (λ (n : ℕ). blank_disk (cylinder_count image.tracks) n c.words.result rate) heads
    ∙ ap (λ (n : ℕ). blank_disk (cylinder_count image.tracks) (head_count image.tracks) n rate) c.words.ensures)
    c.words-length.ensures.valid
