use Rattle.std.proofs.Common.{◌≡◌, List, ℕ, get_or, sym, subst, ◌∙◌, ap}
use Rattle.imagedisk.proofs.Common.{HasTrack, IsWithTrack, ImdTrack, IsMadeTrack}
use Rattle.imagedisk.proofs.OnMedium.{has_track, next_first}
use Rattle.imagedisk.proofs.making.put_track.Goals as goal

pub store_track-requires-clause-track : goal.store_track-requires-clause-track
store_track-requires-clause-track c =
    let image = c.args.image.now in
    let disk = c.args.medium.now in
    let item = c.index-as_slice-i.result in
    let same : item ≡ get_or image.tracks c.args.i item = c.index-as_slice-i.is ∙ ap (λ (ts : List ImdTrack). get_or ts c.args.i item) c.as_slice.ensures in
    subst (λ (t : ImdTrack). HasTrack disk t.c t.h) (sym same) (has_track image disk c.args.i item c.requires.valid c.requires.first.shape c.requires.there)

pub returns : goal.returns
returns c =
    let image = c.args.image.now in
    let disk = c.args.medium.now in
    let after = c.store_track.new.medium in
    let item = c.index-as_slice-i.result in
    let words = c.deref.result.now in
    let same : item ≡ get_or image.tracks c.args.i item = c.index-as_slice-i.is ∙ ap (λ (ts : List ImdTrack). get_or ts c.args.i item) c.as_slice.ensures in
    let made = subst (λ (ws : List ℕ). IsMadeTrack c.args.least image.rate item ws) (sym c.deref.ensures.value) c.in_ok-words.ensures.made in
    next_first c.args.least image disk after c.args.i item words c.requires.valid c.requires.there c.requires.first
    (subst (λ (t : ImdTrack). IsWithTrack disk t.c t.h words after) same c.store_track.ensures) (subst (λ (t : ImdTrack). IsMadeTrack c.args.least image.rate t words) same made)
