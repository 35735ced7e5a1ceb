use Rattle.std.proofs.Common.{◌≡◌, ◌∙◌, All, List, ap, arith, map, subst, sym}
use Rattle.flat_files.proofs.Common.{All-push, range_with_len, IsImdImage, IsImdTrack, ImdImage, ImdTrack, tracks_of, form_track}
use Rattle.flat_files.proofs.FormValid.{pushed_more, valid_image}
use Rattle.flat_files.proofs.form_imaging.form_image.Goals as goal

pub loop-track-preserved : goal.loop-track-preserved
loop-track-preserved c =
    let pushed = c.in_ok-push.ensures.pushed in
    record {
      tracks = pushed_more (form_track c.args.form c.args.bytes.now) c.loop-track.tracks _ c.loop-track.track c.in_ok-made.made c.loop-track.invariant.tracks c.in_ok-made.ensures.is pushed;
      valid = rw pushed (All-push IsImdTrack c.loop-track.tracks c.in_ok-made.made c.loop-track.invariant.valid c.in_ok-made.ensures.valid);
    }

pub returns-clause-is : goal.returns-clause-is
returns-clause-is c =
    let end : c.loop-track.track ≡ tracks_of c.args.form = omega (arith, c.tracks-track-end.ensures.value) in
    ap (λ (tracks : List ImdTrack). let image : ImdImage = record { rate = c.args.form.rate; tracks = tracks } in image)
    (c.loop-track.invariant.tracks ∙ ap (λ n. map (form_track c.args.form c.args.bytes.now) (range_with_len 0 n)) end)

pub returns-clause-valid : goal.returns-clause-valid
returns-clause-valid c =
    let end : c.loop-track.track ≡ tracks_of c.args.form = omega (arith, c.tracks-track-end.ensures.value) in
    let all = c.loop-track.invariant.tracks ∙ ap (λ n. map (form_track c.args.form c.args.bytes.now) (range_with_len 0 n)) end in
    subst (λ (image : ImdImage). IsImdImage image) (sym (returns-clause-is c))
    (valid_image c.args.form c.args.bytes.now c.requires.form (subst (λ (tracks : List ImdTrack). All IsImdTrack tracks) all c.loop-track.invariant.valid))
