use Rattle.std.proofs.Common.{◌≡◌, ◌∙◌, All, List, ap, arith, map, subst, sym}
use Rattle.flat_files.proofs.Common.{All-push, range_with_len, IsImdImage, IsImdTrack, ImdImage, ImdTrack, flat_track}
use Rattle.flat_files.proofs.Valid.{pushed_more, valid_image}
use Rattle.flat_files.proofs.imaging.flat_image.Goals as goal

pub loop-track-preserved : goal.loop-track-preserved
loop-track-preserved c =
    let pushed = c.in_ok-push.ensures.pushed in
    record {
      tracks = pushed_more (flat_track c.args.bytes.now c.args.sectors) c.loop-track.tracks _ c.loop-track.track c.in_ok-made.made c.loop-track.invariant.tracks c.in_ok-made.ensures.is pushed;
      valid = rw pushed (All-push IsImdTrack c.loop-track.tracks c.in_ok-made.made c.loop-track.invariant.valid c.in_ok-made.ensures.valid);
    }

pub returns-clause-is : goal.returns-clause-is
returns-clause-is c =
    let end : c.loop-track.track ≡ 160 = omega arith in
    ap (λ (tracks : List ImdTrack). let image : ImdImage = record { rate = c.args.rate; tracks = tracks } in image)
    (c.loop-track.invariant.tracks ∙ ap (λ n. map (flat_track c.args.bytes.now c.args.sectors) (range_with_len 0 n)) end)

pub returns-clause-valid : goal.returns-clause-valid
returns-clause-valid c =
    let end : c.loop-track.track ≡ 160 = omega arith in
    let all = c.loop-track.invariant.tracks ∙ ap (λ n. map (flat_track c.args.bytes.now c.args.sectors) (range_with_len 0 n)) end in
    subst (λ (image : ImdImage). IsImdImage image) (sym (returns-clause-is c))
    (valid_image c.args.bytes.now c.args.sectors c.args.rate (subst (λ (tracks : List ImdTrack). All IsImdTrack tracks) all c.loop-track.invariant.valid))
