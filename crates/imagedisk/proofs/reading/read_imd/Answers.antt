use Rattle.std.proofs.Common.{refl, arith, length}
use Rattle.imagedisk.proofs.Common.{err_from_is_err_and, All-push, all_pairs_push, IsImdTrack, AreApart, rest_of, image_of}
use Rattle.imagedisk.proofs.Loops.{begun, begun_fails, next_track, failed_track, no_more, is_apart, not_empty, some_left, none_left}
use Rattle.imagedisk.proofs.reading.read_imd.Goals as goal

pub returns-in_err-left-clause-exact : goal.returns-in_err-left-clause-exact
returns-in_err-left-clause-exact c = let p = err_from_is_err_and c.from_residual.result c.from_residual.ensures.1 in rw (p.1, p.2) (begun_fails c.in_err-left.field-0.0 c.args.bytes.now c.in_err-left.ensures)

pub loop-left-init : goal.loop-left-init
loop-left-init c =
    let none = c.new-tracks.ensures in
    record {
      comes = rw none (begun c.args.bytes.now (rest_of c.in_ok-left.left) c.in_ok-left.ensures);
      each = rw none (λ k d lt. absurd (omega arith));
      apart = rw none (λ i j d lt within. absurd (omega arith));
      rate = λ e. refl;
    }

pub returns-in_err-found-clause-exact : goal.returns-in_err-found-clause-exact
returns-in_err-found-clause-exact c =
    let p = err_from_is_err_and c.from_residual-in_err-found.result c.from_residual-in_err-found.ensures.1 in
    rw (p.1, p.2)
    (failed_track c.in_err-found.field-0.0 c.loop-left.rate c.loop-left.tracks (rest_of c.loop-left.left) (image_of c.args.bytes.now) (some_left (length c.loop-left.left.bytes.now) c.is_empty.result c.is_empty.ensures c.loop-left-test.true) (rw c.as_slice.ensures at c.in_err-found.ensures.read) c.loop-left.invariant.comes)

pub loop-left-preserved : goal.loop-left-preserved
loop-left-preserved c =
    let pushed = c.in_ok-push.ensures.pushed in
    let read = rw c.as_slice.ensures at c.in_ok-found.ensures.read in
    let fresh = rw c.as_slice.ensures at c.in_ok-found.ensures.fresh in
    let track = c.in_ok-found.track in
    record {
      comes = rw pushed (next_track c.loop-left.rate c.loop-left.tracks (rest_of c.loop-left.left) c.in_ok-found.found track (rest_of c.in_ok-found.after) (image_of c.args.bytes.now) (omega (arith, c.in_ok-found.ensures.shorter)) read c.loop-left.invariant.comes);
      each = rw pushed (All-push IsImdTrack c.loop-left.tracks track c.loop-left.invariant.each c.in_ok-found.ensures.valid);
      apart = rw pushed (all_pairs_push AreApart c.loop-left.tracks track c.loop-left.invariant.apart (is_apart c.loop-left.tracks track fresh));
      rate = rw pushed (λ e. absurd (not_empty c.loop-left.tracks track e));
    }

pub returns-clause-exact : goal.returns-clause-exact
returns-clause-exact c = rw c.unwrap_or.ensures (no_more c.loop-left.rate c.loop-left.tracks (rest_of c.loop-left.left) (image_of c.args.bytes.now) (none_left (length c.loop-left.left.bytes.now) c.is_empty.result c.is_empty.ensures c.loop-left-test.false) c.loop-left.invariant.comes)

pub returns-clause-valid : goal.returns-clause-valid
returns-clause-valid c = record {
  tracks = c.loop-left.invariant.each;
  apart = c.loop-left.invariant.apart;
  rate = λ e. rw (c.unwrap_or.ensures, c.loop-left.invariant.rate e) refl;
}
