use Rattle.std.proofs.Common.{◌≡◌, ℕ, arith, subst}
use Rattle.flat_files.proofs.Common.{AreOfTracks, tracks_of}
use Rattle.flat_files.proofs.Filed.{no_tracks}
use Rattle.flat_files.proofs.filing.file_of.Goals as goal

pub loop-track-init : goal.loop-track-init
loop-track-init c = rw c.new-bytes.ensures.items (no_tracks c.args.tracks.now c.args.form)

pub returns : goal.returns
returns c =
    let end : c.loop-track.track ≡ tracks_of c.args.form = omega (arith, c.tracks-track-end.ensures.value) in
    subst (λ (n : ℕ). AreOfTracks c.args.tracks.now c.args.form n c.loop-track.bytes.items) end c.loop-track.invariant
