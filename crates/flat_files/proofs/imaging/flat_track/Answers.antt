use Rattle.flat_files.proofs.Common.{All-push, IsImdSector, flat_sector}
use Rattle.flat_files.proofs.Valid.{pushed_more}
use Rattle.flat_files.proofs.imaging.flat_track.Goals as goal

pub loop-i-preserved : goal.loop-i-preserved
loop-i-preserved c =
    let pushed = c.in_ok-push.ensures.pushed in
    record {
      kept = pushed_more (flat_sector c.args.bytes.now c.args.sectors _ _) c.loop-i.kept _ c.loop-i.i c.in_ok-sector.sector c.loop-i.invariant.kept c.in_ok-sector.ensures.is pushed;
      valid = rw pushed (All-push (IsImdSector 2) c.loop-i.kept c.in_ok-sector.sector c.loop-i.invariant.valid c.in_ok-sector.ensures.valid);
    }
