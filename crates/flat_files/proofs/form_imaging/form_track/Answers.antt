use Rattle.std.proofs.Common.{◌≡◌, ◌∙◌, ap, arith, length}
use Rattle.flat_files.proofs.Common.{All-push, length-map-range_with_len, IsImdSector, form_sector}
use Rattle.flat_files.proofs.FormValid.{pushed_more}
use Rattle.flat_files.proofs.form_imaging.form_track.Goals as goal

pub loop-i-preserved : goal.loop-i-preserved
loop-i-preserved c =
    let pushed = c.in_ok-push.ensures.pushed in
    record {
      kept = pushed_more (form_sector c.args.form c.args.bytes.now c.args.track) c.loop-i.kept _ c.loop-i.i c.in_ok-sector.sector c.loop-i.invariant.kept c.in_ok-sector.ensures.is pushed;
      valid = rw pushed (All-push (IsImdSector c.args.form.n) c.loop-i.kept c.in_ok-sector.sector c.loop-i.invariant.valid c.in_ok-sector.ensures.valid);
    }

pub returns-clause-valid : goal.returns-clause-valid
returns-clause-valid c =
    let many : length c.loop-i.kept ≡ c.loop-i.i = ap length c.loop-i.invariant.kept ∙ length-map-range_with_len (form_sector c.args.form c.args.bytes.now c.args.track) 0 c.loop-i.i in
    record {
      cylinder = c.cylinder-c.ensures.most;
      head = c.head-h.ensures.most;
      coded = (c.requires.form.some_size, c.requires.form.most_size);
      count = omega (arith, many);
      sectors = c.loop-i.invariant.valid;
    }
