use Rattle.std.proofs.Common.{◌∷◌, [], arith, length-append}
use Rattle.imagedisk.proofs.Common.{All-push, IsImdSector}
use Rattle.imagedisk.proofs.Held.{next_sector, at_any, of_code}
use Rattle.imagedisk.proofs.fields.sectors_of.Goals as goal

pub loop-field-preserved : goal.loop-field-preserved
loop-field-preserved c =
    let pushed = c.in_ok-push.ensures.pushed in
    let words = c.args.words.now in
    let fields = c.args.fields.now in
    let sectors = c.loop-field.sectors in
    let sector = c.in_ok-sector_of.field-0 in
    let at = at_any words fields c.loop-field.field-index _ sector c.loop-field-test.true c.in_ok-sector_of.ensures.at in
    let valid = of_code fields c.args.n c.loop-field.field-index _ sector c.loop-field-test.true c.requires.uniform c.in_ok-sector_of.ensures.valid in
    record {
      count = rw pushed (omega (arith, length-append sectors (sector ∷ []), c.loop-field.invariant.count));
      each = rw pushed (next_sector words fields sectors c.loop-field.field-index sector c.loop-field.invariant.count c.loop-field.invariant.each at);
      valid = rw pushed (All-push (IsImdSector c.args.n) sectors sector c.loop-field.invariant.valid valid);
    }
