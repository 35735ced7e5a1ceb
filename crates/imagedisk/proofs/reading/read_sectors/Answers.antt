use Rattle.std.proofs.Common.{◌∷◌, [], subst, arith, length-append}
use Rattle.imagedisk.proofs.Common.{err_from_is_err_and, All-push, Chrn, IsImdSector, rest_of, key_at, sectors_at}
use Rattle.imagedisk.proofs.Loops.{goes_on, ends, is_done}
use Rattle.imagedisk.proofs.reading.read_sectors.Goals as goal

pub returns-in_err-sector-clause-read : goal.returns-in_err-sector-clause-read
returns-in_err-sector-clause-read c =
    let p = err_from_is_err_and c.from_residual.result c.from_residual.ensures.1 in
    let key = key_at c.args.header c.args.maps.numbers.now c.args.maps.cylinders.now c.args.maps.heads.now in
    let whole = sectors_at key 0 c.args.header.sectors (rest_of c.args.left) in
    rw (p.1, p.2)
    (ends key c.key_at.result c.in_err-sector.field-0.0 c.loop-i.sectors c.args.header.sectors c.loop-i.i (rest_of c.loop-i.rest) whole c.loop-i-test.true c.key_at.ensures c.in_err-sector.ensures.read c.loop-i.invariant.read)

pub loop-i-preserved : goal.loop-i-preserved
loop-i-preserved c =
    let key = key_at c.args.header c.args.maps.numbers.now c.args.maps.cylinders.now c.args.maps.heads.now in
    let whole = sectors_at key 0 c.args.header.sectors (rest_of c.args.left) in
    let sector = c.in_ok-sector.sector in
    let pushed = c.in_ok-push.ensures.pushed in
    let valid = subst (λ (k : Chrn). IsImdSector k.n sector) c.key_at.ensures c.in_ok-sector.ensures.valid in
    record {
      read = rw pushed (goes_on key c.key_at.result c.loop-i.sectors c.args.header.sectors c.loop-i.i (rest_of c.loop-i.rest) sector (rest_of c.in_ok-sector.after) whole c.loop-i-test.true c.key_at.ensures c.in_ok-sector.ensures.read c.loop-i.invariant.read);
      count = rw pushed (omega (arith, length-append c.loop-i.sectors (sector ∷ []), c.loop-i.invariant.count));
      valid = rw pushed (All-push (IsImdSector c.args.header.n) c.loop-i.sectors sector c.loop-i.invariant.valid valid);
      shorter = omega (arith, c.in_ok-sector.ensures.shorter);
    }

pub returns-clause-read : goal.returns-clause-read
returns-clause-read c =
    let key = key_at c.args.header c.args.maps.numbers.now c.args.maps.cylinders.now c.args.maps.heads.now in
    is_done key c.loop-i.sectors c.args.header.sectors c.loop-i.i (rest_of c.loop-i.rest) (sectors_at key 0 c.args.header.sectors (rest_of c.args.left)) c.loop-i-test.false c.loop-i.invariant.read
