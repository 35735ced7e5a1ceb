use Rattle.std.proofs.Common.{◌≤◌, ◌^◌, arith}
use Rattle.std.proofs.Math.Pow.{pow_mono}
use Rattle.flop_base.proofs.key.sector_size.Goals as goal

-- 2 ^ n is at most 2 ^ 6
pub returns-clause-most : goal.returns-clause-most
returns-clause-most c =
    let most : c.args.n ≤ 6 = omega arith in
    let power : 2 ^ c.args.n ≤ 2 ^ 6 = pow_mono most in
    omega arith
