use Rattle.std.proofs.Common.{◌≡◌, ℕ, List, length, arith, subst}
use Rattle.c_bay_drive.proofs.Joining.{joined_by_bytes, joined_more}
use Rattle.c_bay_drive.proofs.map.TrackMap.join.Goals as goal

pub loop-at-preserved : goal.loop-at-preserved
loop-at-preserved c =
    joined_more c.args.other.now c.args.self.now c.loop-at.bits c.loop-at.at _ _ c.other.view_is c.self.view_is c.loop-at.invariant.0 c.loop-at-test.true
    c.loop-at.invariant.1

pub returns : goal.returns
returns c =
    joined_by_bytes c.args.other.now c.args.self.now c.loop-at.bits 20
    (subst (λ (map : List ℕ). length map ≡ 20) c.other.view_is c.other.told)
    (subst (λ (map : List ℕ). length map ≡ 20) c.self.view_is c.self.told)
    c.loop-at.invariant.0 (λ k within. c.loop-at.invariant.1 k (omega arith))
