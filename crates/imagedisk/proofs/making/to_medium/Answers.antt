use Rattle.std.proofs.Common.{◌≡◌, ℕ, length, ap, subst, arith}
use Rattle.imagedisk.proofs.Common.{HasFirst}
use Rattle.imagedisk.proofs.Imaged.{medium_has}
use Rattle.imagedisk.proofs.making.to_medium.Goals as goal

pub returns-clause-made : goal.returns-clause-made
returns-clause-made c =
    let image = c.args.image.now in
    let all : c.loop-i.i ≡ length image.tracks = omega (arith, ap length c.as_slice-i-end.ensures) in
    subst (λ (count : ℕ). HasFirst c.args.least image c.loop-i.medium count) all c.loop-i.invariant

pub returns-clause-found : goal.returns-clause-found
returns-clause-found c = medium_has c.args.least c.args.image.now c.loop-i.medium c.requires (returns-clause-made c)
