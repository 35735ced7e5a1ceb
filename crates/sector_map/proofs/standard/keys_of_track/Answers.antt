use Rattle.std.proofs.Common.{◌+◌, ◌++◌, ◌∷◌, [], take, refl, sym, ap, ◌∙◌, arith}
use Rattle.sector_map.proofs.Common.{take_all, take_more_set, length-set, key_of}
use Rattle.sector_map.proofs.Listed.{track_keys-none, track_keys-next, take-track_keys}
use Rattle.sector_map.proofs.standard.keys_of_track.Goals as goal

pub loop-i-init : goal.loop-i-init
loop-i-init c = (refl, sym (track_keys-none c.args.c c.args.h))

pub loop-i-preserved : goal.loop-i-preserved
loop-i-preserved c =
    let i = c.loop-i.i in
    let key = key_of c.args.c c.args.h (i + 1) in
    let so_far = c.loop-i.invariant in (
      length-set c.loop-i.keys i key ∙ so_far.0,
      take_more_set c.loop-i.keys i key (omega (arith, so_far.0)) ∙ ap (λ row. row ++ key ∷ []) so_far.1
          ∙ sym (track_keys-next i c.args.c c.args.h),
    )

pub returns : goal.returns
returns c = λ sectors few.
    let all = take_all c.loop-i.i c.loop-i.keys (omega (arith, c.loop-i.invariant.0)) in
    ap (λ row. take sectors row) (sym all ∙ c.loop-i.invariant.1)
    ∙ take-track_keys sectors c.loop-i.i c.args.c c.args.h (omega arith)
