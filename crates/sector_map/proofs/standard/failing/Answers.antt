use Rattle.std.proofs.Common.{◌+◌, [], arith, subst, sym, ap, ◌∙◌}
use Rattle.sector_map.proofs.Common.{sectors_at, cylinder_keys, standard_keys}
use Rattle.sector_map.proofs.Listed.{HasAdded, keys_below, added_none, added_more, added_all, keys_below-more, keys_below-none, keys_below-all}
use Rattle.sector_map.proofs.standard.failing.Goals as goal

pub loop-c-init : goal.loop-c-init
loop-c-init c =
    let sectors = c.sectors-sectors.result in
    let heads = c.args.medium.now.heads in
    subst (HasAdded c.args.medium.now (keys_below sectors heads 0) []) (sym c.new-failed.ensures.items)
    (added_none c.args.medium.now (keys_below sectors heads 0) [] (keys_below-none sectors heads))

pub loop-c-preserved : goal.loop-c-preserved
loop-c-preserved c =
    let sectors = c.sectors-sectors.result in
    let heads = c.args.medium.now.heads in
    let added = c.in_ok-push_cylinder.ensures in
    added_more c.args.medium.now (keys_below sectors heads c.loop-c.c) (cylinder_keys sectors heads c.loop-c.c) (keys_below sectors heads (c.loop-c.c + 1))
    [] c.loop-c.failed.items c.push_cylinder.new.failed.items added.0
    c.loop-c.invariant added.2 added.1 (keys_below-more sectors heads c.loop-c.c)

pub returns : goal.returns
returns c =
    let sectors = c.sectors-sectors.result in
    let heads = c.args.medium.now.heads in
    let value = c.cylinders-c-end.ensures.value in
    added_all c.args.medium.now (keys_below sectors heads c.loop-c.c) (standard_keys c.args.medium.now) c.loop-c.failed.items
    (keys_below-all c.args.medium.now sectors c.loop-c.c (c.sectors-sectors.ensures.value ∙ ap sectors_at c.rate.ensures) (omega arith))
    c.loop-c.invariant
