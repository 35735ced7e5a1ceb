use Rattle.std.proofs.Common.{◌+◌, [], arith, subst, sym}
use Rattle.remaster.proofs.Common.{cylinder_tracks}
use Rattle.remaster.proofs.LineLists.{HasAdded, tracks_below, added_none, added_more, added_all, tracks_below-more, tracks_below-none}
use Rattle.remaster.proofs.lines.survey.Goals as goal

pub loop-c-init : goal.loop-c-init
loop-c-init c =
    let heads = c.args.medium.now.heads in
    subst (HasAdded c.args.medium.now (tracks_below heads 0) []) (sym c.new-lines.ensures.items)
    (added_none c.args.medium.now (tracks_below heads 0) [] (tracks_below-none heads))

pub loop-c-preserved : goal.loop-c-preserved
loop-c-preserved c =
    let heads = c.args.medium.now.heads in
    let added = c.in_ok-push_cylinder.ensures in
    added_more c.args.medium.now (tracks_below heads c.loop-c.c) (cylinder_tracks heads c.loop-c.c) (tracks_below heads (c.loop-c.c + 1))
    [] c.loop-c.lines.items c.push_cylinder.new.lines.items added.0
    c.loop-c.invariant added.2 added.1 (tracks_below-more heads c.loop-c.c)

pub returns : goal.returns
returns c =
    let value = c.cylinders-c-end.ensures.value in
    added_all c.args.medium.now c.loop-c.c c.loop-c.lines.items (omega arith) c.loop-c.invariant
