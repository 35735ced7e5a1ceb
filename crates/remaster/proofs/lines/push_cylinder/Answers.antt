use Rattle.std.proofs.Common.{◌+◌, [], ◌∷◌, map}
use Rattle.remaster.proofs.Common.{cylinder_tracks, track_number, line_on}
use Rattle.remaster.proofs.LineLists.{added_none, added_more, one_track, cylinder_tracks-more, cylinder_tracks-none}
use Rattle.remaster.proofs.lines.push_cylinder.Goals as goal

pub loop-h-init : goal.loop-h-init
loop-h-init c = added_none c.args.medium.now (cylinder_tracks 0 c.args.c) c.args.lines.now.items (cylinder_tracks-none c.args.c)

pub loop-h-preserved : goal.loop-h-preserved
loop-h-preserved c =
    let track = track_number c.args.c c.loop-h.h in
    let added = c.in_ok-push_track.ensures in
    added_more c.args.medium.now (cylinder_tracks c.loop-h.h c.args.c) (track ∷ []) (cylinder_tracks (c.loop-h.h + 1) c.args.c)
    c.args.lines.now.items c.loop-h.lines.items c.push_track.new.lines.items (map (line_on track) added.0)
    c.loop-h.invariant (one_track c.args.medium.now track added.0 added.1) added.2 (cylinder_tracks-more c.loop-h.h c.args.c)
