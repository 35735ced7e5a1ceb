use Rattle.std.proofs.Common.{◌+◌, Vec, Global, sym, ap, subst, ◌∙◌}
use Rattle.sector_map.proofs.Common.{Field}
use Rattle.sector_map.proofs.ListedFields.{AreAddressesBelow, skipped, listed}
use Rattle.sector_map.proofs.fields.list_fields.Goals as goal
use Rattle.sector_map.proofs.fields.list_fields.Goals.{in-Some+in_ok-push, in_default}

pub loop-place-preserved : goal.loop-place-preserved
loop-place-preserved c =
    let track = c.args.words.now in
    let p = c.loop-place.place in
    let fields = c.loop-place.fields.items in
    let so_far = c.loop-place.invariant in
    elim c.match-address_at.branch [
      | in-Some+in_ok-push w ↦
          let items = ap (λ (v : Vec Field Global). v.items) w.fields-is ∙ w.in_ok-push.ensures.items in
          subst (AreAddressesBelow track (p + 1)) (sym items) (listed track p fields so_far w.in-Some.key w.in-Some.ensures)
      | in_default w ↦
          let items = ap (λ (v : Vec Field Global). v.items) w.fields-is in
          subst (AreAddressesBelow track (p + 1)) (sym items) (skipped track p fields so_far w.in_default.ensures)
    ]
