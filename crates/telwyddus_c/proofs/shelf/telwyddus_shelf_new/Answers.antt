use Rattle.std.proofs.Common.{sym, ◌∙◌}
use Rattle.telwyddus_c.specs.Shelves.{IsBare}
use Rattle.telwyddus_c.proofs.Options.{none_in}
use Rattle.telwyddus_c.proofs.shelf.telwyddus_shelf_new.Goals as goal

pub returns : goal.returns
returns c =
    let bare : IsBare c.new.result = record { files = c.new.ensures.files; report = c.new.ensures.report } in
    (none_in c.args.slot.now.held.shelf (sym c.is_full.ensures ∙ c.if-is_full.false), (_, c.put.ensures, rw c.in-Ok.ensures.ok bare))
