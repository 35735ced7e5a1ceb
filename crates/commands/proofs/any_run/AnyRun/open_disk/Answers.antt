use Rattle.std.proofs.Common.{sym, ◌∙◌}
use Rattle.commands.proofs.Opened.{there_is, files_stay}
use Rattle.commands.proofs.any_run.AnyRun.open_disk.Goals as goal

pub unreachable-requires : goal.unreachable-requires
unreachable-requires g c =
    there_is c.args.name c.in_ok-need.field-0 _ _ _ _ c.in_ok-need.ensures.fine c.in_ok-need.ensures.step (sym c.shape.ensures ∙ c.in-None.is)

pub returns-clause-files : goal.returns-clause-files
returns-clause-files g c = files_stay c.args.name c.in_ok-need.field-0 _ _ _ _ c.in_ok-need.ensures.fine c.in_ok-need.ensures.step
