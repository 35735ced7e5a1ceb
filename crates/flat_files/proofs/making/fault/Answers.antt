use Rattle.flat_files.proofs.making.fault.Goals as goal

pub unreachable-requires : goal.unreachable-requires
unreachable-requires c = c.requires _ _ c.in-Unfit.is
