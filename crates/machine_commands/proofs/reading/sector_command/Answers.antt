use Rattle.std.proofs.Common.{◌+◌, ◌*◌, [], ◌∷◌, ap}
use Rattle.machine_commands.proofs.reading.sector_command.Goals as goal

pub returns : goal.returns
returns c =
    ap (λ gap. c.args.command ∷ (c.args.key.h * 4 + c.args.bay) ∷ c.args.key.c ∷ c.args.key.h ∷ c.args.key.r ∷ c.args.key.n ∷ c.args.key.r ∷ gap ∷ 0xFF ∷ [])
    c.read_gap.ensures
