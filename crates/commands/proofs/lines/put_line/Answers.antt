use Rattle.std.proofs.Common.{◌∷◌, []}
use Rattle.commands.proofs.DumpLines.{part-nothing}
use Rattle.commands.proofs.lines.put_line.Goals as goal

pub returns-in-Err-clause-err : goal.returns-in-Err-clause-err
returns-in-Err-clause-err g c = λ text made. part-nothing (g.K.Sink.told c.args.out.now) (text ∷ [])
