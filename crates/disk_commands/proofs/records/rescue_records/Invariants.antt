use Rattle.std.proofs.Common.{[]}
use Rattle.disk_commands.proofs.Common.{IsAmid}
use Rattle.disk_commands.proofs.RescueTurns.{IsAtKey}
use Rattle.disk_commands.proofs.records.rescue_records.Given as goal

abbrev pub invariant-loop-key : goal.invariant-loop-key
invariant-loop-key g l = IsAmid g.R.AnyRun.hand (λ before after. IsAtKey l.keys [] before l.key-index l.log.items after) l.fn.run l.run
