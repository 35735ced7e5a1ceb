use Rattle.std.proofs.Common.{take}
use Rattle.text_commands.proofs.Common.{IsAmid, HasServed}
use Rattle.text_commands.proofs.calls.serve.serve_lines.Given as goal

abbrev pub invariant-loop-line : goal.invariant-loop-line
invariant-loop-line g l =
    IsAmid g.R.AnyRun.hand (λ before after. HasServed (take l.line-index l.lines) before l.refused l.front after) l.fn.run l.run
