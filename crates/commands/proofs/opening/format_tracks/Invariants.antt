use Rattle.commands.proofs.Common.{each, formats, IsTurning}
use Rattle.commands.proofs.opening.format_tracks.Given as goal

abbrev pub invariant-loop-c : goal.invariant-loop-c
invariant-loop-c g l = IsTurning g.R.AnyRun.hand 0 l.fn.cylinders (λ c. each 0 l.fn.heads (formats l.fn.bay c)) tt l.fn.run l.c tt l.run
