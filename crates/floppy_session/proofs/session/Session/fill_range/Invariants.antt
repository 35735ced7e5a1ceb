use Rattle.floppy_session.proofs.Common.{Fills, state_of, IsRunning}
use Rattle.floppy_session.proofs.session.Session.fill_range.Given as goal

abbrev pub invariant-loop-i : goal.invariant-loop-i
invariant-loop-i g l = record {
  fills : Fills l.address l.i l.byte l.fn.self (state_of (g.D.Station.shown l.self-inside.station) l.self-inside.labels);
  running : IsRunning (g.D.Station.is_ready l.self-inside.station) (g.D.Station.shown l.self-inside.station) l.self-inside.labels;
}
