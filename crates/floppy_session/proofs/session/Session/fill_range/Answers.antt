use Rattle.std.proofs.Common.{arith, refl, ap}
use Rattle.floppy_session.proofs.Common.{StationState}
use Rattle.floppy_session.proofs.Memories.{fills_none, fills_more}
use Rattle.floppy_session.proofs.Named.{runs_on, keeps_same}
use Rattle.floppy_session.proofs.session.Session.fill_range.Goals as goal

pub loop-i-init : goal.loop-i-init
loop-i-init g c = record {
  fills = rw (← c.self.view_is) (fills_none _ c.args.address c.args.byte);
  running = c.self.invariant;
}

pub loop-i-preserved : goal.loop-i-preserved
loop-i-preserved g c = record {
  fills = fills_more _ _ _ c.args.address c.loop-i.i c.args.byte c.loop-i.invariant.fills refl c.set_memory.ensures.step c.set_memory.ensures.counts
      c.set_memory.ensures.size (omega arith);
  running = runs_on _ _ _ (keeps_same _ _ (ap (λ (s : StationState). s.bays) c.set_memory.ensures.step.becomes)) c.loop-i.invariant.running
      c.set_memory.ensures.ready;
}
