use Rattle.std.proofs.Common.{◌≡◌, refl, sym, arith}
use Rattle.fdc_sequencer.proofs.Common.{adapter_state}
use Rattle.fdc_sequencer.proofs.AdapterRuns.{runs_none, runs_on}
use Rattle.fdc_sequencer.proofs.adapter.DisketteAdapter.run.Goals as goal

pub loop-made-init : goal.loop-made-init
loop-made-init g c = (runs_none _ _ _, (sym c.int-int.ensures, sym c.drq-drq.ensures), omega arith)

pub returns-then-not-has_lines : goal.returns-then-not-has_lines
returns-then-not-has_lines g c = record {
  within = omega (arith, c.advance-made.ensures.few, c.loop-made.invariant.2);
  runs =
      rw c.int-int.ensures at (rw c.drq-drq.ensures at (runs_on _ _ c.loop-made.made c.advance-made.result _
      (adapter_state g.D.Drive.state c.loop-made.self) _ c.loop-made.invariant.0 c.loop-made.invariant.1 c.advance-made.ensures.runs));
  all = λ same. absurd (c.if-not-has_lines.ensures.no refl (rw c.int-int.ensures (rw c.drq-drq.ensures same)));
}

pub loop-made-preserved : goal.loop-made-preserved
loop-made-preserved g c = (
  runs_on _ _ c.loop-made.made c.advance-made.result _ (adapter_state g.D.Drive.state c.loop-made.self) _ c.loop-made.invariant.0
      c.loop-made.invariant.1 c.advance-made.ensures.runs,
  c.if-not-has_lines.ensures.yes refl,
  omega (arith, c.advance-made.ensures.few, c.loop-made.invariant.2),
)

pub returns : goal.returns
returns g c =
    let all : c.loop-made.made ≡ c.args.most = omega (arith, c.loop-made.invariant.2) in
    record {
      within = omega arith;
      runs = rw c.int-int.ensures at (rw c.drq-drq.ensures at (rw all at c.loop-made.invariant.0));
      all = λ _. refl;
    }
