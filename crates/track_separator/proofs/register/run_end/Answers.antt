use Rattle.std.proofs.Common.{sym, ◌∙◌}
use Rattle.track_separator.proofs.Bits.{run_bits, run_more}
use Rattle.track_separator.proofs.register.run_end.Goals as goal

pub returns-then-recent-back-eq-RUN : goal.returns-then-recent-back-eq-RUN
returns-then-recent-back-eq-RUN c =
    (c.loop-back-test.true, sym (run_bits c.args.cells c.loop-back.back c.loop-back-test.true) ∙ c.if-recent-back-eq-RUN.true)

pub loop-back-preserved : goal.loop-back-preserved
loop-back-preserved c =
    run_more c.args.cells c.loop-back.back c.loop-back.invariant (λ run. c.if-recent-back-eq-RUN.false (run_bits c.args.cells c.loop-back.back c.loop-back-test.true ∙ run))
