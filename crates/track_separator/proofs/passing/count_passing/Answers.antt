use Rattle.std.proofs.Common.{length, sym, ◌∙◌, arith}
use Rattle.track_separator.proofs.NoRun.{brings_none}
use Rattle.track_separator.proofs.Twins.{scan_none, scan_all, scan_last, scan_more}
use Rattle.track_separator.proofs.passing.count_passing.Goals as goal
use Rattle.track_separator.proofs.passing.count_passing.Goals.{then-word-before, else-word-before+else-word-eq-MARK_ONES}

pub returns-then-before-eq-MARK_ONES-clause-past :
    goal.returns-then-before-eq-MARK_ONES-clause-past
returns-then-before-eq-MARK_ONES-clause-past c = (c.args.cells, brings_none c.args.cells)

pub loop-i-init : goal.loop-i-init
loop-i-init c = scan_none c.args.cells c.if-before-eq-MARK_ONES.false

pub returns-clause-past : goal.returns-clause-past
returns-clause-past c =
    scan_all c.args.words.now c.loop-i.i (length c.args.words.now) c.args.cells c.loop-i.before (omega arith) c.loop-i.invariant

pub returns-then-word-eq-MARK_ONES-clause-past : goal.returns-then-word-eq-MARK_ONES-clause-past
returns-then-word-eq-MARK_ONES-clause-past c =
    scan_last c.args.words.now c.loop-i.i c.args.cells c.loop-i.before c.loop-i-test.true (c.type_inv.words c.loop-i.i).fits c.loop-i.invariant

pub loop-i-preserved : goal.loop-i-preserved
loop-i-preserved c =
    let more = scan_more c.args.words.now c.loop-i.i c.args.cells c.loop-i.before c.loop-i-test.true (c.type_inv.words c.loop-i.i).fits c.loop-i.invariant c.if-word-before.before in
    elim c.if-word-before.branch [
      | then-word-before w ↦ more w.before-is (λ same five. w.if-word-before.true same)
      | else-word-before+else-word-eq-MARK_ONES w ↦
          more (w.before-is ∙ sym w.if-word-before.false) (λ same five. w.if-word-eq-MARK_ONES.false five)
    ]
