use Rattle.std.proofs.Common.{sym, ◌∙◌, subst}
use Rattle.rescue.proofs.Common.{AllPairs, IsBefore}
use Rattle.rescue.proofs.OrderLemmas.{standard_rises}
use Rattle.rescue.proofs.KeyLemmas.{standard-more, standard-none}
use Rattle.rescue.proofs.keys.standard_keys.Goals as goal

pub loop-c-init : goal.loop-c-init
loop-c-init c = c.new-keys.ensures.items ∙ sym (standard-none c.args.rate c.args.heads)

pub loop-c-preserved : goal.loop-c-preserved
loop-c-preserved c =
    cc (standard-more c.args.rate c.loop-c.c c.args.heads, c.in_ok-push_cylinder.ensures, c.loop-c.invariant, c.sectors-sectors.ensures.value)

pub returns-clause-rising : goal.returns-clause-rising
returns-clause-rising c = subst (AllPairs IsBefore) (sym c.loop-c.invariant) (standard_rises c.args.rate c.loop-c.c c.args.heads)
