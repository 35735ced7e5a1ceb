use Rattle.std.proofs.Common.{sym, subst}
use Rattle.rescue.proofs.Common.{AllPairs, IsBefore}
use Rattle.rescue.proofs.OrderLemmas.{logged_rises}
use Rattle.rescue.proofs.keys.logged_keys.Goals as goal

pub returns-clause-rising : goal.returns-clause-rising
returns-clause-rising c sectors log =
    subst (AllPairs IsBefore) (sym c.in_ok-keys.ensures) (logged_rises sectors c.args.log.now log)
