use Rattle.std.proofs.Common.{All, subst, sym, arith}
use Rattle.remaster.proofs.Common.{HasLook}
use Rattle.remaster.proofs.SectorLists.{sized_of}
use Rattle.remaster.proofs.sectors.list_sectors.Goals as goal

pub push_found-requires-clause-look : goal.push_found-requires-clause-look
push_found-requires-clause-look c =
    subst (All (HasLook c.args.words.now)) (sym c.deref-one-items.ensures.value) c.in_ok-looked.ensures.looks c.loop-one.one-index _ (omega arith)

pub returns-clause-sized : goal.returns-clause-sized
returns-clause-sized c =
    sized_of c.args.words.now c.deref-one-items.result.now c.loop-one.one-index c.loop-one.sectors.items c.loop-one.invariant (omega arith)
    (subst (All (HasLook c.args.words.now)) (sym c.deref-one-items.ensures.value) c.in_ok-looked.ensures.looks)
