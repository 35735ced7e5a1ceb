use Rattle.std.proofs.Common.{ℕ, List, subst, arith}
use Rattle.sector_desk.proofs.Common.{take_all, plain_state, station_shown, station_of, Places}
use Rattle.sector_desk.proofs.Placing.{places_none, places_more, placed_stands}
use Rattle.sector_desk.proofs.Readying.{station_again}
use Rattle.sector_desk.proofs.desk.SectorDesk.put.Goals as goal

pub loop-i-init : goal.loop-i-init
loop-i-init c = places_none (station_of c.args.self.now) c.args.content.now

pub set_memory-requires-clause-ready : goal.set_memory-requires-clause-ready
set_memory-requires-clause-ready c = station_again c.loop-i.self.station c.loop-i.self.ready

pub loop-i-preserved : goal.loop-i-preserved
loop-i-preserved c =
    places_more (station_of c.args.self.now) (station_of c.loop-i.self) (station_shown plain_state c.set_memory.new.self) c.args.content.now c.loop-i.i
    (omega arith) c.requires c.memory-byte.ensures.size c.loop-i.invariant c.set_memory.ensures.step

pub returns-clause-places : goal.returns-clause-places
returns-clause-places c =
    subst (λ (bytes : List ℕ). Places bytes (station_of c.args.self.now) (station_of c.loop-i.self)) (take_all c.loop-i.i c.args.content.now (omega arith)) c.loop-i.invariant

pub returns-clause-there : goal.returns-clause-there
returns-clause-there c =
    placed_stands (station_of c.args.self.now) (station_of c.loop-i.self) c.args.content.now c.requires c.memory-byte.ensures.size
    (subst (λ (bytes : List ℕ). Places bytes (station_of c.args.self.now) (station_of c.loop-i.self)) (take_all c.loop-i.i c.args.content.now (omega arith)) c.loop-i.invariant)
