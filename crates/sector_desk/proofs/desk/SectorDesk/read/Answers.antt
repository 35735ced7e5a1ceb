use Rattle.std.proofs.Common.{refl, sym, ◌∙◌}
use mathlib.Core.Bool.{false≢true}
use Rattle.sector_desk.proofs.Common.{plain_state, station_shown, station_of}
use Rattle.sector_desk.proofs.Calming.{calm, quiet_still}
use Rattle.sector_desk.proofs.Fetching.{content_had, none_had}
use Rattle.sector_desk.proofs.Readying.{station_again}
use Rattle.sector_desk.proofs.desk.SectorDesk.read.Goals as goal

pub read-answer-requires : goal.read-answer-requires
read-answer-requires c = record { ready = station_again c.args.self.now.station c.args.self.now.ready }

pub returns-then-is_err : goal.returns-then-is_err
returns-then-is_err c = record {
  step = c.read-answer.ensures.step;
  had = none_had _ c.read-answer.result (sym c.is_err.ensures.value ∙ c.if-is_err.true);
  kept = λ _. refl;
  calm = calm c.args.bay c.args.self.now.station c.read-answer.new.self (station_again c.args.self.now.station c.args.self.now.ready) c.args.self.now.quiet (quiet_still _ _ c.read-answer.ensures.counts c.args.self.now.quiet);
}

pub returns : goal.returns
returns c = record {
  step = c.read-answer.ensures.step;
  had = content_had c.args.bay c.args.key (station_of c.args.self.now) c.read-answer.result (station_shown plain_state c.read-answer.new.self) c.fetch.new.content _ c.read-answer.ensures.step c.requires.size c.requires.most c.memory-byte.ensures.size c.fetch.ensures;
  kept = λ is. absurd (false≢true (sym c.if-is_err.false ∙ c.is_err.ensures.value ∙ is));
  calm = calm c.args.bay c.args.self.now.station c.read-answer.new.self (station_again c.args.self.now.station c.args.self.now.ready) c.args.self.now.quiet (quiet_still _ _ c.read-answer.ensures.counts c.args.self.now.quiet);
}
