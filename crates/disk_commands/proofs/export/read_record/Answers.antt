use Rattle.std.proofs.Common.{rules, ℕ, List, ◌++◌}
use Rattle.disk_commands.proofs.Common.{bytes_from, Script, may_starve, record_address, fed}
use Rattle.sector_model.specs.States.{State}
use Rattle.disk_commands.specs.Export.{reads_record}
use Rattle.disk_commands.proofs.export.read_record.Goals as goal

-- the script that follows the read
abbrev kept : ℕ → List ℕ → (List ℕ → Script) → State → Unit {0} → Script
kept r bytes rest after none = rest (bytes ++ bytes_from after.station.memory (record_address r) 512)

pub returns-in-Ok : goal.returns-in-Ok
unfolding reads_record
returns-in-Ok g c = record {
  goes = λ whole start rest leads.
      rw (c.in-Ok.ensures, c.record_address-address.ensures)
      (fed whole start (kept c.args.r c.args.flat.now.items rest (g.R.AnyRun.hand c.need.new.self).world.state) _
      (c.in_ok-need.ensures.ran.goes whole start (λ answer after. may_starve (kept c.args.r c.args.flat.now.items rest after))
      (rw c.record_address-address.ensures leads)));
  is_form = search rules;
  shelf_faults = search rules;
  sink_faults = search rules;
  same = search rules;
}
