use Rattle.std.proofs.Common.{rules, arith, ◌≡◌, ap, length, ◌∙◌}
use Rattle.disk_commands.proofs.Common.{stores_log}
use Rattle.disk_commands.proofs.RescueEndings.{keys_starved, found_begins}
use Rattle.disk_commands.proofs.rescuing.rescue_found.Goals as goal

pub returns-in_default : goal.returns-in_default
returns-in_default g c = record {
  does = keys_starved _ _ _ _ _;
  is_form = search rules;
  shelf_faults = search rules;
  sink_faults = search rules;
  same = search rules;
}

pub returns-in-Ok-rescue_all : goal.returns-in-Ok-rescue_all
returns-in-Ok-rescue_all g c =
    let same : length c.deref.result.now ≡ length c.in-Ok.keys.items = ap length c.deref.ensures.value in
    let count : c.len.result ≡ length c.deref.result.now = omega (arith, c.len.ensures, c.in-Ok.keys.ok.0, same) in
    record {
      does = λ whole start leads.
          c.store_log.ensures.does whole start (rw (count, c.deref-in-Ok-rescue_all.ensures.value)
          (c.in-Ok-rescue_all.ensures.goes whole start (stores_log c.args.log.now (length c.deref.result.now))
          (found_begins whole start _ _ _ c.args.found.now _ _ _ c.is_some.ensures (c.deref.ensures.value ∙ c.in-Ok.ensures) leads)));
      is_form = search rules;
      shelf_faults = search rules;
      sink_faults = search rules;
      same = search rules;
    }

pub returns : goal.returns
returns g c = record {
  does = λ whole start leads.
      c.in-Err.ensures.goes whole start (stores_log c.args.log.now (length c.deref.result.now))
      (found_begins whole start _ _ _ c.args.found.now _ _ _ c.is_some.ensures (c.deref.ensures.value ∙ c.in-Ok.ensures) leads);
  is_form = search rules;
  shelf_faults = search rules;
  sink_faults = search rules;
  same = search rules;
}
