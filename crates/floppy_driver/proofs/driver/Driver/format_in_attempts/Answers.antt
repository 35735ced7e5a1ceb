use Rattle.std.proofs.Common.{◌+◌, Ok, Err, refl, ap, ◌∙◌, arith}
use Rattle.floppy_driver.proofs.Common.{in_bay, goes_on_itself, goes_on_after, Bay, shown, format_once_port_accesses, format_steps, format_turns, format_of}
use Rattle.floppy_driver.proofs.Shows.{bay_shown_at}
use Rattle.floppy_driver.proofs.Lasting.{costs_any, costs_fewer, costs_next}
use Rattle.floppy_driver.proofs.FormatTries.{formats_none, formats_more, formats_done}
use Rattle.floppy_driver.proofs.WriteChanges.{becomes_later, medium_itself}
use Rattle.floppy_driver.proofs.driver.Driver.format_in_attempts.Goals as goal

pub loop-init : goal.loop-init
loop-init g c =
    let rig = g.C.Commands.rig c.args.machine.now in
    let driver = c.args.self.now in
    let medium = in_bay rig.media c.args.bay in
    record {
      idle = c.requires.idle;
      can = c.requires.can;
      tries = refl;
      counts = goes_on_itself rig.counters;
      cost = costs_any c.args.bay _ _ _ rig;
      formats = formats_none (format_of c.args.asked) c.args.bay _ medium rig.counters;
      medium = λ spares waiting. medium_itself (shown driver rig spares waiting) c.args.bay medium (ap (λ (b : Bay). b.medium) (bay_shown_at driver rig spares waiting c.args.bay));
    }

pub returns-in-Ok-clause-formats : goal.returns-in-Ok-clause-formats
returns-in-Ok-clause-formats g c =
    let format = format_of c.args.asked in
    formats_done (c.loop.counter + 1) c.args.self.now.tries format c.args.bay _ _ _ _ (omega arith) (omega arith)
    (formats_more c.loop.counter format c.args.bay c.loop.last (Ok c.in-Ok.field-0) _ _ _ _ _ _ c.loop.invariant.counts c.format_once.ensures.counts c.loop.invariant.formats c.in-Ok.ensures.formats)

pub returns-in-Ok-clause-medium : goal.returns-in-Ok-clause-medium
returns-in-Ok-clause-medium g c = λ spares waiting.
    let middle = g.C.Commands.rig c.loop.machine in
    let new = g.C.Commands.rig c.format_once.new.machine in
    let bay = c.args.bay in
    becomes_later (shown c.args.self.now (g.C.Commands.rig c.args.machine.now) spares waiting) (shown c.loop.self middle spares waiting) (shown c.format_once.new.self new spares waiting) bay
    (in_bay middle.media bay) (in_bay new.media bay) (c.loop.invariant.medium spares waiting) (c.format_once.ensures.medium spares waiting)

pub loop-preserved : goal.loop-preserved
loop-preserved g c =
    let middle = g.C.Commands.rig c.loop.machine in
    let new = g.C.Commands.rig c.format_once.new.machine in
    let bay = c.args.bay in
    let so_far = c.loop.invariant in
    let done = c.format_once.ensures in
    let rate = c.args.asked.rate in
    record {
      idle = done.idle;
      can = done.can;
      tries = done.tries ∙ so_far.tries;
      counts = goes_on_after _ _ _ so_far.counts done.counts;
      cost = costs_next bay (format_turns rate) (format_steps rate) (format_once_port_accesses rate) c.loop.counter (c.loop.counter + 1) _ _ _ refl so_far.cost done.costs;
      formats = formats_more c.loop.counter (format_of c.args.asked) bay c.loop.last (Err c.in-Err.code) _ _ _ _ _ _ so_far.counts done.counts so_far.formats c.in-Err.ensures.formats;
      medium = λ spares waiting.
          becomes_later (shown c.args.self.now (g.C.Commands.rig c.args.machine.now) spares waiting) (shown c.loop.self middle spares waiting) (shown c.format_once.new.self new spares waiting) bay
          (in_bay middle.media bay) (in_bay new.media bay) (so_far.medium spares waiting) (done.medium spares waiting);
    }

pub returns-in-Ok-clause-costs : goal.returns-in-Ok-clause-costs
returns-in-Ok-clause-costs g c =
    let rate = c.args.asked.rate in
    costs_fewer c.args.bay (format_turns rate) (format_steps rate) (format_once_port_accesses rate) (c.loop.counter + 1) c.args.self.now.tries _ _ (omega arith)
    (costs_next c.args.bay (format_turns rate) (format_steps rate) (format_once_port_accesses rate) c.loop.counter (c.loop.counter + 1) _ _ _ refl c.loop.invariant.cost c.format_once.ensures.costs)

pub returns-clause-costs : goal.returns-clause-costs
returns-clause-costs g c =
    let rate = c.args.asked.rate in
    costs_fewer c.args.bay (format_turns rate) (format_steps rate) (format_once_port_accesses rate) c.loop.counter c.args.self.now.tries _ _ (omega arith) c.loop.invariant.cost

pub returns-in-Ok-clause-counts : goal.returns-in-Ok-clause-counts
returns-in-Ok-clause-counts g c = goes_on_after _ _ _ c.loop.invariant.counts c.format_once.ensures.counts
