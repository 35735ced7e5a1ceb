use Rattle.std.proofs.Common.{rules}
use Rattle.commands.proofs.Running.{put_whole}
use Rattle.commands.proofs.run.RunAnyRun.tell.Goals as goal

pub returns : goal.returns
returns g c = record {
  goes = put_whole _ _ _ _ _ c.put_reply.result c.put_reply.ensures.ok c.put_reply.ensures.err c.put_reply.ensures.only;
  is_form = search rules;
  shelf_faults = search rules;
  sink_faults = search rules;
  same = search rules;
}
