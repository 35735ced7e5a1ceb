use Rattle.std.proofs.Common.{rules}
use Rattle.disk_commands.proofs.Common.{bad_log_text}
use Rattle.disk_commands.specs.Rescue.{tells_no_log}
use Rattle.disk_commands.proofs.RescueEndings.{no_file_fault}
use Rattle.disk_commands.proofs.logs.tell_no_log.Goals as goal

pub returns-in-BadLine : goal.returns-in-BadLine
unfolding tells_no_log
returns-in-BadLine g c =
    let told = c.finish.ensures.tells (bad_log_text c.in-BadLine.line) c.bad_log_line.ensures in
    let sound = no_file_fault _ _ _ _ c.finish.result (λ is. cc is) told.prints in
    record {
      does = rw c.in-BadLine.is (c.finish.ensures.ran.does (bad_log_text c.in-BadLine.line) c.bad_log_line.ensures);
      is_form = search rules;
      shelf_fault = λ is. absurd (sound is);
      fault_told = search rules;
      no_fault = c.finish.ensures.ran.shelf_faults.else_stays sound;
      sink_faults = search rules;
      same = search rules;
    }
