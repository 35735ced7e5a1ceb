use Rattle.drive_model.specs.Mechanics.{faultless}
use Rattle.drive_model.specs.ScriptDrive.{script_state}
use Rattle.drive_model.proofs.Passing.{ahead_first, ahead_same}
use Rattle.drive_model.proofs.script.ScriptDriveDrive.ahead.Goals as goal

pub returns-clause-ahead : goal.returns-clause-ahead
returns-clause-ahead c =
    let drive = c.args.self.now in
    let s = script_state drive in
    ahead_first c.words_before-count.result c.args.head c.ahead-words.result.now s
    (ahead_same c.args.head c.ahead-words.result.now (faultless drive.mechanics) s.gate s.cut s.faults s.left c.ahead-words.ensures.ahead)
