use Rattle.track_separator.proofs.Told.{asked_behind, asked_late}
use Rattle.track_separator.proofs.state.Separator.want.Goals as goal
use Rattle.track_separator.proofs.state.Separator.want.Goals.{in-Addressed, in_default}

pub returns-clause-any : goal.returns-clause-any
returns-clause-any c = λ fed h.
    let old = c.args.self.now in
    elim c.match-self.branch [
      | in-Addressed w ↦ asked_behind fed old.cells old.back c.args.size old.stage c.match-self.self old.few w.in-Addressed.is w.self-is h
      | in_default w ↦ asked_late fed old.cells old.back c.match-self.self w.self-is
    ]
