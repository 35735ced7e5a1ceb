use Rattle.std.proofs.Common.{inl}
use Rattle.track_separator.proofs.Started.{blank_tail, blank_follows}
use Rattle.track_separator.proofs.state.Separator.new.Goals as goal

pub returns-clause-hunts : goal.returns-clause-hunts
returns-clause-hunts c = blank_tail

pub returns-clause-follows : goal.returns-clause-follows
returns-clause-follows c = blank_follows

pub returns-clause-any : goal.returns-clause-any
returns-clause-any c = λ fed. inl (blank_tail fed)
