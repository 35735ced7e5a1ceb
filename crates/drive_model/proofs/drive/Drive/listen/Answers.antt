use Rattle.std.proofs.Common.{ap, ◌∙◌}
use Rattle.drive_model.specs.Drive.{rate_of}
use Rattle.drive_model.proofs.Passing.{shut_passes, reads_shut}
use Rattle.drive_model.proofs.drive.Drive.listen.Goals as goal

pub returns-clause-becomes : goal.returns-clause-becomes
returns-clause-becomes g c =
    let state = g.Self.Drive.state in
    shut_passes (state c.args.self.now) (state c.gate.new.self) (state c.read_word-turn.new.self) c.gate.ensures.becomes c.read_word-turn.ensures.becomes

pub returns-clause-word : goal.returns-clause-word
returns-clause-word g c =
    let state = g.Self.Drive.state in
    reads_shut c.args.head c.read_word-turn.result.word (state c.args.self.now) (state c.gate.new.self) (state c.read_word-turn.new.self) c.gate.ensures.becomes c.read_word-turn.ensures.word

pub returns-clause-rate : goal.returns-clause-rate
returns-clause-rate g c = c.rate-rate.ensures ∙ ap (λ s. rate_of s.medium) c.gate.ensures.becomes
