use Rattle.fdc_core.proofs.Words.{sees}
use Rattle.fdc_core.proofs.steps.listen.Goals as goal

pub returns-clause-word : goal.returns-clause-word
returns-clause-word g c =
    sees c.args.rate c.args.head c.listen-heard.result.turn.word c.seen.result.word (g.D.Drive.state c.args.drive.now) (g.D.Drive.state c.listen-heard.new.self) c.listen-heard.result.rate
    c.listen-heard.ensures.rate c.seen.ensures.word c.listen-heard.ensures.word
