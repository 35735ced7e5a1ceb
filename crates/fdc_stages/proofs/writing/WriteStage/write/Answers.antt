use Rattle.fdc_stages.proofs.Windowed.{write_word}
use Rattle.fdc_stages.proofs.writing.WriteStage.write.Goals as goal

pub returns-clause-writes : goal.returns-clause-writes
returns-clause-writes c = λ past handed due was.
    write_word past c.args.key c.args.deleted handed c.args.self c.window.result _ _ _ was (c.window.ensures.is past handed due was) (c.window.ensures.needs due) c.next-given.ensures
