use Rattle.fdc_stages.proofs.Bytes.{byte_comes, whole_without}
use Rattle.fdc_stages.proofs.reading.ReadStage.next_byte.Goals as goal

pub returns-in-Content-clause-heard : goal.returns-in-Content-clause-heard
returns-in-Content-clause-heard c =
    byte_comes c.args.word c.in-Content.separator c.next_byte.new.self c.in-Content.deleted c.args.self.now c.next_byte.result c.in-Content.is c.next_byte.ensures.reads

pub returns-in-Content-clause-whole : goal.returns-in-Content-clause-whole
returns-in-Content-clause-whole c =
    whole_without c.in-Content.separator c.in-Content.deleted c.args.self.now c.next_byte.result c.in-Content.is c.next_byte.ensures.whole
