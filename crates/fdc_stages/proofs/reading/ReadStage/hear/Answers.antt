use Rattle.std.proofs.Common.{refl, subst, sym}
use Rattle.fdc_stages.proofs.Common.{heard, IsReading}
use Rattle.fdc_stages.proofs.Lawful.{over_stays}
use Rattle.fdc_stages.proofs.ReadWord.{byte_heard, end_heard, cut_heard, content_heard}
use Rattle.fdc_stages.proofs.reading.ReadStage.hear.Goals as goal

pub returns-in-Byte-clause-hears : goal.returns-in-Byte-clause-hears
returns-in-Byte-clause-hears c = λ past told was.
    byte_heard c.args.index past c.args.word c.args.key told c.in-Content.separator c.feed.new.self c.feed.result c.in-Content.deleted (subst (IsReading past c.args.key told) c.in-Content.is was) (λ p q taken. c.feed.ensures.reads past.seen p q _ _ taken) c.in-Byte.value c.in-Byte.is

pub returns-in-End-clause-hears : goal.returns-in-End-clause-hears
returns-in-End-clause-hears c = λ past told was.
    end_heard c.args.index past c.args.word c.args.key told c.in-Content.separator c.feed.new.self c.feed.result c.in-Content.deleted (subst (IsReading past c.args.key told) c.in-Content.is was) (λ p q taken. c.feed.ensures.reads past.seen p q _ _ taken) c.in-End.good c.in-End.is

pub returns-in-NoData-clause-hears : goal.returns-in-NoData-clause-hears
returns-in-NoData-clause-hears c = λ past told was.
    cut_heard c.args.index past c.args.word c.args.key told c.in-Content.separator c.feed.new.self c.feed.result c.in-Content.deleted (subst (IsReading past c.args.key told) c.in-Content.is was) (λ p q taken. c.feed.ensures.reads past.seen p q _ _ taken) c.in-NoData.is

pub returns-in_default-clause-hears : goal.returns-in_default-clause-hears
returns-in_default-clause-hears c = λ past told was.
    content_heard c.args.index past c.args.word c.args.key told c.in-Content.separator c.feed.new.self c.feed.result c.in-Content.deleted (subst (IsReading past c.args.key told) c.in-Content.is was) (λ p q taken. c.feed.ensures.reads past.seen p q _ _ taken) c.in_default.not-Byte c.in_default.not-End c.in_default.not-NoData

pub returns-in-Over-clause-hears : goal.returns-in-Over-clause-hears
returns-in-Over-clause-hears c = λ past told was.
    subst (IsReading (heard c.args.index c.args.word past) c.args.key told) (sym c.in-Over.is)
    (over_stays c.args.index c.args.word past c.args.key told c.in-Over.deleted c.in-Over.good (subst (IsReading past c.args.key told) c.in-Over.is was))

pub returns-in-Wait-clause-hears : goal.returns-in-Wait-clause-hears
returns-in-Wait-clause-hears c = λ past told was.
    c.hear_wait.ensures.hears c.args.key past told c.in-Wait._separator refl (subst (IsReading past c.args.key told) c.in-Wait.is was)
