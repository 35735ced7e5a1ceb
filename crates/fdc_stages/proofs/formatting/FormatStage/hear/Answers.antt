use Rattle.std.proofs.Common.{subst, sym}
use Rattle.fdc_stages.proofs.Common.{heard, kept_out, heard_where, is_first, IsAtPart, HasNext, format_next}
use Rattle.fdc_stages.proofs.Turned.{due_unopened, barred_unopened}
use Rattle.fdc_stages.proofs.formatting.FormatStage.hear.Goals as goal

pub returns-in-Await-clause-hears : goal.returns-in-Await-clause-hears
returns-in-Await-clause-hears c = λ past numbers handed word closed was.
    subst (λ part. HasNext (heard_where (is_first part) c.args.index word past) numbers handed (format_next c.wait.new.self c.wait.result)) (sym c.in-Await.is)
    (c.wait.ensures.hears past numbers handed word c.in-Await.is was)

pub returns-in-Due-clause-hears : goal.returns-in-Due-clause-hears
returns-in-Due-clause-hears c = λ past numbers handed word closed was.
    let at = subst (IsAtPart past.turns past.seen past.place past.words past.barred) c.in-Due.is was.0 in
    subst (λ part. HasNext (heard_where (is_first part) c.args.index word past) numbers handed (format_next c.listen.new.self c.listen.result)) (sym c.in-Due.is)
    (c.listen.ensures.hears (kept_out c.args.index word past) numbers handed (due_unopened c.args.index word past at) was.1 was.2)

pub returns-in-Barred-clause-hears : goal.returns-in-Barred-clause-hears
returns-in-Barred-clause-hears c = λ past numbers handed word closed was.
    let at = subst (IsAtPart past.turns past.seen past.place past.words past.barred) c.in-Barred.is was.0 in
    subst (λ part. HasNext (heard_where (is_first part) c.args.index word past) numbers handed (format_next c.listen-in-Barred.new.self c.listen-in-Barred.result)) (sym c.in-Barred.is)
    (c.listen-in-Barred.ensures.hears (heard c.args.index word past) numbers handed (barred_unopened c.args.index word past at) was.1 was.2)
