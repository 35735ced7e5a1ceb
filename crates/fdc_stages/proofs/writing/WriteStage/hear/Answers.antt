use Rattle.std.proofs.Common.{subst, sym, Some, None}
use Rattle.fdc_stages.proofs.Common.{heard, IsMet, IsSearching, opens, heard_where, IsWriting, write_heard}
use Rattle.fdc_stages.specs.Writings.{HasNext}
use Rattle.fdc_stages.specs.declared.writing.WriteStage.TheVariants.{Search}
use Rattle.fdc_stages.proofs.Gaps.{search_none, search_on, search_missed, heard_alone}
use Rattle.fdc_stages.proofs.writing.WriteStage.hear.Goals as goal

pub returns-then-pass_by-clause-hears : goal.returns-then-pass_by-clause-hears
returns-then-pass_by-clause-hears c = λ past deleted handed closed.
    let given = write_heard (Search c.pass_by.new.self) None in
    let passed = c.pass_by.ensures.passed c.if-pass_by.true in
    subst (λ now. IsWriting past c.args.key deleted handed now → HasNext (heard_where (opens now) c.args.index c.args.word past) c.args.key deleted handed given) (sym c.in-Search.is)
    (search_none c.args.index c.args.word past c.args.key deleted handed c.in-Search.search given
    (λ was. search_on c.args.index c.args.word past c.args.key deleted c.in-Search.search c.pass_by.new.self was
    (subst (λ index. IsSearching (heard index c.args.word past) (Some c.args.key) c.pass_by.new.self) (sym passed.0) (passed.1 past (Some c.args.key) was.1.0))))

pub returns-in-On-clause-hears : goal.returns-in-On-clause-hears
returns-in-On-clause-hears c = λ past deleted handed closed.
    let given = write_heard (Search c.hear.new.self) None in
    let same = c.pass_by.ensures.others c.if-pass_by.false in
    subst (λ now. IsWriting past c.args.key deleted handed now → HasNext (heard_where (opens now) c.args.index c.args.word past) c.args.key deleted handed given) (sym c.in-Search.is)
    (search_none c.args.index c.args.word past c.args.key deleted handed c.in-Search.search given
    (λ was. search_on c.args.index c.args.word past c.args.key deleted c.in-Search.search c.hear.new.self was
    (c.in-On.ensures.hears past (subst (IsSearching past (Some c.args.key)) (sym same) was.1.0))))

pub returns-in-Met-clause-hears : goal.returns-in-Met-clause-hears
returns-in-Met-clause-hears c = λ past deleted handed closed.
    let given = write_heard c.meet.new.self c.meet.result in
    let same = c.pass_by.ensures.others c.if-pass_by.false in
    subst (λ now. IsWriting past c.args.key deleted handed now → HasNext (heard_where (opens now) c.args.index c.args.word past) c.args.key deleted handed given) (sym c.in-Search.is)
    (search_none c.args.index c.args.word past c.args.key deleted handed c.in-Search.search given
    (λ was.
    let met = c.in-Met.ensures.hears past (subst (IsSearching past (Some c.args.key)) (sym same) was.1.0) in
    c.meet.ensures.hears (heard c.args.index c.args.word past) c.args.key deleted c.hear.new.self.separator
    (heard_alone c.args.index c.args.word past was.0 was.1.1.0)
    was.1.1.0
    (subst (λ key. IsMet c.args.index (heard c.args.index c.args.word past) key c.hear.new.self.separator) met.0 met.1)))

pub returns-in-Missed-clause-hears : goal.returns-in-Missed-clause-hears
returns-in-Missed-clause-hears c = λ past deleted handed closed.
    let given = write_heard (Search c.hear.new.self) (Some c.in-Missed.ending) in
    let same = c.pass_by.ensures.others c.if-pass_by.false in
    subst (λ now. IsWriting past c.args.key deleted handed now → HasNext (heard_where (opens now) c.args.index c.args.word past) c.args.key deleted handed given) (sym c.in-Search.is)
    (search_none c.args.index c.args.word past c.args.key deleted handed c.in-Search.search given
    (λ was. search_missed (heard c.args.index c.args.word past) c.args.key deleted c.in-Missed.ending was.1.1.0
    (c.in-Missed.ensures.hears past (subst (IsSearching past (Some c.args.key)) (sym same) was.1.0))))

pub returns-in-Gap-clause-hears : goal.returns-in-Gap-clause-hears
returns-in-Gap-clause-hears c = λ past deleted handed closed.
    let given = write_heard c.wait_on.new.self c.wait_on.result in
    subst (λ now. IsWriting past c.args.key deleted handed now → HasNext (heard_where (opens now) c.args.index c.args.word past) c.args.key deleted handed given) (sym c.in-Gap.is)
    (c.wait_on.ensures.hears past c.args.word c.args.key deleted handed)
