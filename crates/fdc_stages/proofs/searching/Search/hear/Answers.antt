use Rattle.fdc_stages.proofs.SearchWord.{passed_of, met_of}
use Rattle.fdc_stages.proofs.searching.Search.hear.Goals as goal

pub returns-in-Some-clause-hears : goal.returns-in-Some-clause-hears
returns-in-Some-clause-hears c = λ past searching.
    (c.in-Some.ensures.1, met_of c.args.index past c.args.word c.args.wanted c.args.self.now.separator c.feed-seen.new.self c.args.self.now.turned c.args.self.now.marked c.feed-seen.result c.in-Some.key searching c.feed-seen.ensures.stands c.feed-seen.ensures.address c.feed-seen.ensures.begins c.in-Some.ensures.0)

pub returns-in-None-clause-hears : goal.returns-in-None-clause-hears
returns-in-None-clause-hears c = λ past searching.
    c.go_on.ensures.hears past c.args.word c.args.wanted
    (passed_of c.args.index past c.args.word c.args.wanted c.args.self.now.separator c.feed-seen.new.self c.args.self.now.turned c.args.self.now.marked c.is_marked-self.result c.feed-seen.result searching c.feed-seen.ensures.follows c.feed-seen.ensures.gives c.feed-seen.ensures.stands c.in-None.ensures c.is_marked-self.ensures)
