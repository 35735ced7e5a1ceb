use Rattle.std.proofs.Common.{subst}
use Rattle.fdc_stages.proofs.Common.{IsReading}
use Rattle.fdc_stages.proofs.ReadWord.{mode_heard, none_heard, wait_heard}
use Rattle.fdc_stages.proofs.reading.ReadStage.hear_wait.Goals as goal

pub returns-in-Mode-clause-hears : goal.returns-in-Mode-clause-hears
returns-in-Mode-clause-hears c = λ key past told separator is was.
    mode_heard c.args.index past c.args.word key told c.in-Wait.separator c.feed.new.self c.feed.result (subst (IsReading past key told) c.in-Wait.is was) (λ p. c.feed.ensures.waits past.seen p _) c.in-Mode.deleted c.in-Mode.is

pub returns-in-NoData-clause-hears : goal.returns-in-NoData-clause-hears
returns-in-NoData-clause-hears c = λ key past told separator is was.
    none_heard c.args.index past c.args.word key told c.in-Wait.separator c.feed.new.self c.feed.result (subst (IsReading past key told) c.in-Wait.is was) (λ p. c.feed.ensures.waits past.seen p _) c.in-NoData.is

pub returns-in_default-feed : goal.returns-in_default-feed
returns-in_default-feed c = record {
  hears = λ key past told separator is was.
      wait_heard c.args.index past c.args.word key told c.in-Wait.separator c.feed.new.self c.feed.result (subst (IsReading past key told) c.in-Wait.is was) (λ p. c.feed.ensures.waits past.seen p _) c.in_default-feed.not-Mode c.in_default-feed.not-NoData;
  well = tt;
}

pub returns-in_default : goal.returns-in_default
returns-in_default c = record {
  hears = λ key past told separator is was. absurd (c.in_default.not-Wait separator is);
  well = tt;
}
