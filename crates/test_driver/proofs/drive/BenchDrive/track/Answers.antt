use Rattle.std.proofs.Common.{sym, ◌∙◌}
use Rattle.test_driver.proofs.Common.{false≢true, nothing_in, nothing_there}
use Rattle.test_driver.proofs.Recorded.{given_track}
use Rattle.test_driver.proofs.drive.BenchDrive.track.Goals as goal

pub returns-in_default : goal.returns-in_default
returns-in_default c =
    let drive = c.args.self.now in
    nothing_in drive.medium c.args.rate drive.cylinder c.args.head c.in_default.is

pub returns-then-not-same_rate : goal.returns-then-not-same_rate
returns-then-not-same_rate c =
    let drive = c.args.self.now in
    nothing_there drive.medium c.args.rate drive.cylinder c.args.head c.in-Some.medium c.in-Some.is
    (λ has same. absurd (false≢true (sym c.if-not-same_rate.true ∙ c.same_rate.ensures.1 (c.rate.ensures ∙ same))))

pub returns : goal.returns
returns c =
    given_track c.args.self.now.medium c.args.rate c.args.self.now.cylinder c.args.head c.in-Some.medium c.in-Some.is c.track.result c.track.ensures.valid
    (sym c.rate.ensures ∙ c.same_rate.ensures.0 c.if-not-same_rate.false) c.track.ensures.found c.track.ensures.track
