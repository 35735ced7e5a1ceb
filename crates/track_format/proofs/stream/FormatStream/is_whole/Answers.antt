use Rattle.std.proofs.Common.{refl}
use Rattle.track_format.proofs.Steps.{left_some, at_end}
use Rattle.track_format.proofs.stream.FormatStream.is_whole.Goals as goal

pub returns-in-End : goal.returns-in-End
returns-in-End c = λ last left gives.
    let stream = c.args.self.now in
    (λ e. at_end stream.part stream.sectors stream.size stream.gap3 stream.fill stream.place stream.check left c.in-End.is gives.part, λ e. refl)

pub returns-in_default : goal.returns-in_default
returns-in_default c = λ last left gives.
    let stream = c.args.self.now in
    (λ e. cc e, λ e. absurd (left_some stream.part stream.sectors stream.size stream.gap3 stream.fill stream.place stream.check left gives.within gives.part c.in_default.not-End e))
