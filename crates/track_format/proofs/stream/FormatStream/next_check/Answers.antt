use Rattle.std.proofs.Common.{◌+◌, ap}
use Rattle.track_format.proofs.Steps.{check_in_address, check_in_data, check_in_others}
use Rattle.track_format.proofs.stream.FormatStream.next_check.Goals as goal

pub returns-in-Address : goal.returns-in-Address
returns-in-Address c = λ last left gives is.
    let stream = c.args.self.now in
    check_in_address stream.part stream.sectors stream.size stream.gap3 stream.fill stream.place stream.check left c.args.symbol c.check_behind.result c.in-Address.is gives.within gives.part is c.check_behind.ensures

pub returns-in-Data : goal.returns-in-Data
returns-in-Data c = λ last left gives is.
    let stream = c.args.self.now in
    check_in_data stream.part stream.sectors stream.size stream.gap3 stream.fill stream.place stream.check (c.from.result + 1) left c.args.symbol c.check_behind-in-Data.result c.in-Data.is (ap (λ k. k + 1) c.from.ensures) gives.within gives.part is c.check_behind-in-Data.ensures

pub returns-in-Start : goal.returns-in-Start
returns-in-Start c = λ last left gives is.
    let stream = c.args.self.now in
    check_in_others stream.part stream.sectors stream.size stream.gap3 stream.fill stream.place stream.check left c.in-Start.is gives.within gives.part
