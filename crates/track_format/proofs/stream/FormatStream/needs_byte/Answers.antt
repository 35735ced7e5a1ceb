use Rattle.track_format.proofs.Steps.{needs_in_address, needs_not}
use Rattle.track_format.proofs.stream.FormatStream.needs_byte.Goals as goal

pub returns-in-Address : goal.returns-in-Address
returns-in-Address c = λ last left gives.
    let stream = c.args.self.now in
    needs_in_address c.is_key_place.result stream.part stream.sectors stream.size stream.gap3 stream.fill stream.place stream.check left c.in-Address.is c.is_key_place.ensures gives.within gives.part

pub returns-in_default : goal.returns-in_default
returns-in_default c = λ last left gives.
    let stream = c.args.self.now in
    needs_not stream.part stream.sectors stream.size stream.gap3 stream.fill stream.place stream.check left c.in_default.not-Address gives.within gives.part
