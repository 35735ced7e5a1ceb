use Rattle.std.proofs.Common.{refl, arith}
use Rattle.track_format.proofs.Steps.{behind_address, behind_start_or_data}
use Rattle.track_format.proofs.stream.FormatStream.advance.Goals as goal

pub returns-in-Address : goal.returns-in-Address
returns-in-Address c = λ left within h.
    let stream = c.args.self.now in
    record { bit = refl; within = omega arith; part = behind_address stream.part stream.sectors stream.size stream.gap3 stream.fill stream.place stream.check left c.in-Address.is (omega (arith, c.part_words.ensures.counted)) h }

pub returns-in-Start : goal.returns-in-Start
returns-in-Start c = λ left within h.
    let stream = c.args.self.now in
    c.begin_sector.ensures left refl (behind_start_or_data stream.part stream.sectors stream.size stream.gap3 stream.fill stream.place stream.check left c.in-Start.is (omega (arith, c.part_words.ensures.counted)) h)
