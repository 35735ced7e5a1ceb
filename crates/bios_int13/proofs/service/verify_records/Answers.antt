use Rattle.std.proofs.Common.{◌++◌, ℕ, List, refl, ap, ◌∙◌, subst}
use Rattle.bios_int13.proofs.Common.{with_items, AreDone, put_requests}
use Rattle.bios_int13.proofs.Serving.{put_back_all}
use Rattle.bios_int13.proofs.service.verify_records.Goals as goal

pub returns : goal.returns
returns g c = λ told.
    let memory : List ℕ = c.args.session.now.station.memory in
    let moved = c.move_records-outcome.ensures.moves told in
    let puts = c.put_back.ensures.puts told in
    let outside = c.move_records-outcome.ensures.outside refl c.bytes_at-kept.ensures.room in (
      moved.0 ++ puts.0,
      record {
        reads = moved.0;
        puts = puts.0;
        mid = c.move_records-outcome.new.session;
        course_is = refl;
        moves = moved.1;
        puts_back = subst (λ (b : List ℕ). AreDone (put_requests c.args.address b) c.move_records-outcome.new.session told puts.0 c.put_back.new.session)
            c.bytes_at-kept.ensures.bytes puts.1;
        memory = c.put_back.ensures.memory ∙ ap (with_items c.move_records-outcome.new.session.station.memory c.args.address)
            c.bytes_at-kept.ensures.bytes ∙ put_back_all memory c.move_records-outcome.new.session.station.memory c.args.address 512
            c.bytes_at-kept.ensures.room outside;
      },
    )
