use Rattle.std.proofs.Common.{◌≡◌, ◌+◌, ◌∷◌, ◌++◌, [], ℕ, refl, sym, ap, ◌∙◌, subst, arith, suc, drop, List, Ok, Err}
use Rattle.bios_int13.proofs.Common.{Request, SameOutside, Kind, AreDone, All, UpToOne, MovesRecord, record_request, record_behind, place_of_record, record_requests}
use Rattle.sector_model.specs.declared.reply.Reply.TheVariants as reply
use Rattle.sector_model.specs.declared.reply.Reason.TheVariants as reason
use Rattle.floppy_session.proofs.OtherBytes.{outside_itself}
use Rattle.bios_int13.proofs.Serving.{done_none, done_more, no_records, records_more, records_long, records_parted, outside_after}
use Rattle.bios_int13.proofs.service.move_records.Goals as goal

pub loop-i-init : goal.loop-i-init
loop-i-init g c = record {
  done = λ told. (
    [],
    subst (λ (r : List Request). AreDone r c.args.session.now told [] c.args.session.now)
        (sym (no_records c.args.kind c.args.bay c.args.first c.args.address)) (done_none c.args.session.now told),
  );
  outside = λ verify room. outside_itself c.args.session.now.station.memory c.args.address 512;
}

pub loop-i-preserved : goal.loop-i-preserved
loop-i-preserved g c = record {
  done = λ told.
      let so_far = c.loop-i.invariant.done told in
      let step = subst (λ (a : ℕ). MovesRecord (record_request c.args.kind c.args.bay (record_behind c.args.first c.loop-i.i) a) c.loop-i.session told
      (Ok tt) c.move_record.new.session) c.place_of_record.ensures (c.in-Ok.ensures.moves told) in (
        so_far.0 ++ (record {
          asked = (record_request c.args.kind c.args.bay (record_behind c.args.first c.loop-i.i)
              (place_of_record c.args.kind c.args.address c.loop-i.i));
          answer = step.0;
          after = c.move_record.new.session;
        }) ∷ [],
        done_more (record_requests c.args.kind c.args.bay c.args.first c.args.address c.loop-i.i)
            (record_requests c.args.kind c.args.bay c.args.first c.args.address (c.loop-i.i + 1))
            (record_request c.args.kind c.args.bay (record_behind c.args.first c.loop-i.i)
            (place_of_record c.args.kind c.args.address c.loop-i.i)) step.0 _ _ _ told so_far.0
            (records_more c.args.kind c.args.bay c.args.first c.args.address c.loop-i.i) so_far.1 step.1 step.2,
      );
  outside = λ verify room.
      let before = c.loop-i.invariant.outside verify room in
      outside_after _ _ _ c.args.address 512 before (subst (λ (a : ℕ). SameOutside a 512 c.loop-i.session.station.memory
      c.move_record.new.session.station.memory) (c.place_of_record.ensures ∙ ap (λ (k : Kind). place_of_record k c.args.address c.loop-i.i) verify)
      (c.move_record.ensures.outside verify c.requires.size (omega
      (arith, room, before.length, c.place_of_record.ensures ∙ ap (λ (k : Kind). place_of_record k c.args.address c.loop-i.i) verify))));
}

pub returns-in-Err-clause-moves : goal.returns-in-Err-clause-moves
returns-in-Err-clause-moves g c = λ told.
    let so_far = c.loop-i.invariant.done told in
    let step = subst (λ (a : ℕ). MovesRecord (record_request c.args.kind c.args.bay (record_behind c.args.first c.loop-i.i) a) c.loop-i.session told
    (Err c.in-Err.code) c.move_record.new.session) c.place_of_record.ensures (c.in-Err.ensures.moves told) in (
      so_far.0 ++ (record {
        asked = (record_request c.args.kind c.args.bay (record_behind c.args.first c.loop-i.i)
            (place_of_record c.args.kind c.args.address c.loop-i.i));
        answer = reply.Refused (reason.Driver c.in-Err.code);
        after =
            c.move_record.new.session;
      }) ∷ [],
      UpToOne (record {
        done = record_requests c.args.kind c.args.bay c.args.first c.args.address c.loop-i.i;
        next = (record_request c.args.kind c.args.bay (record_behind c.args.first c.loop-i.i) (place_of_record c.args.kind c.args.address c.loop-i.i));
        later = drop (suc c.loop-i.i) (record_requests c.args.kind c.args.bay c.args.first c.args.address c.args.count);
        before = so_far.0;
        mid = c.loop-i.session;
        cause = c.in-Err.code;
        parts = records_parted c.args.kind c.args.bay c.args.first c.args.address c.loop-i.i c.args.count (omega arith);
        done_well = so_far.1;
        many = sym (records_long c.args.kind c.args.bay c.args.first c.args.address c.loop-i.i);
        step = step;
        course_is = refl;
        code_is = c.number.ensures;
      }),
    )

pub returns-clause-moves : goal.returns-clause-moves
returns-clause-moves g c = λ told.
    let so_far = c.loop-i.invariant.done told in
    let all : c.loop-i.i ≡ c.args.count = omega arith in (
      so_far.0,
      All (subst (λ (n : ℕ). AreDone (record_requests c.args.kind c.args.bay c.args.first c.args.address n) c.args.session.now told so_far.0
          c.loop-i.session) all so_far.1) (sym (records_long c.args.kind c.args.bay c.args.first c.args.address c.args.count)) refl,
    )

pub returns-in-Err-clause-outside : goal.returns-in-Err-clause-outside
returns-in-Err-clause-outside g c = λ verify room.
    let before = c.loop-i.invariant.outside verify room in
    outside_after _ _ _ c.args.address 512 before (subst (λ (a : ℕ). SameOutside a 512 c.loop-i.session.station.memory
    c.move_record.new.session.station.memory) (c.place_of_record.ensures ∙ ap (λ (k : Kind). place_of_record k c.args.address c.loop-i.i) verify)
    (c.move_record.ensures.outside verify c.requires.size (omega
    (arith, room, before.length, c.place_of_record.ensures ∙ ap (λ (k : Kind). place_of_record k c.args.address c.loop-i.i) verify))))
