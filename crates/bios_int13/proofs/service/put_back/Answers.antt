use Rattle.std.proofs.Common.{◌∷◌, ◌++◌, [], List, None, sym, ap, ◌∙◌, subst, arith}
use Rattle.bios_int13.proofs.Common.{take_all, Request, with_items, AreDone, put_request}
use Rattle.floppy_session.proofs.Memories.{with_items-nil}
use Rattle.bios_int13.proofs.Serving.{done_none, puts_more, put_memory, puts_are}
use Rattle.bios_int13.proofs.service.put_back.Goals as goal

pub loop-i-init : goal.loop-i-init
loop-i-init g c = record {
  done = λ told. ([], done_none c.args.session.now told);
  memory = sym (with_items-nil c.args.session.now.station.memory c.args.address);
}

pub loop-i-preserved : goal.loop-i-preserved
loop-i-preserved g c = record {
  done = λ told.
      let so_far = c.loop-i.invariant.done told in (
        so_far.0 ++ (record { asked = put_request c.args.address c.args.kept.now c.loop-i.i; answer = c.fill.result; after = c.fill.new.self }) ∷ [],
        puts_more c.args.address c.args.kept.now c.loop-i.i _ _ _ told so_far.0 c.fill.result (omega arith) so_far.1 (c.fill.ensures told),
      );
  memory = put_memory c.args.session.now.station.memory c.args.address c.args.kept.now c.loop-i.i _ _ None c.fill.result (omega arith) (omega arith)
      (omega (arith, c.requires.room)) c.loop-i.invariant.memory (c.fill.ensures None);
}

pub returns-clause-puts : goal.returns-clause-puts
returns-clause-puts g c = λ told.
    let so_far = c.loop-i.invariant.done told in (
      so_far.0,
      subst (λ (r : List Request). AreDone r c.args.session.now told so_far.0 c.loop-i.session)
          (puts_are c.args.address c.args.kept.now c.loop-i.i (omega arith)) so_far.1,
    )

pub returns-clause-memory : goal.returns-clause-memory
returns-clause-memory g c =
    c.loop-i.invariant.memory ∙ ap (with_items c.args.session.now.station.memory c.args.address) (take_all c.loop-i.i c.args.kept.now (omega arith))
