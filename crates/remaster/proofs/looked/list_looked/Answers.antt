use Rattle.std.proofs.Common.{arith, refl}
use Rattle.remaster.proofs.LookedMore.{fields_more, looks_more}
use Rattle.remaster.proofs.looked.list_looked.Goals as goal

pub loop-field-preserved : goal.loop-field-preserved
loop-field-preserved c = record {
  fields = fields_more _ _ c.loop-field.looked.items c.push.new.self.items _ _ c.in_ok-push.ensures.items c.loop-field.invariant.fields (omega arith) refl;
  looks = looks_more c.args.words.now c.loop-field.looked.items c.push.new.self.items _ c.in_ok-push.ensures.items c.loop-field.invariant.looks c.look_of-look.ensures;
}
