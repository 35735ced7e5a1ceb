use Rattle.std.proofs.Common.{◌≡◌, ℕ, Option, None, Some, arith, subst, refl}
use Rattle.fdc_core.proofs.Common.{Takes}
use Rattle.fdc_core.proofs.Laying.{LaysAhead, LaysNext, copied_lays, copied_most, copies_more, copies_none, copies_on}
use Rattle.fdc_core.proofs.quiet.count_laying.Goals as goal

-- no byte is left
none_of : (rest : Option ℕ) → ((some : ℕ) → rest ≡ Some some → ⊥) → rest ≡ None
none_of None other = refl
none_of (Some some) other = absurd (other some refl)

pub loop-i-init : goal.loop-i-init
loop-i-init c = copies_none c.args.bytes c.args.stage c.requires.due

pub loop-i-preserved : goal.loop-i-preserved
loop-i-preserved c =
    let goes : LaysNext c.loop-i.stage 0 c.write.result.word c.after.result = record {
      goes_on = λ past numbers handed takes due is asks. c.after.ensures.goes_on past numbers _ (c.write.ensures.writes past numbers handed takes due is asks);
      well = c.after.ensures.well;
    } in
    copies_more c.loop-i.i c.args.bytes c.loop-i.left c.in-Some.rest 0 c.write.result.word c.args.stage c.loop-i.stage c.after.result c.needs_byte.result c.loop-i.invariant c.needs_byte.ensures.takes goes c.in-On.next c.in-On.is c.in-Some.ensures.taken c.in-Some.ensures.kept

pub returns-in_default-clause-lays : goal.returns-in_default-clause-lays
returns-in_default-clause-lays c = copied_lays c.loop-i.i c.args.bytes c.loop-i.left c.args.stage c.loop-i.stage c.loop-i.invariant

pub returns-in_default-clause-longest : goal.returns-in_default-clause-longest
returns-in_default-clause-longest c past numbers handed is less lays =
    let none = none_of c.left_after.result c.in_default.not-Some in
    copied_most c.loop-i.i c.args.bytes c.loop-i.left c.args.stage c.loop-i.stage c.loop-i.invariant (c.left_after.ensures.missing none)
    (λ due. subst (λ takes. Takes c.loop-i.stage takes) (c.left_after.ensures.needed none) (c.needs_byte.ensures.takes due)) past numbers handed is lays

pub returns-in-Ended-clause-lays : goal.returns-in-Ended-clause-lays
returns-in-Ended-clause-lays c = copied_lays c.loop-i.i c.args.bytes c.loop-i.left c.args.stage c.loop-i.stage c.loop-i.invariant

pub returns-in-Ended-clause-longest : goal.returns-in-Ended-clause-longest
returns-in-Ended-clause-longest c past numbers handed is less lays =
    let goes : LaysNext c.loop-i.stage 0 c.write.result.word c.after.result = record {
      goes_on = λ past numbers handed takes due is asks. c.after.ensures.goes_on past numbers _ (c.write.ensures.writes past numbers handed takes due is asks);
      well = c.after.ensures.well;
    } in
    copies_on c.loop-i.i c.args.bytes c.loop-i.left c.in-Some.rest 0 c.write.result.word c.args.stage c.loop-i.stage c.after.result c.needs_byte.result c.loop-i.invariant c.needs_byte.ensures.takes goes c.in-Ended.ending c.in-Ended.key c.in-Ended.is past numbers handed is

pub returns-clause-lays : goal.returns-clause-lays
returns-clause-lays c =
    let all : c.loop-i.i ≡ c.args.most = omega arith in
    subst (λ n. LaysAhead n c.args.bytes c.args.stage) all (copied_lays c.loop-i.i c.args.bytes c.loop-i.left c.args.stage c.loop-i.stage c.loop-i.invariant)
