use Rattle.std.proofs.Common.{◌≡◌, arith, length, refl, subst, take}
use Rattle.fdc_core.proofs.Common.{MeetsNothing}
use Rattle.fdc_core.proofs.Quieting.{heard_none, hears_next, hears_nothing}
use Rattle.fdc_core.proofs.Foreseeing.{meets_by}
use Rattle.fdc_core.proofs.quiet.count_searching.Goals as goal

pub loop-i-init : goal.loop-i-init
loop-i-init c = hears_nothing c.args.wanted c.args.search

pub loop-i-preserved : goal.loop-i-preserved
loop-i-preserved c =
    hears_next c.args.wanted c.args.words.now c.loop-i.i _ c.args.search c.loop-i.search c.hear.new.self c.loop-i-test.true refl c.loop-i.invariant c.in-On.ensures.hears

pub returns-in_default : goal.returns-in_default
returns-in_default c = record {
  within = omega arith;
  meets = heard_none c.args.wanted (take c.loop-i.i c.args.words.now) c.args.search c.loop-i.search c.loop-i.invariant;
  longest = λ more.
      meets_by c.args.wanted c.args.words.now c.loop-i.i _ c.args.search c.loop-i.search c.hear.new.self c.hear.result c.loop-i-test.true refl c.loop-i.invariant c.hear.ensures.hears c.hear.ensures.well c.in_default.not-On;
}

pub returns-clause-meets : goal.returns-clause-meets
returns-clause-meets c =
    let words = c.args.words.now in
    let all : c.loop-i.i ≡ length words = omega arith in
    subst (λ count. MeetsNothing c.args.wanted (take count words) c.args.search) all
    (heard_none c.args.wanted (take c.loop-i.i words) c.args.search c.loop-i.search c.loop-i.invariant)
