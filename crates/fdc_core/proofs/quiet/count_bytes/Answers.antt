use Rattle.std.proofs.Common.{◌≡◌, arith, length, refl, subst}
use Rattle.fdc_core.proofs.Common.{HasBytesLeft}
use Rattle.fdc_core.proofs.Quieting.{bytes_left, gives_next, gives_nothing}
use Rattle.fdc_core.proofs.Foreseeing.{most_left}
use Rattle.fdc_core.proofs.quiet.count_bytes.Goals as goal

pub loop-i-init : goal.loop-i-init
loop-i-init c = record { given = gives_nothing c.args.stage; content = c.requires.content }

pub loop-i-preserved : goal.loop-i-preserved
loop-i-preserved c = record {
  given = gives_next c.loop-i.i _ c.in-Some.field-0 c.args.stage c.loop-i.stage c.next_byte.new.self c.loop-i.invariant.given c.in-Some.ensures.heard;
  content = c.in-Some.ensures.heard.content;
}

pub returns-in-None-clause-left : goal.returns-in-None-clause-left
returns-in-None-clause-left c = bytes_left c.loop-i.i c.args.stage c.loop-i.stage c.loop-i.invariant.given

pub returns-in-None-clause-longest : goal.returns-in-None-clause-longest
returns-in-None-clause-longest c more = most_left c.loop-i.i c.args.stage c.loop-i.stage c.loop-i.invariant.given (c.in-None.ensures.whole refl c.loop-i.invariant.content)

pub returns-clause-left : goal.returns-clause-left
returns-clause-left c =
    let all : c.loop-i.i ≡ length c.args.words.now = omega arith in
    subst (λ count. HasBytesLeft count c.args.stage) all (bytes_left c.loop-i.i c.args.stage c.loop-i.stage c.loop-i.invariant.given)
