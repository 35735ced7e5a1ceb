use Rattle.std.proofs.Common.{◌≡◌, ℕ, ◌<◌, ◌+◌, List, [], ◌∷◌, ◌++◌, length, true, false, refl, sym, ap, ◌∙◌, subst, arith, length-append}
use Rattle.rescue.proofs.Common.{nat_tests, BeginsWith, log_text, IsLog, IsAfterLast, IsFirstBadLine, LogLine}
use Rattle.rescue.proofs.LogLemmas.{first_bad_order, log_more, text_more, less_left}
use Rattle.rescue.proofs.read.read_log.Goals as goal

pub returns-then-not-follows : goal.returns-then-not-follows
returns-then-not-follows c =
    let next : BeginsWith c.args.sectors c.loop-rest.rest.now c.in-Some.line c.in-Some.others.now = rw c.in-Some.is at c.in_ok-line.ensures in
    let more : 0 < length c.loop-rest.rest.now = grind (arith, nat_tests) in
    let told : IsAfterLast c.loop-rest.lines.items c.in-Some.line → false ≡ true =
    subst (λ (lines : List LogLine). IsAfterLast lines c.in-Some.line → false ≡ true) c.as_slice.ensures.value c.if-not-follows.ensures.1 in
    let out : IsAfterLast c.loop-rest.lines.items c.in-Some.line → ⊥ = λ after. let never = told after in cc in
    let length_is = ap (λ (lines : List LogLine). length lines) c.as_slice.ensures.value in
    let number : length c.loop-rest.lines.items + 1 ≡ c.len.result + 1 = omega (arith, length_is) in
    subst (IsFirstBadLine c.args.sectors c.args.bytes.now) number
    (first_bad_order c.args.sectors c.args.bytes.now c.loop-rest.rest.now c.in-Some.others.now c.loop-rest.lines.items c.in-Some.line
    (omega arith) c.loop-rest.invariant.begins c.loop-rest.invariant.good more next out)

pub loop-rest-preserved : goal.loop-rest-preserved
loop-rest-preserved c =
    let lines = c.loop-rest.lines.items in
    let next : BeginsWith c.args.sectors c.loop-rest.rest.now c.in-Some.line c.in-Some.others.now = rw c.in-Some.is at c.in_ok-line.ensures in
    let items : c.push.new.self.items ≡ lines ++ c.in-Some.line ∷ [] = c.in_ok-push.ensures.items in
    let after : IsAfterLast lines c.in-Some.line =
    subst (λ (l : List LogLine). IsAfterLast l c.in-Some.line) c.as_slice.ensures.value (c.if-not-follows.ensures.0 refl) in
    let good = log_more c.args.sectors lines c.in-Some.line c.loop-rest.invariant.good next.valid after in
    let text = text_more lines c.in-Some.line c.in-Some.others.now in
    let one_more : length c.push.new.self.items ≡ length lines + 1 = ap length items ∙ length-append lines (c.in-Some.line ∷ []) in
    let less = less_left c.loop-rest.rest.now _ c.in-Some.others.now next.begins in
    record {
      begins = c.loop-rest.invariant.begins ∙ ap (λ (rest : List ℕ). log_text lines ++ rest) next.begins ∙ sym text
          ∙ ap (λ (l : List LogLine). log_text l ++ c.in-Some.others.now) (sym items);
      good = subst (IsLog c.args.sectors) (sym items) good;
      counted = omega arith;
    }
