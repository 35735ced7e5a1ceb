use Rattle.std.proofs.Common.{◌∙◌, ◌+◌, ℕ, List, Bool, true, false, length, length-set, set, take, sym, refl, ap, arith}
use Rattle.sector_map.proofs.Common.{eqb-true, eq-eqb, false≢true, End, SWaits}
use Rattle.sector_map.proofs.ReadTurn.{given_of, reading_quiet, reading_mode, reading_byte, reading_end, reading_none, changed}
use Rattle.sector_map.proofs.turn.read_behind.Goals as goal
use Rattle.sector_map.proofs.turn.read_behind.Goals.{in-Mode, in-Byte+then-taken-content, in-Byte+else-taken-content, in_default}

pub returns-then-good : goal.returns-then-good
returns-then-good c = λ p n coded sized waits.
    let words = c.args.words.now in
    let size = length c.args.content.now in
    let given = given_of words p size c.loop-i.separator c.feed.new.self c.loop-i.i c.loop-i.deleted c.loop-i.taken c.loop-i.content _ _ c.feed.result refl (λ e. eqb-true _ _ e) (λ last e. false≢true (sym last ∙ eq-eqb _ _ e)) (c.loop-i.invariant.reads p waits) c.feed.ensures.waits c.feed.ensures.reads in
    reading_end words p n size c.feed.new.self c.loop-i.i c.loop-i.deleted c.loop-i.taken c.loop-i.content _ true c.feed.result (c.in-End.is ∙ ap End c.if-good.true) coded sized given

pub returns-in-End : goal.returns-in-End
returns-in-End c = λ p n coded sized waits.
    let words = c.args.words.now in
    let size = length c.args.content.now in
    let given = given_of words p size c.loop-i.separator c.feed.new.self c.loop-i.i c.loop-i.deleted c.loop-i.taken c.loop-i.content _ _ c.feed.result refl (λ e. eqb-true _ _ e) (λ last e. false≢true (sym last ∙ eq-eqb _ _ e)) (c.loop-i.invariant.reads p waits) c.feed.ensures.waits c.feed.ensures.reads in
    (reading_end words p n size c.feed.new.self c.loop-i.i c.loop-i.deleted c.loop-i.taken c.loop-i.content _ false c.feed.result (c.in-End.is ∙ ap End c.if-good.false) coded sized given).1

pub returns-in-NoData : goal.returns-in-NoData
returns-in-NoData c = λ p n coded sized waits.
    let words = c.args.words.now in
    let size = length c.args.content.now in
    let given = given_of words p size c.loop-i.separator c.feed.new.self c.loop-i.i c.loop-i.deleted c.loop-i.taken c.loop-i.content _ _ c.feed.result refl (λ e. eqb-true _ _ e) (λ last e. false≢true (sym last ∙ eq-eqb _ _ e)) (c.loop-i.invariant.reads p waits) c.feed.ensures.waits c.feed.ensures.reads in
    reading_none words p n size c.feed.new.self c.loop-i.i c.loop-i.deleted c.loop-i.taken c.loop-i.content _ c.feed.result c.in-NoData.is sized given

pub returns : goal.returns
returns c = λ p n coded sized waits.
    let now = c.loop-i.invariant.reads p waits in
    let inside = now.inside in
    absurd (omega arith)

pub loop-i-preserved : goal.loop-i-preserved
loop-i-preserved c =
    let words = c.args.words.now in
    let size = length c.args.content.now in
    let given = λ (p : ℕ) (waits : SWaits c.args.separator.now (take c.args.from words) p size).
    given_of words p size c.loop-i.separator c.feed.new.self c.loop-i.i c.loop-i.deleted c.loop-i.taken c.loop-i.content _ _ c.feed.result refl (λ e. eqb-true _ _ e) (λ last e. false≢true (sym last ∙ eq-eqb _ _ e)) (c.loop-i.invariant.reads p waits) c.feed.ensures.waits c.feed.ensures.reads in
    let on = λ (p : ℕ) (d : Bool) (t : ℕ) (a : List ℕ). changed words p size c.feed.new.self (c.loop-i.i + 1) d c.match-feed.deleted t c.match-feed.taken a c.match-feed.content in
    elim c.match-feed.branch [
      | in-Mode w ↦ record {
        most = (let most = c.loop-i.invariant.most in rw (w.taken-is, w.content-is) most);
        reads = λ p waits.
            on p w.in-Mode.mode c.loop-i.taken c.loop-i.content w.deleted-is w.taken-is w.content-is
            (reading_mode words p size c.feed.new.self c.loop-i.i c.loop-i.deleted w.in-Mode.mode c.loop-i.taken c.loop-i.content _ c.feed.result w.in-Mode.is (given p waits));
      }
      | in-Byte+then-taken-content w ↦ record {
        most = (let less = w.if-taken-content.true in rw (w.taken-is, w.content-is, length-set) (omega arith));
        reads = λ p waits.
            on p c.loop-i.deleted (c.loop-i.taken + 1) (set c.loop-i.content c.loop-i.taken w.in-Byte.value) w.deleted-is w.taken-is w.content-is
            (reading_byte words p size c.feed.new.self c.loop-i.i c.loop-i.deleted c.loop-i.taken c.loop-i.content _ w.in-Byte.value c.feed.result w.in-Byte.is (given p waits)).1;
      }
      | in-Byte+else-taken-content w ↦ record {
        most = (let most = c.loop-i.invariant.most in rw (w.taken-is, w.content-is) most);
        reads = λ p waits.
            let now = c.loop-i.invariant.reads p waits in
            let sized = now.sized in
            let less = (reading_byte words p size c.feed.new.self c.loop-i.i c.loop-i.deleted c.loop-i.taken c.loop-i.content _ w.in-Byte.value c.feed.result w.in-Byte.is (given p waits)).0 in
            absurd (omega (arith, w.if-taken-content.false));
      }
      | in_default w ↦ record {
        most = (let most = c.loop-i.invariant.most in rw (w.taken-is, w.content-is) most);
        reads = λ p waits.
            on p c.loop-i.deleted c.loop-i.taken c.loop-i.content w.deleted-is w.taken-is w.content-is
            (reading_quiet words p size c.feed.new.self c.loop-i.i c.loop-i.deleted c.loop-i.taken c.loop-i.content _ c.feed.result w.in_default.not-Mode w.in_default.not-Byte w.in_default.not-End w.in_default.not-NoData (given p waits));
      }
    ]
