use Rattle.std.proofs.Common.{◌+◌, ◌<◌, false, length, take, drop, slice_set, refl, sym, ap, ◌∙◌, arith}
use Rattle.track_format.proofs.Common.{false≢true, length-take, take_more_set, take_all, flat_map, lay, symbol_bit, next_symbol, track_symbols, key_bytes, KeyIs}
use Rattle.track_format.proofs.Asked.{asked-track, asked_same, laid_start, laid_more, laid_all, asked_byte, asked_more}
use Rattle.track_format.proofs.whole.fill_layout.Goals as goal
use Rattle.track_format.proofs.whole.fill_layout.Goals.{then-needs_byte, else-needs_byte}

pub loop-i-init : goal.loop-i-init
loop-i-init c =
    let keys = c.args.keys.now in (
      false,
      track_symbols keys c.args.n c.args.gap3 c.args.fill,
      c.of_sectors-stream.ensures keys refl,
      laid_start keys c.args.n c.args.gap3 c.args.fill (length c.args.words.now) (take 0 c.args.words.now) refl,
      asked-track keys c.args.n c.args.gap3 c.args.fill,
      omega arith,
    )

pub overflow_add-asked : goal.overflow_add-asked
overflow_add-asked c = let few = c.loop-i.invariant.5 in omega arith

pub loop-i-preserved : goal.loop-i-preserved
loop-i-preserved c =
    let keys = c.args.keys.now in
    let track = lay keys c.args.n c.args.gap3 c.args.fill (length c.args.words.now) in
    let so_far = c.loop-i.invariant in
    let last = so_far.0 in
    let left = so_far.1 in
    let bytes = flat_map key_bytes keys in
    let i = c.loop-i.i in
    let needs = c.needs_byte.ensures last left so_far.2 in
    let is : KeyIs left c.if-needs_byte.byte = λ key e.
    elim c.if-needs_byte.branch [
      | then-needs_byte w ↦ asked_byte left bytes c.loop-i.asked c.if-needs_byte.byte key so_far.4 (w.byte-is ∙ w.key_byte-byte.ensures) e
      | else-needs_byte w ↦ absurd (false≢true (sym w.if-needs_byte.false ∙ needs.1 (key, e)))
    ] in
    let step = c.next.ensures last left so_far.2 is in
    let within : length (take i c.loop-i.words) < length c.args.words.now = omega (arith, length-take i c.loop-i.words) in (
      symbol_bit (next_symbol left),
      drop 1 left,
      step.1,
      laid_more track (take i c.loop-i.words) (take (i + 1) (slice_set c.loop-i.words i c.next.result)) last left (length c.args.words.now) c.next.result within
          (take_more_set c.loop-i.words i c.next.result (omega arith)) step.0 so_far.3,
      elim c.if-needs_byte.branch [
        | then-needs_byte w ↦ asked_more left bytes c.loop-i.asked (needs.0 w.if-needs_byte.true) so_far.4 ∙ ap (λ k. drop k bytes) (sym w.asked-is)
        | else-needs_byte w ↦ asked_same left (λ asks. false≢true (sym w.if-needs_byte.false ∙ needs.1 asks)) ∙ so_far.4 ∙ ap (λ k. drop k bytes) (sym w.asked-is)
      ],
      elim c.if-needs_byte.branch [
        | then-needs_byte w ↦ omega arith
        | else-needs_byte w ↦ omega arith
      ],
    )

pub returns : goal.returns
returns c =
    let keys = c.args.keys.now in
    let words = c.loop-i.words in
    let so_far = c.loop-i.invariant in
    sym (take_all c.loop-i.i words (omega arith))
    ∙ laid_all (lay keys c.args.n c.args.gap3 c.args.fill (length c.args.words.now)) (take c.loop-i.i words) so_far.0 so_far.1 (length c.args.words.now) (omega (arith, length-take c.loop-i.i words)) so_far.3
