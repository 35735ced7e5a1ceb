use Rattle.std.proofs.Common.{◌∙◌, sym, ap, refl, arith}
use Rattle.sector_map.proofs.Common.{eq-eqb, ne_eqb, false≢true, Address}
use Rattle.sector_map.proofs.Turned.{hunting_on, hunting_marked, hunt_passed, same_address, no_address_mark}
use Rattle.sector_map.proofs.turn.hunt_for.Goals as goal
use Rattle.sector_map.proofs.turn.hunt_for.Goals.{in-Mark, in-Address+else-is_key, in_default}

pub returns-then-is_key-clause-over : goal.returns-then-is_key-clause-over
returns-then-is_key-clause-over c = λ begun plain.
    hunt_passed c.args.words.now c.args.key c.loop-i.separator c.feed.new.self c.loop-i.i c.loop-i.has_mark _ _ c.feed.result c.loop-i-test.true refl (c.loop-i.invariant begun plain) plain c.feed.ensures.gives
    (λ h. ne_eqb _ _ (λ e. omega arith)) (λ e. eq-eqb _ _ e) (c.in-Address.is ∙ ap Address (c.is_key.ensures.0 c.if-is_key.true)) c.feed.ensures.stands c.feed.ensures.address c.feed.ensures.begins

pub loop-i-preserved : goal.loop-i-preserved
loop-i-preserved c = λ begun plain.
    elim c.match-feed.branch [
      | in-Mark w ↦
          hunting_marked c.args.words.now c.args.key c.loop-i.separator c.feed.new.self c.loop-i.i c.loop-i.has_mark _ _ c.feed.result c.loop-i-test.true refl (c.loop-i.invariant begun plain) plain c.feed.ensures.gives
          (λ h. ne_eqb _ _ (λ e. omega arith)) c.feed.ensures.follows c.match-feed.has_mark w.has_mark-is w.in-Mark.is c.feed.ensures.stands
      | in-Address+else-is_key w ↦
          hunting_on c.args.words.now c.args.key c.loop-i.separator c.feed.new.self c.loop-i.i c.loop-i.has_mark _ _ c.feed.result c.loop-i-test.true refl (c.loop-i.invariant begun plain) plain c.feed.ensures.gives
          (λ h. ne_eqb _ _ (λ e. omega arith)) c.feed.ensures.follows c.match-feed.has_mark w.has_mark-is
          (λ e. no_address_mark w.in-Address.found (sym w.in-Address.is ∙ e))
          (λ e. false≢true (sym w.if-is_key.false ∙ w.is_key.ensures.1 (same_address w.in-Address.found c.args.key (sym w.in-Address.is ∙ e))))
      | in_default w ↦
          hunting_on c.args.words.now c.args.key c.loop-i.separator c.feed.new.self c.loop-i.i c.loop-i.has_mark _ _ c.feed.result c.loop-i-test.true refl (c.loop-i.invariant begun plain) plain c.feed.ensures.gives
          (λ h. ne_eqb _ _ (λ e. omega arith)) c.feed.ensures.follows c.match-feed.has_mark w.has_mark-is w.in_default.not-Mark (λ e. w.in_default.not-Address c.args.key e)
    ]
