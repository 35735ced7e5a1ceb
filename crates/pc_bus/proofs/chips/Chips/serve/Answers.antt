use Rattle.std.proofs.Common.{refl, sym, ◌∙◌}
use Rattle.pc_bus.proofs.Moves.{moved_on, moved_out, moved_all}
use Rattle.pc_bus.proofs.chips.Chips.serve.Goals as goal

-- src/chips.rt:87:9
pub loop-i-init : goal.loop-i-init
loop-i-init c = refl

-- src/chips.rt:89:17
pub returns-then-not-can_move : goal.returns-then-not-can_move
returns-then-not-can_move c =
    moved_out c.loop-i._i c.loop-i.self _ (sym c.can_move.ensures ∙ c.if-not-can_move.true) c.loop-i.invariant

-- src/chips.rt:87:9
pub loop-i-preserved : goal.loop-i-preserved
loop-i-preserved c =
    moved_on c.loop-i._i c.loop-i.self c.move_byte.new.self _ c.loop-i-test.true (sym c.can_move.ensures ∙ c.if-not-can_move.false)
    c.move_byte.ensures c.loop-i.invariant

-- src/chips.rt:84:5
pub returns : goal.returns
returns c = moved_all c.loop-i._i c.loop-i.self _ c.loop-i-test.false c.loop-i.invariant
