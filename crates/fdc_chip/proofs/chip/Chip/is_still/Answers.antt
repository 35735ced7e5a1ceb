use Rattle.std.proofs.Common.{sym, ◌∙◌}
use Rattle.fdc_chip.proofs.chip.Chip.is_still.Goals as goal

pub returns-then-is_idle-clause-still : goal.returns-then-is_idle-clause-still
returns-then-is_idle-clause-still g c = λ is. record {
  idle = c.is_idle.ensures.idle c.if-is_idle.true;
  down = sym c.int.ensures ∙ c.if-int.false;
  stands = c.is_still.ensures.still is;
}
