use Rattle.fdc_sequencer.proofs.sequencer.Sequencer.is_under_way.Goals as goal

pub returns-in-Moving : goal.returns-in-Moving
returns-in-Moving g c = λ is. record {
  moving = c.in-Moving.moving;
  at = c.in-Moving.is;
  goes = c.goes_along.ensures.goes is;
  wanted = c.goes_along.ensures.wanted is;
}
