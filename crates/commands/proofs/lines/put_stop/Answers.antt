use Rattle.std.proofs.Common.{sym}
use Rattle.sector_model.specs.Texts.{stop_lines}
use Rattle.commands.proofs.lines.put_stop.Goals as goal

pub returns-in-TooLong-clause-puts : goal.returns-in-TooLong-clause-puts
unfolding stop_lines
returns-in-TooLong-clause-puts g c = rw (c.in-TooLong.is, sym c.as_str-in-TooLong.ensures) (record {
  ok = c.put_line-in-TooLong.ensures.ok _ c.longer_line.ensures;
  err = c.put_line-in-TooLong.ensures.err _ c.longer_line.ensures;
  only = c.put_line-in-TooLong.ensures.only;
  faults = c.put_line-in-TooLong.ensures.faults;
})
