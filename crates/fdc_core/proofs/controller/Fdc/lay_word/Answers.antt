use Rattle.std.proofs.Common.{subst, ◌∙◌, ◌-◌}
use Rattle.fdc_core.proofs.Common.{Writes, Opens, Closes, StageLaysWord}
use Rattle.fdc_core.proofs.Words.{opens_index}
use Rattle.fdc_core.proofs.controller.Fdc.lay_word.Goals as goal

pub returns : goal.returns
returns g c = λ takes. record {
  from = g.D.Drive.state c.open_before.new.drive;
  mid = g.D.Drive.state c.write_word-index.new.self;
  given = c.write-given.result;
  next = c.after-next.result;
  lays = subst (λ index. StageLaysWord c.args.formatting takes c.args.byte index c.write-given.result c.after-next.result) (c.write_word-index.ensures.index ∙ opens_index c.opens.result (g.D.Drive.state c.args.drive.now) (g.D.Drive.state c.open_before.new.drive) c.open_before.ensures) (record {
    word_is = λ past numbers handed due was asks. c.write-given.ensures.writes past numbers handed takes due was asks;
    goes_on = c.after-next.ensures.goes_on;
    well = c.after-next.ensures.well;
    lead = λ lead has. c.after-next.ensures.lead (lead - 1) (c.write-given.ensures.lead lead has);
  });
  opens_it = subst (λ first. Opens first (g.D.Drive.state c.args.drive.now) (g.D.Drive.state c.open_before.new.drive)) c.opens.ensures c.open_before.ensures;
  puts = subst (λ head. Writes head c.write-given.result.word (g.D.Drive.state c.open_before.new.drive) (g.D.Drive.state c.write_word-index.new.self)) c.head_of.ensures c.write_word-index.ensures.writes;
  range_from = c.write_word-index.ensures.range_before;
  range_mid = c.write_word-index.ensures.range;
  closes = subst (λ last. Closes last (g.D.Drive.state c.write_word-index.new.self) (g.D.Drive.state c.close_behind.new.drive)) c.is_format_over.ensures c.close_behind.ensures;
  after_is = c.follow_formatting.ensures;
}
