use Rattle.std.proofs.Common.{subst}
use Rattle.fdc_core.proofs.Common.{SeesUnder, HasStepsLeft, HearsToWrite}
use Rattle.fdc_core.proofs.controller.Fdc.hear_formatting.Goals as goal

pub returns : goal.returns
returns g c = λ steps formatting at.
    let passing = c.listen-passing.result in
    let does = subst (λ phase. HearsToWrite phase passing.index passing.word c.args.self.now c.hear_to_write.new.self) at c.hear_to_write.ensures in
    record {
      index = passing.index;
      word = passing.word;
      is = record {
        index_is = c.listen-passing.ensures.index;
        sees = subst (λ head. SeesUnder c.args.self.now.rate head (g.D.Drive.state c.args.drive.now) passing.word (g.D.Drive.state c.listen-passing.new.drive)) c.head_of.ensures c.listen-passing.ensures.word;
        passes = c.listen-passing.ensures.drive;
      };
      does = record { few = subst HasStepsLeft at c.requires; next = does.0; hears = does.1; after_is = does.2 };
    }
