use Rattle.track_separator.proofs.HuntedWord.{hunted_read, hunted_run, hunted_none}
use Rattle.track_separator.proofs.state.Separator.hunt_word.Goals as goal
use Rattle.track_separator.proofs.state.Separator.hunt_word.Goals.{in_default-stage-via-in-Reading+else-word-ne0, in_default-stage-via-in_default-stage}

pub returns-in-Some : goal.returns-in-Some
returns-in-Some c =
    hunted_run c.args.self.now.cells c.args.self.now.back c.args.word c.next_cells-self.result c.in-Some.back c.args.self.now.stage c.next_cells-self.ensures c.in-Some.ensures

pub returns-in-Reading : goal.returns-in-Reading
returns-in-Reading c =
    hunted_read c.args.self.now.cells c.args.self.now.back c.in-Reading.bytes c.args.word c.next_cells-self.result c.args.self.now.stage c.take_byte.new.self.cells c.take_byte.new.self.back c.take_byte.new.self.stage c.take_byte.result c.next_cells-self.ensures c.args.self.now.few c.in-Reading.is c.take_byte.ensures.kept c.if-word-ne0.true c.in_default.ensures c.take_byte.ensures.taken

pub returns-in_default-stage : goal.returns-in_default-stage
returns-in_default-stage c =
    hunted_none c.args.self.now.cells c.args.self.now.back c.args.word c.next_cells-self.result c.args.self.now.stage c.next_cells-self.ensures c.in_default.ensures
    (elim c.in_default-stage.branch [
      | in_default-stage-via-in-Reading+else-word-ne0 w ↦ λ m is some. some w.if-word-ne0.false
      | in_default-stage-via-in_default-stage w ↦ λ m is some. w.in_default-stage.not-Reading m is
    ])
