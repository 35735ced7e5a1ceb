use Rattle.std.proofs.Common.{refl, ◌∙◌, arith}
use Rattle.machine_commands.proofs.Common.{board_of}
use Rattle.machine_commands.proofs.Awaiting.{watches_next, awaited_now, awaited_never}
use Rattle.machine_commands.proofs.machine.CommandedMachine.await_results.Goals as goal

pub loop-watch-init : goal.loop-watch-init
loop-watch-init g c = (refl, refl)

pub returns-then-await_line-clause-awaits : goal.returns-then-await_line-clause-awaits
returns-then-await_line-clause-awaits g c =
    awaited_now c.loop-watch._watch _ (board_of g.D.Drive.state c.args.self.now) (board_of g.D.Drive.state c.loop-watch.self) (board_of g.D.Drive.state c.await_line.new.self)
    c.loop-watch.invariant.0 c.if-await_line.true c.await_line.ensures.watch

pub returns-then-await_line-clause-motors : goal.returns-then-await_line-clause-motors
returns-then-await_line-clause-motors g c = c.await_line.ensures.motors ∙ c.loop-watch.invariant.1

pub loop-watch-preserved : goal.loop-watch-preserved
loop-watch-preserved g c = (
  watches_next c.loop-watch._watch _ (board_of g.D.Drive.state c.args.self.now) (board_of g.D.Drive.state c.loop-watch.self) (board_of g.D.Drive.state c.await_line.new.self)
      c.loop-watch.invariant.0 c.if-await_line.false c.await_line.ensures.watch,
  c.await_line.ensures.motors ∙ c.loop-watch.invariant.1,
)

pub returns-clause-awaits : goal.returns-clause-awaits
returns-clause-awaits g c =
    awaited_never c.loop-watch._watch (board_of g.D.Drive.state c.args.self.now) (board_of g.D.Drive.state c.loop-watch.self) (omega arith) c.loop-watch.invariant.0

pub returns-clause-motors : goal.returns-clause-motors
returns-clause-motors g c = c.loop-watch.invariant.1
