use Rattle.std.proofs.Common.{◌≡◌, take, refl, subst}
use Rattle.machine_commands.proofs.Common.{board_of, Sends, take_all}
use Rattle.machine_commands.proofs.Awaiting.{sends_next}
use Rattle.machine_commands.proofs.machine.CommandedMachine.send.Goals as goal

pub loop-byte-preserved : goal.loop-byte-preserved
loop-byte-preserved g c = (
  sends_next c.args.bytes.now c.loop-byte.byte-index _ _ (board_of g.D.Drive.state c.loop-byte.self) _ c.loop-byte-test.true refl
      c.loop-byte.invariant.0 c.outb.ensures,
  c.loop-byte.invariant.1,
)

pub returns : goal.returns
returns g c =
    let all : take c.loop-byte.byte-index c.args.bytes.now ≡ c.args.bytes.now = take_all c.loop-byte.byte-index c.args.bytes.now c.loop-byte-test.false in
    record {
      sends = subst (λ bytes. Sends bytes (board_of g.D.Drive.state c.args.self.now) (board_of g.D.Drive.state c.loop-byte.self)) all c.loop-byte.invariant.0;
      motors = c.loop-byte.invariant.1;
    }
