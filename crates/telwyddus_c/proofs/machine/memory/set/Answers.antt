use Rattle.std.proofs.Common.{◌≡◌, ◌+◌, ◌<◌, length, refl, sym, ap, subst, arith}
use Rattle.telwyddus_c.proofs.Common.{Board, memory_of, CountsBytes, board_of}
use Rattle.telwyddus_c.proofs.Copies.{stored_more, rest_more, rest_none}
use Rattle.telwyddus_c.proofs.machine.memory.set.Goals as goal

pub loop-i-init : goal.loop-i-init
loop-i-init c = (record { inside = λ k none. absurd (omega (arith, none)); outside = λ k _. refl }, rest_none c.args.address (board_of c.args.machine.now))

pub loop-i-preserved : goal.loop-i-preserved
loop-i-preserved c =
    let is = c.ram_set.ensures in
    let now = memory_of (board_of c.loop-i.machine) in
    let inside : c.args.address + c.loop-i.i < length now = rw c.ram-before.ensures.length (omega arith) in (
      rw (ap memory_of is) (stored_more c.args.address c.loop-i.i _ c.args.bytes.now _ now inside refl c.loop-i.invariant.0),
      subst (λ (b : Board). CountsBytes c.args.address (c.loop-i.i + 1) (board_of c.args.machine.now) b) (sym is)
          (rest_more c.args.address c.loop-i.i _ (board_of c.args.machine.now) (board_of c.loop-i.machine) c.loop-i.invariant.1),
    )

pub returns : goal.returns
returns c =
    let all : c.loop-i.i ≡ length c.args.bytes.now = omega arith in
    record { within = omega arith; stored = rw all at c.loop-i.invariant.0; rest = rw all at c.loop-i.invariant.1 }
