use Rattle.std.proofs.Common.{◌/◌, sym, arith}
use Rattle.track_format.proofs.Asked.{key_byte_at, no_key_byte}
use Rattle.track_format.proofs.whole.key_byte.Goals as goal

pub returns-then-i-keys : goal.returns-then-i-keys
returns-then-i-keys c = sym (no_key_byte c.args.keys.now c.args.i c.if-i-keys.true)

pub returns-in-0 : goal.returns-in-0
returns-in-0 c = sym (key_byte_at c.args.keys.now _ (c.args.i / 4) 0 c.args.i (omega arith) (omega arith) (omega arith))

pub returns-in-1 : goal.returns-in-1
returns-in-1 c = sym (key_byte_at c.args.keys.now _ (c.args.i / 4) 1 c.args.i (omega arith) (omega arith) (omega arith))

pub returns-in-2 : goal.returns-in-2
returns-in-2 c = sym (key_byte_at c.args.keys.now _ (c.args.i / 4) 2 c.args.i (omega arith) (omega arith) (omega arith))

pub returns-in_default : goal.returns-in_default
returns-in_default c = sym (key_byte_at c.args.keys.now _ (c.args.i / 4) 3 c.args.i (omega arith) (omega arith) (omega arith))
