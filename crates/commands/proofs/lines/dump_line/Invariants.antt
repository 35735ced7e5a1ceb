use Rattle.std.proofs.Common.{◌≡◌, ◌++◌, take}
use Rattle.commands.proofs.Common.{flat_map, hex5, dump_byte}
use Rattle.std.specs.Prelude.{string_bytes}
use Rattle.commands.proofs.lines.dump_line.Given as goal

abbrev pub invariant-loop-value : goal.invariant-loop-value
invariant-loop-value l = string_bytes l.line ≡ hex5 l.fn.address ++ flat_map dump_byte (take l.value-index l.row)
