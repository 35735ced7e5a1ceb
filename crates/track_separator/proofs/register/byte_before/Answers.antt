use Rattle.std.proofs.Common.{◌∙◌}
use Rattle.track_separator.proofs.Bits.{byte_is}
use Rattle.track_separator.proofs.register.byte_before.Goals as goal

pub returns : goal.returns
returns c = c.decode_word.ensures ∙ byte_is c.args.cells c.args.back
