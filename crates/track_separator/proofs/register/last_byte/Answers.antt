use Rattle.std.proofs.Common.{◌∙◌}
use Rattle.track_separator.proofs.Bits.{last_byte_is}
use Rattle.track_separator.proofs.register.last_byte.Goals as goal

pub returns : goal.returns
returns c = c.decode_word.ensures ∙ last_byte_is c.args.cells c.args.back c.requires
