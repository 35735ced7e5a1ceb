use Rattle.std.proofs.Common.{sym, ◌∙◌}
use Rattle.flat_files.proofs.Filed.{reached}
use Rattle.flat_files.proofs.filing.add_track.Goals as goal

pub returns-else-is_plain : goal.returns-else-is_plain
returns-else-is_plain c = (
  rw (c.cylinder-c.ensures.value, c.head-h.ensures.value)
      (reached c.args.tracks.now c.args.form c.args.track c.args.bytes.now.items c.requires.form c.requires.there c.requires.before),
  sym c.is_plain.ensures ∙ c.if-is_plain.false,
)
