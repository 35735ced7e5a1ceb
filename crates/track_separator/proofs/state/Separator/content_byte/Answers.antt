use Rattle.std.proofs.Common.{◌∷◌, ◌∙◌, refl, sym, ap}
use Rattle.track_separator.proofs.Common.{crc_from, with_word}
use Rattle.track_separator.proofs.Next.{more_of}
use Rattle.track_separator.proofs.Read.{byte_here, read_byte}
use Rattle.track_separator.proofs.state.Separator.content_byte.Goals as goal

pub returns : goal.returns
returns c = λ fed p q deleted was. (
  c.requires.left,
  c.last_byte-value.ensures ∙ byte_here fed c.args.word (with_word fed c.args.word) (more_of fed c.args.word) c.args.self.now.cells c.args.self.now.back c.shifted-self.result p q deleted c.args.size c.args.taken c.args.check c.args.before c.is_touched.result c.args.self.now.few c.shifted-self.ensures c.is_touched.ensures.clean c.is_touched.ensures.touched was,
  (
    refl,
    refl,
    read_byte fed c.args.word (with_word fed c.args.word) (more_of fed c.args.word) c.args.self.now.cells c.args.self.now.back c.shifted-self.result p q deleted c.args.size c.args.taken c.args.check c.args.before c.is_touched.result c.args.self.now.few c.shifted-self.ensures c.is_touched.ensures.clean c.is_touched.ensures.touched was c.crc_step.result c.requires.left
        (λ rest. ap (λ byte. crc_from c.args.check (byte ∷ rest)) (sym c.last_byte-value.ensures) ∙ c.crc_step.ensures.goes_on rest),
  ),
)
