use Rattle.std.proofs.Common.{drop, refl, ap, ◌∙◌, subst}
use Rattle.track_format.proofs.Common.{word_after, symbol_bit, Gives}
use Rattle.track_format.proofs.stream.FormatStream.next.Goals as goal

pub returns : goal.returns
returns c = λ last left gives is.
    let symbol = c.symbol-symbol.ensures last left gives is in
    let checked = c.next_check-self.ensures c.last_bit_of-self.result left (record { bit = refl; within = gives.within; part = gives.part }) symbol in (
      c.word_of-word.ensures
          ∙ ap (λ bit. word_after bit c.symbol-symbol.result) gives.bit
          ∙ ap (word_after last) symbol,
      subst (λ bit. Gives c.advance.new.self bit (drop 1 left)) (c.last_bit_of-self.ensures ∙ ap symbol_bit symbol)
          (c.advance.ensures (drop 1 left) gives.within checked),
    )
