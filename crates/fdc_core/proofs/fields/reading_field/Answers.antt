use Rattle.std.proofs.Common.{refl, subst, List, ℕ, []}
use Rattle.fdc_core.proofs.Common.{false≢true, IsReading, heard_words}
use Rattle.fdc_core.proofs.fields.reading_field.Goals as goal

pub returns : goal.returns
returns c = λ head_drive. (
  λ up. absurd (false≢true up),
  (
    [],
    record {
      sent_is = refl;
      counted_is = refl;
      steps_are = refl;
      heard_are = refl;
      reads = subst (λ (words : List ℕ). IsReading (heard_words words) c.args.key [] c.stage_behind.result) c.address_words-words.ensures c.stage_behind.ensures;
      bytes_are = refl;
    },
  ),
)
