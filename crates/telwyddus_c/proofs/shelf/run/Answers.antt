use Rattle.std.proofs.Common.{◌≡◌, ◌∙◌, ℕ, List, map, string_bytes, subst}
use Rattle.memory_files.specs.Shelves.{outside_in, RanPlain}
use Rattle.memory_files.specs.Words.{words_in}
use Rattle.telwyddus_c.proofs.shelf.run.Goals as goal

pub returns : goal.returns
returns c =
    let words : map string_bytes c.as_slice.result.now ≡ words_in c.args.text.now = rw c.as_slice.ensures.value c.in-Ok.ensures.ok in (
      c.in-Some.ended,
      c.from.ensures ∙ c.number.ensures,
      subst (λ (words : List (List ℕ)). RanPlain words (outside_in c.args.shelf.now) (outside_in c.run.new.self) c.in-Some.ended) words c.in-Some.ensures,
    )
