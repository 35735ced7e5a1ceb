-- What was read is what was handed in.
use Rattle.std.proofs.Common.{◌≡◌, [], ◌∷◌, rules, map}
use Rattle.floppy_words.proofs.PlaceLemmas.{behind, one_value, is_there, is_word}
use Rattle.std.proofs.lemmas.Result.{IfOk-weaker}
use Rattle.floppy_words.proofs.places.one_place.Goals as goal

pub named-requires : goal.named-requires
named-requires c =
    let words_are : map (λ s. s.now) c.as_slice.result.now ≡ behind c.args.verb.now (c.args.word.now ∷ []) = search rules in
    is_there _ _ (one_value _ _ _ _ _ c.in_ok-one_command.ensures words_are c.in_ok-matches.ensures)

pub returns : goal.returns
returns c =
    let words_are : map (λ s. s.now) c.as_slice.result.now ≡ behind c.args.verb.now (c.args.word.now ∷ []) = search rules in
    IfOk-weaker c.named.result _ _ (λ read. is_word _ read _ (one_value _ _ _ _ _ c.in_ok-one_command.ensures words_are c.in_ok-matches.ensures)) c.named.ensures
