-- What was read is what was handed in.
use Rattle.std.proofs.Common.{◌≡◌, [], ◌∷◌, rules, map}
use Rattle.std.proofs.lemmas.Result.{IfOk-weaker}
use Rattle.floppy_words.proofs.PlaceLemmas.{behind, two_values, is_there, is_word}
use Rattle.floppy_words.proofs.places.two_places.Goals as goal

pub two_named-requires-clause-first : goal.two_named-requires-clause-first
two_named-requires-clause-first c =
    let words_are : map (λ s. s.now) c.as_slice.result.now ≡ behind c.args.verb.now (c.args.first.now ∷ c.args.second.now ∷ []) = search rules in
    is_there _ _ (two_values _ _ _ _ _ _ c.in_ok-two_command.ensures words_are c.in_ok-matches.ensures).0

pub two_named-requires-clause-second : goal.two_named-requires-clause-second
two_named-requires-clause-second c =
    let words_are : map (λ s. s.now) c.as_slice.result.now ≡ behind c.args.verb.now (c.args.first.now ∷ c.args.second.now ∷ []) = search rules in
    is_there _ _ (two_values _ _ _ _ _ _ c.in_ok-two_command.ensures words_are c.in_ok-matches.ensures).1

pub returns : goal.returns
returns c =
    let words_are : map (λ s. s.now) c.as_slice.result.now ≡ behind c.args.verb.now (c.args.first.now ∷ c.args.second.now ∷ []) = search rules in
    let values = two_values _ _ _ _ _ _ c.in_ok-two_command.ensures words_are c.in_ok-matches.ensures in
    IfOk-weaker c.two_named.result _ _ (λ read is. (is_word _ _ _ values.0 is.0, is_word _ _ _ values.1 is.1)) c.two_named.ensures
