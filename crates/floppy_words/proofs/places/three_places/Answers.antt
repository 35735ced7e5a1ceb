-- What was read is what was handed in.
use Rattle.std.proofs.Common.{◌≡◌, [], ◌∷◌, rules, map}
use Rattle.std.proofs.lemmas.Result.{IfOk-weaker}
use Rattle.floppy_words.proofs.PlaceLemmas.{behind, three_values, is_there, is_word}
use Rattle.floppy_words.proofs.places.three_places.Goals as goal

pub three_named-requires-clause-first : goal.three_named-requires-clause-first
three_named-requires-clause-first c =
    let words_are : map (λ s. s.now) c.as_slice.result.now ≡ behind c.args.verb.now (c.args.first.now ∷ c.args.second.now ∷ c.args.third.now ∷ []) = search rules in
    is_there _ _ (three_values _ _ _ _ _ _ _ c.in_ok-three_command.ensures words_are c.in_ok-matches.ensures).0

pub three_named-requires-clause-second : goal.three_named-requires-clause-second
three_named-requires-clause-second c =
    let words_are : map (λ s. s.now) c.as_slice.result.now ≡ behind c.args.verb.now (c.args.first.now ∷ c.args.second.now ∷ c.args.third.now ∷ []) = search rules in
    is_there _ _ (three_values _ _ _ _ _ _ _ c.in_ok-three_command.ensures words_are c.in_ok-matches.ensures).1

pub three_named-requires-clause-third : goal.three_named-requires-clause-third
three_named-requires-clause-third c =
    let words_are : map (λ s. s.now) c.as_slice.result.now ≡ behind c.args.verb.now (c.args.first.now ∷ c.args.second.now ∷ c.args.third.now ∷ []) = search rules in
    is_there _ _ (three_values _ _ _ _ _ _ _ c.in_ok-three_command.ensures words_are c.in_ok-matches.ensures).2

pub returns : goal.returns
returns c =
    let words_are : map (λ s. s.now) c.as_slice.result.now ≡ behind c.args.verb.now (c.args.first.now ∷ c.args.second.now ∷ c.args.third.now ∷ []) = search rules in
    let values = three_values _ _ _ _ _ _ _ c.in_ok-three_command.ensures words_are c.in_ok-matches.ensures in
    IfOk-weaker c.three_named.result _ _ (λ read is. (is_word _ _ _ values.0 is.0, is_word _ _ _ values.1 is.1, is_word _ _ _ values.2 is.2)) c.three_named.ensures
