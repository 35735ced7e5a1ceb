use Rattle.std.proofs.Common.{◌≡◌, ◌∙◌, ℕ, ◌<◌, ◌+◌, List, [], ◌∷◌, ◌++◌, length, get_or, take, map, Err, ap, sym, subst}
use Rattle.std.proofs.lemmas.List.{get_or-map, length-map, map_more}
use Rattle.std.proofs.lemmas.Result.{err_from_is_err_and}
use Rattle.std.specs.Prelude.{All}
use Rattle.std.specs.Str.{IsUtf8}
use Rattle.memory_files.specs.Words.{words_in}
use Rattle.memory_files.specs.declared.words.WordsError.TheVariants.{NotText}
use Rattle.memory_files.proofs.words.split_words.Goals as goal

-- if all words are UTF-8, each part is
utf8_at : {X : Type 0} (now : X → List ℕ) (items : List X) (texts : List (List ℕ)) → map now items ≡ texts → All IsUtf8 texts
    → (k : ℕ) (d : X) → k < length items → IsUtf8 (now (get_or items k d))
utf8_at now items texts same all k d below =
    let within : k < length texts = rw (sym same, length-map items now) below in
    let here : get_or texts k [] ≡ now (get_or items k d) = rw (sym same) (get_or-map now items k d [] below) in
    subst IsUtf8 here (all k [] within)

-- one more word
more : {X : Type 0} (now : X → List ℕ) (items : List X) (k : ℕ) (d : X) (words words' : List (List ℕ)) → k < length items
    → words ≡ map now (take k items) → words' ≡ words ++ (now (get_or items k d) ∷ []) → words' ≡ map now (take (k + 1) items)
more now items k d words words' below so_far last =
    last ∙ ap (λ (ws : List (List ℕ)). ws ++ (now (get_or items k d) ∷ [])) so_far ∙ sym (map_more now items k d below)

pub loop-part-preserved : goal.loop-part-preserved
loop-part-preserved c =
    more (λ part. part.now) c.deref-part-items.result.now c.loop-part.part-index _ _ _ c.loop-part-test.true c.loop-part.invariant
    c.in_ok-push_word.ensures.ok

pub returns-in_err-push_word-clause-not_text : goal.returns-in_err-push_word-clause-not_text
returns-in_err-push_word-clause-not_text c =
    let p = err_from_is_err_and c.from_residual-in_err-push_word.result c.from_residual-in_err-push_word.ensures.1 in
    rw (p.1, p.2) (λ is all.
    let same : c.in_err-push_word.field-0.0 ≡ NotText = cc in
    c.in_err-push_word.ensures.not_text (ap Err same)
    (utf8_at (λ part. part.now) c.deref-part-items.result.now (words_in c.args.text.now)
    (rw c.deref-part-items.ensures.value c.in_ok-parts.ensures) all c.loop-part.part-index _ c.loop-part-test.true))
