-- The lines of a sink in memory, which keeps them as bytes and lengths.
use Rattle.std.proofs.Common.{arith, ◌≡◌, ℕ, ◌+◌, ◌≤◌, List, [], ◌∷◌, ◌++◌, map, length, take, drop, length-drop, refl, sym, ap, ◌∙◌, Some, append-nil}
use Rattle.std.specs.Prelude.{sum}
use Rattle.std.proofs.lemmas.List.{take-append-le, drop-append-le, take-append-drop, take_all, length-take-le, nil_from_length}
use Rattle.std.proofs.lemmas.List.Sums.{sum_by-cons}
use Rattle.flop_base.specs.Sink.{joined, GrowsByPart}
use Rattle.memory_files.specs.Lines.{lines_in}

-- if the lines are all of the bytes, the first line lies in the bytes
first_within : (bytes : List ℕ) (count : ℕ) (counts : List ℕ) → sum (count ∷ counts) ≡ length bytes → count ≤ length bytes
first_within bytes count counts whole = omega (arith, whole, sum_by-cons (λ x. x) count counts)

-- the other lines are then all of the rest
others_whole : (bytes : List ℕ) (count : ℕ) (counts : List ℕ) → sum (count ∷ counts) ≡ length bytes → sum counts ≡ length (drop count bytes)
others_whole bytes count counts whole = omega (arith, whole, sum_by-cons (λ x. x) count counts, length-drop count bytes)

-- one more line after the others
pub lines-more : (bytes line lengths : List ℕ) → sum lengths ≡ length bytes → lines_in (bytes ++ line) (lengths ++ length line ∷ []) ≡ lines_in bytes lengths ++ line ∷ []
lines-more bytes line [] whole =
    ap (λ l. take (length line) (l ++ line) ∷ []) (nil_from_length bytes (sym whole)) ∙ ap (λ l. l ∷ []) (take_all (length line) line (omega arith))
lines-more bytes line (count ∷ counts) whole =
    let within = first_within bytes count counts whole in
    ap (λ l. l ∷ lines_in (drop count (bytes ++ line)) (counts ++ length line ∷ [])) (take-append-le count bytes line within)
    ∙ ap (λ l. take count bytes ∷ lines_in l (counts ++ length line ∷ [])) (drop-append-le count bytes line within)
    ∙ ap (λ ls. take count bytes ∷ ls) (lines-more (drop count bytes) line counts (others_whole bytes count counts whole))

-- the lines, joined again, are the bytes
pub joined-lines : (bytes lengths : List ℕ) → sum lengths ≡ length bytes → joined (lines_in bytes lengths) ≡ bytes
joined-lines bytes [] whole = sym (nil_from_length bytes (sym whole))
joined-lines bytes (count ∷ counts) whole =
    ap (λ l. take count bytes ++ l) (joined-lines (drop count bytes) counts (others_whole bytes count counts whole)) ∙ take-append-drop count bytes

-- the lines have these lengths
pub lengths-lines : (bytes lengths : List ℕ) → sum lengths ≡ length bytes → map length (lines_in bytes lengths) ≡ lengths
lengths-lines bytes [] whole = refl
lengths-lines bytes (count ∷ counts) whole =
    ap (λ n. n ∷ map length (lines_in (drop count bytes) counts)) (length-take-le count bytes (first_within bytes count counts whole))
    ∙ ap (λ ns. count ∷ ns) (lengths-lines (drop count bytes) counts (others_whole bytes count counts whole))

-- if nothing was printed, this counts as a first part
pub nothing_grows : (told new lines : List (List ℕ)) → new ≡ told → GrowsByPart (Some told) lines (Some new)
nothing_grows told new lines same = ([], lines, [], refl, tt, ap (λ l. Some l) (same ∙ sym (append-nil told)))
