-- Words to bytes and back.
use Rattle.std.proofs.Common.{◌≡◌, ℕ, suc, ◌+◌, ◌*◌, ◌/◌, ◌%◌, ◌^◌, ◌<◌, List, [], ◌∷◌, ◌++◌, length, map, drop, get_or, refl, subst, ap, ◌∙◌, append_assoc, arith, Option, Result, Ok, Err}
use Rattle.std.specs.Prelude.{OnOk, IfOk, option_to_list}
use Rattle.raw_image.proofs.Common.{w16, from_be_bytes, to_be_bytes, append-nil, words_of, bytes_of}
use Rattle.std.specs.Simd.{first_chunks}
use Rattle.std.proofs.lemmas.Grind.{flat_map-append}
use Rattle.flop_base.specs.declared.answers.NoMemory.{NoMemory}

-- each number is a byte
abbrev pub IsBytes : List ℕ → Type 0
IsBytes bytes = (k : ℕ) → get_or bytes k 0 < 256

-- each number is a word
abbrev pub IsWords : List ℕ → Type 0
IsWords words = (k : ℕ) → get_or words k 0 < 2 ^ 16

-- the first pairs of bytes, read as numbers, are the words
pub words_of-pairs : (bytes : List ℕ) → map (from_be_bytes w16) (first_chunks 2 (length bytes / 2) bytes) ≡ words_of bytes
words_of-pairs (high ∷ low ∷ rest) =
    let more : length (high ∷ low ∷ rest) / 2 ≡ suc (length rest / 2) = omega arith in
    let word : from_be_bytes w16 (high ∷ low ∷ []) ≡ 256 * high + low = omega arith in
    rw (more, word, words_of-pairs rest) refl
words_of-pairs _ = refl

pub length-bytes_of : (words : List ℕ) → length (bytes_of words) ≡ 2 * length words
length-bytes_of [] = refl
length-bytes_of (w ∷ ws) = omega (arith, length-bytes_of ws)

-- bytes are the bytes of their words, and then the odd byte at the end, if there is one
pub bytes_again : (bytes : List ℕ) → IsBytes bytes → bytes_of (words_of bytes) ++ drop (length bytes / 2 * 2) bytes ≡ bytes
bytes_again (high ∷ low ∷ rest) fits =
    let high_fits = fits 0 in
    let low_fits = fits 1 in
    let top : (256 * high + low) / 256 % 256 ≡ high = omega (arith, high_fits, low_fits) in
    let bottom : (256 * high + low) % 256 ≡ low = omega (arith, high_fits, low_fits) in
    let more : length (high ∷ low ∷ rest) / 2 * 2 ≡ suc (suc (length rest / 2 * 2)) = omega arith in
    let again = bytes_again rest (λ k. fits (suc (suc k))) in
    rw (top, bottom, more) (ap (λ (bs : List ℕ). high ∷ low ∷ bs) again)
bytes_again _ fits = refl

-- words are the words of their bytes
pub words_again : (words : List ℕ) → IsWords words → words_of (bytes_of words) ≡ words
words_again [] fits = refl
words_again (w ∷ ws) fits =
    let w_fits = fits 0 in
    let word : 256 * (w / 256 % 256) + w % 256 ≡ w = omega (arith, w_fits) in
    let again = words_again ws (λ k. fits (suc k)) in
    rw (word, again) refl

-- what a piece adds if no half of a word is left
pub piece_after_none : (r : Result (Option ℕ) NoMemory) (old new piece : List ℕ) → IsBytes piece
    → OnOk r (new ≡ old ++ words_of piece) → IfOk r (λ left. option_to_list left ≡ drop (length piece / 2 * 2) piece)
    → IfOk r (λ left. bytes_of new ++ option_to_list left ≡ (bytes_of old ++ []) ++ piece)
piece_after_none (Err e) old new piece fits words left = tt
piece_after_none (Ok x) old new piece fits words left =
    rw (words, left, flat_map-append (to_be_bytes w16) old (words_of piece), append-nil (bytes_of old), append_assoc (bytes_of old)) (ap (λ (bs : List ℕ). bytes_of old ++ bs) (bytes_again piece fits))

head_fits : (piece rest : List ℕ) (x : ℕ) → IsBytes piece → piece ≡ x ∷ rest → (x < 256) × IsBytes rest
head_fits piece rest x fits parts =
    let whole : IsBytes (x ∷ rest) = subst IsBytes parts fits in
    (whole 0, λ k. whole (suc k))

-- what a piece adds after the first half of a word
pub piece_after_some : (r : Result (Option ℕ) NoMemory) (old middle new : List ℕ) (first second word : ℕ) (piece rest : List ℕ)
    → first < 256 → IsBytes piece → piece ≡ second ∷ rest → word ≡ from_be_bytes w16 (first ∷ second ∷ []) → middle ≡ old ++ word ∷ []
    → OnOk r (new ≡ middle ++ words_of rest) → IfOk r (λ left. option_to_list left ≡ drop (length rest / 2 * 2) rest)
    → IfOk r (λ left. bytes_of new ++ option_to_list left ≡ (bytes_of old ++ first ∷ []) ++ piece)
piece_after_some (Err e) old middle new first second word piece rest f fits parts read pushed words left = tt
piece_after_some (Ok x) old middle new first second word piece rest f fits parts read pushed words left =
    let ends = head_fits piece rest second fits parts in
    let second_fits = ends.0 in
    let sum : word ≡ 256 * first + second = omega arith in
    let top : (256 * first + second) / 256 % 256 ≡ first = omega (arith, f, second_fits) in
    let bottom : (256 * first + second) % 256 ≡ second = omega (arith, f, second_fits) in
    let one : bytes_of middle ≡ bytes_of old ++ first ∷ second ∷ [] = rw (pushed, sum, flat_map-append (to_be_bytes w16) old ((256 * first + second) ∷ []), top, bottom) refl in
    let after = piece_after_none (Ok x) middle new rest ends.1 words left in
    after ∙ ap (λ (bs : List ℕ). bs ++ rest) (append-nil (bytes_of middle) ∙ one)
    ∙ rw (parts, append_assoc (bytes_of old) (first ∷ second ∷ []) rest, append_assoc (bytes_of old) (first ∷ []) (second ∷ rest)) refl
