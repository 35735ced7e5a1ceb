-- The bytes after a header, as the words that they spell and perhaps the first half of one more word.
use Rattle.std.proofs.Common.{◌≡◌, ℕ, ◌+◌, ◌*◌, ◌≤◌, true, false, List, ◌++◌, length, refl, sym, ap, subst, ◌∙◌, arith, Option, None, Some, length-append}
use Rattle.std.specs.Prelude.{option_to_list, is_some}
use Rattle.raw_image.proofs.Common.{words_of, bytes_of, Disk, IsDisk, Header, word_count, disk_of, whole_length, append-nil}
use Rattle.raw_image.proofs.Pairs.{IsWords, length-bytes_of, words_again}

pub length_body : (words : List ℕ) (high : Option ℕ) → length (bytes_of words ++ option_to_list high) ≡ 2 * length words + length (option_to_list high)
length_body words high = omega (arith, length-append (bytes_of words) (option_to_list high), length-bytes_of words)

pub length_some : (o : Option ℕ) → is_some o ≡ true → length (option_to_list o) ≡ 1
length_some None e = absurd cc
length_some (Some x) e = refl

pub length_none : (o : Option ℕ) → is_some o ≡ false → length (option_to_list o) ≡ 0
length_none None e = refl
length_none (Some x) e = absurd cc

-- if there are as many bytes as the words need, no half of a word is left
pub whole_words : (words : List ℕ) (high : Option ℕ) (count : ℕ) → 2 * count ≤ length (bytes_of words ++ option_to_list high) → 2 * length words + length (option_to_list high) ≤ 2 * count → (length words ≡ count) × (high ≡ None)
whole_words words None count least most = (omega (arith, length_body words None), refl)
whole_words words (Some x) count least most = absurd (omega (arith, length_body words (Some x)))

-- what the bytes spell if no half of a word is left
pub words_of_body : (words : List ℕ) (high : Option ℕ) → IsWords words → high ≡ None → words_of (bytes_of words ++ option_to_list high) ≡ words
words_of_body words high fits none = rw (none, append-nil (bytes_of words)) (words_again words fits)

-- the medium of a whole body
pub finished : (h : Header) (d : Disk) (words : List ℕ) (high : Option ℕ) → whole_length h ≤ 14 + length (bytes_of words ++ option_to_list high)
    → 2 * length words + length (option_to_list high) ≤ 2 * word_count h → IsDisk d → d ≡ disk_of h words
    → (14 + length (bytes_of words ++ option_to_list high) ≡ whole_length h) × (d ≡ disk_of h (words_of (bytes_of words ++ option_to_list high)))
finished h d words high long within valid value =
    let whole = whole_words words high (word_count h) (omega (arith, long)) within in
    let each : IsWords words = subst (λ (x : Disk). IsWords x.words) value valid.each in
    (omega (arith, length_body words high, long, within), value ∙ ap (disk_of h) (sym (words_of_body words high each whole.1)))
