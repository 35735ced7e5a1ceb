-- The windows of sectors, and the places where they are put.
use Rattle.std.proofs.Common.{◌≡◌, ℕ, suc, ◌+◌, ◌*◌, ◌≤◌, ◌<◌, Bool, true, false, List, [], ◌∷◌, ◌++◌, length, get_or, drop, refl, sym, ap, ◌∙◌, append_assoc, arith}
use Rattle.imagedisk.proofs.Common.{append-nil, drop_more, drop_all, mul-le-mul_right, last_bit, legal, content_size, laid_words, sector_place, window_word, window_words, cut_of, length-window, damaged_all, length-empty_window, ImdKind, Absent, Good, Deleted, Bad, BadDeleted, ImdSector, kept_size, window_of, sector_window}
use Rattle.track_model.proofs.Legals.{legal-cons, legal-nil}
use Rattle.imagedisk.specs.Made.{with_sectors}

-- one more byte was pushed, and the others go on from there
pub pushed : (words more bytes : List ℕ) (last : Bool) (i cells : ℕ) → i < length bytes → more ≡ words ++ cells ∷ [] → cells ∷ [] ≡ legal last (get_or bytes i 0 ∷ [])
    → more ++ legal (last_bit (get_or bytes i 0)) (drop (i + 1) bytes) ≡ words ++ legal last (drop i bytes)
pushed words more bytes last i cells lt e f =
    let byte = get_or bytes i 0 in
    let rest = drop (i + 1) bytes in
    ap (λ (ws : List ℕ). ws ++ legal (last_bit byte) rest) e
    ∙ append_assoc words (cells ∷ []) (legal (last_bit byte) rest)
    ∙ ap (λ (ws : List ℕ). words ++ (ws ++ legal (last_bit byte) rest)) f
    ∙ ap (λ (ws : List ℕ). words ++ ws) (sym (legal-cons last byte rest))
    ∙ ap (λ (row : List ℕ). words ++ legal last row) (sym (drop_more bytes i 0 lt))

pub pushed_all : (more start bytes : List ℕ) (last after : Bool) (i : ℕ) → length bytes ≤ i → more ++ legal after (drop i bytes) ≡ start ++ legal last bytes → more ≡ start ++ legal last bytes
pushed_all more start bytes last after i le h =
    sym (append-nil more) ∙ ap (λ (ws : List ℕ). more ++ ws) (sym (legal-nil after)) ∙ ap (λ (row : List ℕ). more ++ legal after row) (sym (drop_all i bytes le)) ∙ h

pub window_length : (n : ℕ) (kind : ImdKind) (content : List ℕ) → length content ≡ kept_size kind n → length (window_of n kind content) ≡ window_words n
window_length n Absent content len = length-empty_window n
window_length n Good content len = let size = length-window false content in omega (arith, size, len)
window_length n Deleted content len = let size = length-window true content in omega (arith, size, len)
window_length n Bad content len = let size = damaged_all false content in omega (arith, size, len)
window_length n BadDeleted content len = let size = damaged_all true content in omega (arith, size, len)

-- the first sectors of a layout take no more room than all of them together
pub laid_before : (count i n gap3 : ℕ) → i < count → laid_words i n gap3 + (62 + content_size n + gap3) ≤ laid_words count n gap3
laid_before count i n gap3 lt =
    let sector = 62 + content_size n + gap3 in
    let more : suc i * sector ≤ count * sector = mul-le-mul_right sector (omega arith) in
    omega (arith, more)

pub window_inside : (count i n gap3 words : ℕ) → i < count → laid_words count n gap3 ≤ words → window_word (sector_place n gap3 i) + window_words n ≤ words
window_inside count i n gap3 words lt fits = let before = laid_before count i n gap3 lt in omega (arith, before)

pub next_put : (n gap3 : ℕ) (sectors : List ImdSector) (i : ℕ) (d : ImdSector) (track : List ℕ) → i < length sectors
    → with_sectors n gap3 i (drop i sectors) track ≡ with_sectors n gap3 (i + 1) (drop (i + 1) sectors) (cut_of track (sector_place n gap3 i) (window_words n) (sector_window n (get_or sectors i d)))
unfolding with_sectors
next_put n gap3 sectors i d track lt =
    let put = cut_of track (sector_place n gap3 i) (window_words n) (sector_window n (get_or sectors i d)) in
    ap (λ (ss : List ImdSector). with_sectors n gap3 i ss track) (drop_more sectors i d lt) ∙ ap (λ (k : ℕ). with_sectors n gap3 k (drop (i + 1) sectors) put) (omega arith)

pub all_put : (n gap3 : ℕ) (sectors : List ImdSector) (i : ℕ) (track : List ℕ) → length sectors ≤ i → with_sectors n gap3 i (drop i sectors) track ≡ track
unfolding with_sectors
all_put n gap3 sectors i track le = rw (drop_all i sectors le) refl
