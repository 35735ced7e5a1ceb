-- The cells of one byte, pushed onto words.
use Rattle.std.proofs.Common.{◌≡◌, ℕ, ◌+◌, ◌/◌, ◌%◌, ◌^◌, ◌<◌, ◌≤◌, Bool, true, false, List, [], ◌∷◌, ◌++◌, length, get_or, take, sym, ap, ◌∙◌, append_assoc, arith}
use Rattle.std.proofs.Math.ListN.{set}
use Rattle.sector_map.proofs.Common.{w16, to_be_bytes, append-nil, take_all, take_more_set, take-put_mid, last_bit, legal, check_bytes}
use borrow.Rule.Slice.PartMut.{put_mid}
use Rattle.track_model.proofs.Legals.{legal-cons, legal-nil}

-- words that one byte was pushed onto, and the bytes that follow
pub pushed : (words more : List ℕ) (last : Bool) (byte cells : ℕ) (rest : List ℕ) → more ≡ words ++ cells ∷ [] → cells ∷ [] ≡ legal last (byte ∷ []) → more ++ legal (last_bit byte) rest ≡ words ++ legal last (byte ∷ rest)
pushed words more last byte cells rest e f =
    ap (λ ws. ws ++ legal (last_bit byte) rest) e
    ∙ append_assoc words (cells ∷ []) (legal (last_bit byte) rest)
    ∙ ap (λ ws. words ++ (ws ++ legal (last_bit byte) rest)) f
    ∙ ap (λ ws. words ++ ws) (sym (legal-cons last byte rest))

-- words that all bytes were pushed onto
pub pushed_all : (words more bytes : List ℕ) (last after : Bool) → more ++ legal after [] ≡ words ++ legal last (bytes ++ []) → more ≡ words ++ legal last bytes
pushed_all words more bytes last after h =
    sym (append-nil more)
    ∙ ap (λ ws. more ++ ws) (sym (legal-nil after))
    ∙ h
    ∙ ap (λ row. words ++ legal last row) (append-nil bytes)

-- a mark byte, a content and a CRC, pushed one after the other
pub pushed_field : (start marked filled whole : List ℕ) (first second third : Bool) (mark : ℕ) (content row : List ℕ) → ((rest : List ℕ) → marked ++ legal first rest ≡ start ++ legal true (mark ∷ rest)) → ((rest : List ℕ) → filled ++ legal second rest ≡ marked ++ legal first (content ++ rest)) → ((rest : List ℕ) → whole ++ legal third rest ≡ filled ++ legal second (row ++ rest)) → whole ≡ start ++ legal true ((mark ∷ content) ++ row)
pushed_field start marked filled whole first second third mark content row a b c =
    pushed_all filled whole row second third (c []) ∙ b row ∙ a (content ++ row)

-- a CRC of sixteen bits as its bytes are written
pub check_row : (row : List ℕ) (check : ℕ) → check < 2 ^ 16 → row ≡ to_be_bytes w16 check → row ≡ check_bytes check
check_row row check fits e =
    let high : check / 256 % 256 ≡ check / 256 = omega arith in
    e ∙ ap (λ h. h ∷ check % 256 ∷ []) high

pub check_ends : (row : List ℕ) (check : ℕ) → check < 2 ^ 16 → row ≡ to_be_bytes w16 check → get_or row 0 0 ∷ get_or row 1 0 ∷ [] ≡ check_bytes check
check_ends row check fits e = ap (λ r. get_or r 0 0 ∷ get_or r 1 0 ∷ []) (check_row row check fits e)

-- one more word of a list was filled
pub filled_more : (words : List ℕ) (start i word : ℕ) → start + i < length words → take (start + (i + 1)) (set words (start + i) word) ≡ take (start + i) words ++ word ∷ []
filled_more words start i word h =
    let next : start + (i + 1) ≡ start + i + 1 = omega arith in
    ap (λ n. take n (set words (start + i) word)) next ∙ take_more_set words (start + i) word h

-- the sync from the first word on, and then the marks, were filled in
pub begun : (filled words bytes marks : List ℕ) (after : Bool) → 12 ≤ length filled → length marks ≡ 3 → take 12 filled ++ legal after [] ≡ take 0 words ++ legal false (bytes ++ []) → take 15 (put_mid 12 3 filled marks) ≡ legal false bytes ++ marks
begun filled words bytes marks after long three h =
    take-put_mid 12 3 filled marks 15 (omega arith) long ∙ ap (λ row. row ++ marks) (pushed_all [] (take 12 filled) bytes false after h)

-- a list that is filled up to its end
pub filled_all : (words filled : List ℕ) (n : ℕ) → length words ≡ n → take n words ≡ filled → words ≡ filled
filled_all words filled n long h = sym (take_all n words (omega arith)) ∙ h
