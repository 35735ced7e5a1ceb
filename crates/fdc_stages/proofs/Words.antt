-- The first of the words that are still to come.
use Rattle.std.proofs.Common.{◌≡◌, ℕ, suc, ◌-◌, ◌<◌, ◌≤◌, ◌^◌, Bool, true, false, List, [], ◌∷◌, ◌++◌, replicate, sym, ap, ◌∙◌, arith}
use Rattle.fdc_stages.proofs.Common.{legal, last_bit, after_marks, data_byte, check_bytes, words_of_field}
use Rattle.track_model.specs.Crc.{crc, crc_from}
use Rattle.track_model.proofs.CrcSteps.{crc_from_none}
use Rattle.track_model.proofs.Legals.{legal-cons}

-- the cells of a byte, and then the rest
pub byte_first : (last : Bool) (byte cells : ℕ) (rest : List ℕ) → cells ∷ [] ≡ legal last (byte ∷ []) → legal last (byte ∷ rest) ≡ cells ∷ legal (last_bit byte) rest
byte_first last byte cells rest is = legal-cons last byte rest ∙ ap (λ words. words ++ legal (last_bit byte) rest) (sym is)

-- a byte 00, with more of them after it
pub sync_first : (more cells : ℕ) (tail : List ℕ) → 1 ≤ more → cells ∷ [] ≡ legal false (0 ∷ []) → legal false (replicate (suc more) 0) ++ tail ≡ cells ∷ (legal false (replicate (suc (more - 1)) 0) ++ tail)
sync_first more cells tail several is =
    let same : more ≡ suc (more - 1) = omega arith in
    ap (λ words. words ++ tail) (byte_first false 0 cells (replicate more 0) is)
    ∙ ap (λ n. cells ∷ (legal false (replicate n 0) ++ tail)) same

-- a byte of the content, with more bytes of it after this one
pub content_first : (last : Bool) (check next byte cells : ℕ) (rest : List ℕ) → cells ∷ [] ≡ legal last (byte ∷ []) → ((bytes : List ℕ) → crc_from check (byte ∷ bytes) ≡ crc_from next bytes)
    → legal last ((byte ∷ rest) ++ check_bytes (crc_from check (byte ∷ rest))) ≡ cells ∷ legal (last_bit byte) (rest ++ check_bytes (crc_from next rest))
content_first last check next byte cells rest is goes_on =
    byte_first last byte cells (rest ++ check_bytes (crc_from check (byte ∷ rest))) is
    ∙ ap (λ value. cells ∷ legal (last_bit byte) (rest ++ check_bytes value)) (goes_on rest)

-- the last byte of the content
pub content_last : (last : Bool) (check next byte cells : ℕ) (rest : List ℕ) → rest ≡ [] → next < 2 ^ 16 → cells ∷ [] ≡ legal last (byte ∷ []) → ((bytes : List ℕ) → crc_from check (byte ∷ bytes) ≡ crc_from next bytes)
    → legal last ((byte ∷ rest) ++ check_bytes (crc_from check (byte ∷ rest))) ≡ cells ∷ legal (last_bit byte) (check_bytes next)
content_last last check next byte cells rest none fits is goes_on =
    content_first last check next byte cells rest is goes_on
    ∙ ap (λ bytes. cells ∷ legal (last_bit byte) (bytes ++ check_bytes (crc_from next bytes))) none
    ∙ ap (λ value. cells ∷ legal (last_bit byte) (check_bytes value)) (crc_from_none next fits)

-- the mark byte
pub mark_first : (deleted : Bool) (mark check cells : ℕ) (rest : List ℕ) → mark ≡ data_byte deleted → cells ∷ [] ≡ legal true (mark ∷ []) → ((bytes : List ℕ) → crc_from check bytes ≡ crc (0xA1 ∷ 0xA1 ∷ 0xA1 ∷ mark ∷ bytes))
    → words_of_field deleted rest ≡ cells ∷ legal (last_bit mark) (rest ++ check_bytes (crc_from check rest))
mark_first deleted mark check cells rest is coded goes_on =
    ap (λ byte. legal true ((byte ∷ rest) ++ check_bytes (crc (after_marks (byte ∷ rest))))) (sym is)
    ∙ byte_first true mark cells (rest ++ check_bytes (crc (after_marks (mark ∷ rest)))) coded
    ∙ ap (λ value. cells ∷ legal (last_bit mark) (rest ++ check_bytes value)) (sym (goes_on rest))
