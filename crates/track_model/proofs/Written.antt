-- How long written fields are.
use Rattle.std.proofs.Common.{◌≡◌, ℕ, ◌+◌, false, true, Bool, List, [], ◌∷◌, ◌++◌, length, replicate, arith, length-append}
use Rattle.track_model.proofs.Common.{legal, crc, data_byte, after_marks, sync_and_marks, check_bytes, written_field, window}
use Rattle.track_model.proofs.Legals.{length-legal}

pub length-sync_and_marks : length sync_and_marks ≡ 15
length-sync_and_marks =
    omega (arith, length-append (legal false (replicate 12 0)) (0x4489 ∷ 0x4489 ∷ 0x4489 ∷ []), length-legal false (replicate 12 0))

pub length-written_field : (bytes : List ℕ) → length (written_field bytes) ≡ length bytes + 17
length-written_field bytes =
    let check = check_bytes (crc (after_marks bytes)) in
    omega (arith, length-append sync_and_marks (legal true (bytes ++ check)), length-sync_and_marks, length-legal true (bytes ++ check), length-append bytes check)

pub length-window : (deleted : Bool) (content : List ℕ) → length (window deleted content) ≡ length content + 18
length-window deleted content = omega (arith, length-written_field (data_byte deleted ∷ content))
