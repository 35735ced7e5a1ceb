-- Sixteen cells out of two words.
use Rattle.std.proofs.Common.{◌≡◌, ℕ, ◌+◌, ◌-◌, ◌*◌, ◌/◌, ◌%◌, ◌^◌, ◌<◌, List, get_or, ap, ◌∙◌, arith}
use Rattle.track_model.proofs.Common.{bit_and, bit_or, and_mask, or_shifted, cells_at}
use Rattle.track_model.proofs.Places.{cells_at-pair}

pub cells_of_pair : (track : List ℕ) (p a b : ℕ) → a ≡ get_or track (p / 16) 0 → b ≡ get_or track (p / 16 + 1) 0 → a < 2 ^ 16 → b < 2 ^ 16 → bit_and (bit_or (a * 65536 % 4294967296) b / 2 ^ (16 - p % 16)) 65535 ≡ cells_at track p
cells_of_pair track p a b here next fits small =
    let whole : a * 65536 % 4294967296 ≡ a * 65536 = omega arith in
    let joined : bit_or (a * 65536 % 4294967296) b ≡ a * 2 ^ 16 + b = ap (λ h. bit_or h b) whole ∙ or_shifted a 16 b small in
    let last : get_or track (p / 16 + 1) 0 < 2 ^ 16 = omega arith in
    ap (λ v. bit_and (v / 2 ^ (16 - p % 16)) 65535) joined
    ∙ and_mask ((a * 2 ^ 16 + b) / 2 ^ (16 - p % 16)) 16
    ∙ ap (λ v. (v * 2 ^ 16 + b) / 2 ^ (16 - p % 16) % 2 ^ 16) here
    ∙ ap (λ v. (get_or track (p / 16) 0 * 2 ^ 16 + v) / 2 ^ (16 - p % 16) % 2 ^ 16) next
    ∙ cells_at-pair track p (p / 16) (p % 16) (omega arith) (omega arith) last
