use Rattle.std.proofs.Common.{ℕ, ◌<◌, ◌≤◌, ◌^◌, lit<, arith}
use Rattle.track_model.proofs.Common.{pow-le-pow_right, content_size}

-- the largest sector has 8,192 bytes
pub content_size_bound : (n : ℕ) → n ≤ 6 → content_size n ≤ 8192
content_size_bound n h =
    let positive : 0 < 2 = lit< tt in
    let e : 2 ^ n ≤ 2 ^ 6 = pow-le-pow_right positive h in omega arith

-- and the smallest 256
pub content_size_least : (n : ℕ) → 1 ≤ n → 256 ≤ content_size n
content_size_least n h =
    let positive : 0 < 2 = lit< tt in
    let e : 2 ^ 1 ≤ 2 ^ n = pow-le-pow_right positive h in omega arith
