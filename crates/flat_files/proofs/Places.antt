-- The places of sectors in a file.
use Rattle.std.proofs.Common.{◌+◌, ◌*◌, ◌<◌, ◌≤◌, ℕ, suc, arith}
use Rattle.std.proofs.lemmas.Nat.{mul-le}

pub place_inside : (tracks track sectors i size : ℕ) → track < tracks → i < sectors
    → (track * sectors + i) * size + size ≤ tracks * sectors * size
place_inside tracks track sectors i size before there =
    let rows : suc track * sectors ≤ tracks * sectors = mul-le (suc track) sectors tracks sectors (omega arith) (omega arith) in
    let within : suc (track * sectors + i) ≤ tracks * sectors = omega (arith, rows, there) in
    let bytes : suc (track * sectors + i) * size ≤ tracks * sectors * size = mul-le (suc (track * sectors + i)) size (tracks * sectors) size within (omega arith) in
    omega (arith, bytes)
