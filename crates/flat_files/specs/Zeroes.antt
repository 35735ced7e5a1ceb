-- Bytes 00.
use Rattle.std.specs.Prelude.{ℕ, List, replicate}

-- this many bytes 00
unfoldable pub zeroes : ℕ → List ℕ
zeroes n = replicate n 0
