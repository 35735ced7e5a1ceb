-- Words of the proofs: how many attempts are sure.
use Rattle.std.proofs.Common.{ℕ, ◌-◌, min}

-- how many of the first `count` attempts surely go by track 0
abbrev pub sure_attempts : ℕ → ℕ → ℕ
sure_attempts tries count = count - min 1 (tries - 1)
