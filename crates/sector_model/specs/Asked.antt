-- What holds of a request that can be asked for.
use Rattle.std.specs.Prelude.{ℕ, ◌+◌, ◌≤◌}
use Rattle.sector_model.specs.Common.{Chrn, user_bytes, IsSizeCode, content_size}

-- a read or a write of this key, at this address
pub record IsAsked (bay : ℕ) (key : Chrn) (address : ℕ) : Type 0 where
  pub is_bay : bay ≤ 1
  pub cylinder : key.c ≤ 79
  pub head : key.h ≤ 1
  pub coded : IsSizeCode key.n
  pub within : address + content_size key.n ≤ user_bytes

-- a format of this track
pub record IsFormatAsked (bay c h gap3 : ℕ) : Type 0 where
  pub is_bay : bay ≤ 1
  pub cylinder : c ≤ 79
  pub head : h ≤ 1
  pub wide : 16 ≤ gap3
