-- Many bytes that pass the channel in one call.
use Rattle.std.specs.Prelude.{◌≡◌, ◌≤◌, ◌<◌, ℕ, zero, suc, true, false, List, length, slice_index, Some, None}
use Rattle.telwyddus_c.specs.Common.{ChipState, TakesChip, GivesChip}

-- the channel takes so many bytes, one after the other, each when it is asked for. They are the first of a list
unfoldable pub TakesFirst : ℕ → List ℕ → ChipState → ChipState → Type 0
TakesFirst zero bytes old new = new ≡ old
TakesFirst (suc n) bytes old new =
    (between : ChipState) × TakesFirst n bytes old between × TakesChip between (Some (slice_index bytes n)) new

-- the bytes go to the beginning of a buffer, whose rest stays
pub record TakesSome (moved : ℕ) (before after : List ℕ) (old new : ChipState) : Type 0 where
  pub takes : TakesFirst moved after old new
  pub all : length after ≡ length before
  pub rest : (k : ℕ) → moved ≤ k → slice_index after k ≡ slice_index before k

-- so many bytes are taken, and no more: the buffer is full, or no further byte is asked for in this direction
pub record TakesBlock (moved : ℕ) (before after : List ℕ) (old new : ChipState) : Type 0 where
  pub within : moved ≤ length before
  pub between : ChipState
  pub some : TakesSome moved before after old between
  pub full : moved ≡ length before → new ≡ between
  pub short : moved < length before → TakesChip between None new

-- the channel gives so many bytes, one after the other, each when it is asked for. They are the first of a list
unfoldable pub GivesFirst : ℕ → List ℕ → ChipState → ChipState → Type 0
GivesFirst zero bytes old new = new ≡ old
GivesFirst (suc n) bytes old new =
    (between : ChipState) × GivesFirst n bytes old between × GivesChip (slice_index bytes n) between true new

-- so many bytes are given, and no more: no byte is left, or none is asked for in this direction
pub record GivesBlock (moved : ℕ) (bytes : List ℕ) (old new : ChipState) : Type 0 where
  pub within : moved ≤ length bytes
  pub between : ChipState
  pub some : GivesFirst moved bytes old between
  pub full : moved ≡ length bytes → new ≡ between
  pub short : moved < length bytes → GivesChip (slice_index bytes moved) between false new
