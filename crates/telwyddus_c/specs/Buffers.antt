-- Bytes in buffers of C.
use Rattle.std.specs.Prelude.{◌≡◌, ◌<◌, ℕ, ◌==◌, List, length, take, drop, MatchBool}

-- a buffer then begins with these bytes, and its rest stays
pub record BeginsWith (bytes old new : List ℕ) : Type 0 where
  pub begins : take (length bytes) new ≡ bytes
  pub rest : drop (length bytes) new ≡ drop (length bytes) old

-- bytes are written to a buffer. By the code of the call:
-- - 0: the bytes are written, and their number is reported;
-- - 10: the buffer is too short. It stays as it is, and the number is reported;
-- - any other code says `other`.
abbrev pub WritesOr : Type 0 → List ℕ → ℕ → List ℕ → List ℕ → (told : ℕ) → Type 0
WritesOr other bytes code old new told =
    MatchBool (code == 0) ((told ≡ length bytes) × BeginsWith bytes old new)
    (MatchBool (code == 10) ((told ≡ length bytes) × (length old < told) × (new ≡ old)) other)

-- bytes are written to a buffer, and the call answers no other code than these two
abbrev pub WritesBytes : List ℕ → ℕ → List ℕ → List ℕ → (told : ℕ) → Type 0
WritesBytes bytes code old new told = WritesOr ⊥ bytes code old new told
