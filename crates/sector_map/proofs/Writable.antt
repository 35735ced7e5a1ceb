-- Terms of the proofs: disks that are unchanged, or changed at one key.
use Rattle.std.proofs.Common.{◌≡◌, ℕ, ◌+◌, ◌^◌, ◌<◌, ◌≤◌, List, length, slice_index, ◌⊎◌}
use Rattle.sector_map.proofs.Common.{Chrn, Disk, IsAddressAt, content_size, window_word, window_words, HasNoClearMark, HasClearAddress, Written, IsChange, change_at, IsSafeChange}

-- what is written is a content for its key: it consists of bytes, as many as the size code says
pub record FitsKey (written : Written) : Type 0 where
  pub size : length written.content ≡ content_size written.key.n
  pub bytes : (k : ℕ) → slice_index written.content k < 2 ^ 8

-- The disk after any number of writes behind the address field at `place`, on the key's cylinder. The disk is as it
-- was, or one safe change at this place leads to it.
abbrev pub IsSameOrChanged : Written → ℕ → Disk → Disk → Type 0
IsSameOrChanged written place disk after =
    (after ≡ disk)
    ⊎ ((words : ℕ) × IsChange written disk (change_at written.key.c place words) after
    × IsSafeChange written disk (change_at written.key.c place words))

-- A key can be written on a track. Only one address field has this key, it is Clear, and its window is inside the
-- track.
pub record IsWritable (track : List ℕ) (key : Chrn) : Type 0 where
  pub marked : HasNoClearMark track → ⊥
  pub clear : HasClearAddress track key
  pub one_place : (p q : ℕ) → IsAddressAt track p key → IsAddressAt track q key → p ≡ q
  pub inside : (p : ℕ) → IsAddressAt track p key → window_word p + window_words key.n ≤ length track
