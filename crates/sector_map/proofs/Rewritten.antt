-- Several writes of the same content, one after the other.
use Rattle.std.proofs.Common.{◌≡◌, ℕ, ◌⊎◌, max, sym, subst, inl, inr}
use Rattle.sector_map.proofs.Common.{Disk, IsDisk, track_of, IsAddressAt, IsRegular, IsTidy, IsRegularDisk, Change, Written, IsChange, KeepsTracks, KeepsOtherKeys, KeepsSectors, IsWholeChange, HasWritten, change_at}
use Rattle.sector_map.proofs.Writable.{FitsKey, IsSameOrChanged}
use Rattle.sector_map.proofs.KeptTracks.{keeps_itself}
use Rattle.sector_map.proofs.KeptKeys.{other_keys_same}
use Rattle.sector_map.proofs.Changed.{change_keeps_tracks, change_keeps_address, change_keeps_keys, change_keeps_sectors, change_cylinder, change_is_written}
use Rattle.sector_map.proofs.Joined.{joined_safe, join_on_track}

-- a disk keeps its own sectors, compared with itself
sectors_itself : (written : Written) (disk : Disk) → IsRegularDisk disk → KeepsSectors disk written.key disk
sectors_itself written disk regular = record {
  regular = regular;
  tracks = λ c h has. other_keys_same (track_of disk c h) written.key;
  looked = λ other look differs. (λ on. on, λ on. on);
  entries = λ entry differs. (λ on. on, λ on. on);
}

module _ (written : Written) (place : ℕ) (disk after : Disk) where
  -- the other tracks stay
  pub rewritten_keeps_tracks : IsDisk disk → IsSameOrChanged written place disk after → KeepsTracks disk written.key.c written.key.h after
  rewritten_keeps_tracks valid (inl same) = subst (KeepsTracks disk written.key.c written.key.h) (sym same) (keeps_itself disk written.key.c written.key.h valid)
  rewritten_keeps_tracks valid (inr (words, is, safe)) = change_keeps_tracks written disk (change_at written.key.c place words) after is

  -- the address field stays
  pub rewritten_keeps_address : IsAddressAt (track_of disk written.key.c written.key.h) place written.key → IsSameOrChanged written place disk after → IsAddressAt (track_of after written.key.c written.key.h) place written.key
  rewritten_keeps_address here (inl same) = subst (λ d. IsAddressAt (track_of d written.key.c written.key.h) place written.key) (sym same) here
  rewritten_keeps_address here (inr (words, is, safe)) = change_keeps_address written disk (change_at written.key.c place words) after is

  -- the other sectors of a regular track stay
  pub rewritten_keeps_keys : (c h : ℕ) → IsRegular (track_of disk written.key.c written.key.h) c h → FitsKey written → IsSameOrChanged written place disk after → KeepsOtherKeys (track_of disk written.key.c written.key.h) written.key (track_of after written.key.c written.key.h)
  rewritten_keeps_keys c h regular fits (inl same) =
      subst (λ d. KeepsOtherKeys (track_of disk written.key.c written.key.h) written.key (track_of d written.key.c written.key.h)) (sym same)
      (other_keys_same (track_of disk written.key.c written.key.h) written.key)
  rewritten_keeps_keys c h regular fits (inr (words, is, safe)) =
      change_keeps_keys written disk (change_at written.key.c place words) after is c h regular fits safe

  -- the other sectors of a regular disk stay
  pub rewritten_keeps_sectors : IsRegularDisk disk → FitsKey written → IsSameOrChanged written place disk after → KeepsSectors disk written.key after
  rewritten_keeps_sectors regular fits (inl same) = subst (KeepsSectors disk written.key) (sym same) (sectors_itself written disk regular)
  rewritten_keeps_sectors regular fits (inr (words, is, safe)) =
      change_keeps_sectors written disk (change_at written.key.c place words) after is regular fits safe

-- a change with its parts replaced by equal ones
same_change : (written : Written) (disk : Disk) (change : Change) (c p : ℕ) (after : Disk) → change.cylinder ≡ c → change.place ≡ p → IsChange written disk change after → IsChange written disk (change_at c p change.words) after
same_change written disk change c p after e f is =
    subst (λ q. IsChange written disk (change_at c q change.words) after) f
    (subst (λ b. IsChange written disk (change_at b change.place change.words) after) e (record { track = is.track; address = is.address; cuttable = is.cuttable; cut = is.cut }))

-- one more write on the key's cylinder: a regular track of the first disk has only one address field of the key
pub rewritten_more : (written : Written) (place : ℕ) (disk middle : Disk) (change : Change) (after : Disk) (c h : ℕ)
    → IsRegular (track_of disk written.key.c written.key.h) c h → IsAddressAt (track_of disk written.key.c written.key.h) place written.key → FitsKey written
    → IsTidy (track_of disk written.key.c written.key.h) place written.deleted written.content ⊎ IsWholeChange written change
    → IsSameOrChanged written place disk middle → change.cylinder ≡ written.key.c → IsChange written middle change after
    → IsSameOrChanged written place disk after
rewritten_more written place disk middle change after c h regular here fits safe (inl same) cylinder is =
    let key = written.key in
    let first : IsChange written disk change after = subst (λ d. IsChange written d change after) same is in
    let address : IsAddressAt (track_of disk key.c key.h) change.place key = subst (λ b. IsAddressAt (track_of disk b key.h) change.place key) cylinder first.address in
    let at : change.place ≡ place = regular.keys.distinct change.place place key address here in
    inr (change.words, same_change written disk change key.c place after cylinder at first, safe)
rewritten_more written place disk middle change after c h regular here fits safe (inr (words, first, before)) cylinder is =
    let one = change_at written.key.c place words in
    inr (
      max words change.words,
      join_on_track written disk one middle change after first is fits before c h regular cylinder,
      joined_safe written disk one middle change after is before,
    )

-- on a regular disk each change is on the key's cylinder
pub rewritten_cylinder : (written : Written) (place : ℕ) (disk middle : Disk) (change : Change) (after : Disk)
    → IsRegularDisk disk → FitsKey written → IsSameOrChanged written place disk middle → IsChange written middle change after
    → change.cylinder ≡ written.key.c
rewritten_cylinder written place disk middle change after regular fits so_far is =
    let still = (rewritten_keeps_sectors written place disk middle regular fits so_far).regular in
    sym (change_cylinder written middle change after is still)

-- after a write of the whole window, what was written is there, and nothing else under its key
pub rewritten_whole : (written : Written) (place : ℕ) (disk middle : Disk) (change : Change) (after : Disk) (c h : ℕ)
    → IsRegular (track_of disk written.key.c written.key.h) c h → IsAddressAt (track_of disk written.key.c written.key.h) place written.key → FitsKey written
    → IsSameOrChanged written place disk middle → change.cylinder ≡ written.key.c → IsChange written middle change after
    → IsWholeChange written change → HasWritten written place (track_of after written.key.c written.key.h)
rewritten_whole written place disk middle change after c h regular here fits so_far cylinder is whole =
    let key = written.key in
    let still = (rewritten_keeps_keys written place disk middle c h regular fits so_far).regular c h regular in
    let there : IsRegular (track_of middle change.cylinder key.h) c h = subst (λ b. IsRegular (track_of middle b key.h) c h) (sym cylinder) still in
    let done : HasWritten written change.place (track_of after change.cylinder key.h) = change_is_written written middle change after is c h there fits whole in
    let later : IsAddressAt (track_of middle key.c key.h) change.place key = subst (λ b. IsAddressAt (track_of middle b key.h) change.place key) cylinder is.address in
    let at : change.place ≡ place = still.keys.distinct change.place place key later (rewritten_keeps_address written place disk middle here so_far) in
    subst (λ q. HasWritten written q (track_of after key.c key.h)) at (subst (λ b. HasWritten written change.place (track_of after b key.h)) cylinder done)
