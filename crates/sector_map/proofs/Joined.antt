-- Two changes joined into one, and changes of no words.
use Rattle.std.proofs.Common.{◌≡◌, ℕ, ◌+◌, ◌≤◌, List, ◌++◌, length, take, drop, max, sym, ap, subst, ◌∙◌, arith, inl, inr}
use Rattle.sector_map.proofs.Common.{take-append-drop, Disk, IsDisk, HasTrack, track_of, IsWithTrack, IsAddressAt, IsRegular, window_word, cut_of, IsCuttable, longer_cut, IsRegularDisk, Change, Written, window_of, IsChange, IsSafeChange, joined}
use Rattle.flop_base.specs.Lists.{with_items}
use Rattle.sector_map.proofs.Writable.{FitsKey}
use Rattle.sector_map.proofs.RegularTracks.{length-track_of, window_inside}
use Rattle.sector_map.proofs.KeptTracks.{with_itself, with_later}
use Rattle.sector_map.proofs.Changed.{length-cut, change_keeps_address, change_keeps_keys, change_keeps_sectors, change_cylinder}

-- ---- no words

none_cut : (track words : List ℕ) (p k : ℕ) → k ≡ 0 → cut_of track p k words ≡ track
unfolding with_items
none_cut track words p k none =
    ap (λ j. take (window_word p) track ++ (take j words ++ drop (window_word p + length (take j words)) track)) none
    ∙ ap (λ s. take (window_word p) track ++ drop s track) (omega arith)
    ∙ take-append-drop (window_word p) track

-- a change of no words leads from a disk to the same disk
pub change_of_none : (written : Written) (disk : Disk) (change : Change) → IsDisk disk → HasTrack disk change.cylinder written.key.h → IsAddressAt (track_of disk change.cylinder written.key.h) change.place written.key → window_word change.place ≤ disk.words_per_track → change.words ≡ 0 → IsChange written disk change disk
change_of_none written disk change valid has address inside none = record {
  track = has;
  address = address;
  cuttable = record { most = omega arith; inside = omega (arith, length-track_of disk change.cylinder written.key.h valid has) };
  cut = with_itself disk change.cylinder written.key.h _ valid
      (none_cut (track_of disk change.cylinder written.key.h) (window_of written) change.place change.words none);
}

-- on a regular track, the place of such a change is inside the track
pub change_of_none_regular : (written : Written) (disk : Disk) (change : Change) (c h : ℕ) → IsDisk disk → HasTrack disk change.cylinder written.key.h → IsRegular (track_of disk change.cylinder written.key.h) c h → IsAddressAt (track_of disk change.cylinder written.key.h) change.place written.key → change.words ≡ 0 → IsChange written disk change disk
change_of_none_regular written disk change c h valid has regular address none =
    let inside = window_inside (track_of disk change.cylinder written.key.h) c h change.place written.key regular address in
    let long = length-track_of disk change.cylinder written.key.h valid has in
    change_of_none written disk change valid has address (omega arith) none

-- ---- two changes

cut_twice : (track words : List ℕ) (p j k : ℕ) → IsCuttable track p j words → IsCuttable (cut_of track p j words) p k words → cut_of (cut_of track p j words) p k words ≡ cut_of track p (max j k) words
cut_twice track words p j k one two =
    let first = one.inside in
    let second = two.inside in
    longer_cut track (window_word p) words j k one.most two.most (omega (arith, length-cut track p j words one))

most_cuttable : (track words : List ℕ) (p j k : ℕ) → IsCuttable track p j words → IsCuttable (cut_of track p j words) p k words → IsCuttable track p (max j k) words
most_cuttable track words p j k one two =
    let few = one.most in
    let more = two.most in
    let first = one.inside in
    let second = two.inside in
    record { most = omega arith; inside = omega (arith, length-cut track p j words one) }

-- a change and a later one at the same address field are one change of the first disk: the longer of the two stands
pub changes_join : (written : Written) (disk : Disk) (one : Change) (middle : Disk) (two : Change) (after : Disk) → IsChange written disk one middle → IsChange written middle two after → two.cylinder ≡ one.cylinder → two.place ≡ one.place → IsChange written disk (joined one two) after
changes_join written disk one middle two after first second same_cylinder same_place =
    let h = written.key.h in
    let words = window_of written in
    let track = track_of disk one.cylinder h in
    let row = cut_of track one.place one.words words in
    let cuttable_there : IsCuttable (track_of middle one.cylinder h) one.place two.words words = subst (λ p. IsCuttable (track_of middle one.cylinder h) p two.words words) same_place (subst (λ c. IsCuttable (track_of middle c h) two.place two.words words) same_cylinder second.cuttable) in
    let cuttable : IsCuttable row one.place two.words words = subst (λ r. IsCuttable r one.place two.words words) first.cut.has cuttable_there in
    let cut_there : IsWithTrack middle one.cylinder h (cut_of (track_of middle one.cylinder h) one.place two.words words) after = subst (λ p. IsWithTrack middle one.cylinder h (cut_of (track_of middle one.cylinder h) p two.words words) after) same_place (subst (λ c. IsWithTrack middle c h (cut_of (track_of middle c h) two.place two.words words) after) same_cylinder second.cut) in
    let cut : IsWithTrack middle one.cylinder h (cut_of row one.place two.words words) after = subst (λ r. IsWithTrack middle one.cylinder h (cut_of r one.place two.words words) after) first.cut.has cut_there in
    record {
      track = first.track;
      address = first.address;
      cuttable = most_cuttable track words one.place one.words two.words first.cuttable cuttable;
      cut = subst (λ r. IsWithTrack disk one.cylinder h r after) (cut_twice track words one.place one.words two.words first.cuttable cuttable)
          (with_later disk middle after one.cylinder h row _ first.cut cut);
    }

-- if the first change is safe, so is the joined one
pub joined_safe : (written : Written) (disk : Disk) (one : Change) (middle : Disk) (two : Change) (after : Disk) → IsChange written middle two after → IsSafeChange written disk one → IsSafeChange written disk (joined one two)
joined_safe written disk one middle two after second (inl tidy) = inl tidy
joined_safe written disk one middle two after second (inr whole) = let few = second.cuttable.most in inr (omega arith)

module _ (written : Written) (disk : Disk) (one : Change) (middle : Disk) (two : Change) (after : Disk) (first : IsChange written disk one middle) (second : IsChange written middle two after) (fits : FitsKey written) (safe : IsSafeChange written disk one) where
  -- on a regular track a later change is at the same address field, since one address field alone has the key
  module _ (c h : ℕ) (regular : IsRegular (track_of disk one.cylinder written.key.h) c h) (same : two.cylinder ≡ one.cylinder) where
    pub same_place_again : two.place ≡ one.place
    same_place_again =
        let still = (change_keeps_keys written disk one middle first c h regular fits safe).regular c h regular in
        let later : IsAddressAt (track_of middle one.cylinder written.key.h) two.place written.key = subst (λ b. IsAddressAt (track_of middle b written.key.h) two.place written.key) same second.address in
        still.keys.distinct two.place one.place written.key later (change_keeps_address written disk one middle first)

    pub join_on_track : IsChange written disk (joined one two) after
    join_on_track = changes_join written disk one middle two after first second same same_place_again

  -- on a regular disk a later change is also on the same cylinder
  module _ (regular : IsRegularDisk disk) where
    pub same_cylinder_again : two.cylinder ≡ one.cylinder
    same_cylinder_again =
        let still = (change_keeps_sectors written disk one middle first regular fits safe).regular in
        sym (change_cylinder written middle two after second still) ∙ change_cylinder written disk one middle first regular

    pub join_on_disk : IsChange written disk (joined one two) after
    join_on_disk = join_on_track one.cylinder written.key.h (regular one.cylinder written.key.h first.track) same_cylinder_again
