-- The tracks of a disk, and facts about regular ones.
use Rattle.std.proofs.Common.{◌≡◌, ℕ, ◌+◌, ◌*◌, ◌<◌, ◌≤◌, List, length, drop, arith}
use Rattle.sector_map.proofs.Common.{length-take, length-drop, mul-add-lt, Chrn, Disk, IsDisk, HasTrack, track_of, track_start, IsAddressAt, window_word, window_words, IsSpaced, IsRegular, IsRegularDisk, IsClearAddress}
use Rattle.raw_image.proofs.Tracks.{rows_apart}
use Rattle.track_model.proofs.Sectored.{plain_clear}
use Rattle.sector_map.proofs.Writable.{IsWritable}

-- a track of a disk has the disk's number of words
pub length-track_of : (disk : Disk) (c h : ℕ) → IsDisk disk → HasTrack disk c h → length (track_of disk c h) ≡ disk.words_per_track
length-track_of disk c h valid has =
    let w = disk.words_per_track in
    let row : c * disk.heads + h < disk.cylinders * disk.heads = omega (arith, mul-add-lt c disk.heads h disk.cylinders has.0 has.1) in
    let fits : track_start disk c h + w ≤ disk.cylinders * disk.heads * w = rows_apart (c * disk.heads + h) (disk.cylinders * disk.heads) w row in
    let count = valid.count in
    omega (arith, length-take w (drop (track_start disk c h) disk.words), length-drop (track_start disk c h) disk.words)

-- the sectors of a regular track keep their distance
pub spaced_from : (track : List ℕ) (c h : ℕ) → IsRegular track c h → IsSpaced track
spaced_from track c h regular = record {
  plain = regular.plain;
  coded = regular.keys.coded;
  spans = regular.spans;
  gaps = regular.gaps;
  ends = regular.ends;
}

-- each address field of a regular track is Clear
pub clear_address : (track : List ℕ) (c h p : ℕ) (key : Chrn) → IsRegular track c h → IsAddressAt track p key → IsClearAddress track key p
clear_address track c h p key regular address = record {
  clear = plain_clear track p regular.plain address.mark;
  address = address;
}

-- the whole window of each field is inside a regular track
pub window_inside : (track : List ℕ) (c h p : ℕ) (key : Chrn) → IsRegular track c h → IsAddressAt track p key → window_word p + window_words key.n ≤ length track
window_inside track c h p key regular address = let inside = regular.spans.inside p key address in omega arith

-- the keys of a regular track can be written
pub regular_writable : (track : List ℕ) (c h p : ℕ) (key : Chrn) → IsRegular track c h → IsAddressAt track p key → IsWritable track key
regular_writable track c h p key regular address = record {
  marked = λ none. none p (clear_address track c h p key regular address).clear;
  clear = (p, clear_address track c h p key regular address);
  one_place = λ q r. regular.keys.distinct q r key;
  inside = λ q. window_inside track c h q key regular;
}

-- the window is inside each track of a regular disk
pub window_in_disk : (disk : Disk) (c h p : ℕ) (key : Chrn) → IsDisk disk → IsRegularDisk disk → HasTrack disk c h → IsAddressAt (track_of disk c h) p key → window_word p + window_words key.n ≤ disk.words_per_track
window_in_disk disk c h p key valid regular has address =
    omega (arith, length-track_of disk c h valid has, window_inside (track_of disk c h) c h p key (regular c h has) address)

-- a key on a regular disk names the cylinder and the head that it is on
pub key_cylinder : (disk : Disk) (c h p : ℕ) (key : Chrn) → IsRegularDisk disk → HasTrack disk c h → IsAddressAt (track_of disk c h) p key → (key.c ≡ c) × (key.h ≡ h)
key_cylinder disk c h p key regular has address =
    ((regular c h has).keys.cylinder p key address, (regular c h has).keys.head p key address)

pub one_address : (disk : Disk) (c h p q : ℕ) (key : Chrn) → IsRegularDisk disk → HasTrack disk c h → IsAddressAt (track_of disk c h) p key → IsAddressAt (track_of disk c h) q key → p ≡ q
one_address disk c h p q key regular has a b = (regular c h has).keys.distinct p q key a b
