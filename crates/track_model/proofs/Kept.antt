-- Cuts of the three kinds of windows, on Parted and on Spaced tracks.
use Rattle.std.proofs.Common.{◌≡◌, ◌≢◌, ◌↔◌, ℕ, ◌+◌, ◌^◌, ◌<◌, ◌≤◌, ◌⊎◌, Bool, List, ◌∷◌, ◌++◌, length, get_or, max, refl, ap, lit<, arith, inl, inr}
use Rattle.track_model.proofs.Common.{bit_xor, xor_of_16, bit_at_xor, bit_at-lt, length-append, length-take, bit_at, Chrn, Look, Found, NoData, BadCrc, crc, data_byte, IsAddressMark, after_marks, IsAddressAt, content_at, LookAt, check_bytes, window, window_word, window_place, window_words, IsTidy, cut_of, damaged_window, empty_window, IsFieldFor, IsSpaced, KeepsOthers}
use Rattle.track_model.proofs.CrcSteps.{crc_below}
use Rattle.track_model.proofs.Splices.{longer_cut}
use Rattle.track_model.proofs.WindowMarks.{marked, length-marked}
use Rattle.track_model.proofs.Parted.{IsParted, spaced_parted}
use Rattle.track_model.proofs.Cuts.{IsOverlay, fits, whole_marks, kept_parted, kept_spaced, kept_regular, kept_address, old_address, kept_look, kept_content}
use Rattle.track_model.proofs.OwnField.{data_overlay}
use Rattle.track_model.proofs.OwnLooks.{own_content, own_found, own_bad}
use Rattle.track_model.proofs.EmptyWindow.{empty_overlay, length-empty_window, own_none}

-- a number with its last bit inverted is another
flipped : (check : ℕ) → bit_xor check 1 ≡ check → ⊥
flipped check e =
    let first = bit_at_xor check 1 0 in
    let one : bit_at 1 0 ≡ 1 = refl in
    let same = ap (λ w. bit_at w 0) e in
    omega (arith, first, one, same, bit_at-lt check 0)

pub damaged_all : (deleted : Bool) (content : List ℕ) → 18 + length content ≡ length (damaged_window deleted content)
damaged_all deleted content =
    let check = bit_xor (crc (after_marks (data_byte deleted ∷ content))) 1 in
    omega (arith, length-marked (data_byte deleted ∷ (content ++ check_bytes check)), length-append content (check_bytes check))

-- a write over the data of the address field at p kept all address fields, and the data of each other field
pub record KeepsFields (track after : List ℕ) (p : ℕ) : Type 0 where
  pub parted : IsParted after
  pub addresses : (q : ℕ) (key : Chrn) → IsAddressAt track q key ↔ IsAddressAt after q key
  pub looks : (q : ℕ) (key : Chrn) (look : Look) → q ≢ p → IsAddressAt track q key → LookAt track q key.n look ↔ LookAt after q key.n look
  pub contents : (q : ℕ) (key : Chrn) (deleted : Bool) (place : ℕ) → q ≢ p → IsAddressAt track q key
      → LookAt track q key.n (Found deleted place) → content_at track place key.n ≡ content_at after place key.n

-- what holds if no new address mark came up
module _ (track : List ℕ) (p : ℕ) (key : Chrn) (words : List ℕ) (k : ℕ) (here : IsAddressAt track p key) (over : IsOverlay words key.n) (most : k ≤ length words) (old : (m : ℕ) → IsAddressMark (cut_of track p k words) m → IsAddressMark track m) where
  fields_kept : IsParted track → KeepsFields track (cut_of track p k words) p
  fields_kept parted = record {
    parted = kept_parted track p key words k parted here over most old;
    addresses = λ q other. (kept_address track p key words k parted here over most old q other, old_address track p key words k parted here over most old q other);
    looks = λ q other look not field. kept_look track p key words k parted here over most q other look not field;
    contents = λ q other deleted place not field look. kept_content track p key words k parted here over most q other deleted place not field look;
  }

  kept : IsSpaced track → KeepsOthers track (cut_of track p k words) p
  kept spaced =
      let parted = spaced_parted track spaced in
      let fields = fields_kept parted in
      record {
        spaced = kept_spaced track p key words k parted here over most old spaced;
        regular = kept_regular track p key words k parted here over most old;
        addresses = fields.addresses;
        looks = fields.looks;
        contents = fields.contents;
      }

-- a whole window makes no new address mark
module _ (track : List ℕ) (p : ℕ) (key : Chrn) (words : List ℕ) (k : ℕ) (here : IsAddressAt track p key) (over : IsOverlay words key.n) (all : k ≡ length words) where
  pub whole_fields : IsParted track → KeepsFields track (cut_of track p k words) p
  whole_fields parted = fields_kept track p key words k here over (omega arith) (whole_marks track p key words k parted here over (omega arith) all) parted

  whole_kept : IsSpaced track → KeepsOthers track (cut_of track p k words) p
  whole_kept spaced = kept track p key words k here over (omega arith) (whole_marks track p key words k (spaced_parted track spaced) here over (omega arith) all) spaced

module _ (track : List ℕ) (p : ℕ) (key : Chrn) (deleted : Bool) (content : List ℕ) (k : ℕ) (field : IsFieldFor track p key content) where
  overlay : (check : ℕ) → IsOverlay (marked (data_byte deleted ∷ (content ++ check_bytes check))) key.n
  overlay check =
      let sized = field.size in
      data_overlay deleted (content ++ check_bytes check) key.n (omega (arith, length-append content (check_bytes check)))

  pub window_overlay : IsOverlay (window deleted content) key.n
  window_overlay = overlay _

  pub damaged_overlay : IsOverlay (damaged_window deleted content) key.n
  damaged_overlay = overlay _

  module _ (parted : IsParted track) (bytes : (j : ℕ) → get_or content j 0 < 2 ^ 8) where
    pub whole_found : k ≡ length (window deleted content) → LookAt (cut_of track p k (window deleted content)) p key.n (Found deleted (window_place p + 256))
    whole_found all =
        own_found track p key k deleted content (crc (after_marks (data_byte deleted ∷ content))) parted field.address field.size bytes (crc_below _) all refl

    pub whole_content : k ≡ length (window deleted content) → content ≡ content_at (cut_of track p k (window deleted content)) (window_place p + 256) key.n
    whole_content all =
        own_content track p key k deleted content (crc (after_marks (data_byte deleted ∷ content))) parted field.address field.size bytes (crc_below _) all (window_place p + 256) refl

    pub whole_bad : k ≡ length (damaged_window deleted content) → LookAt (cut_of track p k (damaged_window deleted content)) p key.n BadCrc
    whole_bad all =
        let check = crc (after_marks (data_byte deleted ∷ content)) in
        own_bad track p key k deleted content (bit_xor check 1) parted field.address field.size bytes
        (xor_of_16 check 1 (crc_below _) (lit< tt)) all (flipped check)

module _ (track : List ℕ) (p : ℕ) (key : Chrn) (deleted : Bool) (content : List ℕ) (k : ℕ) (spaced : IsSpaced track) (field : IsFieldFor track p key content) where
  pub cut_kept : k ≤ length (window deleted content) → (IsTidy track p deleted content ⊎ (k ≡ length (window deleted content))) → KeepsOthers track (cut_of track p k (window deleted content)) p
  cut_kept most (inl tidy) =
      let over = window_overlay track p key deleted content k field in
      let within = fits track p key (window deleted content) k (spaced_parted track spaced) field.address over most in
      let inside : window_word p + k ≤ length track = omega (arith, length-take k (window deleted content)) in
      kept track p key (window deleted content) k field.address over most
      (λ m mark. tidy k m (record { most = most; inside = inside }) mark)
      spaced
  cut_kept most (inr all) = whole_kept track p key (window deleted content) k field.address (window_overlay track p key deleted content k field) all spaced

  pub cuts_are_one : (j : ℕ) → j ≤ length (window deleted content) → k ≤ length (window deleted content) → cut_of (cut_of track p j (window deleted content)) p k (window deleted content) ≡ cut_of track p (max j k) (window deleted content)
  cuts_are_one j less most =
      let over = window_overlay track p key deleted content k field in
      let within = fits track p key (window deleted content) (max j k) (spaced_parted track spaced) field.address over (omega arith) in
      longer_cut track (window_word p) (window deleted content) j k less most (omega (arith, length-take (max j k) (window deleted content)))

  pub damaged_kept : k ≡ length (damaged_window deleted content) → KeepsOthers track (cut_of track p k (damaged_window deleted content)) p
  damaged_kept all = whole_kept track p key (damaged_window deleted content) k field.address (damaged_overlay track p key deleted content k field) all spaced

  module _ (bytes : (j : ℕ) → get_or content j 0 < 2 ^ 8) where
    pub cut_found : k ≡ length (window deleted content) → LookAt (cut_of track p k (window deleted content)) p key.n (Found deleted (window_place p + 256))
    cut_found = whole_found track p key deleted content k field (spaced_parted track spaced) bytes

    pub cut_content : k ≡ length (window deleted content) → content ≡ content_at (cut_of track p k (window deleted content)) (window_place p + 256) key.n
    cut_content = whole_content track p key deleted content k field (spaced_parted track spaced) bytes

    pub damaged_bad : k ≡ length (damaged_window deleted content) → LookAt (cut_of track p k (damaged_window deleted content)) p key.n BadCrc
    damaged_bad = whole_bad track p key deleted content k field (spaced_parted track spaced) bytes

module _ (track : List ℕ) (p : ℕ) (key : Chrn) (k : ℕ) (spaced : IsSpaced track) (here : IsAddressAt track p key) (all : k ≡ window_words key.n) where
  pub empty_kept : KeepsOthers track (cut_of track p k (empty_window key.n)) p
  empty_kept = whole_kept track p key (empty_window key.n) k here (empty_overlay key.n) (omega (arith, length-empty_window key.n)) spaced

  pub empty_none : LookAt (cut_of track p k (empty_window key.n)) p key.n NoData
  empty_none = own_none track p key k (spaced_parted track spaced) here all
