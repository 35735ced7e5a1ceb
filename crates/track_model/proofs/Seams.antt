-- Aligned tracks and where they have seams. No run has its lost clocks in seams, not even after one more write that
-- stopped.
use Rattle.std.proofs.Common.{◌≡◌, ℕ, ◌+◌, ◌*◌, ◌<◌, ◌≤◌, Bool, false, List, refl, sym, ap, subst, ◌∙◌, ◌⊎◌, lit<, arith, inl, inr}
use Rattle.track_model.proofs.Common.{cases_lt, cases_order, bit_at, Chrn, cell, byte_at, data_byte, IsAddressAt, window_word, window_words, IsSpaced}
use Rattle.track_model.proofs.Unique.{one_key}
use Rattle.track_model.proofs.Numbers.{bit_at-number}
use Rattle.track_model.proofs.Places.{cell-lt}
use Rattle.track_model.proofs.Recorded.{bit_behind, AreWords, AreSparse}

-- before a window's place stands a bit 0, and at the place of its mark byte the byte of a data field
pub record IsAlignedAt (track : List ℕ) (start : ℕ) : Type 0 where
  pub bit : bit_behind false track start ≡ false
  pub deleted : Bool
  pub byte : byte_at track (16 * (start + 15)) ≡ data_byte deleted

-- word k is the first behind the window of an address field, or the first behind what a write left there that stopped
pub record IsSeam (stops : ℕ → ℕ) (track : List ℕ) (k : ℕ) : Type 0 where
  pub place : ℕ
  pub key : Chrn
  pub address : IsAddressAt track place key
  pub word : (k ≡ window_word place + window_words key.n) ⊎ (k ≡ window_word place + stops place)

-- Aligned: a Spaced track of recorded words that has only these seams, and a byte 4E behind each window
pub record IsAligned (stops : ℕ → ℕ) (track : List ℕ) : Type 0 where
  pub spaced : IsSpaced track
  pub words : AreWords (IsSeam stops track) false track
  pub fields : (p : ℕ) (key : Chrn) → IsAddressAt track p key → IsAlignedAt track (window_word p)
  pub gaps : (p : ℕ) (key : Chrn) → IsAddressAt track p key → byte_at track (16 * (window_word p + window_words key.n)) ≡ 0x4E
  pub short : (p : ℕ) (key : Chrn) → IsAddressAt track p key → stops p ≤ window_words key.n

-- no write stopped
abbrev pub unstopped : ℕ → ℕ
unstopped p = 0

-- ---- if each of three rising offsets is one of three numbers, the last offset is the greatest of these numbers

abbrev IsOneOf : ℕ → ℕ → ℕ → ℕ → Type 0
IsOneOf all stop k offset = (offset ≡ all) ⊎ ((offset ≡ stop) ⊎ (offset ≡ k))

other_two : (all stop k offset : ℕ) → offset < all → IsOneOf all stop k offset → (offset ≡ stop) ⊎ (offset ≡ k)
other_two all stop k offset less (inl e) = absurd (omega (arith, e))
other_two all stop k offset less (inr rest) = rest

not_three : (stop k x y z : ℕ) → x < y → y < z → (x ≡ stop) ⊎ (x ≡ k) → (y ≡ stop) ⊎ (y ≡ k) → (z ≡ stop) ⊎ (z ≡ k) → ⊥
not_three stop k x y z low high (inl a) (inl b) c = omega (arith, a, b)
not_three stop k x y z low high (inl a) (inr b) (inl c) = omega (arith, a, c)
not_three stop k x y z low high (inl a) (inr b) (inr c) = omega (arith, b, c)
not_three stop k x y z low high (inr a) (inl b) (inl c) = omega (arith, b, c)
not_three stop k x y z low high (inr a) (inl b) (inr c) = omega (arith, a, c)
not_three stop k x y z low high (inr a) (inr b) c = omega (arith, a, b)

last_is_all : (all stop k x y z : ℕ) → x < y → y < z → z ≤ all → IsOneOf all stop k x → IsOneOf all stop k y → IsOneOf all stop k z → z ≡ all
last_is_all all stop k x y z low high most a b c =
    elim (cases_lt z all) [
      | inl less ↦
          absurd (not_three stop k x y z low high (other_two all stop k x (omega arith) a) (other_two all stop k y (omega arith) b) (other_two all stop k z less c))
      | inr all_of ↦ omega arith
    ]

-- the second bit of a byte 4E
gap_bit : (track : List ℕ) (p : ℕ) → byte_at track p ≡ 0x4E → cell track (p + 3) ≡ 1
gap_bit track p e =
    sym (bit_at-number (λ i. cell track (p + (2 * i + 1))) 8 6 (λ i h. cell-lt track (p + (2 * i + 1))) (lit< tt)) ∙ ap (λ b. bit_at b 6) e

-- a seam, or the word behind the first k of a window, by the window that it belongs to
record IsIn (stops : ℕ → ℕ) (track : List ℕ) (k i : ℕ) : Type 0 where
  pub place : ℕ
  pub key : Chrn
  pub address : IsAddressAt track place key
  pub offset : ℕ
  pub word : i ≡ window_word place + offset
  pub small : offset ≤ window_words key.n
  pub one : IsOneOf (window_words key.n) (stops place) k offset

module _ (stops : ℕ → ℕ) (track : List ℕ) (aligned : IsAligned stops track) (k : ℕ) where
  same_place : (i j : ℕ) (a : IsIn stops track k i) (b : IsIn stops track k j) → i < j → j ≤ i + 2 → a.place ≡ b.place
  same_place i j a b less near =
      let e = a.word in
      let f = b.word in
      let small = a.small in
      let little = b.small in
      elim (cases_order a.place b.place) [
        | inl same ↦ same
        | inr (inl before) ↦
            let far = aligned.spaced.spans.apart a.place b.place a.key b.key a.address b.address before in absurd (omega arith)
        | inr (inr behind) ↦
            let far = aligned.spaced.spans.apart b.place a.place b.key a.key b.address a.address behind in absurd (omega arith)
      ]

  -- the offset of one is an offset of the other's window
  one_there : (i j : ℕ) (a : IsIn stops track k i) (b : IsIn stops track k j) → a.place ≡ b.place → IsOneOf (window_words b.key.n) (stops b.place) k a.offset
  one_there i j a b same =
      let keys = one_key track b.place a.key b.key (subst (λ p. IsAddressAt track p a.key) same a.address) b.address in
      subst (λ (key : Chrn). IsOneOf (window_words key.n) (stops b.place) k a.offset) keys
      (subst (λ p. IsOneOf (window_words a.key.n) (stops p) k a.offset) same a.one)

  module _ (p : ℕ) (key : Chrn) (address : IsAddressAt track p key) (most : k ≤ window_words key.n) where
    in_window : (i : ℕ) → IsSeam stops track i ⊎ (i ≡ window_word p + k) → IsIn stops track k i
    in_window i (inl seam) =
        elim seam.word [
          | inl e ↦
              record {
                place = seam.place;
                key = seam.key;
                address = seam.address;
                offset = window_words seam.key.n;
                word = e;
                small = omega arith;
                one = inl refl;
              }
          | inr e ↦
              record {
                place = seam.place;
                key = seam.key;
                address = seam.address;
                offset = stops seam.place;
                word = e;
                small = aligned.short seam.place seam.key seam.address;
                one = inr (inl refl);
              }
        ]
    in_window i (inr e) =
        record { place = p; key = key; address = address; offset = k; word = e; small = most; one = inr (inr refl) }

    -- if three words one after the other are such, the third is the first behind a window, and a byte 4E
    pub sparse : (after : List ℕ)
        → ((q : ℕ) (other : Chrn) → IsAddressAt track q other → byte_at after (16 * (window_word q + window_words other.n)) ≡ 0x4E)
        → AreSparse (λ i. IsSeam stops track i ⊎ (i ≡ window_word p + k)) after
    sparse after gaps i one two three bit =
        let a = in_window i one in
        let b = in_window (i + 1) two in
        let c = in_window (i + 2) three in
        let first = same_place i (i + 1) a b (omega arith) (omega arith) in
        let second = same_place (i + 1) (i + 2) b c (omega arith) (omega arith) in
        let at_a = a.word in
        let at_b = b.word in
        let at_c = c.word in
        let f : window_word a.place ≡ window_word b.place = ap window_word first in
        let g : window_word b.place ≡ window_word c.place = ap window_word second in
        let last = last_is_all (window_words c.key.n) (stops c.place) k a.offset b.offset c.offset (omega arith) (omega arith) c.small
        (one_there i (i + 2) a c (first ∙ second))
        (one_there (i + 1) (i + 2) b c second)
        c.one in
        let there : 16 * (i + 2) + 3 ≡ 16 * (window_word c.place + window_words c.key.n) + 3 = omega arith in
        let set = ap (cell after) there ∙ gap_bit after (16 * (window_word c.place + window_words c.key.n)) (gaps c.place c.key c.address) in
        let clash : 0 ≡ 1 = sym bit ∙ set in omega (arith, clash)
