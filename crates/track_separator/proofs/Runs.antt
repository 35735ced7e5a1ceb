-- Runs of marks lie apart.
use Rattle.std.proofs.Common.{◌≡◌, ℕ, ◌+◌, ◌-◌, ◌*◌, ◌/◌, ◌%◌, ◌<◌, ◌≤◌, Bool, true, eqb, ltb, List, [], ◌∷◌, length, get_or, refl, sym, ap, subst, ◌∙◌, lit<, arith, inl, inr}
use Rattle.track_separator.proofs.Common.{agree_below_at, eq-eqb, ne_eqb, eqb-true, ltb-true, cases_lt, cases_eq, false≢true, bit_at, bit_at_cat_high, bit_at-zero, get_or_past, cell, cells_at, byte_at, IsRun, bit_at-number, bit_at-cells_at, cell-lt}

-- three marks in one number
part : ℕ → ℕ → Bool
part shift k = eqb (bit_at 0x448944894489 (shift + k)) (bit_at 0x4489 k)

mark_bits : (shift k : ℕ) → part shift k ≡ true → bit_at 0x4489 k ≡ bit_at 0x448944894489 (shift + k)
unfolding part
mark_bits shift k h = sym (eqb-true (bit_at 0x448944894489 (shift + k)) (bit_at 0x4489 k) h)

pub first_bits : (k : ℕ) → k < 16 → bit_at 0x4489 k ≡ bit_at 0x448944894489 (32 + k)
unfolding part
first_bits k h = mark_bits 32 k (agree_below_at (part 32) (λ _. true) 16 k refl h)

pub second_bits : (k : ℕ) → k < 16 → bit_at 0x4489 k ≡ bit_at 0x448944894489 (16 + k)
unfolding part
second_bits k h = mark_bits 16 k (agree_below_at (part 16) (λ _. true) 16 k refl h)

pub third_bits : (k : ℕ) → k < 16 → bit_at 0x4489 k ≡ bit_at 0x448944894489 (0 + k)
unfolding part
third_bits k h = mark_bits 0 k (agree_below_at (part 0) (λ _. true) 16 k refl h)

mark_cell : (track : List ℕ) (p i : ℕ) → cells_at track p ≡ 0x4489 → i < 16 → cell track (p + i) ≡ bit_at 0x4489 (15 - i)
mark_cell track p i e h = sym (bit_at-cells_at track p i h) ∙ ap (λ w. bit_at w (15 - i)) e

-- the cells of a run
pub run_cell : (track : List ℕ) (p m : ℕ) → IsRun track p → m < 48 → cell track (p + m) ≡ bit_at 0x448944894489 (47 - m)
run_cell track p m run h =
    elim (cases_lt m 16) [
      | inl one ↦
          let bit : 32 + (15 - m) ≡ 47 - m = omega arith in
          mark_cell track p m run.first one ∙ first_bits (15 - m) (omega arith) ∙ ap (bit_at 0x448944894489) bit
      | inr past ↦
          elim (cases_lt m 32) [
            | inl two ↦
                let place : p + m ≡ p + 16 + (m - 16) = omega arith in
                let bit : 16 + (15 - (m - 16)) ≡ 47 - m = omega arith in
                ap (cell track) place ∙ mark_cell track (p + 16) (m - 16) run.second (omega arith) ∙ second_bits (15 - (m - 16)) (omega arith) ∙ ap (bit_at 0x448944894489) bit
            | inr three ↦
                let place : p + m ≡ p + 32 + (m - 32) = omega arith in
                let bit : 0 + (15 - (m - 32)) ≡ 47 - m = omega arith in
                ap (cell track) place ∙ mark_cell track (p + 32) (m - 32) run.third (omega arith) ∙ third_bits (15 - (m - 32)) (omega arith) ∙ ap (bit_at 0x448944894489) bit
          ]
    ]

-- a cell in which a run and a run `d` cells further on differ: one of the first run, or of the byte behind that run
witness : ℕ → ℕ
witness d =
    get_or (0 ∷ 1 ∷ 3 ∷ 4 ∷ 8 ∷ 5 ∷ 7 ∷ 17 ∷ 8 ∷ 10 ∷ 11 ∷ 15 ∷ 12 ∷ 14 ∷ 17 ∷ 15 ∷ 51 ∷ 17 ∷ 19 ∷ 20 ∷ 24 ∷ 21 ∷ 23 ∷ 33 ∷ 24 ∷ 26 ∷ 27 ∷ 31 ∷ 28 ∷ 30 ∷ 33 ∷ 31 ∷ 51 ∷ 33 ∷ 35 ∷ 36 ∷ 40 ∷ 37 ∷ 39 ∷ 49 ∷ 40 ∷ 42 ∷ 43 ∷ 47 ∷ 44 ∷ 46 ∷ 49 ∷ 47 ∷ []) d 0

-- the cells of a run, and cells 1 behind it
abbrev known : ℕ → ℕ
known i = bit_at 0x448944894489F (51 - i)

-- the cells that are known: those of the run, and the highest two data cells of the byte
abbrev told : ℕ → ℕ
told i = bit_at 0xFFFFFFFFFFFF5 (51 - i)

agrees : ℕ → Bool
agrees d = eqb (bit_at 0x448944894489 (47 - (witness d - d))) (known (witness d))

is_short : ℕ → Bool
is_short d = ltb (witness d) 52

is_behind : ℕ → Bool
is_behind d = ltb d (witness d + 1)

is_within : ℕ → Bool
is_within d = ltb (witness d) (d + 48)

is_told : ℕ → Bool
is_told d = eqb (told (witness d)) 1

is_near : ℕ → Bool
is_near d = ltb (witness d) 48

short : (d : ℕ) → d < 48 → witness d < 52
unfolding is_short witness
short d h = ltb-true (witness d) 52 (agree_below_at is_short (λ _. true) 48 d refl h)

behind : (d : ℕ) → d < 48 → d < witness d + 1
unfolding is_behind witness
behind d h = ltb-true d (witness d + 1) (agree_below_at is_behind (λ _. true) 48 d refl h)

within : (d : ℕ) → d < 48 → witness d < d + 48
unfolding is_within witness
within d h = ltb-true (witness d) (d + 48) (agree_below_at is_within (λ _. true) 48 d refl h)

is_told_at : (d : ℕ) → d < 48 → told (witness d) ≡ 1
unfolding is_told witness
is_told_at d h = eqb-true (told (witness d)) 1 (agree_below_at is_told (λ _. true) 48 d refl h)

near : (d : ℕ) → d < 16 → witness d < 48
unfolding is_near witness
near d h = ltb-true (witness d) 48 (agree_below_at is_near (λ _. true) 16 d refl h)

differs : (d : ℕ) → d < 48 → eqb (bit_at 0x448944894489 (47 - (witness d - d))) (known (witness d)) ≡ eqb d 0
unfolding agrees witness
differs d h = agree_below_at agrees (λ k. eqb k 0) 48 d refl h

known_run : (i : ℕ) → i < 48 → known i ≡ bit_at 0x448944894489 (47 - i)
known_run i h =
    let index : 51 - i - 4 ≡ 47 - i = omega arith in
    bit_at_cat_high 0x448944894489 4 15 (51 - i) (lit< tt) (omega arith) ∙ ap (bit_at 0x448944894489) index

-- if the cell that tells the two runs apart is known, the second run isn't there
not_both : (track : List ℕ) (p d : ℕ) → (d ≡ 0 → ⊥) → d < 48 → cell track (p + witness d) ≡ known (witness d) → IsRun track (p + d) → ⊥
not_both track p d some h here run =
    let place : p + d + (witness d - d) ≡ p + witness d = omega (arith, behind d h) in
    let other = run_cell track (p + d) (witness d - d) run (omega (arith, within d h, behind d h)) in
    let same : bit_at 0x448944894489 (47 - (witness d - d)) ≡ known (witness d) = sym other ∙ ap (cell track) place ∙ here in
    false≢true (sym (differs d h ∙ ne_eqb d 0 some) ∙ eq-eqb _ _ same)

-- no two runs begin less than sixteen cells apart
pub runs_apart : (track : List ℕ) (p k : ℕ) → IsRun track p → IsRun track k → p < k → k < p + 16 → ⊥
runs_apart track p k first second low high =
    let d = k - p in
    let place : k ≡ p + d = omega arith in
    let small : d < 16 = omega arith in
    let close : witness d < 48 = near d small in
    not_both track p d (λ e. omega arith) (omega arith) (run_cell track p (witness d) first close ∙ sym (known_run (witness d) close)) (subst (IsRun track) place second)

-- the two highest bits of the byte at q are ones
pub record IsHigh (track : List ℕ) (q : ℕ) : Type 0 where
  pub highest : cell track (q + 1) ≡ 1
  pub next : cell track (q + 3) ≡ 1

pub byte_cell : (track : List ℕ) (q i : ℕ) → i < 8 → bit_at (byte_at track q) (7 - i) ≡ cell track (q + (2 * i + 1))
byte_cell track q i h =
    let back : 8 - 1 - (7 - i) ≡ i = omega arith in
    bit_at-number (λ j. cell track (q + (2 * j + 1))) 8 (7 - i) (λ k l. cell-lt track (q + (2 * k + 1))) (omega arith) ∙ ap (λ j. cell track (q + (2 * j + 1))) back

pub high_byte : (track : List ℕ) (q byte : ℕ) → byte_at track q ≡ byte → bit_at byte 7 ≡ 1 → bit_at byte 6 ≡ 1 → IsHigh track q
high_byte track q byte e seven six = record {
  highest = sym (byte_cell track q 0 (lit< tt)) ∙ ap (λ b. bit_at b 7) e ∙ seven;
  next = sym (byte_cell track q 1 (lit< tt)) ∙ ap (λ b. bit_at b 6) e ∙ six;
}

-- if such a byte stands behind a run, no other run begins inside that run
pub no_run_after : (track : List ℕ) (p k : ℕ) → IsRun track p → IsHigh track (p + 48) → p < k → k < p + 48 → IsRun track k → ⊥
no_run_after track p k first high low close second =
    let d = k - p in
    let place : k ≡ p + d = omega arith in
    let small : d < 48 = omega arith in
    let w = witness d in
    let here : cell track (p + w) ≡ known w =
    elim (cases_lt w 48) [
      | inl inside ↦ run_cell track p w first inside ∙ sym (known_run w inside)
      | inr past ↦ in_byte track p w high past (short d small) (is_told_at d small)
    ] in
    not_both track p d (λ e. omega arith) small here (subst (IsRun track) place second)
  where
    in_byte : (track : List ℕ) (p w : ℕ) → IsHigh track (p + 48) → 48 ≤ w → w < 52 → told w ≡ 1 → cell track (p + w) ≡ known w
    in_byte track p w high past short told_one =
        elim (cases_eq w 49) [
          | inl one ↦
              let place : p + w ≡ p + 48 + 1 = omega arith in ap (cell track) place ∙ high.highest ∙ sym (ap known one)
          | inr a ↦
              elim (cases_eq w 51) [
                | inl three ↦
                    let place : p + w ≡ p + 48 + 3 = omega arith in ap (cell track) place ∙ high.next ∙ sym (ap known three)
                | inr b ↦
                    elim (cases_eq w 48) [
                      | inl e ↦ let f : 0 ≡ 1 = sym (ap told e) ∙ told_one in absurd (omega (arith, f))
                      | inr d ↦ let e : w ≡ 50 = omega arith in let f : 0 ≡ 1 = sym (ap told e) ∙ told_one in absurd (omega (arith, f))
                    ]
              ]
        ]

pub address_high : (track : List ℕ) (p : ℕ) → byte_at track (p + 48) ≡ 0xFE → IsHigh track (p + 48)
address_high track p e = high_byte track (p + 48) 0xFE e refl refl

-- a run ends by a cell 1, so it stands inside the track
pub run_ends : (track : List ℕ) (p : ℕ) → IsRun track p → p + 48 ≤ 16 * length track
run_ends track p run =
    let one : cell track (p + 47) ≡ 1 = run_cell track p 47 run (lit< tt) in
    elim (cases_lt (p + 47) (16 * length track)) [
      | inl h ↦ omega arith
      | inr h ↦
          let past : length track ≤ (p + 47) / 16 = omega arith in
          let none : cell track (p + 47) ≡ 0 = ap (λ w. bit_at w (15 - (p + 47) % 16)) (get_or_past track ((p + 47) / 16) 0 past) ∙ bit_at-zero (15 - (p + 47) % 16) in
          absurd (omega arith)
    ]
