-- A track of words 0000.
use Rattle.std.proofs.Common.{◌≡◌, ◌==◌, ℕ, suc, ◌/◌, true, List, [], ◌∷◌, length, replicate, get_or, sym, subst, refl, arith, inl, inr}
use Rattle.remaster.proofs.Common.{cases_lt, get_or-replicate, get_or_past, length-replicate, words_at, Chrn, Rate, IsAddressAt, IsRegular, Sector, AreSectors, IsFit, IsTrackRemaster}
use Rattle.std.proofs.lemmas.Bool.Decides.{nat_tests}
use Rattle.sector_map.specs.Met.{unrecorded}
use Rattle.track_model.specs.Marks.{IsAddressMark}

pub empty_when : (xs : List Sector) (count : ℕ) → count ≡ length xs → (count == 0) ≡ true → xs ≡ []
empty_when [] count e h = refl
empty_when (x ∷ rest) count e h = absurd (not_zero count (length rest) e h)
  where
    not_zero : (n m : ℕ) → n ≡ suc m → (n == 0) ≡ true → ⊥
    not_zero n m = grind (arith, nat_tests)

zero_at : (n k : ℕ) → get_or {A = ℕ} (replicate n 0) k 0 ≡ 0
zero_at n k =
    elim (cases_lt k n) [
      | inl h ↦ get_or-replicate n k 0 0 h
      | inr h ↦ let long : length {A = ℕ} (replicate n 0) ≡ n = length-replicate n 0 in get_or_past (replicate n 0) k 0 (omega arith)
    ]

no_mark : (n p : ℕ) → IsAddressMark (unrecorded n) p → ⊥
unfolding unrecorded
no_mark n p mark = mark.sound.no_zero p (omega arith) (omega arith) (zero_at n (p / 16))

no_address : (n p : ℕ) (key : Chrn) → IsAddressAt (unrecorded n) p key → ⊥
no_address n p key address = no_mark n p address.mark

blank_regular : (n c h : ℕ) → IsRegular (unrecorded n) c h
blank_regular n c h = record {
  plain = λ p mark. absurd (no_mark n p mark);
  keys = record {
    distinct = λ p q key a b. absurd (no_address n p key a);
    cylinder = λ p key a. absurd (no_address n p key a);
    head = λ p key a. absurd (no_address n p key a);
    coded = λ p key a. absurd (no_address n p key a);
  };
  spans = record {
    inside = λ p key a. absurd (no_address n p key a);
    apart = λ p q key other a b lower. absurd (no_address n p key a);
  };
  gaps = λ p q key a. absurd (no_address n p key a);
  ends = λ p q key a. absurd (no_address n p key a);
}

blank_sectors : (n : ℕ) → AreSectors (unrecorded n) []
blank_sectors n = record {
  looked = [];
  exact = record {
    fields = record {
      each = λ k d within. absurd (omega arith);
      ordered = λ i j d lower within. absurd (omega arith);
      all = λ field address. absurd (no_address n field.place field.key address);
    };
    looks = λ k d within. absurd (omega arith);
  };
  found = refl;
}

none_fit : (rate : Rate) (c h : ℕ) → IsFit rate c h []
none_fit rate c h = record {
  distinct = λ i j d lower within. absurd (omega arith);
  own = λ k d within. absurd (omega arith);
  one_size = λ i j d lower within. absurd (omega arith);
  few = omega arith;
  gap = λ k d within. absurd (omega arith);
}

pub blank_remaster : (rate : Rate) (c h : ℕ) (track after : List ℕ) (sectors : List Sector) → sectors ≡ [] → AreSectors track sectors → after ≡ replicate (words_at rate) 0 → IsTrackRemaster rate c h track after
unfolding unrecorded
blank_remaster rate c h track after sectors empty old is = record {
  sectors = [];
  old = subst (AreSectors track) empty old;
  fit = none_fit rate c h;
  relaid = is;
  regular = subst (λ t. IsRegular t c h) (sym is) (blank_regular (words_at rate) c h);
  new = subst (λ t. AreSectors t []) (sym is) (blank_sectors (words_at rate));
}
