-- When sectors are fit.
use Rattle.std.proofs.Common.{◌≡◌, ◌≢◌, ℕ, zero, suc, ◌+◌, ◌<◌, ◌≤◌, false, Option, Some, None, MatchOption, List, [], length, take, get_or, All, sym, ap, subst, ◌∙◌, arith, length-take}
use Rattle.remaster.proofs.Common.{AllPairs, take_more, take_all, get_or-take, get_or_default, gap_at, words_at, Chrn, Rate, Sector, sector_of, IsFit, HasSizeCode, MayShare, IsPlanned}
use Rattle.std.proofs.lemmas.List.Quantifiers.{all_pairs_push}
use Rattle.track_format.specs.Gaps.{Suits, wide_gap, IsLargestGap}

abbrev pub Distinct : List Sector → Type 0
Distinct sectors = AllPairs (λ (a b : Sector). a.key ≢ b.key) sectors

abbrev pub IsNew : List Sector → Chrn → Type 0
IsNew sectors key = All (λ (sector : Sector). sector.key ≢ key) sectors

pub distinct_more : (sectors : List Sector) (i : ℕ) (d : Sector) → i < length sectors → Distinct (take i sectors) → IsNew (take i sectors) (get_or sectors i d).key → Distinct (take (i + 1) sectors)
distinct_more sectors i d within so_far new =
    subst Distinct (sym (take_more sectors i d within))
    (all_pairs_push (λ (a b : Sector). a.key ≢ b.key) (take i sectors) (get_or sectors i d) so_far new)

pub distinct_new : (sectors : List Sector) (i : ℕ) (one : Sector) → i < length sectors → Distinct sectors → IsNew (take i sectors) (get_or sectors i one).key
distinct_new sectors i one within distinct = λ k d lt.
    let lower : k < i = omega (arith, length-take i sectors) in
    let there : get_or (take i sectors) k d ≡ get_or sectors k d = get_or-take i sectors k d lower in
    let same : get_or sectors i d ≡ get_or sectors i one = get_or_default sectors i d one within in
    λ e. distinct k i d lower within (ap (λ (s : Sector). s.key) (sym there) ∙ e ∙ ap (λ (s : Sector). s.key) (sym same))

pub distinct_all : (sectors : List Sector) (i : ℕ) → length sectors ≤ i → Distinct (take i sectors) → Distinct sectors
distinct_all sectors i past distinct = subst Distinct (take_all i sectors past) distinct

-- ---- fit

-- any sector, which stands for reads past the end of a list
abbrev pub blank_sector : Sector
blank_sector = sector_of (record { c = 0; h = 0; r = 0; n = 0 }) false []

module _ (rate : Rate) (c h n : ℕ) (sectors : List Sector) (some : 0 < length sectors) (first : (d : Sector) → HasSizeCode n (get_or sectors 0 d)) where
  same_size : IsFit rate c h sectors → All (HasSizeCode n) sectors
  same_size fit = by_place
    where
      by_place : (k : ℕ) (d : Sector) → k < length sectors → HasSizeCode n (get_or sectors k d)
      by_place zero d lt = first d
      by_place (suc k) d lt = sym (fit.one_size 0 (suc k) d (omega arith) lt) ∙ first d

  pub fit_shares : IsFit rate c h sectors → MayShare n c h sectors
  fit_shares fit = record { distinct = fit.distinct; own = fit.own; one_size = same_size fit; few = fit.few }

  -- the gap suits the size of each sector
  gaps : (gap3 : ℕ) → IsLargestGap wide_gap n (length sectors) rate gap3 → MayShare n c h sectors → IsFit rate c h sectors
  gaps gap3 gap share = record {
    distinct = share.distinct;
    own = share.own;
    one_size = λ i j d lt within. share.one_size i d (omega arith) ∙ sym (share.one_size j d within);
    few = share.few;
    gap = λ k d lt.
        let is : (get_or sectors k d).key.n ≡ n = share.one_size k d lt in
        (gap3, gap.enough, gap.most, subst (λ (m : ℕ). Suits m (length sectors) (words_at rate) gap3) (sym is) gap.suits);
  }

  pub planned : (result : Option ℕ) → MayShare n c h sectors → MatchOption result ((gap : ℕ) → wide_gap ≤ gap → gap ≤ gap_at rate → Suits n (length sectors) (words_at rate) gap → ⊥) (λ gap. IsLargestGap wide_gap n (length sectors) rate gap) → MatchOption result (IsFit rate c h sectors → ⊥) (λ gap3. IsPlanned rate c h sectors n gap3)
  planned None share none = λ fit.
      let has = fit.gap 0 blank_sector some in
      none has.0 has.1 has.2 (subst (λ (m : ℕ). Suits m (length sectors) (words_at rate) has.0) (first blank_sector) has.3)
  planned (Some gap3) share largest = record { fit = gaps gap3 largest share; one_size = share.one_size; gap = largest }
