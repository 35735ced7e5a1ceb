-- What a command meets of a track.
use Rattle.std.proofs.Common.{◌≡◌, ℕ, ◌&&◌, ◌⊎◌, true, Option, Some, None, List, length, replicate, get_or, nat_lt, refl, sym, ap, subst, ◌∙◌, arith, inl, inr}
use Rattle.std.specs.Option.{option_map_or}
use Rattle.sector_map.proofs.Common.{false≢true, cases_lt, ltb-true, lt-ltb, and_parts, and_from, cond-true, cond_both, get_or-replicate, get_or_past, length-replicate, Rate, Disk, IsDisk, HasTrack, track_of, HasAddressMark, same_rate, met_on, met_in, MeetsTrack, HasNothing}
use Rattle.flop_base.specs.declared.answers.Rate.TheVariants.{R500, R250}
use Rattle.sector_map.specs.Met.{unrecorded}
use Rattle.sector_map.proofs.RegularTracks.{length-track_of}

-- ---- rates

pub rates_same : (a b : Rate) → same_rate a b ≡ true → a ≡ b
rates_same R500 R250 e = absurd (false≢true e)
rates_same R250 R500 e = absurd (false≢true e)
rates_same _ _ e = refl

same_itself : (a : Rate) → same_rate a a ≡ true
same_itself R500 = refl
same_itself R250 = refl

pub same_rates : (a b : Rate) → a ≡ b → same_rate a b ≡ true
same_rates a b e = subst (λ r. same_rate a r ≡ true) e (same_itself a)

pub cases_rate : (a b : Rate) → (a ≡ b) ⊎ (a ≡ b → ⊥)
cases_rate R500 R250 = inr (λ e. false≢true (same_rates R500 R250 e))
cases_rate R250 R500 = inr (λ e. false≢true (same_rates R250 R500 e))
cases_rate _ _ = inl refl

-- ---- where nothing is recorded

zero_at : (n k : ℕ) → get_or {A = ℕ} (replicate n 0) k 0 ≡ 0
zero_at n k =
    elim (cases_lt k n) [
      | inl h ↦ get_or-replicate n k 0 0 h
      | inr h ↦ let long : length {A = ℕ} (replicate n 0) ≡ n = length-replicate n 0 in get_or_past (replicate n 0) k 0 (omega arith)
    ]

no_mark_in_zeroes : (n : ℕ) → HasAddressMark (unrecorded n) → ⊥
unfolding unrecorded
no_mark_in_zeroes n mark = mark.1.sound.no_zero mark.0 (omega arith) (omega arith) (zero_at n _)

pub length-unrecorded : (n : ℕ) → length (unrecorded n) ≡ n
unfolding unrecorded
length-unrecorded n = length-replicate n 0

-- a track without an address mark has no address field and nothing Clear
pub nothing_from : (track : List ℕ) → (HasAddressMark track → ⊥) → HasNothing track
nothing_from track none = record {
  marks = none;
  clear_marks = λ p clear. none (p, clear.mark);
  addresses = λ p key address. none (p, address.mark);
  clear_addresses = λ key clear. none (clear.0, clear.1.clear.mark);
  looks = λ key look found. none (found.0, found.1.mark);
}

pub nothing_unrecorded : (n : ℕ) → HasNothing (unrecorded n)
nothing_unrecorded n = nothing_from (unrecorded n) (no_mark_in_zeroes n)

-- ---- a disk

module _ (disk : Disk) (rate : Rate) (c h : ℕ) where
  pub on_there : HasTrack disk c h → disk.rate ≡ rate → met_on disk rate c h ≡ track_of disk c h
  on_there has same =
      cond-true (nat_lt c disk.cylinders && nat_lt h disk.heads && same_rate disk.rate rate) (track_of disk c h) (unrecorded disk.words_per_track)
      (and_from (nat_lt c disk.cylinders && nat_lt h disk.heads) (same_rate disk.rate rate)
      (and_from (nat_lt c disk.cylinders) (nat_lt h disk.heads) (lt-ltb c disk.cylinders has.0) (lt-ltb h disk.heads has.1))
      (same_rates disk.rate rate same))

  -- what is met is either the track of the disk, at this rate, or a track on which nothing is recorded
  pub by_met : (P : List ℕ → Type 0) → (HasTrack disk c h → disk.rate ≡ rate → P (track_of disk c h)) → ((HasTrack disk c h → disk.rate ≡ rate → ⊥) → P (unrecorded disk.words_per_track)) → P (met_on disk rate c h)
  by_met P there other =
      cond_both (nat_lt c disk.cylinders && nat_lt h disk.heads && same_rate disk.rate rate) (track_of disk c h) (unrecorded disk.words_per_track) P
      (λ t.
      let same = and_parts (nat_lt c disk.cylinders && nat_lt h disk.heads) (same_rate disk.rate rate) t in
      let place = and_parts (nat_lt c disk.cylinders) (nat_lt h disk.heads) same.0 in
      there (ltb-true c disk.cylinders place.0, ltb-true h disk.heads place.1) (rates_same disk.rate rate same.1))
      (λ f. other (λ has same. false≢true (sym f
      ∙ and_from (nat_lt c disk.cylinders && nat_lt h disk.heads) (same_rate disk.rate rate)
      (and_from (nat_lt c disk.cylinders) (nat_lt h disk.heads) (lt-ltb c disk.cylinders has.0) (lt-ltb h disk.heads has.1))
      (same_rates disk.rate rate same))))

  pub on_nothing : (HasTrack disk c h → disk.rate ≡ rate → ⊥) → HasNothing (met_on disk rate c h)
  on_nothing not =
      by_met HasNothing (λ has same. absurd (not has same)) (λ none. nothing_unrecorded disk.words_per_track)

-- ---- a medium, or none

pub in_is_on : (medium : Option Disk) (rate : Rate) (c h : ℕ) (disk : Disk) → medium ≡ Some disk → met_in medium rate c h ≡ met_on disk rate c h
in_is_on medium rate c h disk is = ap (λ (m : Option Disk). option_map_or (λ d. met_on d rate c h) m (unrecorded 64)) is

-- where no medium is in
pub nothing_in : (medium : Option Disk) (rate : Rate) (c h : ℕ) → medium ≡ None → HasNothing (met_in medium rate c h)
nothing_in medium rate c h none =
    let Nothing : Option Disk → Type 0 = λ m. HasNothing (met_in m rate c h) in
    subst Nothing (sym none) (nothing_unrecorded 64)

-- if the disk has no such track, or has another rate, nothing is recorded there
pub nothing_there : (medium : Option Disk) (rate : Rate) (c h : ℕ) (disk : Disk) → medium ≡ Some disk → (HasTrack disk c h → disk.rate ≡ rate → ⊥) → HasNothing (met_in medium rate c h)
nothing_there medium rate c h disk is not =
    subst HasNothing (sym (in_is_on medium rate c h disk is)) (on_nothing disk rate c h not)

-- if the disk has the track at this rate, a command meets this track
pub met_track : (medium : Option Disk) (rate : Rate) (c h : ℕ) (disk : Disk) → MeetsTrack medium rate c h disk → met_in medium rate c h ≡ track_of disk c h
met_track medium rate c h disk meets = in_is_on medium rate c h disk meets.is_in ∙ on_there disk rate c h meets.has meets.same_rate

pub length-met_track : (medium : Option Disk) (rate : Rate) (c h : ℕ) (disk : Disk) → IsDisk disk → MeetsTrack medium rate c h disk → length (met_in medium rate c h) ≡ disk.words_per_track
length-met_track medium rate c h disk valid meets = ap length (met_track medium rate c h disk meets) ∙ length-track_of disk c h valid meets.has

-- one of these two cases holds
pub met_cases : (medium : Option Disk) (rate : Rate) (c h : ℕ) → ((disk : Disk) × MeetsTrack medium rate c h disk) ⊎ HasNothing (met_in medium rate c h)
met_cases None rate c h = inr (nothing_unrecorded 64)
met_cases (Some disk) rate c h =
    by_met disk rate c h (λ track. ((d : Disk) × MeetsTrack (Some disk) rate c h d) ⊎ HasNothing track)
    (λ has same. inl (disk, record { is_in = refl; has = has; same_rate = same }))
    (λ none. inr (nothing_unrecorded disk.words_per_track))

-- an address mark that is met is therefore one of a track of a disk
pub met_from_mark : (medium : Option Disk) (rate : Rate) (c h : ℕ) → HasAddressMark (met_in medium rate c h) → (disk : Disk) × MeetsTrack medium rate c h disk
met_from_mark medium rate c h mark =
    elim (met_cases medium rate c h) [
      | inl there ↦ there
      | inr nothing ↦ absurd (nothing.marks mark)
    ]

-- only one disk is met
pub one_met : (medium : Option Disk) (rate : Rate) (c h : ℕ) (a b : Disk) → medium ≡ Some a → MeetsTrack medium rate c h b → b ≡ a
one_met medium rate c h a b is meets = same_some b a (sym meets.is_in ∙ is)
  where
    same_some : (x y : Disk) → Some x ≡ Some y → x ≡ y
    same_some x y e = cc e
