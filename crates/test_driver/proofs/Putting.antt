-- A window put on a track.
use Rattle.std.proofs.Common.{◌≡◌, ℕ, ◌+◌, ◌-◌, ◌≤◌, ◌==◌, Bool, true, false, MatchBool, List, ◌++◌, length, take, drop, min, refl, ap, subst, arith, inr}
use Rattle.test_driver.proofs.Common.{eqb-true, eqb-false, Disk, IsDisk, HasTrack, IsWithTrack, track_of, window_word, cut_of, length-track_of, IsCutTo, PutsWindow}
use Rattle.flop_base.specs.Lists.{with_items}

match_bool : (b : Bool) (P Q : Type 0) → (b ≡ true → P) → (b ≡ false → Q) → MatchBool b P Q
match_bool true P Q at_true at_false = at_true refl
match_bool false P Q at_true at_false = at_false refl

cut_is : (track words : List ℕ) (p start k : ℕ) → start ≡ window_word p → take start track ++ (take k words ++ drop (start + length (take k words)) track) ≡ cut_of track p k words
unfolding with_items
cut_is track words p start k at = ap (λ s. take s track ++ (take k words ++ drop (s + length (take k words)) track)) at

module _ (d : Disk) (c h p start cut : ℕ) (words : List ℕ) (after : Disk) (valid : IsDisk d) (has : HasTrack d c h) (at : start ≡ window_word p) (within : start ≤ d.words_per_track) (cut_to : cut ≡ min (length words) (d.words_per_track - start)) where
  pub put_cut : IsWithTrack d c h (take start (track_of d c h) ++ (take cut words ++ drop (start + length (take cut words)) (track_of d c h))) after → PutsWindow c h p words d (cut == length words) after
  put_cut set =
      let long = length-track_of d c h valid has in
      let done : IsCutTo c h p cut words d after =
      record {
        cuttable = record { most = omega arith; inside = omega arith };
        cut = subst (λ row. IsWithTrack d c h row after) (cut_is (track_of d c h) words p start cut at) set;
      } in
      match_bool (cut == length words) _ _
      (λ e. subst (λ k. IsCutTo c h p k words d after) (eqb-true cut (length words) e) done)
      (λ e. let fewer = eqb-false cut (length words) e in (λ fits. fewer (omega arith), inr (cut, done)))
