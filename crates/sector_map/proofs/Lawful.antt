-- The laws on windows, for any key that the address field has.
use Rattle.std.proofs.Common.{◌≡◌, ℕ, ◌+◌, ◌^◌, ◌<◌, ◌≤◌, ◌⊎◌, Bool, List, length, get_or, max, subst}
use Rattle.sector_map.proofs.Common.{Chrn, Found, BadCrc, IsAddressAt, content_at, LookAt, window, window_place, cut_of, HasFieldFor, IsTidy, damaged_window, IsSpaced, KeepsOthers, one_key}
use Rattle.track_model.proofs.Kept

module _ (track : List ℕ) (p : ℕ) (deleted : Bool) (content : List ℕ) (spaced : IsSpaced track) (field : HasFieldFor track p content) where
  pub law_keeps : (k : ℕ) → k ≤ length (window deleted content) → (IsTidy track p deleted content ⊎ (k ≡ length (window deleted content))) → KeepsOthers track (cut_of track p k (window deleted content)) p
  law_keeps k = Kept.cut_kept track p field.0 deleted content k spaced field.1

  pub law_cuts : (j k : ℕ) → j ≤ length (window deleted content) → k ≤ length (window deleted content) → cut_of (cut_of track p j (window deleted content)) p k (window deleted content) ≡ cut_of track p (max j k) (window deleted content)
  law_cuts j k = Kept.cuts_are_one track p field.0 deleted content k spaced field.1 j

  pub law_damaged : KeepsOthers track (cut_of track p (18 + length content) (damaged_window deleted content)) p
  law_damaged = Kept.damaged_kept track p field.0 deleted content (18 + length content) spaced field.1 (Kept.damaged_all deleted content)

  module _ (bytes : (j : ℕ) → get_or content j 0 < 2 ^ 8) (key : Chrn) (here : IsAddressAt track p key) where
    same_key : field.0 ≡ key
    same_key = one_key track p field.0 key field.1.address here

    pub law_found : (k : ℕ) → k ≡ length (window deleted content) → LookAt (cut_of track p k (window deleted content)) p key.n (Found deleted (window_place p + 256))
    law_found k all =
        let At : Chrn → Type 0 = λ one. LookAt (cut_of track p k (window deleted content)) p one.n (Found deleted (window_place p + 256)) in
        subst At same_key (Kept.cut_found track p field.0 deleted content k spaced field.1 bytes all)

    pub law_content : (k : ℕ) → k ≡ length (window deleted content) → content ≡ content_at (cut_of track p k (window deleted content)) (window_place p + 256) key.n
    law_content k all =
        let At : Chrn → Type 0 = λ one. content ≡ content_at (cut_of track p k (window deleted content)) (window_place p + 256) one.n in
        subst At same_key (Kept.cut_content track p field.0 deleted content k spaced field.1 bytes all)

    pub law_bad : LookAt (cut_of track p (18 + length content) (damaged_window deleted content)) p key.n BadCrc
    law_bad =
        let At : Chrn → Type 0 = λ one. LookAt (cut_of track p (18 + length content) (damaged_window deleted content)) p one.n BadCrc in
        subst At same_key (Kept.damaged_bad track p field.0 deleted content (18 + length content) spaced field.1 bytes (Kept.damaged_all deleted content))
