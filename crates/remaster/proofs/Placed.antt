-- One sector written on a track whose sectors keep their distance.
use Rattle.std.proofs.Common.{◌≡◌, ◌≢◌, ℕ, ◌+◌, ◌≤◌, List, length, sym, ap, subst, ◌∙◌, arith}
use Rattle.remaster.proofs.Common.{Found, IsAddressAt, content_at, LookAt, window, window_word, window_place, cut_of, with_window, IsSpaced, KeepsOthers, Sector, HasSize, HoldsSector}
use Rattle.track_model.proofs.Written.{length-window}

module _ (track : List ℕ) (place : ℕ) (sector : Sector) (here : IsAddressAt track place sector.key) where
  -- the window is inside the track
  pub window_fits : (words : List ℕ) → IsSpaced track → HasSize sector → words ≡ window sector.deleted sector.content → window_word place + length words ≤ length track
  window_fits words spaced sized is =
      let inside = spaced.spans.inside place sector.key here in
      let size = sized.size in
      let long : length words ≡ length sector.content + 18 = ap length is ∙ length-window sector.deleted sector.content in
      omega (arith, inside, size, long)

  -- what was written is found there
  pub holds_written : (after : List ℕ) (cut : ℕ) → cut ≡ length (window sector.deleted sector.content) → after ≡ with_window track place sector.deleted sector.content → KeepsOthers track after place → LookAt (cut_of track place cut (window sector.deleted sector.content)) place sector.key.n (Found sector.deleted (window_place place + 256)) → sector.content ≡ content_at (cut_of track place cut (window sector.deleted sector.content)) (window_place place + 256) sector.key.n → HoldsSector after place sector
  holds_written after cut whole is keeps look content =
      let same : cut_of track place cut (window sector.deleted sector.content) ≡ after = ap (λ k. cut_of track place k (window sector.deleted sector.content)) whole ∙ sym is in
      let Looks : List ℕ → Type 0 = λ t. LookAt t place sector.key.n (Found sector.deleted (window_place place + 256)) in
      record {
        address = (keeps.addresses place sector.key).0 here;
        look = subst Looks same look;
        content = content ∙ ap (λ t. content_at t (window_place place + 256) sector.key.n) same;
      }

-- a write at another address field leaves the sector as it is
pub holds_still : (track after : List ℕ) (place other : ℕ) (sector : Sector) → KeepsOthers track after other → place ≢ other → HoldsSector track place sector → HoldsSector after place sector
holds_still track after place other sector keeps apart holds = record {
  address = (keeps.addresses place sector.key).0 holds.address;
  look = (keeps.looks place sector.key (Found sector.deleted (window_place place + 256)) apart holds.address).0 holds.look;
  content = holds.content ∙ keeps.contents place sector.key sector.deleted (window_place place + 256) apart holds.address holds.look;
}
