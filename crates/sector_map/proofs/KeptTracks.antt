-- A disk after one of its tracks was replaced.
use Rattle.std.proofs.Common.{◌≡◌, ◌↔◌, ℕ, ◌<◌, List, Option, Some, length, refl, sym, subst, ◌∙◌, inl, inr}
use Rattle.sector_map.proofs.Common.{cases_eq, Rate, Disk, IsDisk, HasTrack, track_of, IsWithTrack, Found, IsAddressAt, content_at, LookAt, IsRegular, IsRegularDisk, Entry, IsOnMap, MeetsTrack, AreAlike, KeepsTracks}
use Rattle.sector_map.proofs.RegularTracks.{length-track_of}

module _ (disk after : Disk) (c h : ℕ) (words : List ℕ) (laid : IsWithTrack disk c h words after) where
  pub has_after : (b g : ℕ) → HasTrack disk b g → HasTrack after b g
  has_after b g had = (subst (λ n. b < n) (sym laid.cylinders) had.0, subst (λ n. g < n) (sym laid.heads) had.1)

  pub had_before : (b g : ℕ) → HasTrack after b g → HasTrack disk b g
  had_before b g has = (subst (λ n. b < n) laid.cylinders has.0, subst (λ n. g < n) laid.heads has.1)

  -- if a fact holds of the new track, and of each track before, it holds of each track after
  pub each_track : (P : ℕ → ℕ → List ℕ → Type 0) → P c h words → ((b g : ℕ) → HasTrack disk b g → P b g (track_of disk b g)) → (b g : ℕ) → HasTrack disk b g → P b g (track_of after b g)
  each_track P here others b g had =
      elim (cases_eq b c) [
        | inl same_c ↦ elim (cases_eq g h) [
          | inl same_h ↦
              let at_c = subst (λ k. P k h (track_of after k h)) (sym same_c) (subst (P c h) (sym laid.has) here) in
              subst (λ k. P b k (track_of after b k)) (sym same_h) at_c
          | inr other ↦ subst (P b g) (sym (laid.others b g had (λ _ e. other e))) (others b g had)
        ]
        | inr other ↦ subst (P b g) (sym (laid.others b g had (λ e _. other e))) (others b g had)
      ]

  pub with_track_keeps : KeepsTracks disk c h after
  with_track_keeps = record {
    alike = record {
      valid = laid.valid;
      protected = laid.protected;
      cylinders = laid.cylinders;
      heads = laid.heads;
      rate = laid.rate;
      words_per_track = laid.words_per_track;
    };
    others = laid.others;
  }

-- ---- disks of one shape

pub alike_itself : (disk : Disk) → IsDisk disk → AreAlike disk disk
alike_itself disk valid = record {
  valid = valid;
  protected = refl;
  cylinders = refl;
  heads = refl;
  rate = refl;
  words_per_track = refl;
}

pub alike_both : (disk middle after : Disk) → AreAlike disk middle → AreAlike middle after → AreAlike disk after
alike_both disk middle after first second = record {
  valid = second.valid;
  protected = second.protected ∙ first.protected;
  cylinders = second.cylinders ∙ first.cylinders;
  heads = second.heads ∙ first.heads;
  rate = second.rate ∙ first.rate;
  words_per_track = second.words_per_track ∙ first.words_per_track;
}

pub alike_tracks : (disk after : Disk) (b g : ℕ) → AreAlike disk after → HasTrack disk b g ↔ HasTrack after b g
alike_tracks disk after b g alike = (
  λ had. (subst (λ n. b < n) (sym alike.cylinders) had.0, subst (λ n. g < n) (sym alike.heads) had.1),
  λ has. (subst (λ n. b < n) alike.cylinders has.0, subst (λ n. g < n) alike.heads has.1),
)

pub length-alike : (disk after : Disk) (b g : ℕ) → IsDisk disk → AreAlike disk after → HasTrack disk b g → length (track_of after b g) ≡ length (track_of disk b g)
length-alike disk after b g valid alike has =
    length-track_of after b g alike.valid ((alike_tracks disk after b g alike).0 has) ∙ alike.words_per_track ∙ sym (length-track_of disk b g valid has)

-- if a command met a track of the disk, it meets one of such a disk
pub still_meets : (medium : Option Disk) (rate : Rate) (c h : ℕ) (disk after : Disk) (now : Option Disk) → MeetsTrack medium rate c h disk → AreAlike disk after → now ≡ Some after → MeetsTrack now rate c h after
still_meets medium rate c h disk after now meets alike is = record {
  is_in = is;
  has = (alike_tracks disk after c h alike).0 meets.has;
  same_rate = alike.rate ∙ meets.same_rate;
}

-- ---- a track replaced

-- a track replaced by itself
pub with_itself : (disk : Disk) (c h : ℕ) (words : List ℕ) → IsDisk disk → words ≡ track_of disk c h → IsWithTrack disk c h words disk
with_itself disk c h words valid is = record {
  valid = valid;
  protected = refl;
  cylinders = refl;
  heads = refl;
  rate = refl;
  words_per_track = refl;
  has = sym is;
  others = λ b g has other. refl;
}

-- a track replaced twice
pub with_later : (disk middle after : Disk) (c h : ℕ) (one two : List ℕ) → IsWithTrack disk c h one middle → IsWithTrack middle c h two after → IsWithTrack disk c h two after
with_later disk middle after c h one two first second = record {
  valid = second.valid;
  protected = second.protected ∙ first.protected;
  cylinders = second.cylinders ∙ first.cylinders;
  heads = second.heads ∙ first.heads;
  rate = second.rate ∙ first.rate;
  words_per_track = second.words_per_track ∙ first.words_per_track;
  has = second.has;
  others = λ b g had other. second.others b g (has_after disk middle c h one first b g had) other ∙ first.others b g had other;
}

pub keeps_itself : (disk : Disk) (c h : ℕ) → IsDisk disk → KeepsTracks disk c h disk
keeps_itself disk c h valid = record { alike = alike_itself disk valid; others = λ b g has other. refl }

pub keeps_both : (disk middle after : Disk) (c h : ℕ) → KeepsTracks disk c h middle → KeepsTracks middle c h after → KeepsTracks disk c h after
keeps_both disk middle after c h first second = record {
  alike = alike_both disk middle after first.alike second.alike;
  others = λ b g had other. second.others b g ((alike_tracks disk middle b g first.alike).0 had) other ∙ first.others b g had other;
}

-- ---- what the other tracks have

module _ (disk : Disk) (c h : ℕ) (after : Disk) (keeps : KeepsTracks disk c h after) where
  on_map : (from to : Disk) (entry : Entry) → HasTrack to entry.cylinder entry.head → track_of to entry.cylinder entry.head ≡ track_of from entry.cylinder entry.head → IsOnMap from entry → IsOnMap to entry
  on_map from to entry has same on = record {
    track = has;
    address = subst (λ track. IsAddressAt track entry.place entry.key) (sym same) on.address;
    content = subst (λ track. (place : ℕ) × LookAt track entry.place entry.key.n (Found entry.deleted place) × (entry.content ≡ content_at track place entry.key.n)) (sym same) on.content;
  }

  pub elsewhere_on_map : (entry : Entry) → (entry.cylinder ≡ c → entry.head ≡ h → ⊥) → IsOnMap disk entry ↔ IsOnMap after entry
  elsewhere_on_map entry other = (
    λ on. on_map disk after entry ((alike_tracks disk after entry.cylinder entry.head keeps.alike).0 on.track) (keeps.others entry.cylinder entry.head on.track other) on,
    λ on.
        let had = (alike_tracks disk after entry.cylinder entry.head keeps.alike).1 on.track in
        on_map after disk entry had (sym (keeps.others entry.cylinder entry.head had other)) on,
  )

  -- a regular disk stays regular if the new track is regular
  pub stays_regular : IsRegularDisk disk → IsRegular (track_of after c h) c h → IsRegularDisk after
  stays_regular regular here b g has =
      let had = (alike_tracks disk after b g keeps.alike).1 has in
      elim (cases_eq b c) [
        | inl same_c ↦ elim (cases_eq g h) [
          | inl same_h ↦
              let at_c = subst (λ k. IsRegular (track_of after k h) k h) (sym same_c) here in
              subst (λ k. IsRegular (track_of after b k) b k) (sym same_h) at_c
          | inr other ↦ subst (λ track. IsRegular track b g) (sym (keeps.others b g had (λ _ e. other e))) (regular b g had)
        ]
        | inr other ↦ subst (λ track. IsRegular track b g) (sym (keeps.others b g had (λ e _. other e))) (regular b g had)
      ]
