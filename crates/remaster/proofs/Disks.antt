-- A disk while its tracks are laid out anew.
use Rattle.std.proofs.Common.{◌≡◌, ◌≢◌, ℕ, ◌+◌, ◌<◌, Result, Err, sym, subst, arith, inl, inr, IfErr}
use Rattle.remaster.proofs.Common.{cases_lt, Disk, HasTrack, track_of, IsFitTrack, IsUnfitTrack, IsTrackRemaster, IsDone, IsTrackError, IsUnfitIn, Remasters}
use Rattle.remaster.specs.declared.error.RemasterError.{RemasterError}
use Rattle.remaster.specs.declared.error.RemasterError.TheVariants.{Unfit, NoMemory}

-- a track that is done stays done if it stays as it is
pub done_still : (disk old new : Disk) (c h : ℕ) → track_of new c h ≡ track_of old c h → IsDone disk old c h → IsDone disk new c h
done_still disk old new c h same done = subst (IsTrackRemaster disk.rate c h (track_of disk c h)) (sym same) done

-- a track that is done is fit
pub done_fit : (disk after : Disk) (c h : ℕ) → IsDone disk after c h → IsFitTrack disk.rate c h (track_of disk c h)
done_fit disk after c h done = (done.sectors, done.old, done.fit)

-- an error that is passed on as it came
pub err_goes_on : {A : Type 0} (P : RemasterError → Type 0) (result : Result A RemasterError) (error y : RemasterError) → result ≡ Err y → y ≡ error → P error → IfErr result P
err_goes_on P result error y is same holds = subst (λ r. IfErr r P) (sym is) (subst P (sym same) holds)

-- ---- the heads of a cylinder

pub heads_more : (disk old new : Disk) (c h : ℕ) → ((k : ℕ) → k < h → IsDone disk old c k) → c < disk.cylinders → h < disk.heads → IsDone disk new c h → ((b g : ℕ) → HasTrack disk b g → (b ≡ c → g ≡ h → ⊥) → track_of new b g ≡ track_of old b g) → (k : ℕ) → k < h + 1 → IsDone disk new c k
heads_more disk old new c h so_far cylinder head done others k lower =
    elim (cases_lt k h) [
      | inl before ↦ done_still disk old new c k (others c k (cylinder, omega arith) (λ e same. omega (arith, same))) (so_far k before)
      | inr behind ↦ let here : h ≡ k = omega arith in subst (λ (j : ℕ). IsDone disk new c j) here done
    ]

pub unfit_in : (disk after : Disk) (c h : ℕ) (error : RemasterError) → h < disk.heads → ((k : ℕ) → k < h → IsDone disk after c k) → IsTrackError disk.rate c h (track_of disk c h) error → IsUnfitIn disk c error
unfit_in disk after c h (Unfit b g) head so_far wrong =
    let there : (k : ℕ) → k < g → IsFitTrack disk.rate c k (track_of disk c k) = λ k lower. done_fit disk after c k (so_far k (omega (arith, lower, wrong.1))) in
    (wrong.0, omega (arith, wrong.1, head), subst (λ (j : ℕ). IsUnfitTrack disk.rate c j (track_of disk c j)) (sym wrong.1) wrong.2, there)
unfit_in disk after c h NoMemory head so_far wrong = tt

-- ---- the cylinders

pub cylinders_more : (disk old new : Disk) (c : ℕ) → ((b g : ℕ) → b < c → g < disk.heads → IsDone disk old b g) → c < disk.cylinders → ((h : ℕ) → h < disk.heads → IsDone disk new c h) → ((b g : ℕ) → HasTrack disk b g → b ≢ c → track_of new b g ≡ track_of old b g) → (b g : ℕ) → b < c + 1 → g < disk.heads → IsDone disk new b g
cylinders_more disk old new c so_far cylinder done others b g lower head =
    elim (cases_lt b c) [
      | inl before ↦ done_still disk old new b g (others b g (omega arith, head) (λ same. omega (arith, same))) (so_far b g before head)
      | inr behind ↦ let here : c ≡ b = omega arith in subst (λ (j : ℕ). IsDone disk new j g) here (done g head)
    ]

pub first_unfit : (disk after : Disk) (c : ℕ) (error : RemasterError) → c < disk.cylinders → ((b g : ℕ) → b < c → g < disk.heads → IsDone disk after b g) → IsUnfitIn disk c error → Remasters disk (Err error)
first_unfit disk after c (Unfit b g) cylinder so_far wrong = record {
  track = (omega (arith, wrong.0, cylinder), wrong.1);
  unfit = subst (λ (j : ℕ). IsUnfitTrack disk.rate j g (track_of disk j g)) (sym wrong.0) wrong.2;
  before = λ k j has earlier.
      elim earlier [
        | inl lower ↦ done_fit disk after k j (so_far k j (omega (arith, wrong.0, lower)) has.1)
        | inr same ↦
            let here : c ≡ k = omega (arith, wrong.0, same.0) in
            subst (λ (m : ℕ). IsFitTrack disk.rate m j (track_of disk m j)) here (wrong.3 j same.1)
      ];
}
first_unfit disk after c NoMemory cylinder so_far wrong = tt
