-- Tracks of a disk by their numbers, by cylinder, then head.
use Rattle.std.proofs.Common.{◌≡◌, ℕ, zero, suc, ◌+◌, ◌*◌, ◌/◌, ◌%◌, ◌≤◌, ◌<◌, ◌⊎◌, List, [], ◌∷◌, ◌++◌, length, get_or, refl, sym, ap, subst, ◌∙◌, arith, cond, eqb, Some, Ok, Err, All, AllPairs, inl, inr, length-append}
use Rattle.imagedisk.proofs.Common.{cases_lt, get_or_append_left, All-push, all_pairs_push, get_or-append_seam, Rate, R500, Disk, HasTrack, track_of, ImdTrack, IsImdTrack, AreApart, IsImdImage, ImdError, Unfit, NoMemory, IsFit, IsUnfit, HasNoAddress, IsTrackOf, IsBefore, HasTrackAt, IsFirstUnfit, IsTakenBelow, AreTakenBelow, TakesTrack, TakesPlace, TakesDisk}

pub same_place : (heads b g c h : ℕ) → (1 ≤ heads) × (heads ≤ 2) → g < heads → h < heads → b * heads + g ≡ c * heads + h → (b ≡ c) × (g ≡ h)
same_place (suc zero) b g c h one g_in h_in e = (omega arith, omega arith)
same_place (suc (suc zero)) b g c h one g_in h_in e = (omega arith, omega arith)
same_place _ b g c h one g_in h_in e = absurd (omega arith)

ordered_by : (heads b g c h : ℕ) → (1 ≤ heads) × (heads ≤ 2) → g < heads → h < heads → b * heads + g < c * heads + h → c ≤ b → (b ≡ c) × (g < h)
ordered_by (suc zero) b g c h one g_in h_in lt le = (omega arith, omega arith)
ordered_by (suc (suc zero)) b g c h one g_in h_in lt le = (omega arith, omega arith)
ordered_by _ b g c h one g_in h_in lt le = absurd (omega arith)

pub comes_before : (heads b g c h : ℕ) → (1 ≤ heads) × (heads ≤ 2) → g < heads → h < heads → b * heads + g < c * heads + h → IsBefore b g c h
comes_before heads b g c h one g_in h_in lt =
    elim (cases_lt b c) [
      | inl less ↦ inl less
      | inr le ↦ inr (ordered_by heads b g c h one g_in h_in lt le)
    ]

less_by : (heads b g c h : ℕ) → (1 ≤ heads) × (heads ≤ 2) → g < heads → b < c → b * heads + g < c * heads + h
less_by (suc zero) b g c h one g_in lt = omega arith
less_by (suc (suc zero)) b g c h one g_in lt = omega arith
less_by _ b g c h one g_in lt = absurd (omega arith)

pub number_before : (heads b g c h : ℕ) → (1 ≤ heads) × (heads ≤ 2) → g < heads → IsBefore b g c h → b * heads + g < c * heads + h
number_before heads b g c h one g_in (inl less) = less_by heads b g c h one g_in less
number_before heads b g c h one g_in (inr both) = let same = ap (λ (k : ℕ). k * heads) both.0 in let less = both.1 in omega (arith, same, less)

pub last_number : (heads cylinders c h : ℕ) → (1 ≤ heads) × (heads ≤ 2) → c < cylinders → h < heads → c * heads + h < cylinders * heads
last_number heads cylinders c h one c_in h_in = let less = less_by heads c h cylinders 0 one h_in c_in in omega (arith, less)

pub split_place : (heads cylinders place : ℕ) → (1 ≤ heads) × (heads ≤ 2) → place < cylinders * heads → (place / heads < cylinders) × (place % heads < heads) × (place / heads * heads + place % heads ≡ place)
split_place (suc zero) cylinders place one within = (omega arith, omega arith, omega arith)
split_place (suc (suc zero)) cylinders place one within = (omega arith, omega arith, omega arith)
split_place _ cylinders place one within = absurd (omega arith)

pub none_taken : (disk : Disk) → AreTakenBelow disk 0 []
none_taken disk = record {
  each = λ k d lt. absurd (omega arith);
  ordered = λ i j d lt within. absurd (omega arith);
  all = λ c h has lt. absurd (omega arith);
  fits = λ c h has lt. absurd (omega arith);
}

still_below : (disk : Disk) (limit : ℕ) (tracks : List ImdTrack) → All (IsTakenBelow disk limit) tracks → All (IsTakenBelow disk (limit + 1)) tracks
still_below disk limit tracks each k d lt = let one = each k d lt in record { on = one.on; valid = one.valid; below = let less = one.below in omega (arith, less) }

-- What holds of each place below a number, and of the place with that number, holds of each place below the next
-- number.
next_place : (disk : Disk) (P : ℕ → ℕ → Type 0) (c h : ℕ) → (1 ≤ disk.heads) × (disk.heads ≤ 2) → HasTrack disk c h → P c h
    → ((b g : ℕ) → HasTrack disk b g → b * disk.heads + g < c * disk.heads + h → P b g)
    → (b g : ℕ) → HasTrack disk b g → b * disk.heads + g < c * disk.heads + h + 1 → P b g
next_place disk P c h one has this below b g there lt =
    elim (cases_lt (b * disk.heads + g) (c * disk.heads + h)) [
      | inl less ↦ below b g there less
      | inr le ↦ (
          let e : b * disk.heads + g ≡ c * disk.heads + h = omega arith in
          let same = same_place disk.heads b g c h one there.1 has.1 e in
          subst (λ (x : ℕ). P x g) (sym same.0) (subst (λ (x : ℕ). P c x) (sym same.1) this))
    ]

pub skip_place : (disk : Disk) (c h limit : ℕ) (tracks : List ImdTrack) → (1 ≤ disk.heads) × (disk.heads ≤ 2) → HasTrack disk c h → c * disk.heads + h ≡ limit
    → HasNoAddress (track_of disk c h) × IsFit (track_of disk c h) → AreTakenBelow disk limit tracks → AreTakenBelow disk (limit + 1) tracks
skip_place disk c h limit tracks one has number none taken =
    subst (λ (k : ℕ). AreTakenBelow disk (k + 1) tracks) number (
    let before = subst (λ (k : ℕ). AreTakenBelow disk k tracks) (sym number) taken in
    record {
      each = still_below disk (c * disk.heads + h) tracks before.each;
      ordered = before.ordered;
      all = next_place disk (λ b g. HasTrackAt tracks b g ⊎ HasNoAddress (track_of disk b g)) c h one has (inr none.0) before.all;
      fits = next_place disk (λ b g. IsFit (track_of disk b g)) c h one has none.1 before.fits;
    })

kept_at : (tracks : List ImdTrack) (track : ImdTrack) (c h : ℕ) → HasTrackAt tracks c h → HasTrackAt (tracks ++ track ∷ []) c h
kept_at tracks track c h at = (
  at.0,
  (let within = at.1 in omega (arith, within, length-append tracks (track ∷ []))),
  λ d.
      let same = get_or_append_left tracks (track ∷ []) d at.0 at.1 in
      subst (λ (t : ImdTrack). (t.c ≡ c) × (t.h ≡ h)) (sym same) (at.2 d),
)

pushed_at : (tracks : List ImdTrack) (track : ImdTrack) → HasTrackAt (tracks ++ track ∷ []) track.c track.h
pushed_at tracks track = (
  length tracks,
  omega (arith, length-append tracks (track ∷ [])),
  λ d.
      subst (λ (t : ImdTrack). (t.c ≡ track.c) × (t.h ≡ track.h)) (sym (get_or-append_seam tracks track [] d)) (refl, refl),
)

kept_or : (disk : Disk) (tracks : List ImdTrack) (track : ImdTrack) (c h : ℕ) → HasTrackAt tracks c h ⊎ HasNoAddress (track_of disk c h) → HasTrackAt (tracks ++ track ∷ []) c h ⊎ HasNoAddress (track_of disk c h)
kept_or disk tracks track c h (inl at) = inl (kept_at tracks track c h at)
kept_or disk tracks track c h (inr none) = inr none

pub push_place : (disk : Disk) (limit : ℕ) (tracks : List ImdTrack) (track : ImdTrack) → (1 ≤ disk.heads) × (disk.heads ≤ 2) → HasTrack disk track.c track.h → track.c * disk.heads + track.h ≡ limit
    → IsTrackOf (track_of disk track.c track.h) track.c track.h track → IsImdTrack track → IsFit (track_of disk track.c track.h)
    → AreTakenBelow disk limit tracks → AreTakenBelow disk (limit + 1) (tracks ++ track ∷ [])
push_place disk limit tracks track one has number holds valid fit taken =
    subst (λ (k : ℕ). AreTakenBelow disk (k + 1) (tracks ++ track ∷ [])) number (
    let before = subst (λ (k : ℕ). AreTakenBelow disk k tracks) (sym number) taken in
    let last = track.c * disk.heads + track.h in
    record {
      each = All-push (IsTakenBelow disk (last + 1)) tracks track (still_below disk last tracks before.each) (record { on = record { there = has; holds = holds }; valid = valid; below = omega arith });
      ordered = all_pairs_push (λ (a : ImdTrack) (b : ImdTrack). IsBefore a.c a.h b.c b.h) tracks track before.ordered (λ k d lt.
          let other = before.each k d lt in
          comes_before disk.heads (get_or tracks k d).c (get_or tracks k d).h track.c track.h one other.on.there.1 has.1 other.below);
      all = next_place disk (λ b g. HasTrackAt (tracks ++ track ∷ []) b g ⊎ HasNoAddress (track_of disk b g)) track.c track.h one has (inl (pushed_at tracks track))
          (λ b g there lt. kept_or disk tracks track b g (before.all b g there lt));
      fits = next_place disk (λ b g. IsFit (track_of disk b g)) track.c track.h one has fit before.fits;
    })

-- this place is the first one that isn't fit
pub first_unfit : (disk : Disk) (c h : ℕ) (tracks : List ImdTrack) → (1 ≤ disk.heads) × (disk.heads ≤ 2) → HasTrack disk c h → IsUnfit (track_of disk c h)
    → AreTakenBelow disk (c * disk.heads + h) tracks → IsFirstUnfit disk c h
first_unfit disk c h tracks one has unfit taken = record {
  there = has;
  unfit = unfit;
  fits_before = λ b g there before. taken.fits b g there (number_before disk.heads b g c h one there.1 before);
}

pub ordered_apart : (tracks : List ImdTrack) → AllPairs (λ a b. IsBefore a.c a.h b.c b.h) tracks → AllPairs AreApart tracks
ordered_apart tracks ordered i j d lt within same_c same_h =
    elim (ordered i j d lt within) [
      | inl less ↦ omega arith
      | inr both ↦ (let less = both.1 in omega (arith, less))
    ]

pub failed_place : (disk : Disk) (c h place : ℕ) (old new : List ImdTrack) (error : ImdError) → (1 ≤ disk.heads) × (disk.heads ≤ 2) → HasTrack disk c h → c * disk.heads + h ≡ place
    → AreTakenBelow disk place old → TakesTrack (track_of disk c h) c h (Err error) → TakesPlace disk place new (Err error)
failed_place disk c h place old new NoMemory one has number taken failed = tt
failed_place disk c h place old new (Unfit d g) one has number taken failed =
    subst (λ (x : ℕ). IsFirstUnfit disk x g) (sym failed.0) (subst (λ (x : ℕ). IsFirstUnfit disk c x) (sym failed.1) (first_unfit disk c h old one has failed.2 (subst (λ (k : ℕ). AreTakenBelow disk k old) (sym number) taken)))

pub all_taken : (disk : Disk) (limit : ℕ) (tracks : List ImdTrack) (rate : Rate) → (1 ≤ disk.heads) × (disk.heads ≤ 2) → disk.cylinders * disk.heads ≤ limit
    → rate ≡ cond (eqb (length tracks) 0) R500 disk.rate → AreTakenBelow disk limit tracks → TakesDisk disk (Ok (record { rate = rate; tracks = tracks })) × IsImdImage (record { rate = rate; tracks = tracks })
all_taken disk limit tracks rate one all is taken = (
  (
    record {
      each = λ k d lt. (taken.each k d lt).on;
      ordered = taken.ordered;
      all = λ c h has. let less = last_number disk.heads disk.cylinders c h one has.0 has.1 in taken.all c h has (omega (arith, less, all));
      rate = is;
    },
    λ c h has. let less = last_number disk.heads disk.cylinders c h one has.0 has.1 in taken.fits c h has (omega (arith, less, all)),
  ),
  record {
    tracks = λ k d lt. (taken.each k d lt).valid;
    apart = ordered_apart tracks taken.ordered;
    rate = λ none. is ∙ ap (λ (ts : List ImdTrack). cond (eqb (length ts) 0) R500 disk.rate) none;
  },
)

-- what is known of the place of a track that is taken
record IsPlaced (disk : Disk) (place : ℕ) (track : ImdTrack) (c h : ℕ) : Type 0 where
  has : HasTrack disk c h
  number : c * disk.heads + h ≡ place
  holds : IsTrackOf (track_of disk c h) c h track

pub taken_place : (disk : Disk) (c h place : ℕ) (tracks : List ImdTrack) (track : ImdTrack) → (1 ≤ disk.heads) × (disk.heads ≤ 2) → HasTrack disk c h → c * disk.heads + h ≡ place
    → TakesTrack (track_of disk c h) c h (Ok (Some track)) → AreTakenBelow disk place tracks → AreTakenBelow disk (place + 1) (tracks ++ track ∷ [])
taken_place disk c h place tracks track one has number taken before =
    let at : IsPlaced disk place track c h = record { has = has; number = number; holds = taken.0 } in
    let moved : IsPlaced disk place track track.c track.h = subst (λ (x : ℕ). IsPlaced disk place track x track.h) (sym taken.0.cylinder) (subst (λ (x : ℕ). IsPlaced disk place track c x) (sym taken.0.head) at) in
    push_place disk place tracks track one moved.has moved.number moved.holds taken.1 (moved.holds.fields, moved.holds.addresses, track.n, moved.holds.uniform) before

pub at_place : (disk : Disk) (heads place : ℕ) → heads ≡ disk.heads → (1 ≤ disk.heads) × (disk.heads ≤ 2) → place < disk.cylinders * disk.heads
    → HasTrack disk (place / heads) (place % heads) × (place / heads * disk.heads + place % heads ≡ place)
at_place disk heads place same one within =
    let split = split_place disk.heads disk.cylinders place one within in
    subst (λ (k : ℕ). HasTrack disk (place / k) (place % k) × (place / k * disk.heads + place % k ≡ place)) (sym same) ((split.0, split.1), split.2)
