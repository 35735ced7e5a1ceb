-- The tracks of a disk with two heads, one after the other.
use Rattle.std.proofs.Common.{◌≡◌, ℕ, zero, suc, ◌+◌, ◌*◌, ◌/◌, ◌%◌, refl, ap, ◌∙◌, sym, arith}
use Rattle.std.proofs.Math.Path.{fun_ext}
use Rattle.disk_commands.proofs.Common.{Script, Part, by_track}
use Rattle.commands.specs.Parts.{through, each}

-- the part of the track with this number
abbrev pub of_track : {Found : Type 0} → (ℕ → ℕ → Found → Part Found) → ℕ → Found → Part Found
of_track part track = part (track / 2) (track % 2)

-- the first two turns of a loop
two_more : {Found : Type 0} (i n : ℕ) (part : ℕ → Found → Part Found) (found : Found) (rest : Found → Script)
    → each i (suc (suc n)) part found rest ≡ part i found (λ now. part (i + 1) now (λ then. each (i + 1 + 1) n part then rest))
unfolding each through
two_more i n part found rest = refl

-- the parts of a cylinder's two tracks
one_cylinder : {Found : Type 0} (i n : ℕ) (part : ℕ → ℕ → Found → Part Found) (found : Found) (rest : Found → Script)
    → each i (suc n) (λ c. each 0 2 (part c)) found rest
    ≡ part i 0 found (λ now. part i 1 now (λ then. each (i + 1) n (λ c. each 0 2 (part c)) then rest))
unfolding each through
one_cylinder i n part found rest = refl

-- parts by cylinder, then head, are the same as parts by the number of the track
tracks_are : {Found : Type 0} (i n : ℕ) (part : ℕ → ℕ → Found → Part Found) (found : Found) (rest : Found → Script)
    → each i n (λ c. each 0 2 (part c)) found rest ≡ each (2 * i) (2 * n) (of_track part) found rest
unfolding each through
tracks_are i zero part found rest = refl
tracks_are {Found = Found} i (suc n) part found rest =
    let count : 2 * suc n ≡ suc (suc (2 * n)) = omega arith in
    let next : 2 * (i + 1) ≡ 2 * i + 1 + 1 = omega arith in
    let c : 2 * i / 2 ≡ i = omega arith in
    let h : 2 * i % 2 ≡ 0 = omega arith in
    let same_c : (2 * i + 1) / 2 ≡ i = omega arith in
    let other_h : (2 * i + 1) % 2 ≡ 1 = omega arith in
    let later = fun_ext (λ (now : Found). tracks_are (i + 1) n part now rest ∙ ap (λ k. each k (2 * n) (of_track part) now rest) next) in
    one_cylinder i n part found rest
    ∙ rw (c, h, same_c, other_h) (ap (λ (r : Found → Script). part i 0 found (λ now. part i 1 now r)) later)
    ∙ sym (two_more (2 * i) (2 * n) (of_track part) found rest) ∙ ap (λ k. each (2 * i) k (of_track part) found rest) (sym count)

-- the same for all tracks of a disk
pub tracks_same : {Found : Type 0} (n : ℕ) (part : ℕ → ℕ → Found → Part Found) (begun : Found)
    → each 0 (2 * n) (of_track part) begun ≡ by_track n 2 part begun
tracks_same {Found = Found} n part begun = sym (fun_ext (λ (rest : Found → Script). tracks_are 0 n part begun rest))
