-- A drive that is let alone for many word times, in closed form.
use Rattle.std.proofs.Common.{◌≡◌, ℕ, zero, suc, ◌+◌, ◌-◌, ◌%◌, ◌<◌, ◌≤◌, min, true, false, ◌==◌, nat_le, lt-ltb, le-leb, le-ltb, if◌then◌else◌, List, [], ◌∷◌, length, take, drop, slice_index, refl, sym, subst, ap, ◌∙◌, arith}
use Rattle.std.proofs.Math.Nat.{mod-eq_of_lt, add-mod_left}
use Rattle.std.proofs.lemmas.Bool.{cond_both, and_parts, leb-true, eqb-true, lt-leb, ne_eqb}
use Rattle.std.proofs.lemmas.List.{drop_more}
use Rattle.drive_model.specs.Ahead.{LetsPass, AreAhead}
use Rattle.drive_model.specs.Drive.{DriveState, track_words, turns, at_speed, passed, with_gate, words_on}

-- ---- one word time

-- one word time, and then the others
one_more : (count : ℕ) (s between new : DriveState) → passed (with_gate false s) ≡ between → LetsPass count between new → LetsPass (suc count) s new
unfolding LetsPass
one_more count s between new step rest =
    subst (λ mid. LetsPass count mid new) (sym step) rest

-- with its gate closed a drive goes on in the same way
shut_first : (count : ℕ) (s new : DriveState) → LetsPass (suc count) (with_gate false s) new → LetsPass (suc count) s new
unfolding LetsPass
shut_first count s new passes = passes

none_pass : (s new : DriveState) → new ≡ s → LetsPass 0 s new
unfolding LetsPass
none_pass s new same = same

-- some word times, and then others
both_pass : (a b : ℕ) (s between new : DriveState) → LetsPass a s between → LetsPass b between new → LetsPass (b + a) s new
unfolding LetsPass
both_pass zero b s between new first second =
    let whole : b ≡ b + 0 = omega arith in
    subst (λ n. LetsPass n s new) whole (subst (λ from. LetsPass b from new) first second)
both_pass (suc a) b s between new first second =
    let whole : suc (b + a) ≡ b + suc a = omega arith in
    subst (λ n. LetsPass n s new) whole (both_pass a b (passed (with_gate false s)) between new first second)

-- ---- a medium that doesn't turn

still_step : (s : DriveState) → turns s ≡ false → passed (with_gate false s) ≡ with_gate false s
still_step s off = rw off refl

still : (count : ℕ) (s : DriveState) → turns s ≡ false → LetsPass count (with_gate false s) (with_gate false s)
still zero s off = none_pass _ _ refl
still (suc count) s off = one_more count (with_gate false s) (with_gate false s) _ (still_step s off) (still count s off)

-- ---- a medium that spins up

abbrev spun : DriveState → ℕ → DriveState
spun s spin = record s { gate = false; spin = spin }

spins_step : (s : DriveState) → turns s ≡ true → s.spin < 6250 → passed (with_gate false s) ≡ spun s (s.spin + 1)
spins_step s on below = rw (on, lt-ltb _ _ below, lt-leb _ _ below) refl

spins : (count : ℕ) (s : DriveState) (spin : ℕ) → turns s ≡ true → spin ≡ s.spin + count → spin ≤ 6250
    → LetsPass count (with_gate false s) (spun s spin)
spins zero s spin on there within = none_pass _ _ (ap (spun s) (omega (arith, there)))
spins (suc count) s spin on there within =
    one_more count (with_gate false s) (spun s (s.spin + 1)) (spun s spin) (spins_step s on (omega (arith, there, within)))
    (spins count (spun s (s.spin + 1)) spin on (omega (arith, there)) within)

-- ---- a medium at speed

abbrev gone : DriveState → ℕ → DriveState
gone s place = record s { gate = false; place = place }

-- the place that comes next
abbrev next_place : ℕ → ℕ → ℕ
next_place place words = if place + 1 == words then 0 else place + 1

speeds_step : (s : DriveState) → turns s ≡ true → 6250 ≤ s.spin → passed (with_gate false s) ≡ gone s (next_place s.place (track_words s.medium))
speeds_step s on fast = rw (on, le-leb _ _ fast, le-ltb _ _ fast) refl

next_within : (place words : ℕ) → place < words → next_place place words < words
next_within place words within = grind arith

-- places count on modulo the words of a track: they begin anew at the index
next_mod : (place words count : ℕ) → place < words → (next_place place words + count) % words ≡ (place + suc count) % words
next_mod place words count within =
    cond_both (place + 1 == words) 0 (place + 1) (λ p. (p + count) % words ≡ (place + suc count) % words)
    (λ last. let whole : place + 1 ≡ words = eqb-true _ _ last in
    let zero_plus : 0 + count ≡ count = omega arith in
    ap (λ n. n % words) zero_plus ∙ sym (add-mod_left words count)
    ∙ ap (λ n. n % words) (omega (arith, whole)))
    (λ before. ap (λ n. n % words) (omega arith))

speeds : (count : ℕ) (s : DriveState) (words place : ℕ) → turns s ≡ true → (0 < count → 6250 ≤ s.spin) → words ≡ track_words s.medium → s.place < words
    → place ≡ (s.place + count) % words → LetsPass count (with_gate false s) (gone s place)
speeds zero s words place on fast same within there =
    let first : s.place + 0 ≡ s.place = omega arith in
    none_pass _ _ (ap (gone s) (there ∙ ap (λ n. n % words) first ∙ mod-eq_of_lt within))
speeds (suc count) s words place on fast same within there =
    let next : ℕ = next_place s.place words in
    one_more count (with_gate false s) (gone s next) (gone s place) (rw same (speeds_step s on (fast (omega arith))))
    (speeds count (gone s next) words place on (λ more. fast (omega arith)) same (next_within s.place words within)
    (there ∙ sym (next_mod s.place words count within)))

-- ---- any number of word times

pub lets_pass_nothing : (count : ℕ) (s : DriveState) → count ≡ 0 → LetsPass count s s
lets_pass_nothing zero s none = none_pass s s refl
lets_pass_nothing (suc count) s none = absurd (omega (arith, none))

pub lets_pass_still : (count : ℕ) (s : DriveState) → 0 < count → turns s ≡ false → LetsPass count s (with_gate false s)
lets_pass_still zero s some off = absurd (omega (arith, some))
lets_pass_still (suc count) s some off = shut_first count s (with_gate false s) (still (suc count) s off)

-- the medium spins up for as many of the word times as it still needs and there are, and turns on in the others
pub lets_pass_turning : (count spinning words spin place : ℕ) (s : DriveState) → 0 < count → turns s ≡ true
    → words ≡ track_words s.medium → s.place < words → s.spin ≤ 6250 → spinning ≡ min count (6250 - s.spin)
    → spin ≡ s.spin + spinning → place ≡ (s.place + (count - spinning)) % words
    → LetsPass count s (record s { gate = false; spin = spin; place = place })
lets_pass_turning zero spinning words spin place s some on same within low spins_for spins_to goes_to = absurd (omega (arith, some))
lets_pass_turning (suc count) spinning words spin place s some on same within low spins_for spins_to goes_to =
    let rest : ℕ = suc count - spinning in
    let all : rest + spinning ≡ suc count = omega (arith, spins_for) in
    let new : DriveState = gone (spun s spin) place in
    let first = spins spinning s spin on spins_to (omega (arith, spins_for, spins_to, low)) in
    let fast : 0 < rest → 6250 ≤ spin = λ more. omega (arith, more, spins_for, spins_to, low) in
    let second = speeds rest (spun s spin) words place on fast same within goes_to in
    shut_first count s new (subst (λ n. LetsPass n (with_gate false s) new) all
    (both_pass spinning rest (with_gate false s) (spun s spin) new first second))

-- ---- words ahead

-- no words are ahead of any drive
none_ahead : (head : ℕ) (s : DriveState) → AreAhead head [] s
unfolding AreAhead
none_ahead head s = tt

fast_step : (s : DriveState) → turns s ≡ true → 6250 ≤ s.spin → s.place + 1 < track_words s.medium → passed s ≡ record s { place = s.place + 1 }
fast_step s on fast within = rw (on, le-leb _ _ fast, le-ltb _ _ fast, ne_eqb (s.place + 1) (track_words s.medium) (omega (arith, within))) refl

one_ahead : (head : ℕ) (rest : List ℕ) (s : DriveState) → turns s ≡ true → 6250 ≤ s.spin → s.place + 1 < track_words s.medium
    → AreAhead head rest (record s { place = s.place + 1 }) → AreAhead head (slice_index (words_on s.medium s.cylinder head) s.place ∷ rest) s
unfolding AreAhead
one_ahead head rest s on fast within ahead = (
  rw (on, le-leb _ _ fast) refl,
  rw (on, le-leb _ _ fast, ne_eqb (s.place + 1) (track_words s.medium) (omega (arith, within))) refl,
  subst (AreAhead head rest) (sym (fast_step s on fast within)) ahead,
)

-- the words of the track of a medium at speed that come before its last word are ahead
pub track_ahead : (count head : ℕ) (track : List ℕ) (s : DriveState) → turns s ≡ true → 6250 ≤ s.spin → track ≡ words_on s.medium s.cylinder head
    → length track ≡ track_words s.medium → s.place + count < track_words s.medium → AreAhead head (take count (drop s.place track)) s
track_ahead zero head track s on fast same long within = none_ahead head s
track_ahead (suc count) head track s on fast same long within =
    let tail : List ℕ = take count (drop (s.place + 1) track) in
    let ahead = track_ahead count head track (record s { place = s.place + 1 }) on fast same long (omega (arith, within)) in
    let first = one_ahead head tail s on fast (omega (arith, within)) ahead in
    let parts : drop s.place track ≡ slice_index track s.place ∷ drop (s.place + 1) track = drop_more track s.place 0 (omega (arith, long, within)) in
    rw parts
    (subst (λ t. AreAhead head (slice_index t s.place ∷ tail) s) (sym same) first)

pub fast_ahead : (count head : ℕ) (track : List ℕ) (s : DriveState) → at_speed s ≡ true → track ≡ words_on s.medium s.cylinder head
    → length track ≡ track_words s.medium → s.place + count < track_words s.medium → AreAhead head (take count (drop s.place track)) s
fast_ahead count head track s fast same long within =
    let parts = and_parts (turns s) (nat_le 6250 s.spin) fast in
    track_ahead count head track s parts.0 (leb-true _ _ parts.1) same long within
