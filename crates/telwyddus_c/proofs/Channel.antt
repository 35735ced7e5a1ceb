-- Bytes pass the channel one by one.
use Rattle.std.proofs.Common.{◌≡◌, ℕ, zero, suc, ◌+◌, ◌<◌, true, false, List, length, refl, sym, ◌∙◌, subst, arith}
use Rattle.std.specs.Prelude.{slice_index, slice_set, Some, None}
use Rattle.telwyddus_c.proofs.Common.{get_or-set_at, get_or-set_other, length-set, DisketteAdapter, ChipState, TakesSome, TakesBlock, GivesBlock}
use Rattle.fdc_sequencer.specs.Adapters.{SameDrives}
use Rattle.fdc_chip.specs.Ports.{TakesChip, GivesChip}
use Rattle.telwyddus_c.specs.Blocks.{TakesFirst, GivesFirst}

-- the drives stay, over no calls and over one call more
pub keeps_none : {D : Type 0} (adapter : DisketteAdapter D) → SameDrives adapter adapter
keeps_none adapter = record { first = refl; second = refl }

pub keeps_more : {D : Type 0} (old between new : DisketteAdapter D) → SameDrives old between → SameDrives between new → SameDrives old new
keeps_more old between new one more = record { first = more.first ∙ one.first; second = more.second ∙ one.second }

-- ---- taken

-- only the first bytes of the list count
takes_same : (n : ℕ) (xs ys : List ℕ) (old new : ChipState) → ((k : ℕ) → k < n → slice_index ys k ≡ slice_index xs k) → TakesFirst n xs old new
    → TakesFirst n ys old new
unfolding TakesFirst
takes_same zero xs ys old new same takes = takes
takes_same (suc n) xs ys old new same takes = (
  takes.0,
  takes_same n xs ys old takes.0 (λ k below. same k (omega (arith, below))) takes.1,
  subst (λ (byte : ℕ). TakesChip takes.0 (Some byte) new) (sym (same n (omega arith))) takes.2,
)

takes_more : (i byte : ℕ) (bytes : List ℕ) (old between new : ChipState) → i < length bytes → TakesFirst i bytes old between
    → TakesChip between (Some byte) new → TakesFirst (i + 1) (slice_set bytes i byte) old new
unfolding TakesFirst
takes_more i byte bytes old between new inside takes more =
    let next : suc i ≡ i + 1 = omega arith in
    let here : byte ≡ slice_index (slice_set bytes i byte) i = sym (get_or-set_at bytes i i byte 0 refl inside) in
    let before : (k : ℕ) → k < i → slice_index (slice_set bytes i byte) k ≡ slice_index bytes k = λ k below. get_or-set_other bytes i k byte 0 (λ same. omega (arith, same, below)) in
    subst (λ (n : ℕ). TakesFirst n (slice_set bytes i byte) old new) next (
      between,
      takes_same i bytes (slice_set bytes i byte) old between before takes,
      subst (λ (b : ℕ). TakesChip between (Some b) new) here more,
    )

pub takes_none : (bytes : List ℕ) (chip : ChipState) → TakesSome 0 bytes bytes chip chip
unfolding TakesFirst
takes_none bytes chip = record { takes = refl; all = refl; rest = λ k _. refl }

-- one more byte goes to its place
pub takes_on : (i byte : ℕ) (before now : List ℕ) (old between new : ChipState) → i < length now → TakesSome i before now old between
    → TakesChip between (Some byte) new → TakesSome (i + 1) before (slice_set now i byte) old new
takes_on i byte before now old between new inside some more = record {
  takes = takes_more i byte now old between new inside some.takes more;
  all = length-set now i byte ∙ some.all;
  rest = λ k above. get_or-set_other now i k byte 0 (λ same. omega (arith, same, above)) ∙ some.rest k (omega (arith, above));
}

-- no further byte is asked for, or the buffer is full
pub takes_short : (i : ℕ) (before after : List ℕ) (old between new : ChipState) → i < length before → TakesSome i before after old between
    → TakesChip between None new → TakesBlock i before after old new
takes_short i before after old between new inside some none = record {
  within = omega (arith, inside);
  between = between;
  some = some;
  full = λ all. absurd (omega (arith, inside, all));
  short = λ _. none;
}

pub takes_full : (i : ℕ) (before after : List ℕ) (old new : ChipState) → i ≡ length before → TakesSome i before after old new
    → TakesBlock i before after old new
takes_full i before after old new all some = record {
  within = omega (arith, all);
  between = new;
  some = some;
  full = λ _. refl;
  short = λ less. absurd (omega (arith, all, less));
}

-- ---- given

pub gives_none : (bytes : List ℕ) (chip : ChipState) → GivesFirst 0 bytes chip chip
unfolding GivesFirst
gives_none bytes chip = refl

-- one more byte is given
pub gives_on : (i : ℕ) (bytes : List ℕ) (old between new : ChipState) → GivesFirst i bytes old between
    → GivesChip (slice_index bytes i) between true new → GivesFirst (i + 1) bytes old new
unfolding GivesFirst
gives_on i bytes old between new some more =
    let next : suc i ≡ i + 1 = omega arith in
    subst (λ (n : ℕ). GivesFirst n bytes old new) next (between, some, more)

-- no further byte is asked for, or there is none left
pub gives_short : (i : ℕ) (bytes : List ℕ) (old between new : ChipState) → i < length bytes → GivesFirst i bytes old between
    → GivesChip (slice_index bytes i) between false new → GivesBlock i bytes old new
gives_short i bytes old between new inside some none = record {
  within = omega (arith, inside);
  between = between;
  some = some;
  full = λ all. absurd (omega (arith, inside, all));
  short = λ _. none;
}

pub gives_full : (i : ℕ) (bytes : List ℕ) (old new : ChipState) → i ≡ length bytes → GivesFirst i bytes old new → GivesBlock i bytes old new
gives_full i bytes old new all some = record {
  within = omega (arith, all);
  between = new;
  some = some;
  full = λ _. refl;
  short = λ less. absurd (omega (arith, all, less));
}
