-- What a whole seek gives.
use Rattle.std.proofs.Common.{◌≡◌, ◌∙◌, sym, ap, refl, subst, ℕ, zero, suc, ◌⊎◌, inl, inr, ◌+◌, ◌-◌, ◌<◌, ◌≤◌, Bool, true, false, List, [], ◌∷◌, Some, length, slice_index, arith, nat_lt, ◌==◌, replicate, IsTrue}
use Rattle.std.proofs.lemmas.Bool.Decides.{nat_tests}
use Rattle.std.proofs.lemmas.Bool.{cases_lt}
use Rattle.fdc_commands.specs.declared.motion.Motion.TheVariants.{Outward, Toward}
use Rattle.fdc_commands.specs.Seeking.{Seeking, with_motion, ended, sought, recalibrated, pulse_due, stepped}
use Rattle.fdc_commands.specs.Runs.{after_steps, pulses_of, distance, EndsIn, StepsOnly, SeekLaw, RecalibrateLaw}

-- a device step gives a pulse, and changes nothing but the motion
record Gives (seeks : Seeking) (track0 inward : Bool) (next : Seeking) : Type 0 where
  pulse : pulse_due seeks track0 ≡ Some inward
  state : stepped seeks track0 ≡ next

-- these device steps have brought the seeks to this state
record Comes (begun : Seeking) (lines : List Bool) (inward : Bool) (to : Seeking) : Type 0 where
  steps : StepsOnly begun lines inward
  state : after_steps begun lines ≡ to

comes_at_once : (begun : Seeking) (inward : Bool) → Comes begun [] inward begun
comes_at_once begun inward = record {
  steps = record { pulses = refl; cylinders = refl; pending = refl };
  state = refl;
}

-- one device step more, before the others
comes_later : (begun next to : Seeking) (track0 inward : Bool) (lines : List Bool)
    → begun.cylinders ≡ next.cylinders → begun.pending ≡ next.pending
    → Gives begun track0 inward next → Comes next lines inward to → Comes begun (track0 ∷ lines) inward to
comes_later begun next to track0 inward lines same_cylinders same_pending gives comes = record {
  steps = record {
    pulses = λ i. gives.pulse i ∷ (ap (λ s. pulses_of s lines) gives.state ∙ comes.steps.pulses) i;
    cylinders = ap (λ s. (after_steps s lines).cylinders) gives.state ∙ comes.steps.cylinders ∙ sym same_cylinders;
    pending = ap (λ s. (after_steps s lines).pending) gives.state ∙ comes.steps.pending ∙ sym same_pending;
  };
  state = ap (λ s. after_steps s lines) gives.state ∙ comes.state;
}

gives_inward : (old : Seeking) (drive target from : ℕ) (track0 : Bool) → from < target
    → Gives (with_motion old drive (Toward from target)) track0 true (with_motion old drive (Toward (from + 1) target))
gives_inward old drive target from track0 h =
    let apart : (from == target) ≡ false = grind (arith, nat_tests) in
    let below : nat_lt from target ≡ true = grind (arith, nat_tests) in
    record { pulse = rw (apart, below) refl; state = rw (apart, below) refl }

gives_outward : (old : Seeking) (drive target from : ℕ) (track0 : Bool) → target < from
    → Gives (with_motion old drive (Toward from target)) track0 false (with_motion old drive (Toward (from - 1) target))
gives_outward old drive target from track0 h =
    let apart : (from == target) ≡ false = grind (arith, nat_tests) in
    let above : nat_lt from target ≡ false = grind (arith, nat_tests) in
    record { pulse = rw (apart, above) refl; state = rw (apart, above) refl }

comes_inward : (old : Seeking) (drive target from to : ℕ) (lines : List Bool)
    → from + length lines ≡ to → to ≤ target
    → Comes (with_motion old drive (Toward from target)) lines true (with_motion old drive (Toward to target))
comes_inward old drive target from to [] reach within =
    let here : from ≡ to = omega arith in
    subst (λ cylinder. Comes (with_motion old drive (Toward from target)) [] true (with_motion old drive (Toward cylinder target)))
    here (comes_at_once (with_motion old drive (Toward from target)) true)
comes_inward old drive target from to (track0 ∷ lines) reach within =
    comes_later (with_motion old drive (Toward from target)) (with_motion old drive (Toward (from + 1) target))
    (with_motion old drive (Toward to target)) track0 true lines refl refl
    (gives_inward old drive target from track0 (omega arith))
    (comes_inward old drive target (from + 1) to lines (omega arith) within)

comes_outward : (old : Seeking) (drive target from to : ℕ) (lines : List Bool)
    → to + length lines ≡ from → target ≤ to
    → Comes (with_motion old drive (Toward from target)) lines false (with_motion old drive (Toward to target))
comes_outward old drive target from to [] reach within =
    let here : from ≡ to = omega arith in
    subst (λ cylinder. Comes (with_motion old drive (Toward from target)) [] false (with_motion old drive (Toward cylinder target)))
    here (comes_at_once (with_motion old drive (Toward from target)) false)
comes_outward old drive target from to (track0 ∷ lines) reach within =
    comes_later (with_motion old drive (Toward from target)) (with_motion old drive (Toward (from - 1) target))
    (with_motion old drive (Toward to target)) track0 false lines refl refl
    (gives_outward old drive target from track0 (omega arith))
    (comes_outward old drive target (from - 1) to lines (omega arith) within)

ends_on_target : (old : Seeking) (drive target : ℕ) (track0 : Bool)
    → EndsIn (with_motion old drive (Toward target target)) track0 (ended old drive target (sought drive))
ends_on_target old drive target track0 =
    let there : (target == target) ≡ true = grind (arith, nat_tests) in
    record { pulse = rw there refl; state = rw there refl }

-- the law of a SEEK, from the cylinder to which its device steps have brought it
seek_comes : (old : Seeking) (drive target from to : ℕ) (lines : List Bool) (inward : Bool)
    → nat_lt from target ≡ inward → (length lines ≡ distance from target → to ≡ target)
    → Comes (with_motion old drive (Toward from target)) lines inward (with_motion old drive (Toward to target))
    → let begun = with_motion old drive (Toward from target) in
    StepsOnly begun lines (nat_lt from target)
    × (length lines ≡ distance from target → (track0 : Bool)
    → EndsIn (after_steps begun lines) track0 (ended old drive target (sought drive)))
seek_comes old drive target from to lines inward way there comes =
    let begun = with_motion old drive (Toward from target) in (
      subst (λ b. StepsOnly begun lines b) (sym way) comes.steps,
      λ whole track0. subst (λ s. EndsIn s track0 (ended old drive target (sought drive)))
          (sym (comes.state ∙ ap (λ cylinder. with_motion old drive (Toward cylinder target)) (there whole)))
          (ends_on_target old drive target track0),
    )

pub seek_law : SeekLaw
seek_law old drive target lines within =
    let from = slice_index old.cylinders drive in
    elim (cases_lt from target) [
      | inl below ↦ seek_comes old drive target from (from + length lines) lines true
          (grind (arith, nat_tests)) (λ whole. omega arith)
          (comes_inward old drive target from (from + length lines) lines refl (omega arith))
      | inr above ↦ seek_comes old drive target from (from - length lines) lines false
          (grind (arith, nat_tests)) (λ whole. omega arith)
          (comes_outward old drive target from (from - length lines) lines (omega arith) (omega arith))
    ]

gives_another : (old : Seeking) (drive pulses : ℕ) → 0 < pulses
    → Gives (with_motion old drive (Outward pulses)) false false (with_motion old drive (Outward (pulses - 1)))
gives_another old drive pulses h =
    let some : (pulses == 0) ≡ false = grind (arith, nat_tests) in
    record { pulse = rw some refl; state = rw some refl }

comes_out : (old : Seeking) (drive pulses left steps : ℕ) → left + steps ≡ pulses
    → Comes (with_motion old drive (Outward pulses)) (replicate steps false) false (with_motion old drive (Outward left))
comes_out old drive pulses left zero sum =
    let here : pulses ≡ left = omega arith in
    subst (λ n. Comes (with_motion old drive (Outward pulses)) [] false (with_motion old drive (Outward n)))
    here (comes_at_once (with_motion old drive (Outward pulses)) false)
comes_out old drive pulses left (suc steps) sum =
    comes_later (with_motion old drive (Outward pulses)) (with_motion old drive (Outward (pulses - 1)))
    (with_motion old drive (Outward left)) false false (replicate steps false) refl refl
    (gives_another old drive pulses (omega arith))
    (comes_out old drive (pulses - 1) left steps (omega arith))

ends_at_track_0 : (old : Seeking) (drive left : ℕ) (track0 : Bool) → IsTrue track0 ⊎ (left ≡ 0)
    → EndsIn (with_motion old drive (Outward left)) track0 (ended old drive 0 (recalibrated drive track0))
ends_at_track_0 old drive left true why = record { pulse = refl; state = refl }
ends_at_track_0 old drive left false why =
    let none : (left == 0) ≡ true = grind (arith, nat_tests) in
    record { pulse = rw none refl; state = rw none refl }

pub recalibrate_law : RecalibrateLaw
recalibrate_law old drive steps within =
    let comes = comes_out old drive 79 (79 - steps) steps (omega arith) in (
      comes.steps,
      λ track0 why. subst (λ s. EndsIn s track0 (ended old drive 0 (recalibrated drive track0))) (sym comes.state)
          (ends_at_track_0 old drive (79 - steps) track0
          (elim why [ inl reached ↦ inl reached | inr most ↦ inr (omega arith) ])),
    )
