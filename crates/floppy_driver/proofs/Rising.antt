-- How counts rise in a call and in its parts.
use Rattle.std.proofs.Common.{ℕ, ◌+◌, ◌⊎◌, List, Result, Ok, Err, IfErr, arith, inl, inr}
use Rattle.floppy_driver.proofs.Common.{cases_lt, RoseBy, Code, IsAttemptRefusal, Counters, DriveCounts, with_waiting, faults_of, FaultsRoseBy, FaultsRoseLess, DisturbedLess, IsUndisturbed, GoesOn, faults_go_on}

-- a call with two parts
module _ (bay : ℕ) (a b c : Counters) (one : GoesOn a b) (two : GoesOn b c) where
  pub less_first : (n : ℕ) → FaultsRoseLess n bay a c → FaultsRoseLess n bay a b
  less_first n less =
      let g = faults_go_on b c bay two in
      let p = less.0 in
      let q = less.1 in
      (omega arith, omega arith)

  pub less_later : (n : ℕ) → FaultsRoseLess n bay a c → FaultsRoseLess n bay b c
  less_later n less =
      let f = faults_go_on a b bay one in
      let p = less.0 in
      (omega arith, less.1)

  -- with less than two faults in the whole call, one part has none
  pub less_than_two : FaultsRoseLess 2 bay a c → FaultsRoseLess 1 bay a b ⊎ FaultsRoseLess 1 bay b c
  less_than_two less =
      let f = faults_go_on a b bay one in
      let g = faults_go_on b c bay two in
      let p = less.0 in
      let q = less.1 in
      elim (cases_lt (faults_of b bay) (faults_of a bay + 1)) [
        | inl few ↦ inl (few, omega arith)
        | inr many ↦ inr (omega arith, q)
      ]

  pub disturbed_first : (n : ℕ) → DisturbedLess n bay a c → DisturbedLess n bay a b
  disturbed_first n less =
      let g = faults_go_on b c bay two in
      let t = two.stalls in
      record {
        faults = let q = less.faults in omega arith;
        stalls = let q = less.stalls in omega arith;
        together = let q = less.together in omega arith;
      }

  pub disturbed_later : (n : ℕ) → DisturbedLess n bay a c → DisturbedLess n bay b c
  disturbed_later n less =
      let f = faults_go_on a b bay one in
      let s = one.stalls in
      record {
        faults = less.faults;
        stalls = less.stalls;
        together = let q = less.together in omega arith;
      }

  pub rose_later : (n : ℕ) → FaultsRoseBy n bay b c → FaultsRoseBy n bay a c
  rose_later n rose = let f = faults_go_on a b bay one in omega arith

  pub stalls_later : (n : ℕ) → RoseBy n b.stalls c.stalls → RoseBy n a.stalls c.stalls
  stalls_later n rose = let s = one.stalls in omega arith

  pub commands_later : (n : ℕ) → RoseBy n b.data_commands c.data_commands → RoseBy n a.data_commands c.data_commands
  commands_later n rose = let s = one.data_commands in omega arith

  -- why a format was refused, seen from earlier counts, whatever spare drives wait
  pub refusal_later : (before after : List DriveCounts) (answer : Result (Unit {0}) Code) → IfErr answer (λ code. IsAttemptRefusal bay b code c) → IfErr answer (λ code. IsAttemptRefusal bay (with_waiting a before) code (with_waiting c after))
  refusal_later before after (Ok is) refused = tt
  refusal_later before after (Err code) refused = record {
    device = refused.device;
    undisturbed = λ quiet. refused.undisturbed (disturbed_later 1 (record { faults = quiet.faults; stalls = quiet.stalls; together = quiet.together }));
    overrun = λ e. stalls_later 1 (refused.overrun e);
    lost = λ e. rose_later 77 (refused.lost e);
    sent = λ other. commands_later 1 (refused.sent other);
    read_back = λ which. commands_later 2 (refused.read_back which);
  }

-- an undisturbed call has no stall and no lost pulse
module _ (bay : ℕ) (a b : Counters) (goes : GoesOn a b) (quiet : IsUndisturbed bay a b) where
  pub quiet_stalls : RoseBy 1 a.stalls b.stalls → ⊥
  quiet_stalls rose =
      let f = faults_go_on a b bay goes in
      let q = quiet.together in
      let r = quiet.stalls in
      omega arith

  pub quiet_lost : FaultsRoseBy 77 bay a b → ⊥
  quiet_lost rose =
      let s = goes.stalls in
      let q = quiet.together in
      let r = quiet.faults in
      omega arith
