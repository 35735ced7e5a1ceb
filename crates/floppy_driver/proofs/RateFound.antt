-- Looking for the rate of a medium.
use Rattle.std.proofs.Common.{◌≡◌, ℕ, ◌+◌, ◌*◌, ◌≤◌, Bool, false, List, Result, Ok, Err, IfErr, is_ok, sym, ◌∙◌, subst, arith, inl, inr}
use Rattle.floppy_driver.proofs.Common.{false≢true, cases_lt, last_count, Chrn, R500, R250, Code, Two, Counters, faults_of, IsFaultless, FaultsRoseBy, GoesOn, goes_on_after, faults_go_on, HasClearAddress, Rig, StaysSpun, track_under, SendsRead, ReadsId, OnlyReads, FindsRate}
use Rattle.floppy_driver.proofs.Rounds.{HasFoundNone}
use Rattle.floppy_driver.proofs.Shows.{driven_after, driven_within, heads_stay_after, same_under}

pub spun_after : (a b c : Two Bool) → StaysSpun a b → StaysSpun b c → StaysSpun a c
spun_after a b c one two = record { first = λ is. two.first (one.first is); second = λ is. two.second (one.second is) }

-- one more command
reads_more : (count most : ℕ) (a b c : Rig) → count + 1 ≤ most → OnlyReads count a b → SendsRead b c → c.memory ≡ b.memory → OnlyReads most a c
reads_more count most a b c few one two memory = record {
  heads = heads_stay_after a b c one.heads two.heads;
  media = two.media ∙ one.media;
  memory = memory ∙ one.memory;
  counts = goes_on_after a.counters b.counters c.counters one.counts two.counts;
  driven = driven_within (count + 1) most a.counters c.counters few (driven_after count 1 a.counters b.counters c.counters one.counts two.counts one.driven two.driven);
}

none_missed : (P : Type 0) (answer : Result Chrn Code) → is_ok answer ≡ false → IfErr answer (λ code. P) → P
none_missed P (Ok key) is missed = absurd (false≢true (sym is))
none_missed P (Err code) is missed = missed

has_fault : (bay : ℕ) (old new : Counters) → GoesOn old new → (IsFaultless bay old new → ⊥) → FaultsRoseBy 1 bay old new
has_fault bay old new goes not =
    let f = faults_go_on old new bay goes in
    elim (cases_lt (faults_of new bay) (faults_of old bay + 1)) [
      | inl few ↦ elim (cases_lt (faults_of new bay) last_count) [
        | inl below ↦ absurd (not (few, below))
        | inr full ↦ omega arith
      ]
      | inr many ↦ omega arith
    ]

module _ (start : Rig) (bay round : ℕ) (before : Rig) (none : HasFoundNone bay round start before) (first : Result Chrn Code) (middle : Rig) (single : ReadsId bay 0 R500 before first middle) where
  module _ (second : Result Chrn Code) (after : Rig) (double : ReadsId bay 0 R250 middle second after) where
    both_read : (most : ℕ) → 2 * round + 2 ≤ most → OnlyReads most start after
    both_read most few =
        let one = reads_more (2 * round) (2 * round + 1) start before middle (omega arith) none.reads single.sends single.memory in
        reads_more (2 * round + 1) most start middle after (omega arith) one double.sends double.memory

    middle_track : track_under middle bay R250 0 ≡ track_under start bay R250 0
    middle_track =
        same_under start middle bay R250 0 (single.sends.media ∙ none.reads.media) (single.sends.heads.cylinders ∙ none.reads.heads.cylinders)

    -- an address field was found at neither rate
    pub found_neither : is_ok second ≡ false → HasFoundNone bay (round + 1) start after
    found_neither is = record {
      reads = both_read (2 * (round + 1)) (omega arith);
      spoilt = λ key clear.
          let there = subst (λ (t : List ℕ). HasClearAddress t key) (sym middle_track) clear in
          let missed : IsFaultless bay middle.counters after.counters → (k : Chrn) → HasClearAddress (track_under middle bay R250 0) k → ⊥ =
          none_missed (IsFaultless bay middle.counters after.counters → (k : Chrn) → HasClearAddress (track_under middle bay R250 0) k → ⊥) second is double.refused in
          let more = has_fault bay middle.counters after.counters double.sends.counts (λ quiet. missed quiet key there) in
          let so_far = none.spoilt key clear in
          let f = faults_go_on before.counters middle.counters bay single.sends.counts in
          omega arith;
    }

-- no address field was found
pub found_no_rate : (start : Rig) (bay : ℕ) (now : Rig) → HasFoundNone bay 3 start now → FindsRate bay start R500 now
found_no_rate start bay now none = record {
  reads = none.reads;
  double = λ e. absurd (cc e);
  single = λ e. inr none.spoilt;
}
