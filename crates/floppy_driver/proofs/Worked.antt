-- Working with a drive until its change line clears.
use Rattle.std.proofs.Common.{◌≡◌, ℕ, zero, suc, ◌-◌, ◌≤◌, Bool, true, false, List, Option, Some, None, IsSome, refl, sym, ap, ◌∙◌, arith}
use Rattle.floppy_driver.proofs.Common.{false≢true, Disk, Two, in_bay, DriveCounts, GoesOn, HeadsStay, IsDriven, goes_on_after, faults_go_on, Rig, OnlyAsks, set_bay, Notes, Driver, notes_of, bay_shown, with_waiting, shown, with_notes, IsAttached, Works, ClearsChange, OnlyReads}
use Rattle.floppy_driver.proofs.Rounds.{HasStayedSet}
use Rattle.floppy_driver.proofs.Shows.{IsNotedAt, noted_at, noted_later, spun_at, driven_after}
use Rattle.floppy_driver.proofs.RateFound.{spun_after}

works_stay : (old : Rig) (bay : ℕ) (new : Rig) → HeadsStay old new → new.media ≡ old.media → new.memory ≡ old.memory → GoesOn old.counters new.counters → Works bay old new
works_stay old bay new heads media memory counts = record {
  media = media;
  memory = memory;
  spun = heads.spun;
  other_cylinder = ap (λ (t : Two ℕ). in_bay t (1 - bay)) heads.cylinders;
  other_number = ap (λ (t : Two ℕ). in_bay t (1 - bay)) heads.numbers;
  other_change = ap (λ (t : Two Bool). in_bay t (1 - bay)) heads.changes;
  empty = λ none. ap (λ (t : Two Bool). in_bay t bay) heads.changes;
  counts = counts;
}

pub works_asked : (old : Rig) (bay : ℕ) (new : Rig) → OnlyAsks old new → Works bay old new
works_asked old bay new asks = works_stay old bay new asks.heads asks.media asks.memory asks.counts

pub works_read : (most : ℕ) (old : Rig) (bay : ℕ) (new : Rig) → OnlyReads most old new → Works bay old new
works_read most old bay new reads = works_stay old bay new reads.heads reads.media reads.memory reads.counts

pub works_after : (a : Rig) (bay : ℕ) (b c : Rig) → Works bay a b → Works bay b c → Works bay a c
works_after a bay b c one two = record {
  media = two.media ∙ one.media;
  memory = two.memory ∙ one.memory;
  spun = spun_after a.spun b.spun c.spun one.spun two.spun;
  other_cylinder = two.other_cylinder ∙ one.other_cylinder;
  other_number = two.other_number ∙ one.other_number;
  other_change = two.other_change ∙ one.other_change;
  empty = λ none. two.empty (ap (λ (t : Two (Option Disk)). in_bay t bay) one.media ∙ none) ∙ one.empty none;
  counts = goes_on_after a.counters b.counters c.counters one.counts two.counts;
}

-- ---- rounds of steps

module _ (start : Rig) (bay count : ℕ) (old : Rig) (stayed : HasStayedSet bay count start old) (reached : Bool) (mid : Rig) (clears : ClearsChange bay old reached mid) (new : Rig) (asks : OnlyAsks mid new) where
  pub works_round : Works bay start new
  works_round =
      works_after start bay old new stayed.works (works_after old bay mid new clears.works (works_asked mid bay new asks))

  pub driven_round : IsDriven 0 start.counters new.counters
  driven_round =
      let one = goes_on_after start.counters old.counters mid.counters stayed.works.counts clears.works.counts in
      driven_after 0 0 start.counters mid.counters new.counters one asks.counts
      (driven_after 0 0 start.counters old.counters mid.counters stayed.works.counts clears.works.counts stayed.driven clears.driven)
      asks.driven

  pub spun_round : IsSome (in_bay start.media bay) → in_bay new.spun bay ≡ true
  spun_round some = spun_at mid.spun new.spun bay asks.heads.spun (spun_at old.spun mid.spun bay clears.works.spun (stayed.spun some))

-- ---- what a drive that was worked with shows, and how it agrees with the notes

-- a clear change line shows that a medium is in
pub clear_is_full : (driver : Driver) (old : Rig) (bay : ℕ) (new : Rig) → IsAttached driver old → Works bay old new → in_bay new.changes bay ≡ false → (disk : Disk) × (in_bay old.media bay ≡ Some disk)
clear_is_full driver old bay new attached works clear = by_medium (in_bay old.media bay) refl
  where
    by_medium : (m : Option Disk) → in_bay old.media bay ≡ m → (disk : Disk) × (in_bay old.media bay ≡ Some disk)
    by_medium (Some disk) is = (disk, is)
    by_medium None is =
        absurd (false≢true (sym clear ∙ works.empty is ∙ (noted_at driver old bay attached).empty is))

pub noted_worked : (driver : Driver) (old : Rig) (bay : ℕ) (new : Rig) → IsAttached driver old → Works bay old new → IsNotedAt driver new (1 - bay)
noted_worked driver old bay new attached works =
    let other = 1 - bay in
    noted_later (notes_of driver other) _ _ _ _ _ _ _ _ _ _ _ _ (λ none. ap (λ (t : Two (Option Disk)). in_bay t other) (sym works.media) ∙ none)
    works.other_change (spun_at old.spun new.spun other works.spun) works.other_number works.other_cylinder
    (faults_go_on old.counters new.counters other works.counts) (noted_at driver old other attached)

pub worked_shown : (driver after : Driver) (old : Rig) (bay : ℕ) (new : Rig) (notes : Notes) (spares : ℕ) (waiting : List DriveCounts) → bay ≤ 1 → after ≡ with_notes driver bay notes → Works bay old new → shown after new spares waiting ≡ record (set_bay (shown driver old spares waiting) bay (bay_shown notes (in_bay new.media bay) (in_bay new.changes bay))) { counters = with_waiting new.counters waiting }
worked_shown driver after old zero new notes spares waiting in_range is works = rw (is, works.media, works.other_change, works.memory) refl
worked_shown driver after old (suc zero) new notes spares waiting in_range is works = rw (is, works.media, works.other_change, works.memory) refl
worked_shown driver after old (suc (suc n)) new notes spares waiting in_range is works = absurd (omega arith)
