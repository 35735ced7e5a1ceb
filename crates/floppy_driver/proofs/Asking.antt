-- Calls that only ask, and calls that set the rate of a bay.
use Rattle.std.proofs.Common.{◌≡◌, ℕ, ◌≤◌, Bool, true, false, List, Option, Result, Ok, Err, refl, sym, ap, ◌∙◌, arith}
use Rattle.std.specs.Prelude.{not}
use Rattle.floppy_driver.proofs.Common.{le-leb, Disk, Rate, Code, Changed, Two, in_bay, CostsUpTo, DriveCounts, CostsFor, Rig, OnlyAsks, Bay, StationState, bay_of, set_bay, is_acknowledged, IsRefusedAtOnce, SetsRate, RatesTo, TellsChange, Notes, Driver, notes_of, is_held, bay_shown, with_waiting, shown, with_notes, HasAsked}
use Rattle.floppy_driver.proofs.Lasting.{asking_costs, question_costs}
use Rattle.floppy_driver.proofs.Shows.{held_bay, held_shown, held_bay_shown, acknowledged_held, asks_shown, noted_shown}

-- a refusal that follows a question
pub refused_asking : {A : Type 0} (old : StationState) (code : Code) (new : StationState) → HasAsked old new → CostsUpTo 0 6 old.counters new.counters → IsRefusedAtOnce {A = A} code old (Err code) new
refused_asking old code new asked costs = record { refused = refl; stays = asked.stays; idle = asked.idle; costs = costs }

pub tells_change : (driver after : Driver) (old new : Rig) (bay : ℕ) (held : Bool) (spares : ℕ) (waiting : List DriveCounts) → held ≡ is_held (notes_of driver bay) (in_bay old.changes bay) → shown after old spares waiting ≡ shown driver old spares waiting → OnlyAsks old new → CostsFor bay 0 0 2 old new → TellsChange bay (shown driver old spares waiting) (not held) (shown after new spares waiting)
tells_change driver after old new bay held spares waiting is same asks costs =
    let asked = asks_shown driver after old new spares waiting same asks in
    record {
      changed = ap not (is ∙ sym (acknowledged_held driver old spares waiting bay));
      stays = asked.stays;
      idle = asked.idle;
      costs = asking_costs bay 2 old new costs;
    }

module _ (old : StationState) (bay : ℕ) (rate : Rate) (answer : Result (Unit {0}) Code) (new : StationState) (in_range : bay ≤ 1) where
  rates_refused : is_acknowledged old bay ≡ false → IsRefusedAtOnce Changed old answer new → RatesTo bay rate old answer new
  rates_refused is step = rw (le-leb bay 1 in_range, is) step

  rates_done : is_acknowledged old bay ≡ true → SetsRate bay rate old answer new → RatesTo bay rate old answer new
  rates_done is step = rw (le-leb bay 1 in_range, is) step

module _ (driver middle after : Driver) (old new : Rig) (bay : ℕ) (rate : Rate) (spares : ℕ) (waiting : List DriveCounts) (in_range : bay ≤ 1) (same : shown middle old spares waiting ≡ shown driver old spares waiting) (asks : OnlyAsks old new) (costs : CostsFor bay 0 0 2 old new) where
  pub rate_refused : is_held (notes_of driver bay) (in_bay old.changes bay) ≡ false → RatesTo bay rate (shown driver old spares waiting) (Err Changed) (shown middle new spares waiting)
  rate_refused held =
      rates_refused (shown driver old spares waiting) bay rate (Err Changed) (shown middle new spares waiting) in_range
      (acknowledged_held driver old spares waiting bay ∙ held)
      (refused_asking (shown driver old spares waiting) Changed (shown middle new spares waiting) (asks_shown driver middle old new spares waiting same asks)
      (question_costs bay 2 old new (omega arith) costs))

  pub rate_done : is_held (notes_of driver bay) (in_bay old.changes bay) ≡ true → after ≡ with_notes middle bay (record (notes_of middle bay) { rate = rate }) → RatesTo bay rate (shown driver old spares waiting) (Ok tt) (shown after new spares waiting)
  rate_done held is =
      let before = shown driver old spares waiting in
      let notes = notes_of middle bay in
      let rated : Notes = record notes { rate = rate } in
      let asked = asks_shown driver middle old new spares waiting same asks in
      let acknowledged : is_acknowledged before bay ≡ true = acknowledged_held driver old spares waiting bay ∙ held in
      let still : is_held notes (in_bay old.changes bay) ≡ true = sym (acknowledged_held middle old spares waiting bay) ∙ ap (λ (s : StationState). is_acknowledged s bay) same ∙ acknowledged in
      let line : in_bay new.changes bay ≡ in_bay old.changes bay = ap (λ (t : Two Bool). in_bay t bay) asks.heads.changes in
      let now_held : is_held rated (in_bay new.changes bay) ≡ true = ap (λ (b : Bool). is_held notes b) line ∙ still in
      let was : bay_of before bay ≡ held_bay notes (in_bay old.media bay) = ap (λ (s : StationState). bay_of s bay) (sym same) ∙ held_bay_shown middle old spares waiting bay still in
      let is_now : bay_shown rated (in_bay new.media bay) (in_bay new.changes bay) ≡ record (bay_of before bay) { rate = rate } =
      held_shown rated (in_bay new.media bay) (in_bay new.changes bay) now_held
      ∙ ap (λ (m : Two (Option Disk)). held_bay rated (in_bay m bay)) asks.media
      ∙ ap (λ (b : Bay). record b { rate = rate }) (sym was) in
      rates_done before bay rate (Ok tt) (shown after new spares waiting) in_range acknowledged
      (record {
        done = refl;
        becomes =
            noted_shown middle after new spares waiting bay rated is
            ∙ ap (λ (s : StationState). set_bay s bay (bay_shown rated (in_bay new.media bay) (in_bay new.changes bay))) asked.stays
            ∙ ap (λ (b : Bay). record (set_bay before bay b) { counters = with_waiting new.counters waiting }) is_now;
        idle = asked.idle;
        costs = asking_costs bay 2 old new costs;
      })
