-- The order of a write's refusals.
use Rattle.std.proofs.Common.{◌≡◌, ℕ, Bool, true, false, List, Option, Result, sym, ap, ◌∙◌}
use Rattle.floppy_driver.proofs.Common.{option_map_or, Chrn, Code, Changed, Protected, Disk, content_size, Two, in_bay, DriveCounts, goes_on_after, Rig, OnlyAsks, Bay, StationState, is_sector_request, crosses_page, is_acknowledged, is_protected, IsRefusedAtOnce, WritesDrive, WritesTo, written_from, Driver, shown, HasAsked}
use Rattle.floppy_driver.proofs.Shows.{driven_after, bay_shown_at}

-- one question and then another
pub asked_twice : (a b c : StationState) → HasAsked a b → HasAsked b c → HasAsked a c
asked_twice a b c first second = record {
  stays = second.stays ∙ ap (λ (s : StationState). record s { counters = c.counters }) first.stays;
  counts = goes_on_after a.counters b.counters c.counters first.counts second.counts;
  idle = driven_after 0 0 a.counters b.counters c.counters first.counts second.counts first.idle second.idle;
}

-- a medium is shown with its protection
pub protection_shown : (driver : Driver) (rig : Rig) (spares : ℕ) (waiting : List DriveCounts) (bay : ℕ) (later : Rig) → OnlyAsks rig later → is_protected (shown driver rig spares waiting) bay ≡ option_map_or (λ disk. disk.protected) (in_bay later.media bay) false
protection_shown driver rig spares waiting bay later asks =
    let Protection : Option Disk → Bool = λ m. option_map_or (λ disk. disk.protected) m false in
    ap (λ (b : Bay). Protection b.medium) (bay_shown_at driver rig spares waiting bay) ∙ ap (λ (t : Two (Option Disk)). Protection (in_bay t bay)) (sym asks.media)

module _ (old : StationState) (bay : ℕ) (key : Chrn) (address : ℕ) (deleted : Bool) (answer : Result (Unit {0}) Code) (new : StationState) (asked : is_sector_request bay key address ≡ true) (page : crosses_page address (content_size key.n) ≡ false) where
  pub writes_refused : is_acknowledged old bay ≡ false → IsRefusedAtOnce Changed old answer new → WritesTo bay key address deleted old answer new
  writes_refused is step = rw (asked, page, is) step

  pub writes_protected : is_acknowledged old bay ≡ true → is_protected old bay ≡ true → IsRefusedAtOnce Protected old answer new → WritesTo bay key address deleted old answer new
  writes_protected is guarded step = rw (asked, page, is, guarded) step

  pub writes_drive : is_acknowledged old bay ≡ true → is_protected old bay ≡ false → WritesDrive (written_from old key address deleted) bay old answer new → WritesTo bay key address deleted old answer new
  writes_drive is guarded step = rw (asked, page, is, guarded) step
