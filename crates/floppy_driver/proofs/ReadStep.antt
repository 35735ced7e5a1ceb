-- The order of a read's refusals.
use Rattle.std.proofs.Common.{◌≡◌, ℕ, Bool, true, false, Result}
use Rattle.floppy_driver.proofs.Common.{Chrn, Code, Changed, content_size, StationState, is_sector_request, crosses_page, is_acknowledged, IsRefusedAtOnce, ReadsDrive, Reads}

module _ (old : StationState) (bay : ℕ) (key : Chrn) (address : ℕ) (answer : Result Bool Code) (new : StationState) (asked : is_sector_request bay key address ≡ true) (page : crosses_page address (content_size key.n) ≡ false) where
  pub reads_refused : is_acknowledged old bay ≡ false → IsRefusedAtOnce Changed old answer new → Reads bay key address old answer new
  reads_refused is step = rw (asked, page, is) step

  pub reads_drive : is_acknowledged old bay ≡ true → ReadsDrive bay key address old answer new → Reads bay key address old answer new
  reads_drive is step = rw (asked, page, is) step
