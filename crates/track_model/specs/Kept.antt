-- What a write over one data field leaves as it was.
use Rattle.std.specs.Prelude.{◌≡◌, ◌≢◌, ◌↔◌, ℕ, Bool, List}
use Rattle.flop_base.specs.declared.key.Chrn.{Chrn}
use Rattle.track_model.specs.declared.Look.{Look}
use Rattle.track_model.specs.declared.Look.TheVariants.{Found}
use Rattle.track_model.specs.Fields.{IsAddressAt, content_at}
use Rattle.track_model.specs.Looks.{LookAt}
use Rattle.track_model.specs.Regular.{IsSpaced, IsRegular}

-- a write behind the address field at p kept all address fields, the data of each other field, and the distances of the
-- sectors
pub record KeepsOthers (track after : List ℕ) (p : ℕ) : Type 0 where
  pub spaced : IsSpaced after
  pub regular : (c h : ℕ) → IsRegular track c h → IsRegular after c h
  pub addresses : (q : ℕ) (key : Chrn) → IsAddressAt track q key ↔ IsAddressAt after q key
  pub looks : (q : ℕ) (key : Chrn) (look : Look) → q ≢ p → IsAddressAt track q key
      → LookAt track q key.n look ↔ LookAt after q key.n look
  pub contents : (q : ℕ) (key : Chrn) (deleted : Bool) (place : ℕ) → q ≢ p → IsAddressAt track q key
      → LookAt track q key.n (Found deleted place) → content_at track place key.n ≡ content_at after place key.n
