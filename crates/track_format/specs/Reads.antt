-- What a read finds on a formatted track.
use Rattle.std.specs.Prelude.{◌≡◌, ℕ, Bool, false, List, replicate}
use Rattle.flop_base.specs.declared.key.Chrn.{Chrn}
use Rattle.track_model.specs.declared.Look.TheVariants.{Found}
use Rattle.track_model.specs.Fields.{IsAddressAt, content_at, content_size}
use Rattle.track_model.specs.Looks.{LookAt}
use Rattle.track_model.specs.Sectors.{IsClear, IsUnder}

-- the track has a Clear address field of the key
abbrev pub HasClearField : List ℕ → Chrn → Type 0
HasClearField track key = (p : ℕ) × IsClear track p × IsAddressAt track p key

-- the look at each address field of the key finds data that isn't deleted, and all of the data are the fill byte
abbrev pub AllFilled : List ℕ → Chrn → ℕ → Type 0
AllFilled track key fill =
    (p : ℕ) → IsAddressAt track p key
    → (place : ℕ) × LookAt track p key.n (Found false place) × (content_at track place key.n ≡ replicate (content_size key.n) fill)

-- whatever stands whole behind an address field of the key isn't deleted, and all of it is the fill byte
abbrev pub HoldsFill : List ℕ → Chrn → ℕ → Type 0
HoldsFill track key fill =
    (deleted : Bool) (content : List ℕ) → IsUnder track key deleted content
    → (deleted ≡ false) × (content ≡ replicate (content_size key.n) fill)
