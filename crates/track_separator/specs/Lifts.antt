-- What an event says of a whole revolution.
use Rattle.std.specs.Prelude.{ℕ, Bool, true, false}
use Rattle.track_model.specs.declared.Look.{Look}
use Rattle.track_model.specs.declared.Look.TheVariants.{Found, BadCrc}

-- the look at an address field whose data field is over
abbrev pub look_of : Bool → Bool → ℕ → Look
look_of true deleted place = Found deleted place
look_of false deleted place = BadCrc
