-- Parts of scripts. Each part is given what follows it, as a function of what the part found.
use Rattle.std.specs.Prelude.{ℕ, List, [], ◌∷◌, unwrap_or}
use Rattle.std.specs.List.{range_with_len}
use Rattle.commands.specs.Common.{Rate, Request, Reply, bay_of, State, shape_in}
use Rattle.flop_base.specs.declared.answers.Rate.TheVariants.{R500, R250}
use Rattle.floppy_jobs.specs.declared.request.Request.TheVariants as request
use Rattle.floppy_session.specs.declared.shape.Shape.{Shape}
use Rattle.commands.specs.Scripts.{Script, Says, Asks, MayStarve, unless_refused}

-- a part of a script finds a value, and the rest goes on by that value
abbrev pub Part : Type 0 → Type 0
Part Found = (Found → Script) → Script

-- a request, whatever its answer
unfoldable pub asks : Request → (Reply → State → Script) → Script
asks asked rest = Asks asked rest

-- a request that the script can't go on without
unfoldable pub needs : Request → (Reply → State → Script) → Script
needs asked rest = Asks asked (λ answer after. unless_refused asked answer (rest answer after))

-- a request that the script can't go on without, and whose answer says nothing more
unfoldable pub carries : Request → Part (Unit {0})
carries asked rest = needs asked (λ answer after. rest tt)

-- a line is printed
unfoldable pub says : List ℕ → Part (Unit {0})
says line rest = Says line (rest tt)

-- a place where memory may run out
unfoldable pub may_starve : Part (Unit {0})
may_starve rest = MayStarve (rest tt)

-- the shape of an empty bay: no tracks
abbrev pub no_tracks : Shape
no_tracks = record { cylinders = 0; heads = 0; words = 0; rate = R500 }

-- the shape of what is in a bay
abbrev pub shape_at : State → ℕ → Shape
shape_at state bay = unwrap_or (shape_in (bay_of state.station bay)) no_tracks

-- the disk of a name is put into bay 0, and its shape is found
unfoldable pub opens : List ℕ → Part Shape
opens name rest = needs (request.Insert 0 name) (λ answer after. rest (shape_at after 0))

-- the requests that set an acknowledged bay to a rate: none for 500 kbit/s, which it has already, and one for 250
-- kbit/s
abbrev pub rate_requests : Rate → ℕ → List Request
rate_requests R500 bay = []
rate_requests R250 bay = request.SetRate bay R250 ∷ []

-- a bay is set to a rate; after an acknowledgement, 500 kbit/s needs no request
unfoldable pub sets_rate : ℕ → Rate → Part (Unit {0})
sets_rate bay R500 rest = rest tt
sets_rate bay R250 rest = carries (request.SetRate bay R250) rest

-- a bay is acknowledged, and set to the rate of its medium
unfoldable pub acknowledges : ℕ → Rate → Part (Unit {0})
acknowledges bay rate rest = carries (request.Ack bay) (λ none. sets_rate bay rate rest)

-- a part for each thing of a list, with what was found so far
unfoldable pub through : {Thing Found : Type 0} → (Thing → Found → Part Found) → List Thing → Found → Part Found
through part [] found rest = rest found
through part (thing ∷ things) found rest = part thing found (λ now. through part things now rest)

-- a part for so many numbers from one on
unfoldable pub each : {Found : Type 0} → ℕ → ℕ → (ℕ → Found → Part Found) → Found → Part Found
each start count part found rest = through part (range_with_len start count) found rest

-- a part for each track, by cylinder, then head
abbrev pub by_track : {Found : Type 0} → ℕ → ℕ → (ℕ → ℕ → Found → Part Found) → Found → Part Found
by_track cylinders heads part found rest = each 0 cylinders (λ c. each 0 heads (part c)) found rest

-- a track of a bay is formatted
abbrev pub formats : ℕ → ℕ → ℕ → Unit {0} → Part (Unit {0})
formats bay c h none = carries (request.Format bay c h)
