use Rattle.std.proofs.Common.{◌≡◌, ◌+◌, ◌-◌, ◌<◌, ◌≤◌, List, ℕ, length, lt-ltb, refl, sym, ap, ◌∙◌, arith}
use Rattle.drive_model.specs.Drive.{words_on, track_words}
use Rattle.drive_model.specs.Mechanics.{faultless}
use Rattle.drive_model.proofs.Alone.{fast_ahead}
use Rattle.drive_model.proofs.mechanics.Mechanics.ahead.Goals as goal

pub returns-in-Some-track-clause-ahead : goal.returns-in-Some-track-clause-ahead
returns-in-Some-track-clause-ahead c =
    let s = faultless c.args.self.now in
    let track : List ℕ = c.in-Some-track.track.now in
    let found = c.in-Some-track.ensures.found.0 refl in
    let same : track ≡ words_on s.medium s.cylinder c.args.head =
    rw (c.in-Some.is, lt-ltb _ _ found.0, lt-ltb _ _ found.1) c.in-Some-track.ensures.track in
    let long : length track ≡ track_words s.medium = c.in-Some-track.ensures.length ∙ ap track_words (sym c.in-Some.is) in
    let some : 64 ≤ track_words s.medium = rw c.in-Some.is c.in-Some-track.ensures.valid.words_per_track.0 in
    let within : s.place + (length track - 1 - s.place) < track_words s.medium = omega (arith, long, some, c.args.self.now.on_the_track) in
    fast_ahead (length track - 1 - s.place) c.args.head track s (sym (c.if-not-is_at_speed.ensures)) same long within
