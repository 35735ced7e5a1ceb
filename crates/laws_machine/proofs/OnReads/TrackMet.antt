-- The track that passes under the head.
use Rattle.std.proofs.Common.{◌≡◌, ℕ, ◌&&◌, nat_lt, Bool, Some, if◌then◌else◌, refl, sym, ◌∙◌, ap}
use Rattle.laws_machine.proofs.Common.{Chrn, track_of, IsAddressAt, rate_fits, Scene, head_sent, track_met, IsRecorded, unrecorded, same_rate, met_in, data_rate, outset_of, recorded_since}
use Rattle.flop_base.specs.declared.answers.Rate.{Rate}
use Rattle.flop_base.specs.declared.answers.Rate.TheVariants.{R500, R250}
use Rattle.sector_map.proofs.MetTracks.{rates_same}

fits_same : (a b : Rate) → rate_fits (data_rate a) b ≡ same_rate b a
fits_same R500 R500 = refl
fits_same R500 R250 = refl
fits_same R250 R500 = refl
fits_same R250 R250 = refl

pub met_is : (scene : Scene) (rate : Rate) → scene.rate ≡ data_rate rate → track_met scene ≡ met_in (Some scene.disk) rate scene.cylinder (head_sent scene.sent)
met_is scene rate at =
    ap (λ (fits : Bool). if nat_lt scene.cylinder scene.disk.cylinders && nat_lt (head_sent scene.sent) scene.disk.heads && fits then track_of scene.disk scene.cylinder (head_sent scene.sent) else unrecorded scene.disk.words_per_track)
    (ap (λ r. rate_fits r scene.disk.rate) at ∙ fits_same rate scene.disk.rate)

pub recorded : (scene : Scene) (p : ℕ) (key : Chrn) → IsAddressAt (track_met scene) p key → IsRecorded scene
recorded scene = recorded_since (outset_of scene)

pub rate_is : (scene : Scene) (rate : Rate) → scene.rate ≡ data_rate rate → IsRecorded scene → scene.disk.rate ≡ rate
rate_is scene rate at is = rates_same scene.disk.rate rate (sym (ap (λ r. rate_fits r scene.disk.rate) at ∙ fits_same rate scene.disk.rate) ∙ is.fits)
