-- The track under a head of a drive, and where nothing is recorded.
use Rattle.std.proofs.Common.{◌≡◌, ℕ, Option, Some, None, IsSome, IfSome, MatchOption, ◌↔◌, List, length, refl, sym, ap, subst, ◌∙◌, arith, Bor}
use Rattle.test_driver.proofs.Common.{false≢true, Chrn, Code, Disk, IsDisk, HasTrack, track_of, Look, LookFor, met_in, MeetsTrack, HasNothing, length-track_of, nothing_there, met_track, Rate, IsUnderHead, RefusedAs, IsMissedOn}

recorded : (medium : Option Disk) (rate : Rate) (c h : ℕ) (disk : Disk) (track : List ℕ) → IsDisk disk → MeetsTrack medium rate c h disk → track ≡ track_of disk c h → IsUnderHead medium rate c h track
recorded medium rate c h disk track valid meets is =
    let long = ap length is ∙ length-track_of disk c h valid meets.has in
    record {
      disk = disk;
      meets = meets;
      is = is;
      met_is = met_track medium rate c h disk meets ∙ sym is;
      sized = let words = valid.words_per_track in (omega (arith, long), omega (arith, long));
    }

-- what the medium gives as its track
pub given_track : (medium : Option Disk) (rate : Rate) (c h : ℕ) (disk : Disk) → medium ≡ Some disk → (given : Option (Bor (List ℕ))) → IsDisk disk → disk.rate ≡ rate → (IsSome given ↔ HasTrack disk c h) → IfSome given (λ track. track.now ≡ track_of disk c h) → MatchOption given (HasNothing (met_in medium rate c h)) (λ track. IsUnderHead medium rate c h track.now)
given_track medium rate c h disk is None valid same found at = nothing_there medium rate c h disk is (λ has same. false≢true (found.1 has))
given_track medium rate c h disk is (Some track) valid same found at =
    recorded medium rate c h disk track.now valid (record { is_in = is; has = found.0 refl; same_rate = same }) at

pub refused_look : (medium : Option Disk) (rate : Rate) (c : ℕ) (track : List ℕ) (key : Chrn) (result looked : Look) (code : Code) → IsUnderHead medium rate c key.h track → LookFor track key result → result ≡ looked → RefusedAs looked code → IsMissedOn (met_in medium rate c key.h) key code
refused_look medium rate c track key result looked code under found is by_code =
    let On : List ℕ → Type 0 = λ words. LookFor words key looked in
    let Is : Look → Type 0 = λ answer. LookFor track key answer in
    record { looked = looked; is = subst On (sym under.met_is) (subst Is is found); by_code = by_code }
