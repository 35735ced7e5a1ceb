-- The tracks of a disk.
use Rattle.std.proofs.Common.{◌≡◌, ◌↔◌, ℕ, Bool, IsTrue, List, sym, subst}
use Rattle.sector_map.proofs.Common.{Chrn, Disk, HasTrack, track_of, Look, LookFor, IsRegular, LookOn}

pub look_there : (disk : Disk) (key : Chrn) (look : Look) (words : List ℕ) → words ≡ track_of disk key.c key.h → HasTrack disk key.c key.h → LookFor words key look → LookOn disk key look
look_there disk key look words is has found = record {
  there = λ h. let On : List ℕ → Type 0 = λ ws. LookFor ws key look in subst On is found;
  absent = λ none. absurd (none has);
}

pub regular_there : (disk : Disk) (c h : ℕ) (b : Bool) (words : List ℕ) → words ≡ track_of disk c h → HasTrack disk c h → (IsTrue b ↔ IsRegular words c h) → IsTrue b ↔ (HasTrack disk c h → IsRegular (track_of disk c h) c h)
regular_there disk c h b words is has regular =
    let On : List ℕ → Type 0 = λ ws. IsRegular ws c h in
    (λ t there. subst On is (regular.0 t), λ each. regular.1 (subst On (sym is) (each has)))
