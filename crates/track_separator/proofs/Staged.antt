-- What a separator at each of its stages says of places in the words fed.
use Rattle.std.proofs.Common.{ℕ, ◌+◌, ◌*◌, ◌<◌, ◌≤◌, Bool, List, length, arith}
use Rattle.track_separator.proofs.Common.{IsDataMark, IsFirstDataMark, Stage, Waiting, Content, EndsInLast, WaitsIn, ReadsIn}

pub waits_at : (fed : List ℕ) (cells back p size : ℕ) (stage : Stage) → WaitsIn fed cells back p size stage → (p + 160 ≤ 16 * length fed) × (16 * length fed ≤ p + 160 + 1022) × ((q : ℕ) (deleted : Bool) → IsDataMark fed p q deleted → ⊥)
waits_at fed cells back p size (Waiting asked since marked) h =
    let place = h.1.place in
    let early = h.1.early in
    (omega arith, omega arith, h.1.none)
waits_at fed cells back p size _ h = absurd h

pub reads_first : (fed : List ℕ) (cells back p q : ℕ) (deleted : Bool) (size taken : ℕ) (stage : Stage) → ReadsIn fed cells back p q deleted size taken stage → IsFirstDataMark fed p q deleted
reads_first fed cells back p q deleted size taken (Content asked passed check touched) h = h.2.first
reads_first fed cells back p q deleted size taken _ h = absurd h

pub reads_at : (fed : List ℕ) (cells back p q : ℕ) (deleted : Bool) (size taken : ℕ) (stage : Stage) → back < 16 → ReadsIn fed cells back p q deleted size taken stage → EndsInLast fed (q + 64 + 16 * taken) × (taken ≤ size + 1)
reads_at fed cells back p q deleted size taken (Content asked passed check touched) small h =
    let place = h.2.place in
    (record { inside = omega arith; last = omega arith }, h.2.most)
reads_at fed cells back p q deleted size taken _ small h = absurd h
