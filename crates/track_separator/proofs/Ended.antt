-- The end of a revolution while a data field is asked for.
use Rattle.std.proofs.Common.{ℕ, ◌+◌, ◌<◌, ◌≤◌, Bool, false, List, arith}
use Rattle.track_separator.proofs.Common.{IsDataMark, one_first, Seen, Nothing, Mode, Byte, End, NoData, Stage, Waiting, Content, IsAddressed, IsWaiting, WaitsIn, ReadsIn, IsUnfinished, WaitSeenIn, ReadSeenIn, SWaitCut, SReadCut, WantsIn}
use Rattle.track_separator.proofs.Started.{hunts_not_wants}

-- right after an address field, no data mark has come
pub right_behind : (fed : List ℕ) (cells back p : ℕ) → back < 16 → IsAddressed fed cells back p → IsWaiting fed cells back p back false
right_behind fed cells back p small address =
    let here = address.place in
    record {
      place = here;
      early = omega arith;
      tail = address.tail;
      full = address.full;
      none = λ q deleted mark. let after = mark.after in let inside = mark.run.sound.inside in omega arith;
      pending = λ q own low now. let place = now.place in omega arith;
    }

no_mark_unfinished : (fed : List ℕ) (p size : ℕ) → ((q : ℕ) (deleted : Bool) → IsDataMark fed p q deleted → ⊥) → IsUnfinished fed p size
no_mark_unfinished fed p size none q deleted ended = none q deleted ended.first.mark

waits_off : (fed : List ℕ) (cells back p size : ℕ) (stage : Stage) → WaitsIn fed cells back p size stage → IsUnfinished fed p size
waits_off fed cells back p size (Waiting asked since marked) h = no_mark_unfinished fed p size h.1.none
waits_off fed cells back p size _ h = absurd h

-- a field that is being read isn't over
reads_off : (fed : List ℕ) (cells back p q : ℕ) (deleted : Bool) (size taken : ℕ) (stage : Stage) → back < 16 → taken ≤ size + 1 → ReadsIn fed cells back p q deleted size taken stage → IsUnfinished fed p size
reads_off fed cells back p q deleted size taken (Content asked passed check touched) small most h = λ r other ended.
    let now = h.2 in
    let place = now.place in
    let same = one_first fed p r q other deleted ended.first now.first in
    let inside = ended.inside in
    omega arith
reads_off fed cells back p q deleted size taken _ small most h = absurd h

pub waits_unfinished : (fed : List ℕ) (p size cells back : ℕ) (stage : Stage) (seen : Seen) → back < 16 → WaitSeenIn fed p size cells back stage seen → IsUnfinished fed p size
waits_unfinished fed p size cells back stage Nothing small h = waits_off fed cells back p size stage h
waits_unfinished fed p size cells back stage (Mode deleted) small h = reads_off fed cells back p h.0 deleted size 0 stage small (omega arith) h.1
waits_unfinished fed p size cells back stage NoData small h = no_mark_unfinished fed p size h.0.none
waits_unfinished fed p size cells back stage _ small h = absurd h

waits_want : (fed : List ℕ) (cells back p size : ℕ) (stage : Stage) → WaitsIn fed cells back p size stage → WantsIn stage
waits_want fed cells back p size (Waiting asked since marked) h = tt
waits_want fed cells back p size _ h = absurd h

reads_want : (fed : List ℕ) (cells back p q : ℕ) (deleted : Bool) (size taken : ℕ) (stage : Stage) → ReadsIn fed cells back p q deleted size taken stage → WantsIn stage
reads_want fed cells back p q deleted size taken (Content asked passed check touched) h = tt
reads_want fed cells back p q deleted size taken _ h = absurd h

-- if nothing is asked for any more after the word, the event stays as it is at the end of the revolution
pub waits_over : (fed : List ℕ) (p size cells back : ℕ) (stage : Stage) (seen : Seen) → (WantsIn stage → ⊥) → WaitSeenIn fed p size cells back stage seen → SWaitCut fed p size seen
waits_over fed p size cells back stage Nothing over h = over (waits_want fed cells back p size stage h)
waits_over fed p size cells back stage (Mode deleted) over h = over (reads_want fed cells back p h.0 deleted size 0 stage h.1)
waits_over fed p size cells back stage NoData over h = no_mark_unfinished fed p size h.0.none
waits_over fed p size cells back stage _ over h = h

pub reads_unfinished : (fed : List ℕ) (p q : ℕ) (deleted : Bool) (size taken cells back : ℕ) (stage : Stage) (seen : Seen) → back < 16 → WantsIn stage → ReadSeenIn fed p q deleted size taken cells back stage seen → IsUnfinished fed p size
reads_unfinished fed p q deleted size taken cells back stage (Byte value) small wants h =
    let less = h.0 in reads_off fed cells back p q deleted size (taken + 1) stage small (omega arith) h.2
reads_unfinished fed p q deleted size taken cells back stage Nothing small wants h =
    let last = h.0 in reads_off fed cells back p q deleted size (taken + 1) stage small (omega arith) h.1
reads_unfinished fed p q deleted size taken cells back stage (End good) small wants h = absurd (hunts_not_wants fed cells back stage h.3 wants)
reads_unfinished fed p q deleted size taken cells back stage _ small wants h = absurd h

pub reads_over : (fed : List ℕ) (p q : ℕ) (deleted : Bool) (size taken cells back : ℕ) (stage : Stage) (seen : Seen) → (WantsIn stage → ⊥) → ReadSeenIn fed p q deleted size taken cells back stage seen → SReadCut fed p q deleted size taken seen
reads_over fed p q deleted size taken cells back stage (Byte value) over h = over (reads_want fed cells back p q deleted size (taken + 1) stage h.2)
reads_over fed p q deleted size taken cells back stage Nothing over h = over (reads_want fed cells back p q deleted size (taken + 1) stage h.1)
reads_over fed p q deleted size taken cells back stage (End good) over h = (h.0, h.1, h.2)
reads_over fed p q deleted size taken cells back stage NoData over h = absurd h
reads_over fed p q deleted size taken cells back stage _ over h = h
