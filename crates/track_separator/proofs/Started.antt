-- A separator that begins, and one at the end of a revolution.
use Rattle.std.proofs.Common.{ℕ, ◌*◌, List, [], length, arith}
use Rattle.track_separator.proofs.Common.{Seen, Nothing, Mark, Address, Stage, Hunting, TurnEnded, Waiting, Content, HasTail, HuntsIn, FollowsIn, HuntSeenIn, Stands, WantsIn}
use Rattle.track_separator.proofs.Bits.{blank_is}

pub blank_tail : (fed : List ℕ) → HasTail fed 340282366920938463463374607431768211455
blank_tail fed = (
  16 * length fed,
  record {
    within = omega arith;
    near = omega arith;
    no_zero = λ q low high. absurd (omega arith);
    kept = λ q low high. absurd (omega arith);
    ones = λ i low high. blank_is i high;
  },
)

pub blank_follows : FollowsIn [] 340282366920938463463374607431768211455 0 Hunting
blank_follows = record {
  hunts = blank_tail [];
  full = λ s low near none q l h. absurd (omega arith);
  followed = λ p bytes own now. let place = now.place in absurd (omega arith);
}

pub stands_of : (fed : List ℕ) (cells back : ℕ) (stage : Stage) (seen : Seen) → HuntSeenIn fed cells back stage seen → Stands fed seen
stands_of fed cells back stage Nothing h = tt
stands_of fed cells back stage Mark h = h
stands_of fed cells back stage (Address key) h = (h.0, h.1, h.2)
stands_of fed cells back stage _ h = absurd h

-- a separator that hunts asks for nothing
pub hunts_not_wants : (fed : List ℕ) (cells back : ℕ) (stage : Stage) → HuntsIn fed cells back stage → WantsIn stage → ⊥
hunts_not_wants fed cells back TurnEnded h w = h
hunts_not_wants fed cells back (Waiting size since marked) h w = h
hunts_not_wants fed cells back (Content size taken check touched) h w = h
hunts_not_wants fed cells back _ h w = w
