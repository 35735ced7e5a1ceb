-- The turns of a loop over numbers.
use Rattle.std.proofs.Common.{rules, arith, ◌≡◌, ◌<◌, ◌≤◌, ℕ, zero, suc, ◌+◌, ◌-◌, refl, ap, ◌∙◌, sym, subst, Ok, Err, Result}
use Rattle.commands.proofs.Common.{Status, World, Script, Part, Leads, Goes, IsAtTurn, Hand, IsSameHand, IsAmid, IsTurning, RanPart}
use Rattle.commands.specs.Parts.{through, each}

-- the first turn, and the others
each_more : {Found : Type 0} (i n : ℕ) (part : ℕ → Found → Part Found) (found : Found) (rest : Found → Script)
    → each i (suc n) part found rest ≡ part i found (λ now. each (i + 1) n part now rest)
unfolding each through
each_more i n part found rest = refl

turn_is : {Found : Type 0} (i n : ℕ) (part : ℕ → Found → Part Found) (found : Found) (rest : Found → Script) → 1 ≤ n
    → each i n part found rest ≡ part i found (λ now. each (i + 1) (n - 1) part now rest)
turn_is i zero part found rest some = absurd (omega (arith, some))
turn_is i (suc n) part found rest some =
    let left : n ≡ suc n - 1 = omega arith in
    each_more i n part found rest
    ∙ ap (λ k. part i found (λ now. each (i + 1) k part now rest)) left

none_left : {Found : Type 0} (i : ℕ) (part : ℕ → Found → Part Found) (found : Found) (rest : Found → Script) → each i 0 part found rest ≡ rest found
unfolding each through
none_left i part found rest = refl

-- the loop begins
pub turn_begins : {Found : Type 0} (first count : ℕ) (part : ℕ → Found → Part Found) (begun : Found) (old : World)
    → IsAtTurn first count part begun old first begun old
turn_begins first count part begun old whole start rest leads =
    let all : first + count - first ≡ count = omega arith in
    subst (λ k. Leads whole start (each first k part begun rest) old) (sym all) leads

-- the turns that are left, with the next one in front
in_front : {Found : Type 0} (first count : ℕ) (part : ℕ → Found → Part Found) (i : ℕ) (found : Found) (rest : Found → Script)
    (whole : Script) (start mid : World) → i < first + count
    → Leads whole start (each i (first + count - i) part found rest) mid
    → Leads whole start (part i found (λ now. each (i + 1) (first + count - (i + 1)) part now rest)) mid
in_front first count part i found rest whole start mid less leads =
    let left : first + count - i - 1 ≡ first + count - (i + 1) = omega arith in
    subst (λ k. Leads whole start (part i found (λ now. each (i + 1) k part now rest)) mid) left
    (subst (λ s. Leads whole start s mid) (turn_is i (first + count - i) part found rest (omega (arith, less))) leads)

-- a turn is gone through
pub turn_goes : {Found : Type 0} (first count i : ℕ) (part : ℕ → Found → Part Found) (begun found next : Found) (old mid new : World)
    → IsAtTurn first count part begun old i found mid → Goes (part i found) mid (Ok next) new → i < first + count
    → IsAtTurn first count part begun old (i + 1) next new
turn_goes first count i part begun found next old mid new at goes less whole start rest leads =
    goes whole start (λ now. each (i + 1) (first + count - (i + 1)) part now rest)
    (in_front first count part i found rest whole start mid less (at whole start rest leads))

-- a turn ends the script
pub turn_ends : {Found : Type 0} (first count i : ℕ) (part : ℕ → Found → Part Found) (begun found : Found) (old mid new : World) (ended : Status)
    → IsAtTurn first count part begun old i found mid → Goes (part i found) mid (Err ended) new → i < first + count
    → Goes (each first count part begun) old (Err ended) new
turn_ends first count i part begun found old mid new ended at goes less whole start rest leads =
    goes whole start (λ now. each (i + 1) (first + count - (i + 1)) part now rest)
    (in_front first count part i found rest whole start mid less (at whole start rest leads))

-- all turns are gone through
pub turns_over : {Found : Type 0} (first count i : ℕ) (part : ℕ → Found → Part Found) (begun found : Found) (old now : World)
    → IsAtTurn first count part begun old i found now → i ≡ first + count
    → Goes (each first count part begun) old (Ok found) now
turns_over first count i part begun found old now at all whole start rest leads =
    let none : first + count - i ≡ 0 = omega (arith, all) in
    subst (λ s. Leads whole start s now) (ap (λ k. each i k part found rest) none ∙ none_left i part found rest)
    (at whole start rest leads)

-- ---- With what a command holds.

still : {a b c : Hand} → IsSameHand a b → IsSameHand b c → IsSameHand a c
still one two = record { session = two.session ∙ one.session; shelf = two.shelf ∙ one.shelf; out = two.out ∙ one.out }

-- a command begins
pub amid_begins : {R : Type 0} (hand : R → Hand) (At : World → World → Type 0) (old : R) → At (hand old).world (hand old).world → IsAmid hand At old old
amid_begins hand At old at = record { at = at; counted = refl; stays = refl; same = record { session = refl; shelf = refl; out = refl } }

-- a part of the command is gone through
pub amid_goes : {R T : Type 0} (hand : R → Hand) (At Then : World → World → Type 0) (Does : World → Result T Status → World → Type 0) (found : T) (old mid new : R)
    → IsAmid hand At old mid → RanPart hand Does mid (Ok found) new → Then (hand old).world (hand new).world → IsAmid hand Then old new
amid_goes hand At Then Does found old mid new amid ran then = record {
  at = then;
  counted = ran.shelf_faults.else_stays (λ no. search rules) ∙ amid.counted;
  stays = ran.sink_faults.else_stays (λ no. search rules) ∙ amid.stays;
  same = still amid.same ran.same;
}

-- a part of the command ends it
pub amid_ends : {R T Found : Type 0} (hand : R → Hand) (At : World → World → Type 0) (Does : World → Result T Status → World → Type 0)
    (Ends : World → Result Found Status → World → Type 0) (ended : Status) (old mid new : R)
    → IsAmid hand At old mid → RanPart hand Does mid (Err ended) new → Ends (hand old).world (Err ended) (hand new).world → RanPart hand Ends old (Err ended) new
amid_ends hand At Does Ends ended old mid new amid ran ends =
    let counted = amid.counted in
    let stays = amid.stays in
    let form = ran.is_form in
    let shelf = ran.shelf_faults in
    let sink = ran.sink_faults in
    record {
      goes = ends;
      is_form = search rules;
      shelf_faults = search rules;
      sink_faults = search rules;
      same = still amid.same ran.same;
    }

-- the command comes to its end
pub amid_over : {R Found : Type 0} (hand : R → Hand) (At : World → World → Type 0) (Ends : World → Result Found Status → World → Type 0) (found : Found)
    (old now : R)
    → IsAmid hand At old now → Ends (hand old).world (Ok found) (hand now).world → RanPart hand Ends old (Ok found) now
amid_over hand At Ends found old now amid ends =
    let counted = amid.counted in
    let stays = amid.stays in
    record {
      goes = ends;
      is_form = λ no. search rules;
      shelf_faults = search rules;
      sink_faults = search rules;
      same = amid.same;
    }

-- the loop begins
pub begins : {R Found : Type 0} (hand : R → Hand) (first count : ℕ) (part : ℕ → Found → Part Found) (begun : Found) (old : R)
    → IsTurning hand first count part begun old first begun old
begins hand first count part begun old = record { amid = amid_begins hand _ old (turn_begins first count part begun (hand old).world) }

-- a turn is gone through
pub goes_on : {R Found : Type 0} (hand : R → Hand) (first count i : ℕ) (part : ℕ → Found → Part Found) (begun found next : Found) (old mid new : R)
    → IsTurning hand first count part begun old i found mid → RanPart hand (Goes (part i found)) mid (Ok next) new → i < first + count
    → IsTurning hand first count part begun old (i + 1) next new
goes_on hand first count i part begun found next old mid new at ran less = record {
  amid = amid_goes hand _ _ _ next old mid new at.amid ran (turn_goes first count i part begun found next _ _ _ at.amid.at ran.goes less);
}

-- a turn ends the script
pub ends : {R Found : Type 0} (hand : R → Hand) (first count i : ℕ) (part : ℕ → Found → Part Found) (begun found : Found) (old mid new : R) (ended : Status)
    → IsTurning hand first count part begun old i found mid → RanPart hand (Goes (part i found)) mid (Err ended) new → i < first + count
    → RanPart hand (Goes (each first count part begun)) old (Err ended) new
ends hand first count i part begun found old mid new ended at ran less =
    amid_ends hand _ _ _ ended old mid new at.amid ran (turn_ends first count i part begun found _ _ _ ended at.amid.at ran.goes less)

-- all turns are gone through
pub over : {R Found : Type 0} (hand : R → Hand) (first count i : ℕ) (part : ℕ → Found → Part Found) (begun found : Found) (old now : R)
    → IsTurning hand first count part begun old i found now → i ≡ first + count
    → RanPart hand (Goes (each first count part begun)) old (Ok found) now
over hand first count i part begun found old now at all =
    amid_over hand _ _ found old now at.amid (turns_over first count i part begun found _ _ at.amid.at all)
