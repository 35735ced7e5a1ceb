-- What the pulses of RECALIBRATE and SEEK make of a drive.
use Rattle.std.proofs.Common.{◌≡◌, ◌≢◌, ◌⊎◌, inl, inr, ℕ, zero, suc, ◌+◌, ◌-◌, ◌<◌, ◌≤◌, ◌==◌, ◌||◌, Bool, true, false, Some, None, min, nat_lt, if◌then◌else◌, is_some, refl, sym, ◌∙◌, ap, subst, arith}
use Rattle.machine_commands.proofs.Common.{RoseBy, Spends, spends_twice, DriveState, Becomes, ended, with_motion, has_ended, sought, recalibrated, Motion, Outward, Toward, Ended, Moves, or_parts, nat_tests, moved, neighbour}
use Rattle.flop_base.specs.Counts.{RoseLess, Rose}
use Rattle.machine_commands.proofs.Idling.{KeepsDrive, KeepsSpeed}
use Rattle.machine_commands.proofs.Seeking.{EndsNow, GivesPulse, IsRule}
use Rattle.machine_commands.proofs.Steps.{gate_turns}

-- ---- the drive

-- the heads may have moved; the change line is as it was, or it was cleared because a medium is in
pub record MovesDrive (old new : DriveState) : Type 0 where
  pub medium : new.medium ≡ old.medium
  pub speed : KeepsSpeed old new
  pub never_falls : old.faults ≤ new.faults
  pub spends : Spends old.faults old.left new.faults new.left
  pub change : (new.change ≡ old.change) ⊎ ((is_some old.medium ≡ true) × (new.change ≡ false))

pub turns_move : (old new : DriveState) → KeepsDrive old new → KeepsSpeed old new → MovesDrive old new
turns_move old new keeps speed = record { medium = keeps.medium; speed = speed; never_falls = keeps.never_falls; spends = keeps.spends; change = inl keeps.change }

pub moves_then : (a b c : DriveState) → MovesDrive a b → MovesDrive b c → MovesDrive a c
moves_then a b c one two = record {
  medium = two.medium ∙ one.medium;
  speed = record {
    motor = two.speed.motor ∙ one.speed.motor;
    spin = λ on. let first = one.speed.spin on in let second = two.speed.spin (one.speed.motor ∙ on) in omega arith;
  };
  never_falls = let first = one.never_falls in let second = two.never_falls in omega arith;
  spends = spends_twice a.faults b.faults c.faults a.left b.left c.left one.spends two.spends;
  change = elim two.change [
    | inl same ↦ (elim one.change [
      | inl before ↦ inl (same ∙ before)
      | inr (some, before) ↦ inr (some, same ∙ before)
    ])
    | inr (some, cleared) ↦ inr (sym (ap is_some one.medium) ∙ some, cleared)
  ];
}

cleared_by : (b : Bool) (was : Bool) (now : Bool) → now ≡ (if b then false else was) → (now ≡ was) ⊎ ((b ≡ true) × (now ≡ false))
cleared_by true was now is = inr (refl, is)
cleared_by false was now is = inl is

-- the drive is now `to` but for its faults, and `to` differs in the place of its heads and its change line
becomes_moves : (to old new : DriveState) → to.medium ≡ old.medium → to.motor ≡ old.motor → to.spin ≡ old.spin → (new.change ≡ old.change) ⊎ ((is_some old.medium ≡ true) × (new.change ≡ false))
    → Becomes to old new → MovesDrive old new
becomes_moves to old new medium motor spin change becomes = record {
  medium = ap (λ d. d.medium) becomes.becomes ∙ medium;
  speed = record { motor = ap (λ d. d.motor) becomes.becomes ∙ motor; spin = λ _. (let same = ap (λ d. d.spin) becomes.becomes in omega arith) };
  never_falls = becomes.never_falls;
  spends = becomes.spends;
  change = change;
}

pulse_moves : (inward : Bool) (old new : DriveState) → Becomes (moved inward old) old new → MovesDrive old new
pulse_moves inward old new becomes =
    becomes_moves (moved inward old) old new refl refl refl (cleared_by (is_some old.medium) old.change new.change (ap (λ d. d.change) becomes.becomes)) becomes

-- a pulse and the word time after it: the pulse moved the heads, or it was lost
pub record IsPulsed (inward : Bool) (old new : DriveState) : Type 0 where
  pub moves : MovesDrive old new
  pub either : ((new.cylinder ≡ (if inward then min (old.cylinder + 1) 82 else old.cylinder - 1)) × (is_some old.medium ≡ true → new.change ≡ false))
      ⊎ ((new.cylinder ≡ old.cylinder) × Rose old.faults new.faults)

pub pulsed : (inward : Bool) (old new : DriveState) → Moves (Some inward) old new → IsPulsed inward old new
pulsed inward old new (between, pulse, becomes) =
    let turned = gate_turns between new becomes in
    let passes = turns_move between new turned.keeps turned.speed in
    elim pulse [
      | inl moved_on ↦ (record {
        moves = moves_then old between new (pulse_moves inward old between moved_on) passes;
        either = inl (
          turned.keeps.cylinder ∙ ap (λ d. d.cylinder) moved_on.becomes,
          λ some. turned.keeps.change ∙ (ap (λ d. d.change) moved_on.becomes ∙ ap (λ b. if b then false else old.change) some),
        );
      })
      | inr (stays, rose) ↦ (record {
        moves = moves_then old between new (becomes_moves old old between refl refl refl (inl (ap (λ d. d.change) stays.becomes)) stays) passes;
        either = inr (turned.keeps.cylinder ∙ ap (λ d. d.cylinder) stays.becomes, let more = turned.keeps.never_falls in omega arith);
      })
    ]

-- ---- RECALIBRATE

-- so many pulses outward, of which some were lost
pub record HasStepped (old : DriveState) (n : ℕ) (new : DriveState) : Type 0 where
  pub lost : ℕ
  pub far : new.cylinder + n ≡ old.cylinder + lost
  pub rose : RoseBy lost old.faults new.faults
  pub moves : MovesDrive old new

abbrev pub OutwardWay : DriveState → ℕ → Motion → DriveState → Type 0
OutwardWay old n (Outward pulses) new = (pulses + n ≡ 79) × HasStepped old n new
OutwardWay old n _ new = ⊥

pub record OutwardOver (bay : ℕ) (old : DriveState) (number status : ℕ) (new : DriveState) : Type 0 where
  pub number_is : number ≡ 0
  pub reached : Bool
  pub status_is : status ≡ recalibrated bay reached
  pub arrives : reached ≡ true → new.cylinder ≡ 0
  pub away : reached ≡ false → 1 ≤ new.cylinder
  pub lost : reached ≡ false → RoseBy (new.cylinder + 79 - old.cylinder) old.faults new.faults
  pub moves : MovesDrive old new

equal_by : (a b : ℕ) → (a == b) ≡ true → a ≡ b
equal_by a b h = grind (arith, nat_tests)

counts : (n : ℕ) → (n == 0) ≡ false → 1 ≤ n
counts n h = grind (arith, nat_tests)

outward_steps : (bay : ℕ) (old : DriveState) (n : ℕ) (motion : Motion) (drive : DriveState) → has_ended motion ≡ false → OutwardWay old n motion drive
    → EndsNow bay motion drive (OutwardOver bay old) ⊎ GivesPulse bay n motion drive (OutwardWay old)
outward_steps bay old n Ended drive runs way = absurd way
outward_steps bay old n (Toward cylinder target) drive runs way = absurd way
outward_steps bay old n (Outward pulses) drive runs (left, was) = by_over ((drive.cylinder == 0) || (pulses == 0)) refl
  where
    by_over : (over : Bool) → ((drive.cylinder == 0) || (pulses == 0)) ≡ over
        → EndsNow bay (Outward pulses) drive (OutwardOver bay old) ⊎ GivesPulse bay n (Outward pulses) drive (OutwardWay old)
    by_over true over = inl (record {
      number = 0;
      status = recalibrated bay (drive.cylinder == 0);
      no_pulse = ap (λ b. if b then None else Some false) over;
      ends = λ seeks. ap (λ b. if b then ended seeks bay 0 (recalibrated bay (drive.cylinder == 0)) else with_motion seeks bay (Outward (pulses - 1))) over;
      leaves = λ after becomes.
          let turned = gate_turns drive after becomes in
          let same = turned.keeps.cylinder in
          let more = turned.keeps.never_falls in
          let far = was.far in
          let rose = was.rose in
          record {
            number_is = refl;
            reached = drive.cylinder == 0;
            status_is = refl;
            arrives = λ at. same ∙ equal_by drive.cylinder 0 at;
            away = λ short. let here = counts drive.cylinder short in omega arith;
            lost = λ short.
                let none = equal_by pulses 0 (sym (ap (λ b. b || (pulses == 0)) short) ∙ over) in
                let here = counts drive.cylinder short in
                let all : after.cylinder + 79 - old.cylinder ≡ was.lost = omega arith in
                subst (λ k. RoseBy k old.faults after.faults) (sym all) (omega arith);
            moves = moves_then old drive after was.moves (turns_move drive after turned.keeps turned.speed);
          };
    })
    by_over false on = inr (record {
      inward = false;
      next = Outward (pulses - 1);
      runs = refl;
      pulse = ap (λ b. if b then None else Some false) on;
      goes = λ seeks. ap (λ b. if b then ended seeks bay 0 (recalibrated bay (drive.cylinder == 0)) else with_motion seeks bay (Outward (pulses - 1))) on;
      leaves = λ after moved_on.
          let is = pulsed false drive after moved_on in
          let (apart, left_over) = or_parts (drive.cylinder == 0) (pulses == 0) on in
          let here = counts drive.cylinder apart in
          let some = counts pulses left_over in
          let far = was.far in
          let rose = was.rose in
          let moves = moves_then old drive after was.moves is.moves in (
            omega arith,
            elim is.either [
              | inl (on, cleared) ↦ (let falls = is.moves.never_falls in record { lost = was.lost; far = omega arith; rose = omega arith; moves = moves })
              | inr (stays, more) ↦ (record { lost = was.lost + 1; far = omega arith; rose = omega arith; moves = moves })
            ],
          );
    })

outward_stays : (bay : ℕ) (old : DriveState) (number status : ℕ) (before after : DriveState) → KeepsDrive before after → KeepsSpeed before after
    → OutwardOver bay old number status before → OutwardOver bay old number status after
outward_stays bay old number status before after keeps speed was =
    let same = keeps.cylinder in
    let more = keeps.never_falls in
    record {
      number_is = was.number_is;
      reached = was.reached;
      status_is = was.status_is;
      arrives = λ yes. same ∙ was.arrives yes;
      away = λ short. let far = was.away short in omega arith;
      lost = λ short. let rose = was.lost short in let all : after.cylinder + 79 - old.cylinder ≡ before.cylinder + 79 - old.cylinder = omega arith in
          subst (λ k. RoseBy k old.faults after.faults) (sym all) (omega arith);
      moves = moves_then old before after was.moves (turns_move before after keeps speed);
    }

pub outward_rule : (bay : ℕ) (old : DriveState) → IsRule bay (OutwardWay old) (OutwardOver bay old)
outward_rule bay old = record { steps = outward_steps bay old; stays = outward_stays bay old }

-- ---- SEEK

-- so many pulses toward the target, counted from the cylinder number that the controller keeps
pub record HasSought (old : DriveState) (from target n cylinder : ℕ) (new : DriveState) : Type 0 where
  pub way : ((from + n ≡ cylinder) × (cylinder ≤ target)) ⊎ ((cylinder + n ≡ from) × (target ≤ cylinder))
  pub follows : old.cylinder ≡ from → RoseLess 1 old.faults new.faults → new.cylinder ≡ cylinder
  pub clears : 1 ≤ n → is_some old.medium ≡ true → (new.change ≡ false) ⊎ Rose old.faults new.faults
  pub moves : MovesDrive old new

abbrev pub TowardWay : DriveState → ℕ → ℕ → ℕ → Motion → DriveState → Type 0
TowardWay old from target n (Toward cylinder to) new = (to ≡ target) × HasSought old from target n cylinder new
TowardWay old from target n _ new = ⊥

pub record TowardOver (bay : ℕ) (old : DriveState) (from target number status : ℕ) (new : DriveState) : Type 0 where
  pub number_is : number ≡ target
  pub status_is : status ≡ sought bay
  pub follows : old.cylinder ≡ from → RoseLess 1 old.faults new.faults → new.cylinder ≡ target
  pub clears : from ≢ target → is_some old.medium ≡ true → (new.change ≡ false) ⊎ Rose old.faults new.faults
  pub moves : MovesDrive old new

less_by : (a b : ℕ) → nat_lt a b ≡ true → a < b
less_by a b h = grind (arith, nat_tests)

more_by : (a b : ℕ) → (a == b) ≡ false → nat_lt a b ≡ false → b < a
more_by a b apart h = grind (arith, nat_tests)

-- the line stays cleared, or the fault counted, where nothing more moved
keeps_cleared : (old before after : DriveState) → after.change ≡ before.change → before.faults ≤ after.faults
    → (before.change ≡ false) ⊎ Rose old.faults before.faults → (after.change ≡ false) ⊎ Rose old.faults after.faults
keeps_cleared old before after same more was = elim was [
  | inl cleared ↦ inl (same ∙ cleared)
  | inr rose ↦ inr (omega arith)
]

-- a pulse that moves the heads clears the change line, and a pulse that is lost is counted
pulse_clears : (old before after : DriveState) (inward : Bool) → old.faults ≤ before.faults → before.medium ≡ old.medium → IsPulsed inward before after → is_some old.medium ≡ true
    → (after.change ≡ false) ⊎ Rose old.faults after.faults
pulse_clears old before after inward more same is some = elim is.either [
  | inl (on, cleared) ↦ inl (cleared (ap is_some same ∙ some))
  | inr (stays, rose) ↦ inr (omega arith)
]

lost_is_counted : (old before after : ℕ) → old ≤ before → Rose before after → RoseLess 1 old after → ⊥
lost_is_counted old before after more rose (few, below) = absurd (omega arith)

some_steps : (k : ℕ) → (k ≡ 0 → ⊥) → 1 ≤ k
some_steps zero none = absurd (none refl)
some_steps (suc k) none = omega arith

-- the next cylinder inward or outward
abbrev next_to : Bool → ℕ → ℕ
next_to inward cylinder = if inward then cylinder + 1 else cylinder - 1

toward_steps : (bay : ℕ) (old : DriveState) (from target n : ℕ) (motion : Motion) (drive : DriveState) → target ≤ 79 → from ≤ 79 → has_ended motion ≡ false → TowardWay old from target n motion drive
    → EndsNow bay motion drive (TowardOver bay old from target) ⊎ GivesPulse bay n motion drive (TowardWay old from target)
toward_steps bay old from target n Ended drive small near runs way = absurd way
toward_steps bay old from target n (Outward pulses) drive small near runs way = absurd way
toward_steps bay old from target n (Toward cylinder to) drive small near runs (aim, was) = by_tests (cylinder == to) refl (nat_lt cylinder to) refl
  where
    by_tests : (e : Bool) → (cylinder == to) ≡ e → (l : Bool) → nat_lt cylinder to ≡ l
        → EndsNow bay (Toward cylinder to) drive (TowardOver bay old from target) ⊎ GivesPulse bay n (Toward cylinder to) drive (TowardWay old from target)
    by_tests true at l less = inl (record {
      number = to;
      status = sought bay;
      no_pulse = ap (λ b. if b then None else Some (nat_lt cylinder to)) at;
      ends = λ seeks. ap (λ b. if b then ended seeks bay to (sought bay) else with_motion seeks bay (Toward (neighbour cylinder to) to)) at;
      leaves = λ after becomes.
          let turned = gate_turns drive after becomes in
          let same = equal_by cylinder to at in
          let more = turned.keeps.never_falls in
          record {
            number_is = aim;
            status_is = refl;
            follows = λ known calm. turned.keeps.cylinder ∙ (was.follows known (let (few, below) = calm in (omega arith, omega arith)) ∙ (same ∙ aim));
            clears = λ apart some. keeps_cleared old drive after turned.keeps.change more (was.clears (far_apart apart) some);
            moves = moves_then old drive after was.moves (turns_move drive after turned.keeps turned.speed);
          };
    })
      where
        far_apart : from ≢ target → 1 ≤ n
        far_apart apart = let same = equal_by cylinder to at in elim was.way [
          | inl (up, below) ↦ some_steps n (λ none. apart (omega arith))
          | inr (down, above) ↦ some_steps n (λ none. apart (omega arith))
        ]
    by_tests false at inward less = inr (record {
      inward = inward;
      next = Toward (next_to inward cylinder) to;
      runs = refl;
      pulse = ap (λ b. if b then None else Some (nat_lt cylinder to)) at ∙ ap (λ b. Some b) less;
      goes = λ seeks. ap (λ b. if b then ended seeks bay to (sought bay) else with_motion seeks bay (Toward (neighbour cylinder to) to)) at
          ∙ ap (λ b. with_motion seeks bay (Toward (next_to b cylinder) to)) less;
      leaves = λ after moved_on.
          let is = pulsed inward drive after moved_on in
          let falls = was.moves.never_falls in
          let more = is.moves.never_falls in (
            aim,
            record {
              way = nearer inward less;
              follows = λ known calm. let here = was.follows known (let (few, least) = calm in (omega arith, omega arith)) in elim is.either [
                | inl (on, cleared) ↦ on ∙ moved_there inward less here
                | inr (stays, rose) ↦ absurd (lost_is_counted old.faults drive.faults after.faults falls rose calm)
              ];
              clears = λ _ some. pulse_clears old drive after inward falls was.moves.medium is some;
              moves = moves_then old drive after was.moves is.moves;
            },
          );
    })
      where
        nearer : (inward : Bool) → nat_lt cylinder to ≡ inward
            → ((from + (n + 1) ≡ next_to inward cylinder) × (next_to inward cylinder ≤ target))
            ⊎ ((next_to inward cylinder + (n + 1) ≡ from) × (target ≤ next_to inward cylinder))
        nearer true less = let below = less_by cylinder to less in elim was.way [
          | inl (up, low) ↦ inl (omega arith, omega arith)
          | inr (down, high) ↦ absurd (omega arith)
        ]
        nearer false less = let above = more_by cylinder to at less in elim was.way [
          | inl (up, low) ↦ absurd (omega arith)
          | inr (down, high) ↦ inr (omega arith, omega arith)
        ]

        moved_there : (inward : Bool) → nat_lt cylinder to ≡ inward → drive.cylinder ≡ cylinder
            → (if inward then min (drive.cylinder + 1) 82 else drive.cylinder - 1) ≡ next_to inward cylinder
        moved_there true less here = let below = less_by cylinder to less in omega arith
        moved_there false less here = omega arith

toward_stays : (bay : ℕ) (old : DriveState) (from target number status : ℕ) (before after : DriveState) → KeepsDrive before after → KeepsSpeed before after
    → TowardOver bay old from target number status before → TowardOver bay old from target number status after
toward_stays bay old from target number status before after keeps speed was =
    let more = keeps.never_falls in
    record {
      number_is = was.number_is;
      status_is = was.status_is;
      follows = λ known calm. keeps.cylinder ∙ was.follows known (let (few, below) = calm in (omega arith, omega arith));
      clears = λ apart some. keeps_cleared old before after keeps.change more (was.clears apart some);
      moves = moves_then old before after was.moves (turns_move before after keeps speed);
    }

pub toward_rule : (bay : ℕ) (old : DriveState) (from target : ℕ) → target ≤ 79 → from ≤ 79 → IsRule bay (TowardWay old from target) (TowardOver bay old from target)
toward_rule bay old from target small near =
    record { steps = λ n motion drive. toward_steps bay old from target n motion drive small near; stays = toward_stays bay old from target }
