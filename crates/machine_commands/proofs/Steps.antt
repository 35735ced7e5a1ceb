-- Device steps of a controller that rests.
use Rattle.std.proofs.Common.{◌≡◌, ℕ, ◌+◌, ◌<◌, ◌≤◌, ◌==◌, ◌&&◌, ◌||◌, not, Bool, true, false, List, Option, Some, None, if◌then◌else◌, nat_lt, is_some, min, refl, sym, ◌∙◌, ap, subst, arith}
use Rattle.machine_commands.proofs.Common.{spends_twice, DriveState, turns, track_words, Seeking, stepped_seek, is_seeking, has_ended, pulse_due, pulse_of, Motion, Ended, is_executing, asks, interrupts, is_held, polled, seek_stepped, RestsIn, MovesIn, Moves, Fdc, Phase, Execute, Low, Board, controller_of, channel_of, holds_of, regapped, Marching, Steady, march_wait, controller, Step, stirred, Chips, is_up, and_right, option_map_or, nat_tests, spends_itself, is_gated, let_pass, Runs}
use Rattle.fdc_commands.specs.declared.motion.Seek.{Seek}
use Rattle.laws_machine.proofs.OnQuiet.Steps.{turned_calmly}
use Rattle.laws_machine.proofs.OnSteps.Words.{drives}
use Rattle.pc_bus.specs.Transfers.{dma_stepped}
use Rattle.machine_commands.proofs.Idling.{IsResting, KeepsDrive, KeepsSpeed, KeepsAll, StaysIdle, Idles}

-- ---- requests

pub or_false : (b : Bool) → (b || false) ≡ b
or_false true = refl
or_false false = refl

-- no byte is moved where no DMA request is up
pub calm_dma : (chips : Chips) → asks chips.controller ≡ false → dma_stepped chips ≡ record chips { holding = record chips.holding { request = Low } }
unfolding dma_stepped
calm_dma chips calm = rw calm refl

pub calm_asks : (fdc : Fdc) → fdc.asking ≡ false → asks fdc ≡ false
calm_asks fdc calm = and_right (is_gated fdc) fdc.asking calm

pub low_line : (fdc : Fdc) → fdc.interrupt ≡ false → interrupts fdc ≡ false
low_line fdc low = and_right (is_gated fdc) fdc.interrupt low

-- ---- seeks

still_motion : (seeks : Seeking) (drive : ℕ) (motion : Motion) (track0 : Bool) → not (has_ended motion) ≡ false → stepped_seek seeks drive motion track0 ≡ seeks
still_motion seeks drive Ended track0 over = refl
still_motion seeks drive _ track0 runs = absurd cc

still_seek : (seeks : Seeking) (seek : Option Seek) (track0 : Bool) → option_map_or (λ s. not (has_ended s.motion)) seek false ≡ false
    → option_map_or (λ s. stepped_seek seeks s.drive s.motion track0) seek seeks ≡ seeks
still_seek seeks None track0 over = refl
still_seek seeks (Some seek) track0 over = still_motion seeks seek.drive seek.motion track0 over

no_motion : (motion : Motion) (track0 : Bool) → not (has_ended motion) ≡ false → pulse_of motion track0 ≡ None
no_motion Ended track0 over = refl
no_motion _ track0 runs = absurd cc

no_pulse_of : (seek : Option Seek) (track0 : Bool) → option_map_or (λ s. not (has_ended s.motion)) seek false ≡ false
    → option_map_or (λ s. pulse_of s.motion track0) seek None ≡ None
no_pulse_of None track0 over = refl
no_pulse_of (Some seek) track0 over = no_motion seek.motion track0 over

no_pulse : (seeks : Seeking) (track0 : Bool) → is_seeking seeks ≡ false → pulse_due seeks track0 ≡ None
no_pulse seeks track0 over = no_pulse_of seeks.seek track0 over

pub still_seeks : (fdc : Fdc) (track0 : Bool) → is_seeking fdc.seeks ≡ false → seek_stepped track0 fdc ≡ fdc
still_seeks fdc track0 over = rw (over, still_seek fdc.seeks fdc.seeks.seek track0 over, or_false fdc.interrupt) refl

-- ---- the controller

pub unpolled : (fdc : Fdc) → (fdc.poll_due && not (is_held fdc)) ≡ false → polled fdc ≡ fdc
unpolled fdc none = rw none refl

pub rests_in : (phase : Phase) (old : Fdc) (track0 : Bool) (new : Fdc) → is_executing phase ≡ false → RestsIn phase track0 old new → new ≡ seek_stepped track0 old
rests_in (Execute execution) old track0 new busy is = absurd cc
rests_in _ old track0 new idle is = is

-- a controller that rests once the poll has come stays as it is
stays_same : (old polled_to : Fdc) (track0 : Bool) (new : Fdc) → polled old ≡ polled_to → IsResting polled_to → RestsIn (polled old).phase track0 (polled old) new → new ≡ polled_to
stays_same old polled_to track0 new poll rest is =
    let here = subst (λ fdc. RestsIn fdc.phase track0 fdc new) poll is in
    rests_in polled_to.phase polled_to track0 new rest.no_command here ∙ still_seeks polled_to track0 rest.no_seek

-- ---- the drives

-- a drive that only turns
pub record OnlyTurns (old new : DriveState) : Type 0 where
  pub keeps : KeepsDrive old new
  pub speed : KeepsSpeed old new
  pub spins : turns old ≡ true → min (old.spin + 1) 6250 ≤ new.spin

-- a medium that turns comes to speed
spun_more : (spin : ℕ) → min (spin + 1) 6250 ≤ (if nat_lt spin 6250 then spin + 1 else spin)
spun_more spin = grind (arith, nat_tests)

-- what one word time leaves
pub gate_turns : (before after : DriveState) → after ≡ let_pass before → OnlyTurns before after
gate_turns before after is =
    let turned = turned_calmly before after is in
    let spun : after.spin ≡ (if turns before && nat_lt before.spin 6250 then before.spin + 1 else before.spin) = ap (λ d. d.spin) is in record {
      keeps = record {
        medium = turned.medium;
        cylinder = turned.cylinder;
        change = turned.change;
        place = turned.place;
        never_falls = turned.faults;
        spends = turned.spends;
      };
      speed = record { motor = turned.motor; spin = λ _. turned.spin };
      spins = λ on. subst (λ n. min (before.spin + 1) 6250 ≤ n) (sym (spun ∙ ap (λ b. if b && nat_lt before.spin 6250 then before.spin + 1 else before.spin) on)) (spun_more before.spin);
    }

pub moves_in : (phase : Phase) (fdc : Fdc) (before after : DriveState) → is_executing phase ≡ false → MovesIn phase fdc before after
    → Moves (pulse_due fdc.seeks (before.cylinder == 0)) before after
moves_in (Execute execution) fdc before after busy is = absurd cc
moves_in _ fdc before after idle is = is

moves_turn : (old polled_to : Fdc) (before after : DriveState) → polled old ≡ polled_to → IsResting polled_to → MovesIn (polled old).phase (polled old) before after → OnlyTurns before after
moves_turn old polled_to before after poll rest is =
    let here = subst (λ fdc. MovesIn fdc.phase fdc before after) poll is in
    let moves = moves_in polled_to.phase polled_to before after rest.no_command here in
    gate_turns before after (subst (λ pulse. Moves pulse before after) (no_pulse polled_to.seeks (before.cylinder == 0) rest.no_seek) moves)

-- ---- a device step

-- a device step; once the poll has come, the controller rests
pub record StepsTo (old : Board) (fdc : Fdc) (new : Board) : Type 0 where
  pub keeps : KeepsAll old new
  pub first : OnlyTurns old.first new.first
  pub second : OnlyTurns old.second new.second
  pub controller_is : controller_of new ≡ fdc
  pub channel : channel_of new ≡ channel_of old
  pub request : (holds_of new).request ≡ Low
  -- the level that the latch saw is that of the line
  pub level : is_up new ≡ interrupts fdc

pub step_to : (old new : Board) (fdc : Fdc) → Step old new → polled (controller_of old) ≡ fdc → IsResting fdc → StepsTo old fdc new
step_to old new fdc step poll rest =
    let was = controller_of old in
    let same : step.between ≡ fdc = controller (step.between ≡ fdc) old new step (λ before after works. stays_same was fdc (before.cylinder == 0) step.between poll rest works.rests)
    (λ works. stays_same was fdc false step.between poll rest works.rests) in
    let (first, second) = drives OnlyTurns old new step (λ before after works. moves_turn was fdc before after poll rest works.drive) gate_turns in
    let calm = subst (λ c. asks c ≡ false) (sym same) (calm_asks fdc rest.not_asking) in
    let worked : Chips = record old.bus.chips { controller = step.between } in
    let rested : Chips = record worked { holding = record worked.holding { request = Low } } in
    let moved : dma_stepped worked ≡ rested = calm_dma worked calm in
    let chips : new.bus.chips ≡ rested = ap (λ bus. bus.chips) step.bus ∙ moved in
    record {
      keeps = record {
        memory = ap (λ c. c.memory) chips;
        entries = ap (λ c. c.holding.entries) chips;
        stalls = ap (λ c. c.holding.stalls) chips;
        first = first.keeps;
        second = second.keeps;
        direct = ap (λ bus. bus.direct) step.bus;
        taken = let same : new.bus.taken ≡ old.bus.taken = ap (λ bus. bus.taken) step.bus in omega arith;
      };
      first = first;
      second = second;
      controller_is = ap (λ c. c.controller) chips ∙ same;
      channel = ap (λ c. c.channel) chips;
      request = ap (λ c. c.holding.request) chips;
      level = ap (λ bus. bus.latch.level) step.bus ∙ (ap (λ c. interrupts c.controller) moved ∙ ap interrupts same);
    }

-- in a device step of a resting controller only the drives turn
pub step_idles : (old new : Board) → Step old new → IsResting (controller_of old) → Idles (controller_of old) old new
step_idles old new step rest =
    let to = step_to old new (controller_of old) step (unpolled (controller_of old) rest.no_poll) rest in
    record {
      stays = record {
        keeps = to.keeps;
        first = to.first.speed;
        second = to.second.speed;
        quiet = λ low. ap (λ fdc. fdc.interrupt) to.controller_is ∙ low;
        low = λ quiet _. to.level ∙ low_line (controller_of old) quiet;
      };
      controller_is = to.controller_is;
      channel = to.channel;
    }

-- ---- several

pub drive_none : (drive : DriveState) → KeepsDrive drive drive
drive_none drive = record { medium = refl; cylinder = refl; change = refl; place = λ inside. inside; never_falls = omega arith; spends = spends_itself drive.faults drive.left }

pub speed_none : (drive : DriveState) → KeepsSpeed drive drive
speed_none drive = record { motor = refl; spin = λ _. omega arith }

pub drive_then : (a b c : DriveState) → KeepsDrive a b → KeepsDrive b c → KeepsDrive a c
drive_then a b c one two = record {
  medium = two.medium ∙ one.medium;
  cylinder = two.cylinder ∙ one.cylinder;
  change = two.change ∙ one.change;
  place = λ inside. subst (λ m. c.place < track_words m) one.medium (two.place (subst (λ m. b.place < track_words m) (sym one.medium) (one.place inside)));
  never_falls = let first = one.never_falls in let second = two.never_falls in omega arith;
  spends = spends_twice a.faults b.faults c.faults a.left b.left c.left one.spends two.spends;
}

pub speed_then : (a b c : DriveState) → KeepsSpeed a b → KeepsSpeed b c → KeepsSpeed a c
speed_then a b c one two = record {
  motor = two.motor ∙ one.motor;
  spin = λ on. let first = one.spin on in let second = two.spin (one.motor ∙ on) in omega arith;
}

pub keeps_then : (a b c : Board) → KeepsAll a b → KeepsAll b c → KeepsAll a c
keeps_then a b c one two = record {
  memory = two.memory ∙ one.memory;
  entries = two.entries ∙ one.entries;
  stalls = two.stalls ∙ one.stalls;
  first = drive_then a.first b.first c.first one.first two.first;
  second = drive_then a.second b.second c.second one.second two.second;
  direct = two.direct ∙ one.direct;
  taken = let before = one.taken in let after = two.taken in omega arith;
}

pub stays_then : (a b c : Board) → StaysIdle a b → StaysIdle b c → StaysIdle a c
stays_then a b c one two = record {
  keeps = keeps_then a b c one.keeps two.keeps;
  first = speed_then a.first b.first c.first one.first two.first;
  second = speed_then a.second b.second c.second one.second two.second;
  quiet = λ low. two.quiet (one.quiet low);
  low = λ quiet low. two.low (one.quiet quiet) (one.low quiet low);
}

pub idles_then : {a b c : Board} {one two : Fdc} → Idles one a b → Idles two b c → Idles two a c
idles_then {a} {b} {c} first second = record {
  stays = stays_then a b c first.stays second.stays;
  controller_is = second.controller_is;
  channel = second.channel ∙ first.channel;
}

pub idles_as : (old new : Board) (one two : Fdc) → one ≡ two → Idles one old new → Idles two old new
idles_as old new one two same idles = subst (λ fdc. Idles fdc old new) same idles

-- the gaps that are left don't matter
pub regapped_idles : (board : Board) (gaps : List ℕ) (fresh : Bool) → Idles (controller_of board) board (regapped gaps fresh board)
regapped_idles board gaps fresh = record {
  stays = record {
    keeps = record { memory = refl; entries = refl; stalls = refl; first = drive_none board.first; second = drive_none board.second; direct = refl; taken = omega arith };
    first = speed_none board.first;
    second = speed_none board.second;
    quiet = λ low. low;
    low = λ _ low. low;
  };
  controller_is = refl;
  channel = refl;
}

pub idles_none : (board : Board) → Idles (controller_of board) board board
idles_none board = regapped_idles board board.bus.gaps board.bus.fresh

-- what holds of the device steps so far and of one more holds of all
idles_on : (old now new : Board) → Idles (controller_of old) old now → Idles (controller_of now) now new → Idles (controller_of old) old new
idles_on old now new was on = idles_as old new (controller_of now) (controller_of old) was.controller_is (idles_then was on)

pub idling : (old : Board) → IsResting (controller_of old) → Steady (Idles (controller_of old) old)
idling old rest = record {
  step = λ now new step was. idles_on old now new was (step_idles now new step (subst IsResting (sym was.controller_is) rest));
  idle = λ now gaps fresh was. idles_on old now (regapped gaps fresh now) was (regapped_idles now gaps fresh);
}

-- ---- speed

pub step_spins : (old new : Board) → Step old new → IsResting (controller_of old)
    → (turns old.first ≡ true → min (old.first.spin + 1) 6250 ≤ new.first.spin) × (turns old.second ≡ true → min (old.second.spin + 1) 6250 ≤ new.second.spin)
step_spins old new step rest =
    let to = step_to old new (controller_of old) step (unpolled (controller_of old) rest.no_poll) rest in (to.first.spins, to.second.spins)

pub same_turning : (old new : DriveState) → KeepsDrive old new → KeepsSpeed old new → turns new ≡ turns old
same_turning old new keeps speed = ap (λ m. new.motor && is_some m) keeps.medium ∙ ap (λ m. m && is_some old.medium) speed.motor

-- each device step brings a medium that turns nearer to its speed
pub record Spins (old : Board) (n : ℕ) (now : Board) : Type 0 where
  pub idles : Idles (controller_of old) old now
  pub first : turns old.first ≡ true → min (old.first.spin + n) 6250 ≤ now.first.spin
  pub second : turns old.second ≡ true → min (old.second.spin + n) 6250 ≤ now.second.spin

spinning : (old : Board) → IsResting (controller_of old) → Marching (Spins old)
spinning old rest = record {
  step = λ n now new step was. (
      let (one, two) = step_spins now new step (subst IsResting (sym was.idles.controller_is) rest) in
      let first = same_turning old.first now.first was.idles.stays.keeps.first was.idles.stays.first in
      let second = same_turning old.second now.second was.idles.stays.keeps.second was.idles.stays.second in
      record {
        idles = (idling old rest).step now new step was.idles;
        first = λ on. let so_far = was.first on in let next = one (first ∙ on) in omega arith;
        second = λ on. let so_far = was.second on in let next = two (second ∙ on) in omega arith;
      });
  idle = λ n now gaps fresh was. record { idles = (idling old rest).idle now gaps fresh was.idles; first = was.first; second = was.second };
}

pub waits_spinning : (n : ℕ) (old new : Board) → Runs n (stirred old) new → IsResting (controller_of old) → Spins old n new
waits_spinning n old new runs rest = march_wait (Spins old) (spinning old rest) n old new runs (record { idles = idles_none old; first = λ _. omega arith; second = λ _. omega arith })
