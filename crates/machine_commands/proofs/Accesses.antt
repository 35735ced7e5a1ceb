-- Port accesses after which the controller rests.
use Rattle.std.proofs.Common.{◌≡◌, ℕ, ◌==◌, Bool, true, false, if◌then◌else◌, refl, sym, ◌∙◌, ap, subst, arith, ◌⊎◌, inl, inr}
use Rattle.machine_commands.proofs.Common.{DriveState, Writes, given, interrupt_after, asks, Fdc, Phase, Result, gap, Holds, shown, Board, controller_of, lines_of, is_controllers, Inputs, Outputs, RunsGap, sets_lines, shown_again, Bus, drive_stays, is_fresh, controller_after, interrupts, polled, regapped, Steady, Step, stirred, is_up, Settles}
use Rattle.pc_bus.specs.Ports.{port_read}
use Rattle.machine_commands.proofs.Idling.{IsResting, KeepsDrive, KeepsSpeed, KeepsAll, Idles}
use Rattle.machine_commands.proofs.Steps.{drive_none, speed_none, idles_none, idles_then, idling, step_to, unpolled, keeps_then, regapped_idles, speed_then}
use Rattle.pc_bus.specs.Steps.{Runs}

-- ---- the gap

pub gap_idles : (old new : Board) → RunsGap old new → IsResting (controller_of old) → Idles (controller_of old) old new
gap_idles old new ran rest = gap (Idles (controller_of old) old) (idling old rest) old new ran (idles_none old)

-- ---- the access

shown_entries : (asked : Bool) (holds : Holds) → (shown asked holds).entries ≡ holds.entries
shown_entries true holds = refl
shown_entries false holds = refl

shown_stalls : (asked : Bool) (holds : Holds) → (shown asked holds).stalls ≡ holds.stalls
shown_stalls true holds = refl
shown_stalls false holds = refl

-- the chips after an access to the controller that leaves it as this
abbrev pub accessed : Fdc → Bus → Bus
accessed fdc old = record old { chips = shown_again (record old.chips { controller = fdc }); fresh = false }

pub same_drive : (old new : DriveState) → new ≡ old → KeepsDrive old new
same_drive old new same = subst (λ drive. KeepsDrive old drive) (sym same) (drive_none old)

pub same_speed : (old new : DriveState) → new ≡ old → KeepsSpeed old new
same_speed old new same = subst (λ drive. KeepsSpeed old drive) (sym same) (speed_none old)

-- an interrupt line that is low stays low
abbrev pub Quiets : Fdc → Fdc → Type 0
Quiets old new = old.interrupt ≡ false → new.interrupt ≡ false

-- the access leaves all but the drives' speed
pub accessed_keeps : (fdc : Fdc) (old between : Board) → between.bus ≡ accessed fdc old.bus → KeepsDrive old.first between.first → KeepsDrive old.second between.second
    → KeepsAll old between
accessed_keeps fdc old between bus first second = record {
  memory = ap (λ b. b.chips.memory) bus;
  entries = ap (λ b. b.chips.holding.entries) bus ∙ shown_entries (asks fdc) old.bus.chips.holding;
  stalls = ap (λ b. b.chips.holding.stalls) bus ∙ shown_stalls (asks fdc) old.bus.chips.holding;
  first = first;
  second = second;
  direct = ap (λ b. b.direct) bus;
  taken = let same : between.bus.taken ≡ old.bus.taken = ap (λ b. b.taken) bus in omega arith;
}

accessed_idles : (fdc : Fdc) (old between : Board) → between.bus ≡ accessed fdc old.bus → between.first ≡ old.first → between.second ≡ old.second
    → Quiets (controller_of old) fdc → Idles fdc old between
accessed_idles fdc old between bus first second quiet = record {
  stays = record {
    keeps = accessed_keeps fdc old between bus (same_drive old.first between.first first) (same_drive old.second between.second second);
    first = same_speed old.first between.first first;
    second = same_speed old.second between.second second;
    quiet = λ low. ap (λ b. b.chips.controller.interrupt) bus ∙ quiet low;
    low = λ _ low. ap (λ b. b.latch.level) bus ∙ low;
  };
  controller_is = ap (λ b. b.chips.controller) bus;
  channel = ap (λ b. b.chips.channel) bus;
}

-- an access, and then the gap
pub access_idles : (fdc : Fdc) (old between new : Board) → between.bus ≡ accessed fdc old.bus → between.first ≡ old.first → between.second ≡ old.second
    → Quiets (controller_of old) fdc → RunsGap between new → IsResting fdc → Idles fdc old new
access_idles fdc old between new bus first second quiet gap rest =
    let one = accessed_idles fdc old between bus first second quiet in
    let two = gap_idles between new gap (subst IsResting (sym one.controller_is) rest) in
    idles_then one (subst (λ c. Idles c between new) one.controller_is two)

-- ---- reading

quiet_answer : (fresh interrupt : Bool) → interrupt ≡ false → (if fresh then false else interrupt) ≡ false
quiet_answer true interrupt low = refl
quiet_answer false interrupt low = low

quiet_after : (phase : Phase) (interrupt : Bool) → interrupt ≡ false → interrupt_after phase interrupt ≡ false
quiet_after (Result answer) interrupt low = quiet_answer (is_fresh answer) interrupt low
quiet_after _ interrupt low = low

quiet_read : (data_port : Bool) (fdc : Fdc) → Quiets fdc (if data_port then given fdc else fdc)
quiet_read true fdc low = quiet_after fdc.phase fdc.interrupt low
quiet_read false fdc low = low

-- a port of the controller is read
pub input_idles : (port value : ℕ) (old new : Board) → Inputs port old value new → is_controllers port ≡ true
    → IsResting (controller_after port (controller_of old)) → Idles (controller_after port (controller_of old)) old new
input_idles port value old new access its rest =
    let fdc = controller_after port (controller_of old) in
    let between : Board = record old { bus = record old.bus { chips = port_read port old.bus.chips; fresh = false } } in
    let bus : between.bus ≡ accessed fdc old.bus = rw its refl in
    access_idles fdc old between new bus refl refl (quiet_read (port == 0x3F5) (controller_of old)) access.gap rest

-- ---- writing

-- a port of the controller other than DOR is written
pub output_idles : (port value : ℕ) (old new : Board) → Outputs port value old new → is_controllers port ≡ true → sets_lines port value ≡ false → (fdc : Fdc)
    → ((controller : Fdc) → Writes port value (lines_of old) (controller_of old) controller → controller ≡ fdc)
    → Quiets (controller_of old) fdc → IsResting fdc → Idles fdc old new
output_idles port value old new access its other fdc only quiet rest =
    let (controller, writes, chips) = access.writes.writes.controllers its in
    let is = only controller writes in
    let bus : access.between.bus ≡ accessed fdc old.bus = access.writes.bus
    ∙ (ap (λ c. let b : Bus = record old.bus { chips = c; fresh = false } in b) chips ∙ ap (λ c. accessed c old.bus) is) in
    access_idles fdc old access.between new bus (drive_stays access.writes.lines.first other) (drive_stays access.writes.lines.second other) quiet access.gap rest

-- ---- one device step after results were read, and polls

pub runs_one : (old new : Board) → Runs 1 old new → Step old new
unfolding Runs
runs_one old new (between, same, step) = subst (λ board. Step board new) same step

-- a device step, and the latch is taken; once the poll has come, the controller rests
pub record SettlesTo (old : Board) (fdc : Fdc) (new : Board) : Type 0 where
  pub keeps : KeepsAll old new
  pub first : KeepsSpeed old.first new.first
  pub second : KeepsSpeed old.second new.second
  pub controller_is : controller_of new ≡ fdc
  pub level : is_up new ≡ interrupts fdc

pub settles_to : (old new : Board) (fdc : Fdc) → Settles old new → polled (controller_of old) ≡ fdc → IsResting fdc → SettlesTo old fdc new
settles_to old new fdc settles poll rest =
    let to = step_to (stirred old) settles.between fdc (runs_one (stirred old) settles.between settles.runs) poll rest in
    let counts = settles.counts in
    rw settles.taken (record {
      keeps = record {
        memory = to.keeps.memory;
        entries = to.keeps.entries;
        stalls = to.keeps.stalls;
        first = to.keeps.first;
        second = to.keeps.second;
        direct = to.keeps.direct;
        taken = rw settles.taken at counts;
      };
      first = to.first.speed;
      second = to.second.speed;
      controller_is = to.controller_is;
      level = to.level;
    })

-- ---- device steps in the first of which the poll comes

pub record RunsPolled (before after : Fdc) (old new : Board) : Type 0 where
  pub keeps : KeepsAll old new
  pub first : KeepsSpeed old.first new.first
  pub second : KeepsSpeed old.second new.second
  pub controller : (controller_of new ≡ before) ⊎ (controller_of new ≡ after)

-- after the next device step the poll has come, whether it came before or not
pub polls_next : (before after : Fdc) (board : Board) → polled before ≡ after → IsResting after → (controller_of board ≡ before) ⊎ (controller_of board ≡ after)
    → polled (controller_of board) ≡ after
polls_next before after board poll rest is = elim is [
  | inl at ↦ ap polled at ∙ poll
  | inr at ↦ ap polled at ∙ unpolled after rest.no_poll
]

polling : (before after : Fdc) (old : Board) → polled before ≡ after → IsResting after → Steady (RunsPolled before after old)
polling before after old poll rest = record {
  step = λ now new step was. (let to = step_to now new after step (polls_next before after now poll rest was.controller) rest in record {
    keeps = keeps_then old now new was.keeps to.keeps;
    first = speed_then old.first now.first new.first was.first to.first.speed;
    second = speed_then old.second now.second new.second was.second to.second.speed;
    controller = inr to.controller_is;
  });
  idle = λ now gaps fresh was. (let same = (regapped_idles now gaps fresh).stays in record {
    keeps = keeps_then old now (regapped gaps fresh now) was.keeps same.keeps;
    first = was.first;
    second = was.second;
    controller = was.controller;
  });
}

pub gap_polled : (before after : Fdc) (old new : Board) → RunsGap old new → controller_of old ≡ before → polled before ≡ after → IsResting after → RunsPolled before after old new
gap_polled before after old new ran at poll rest = gap (RunsPolled before after old) (polling before after old poll rest) old new ran
    (record { keeps = (idles_none old).stays.keeps; first = speed_none old.first; second = speed_none old.second; controller = inl at })
