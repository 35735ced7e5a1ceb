-- Between two data commands: what port accesses set.
use Rattle.std.proofs.Common.{◌≡◌, ℕ, ◌==◌, not, ◌||◌, Bool, true, false, [], ◌∷◌, ◌++◌, if◌then◌else◌, refl, sym, ◌∙◌, ap, subst, List}
use Rattle.laws_machine.proofs.Common.{answer, kept, More, TakesAs, is_executing, given, interrupt_after, phase_after, takes_in, is_taking, dsr_resets, is_held, Fdc, Phase, Command, Execute, Result, Board, controller_of, lines_of, is_controllers, port_read, WritesPort, RunsGap, Inputs, Outputs, sets_lines, shown_again, Chips, drive_stays, only_listens, HoldsOn, HaveTurned, IsHushed, Setting, ChipsStand, Stands, false_from_ne_true, false≢true, after_write, after_read, result_byte, dor_resets, DataRate, rate_chosen, is_fresh, Results, Long, Ending, setting_of, IsQuiet}
use Rattle.laws_machine.proofs.Facts.{if_both, idle_read, number_is, shown_stalls}
use Rattle.laws_machine.specs.OnQuiet.Settings.{with_byte, with_rate, with_write, with_read}
use Rattle.laws_machine.proofs.OnQuiet.Steps.{drives_on, like_holds, like_mode, standing, stands_beside, turned_still, starts_standing}
use Rattle.laws_machine.proofs.OnSteps.Runs.{gap}
use Rattle.laws_machine.specs.OnQuiet.Results.{GivesBytes, HasGiven}

-- ---- the gap

gap_stands : (start : Board) (set : Setting) (between new : Board) → RunsGap between new → Stands set start between → Stands set start new
gap_stands start set = gap (Stands set start) (standing start set)

-- ---- writes

-- a write that sets no line leaves the drives
written_stands : (start : Board) (set : Setting) (port value : ℕ) (old between : Board) (chips : Chips) → sets_lines port value ≡ false → (writes : WritesPort port value old between)
    → writes.chips ≡ chips → is_executing set.phase ≡ false → ChipsStand set start.bus.chips chips → HaveTurned start old → (IsHushed start → IsHushed old)
    → chips.controller.interrupt ≡ (controller_of old).interrupt → chips.controller.poll_due ≡ (controller_of old).poll_due → Stands set start between
written_stands start set port value old between chips other writes is idle stand drives hush interrupt poll = record {
  idle = idle;
  chips = subst (ChipsStand set start.bus.chips) (sym (ap (λ bus. bus.chips) writes.bus ∙ is)) stand;
  drives = drives_on start old between drives (record {
    first = turned_still old.first between.first (drive_stays writes.lines.first other);
    second = turned_still old.second between.second (drive_stays writes.lines.second other);
    direct = ap (λ bus. bus.direct) writes.bus;
  });
  hush = λ first. let before = hush first in record {
    low = ap (λ bus. bus.chips.controller.interrupt) writes.bus ∙ (ap (λ c. c.controller.interrupt) is ∙ (interrupt ∙ before.low));
    polled = ap (λ bus. bus.chips.controller.poll_due) writes.bus ∙ (ap (λ c. c.controller.poll_due) is ∙ (poll ∙ before.polled));
    level = ap (λ bus. bus.latch.level) writes.bus ∙ before.level;
  };
}

another_port : (port its : ℕ) → is_controllers its ≡ true → is_controllers port ≡ false → (port == its) ≡ false
another_port port its controllers beside = false_from_ne_true (port == its) (λ is. false≢true (sym beside ∙ (ap is_controllers (number_is port its is) ∙ controllers)))

-- a write of a port of the channel sets no line
sets_none : (port value : ℕ) → is_controllers port ≡ false → sets_lines port value ≡ false
sets_none port value beside =
    ap (λ b. b || (if b then dor_resets value else (if port == 0x3F4 then dsr_resets value else false))) (another_port port 0x3F2 refl beside)
    ∙ ap (λ b. if b then dsr_resets value else false) (another_port port 0x3F4 refl beside)

pub channel_stands : (start : Board) (set : Setting) (port value : ℕ) (old new : Board) → is_controllers port ≡ false → Outputs port value old new
    → Stands set start old → Stands (with_write port value set) start new
channel_stands start set port value old new beside access was =
    gap_stands start (with_write port value set) access.between new access.gap
    (written_stands start (with_write port value set) port value old access.between (record old.bus.chips { channel = after_write port value old.bus.chips.channel })
    (sets_none port value beside) access.writes (access.writes.writes.channels beside) was.idle
    (stands_beside start.bus.chips set old.bus.chips (after_write port value old.bus.chips.channel) (after_write port value set.channel) old.bus.chips.holding
    (ap (after_write port value) was.chips.channel) refl was.chips) was.drives was.hush refl refl)

-- ---- the controller's ports

-- a controller with other bytes, another rate or another phase
with_controller : (old : Chips) (set : Setting) (now : Chips) (then_set : Setting) (controller : Fdc) → ChipsStand set old now → HoldsOn old.controller.data_commands old.controller controller
    → controller.phase ≡ then_set.phase → controller.command ≡ then_set.command → controller.rate ≡ then_set.rate → controller.asking ≡ false → then_set.channel ≡ set.channel
    → ChipsStand then_set old (shown_again (record now { controller = controller }))
with_controller old set now then_set controller was holds phase command rate low channel = record {
  controller = holds;
  phase = phase;
  command = command;
  rate = rate;
  low = low;
  channel = was.channel ∙ sym channel;
  memory = was.memory;
  stalls = shown_stalls _ now.holding ∙ was.stalls;
}

-- the data port takes bytes
pub port_takes : (start : Board) (set : Setting) (old : Board) → Stands set start old → set.phase ≡ Command → is_held (controller_of start) ≡ false → is_taking (controller_of old) ≡ true
port_takes start set old was command free =
    let same : is_held (controller_of old) ≡ false = ap (λ dor. is_held (record (controller_of start) { dor = dor })) was.chips.controller.dor ∙ free in
    ap (λ phase. takes_in phase (is_held (controller_of old))) (was.chips.phase ∙ command) ∙ ap not same

-- a port write that sets no line, and sets other bytes of a command or another rate
registers_stand : (start : Board) (set : Setting) (port value : ℕ) (command : List ℕ) (rate : DataRate) (old new : Board) (access : Outputs port value old new) (controller : Fdc)
    → sets_lines port value ≡ false → access.writes.chips ≡ shown_again (record old.bus.chips { controller = controller }) → controller ≡ record (controller_of old) { command = command; rate = rate }
    → Stands set start old → Stands (record set { command = command; rate = rate }) start new
registers_stand start set port value command rate old new access controller sets chips_are after was =
    let fdc = controller_of old in
    let like = like_mode fdc controller (ap (λ c. c.seeks) after) (ap (λ c. c.dor) after) (ap (λ c. c.non_dma) after) (ap (λ c. c.polling) after)
    (ap (λ c. c.data_commands) after)
    (ap (λ c. c.fifo.on) after) (ap (λ c. c.fifo.threshold) after) in
    let listens : only_listens controller.phase ≡ true = ap (λ c. only_listens c.phase) after ∙ was.chips.controller.quiet.listens in
    let then_set : Setting = record set { command = command; rate = rate } in
    gap_stands start then_set access.between new access.gap
    (written_stands start then_set port value old access.between (shown_again (record old.bus.chips { controller = controller })) sets access.writes chips_are was.idle
    (with_controller start.bus.chips set old.bus.chips then_set controller was.chips
    (like_holds (controller_of start).data_commands (controller_of start) fdc controller was.chips.controller like listens)
    (ap (λ c. c.phase) after ∙ was.chips.phase) (ap (λ c. c.command) after) (ap (λ c. c.rate) after) (ap (λ c. c.asking) after ∙ was.chips.low) refl)
    was.drives was.hush (ap (λ c. c.interrupt) after) (ap (λ c. c.poll_due) after))

pub byte_stands : (start : Board) (set : Setting) (byte : ℕ) (old new : Board) → set.phase ≡ Command → is_held (controller_of start) ≡ false → answer (set.command ++ byte ∷ []) ≡ More
    → Outputs 0x3F5 byte old new → Stands set start old → Stands (with_byte byte set) start new
byte_stands start set byte old new command free more access was =
    let (controller, writes, chips_are) = access.writes.writes.controllers refl in
    let fdc = controller_of old in
    let whole : answer (fdc.command ++ byte ∷ []) ≡ More = ap (λ bytes. answer (bytes ++ byte ∷ [])) was.chips.command ∙ more in
    let after : controller ≡ record fdc { command = fdc.command ++ byte ∷ [] } =
    subst (λ accepted. TakesAs accepted (lines_of old) (record fdc { command = kept accepted (fdc.command ++ byte ∷ []) }) controller) whole
    ((writes.bytes refl).0 (port_takes start set old was command free)) in
    registers_stand start set 0x3F5 byte (set.command ++ byte ∷ []) set.rate old new access controller refl chips_are
    (after ∙ (ap (λ bytes. record fdc { command = bytes ++ byte ∷ [] }) was.chips.command ∙ ap (λ rate. record fdc { command = set.command ++ byte ∷ []; rate = rate }) was.chips.rate)) was

pub rate_stands : (start : Board) (set : Setting) (byte : ℕ) (old new : Board) → Outputs 0x3F7 byte old new → Stands set start old → Stands (with_rate byte set) start new
rate_stands start set byte old new access was =
    let (controller, writes, chips_are) = access.writes.writes.controllers refl in
    registers_stand start set 0x3F7 byte set.command (rate_chosen byte) old new access controller refl chips_are
    (writes.control refl ∙ ap (λ bytes. record (controller_of old) { command = bytes; rate = rate_chosen byte }) was.chips.command) was

-- ---- reads

pub idle_listens : (phase : Phase) → is_executing phase ≡ false → only_listens phase ≡ true
idle_listens (Execute execution) idle = absurd (false≢true (sym idle))
idle_listens _ idle = refl

-- what a read of a port sets
abbrev read_by : Bool → Bool → ℕ → Setting → Setting
read_by controllers data_port port set =
    if controllers then (if data_port then record set { phase = phase_after set.phase } else set)
    else record set { channel = after_read port set.channel }

read_chips : (old : Chips) (set : Setting) (now : Chips) (port : ℕ) → is_executing set.phase ≡ false → ChipsStand set old now → (controllers data_port : Bool)
    → ChipsStand (read_by controllers data_port port set) old
    (if controllers then shown_again (record now { controller = if data_port then given now.controller else now.controller }) else record now { channel = after_read port now.channel })
read_chips old set now port idle was true true =
    let phase : (given now.controller).phase ≡ phase_after set.phase = ap phase_after was.phase in
    with_controller old set now (record set { phase = phase_after set.phase }) (given now.controller) was
    (like_holds old.controller.data_commands old.controller now.controller (given now.controller) was.controller
    (like_mode now.controller (given now.controller) refl refl refl refl refl refl refl)
    (ap only_listens phase ∙ idle_listens (phase_after set.phase) (idle_read set.phase idle)))
    phase was.command was.rate was.low refl
read_chips old set now port idle was true false =
    with_controller old set now set now.controller was was.controller was.phase was.command was.rate was.low refl
read_chips old set now port idle was false data_port =
    stands_beside old set now (after_read port now.channel) (after_read port set.channel) now.holding (ap (after_read port) was.channel) refl was

read_idle : (set : Setting) (port : ℕ) → is_executing set.phase ≡ false → (controllers data_port : Bool) → is_executing (read_by controllers data_port port set).phase ≡ false
read_idle set port idle true true = idle_read set.phase idle
read_idle set port idle _ _ = idle

low_after : (phase : Phase) (interrupt : Bool) → interrupt ≡ false → interrupt_after phase interrupt ≡ false
low_after (Result answer) interrupt low = if_both (is_fresh answer) false interrupt (λ z. z ≡ false) refl low
low_after _ interrupt low = low

read_as : (P : Fdc → Type 0) (chips : Chips) (port : ℕ) → P chips.controller → P (given chips.controller) → (controllers data_port : Bool)
    → P (if controllers then shown_again (record chips { controller = if data_port then given chips.controller else chips.controller }) else record chips { channel = after_read port chips.channel }).controller
read_as P chips port was now true true = now
read_as P chips port was now _ _ = was

pub input_stands : (start : Board) (set : Setting) (port value : ℕ) (old new : Board) → Inputs port old value new → Stands set start old → Stands (with_read port set) start new
input_stands start set port value old new access was =
    let between : Board = record old { bus = record old.bus { chips = port_read port old.bus.chips; fresh = false } } in
    gap_stands start (with_read port set) between new access.gap (record {
      idle = read_idle set port was.idle (is_controllers port) (port == 0x3F5);
      chips = read_chips start.bus.chips set old.bus.chips port was.idle was.chips (is_controllers port) (port == 0x3F5);
      drives = drives_on start old between was.drives (record { first = turned_still old.first old.first refl; second = turned_still old.second old.second refl; direct = refl });
      hush = λ first. let before = was.hush first in record {
        low = read_as (λ f. f.interrupt ≡ false) old.bus.chips port before.low (low_after (controller_of old).phase (controller_of old).interrupt before.low) (is_controllers port) (port == 0x3F5);
        polled = read_as (λ f. f.poll_due ≡ false) old.bus.chips port before.polled before.polled (is_controllers port) (port == 0x3F5);
        level = before.level;
      };
    })

-- what the data port gives
pub input_gives : (start : Board) (set : Setting) (value : ℕ) (old new : Board) → Inputs 0x3F5 old value new → Stands set start old → value ≡ result_byte set.phase
input_gives start set value old new access was = access.value_is ∙ ap result_byte was.chips.phase

-- ---- the result bytes of a data command

-- a setting in which so many of the results were read
abbrev at : Ending → Results → ℕ → Setting → Setting
at ending results taken set = record set { phase = Result (Long ending results taken) }

same_bytes : (a b c d e f g a' b' c' d' e' f' g' : ℕ) → a ≡ a' → b ≡ b' → c ≡ c' → d ≡ d' → e ≡ e' → f ≡ f' → g ≡ g'
    → a ∷ b ∷ c ∷ d ∷ e ∷ f ∷ g ∷ [] ≡ a' ∷ b' ∷ c' ∷ d' ∷ e' ∷ f' ∷ g' ∷ []
same_bytes a b c d e f g a' b' c' d' e' f' g' p q r s t u v = cc

seven_given : (ending : Ending) (results : Results) (set : Setting) (start old new : Board) (a b c d e f g : ℕ) → Stands (at ending results 0 set) start old
    → GivesBytes old (a ∷ b ∷ c ∷ d ∷ e ∷ f ∷ g ∷ []) new → HasGiven results set start (a ∷ b ∷ c ∷ d ∷ e ∷ f ∷ g ∷ []) new
seven_given ending results set start old new a b c d e f g was (one, first, (two, second, (three, third, (four, fourth, (five, fifth, (six, sixth, (seven, seventh, end))))))) =
    let in_one = input_stands start (at ending results 0 set) 0x3F5 a old one first was in
    let in_two = input_stands start (at ending results 1 set) 0x3F5 b one two second in_one in
    let in_three = input_stands start (at ending results 2 set) 0x3F5 c two three third in_two in
    let in_four = input_stands start (at ending results 3 set) 0x3F5 d three four fourth in_three in
    let in_five = input_stands start (at ending results 4 set) 0x3F5 e four five fifth in_four in
    let in_six = input_stands start (at ending results 5 set) 0x3F5 f five six sixth in_five in
    let in_seven = input_stands start (at ending results 6 set) 0x3F5 g six seven seventh in_six in
    record {
      bytes_are = same_bytes a b c d e f g _ _ _ _ _ _ _
          (input_gives start (at ending results 0 set) a old one first was)
          (input_gives start (at ending results 1 set) b one two second in_one)
          (input_gives start (at ending results 2 set) c two three third in_two)
          (input_gives start (at ending results 3 set) d three four fourth in_three)
          (input_gives start (at ending results 4 set) e four five fifth in_four)
          (input_gives start (at ending results 5 set) f five six sixth in_five)
          (input_gives start (at ending results 6 set) g six seven seventh in_six);
      stands = subst (Stands (record set { phase = Command }) start) (sym end) in_seven;
    }

pub results_given : (ending : Ending) (results : Results) (old new : Board) (a b c d e f g : ℕ) → IsQuiet (controller_of old) → (controller_of old).asking ≡ false
    → (controller_of old).phase ≡ Result (Long ending results 0) → GivesBytes old (a ∷ b ∷ c ∷ d ∷ e ∷ f ∷ g ∷ []) new → HasGiven results (setting_of old) old (a ∷ b ∷ c ∷ d ∷ e ∷ f ∷ g ∷ []) new
results_given ending results old new a b c d e f g quiet low is gives =
    seven_given ending results (setting_of old) old old new a b c d e f g
    (subst (λ phase. Stands (record (setting_of old) { phase = phase }) old old) is (starts_standing old quiet (ap is_executing is) low)) gives
