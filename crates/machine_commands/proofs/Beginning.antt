-- A data command begins on an idle machine, once all is set up and its bytes are sent.
use Rattle.std.proofs.Common.{◌≡◌, inl, inr, ℕ, suc, ◌+◌, ◌*◌, ◌/◌, ◌%◌, ◌<◌, ◌≤◌, ◌==◌, not, Bool, true, false, List, [], ◌∷◌, ◌++◌, length, Result as result, refl, sym, ◌∙◌, ap, subst, arith, Result, Ok, Err}
use Rattle.std.specs.Prelude.{bit_and}
use Rattle.machine_commands.proofs.Common.{Channel, set_up, kept, More, seek_bits, TakesAs, Sent, takes_in, is_taking, asks, data_commands_of, dor_of, is_held, Fdc, Code, Rate, R500, R250, Holds, shown, Low, Order, scene_of, Scene, data_rate, Steady, gap, Board, controller_of, drive_in, holds_of, lines_of, memory_of, Outputs, shown_again, in_bay, Disk, Finishes, Prepares, rate_byte, IsIdle, IsReady, Sends, rig_of, Motors, Done, All, has_bit, reads_memory, answer, AreShort, IsShort, StandsReady, CanBegin, IsLast, IsSetFor, most_steps_of, IsScene, Lasts, Uses, goes_begins, AreCounts, Chrn, Results, Ending, has_set, refusal_of, bit_or, results_of, st1_of, Finished}
use Rattle.dma_8237.specs.Channel.{after_write}
use Rattle.dma_8237.proofs.SettingUp.{is_set_up}
use Rattle.fdc_commands.specs.declared.bytes.Accepted.{Accepted}
use Rattle.fdc_phases.specs.Rates.{rate_chosen}
use Rattle.laws_machine.specs.OnReads.Begins.{IsDriveOf}
use Rattle.laws_machine.specs.OnReads.Underway.{IsSet}
use Rattle.laws_machine.specs.OnWrites.Underway.{IsReadSet}
use Rattle.laws_machine.proofs.OnReads.Beginnings.{is_set}
use Rattle.machine_commands.proofs.Idling.{IsResting, StaysIdle, Idles}
use Rattle.machine_commands.proofs.Bytes.{AreMore, IsListening, byte_more, first_bytes, listens_with, sends_parts, with_bytes}
use Rattle.machine_commands.proofs.Lasting.{Costs, before, costs_within, finishes_cost, prepares_cost, sends_cost, HasFinished, IsSending, has_finished, outcome_in}
use Rattle.machine_commands.proofs.Preparing.{HasDisk, IsSetTo, disk_stays, is_prepared, prepared, ready_prepared}
use Rattle.machine_commands.proofs.Selecting.{is_dor, not_held, ready_listens}
use Rattle.machine_commands.proofs.Statuses.{no_bits}
use Rattle.machine_commands.proofs.Steps.{calm_asks, idles_then, stays_then, step_to, unpolled}

-- ---- the request

-- a DMA request that is low stays low while the controller rests
low_stays : Steady (λ board. IsResting (controller_of board) × ((holds_of board).request ≡ Low))
low_stays = record {
  step = λ old new step (rests, low). (let to = step_to old new (controller_of old) step (unpolled (controller_of old) rests.no_poll) rests in (subst IsResting (sym to.controller_is) rests, to.request));
  idle = λ old gaps fresh was. was;
}

shown_low : (line : Bool) (holding : Holds) → line ≡ false → (shown line holding).request ≡ Low
shown_low true holding is = absurd cc
shown_low false holding is = refl

-- there is no DMA request after a byte of a command that isn't whole
byte_low : (byte : ℕ) (old new : Board) → IsListening (controller_of old) → answer ((controller_of old).command ++ byte ∷ []) ≡ More → Outputs 0x3F5 byte old new → (holds_of new).request ≡ Low
byte_low byte old new listens more access =
    let fdc = controller_of old in
    let bytes = fdc.command ++ byte ∷ [] in
    let (controller, writes, chips) = access.writes.writes.controllers refl in
    let taking : is_taking fdc ≡ true = ap (λ p. takes_in p (is_held fdc)) listens.phase_is ∙ ap not listens.not_held in
    let takes = (writes.bytes refl).0 taking in
    let is : controller ≡ with_bytes bytes fdc = subst (λ a. TakesAs a (lines_of old) (record fdc { command = kept a bytes }) controller) more takes in
    let at : access.between.bus.chips ≡ shown_again (record old.bus.chips { controller = controller }) = ap (λ bus. bus.chips) access.writes.bus ∙ chips in
    let calm : asks controller ≡ false = calm_asks controller (ap (λ f. f.asking) is ∙ listens.rests.not_asking) in
    let low : (holds_of access.between).request ≡ Low = ap (λ c. c.holding.request) at ∙ shown_low (asks controller) old.bus.chips.holding calm in
    let rests : IsResting (controller_of access.between) = subst IsResting (sym (ap (λ c. c.controller) at ∙ is)) (listens_with bytes fdc listens).rests in
    (gap (λ board. IsResting (controller_of board) × ((holds_of board).request ≡ Low)) low_stays access.between new access.gap (rests, low)).1

-- ---- the bytes of the command

-- all bytes of a command but the last were sent
record IsSentTo (bytes : List ℕ) (byte : ℕ) (set sent : Board) : Type 0 where
  start : Board
  idles : Idles (with_bytes bytes (controller_of set)) set start
  request : (holds_of start).request ≡ Low
  last : Outputs 0x3F5 byte start sent

bytes_sent : (first : List ℕ) (next byte : ℕ) (set sent : Board) → IsListening (controller_of set) → (controller_of set).command ≡ [] → AreMore [] first → answer (first ++ next ∷ []) ≡ More
    → Sends (first ++ (next ∷ byte ∷ [])) set sent → IsSentTo (first ++ next ∷ []) byte set sent
bytes_sent first next byte set sent listens none more whole sends =
    let fdc = controller_of set in
    let (before, one, (start, second, (last, third, same))) = sends_parts first (next ∷ byte ∷ []) set sent sends in
    let idles = first_bytes [] first set before none listens more one in
    let here : IsListening (controller_of before) = subst IsListening (sym idles.controller_is) (listens_with first fdc listens) in
    let command : (controller_of before).command ≡ first = ap (λ f. f.command) idles.controller_is in
    let two = byte_more next (first ++ next ∷ []) before start here (ap (λ b. b ++ next ∷ []) command) whole second in
    record {
      start = start;
      idles = idles_then idles
          (subst (λ f. Idles (with_bytes (first ++ next ∷ []) f) before start) idles.controller_is two);
      request = byte_low next before start here (ap (λ b. answer (b ++ next ∷ [])) command ∙ whole) second;
      last = subst (Outputs 0x3F5 byte start) (sym same) third;
    }

-- ---- the channel

enabled : (c : Channel) → has_bit (after_write 0x08 0 c).command 2 ≡ false
unfolding after_write
enabled c = refl

pub set_to_memory : (address left : ℕ) (c : Channel) → address < 1048576 → address % 65536 + left < 65536 → IsSet (set_up 0x46 address left (after_write 0x08 0 c)) address left
set_to_memory address left c inside room =
    is_set address left (set_up 0x46 address left (after_write 0x08 0 c)) (is_set_up 0x46 address left (after_write 0x08 0 c) (inl refl) (enabled c) inside (omega arith)) room

pub set_from_memory : (address left : ℕ) (c : Channel) → address < 1048576 → address % 65536 + left < 65536 → IsReadSet (set_up 0x4A address left (after_write 0x08 0 c)) address left
set_from_memory address left c inside room =
    let channel = set_up 0x4A address left (after_write 0x08 0 c) in
    let up = is_set_up 0x4A address left (after_write 0x08 0 c) (inr refl) (enabled c) inside (omega arith) in
    record {
      granting = up.granting;
      reading = ap (λ mode. reads_memory (record channel { mode = mode })) up.mode_is;
      place = up.place;
      count = up.count;
      room = let at = up.address_is in omega arith;
    }

-- ---- a machine to which all but the last byte was sent

-- the machine was idle, and has a medium at speed in the bay
pub record HasSent (motors : Motors) (bay : ℕ) (rate : Rate) (old start : Board) : Type 0 where
  pub counts : AreCounts old
  pub stays : StaysIdle old start
  pub sending : IsSending motors bay start
  pub numbers : (controller_of start).seeks.cylinders ≡ (controller_of old).seeks.cylinders
  pub commands : data_commands_of (controller_of start) ≡ data_commands_of (controller_of old)
  pub rate_at : (controller_of start).rate ≡ data_rate rate
  pub short : AreShort (holds_of start)

chosen : (rate : Rate) → rate_chosen (rate_byte rate) ≡ data_rate rate
chosen R500 = refl
chosen R250 = refl

has_sent : (motors : Motors) (bay : ℕ) (rate : Rate) (bytes : List ℕ) (old start : Board) → IsIdle motors old → bay ≤ 1 → AreCounts old → AreShort (holds_of old) → StaysIdle old start
    → controller_of start ≡ with_bytes bytes (prepared motors bay rate (controller_of old)) → (holds_of start).request ≡ Low → HasSent motors bay rate old start
has_sent motors bay rate bytes old start idle small counts short stays is request = record {
  counts = counts;
  stays = stays;
  sending = record {
    bay_in = small;
    ready = subst (λ f. IsReady (with_bytes [] f)) (sym is)
        (subst IsReady (ap (λ none. with_bytes none (prepared motors bay rate (controller_of old))) idle.ready.no_bytes) (ready_prepared motors bay rate (controller_of old) idle.ready));
    dor = ap dor_of is;
    first = stays.first.motor ∙ idle.motors_are.first;
    second = stays.second.motor ∙ idle.motors_are.second;
    low = stays.low idle.ready.no_interrupt idle.low;
    request = request;
  };
  numbers = ap (λ f. f.seeks.cylinders) is;
  commands = ap data_commands_of is;
  rate_at = ap (λ f. f.rate) is ∙ chosen rate;
  short = record { entries = subst (All (λ entry. entry ≤ 255)) (sym stays.keeps.entries) short.entries; request = subst IsShort (sym request) tt };
}

sending_free : (motors : Motors) (bay : ℕ) (board : Board) → IsSending motors bay board → is_held (controller_of board) ≡ false
sending_free motors bay board sending = not_held motors bay (controller_of board) sending.bay_in sending.dor

selects_bay : (motors : Motors) (bay : ℕ) (board : Board) → IsSending motors bay board → dor_of (controller_of board) % 4 ≡ bay
selects_bay motors bay board sending = ap (λ n. n % 4) sending.dor ∙ (is_dor motors bay sending.bay_in).selects

-- what a command needs that begins on such a machine
stands_ready : (motors : Motors) (bay : ℕ) (board : Board) → IsSending motors bay board → StandsReady board
stands_ready motors bay board sending = record {
  out = record {
    selects = subst (λ n. n ≤ 1) (sym (selects_bay motors bay board sending)) sending.bay_in;
    gated = ap (λ byte. bit_and byte 8 == 8) sending.dor ∙ (is_dor motors bay sending.bay_in).gated;
    no_seek = sending.ready.seeks.no_seek;
    polled = sending.ready.polled;
  };
  hushed = record { low = sending.ready.no_interrupt; polled = sending.ready.polled; level = sending.low };
  on = sending.ready.fifo_on;
  threshold = sending.ready.threshold;
  low = sending.request;
}

drive_of : (s : Sent) (bay : ℕ) (disk : Disk) (address size : ℕ) (start : Board) → HasDisk disk (drive_in start bay) → IsDriveOf (scene_of s bay disk address size start) (drive_in start bay)
drive_of s bay disk address size start has = record {
  medium = has.medium;
  cylinder = refl;
  motor = has.motor;
  speed = has.speed;
  place = refl;
  inside = has.inside;
  faults = refl;
}

-- the controller takes one more byte, and with it the command is this one
pub record IsTaking (bytes : List ℕ) (byte : ℕ) (fdc : Fdc) : Type 0 where
  pub whole : (accepted : Accepted) → answer (bytes ++ byte ∷ []) ≡ accepted → answer (fdc.command ++ byte ∷ []) ≡ accepted
  pub taking : is_taking fdc ≡ true
  pub dma : fdc.non_dma ≡ false
  pub no_seek : seek_bits fdc.seeks ≡ 0

is_taking_byte : (motors : Motors) (bay : ℕ) (bytes : List ℕ) (byte : ℕ) (board : Board) → IsSending motors bay board → (controller_of board).command ≡ bytes → IsTaking bytes byte (controller_of board)
is_taking_byte motors bay bytes byte board sending is = record {
  whole = λ accepted whole. ap (λ b. answer (b ++ byte ∷ [])) is ∙ whole;
  taking = ap (λ p. takes_in p (is_held (controller_of board))) sending.ready.phase ∙ ap not (sending_free motors bay board sending);
  dma = sending.ready.by_dma;
  no_seek = no_bits (controller_of board).seeks sending.ready.seeks;
}

-- ---- the whole command

-- a data command ran on a machine that was idle, until its results were taken
pub record HasRun (order : Order) (scene : Scene) (motors : Motors) (rate : Rate) (start old : Board) (outcome : result Done Code) (new : Board) : Type 0 where
  pub sent : HasSent motors scene.bay rate old start
  pub scene_is : IsScene scene
  pub drive : IsDriveOf scene (drive_in start scene.bay)
  pub memory : memory_of start ≡ scene.memory
  pub rate_is : scene.rate ≡ data_rate rate
  pub selects : dor_of (controller_of start) % 4 ≡ scene.bay
  pub over : HasFinished order scene start outcome new
  pub lasts : Lasts (most_steps_of scene.disk.words_per_track + 3) old new

pub record IsRun (order : Order) (s : Sent) (bay address size : ℕ) (motors : Motors) (rate : Rate) (accesses : ℕ) (old : Board) (outcome : result Done Code) (new : Board) : Type 0 where
  pub disk : Disk
  pub start : Board
  pub uses : Uses accesses old new
  pub run : HasRun order (scene_of s bay disk address size start) motors rate start old outcome new

pub is_run : (order : Order) (s : Sent) (bay address size : ℕ) (motors : Motors) (rate : Rate) (setting accesses : ℕ) (channel : Board → Channel) (first : List ℕ) (next byte : ℕ) (old ready set sent : Board)
    (outcome : result Done Code) (new : Board) → IsIdle motors old → bay ≤ 1 → in_bay (rig_of old).spun bay ≡ true → address + size ≤ 1048576 → Prepares motors bay rate old ready
    → (IsResting (controller_of ready) → IsSetTo ready (channel ready) set) → Costs 0 setting ready set → 2 + (setting + (length (first ++ (next ∷ byte ∷ [])) + 8)) ≤ accesses → AreMore [] first → answer (first ++ next ∷ []) ≡ More → Sends (first ++ (next ∷ byte ∷ [])) set sent
    → Finishes sent outcome new
    → ((disk : Disk) (board : Board) → IsSetFor order (scene_of s bay disk address size board) (channel ready))
    → ((disk : Disk) (board : Board) → IsTaking (first ++ next ∷ []) byte (controller_of board) → IsLast order (scene_of s bay disk address size board) byte (controller_of board))
    → IsRun order s bay address size motors rate accesses old outcome new
is_run order s bay address size motors rate setting accesses channel first next byte old ready set sent outcome new idle small spun inside prepares sets sets_cost few more whole sends finishes set_for last =
    let is = is_prepared motors bay rate old ready idle small spun prepares in
    let target = prepared motors bay rate (controller_of old) in
    let listens : IsListening target = ready_listens motors bay target small refl (ready_prepared motors bay rate (controller_of old) idle.ready) in
    let put = sets (subst IsResting (sym is.controller_is) listens.rests) in
    let at : controller_of set ≡ target = put.controller_is ∙ is.controller_is in
    let part = bytes_sent first next byte set sent (subst IsListening (sym at) listens) (ap (λ f. f.command) at ∙ idle.ready.no_bytes) more whole sends in
    let start = part.start in
    let bytes = first ++ next ∷ [] in
    let later = stays_then ready set start put.stays part.idles.stays in
    let has = disk_stays bay is.disk ready start later is.has in
    let all = has_sent motors bay rate bytes old start idle small prepares.counts prepares.short (stays_then old ready start is.stays later) (part.idles.controller_is ∙ ap (with_bytes bytes) at) part.request in
    let scene = scene_of s bay is.disk address size start in
    let selects = selects_bay motors bay start all.sending in
    let scene_is : IsScene scene = record {
      selects = selects;
      bay = small;
      disk = has.disk_is;
      fits = let same : length (memory_of start) ≡ 1048576 = ap length all.stays.keeps.memory ∙ prepares.memory in omega arith;
    } in
    let can : CanBegin order scene byte start = record {
      scene_is = scene_is;
      dor = refl;
      rate = refl;
      drive = drive_of s bay is.disk address size start has;
      memory = refl;
      channel = subst (IsSetFor order scene) (sym (part.idles.channel ∙ put.channel_is)) (set_for is.disk start);
      last = last is.disk start (is_taking_byte motors bay bytes byte start all.sending (ap (λ f. f.command) part.idles.controller_is));
    } in
    let goes = goes_begins order scene byte start sent part.last can (stands_ready motors bay start all.sending) in
    let most = most_steps_of is.disk.words_per_track + 3 in
    let bytes_all = first ++ (next ∷ byte ∷ []) in
    let costs : Costs most accesses old new =
    costs_within most most (2 + (setting + (length bytes_all + 8))) accesses old new (omega arith) few
    (before most 2 (setting + (length bytes_all + 8)) old ready new (prepares_cost motors bay rate old ready prepares)
    (before most setting (length bytes_all + 8) ready set new sets_cost
    (before most (length bytes_all) 8 set sent new (sends_cost bytes_all set sent sends)
    (finishes_cost order scene start (sending_free motors bay start all.sending) all.short outcome sent new goes finishes)))) in
    record {
      disk = is.disk;
      start = start;
      uses = costs.uses;
      run = record {
        sent = all;
        scene_is = scene_is;
        drive = can.drive;
        memory = refl;
        rate_is = all.rate_at;
        selects = selects;
        over = has_finished order scene start (sending_free motors bay start all.sending) all.short outcome sent new goes finishes;
        lasts = costs.lasts;
      };
    }

-- ---- the head and the drive that are sent

pub head_of_sent : (head bay : ℕ) → head ≤ 1 → bay ≤ 1 → (head * 4 + bay) / 4 % 2 ≡ head
head_of_sent (suc (suc head)) bay low small = absurd (omega arith)
head_of_sent head (suc (suc bay)) low small = absurd (omega arith)
head_of_sent _ _ low small = refl

pub small_drive : (head bay : ℕ) → head ≤ 1 → bay ≤ 1 → head * 4 + bay ≤ 7
small_drive head bay low small = omega arith

-- ---- what the driver is answered for each ending of a data command

abbrev pub told_as : Ending → Chrn → Result Done Code
told_as (Finished deleted) key = Ok (record { deleted = deleted; key = key })
told_as over key = Err (refusal_of (st1_of over).0)

-- the head and the drive leave the interrupt code as it is
low_bits : (head_drive : ℕ) → head_drive ≤ 7 → (has_set (bit_and head_drive 7) 0xC0 ≡ false) × (has_set (bit_or (bit_and head_drive 7) 0x40) 0xC0 ≡ true)
low_bits (suc (suc (suc (suc (suc (suc (suc (suc more)))))))) small = absurd (omega arith)
low_bits _ small = (refl, refl)

outcome_as : (over : Ending) (head_drive : ℕ) (key : Chrn) → head_drive ≤ 7 → outcome_in (results_of over head_drive key) ≡ told_as over key
outcome_as (Finished true) head_drive key small = rw (low_bits head_drive small).0 refl
outcome_as (Finished false) head_drive key small = rw (low_bits head_drive small).0 refl
outcome_as _ head_drive key small = rw (low_bits head_drive small).1 refl

-- the outcome of an ending's results
pub outcome_is : (outcome : Result Done Code) (over : Ending) (results : Results) (head_drive : ℕ) (key : Chrn) → head_drive ≤ 7 → outcome ≡ outcome_in results → results ≡ results_of over head_drive key
    → outcome ≡ told_as over key
outcome_is outcome over results head_drive key small is same = is ∙ (ap outcome_in same ∙ outcome_as over head_drive key small)
