-- What is set up before a data command on an idle machine; all else stays.
use Rattle.std.proofs.Common.{◌≡◌, ℕ, ◌-◌, ◌/◌, ◌%◌, ◌<◌, ◌≤◌, nat_le, true, false, Option, Some, None, is_some, IfSome, refl, sym, ◌∙◌, ap, subst, arith, inl, inr, suc, ◌+◌, ◌==◌, List, [], ◌∷◌, ◌++◌, slice_index, slice_set}
use Rattle.machine_commands.proofs.Common.{Channel, set_up, Rate, in_bay, Disk, DriveState, InRange, turns, track_words, ccr_written, Fdc, Board, channel_of, controller_of, drive_in, Outputs, is_controllers, sets_lines, Bus, drive_stays, Prepares, SetsChannel, rate_byte, dor_with, IsIdle, IsReady, is_spun, rig_of, Motors, false≢true, and_parts, nat_tests, after_write, IsDisk, Ready, Seeking, ended, sensed, after_sense, is_seeking, has_ended, Motion, Obeys, polled, Lines, next_entry, lines_of, RunsGap, is_up, Sends, answer, EndsSeek, none_pending}
use Rattle.machine_commands.proofs.Idling.{IsResting, StaysIdle, speed_stays, drive_kept, kept_in, speed_kept, spun_in, KeepsDrive, KeepsSpeed, Idles}
use Rattle.machine_commands.proofs.Accesses.{gap_idles, output_idles, same_drive, same_speed, accessed, accessed_keeps, settles_to}
use Rattle.machine_commands.proofs.Selecting.{selects_idle, with_dor, ready_set, ready_rests, ready_with, is_dor, not_held, sensed_to, senses_pending}
use Rattle.machine_commands.proofs.Steps.{idles_none, stays_then, keeps_then, speed_then, idles_then, unpolled, low_line}
use Rattle.fdc_commands.specs.declared.command.Command.{Command}
use Rattle.machine_commands.proofs.Bytes.{IsListening, AreMore, with_bytes, listens_with, first_bytes, sends_parts, last_written}
use Rattle.machine_commands.proofs.Seeking.{CanSeek, IsRule, IsOnWay, IsOver, Leaves, Sought, all_leave, on_way, at_end, gap_seeks, idles_leave, leaves_then, wait_seeks}

-- ---- the medium in a bay

some_of : (medium : Option Disk) → is_some medium ≡ true → (disk : Disk) × (medium ≡ Some disk)
some_of None none = absurd (false≢true none)
some_of (Some disk) some = (disk, refl)

-- a medium at speed is in
pub record HasDisk (disk : Disk) (drive : DriveState) : Type 0 where
  pub medium : drive.medium ≡ Some disk
  pub disk_is : IsDisk disk
  pub motor : drive.motor ≡ true
  pub speed : 6250 ≤ drive.spin
  pub inside : drive.place < disk.words_per_track

has_disk : (drive : DriveState) → is_spun drive ≡ true → InRange drive → (disk : Disk) × HasDisk disk drive
has_disk drive spun range =
    let (turning, fast) = and_parts (turns drive) (nat_le 6250 drive.spin) spun in
    let (motor, there) = and_parts drive.motor (is_some drive.medium) turning in
    let (disk, medium) = some_of drive.medium there in
    let is : IsDisk disk = subst (λ m. IfSome m IsDisk) medium range.medium in
    let place = subst (λ m. drive.place ≤ track_words m - 1) medium range.place in
    let words = is.words_per_track.0 in
    let quick : 6250 ≤ drive.spin = grind (arith, nat_tests) in
    (disk, record { medium = medium; disk_is = is; motor = motor; speed = quick; inside = omega arith })

pub disk_stays : (bay : ℕ) (disk : Disk) (old new : Board) → StaysIdle old new → HasDisk disk (drive_in old bay) → HasDisk disk (drive_in new bay)
disk_stays bay disk old new stays has =
    let keeps = drive_kept old new bay stays.keeps in
    let speed = speed_kept old new bay stays in
    let words : track_words (drive_in old bay).medium ≡ disk.words_per_track = ap track_words has.medium in
    record {
      medium = keeps.medium ∙ has.medium;
      disk_is = has.disk_is;
      motor = speed.motor ∙ has.motor;
      speed = let before = has.speed in let more = speed.spin has.motor in omega arith;
      inside = subst (λ n. (drive_in new bay).place < n) words (keeps.place (subst (λ n. (drive_in old bay).place < n) (sym words) has.inside));
    }

-- ---- the bay and the rate

-- the controller with this bay selected and this rate set
abbrev pub prepared : Motors → ℕ → Rate → Fdc → Fdc
prepared motors bay rate fdc = ccr_written (rate_byte rate) (with_dor (dor_with motors bay) fdc)

pub ready_prepared : (motors : Motors) (bay : ℕ) (rate : Rate) (fdc : Fdc) → IsReady fdc → IsReady (prepared motors bay rate fdc)
ready_prepared motors bay rate fdc ready = ready_set fdc (prepared motors bay rate fdc) ready

-- a machine with a bay selected, in which a medium turns at speed, and a rate set
pub record IsPrepared (motors : Motors) (bay : ℕ) (rate : Rate) (old ready : Board) : Type 0 where
  pub disk : Disk
  pub has : HasDisk disk (drive_in ready bay)
  pub stays : StaysIdle old ready
  pub controller_is : controller_of ready ≡ prepared motors bay rate (controller_of old)
  pub channel : channel_of ready ≡ channel_of old

pub is_prepared : (motors : Motors) (bay : ℕ) (rate : Rate) (old ready : Board) → IsIdle motors old → bay ≤ 1 → in_bay (rig_of old).spun bay ≡ true → Prepares motors bay rate old ready
    → IsPrepared motors bay rate old ready
is_prepared motors bay rate old ready idle small spun prepares =
    let fdc = controller_of old in
    let byte = dor_with motors bay in
    let selected = prepares.selected in
    let one = selects_idle motors bay old selected small idle.motors_are (ready_rests fdc idle.ready) (ready_rests (with_dor byte fdc) (ready_with byte fdc idle.ready)) prepares.selects in
    let target = prepared motors bay rate fdc in
    let two = output_idles 0x3F7 (rate_byte rate) selected ready prepares.rates refl refl target
    (λ controller writes. writes.control refl ∙ ap (ccr_written (rate_byte rate)) one.controller_is) (λ low. idle.ready.no_interrupt)
    (ready_rests target (ready_prepared motors bay rate fdc idle.ready)) in
    let fast = speed_stays (drive_in old bay) (drive_in selected bay) (drive_kept old selected bay one.stays.keeps).medium (speed_kept old selected bay one.stays) (spun_in bay old ∙ spun) in
    let (disk, has) = has_disk (drive_in selected bay) fast (kept_in (λ before now. InRange now) bay selected selected prepares.first prepares.second) in
    record {
      disk = disk;
      has = disk_stays bay disk selected ready two.stays has;
      stays = stays_then old selected ready one.stays two.stays;
      controller_is = two.controller_is;
      channel = two.channel ∙ one.channel;
    }

-- ---- DMA channel 2

-- the channel is set in this way, and all else stays
pub record IsSetTo (old : Board) (channel : Channel) (new : Board) : Type 0 where
  pub stays : StaysIdle old new
  pub controller_is : controller_of new ≡ controller_of old
  pub channel_is : channel_of new ≡ channel

-- a port outside the controller was written, and the gap is still to come
written_to : (port value : ℕ) (old new : Board) → is_controllers port ≡ false → sets_lines port value ≡ false → (access : Outputs port value old new)
    → IsSetTo old (after_write port value (channel_of old)) access.between
written_to port value old new beside other access =
    let bus : access.between.bus ≡ record old.bus { chips = record old.bus.chips { channel = after_write port value (channel_of old) }; fresh = false } =
    access.writes.bus ∙ ap (λ c. let b : Bus = record old.bus { chips = c; fresh = false } in b) (access.writes.writes.channels beside) in
    let first = drive_stays access.writes.lines.first other in
    let second = drive_stays access.writes.lines.second other in
    record {
      stays = record {
        keeps = record {
          memory = ap (λ b. b.chips.memory) bus;
          entries = ap (λ b. b.chips.holding.entries) bus;
          stalls = ap (λ b. b.chips.holding.stalls) bus;
          first = same_drive old.first access.between.first first;
          second = same_drive old.second access.between.second second;
          direct = ap (λ b. b.direct) bus;
          taken = let same : access.between.bus.taken ≡ old.bus.taken = ap (λ b. b.taken) bus in omega arith;
        };
        first = same_speed old.first access.between.first first;
        second = same_speed old.second access.between.second second;
        quiet = λ low. ap (λ b. b.chips.controller.interrupt) bus ∙ low;
        low = λ _ low. ap (λ b. b.latch.level) bus ∙ low;
      };
      controller_is = ap (λ b. b.chips.controller) bus;
      channel_is = ap (λ b. b.chips.channel) bus;
    }

set_next : (port value : ℕ) (start old new : Board) (channel : Channel) → is_controllers port ≡ false → sets_lines port value ≡ false → IsResting (controller_of start) → IsSetTo start channel old
    → Outputs port value old new → IsSetTo start (after_write port value channel) new
set_next port value start old new channel beside other rests was access =
    let one = written_to port value old new beside other access in
    let between = access.between in
    let two = gap_idles between new access.gap (subst IsResting (sym (one.controller_is ∙ was.controller_is)) rests) in
    record {
      stays = stays_then start old new was.stays (stays_then old between new one.stays two.stays);
      controller_is = two.controller_is ∙ (one.controller_is ∙ was.controller_is);
      channel_is = two.channel ∙ (one.channel_is ∙ ap (after_write port value) was.channel_is);
    }

pub none_set : (board : Board) → IsSetTo board (channel_of board) board
none_set board = record { stays = (idles_none board).stays; controller_is = refl; channel_is = refl }

pub channel_sets : (mode address last : ℕ) (old new : Board) → IsResting (controller_of old) → SetsChannel mode address last old new
    → IsSetTo old (set_up mode address last (after_write 0x08 0 (channel_of old))) new
channel_sets mode address last old new rests sets =
    let enabled = set_next 0x08 0 old old sets.enabled (channel_of old) refl refl rests (none_set old) sets.enables in
    let masked = set_next 0x0A 0x06 old sets.enabled sets.masked _ refl refl rests enabled sets.masks in
    let cleared = set_next 0x0C 0 old sets.masked sets.cleared _ refl refl rests masked sets.clears in
    let moded = set_next 0x0B mode old sets.cleared sets.moded _ refl refl rests cleared sets.modes in
    let low = set_next 0x04 (address % 256) old sets.moded sets.places.low _ refl refl rests moded sets.places.lows in
    let high = set_next 0x04 (address / 256 % 256) old sets.places.low sets.places.high _ refl refl rests low sets.places.highs in
    let placed = set_next 0x81 (address / 65536) old sets.places.high sets.placed _ refl refl rests high sets.places.pages in
    let count_low = set_next 0x05 (last % 256) old sets.placed sets.counts.low _ refl refl rests placed sets.counts.lows in
    let counted = set_next 0x05 (last / 256) old sets.counts.low sets.counted _ refl refl rests count_low sets.counts.highs in
    set_next 0x0A 0x02 old sets.counted new _ refl refl rests counted sets.unmasks

-- ---- A seek from its first byte to the end of its result

-- ---- the result of a seek

abbrev over_at : Seeking → ℕ → ℕ → Seeking
over_at seeks bay number = record { cylinders = slice_set seeks.cylinders bay number; seek = None; pending = none_pending }

pub sensed_of : (bay number status : ℕ) (seeks : Seeking) → bay ≤ 1 → seeks.pending ≡ none_pending
    → sensed (ended seeks bay number status) ≡ Some (status, slice_index (slice_set seeks.cylinders bay number) bay)
sensed_of (suc (suc bay)) number status seeks small none = absurd (omega arith)
sensed_of _ number status seeks small none = rw none refl

pub after_sense_of : (bay number status : ℕ) (seeks : Seeking) → bay ≤ 1 → seeks.pending ≡ none_pending → after_sense (ended seeks bay number status) ≡ over_at seeks bay number
after_sense_of (suc (suc bay)) number status seeks small none = absurd (omega arith)
after_sense_of _ number status seeks small none = rw none refl

-- ---- the way

-- a command of a seek
pub record SeekCommand (bay : ℕ) (fdc : Fdc) (drive : DriveState) (Way : ℕ → Motion → DriveState → Type 0) (Over : ℕ → ℕ → DriveState → Type 0) : Type 0 where
  pub first : List ℕ
  pub last : ℕ
  pub command : Command
  pub more : AreMore [] first
  pub whole : answer (first ++ last ∷ []) ≡ Ready command
  pub motion : Motion
  pub obeys : (lines : Lines) (controller : Fdc) → Obeys command lines fdc controller → controller ≡ on_way fdc bay motion
  pub runs : has_ended motion ≡ false
  pub rule : IsRule bay Way Over
  pub begins : (now : DriveState) → KeepsDrive drive now → KeepsSpeed drive now → Way 0 motion now
  -- the command takes fewer steps than are waited for
  pub ends : (n : ℕ) (m : Motion) (now : DriveState) → 80 ≤ n → Way n m now → ⊥
  pub told : (number status : ℕ) (now : DriveState) → Over number status now → (status == 0x80) ≡ false

-- what a seek leaves
pub record SeekDone (bay : ℕ) (fdc : Fdc) (Over : ℕ → ℕ → DriveState → Type 0) (status : ℕ) (old new : Board) : Type 0 where
  pub number : ℕ
  pub code : ℕ
  pub status_is : status ≡ code
  pub over : Over number code (drive_in new bay)
  pub leaves : Leaves bay old new
  pub controller_is : controller_of new ≡ sensed_to (at_end fdc bay number code)
  pub low : is_up new ≡ false

-- the command has begun: its last byte is written, and the gap is to come
record Begun (bay : ℕ) (fdc : Fdc) (Way : ℕ → Motion → DriveState → Type 0) (old between : Board) : Type 0 where
  pub on_its_way : IsOnWay fdc bay 0 Way between
  pub leaves : Leaves bay old between

begins : (bay : ℕ) (fdc : Fdc) (Way : ℕ → Motion → DriveState → Type 0) (Over : ℕ → ℕ → DriveState → Type 0) (old mid sent : Board)
    → (does : SeekCommand bay fdc (drive_in old bay) Way Over) → Idles (with_bytes does.first fdc) old mid → IsListening fdc → fdc.command ≡ []
    → (access : Outputs 0x3F5 does.last mid sent) → Begun bay fdc Way old access.between
begins bay fdc Way Over old mid sent does idles listens none access =
    let (controller, writes, chips) = access.writes.writes.controllers refl in
    let at = idles.controller_is in
    let here = subst IsListening (sym at) (listens_with does.first fdc listens) in
    let whole : answer ((controller_of mid).command ++ does.last ∷ []) ≡ Ready does.command = ap (λ f. answer (f.command ++ does.last ∷ [])) at ∙ does.whole in
    let obeyed = last_written does.last does.command (controller_of mid) controller (lines_of mid) here whole writes in
    let bare : with_bytes [] (controller_of mid) ≡ fdc = ap (λ f. with_bytes [] f) at ∙ ap (λ bytes. with_bytes bytes fdc) (sym none) in
    let is = does.obeys (lines_of mid) controller (subst (λ f. Obeys does.command (lines_of mid) f controller) bare obeyed) in
    let target = on_way fdc bay does.motion in
    let between = access.between in
    let bus : between.bus ≡ accessed target mid.bus = access.writes.bus
    ∙ (ap (λ c. let b : Bus = record mid.bus { chips = c; fresh = false } in b) chips ∙ ap (λ c. accessed c mid.bus) is) in
    let first = drive_stays access.writes.lines.first refl in
    let second = drive_stays access.writes.lines.second refl in
    let keeps = accessed_keeps target mid between bus (same_drive mid.first between.first first) (same_drive mid.second between.second second) in
    let all = keeps_then old mid between idles.stays.keeps keeps in
    let speed_first = speed_then old.first mid.first between.first idles.stays.first (same_speed mid.first between.first first) in
    let speed_second = speed_then old.second mid.second between.second idles.stays.second (same_speed mid.second between.second second) in
    let left = all_leave bay old between all speed_first speed_second in
    record {
      on_its_way = record {
        motion = does.motion;
        runs = does.runs;
        controller_is = ap (λ b. b.chips.controller) bus;
        way = does.begins (drive_in between bay) (drive_kept old between bay all) (kept_in KeepsSpeed bay old between speed_first speed_second);
      };
      leaves = left;
    }

-- the seek is over after the wait
record Waited (bay : ℕ) (fdc : Fdc) (Over : ℕ → ℕ → DriveState → Type 0) (old waited : Board) : Type 0 where
  pub over : IsOver fdc bay Over waited
  pub leaves : Leaves bay old waited

never_on : (fdc : Fdc) (bay n : ℕ) (Way : ℕ → Motion → DriveState → Type 0) (Over : ℕ → ℕ → DriveState → Type 0) (board : Board)
    → ((m : Motion) (now : DriveState) → Way n m now → ⊥) → Sought fdc bay Way Over n board → IsOver fdc bay Over board
never_on fdc bay n Way Over board never sought = elim sought [
  | inl way ↦ absurd (never way.motion (drive_in board bay) way.way)
  | inr over ↦ over
]

waits : (bay : ℕ) (fdc : Fdc) (Way : ℕ → Motion → DriveState → Type 0) (Over : ℕ → ℕ → DriveState → Type 0) (status : ℕ) (old between sent new : Board) → bay ≤ 1 → CanSeek bay fdc
    → (does : SeekCommand bay fdc (drive_in old bay) Way Over) → Begun bay fdc Way old between → RunsGap between sent → (ends : EndsSeek sent status new)
    → Waited bay fdc Over old ends.waited
waits bay fdc Way Over status old between sent new small can does begun gap ends =
    let n = next_entry between.bus.gaps in
    let one = gap_seeks 0 fdc bay Way Over between small can does.rule (inl begun.on_its_way) sent gap in
    let two = wait_seeks (0 + n) fdc bay Way Over sent small can does.rule one.sought 80 ends.waited ends.runs in
    let left = leaves_then bay old between sent begun.leaves one.leaves in
    record {
      over = never_on fdc bay ((0 + n) + 80) Way Over ends.waited (λ m now. does.ends ((0 + n) + 80) m now (omega arith)) two.sought;
      leaves = leaves_then bay old sent ends.waited left two.leaves;
    }

-- ---- its result

takes_result : (bay : ℕ) (fdc : Fdc) (Way : ℕ → Motion → DriveState → Type 0) (Over : ℕ → ℕ → DriveState → Type 0) (status : ℕ) (old sent new : Board) → bay ≤ 1 → CanSeek bay fdc
    → IsListening fdc → fdc.command ≡ [] → fdc.seeks.pending ≡ none_pending
    → (does : SeekCommand bay fdc (drive_in old bay) Way Over) → (ends : EndsSeek sent status new) → Waited bay fdc Over old ends.waited → SeekDone bay fdc Over status old new
takes_result bay fdc Way Over status old sent new small can listens none pending does ends was =
    let number = was.over.number in
    let code = was.over.status in
    let over = at_end fdc bay number code in
    let after = sensed_to over in
    let released : after_sense over.seeks ≡ over_at fdc.seeks bay number = after_sense_of bay number code fdc.seeks small pending in
    let idle_after : is_seeking (after_sense over.seeks) ≡ false = ap is_seeking released in
    let listening : IsListening over = record {
      rests = record { no_command = can.no_command; no_seek = refl; not_asking = can.not_asking; no_poll = can.no_poll };
      phase_is = listens.phase_is;
      not_held = listens.not_held;
    } in
    let resting : IsResting after = record { no_command = refl; no_seek = idle_after; not_asking = can.not_asking; no_poll = can.no_poll } in
    let told = does.told number code (drive_in ends.waited bay) was.over.over in
    let (status_is, idles) = senses_pending status ends.waited ends.sensed over code (slice_index (slice_set fdc.seeks.cylinders bay number) bay)
    was.over.controller_is listening none (sensed_of bay number code fdc.seeks small pending) told idle_after ends.senses in
    let settled = settles_to ends.sensed new after ends.settles (ap polled idles.controller_is ∙ unpolled after resting.no_poll) resting in
    let one = does.rule.stays number code (drive_in ends.waited bay) (drive_in ends.sensed bay) (drive_kept ends.waited ends.sensed bay idles.stays.keeps)
    (kept_in KeepsSpeed bay ends.waited ends.sensed idles.stays.first idles.stays.second) was.over.over in
    record {
      number = number;
      code = code;
      status_is = status_is;
      over = does.rule.stays number code (drive_in ends.sensed bay) (drive_in new bay) (drive_kept ends.sensed new bay settled.keeps)
          (kept_in KeepsSpeed bay ends.sensed new settled.first settled.second) one;
      leaves = leaves_then bay old ends.waited new was.leaves
          (leaves_then bay ends.waited ends.sensed new (idles_leave bay ends.waited ends.sensed after idles) (all_leave bay ends.sensed new settled.keeps settled.first settled.second));
      controller_is = settled.controller_is;
      low = settled.level ∙ low_line after refl;
    }

-- ---- all of it

pub seek_done : (motors : Motors) (bay : ℕ) (Way : ℕ → Motion → DriveState → Type 0) (Over : ℕ → ℕ → DriveState → Type 0) (status : ℕ) (old selected sent new : Board)
    → IsIdle motors old → bay ≤ 1
    → (does : SeekCommand bay (with_dor (dor_with motors bay) (controller_of old)) (drive_in old bay) Way Over)
    → Outputs 0x3F2 (dor_with motors bay) old selected → Sends (does.first ++ does.last ∷ []) selected sent → EndsSeek sent status new
    → SeekDone bay (with_dor (dor_with motors bay) (controller_of old)) Over status old new
seek_done motors bay Way Over status old selected sent new idle small does selects sends ends =
    let byte = dor_with motors bay in
    let fdc = with_dor byte (controller_of old) in
    let ready = ready_with byte (controller_of old) idle.ready in
    let rests = ready_rests fdc ready in
    let one = selects_idle motors bay old selected small idle.motors_are (ready_rests (controller_of old) idle.ready) rests selects in
    let listens : IsListening fdc = record { rests = rests; phase_is = ready.phase; not_held = not_held motors bay fdc small refl } in
    let can : CanSeek bay fdc = record { no_command = rests.no_command; not_asking = rests.not_asking; no_poll = rests.no_poll; selects = (is_dor motors bay small).selects } in
    let (mid, before, (last, access, same)) = sends_parts does.first (does.last ∷ []) selected sent sends in
    let sends_first = first_bytes [] does.first selected mid (ap (λ f. f.command) one.controller_is ∙ ready.no_bytes) (subst IsListening (sym one.controller_is) listens) does.more before in
    let idles : Idles (with_bytes does.first fdc) old mid = idles_then one
    (subst (λ f. Idles f selected mid) (ap (λ f. with_bytes does.first f) one.controller_is) sends_first) in
    let begun = begins bay fdc Way Over old mid last does idles listens ready.no_bytes access in
    let here : EndsSeek last status new = subst (λ board. EndsSeek board status new) same ends in
    let waited = waits bay fdc Way Over status old access.between last new small can does begun access.gap here in
    takes_result bay fdc Way Over status old last new small can listens ready.no_bytes ready.seeks.no_result does here waited
