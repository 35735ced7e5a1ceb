-- A reset and set-up, from any state of the machine.
use Rattle.std.proofs.Common.{◌≡◌, ◌⊎◌, ◌&&◌, not, true, false, [], ◌∷◌, ◌++◌, refl, sym, ◌∙◌, ap, subst, arith, ℕ, zero, suc, ◌^◌, ◌≤◌, ◌==◌, Bool, Option, Some, None}
use Rattle.machine_commands.proofs.Common.{Command, InRange, Ready, is_executing, is_held, is_seeking, dor_written, ccr_written, Writes, data_commands_of, polled, Fdc, Board, controller_of, lines_of, IsReset, IsReady, IsIdle, is_up, rig_of, Specify, Configure, at_rest, with_polls, specified, configured, reset, Resets, none_on, in_bay, Disk, Seeking, seek_bits, answered, given, result_byte, dor_of, drive_in, lines_of_drive, OnlyAsks, dor_with, AreSeeksOver, Motors, bit_or, option_map_or, is_protected, SenseDrive, bits_if, status_of_lines, SensesDrive}
use Rattle.fdc_commands.specs.Table.{answer}
use Rattle.machine_commands.proofs.Idling.{idle_by, IsResting, KeepsSpeed, KeepsAll, Idles, keeps_reset, drive_kept, medium_in}
use Rattle.machine_commands.proofs.Accesses.{accessed_keeps, gap_idles, output_idles, input_idles, settles_to, polls_next, gap_polled}
use Rattle.machine_commands.proofs.Bytes.{IsListening, AreMore, with_bytes, whole_at, whole_command, lines_kept}
use Rattle.machine_commands.proofs.Selecting.{with_dor, clear_bit, dor_access, sensed_to, senses_pending, selects_idle, ready_rests, ready_with, ready_listens, idle_again, idle_asks, selected_lines}
use Rattle.machine_commands.proofs.Steps.{keeps_then, speed_then, idles_then}
use Rattle.std.specs.Prelude.{bit_and}

-- ---- the controller, stage by stage

abbrev held_at : Fdc → Fdc
held_at fdc = reset (with_dor 0x00 fdc)

abbrev released_at : Fdc → Fdc
released_at fdc = with_dor 0x0C (held_at fdc)

abbrev polled_at : Fdc → Fdc
polled_at fdc = record (released_at fdc) { poll_due = false; interrupt = true; seeks = with_polls at_rest }

abbrev sensed_at : Fdc → Fdc
sensed_at fdc = sensed_to (sensed_to (sensed_to (sensed_to (polled_at fdc))))

abbrev specified_at : Fdc → Fdc
specified_at fdc = specified 0x02 (with_bytes [] (sensed_at fdc))

abbrev configured_at : Fdc → Fdc
configured_at fdc = configured 0x07 (with_bytes [] (specified_at fdc))

abbrev pub set_up_at : Fdc → Fdc
set_up_at fdc = ccr_written 0x00 (configured_at fdc)

-- these are proved by computing
resting : (fdc : Fdc) → is_executing fdc.phase ≡ false → is_seeking fdc.seeks ≡ false → fdc.asking ≡ false → (fdc.poll_due && not (is_held fdc)) ≡ false → IsResting fdc
resting fdc command seek asking poll = record { no_command = command; no_seek = seek; not_asking = asking; no_poll = poll }

listening : (fdc : Fdc) → is_executing fdc.phase ≡ false → is_seeking fdc.seeks ≡ false → fdc.asking ≡ false → (fdc.poll_due && not (is_held fdc)) ≡ false
    → fdc.phase ≡ Command → is_held fdc ≡ false → IsListening fdc
listening fdc command seek asking poll phase held = record { rests = resting fdc command seek asking poll; phase_is = phase; not_held = held }

ready_set_up : (fdc : Fdc) → IsReady (set_up_at fdc)
ready_set_up fdc = record {
  phase = refl;
  no_bytes = refl;
  seeks = record { no_seek = refl; no_result = refl; four = refl; first = omega arith; second = omega arith };
  by_dma = refl;
  polled = refl;
  no_interrupt = refl;
  not_asking = refl;
  fifo_on = refl;
  threshold = refl;
}

-- ---- a part of the way

-- all is kept, the motors stay as they are, and the controller is now this
record Goes (old : Board) (fdc : Fdc) (new : Board) : Type 0 where
  pub keeps : KeepsAll old new
  pub first : KeepsSpeed old.first new.first
  pub second : KeepsSpeed old.second new.second
  pub controller_is : controller_of new ≡ fdc

goes_then : {a b c : Board} {one two : Fdc} → Goes a one b → Goes b two c → Goes a two c
goes_then {a} {b} {c} first second = record {
  keeps = keeps_then a b c first.keeps second.keeps;
  first = speed_then a.first b.first c.first first.first second.first;
  second = speed_then a.second b.second c.second first.second second.second;
  controller_is = second.controller_is;
}

idles_go : {old new : Board} {fdc : Fdc} → Idles fdc old new → Goes old fdc new
idles_go idles = record { keeps = idles.stays.keeps; first = idles.stays.first; second = idles.stays.second; controller_is = idles.controller_is }

-- what the reset pulse leaves
record Held (old : Board) (new : Board) : Type 0 where
  pub keeps : KeepsAll old new
  pub controller_is : controller_of new ≡ held_at (controller_of old)

holds : (old new : Board) → (resets : Resets old new) → Held old resets.held
holds old new resets =
    let fdc = held_at (controller_of old) in
    let access = resets.holds in
    let written = dor_access 0x00 fdc false false old resets.held access refl refl (clear_bit false 0x00 4 refl refl) (clear_bit false 0x00 5 refl refl) in
    let here : controller_of access.between ≡ fdc = ap (λ b. b.chips.controller) written.bus in
    let gap = gap_idles access.between resets.held access.gap (subst IsResting (sym here) (resting _ refl refl refl refl)) in
    record {
      keeps = keeps_then old access.between resets.held (accessed_keeps fdc old access.between written.bus written.first_is.keeps written.second_is.keeps) gap.stays.keeps;
      controller_is = gap.controller_is ∙ here;
    }

-- the reset is released: the motors are off, and the poll may have come
record Released (fdc : Fdc) (old new : Board) : Type 0 where
  pub keeps : KeepsAll old new
  pub first_off : new.first.motor ≡ false
  pub second_off : new.second.motor ≡ false
  pub controller : (controller_of new ≡ released_at fdc) ⊎ (controller_of new ≡ polled_at fdc)

releases : (old new : Board) → (resets : Resets old new) → Released (controller_of old) resets.held resets.released
releases old new resets =
    let fdc = released_at (controller_of old) in
    let access = resets.releases in
    let at = (holds old new resets).controller_is in
    let written = dor_access 0x0C fdc false false resets.held resets.released access (ap (dor_written 0x0C) at) refl (clear_bit false 0x0C 4 refl refl) (clear_bit false 0x0C 5 refl refl) in
    let between = access.between in
    let here : controller_of between ≡ fdc = ap (λ b. b.chips.controller) written.bus in
    let runs = gap_polled fdc (polled_at (controller_of old)) between resets.released access.gap here refl (listening _ refl refl refl refl refl refl).rests in
    record {
      keeps = keeps_then resets.held between resets.released (accessed_keeps fdc resets.held between written.bus written.first_is.keeps written.second_is.keeps) runs.keeps;
      first_off = runs.first.motor ∙ written.first_is.motor;
      second_off = runs.second.motor ∙ written.second_is.motor;
      controller = runs.controller;
    }

polls : (old new : Board) → (resets : Resets old new) → Goes resets.released (sensed_at (controller_of old)) resets.polled
polls old new resets =
    let c = controller_of old in
    let rel = releases old new resets in
    let p = resets.polls in
    let settled = settles_to resets.released p.polled (polled_at c) p.settles (polls_next (released_at c) (polled_at c) resets.released refl (listening _ refl refl refl refl refl refl).rests rel.controller) (listening _ refl refl refl refl refl refl).rests in
    let start : Goes resets.released (polled_at c) p.polled = record { keeps = settled.keeps; first = settled.first; second = settled.second; controller_is = settled.controller_is } in
    let one = (senses_pending p.status_0 p.polled p.one (polled_at c) 0xC0 0 start.controller_is (listening _ refl refl refl refl refl refl) refl refl refl refl p.first).1 in
    let two = (senses_pending p.status_1 p.one p.two (sensed_to (polled_at c)) 0xC1 0 one.controller_is (listening _ refl refl refl refl refl refl) refl refl refl refl p.second).1 in
    let three = (senses_pending p.status_2 p.two p.three (sensed_to (sensed_to (polled_at c))) 0xC2 0 two.controller_is (listening _ refl refl refl refl refl refl) refl refl refl refl p.third).1 in
    let four = (senses_pending p.status_3 p.three resets.polled (sensed_to (sensed_to (sensed_to (polled_at c)))) 0xC3 0 three.controller_is (listening _ refl refl refl refl refl refl) refl refl refl refl p.fourth).1 in
    goes_then (goes_then (goes_then (goes_then start (idles_go one)) (idles_go two)) (idles_go three)) (idles_go four)

-- ---- SPECIFY and CONFIGURE

specify_more : AreMore [] (0x03 ∷ 0xAF ∷ [])
unfolding answer
specify_more = (refl, (refl, tt))

specify_whole : answer ((0x03 ∷ 0xAF ∷ []) ++ 0x02 ∷ []) ≡ Ready (Specify 0xAF 0x02)
unfolding answer
specify_whole = refl

configure_more : AreMore [] (0x13 ∷ 0x00 ∷ 0x07 ∷ [])
unfolding answer
configure_more = (refl, (refl, (refl, tt)))

configure_whole : answer ((0x13 ∷ 0x00 ∷ 0x07 ∷ []) ++ 0x00 ∷ []) ≡ Ready (Configure 0x00 0x07 0x00)
unfolding answer
configure_whole = refl

specifies : (old new : Board) → (resets : Resets old new) → Idles (specified_at (controller_of old)) resets.polled resets.specified
specifies old new resets =
    let c = controller_of old in
    whole_at (0x03 ∷ 0xAF ∷ []) 0x02 (Specify 0xAF 0x02) resets.polled resets.specified (sensed_at c) (polls old new resets).controller_is (listening _ refl refl refl refl refl refl) refl
    specify_more specify_whole (specified_at c) (λ lines controller does. does.0 refl) (λ low. low) (listening _ refl refl refl refl refl refl).rests resets.specifies

configures : (old new : Board) → (resets : Resets old new) → Idles (configured_at (controller_of old)) resets.specified resets.configured
configures old new resets =
    let c = controller_of old in
    whole_at (0x13 ∷ 0x00 ∷ 0x07 ∷ []) 0x00 (Configure 0x00 0x07 0x00) resets.specified resets.configured (specified_at c) (specifies old new resets).controller_is (listening _ refl refl refl refl refl refl) refl
    configure_more configure_whole (configured_at c) (λ lines controller does. does.0 refl) (λ low. low) (resting _ refl refl refl refl) resets.configures

rates : (old new : Board) → (resets : Resets old new) → Idles (set_up_at (controller_of old)) resets.configured resets.rated
rates old new resets =
    let c = controller_of old in
    let at = (configures old new resets).controller_is in
    let only : (controller : Fdc) → Writes 0x3F7 0x00 (lines_of resets.configured) (controller_of resets.configured) controller → controller ≡ set_up_at c =
    λ controller writes. writes.control refl ∙ ap (ccr_written 0x00) at in
    output_idles 0x3F7 0x00 resets.configured resets.rated resets.rates refl refl (set_up_at c) only (λ low. refl) (resting _ refl refl refl refl)

-- ---- all of it

-- after the reset the motors are off, and the controller is ready
record IsSetUp (old new : Board) : Type 0 where
  pub keeps : KeepsAll old new
  pub first_off : new.first.motor ≡ false
  pub second_off : new.second.motor ≡ false
  pub controller_is : controller_of new ≡ set_up_at (controller_of old)
  pub low : is_up new ≡ false

sets_up : (old new : Board) → Resets old new → IsSetUp old new
sets_up old new resets =
    let c = controller_of old in
    let held = holds old new resets in
    let released = releases old new resets in
    let rated_on = rates old new resets in
    let settled = settles_to resets.rated new (set_up_at c) resets.settles (ap polled rated_on.controller_is) (resting _ refl refl refl refl) in
    let last : Goes resets.rated (set_up_at c) new = record { keeps = settled.keeps; first = settled.first; second = settled.second; controller_is = settled.controller_is } in
    let set_to = goes_then (goes_then (polls old new resets) (idles_go (specifies old new resets))) (idles_go (configures old new resets)) in
    let all = goes_then (goes_then set_to (idles_go rated_on)) last in
    record {
      keeps = keeps_then old resets.held new held.keeps (keeps_then resets.held resets.released new released.keeps all.keeps);
      first_off = all.first.motor ∙ released.first_off;
      second_off = all.second.motor ∙ released.second_off;
      controller_is = settled.controller_is;
      low = settled.level;
    }

pub resets_all : (old new : Board) → Resets old new → IsReset (rig_of old) (rig_of new)
resets_all old new resets =
    let is = sets_up old new resets in
    keeps_reset old new is.keeps (ap data_commands_of is.controller_is)

pub resets_idle : (old new : Board) → Resets old new → InRange new.first → InRange new.second → IsIdle none_on new
resets_idle old new resets first second =
    let is = sets_up old new resets in
    idle_by none_on 0 _ new (omega arith) is.controller_is (ready_set_up (controller_of old)) refl is.first_off is.second_off is.low first second

-- ---- SENSE DRIVE STATUS of a machine that is idle

first_more : AreMore [] (0x04 ∷ [])
unfolding answer
first_more = (refl, tt)

whole : (bay : ℕ) → answer ((0x04 ∷ []) ++ bay ∷ []) ≡ Ready (SenseDrive bay)
unfolding answer
whole bay = refl

-- no seek bit is set
pub no_bits : (seeks : Seeking) → AreSeeksOver seeks → seek_bits seeks ≡ 0
no_bits seeks over = ap (λ seek. option_map_or (λ s. 2 ^ s.drive) seek 0) over.no_seek

-- the controller after the command, before its result is read and after
abbrev pub status_given : Board → ℕ → Fdc
status_given board bay = answered (status_of_lines (lines_of board) bay) None (with_bytes [] (controller_of board))

pub record SensesDriveIdle (motors : Motors) (bay status : ℕ) (selected old new : Board) : Type 0 where
  pub idles : Idles (given (status_given selected bay)) old new
  pub ready : IsReady (given (status_given selected bay))
  pub status_is : status ≡ status_of_lines (lines_of_drive (drive_in old bay)) bay
  pub selected_is : controller_of selected ≡ with_dor (dor_with motors bay) (controller_of old)

rests_answered : (board : Board) (bay : ℕ) → IsResting (controller_of board) → IsResting (status_given board bay)
rests_answered board bay rests = record { no_command = refl; no_seek = rests.no_seek; not_asking = rests.not_asking; no_poll = rests.no_poll }

rests_given : (board : Board) (bay : ℕ) → IsResting (controller_of board) → IsResting (given (status_given board bay))
rests_given board bay rests = record { no_command = refl; no_seek = rests.no_seek; not_asking = rests.not_asking; no_poll = rests.no_poll }

ready_given : (board : Board) (bay : ℕ) → IsReady (controller_of board) → IsReady (given (status_given board bay))
ready_given board bay ready = record {
  phase = refl;
  no_bytes = refl;
  seeks = ready.seeks;
  by_dma = ready.by_dma;
  polled = ready.polled;
  no_interrupt = ready.no_interrupt;
  not_asking = ready.not_asking;
  fifo_on = ready.fifo_on;
  threshold = ready.threshold;
}

pub senses_drive : (motors : Motors) (bay status : ℕ) (old new : Board) → IsIdle motors old → bay ≤ 1 → (senses : SensesDrive motors bay old status new)
    → SensesDriveIdle motors bay status senses.selected old new
senses_drive motors bay status old new idle small senses =
    let byte = dor_with motors bay in
    let fdc = with_dor byte (controller_of old) in
    let board = senses.selected in
    let one = selects_idle motors bay old board small idle.motors_are (ready_rests (controller_of old) idle.ready) (ready_rests fdc (ready_with byte (controller_of old) idle.ready)) senses.selects in
    let ready : IsReady (controller_of board) = subst IsReady (sym one.controller_is) (ready_with byte (controller_of old) idle.ready) in
    let dor : dor_of (controller_of board) ≡ byte = ap dor_of one.controller_is in
    let rests = ready_rests (controller_of board) ready in
    let target = status_given board bay in
    let two = whole_command (0x04 ∷ []) bay (SenseDrive bay) board senses.sent (ready_listens motors bay (controller_of board) small dor ready) ready.no_bytes first_more (whole bay)
    target (λ controller does. does.0 (no_bits (controller_of board).seeks ready.seeks)) (λ low. low) (rests_answered board bay rests) senses.sends in
    let at : given (controller_of senses.sent) ≡ given target = ap given two.controller_is in
    let three = input_idles 0x3F5 status senses.sent new senses.takes refl (subst IsResting (sym at) (rests_given board bay rests)) in
    let lines : lines_of board ≡ lines_of_drive (drive_in old bay) = selected_lines motors bay board small dor ∙ lines_kept (drive_in old bay) (drive_in board bay) (drive_kept old board bay one.stays.keeps) in
    record {
      idles = idles_then one
          (idles_then two (subst (λ c. Idles c senses.sent new) at three));
      ready = ready_given board bay ready;
      status_is = senses.takes.value_is ∙ (ap (λ c. result_byte c.phase) two.controller_is ∙ ap (λ l. status_of_lines l bay) lines);
      selected_is = one.controller_is;
    }

-- ---- what it says

-- bit 6 of the status says whether the medium is protected
bit_told : (protected track0 : Bool) (bay : ℕ) → bay ≤ 1 → not (bit_and (bits_if protected 0x40 (bits_if track0 0x10 (bit_or (bit_and bay 7) 0x28))) 0x40 == 0) ≡ protected
bit_told protected track0 (suc (suc bay)) small = absurd (omega arith)
bit_told true true zero small = refl
bit_told false true zero small = refl
bit_told true true (suc zero) small = refl
bit_told false true (suc zero) small = refl
bit_told _ _ _ small = refl

same_protected : (medium : Option Disk) → is_protected medium ≡ option_map_or (λ disk. disk.protected) medium false
same_protected None = refl
same_protected (Some disk) = refl

pub status_tells : (motors : Motors) (bay status : ℕ) (old new : Board) → IsIdle motors old → bay ≤ 1 → SensesDrive motors bay old status new
    → not (bit_and status 0x40 == 0) ≡ option_map_or (λ disk. disk.protected) (in_bay (rig_of old).media bay) false
status_tells motors bay status old new idle small senses =
    let lines = lines_of_drive (drive_in old bay) in
    ap (λ s. not (bit_and s 0x40 == 0)) (senses_drive motors bay status old new idle small senses).status_is
    ∙ (bit_told lines.protected lines.track0 bay small
    ∙ (same_protected (drive_in old bay).medium
    ∙ ap (λ m. option_map_or (λ disk. disk.protected) m false) (medium_in bay old)))

pub status_idle : (motors : Motors) (bay status : ℕ) (old new : Board) → IsIdle motors old → bay ≤ 1 → SensesDrive motors bay old status new
    → InRange new.first → InRange new.second → IsIdle motors new
status_idle motors bay status old new idle small senses first second =
    let is = senses_drive motors bay status old new idle small senses in
    idle_again motors bay old new (given (status_given senses.selected bay)) idle small (ap dor_of is.selected_is) is.ready is.idles first second

pub status_asks : (motors : Motors) (bay status : ℕ) (old new : Board) → IsIdle motors old → bay ≤ 1 → SensesDrive motors bay old status new
    → OnlyAsks (rig_of old) (rig_of new)
status_asks motors bay status old new idle small senses =
    let is = senses_drive motors bay status old new idle small senses in
    idle_asks old new (given (status_given senses.selected bay)) is.idles
    (ap (λ c. c.seeks.cylinders) is.selected_is) (ap (λ c. c.data_commands) is.selected_is)
