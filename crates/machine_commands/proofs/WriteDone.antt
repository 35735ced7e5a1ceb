-- A whole FORMAT TRACK, from an idle machine whose memory has the keys until the machine is idle again.
use Rattle.std.proofs.Common.{◌≡◌, ℕ, ◌+◌, ◌-◌, ◌*◌, ◌≤◌, true, false, [], ◌∷◌, length, take, drop, Option, Result, refl, sym, ◌∙◌, ap, subst, arith, ◌%◌, ◌<◌, Bool}
use Rattle.machine_commands.proofs.Common.{sectors_at, standard_code, Rate, R500, R250, Code, in_bay, set_up, InRange, Ready, Sent, Long, Numbers, key_bytes, Track, Write, scene_of, only, Board, channel_of, drive_in, memory_of, Format, Laying, format_keys, FormatsTrack, IsIdle, rig_of, SendsFormatBytes, keys_at, told_of, Motors, Done, flat_map, option_map_or, after_write, FormatTrack, spells_format, AreKeysOf, FormatEndedIn, CostsFor, format_turn, read_gap_at, Chrn, user_bytes, bytes_from, key_after, Window, Change, WritesData, IsSizeCode, content_size, sector_bytes, Sends, spells_write, WriteEndedIn, write_turn, SendsWriteBytes}
use Rattle.laws_machine.proofs.OnFormats.Results.{lays_disk}
use Rattle.laws_machine.proofs.OnOrders.Ends.{ended}
use Rattle.machine_commands.proofs.Beginning.{IsRun, head_of_sent, is_run, set_from_memory, small_drive, outcome_is, told_as}
use Rattle.machine_commands.proofs.FormatRigs.{IsFormatOn, format_shown}
use Rattle.machine_commands.proofs.Lasting.{channel_costs}
use Rattle.machine_commands.proofs.Preparing.{channel_sets}
use Rattle.machine_commands.proofs.Seeing.{idle_after, medium_before, memory_before, run_costs}
use Rattle.machine_commands.proofs.WriteRigs.{overruns, IsWriteOn, write_shown}
use Rattle.fdc_commands.specs.Writes.{write_code, write_command}
use Rattle.laws_machine.specs.OnWrites.Begins.{write_of}
use Rattle.machine_commands.proofs.ReadEndings.{size_range}
use Rattle.fdc_phases.specs.declared.phases.Phase.TheVariants as phase

few_sectors : (rate : Rate) → (1 ≤ sectors_at rate) × (sectors_at rate ≤ 18)
few_sectors R500 = (omega arith, omega arith)
few_sectors R250 = (omega arith, omega arith)

-- what is shown after it
pub record IsFormatted (motors : Motors) (bay : ℕ) (asked : Format) (outcome : Result Done Code) (old new : Board) : Type 0 where
  pub idle : IsIdle motors new
  pub laying : Option Laying
  pub formats : FormatsTrack bay asked laying (rig_of old) (told_of outcome) (rig_of new)
  pub costs : CostsFor bay 2 261 26 (rig_of old) (rig_of new)

-- the keys of a format stand in memory
pub record HasKeys (asked : Format) (board : Board) : Type 0 where
  pub many : length (format_keys asked) ≡ sectors_at asked.rate
  pub bytes : flat_map key_bytes (format_keys asked) ≡ take (4 * sectors_at asked.rate) (drop keys_at (memory_of board))

pub format_done : (motors : Motors) (bay : ℕ) (asked : Format) (outcome : Result Done Code) (old new : Board) → IsIdle motors old → bay ≤ 1
    → asked.h ≤ 1 → in_bay (rig_of old).spun bay ≡ true → option_map_or (λ disk. disk.protected) (in_bay (rig_of old).media bay) false ≡ false
    → HasKeys asked old → SendsFormatBytes motors bay asked old outcome new → InRange new.first → InRange new.second → IsFormatted motors bay asked outcome old new
format_done motors bay asked outcome old new idle small low spun unprotected keys sends first second =
    let head_drive = asked.h * 4 + bay in
    let sectors = sectors_at asked.rate in
    let (some, few) = few_sectors asked.rate in
    let numbers : Numbers = record { n = standard_code; sectors = sectors; gap3 = asked.gap3; fill = asked.fill } in
    let sent : Sent = record { head_drive = head_drive; key = record { c = 0; h = 0; r = 0; n = 0 }; last_sector = 0 } in
    let spelled = spells_format head_drive standard_code sectors asked.gap3 asked.fill (omega arith) (omega arith) in
    let last = sectors * 4 - 1 in
    let all : last + 1 ≡ 4 * sectors = omega arith in
    let ran : IsRun (Write (Track numbers)) sent bay keys_at (last + 1) motors asked.rate 26 old outcome new =
    is_run (Write (Track numbers)) sent bay keys_at (last + 1) motors asked.rate 10 26 (λ b. set_up 0x4A keys_at last (after_write 0x08 0 (channel_of b))) (0x4D ∷ head_drive ∷ standard_code ∷ sectors ∷ [])
    asked.gap3 asked.fill old sends.ready sends.set sends.sent outcome new idle small spun (omega arith) sends.prepares
    (λ rests. channel_sets 0x4A keys_at last sends.ready sends.set rests sends.sets) (channel_costs 0x4A keys_at last sends.ready sends.set sends.sets) (omega arith) (spelled.code, (spelled.head, (spelled.size, (spelled.many, tt)))) spelled.gap sends.sends sends.finishes
    (λ disk board. (last, refl, set_from_memory keys_at last (channel_of sends.ready) (omega arith) (omega arith)))
    (λ disk board takes. record {
      whole = takes.whole (Ready (FormatTrack head_drive standard_code sectors asked.gap3 asked.fill)) spelled.whole;
      taking = takes.taking;
      dma = takes.dma;
      no_seek = takes.no_seek;
    }) in
    let scene = scene_of sent bay ran.disk keys_at (last + 1) ran.start in
    let over = ran.run.over in
    let now = over.at in
    let the_keys = format_keys asked in
    let are : AreKeysOf scene numbers the_keys = record {
      many = keys.many;
      bytes = keys.bytes ∙ (ap (λ m. take (4 * sectors) (drop keys_at m)) (sym (memory_before ran.run)) ∙ ap (λ n. take n (drop keys_at (memory_of ran.start))) (sym all));
    } in
    let on : IsFormatOn scene numbers the_keys asked = record {
      head = head_of_sent asked.h bay low small;
      keys_are = refl;
      code_is = refl;
      gap_is = refl;
      unprotected = sym (ap (λ m. option_map_or (λ d. d.protected) m false) (medium_before ran.run)) ∙ unprotected;
    } in
    let same : memory_of now ≡ memory_of ran.start = (only (Track numbers) scene the_keys now (all, are) over.goes.underway).memory in
    let is : FormatEndedIn scene numbers the_keys (drive_in now bay) (phase.Result (Long over.results.ending over.results.results 0)) =
    subst (FormatEndedIn scene numbers the_keys (drive_in now bay)) over.results.is (ended (Track numbers) scene the_keys now (all, are) over.goes.underway) in
    let after = over.results.results.key in
    let (laying, shown) = format_shown ran.run the_keys on same (λ laying after. lays_disk scene numbers the_keys laying after asked on.head refl refl refl refl) after over.results.ending is.1 (overruns ran.run) in
    let told : told_of outcome ≡ told_of (told_as over.results.ending after) =
    ap told_of (outcome_is outcome over.results.ending over.results.results head_drive after (small_drive asked.h bay low small) over.outcome_is is.0) in
    record {
      idle = idle_after ran.run first second;
      laying = laying;
      formats = subst (λ r. FormatsTrack bay asked laying (rig_of old) r (rig_of new)) (sym told) shown;
      costs = run_costs ran.run 26 ran.uses (format_turn bay asked laying (rig_of old) (told_of (told_as over.results.ending after)) (rig_of new) shown);
    }

-- ---- A whole WRITE DATA or WRITE DELETED DATA, from an idle machine until the machine is idle again

command_same : (deleted : Bool) (sent : Sent) (gap length_code : ℕ) → write_command deleted sent.head_drive sent.key sent.last_sector gap length_code ≡ write_of deleted sent gap length_code
command_same true sent gap length_code = refl
command_same false sent gap length_code = refl

-- what is shown after it
pub record IsWritten (motors : Motors) (bay : ℕ) (key : Chrn) (rate : Rate) (address : ℕ) (deleted : Bool) (outcome : Result Done Code) (old new : Board) : Type 0 where
  pub idle : IsIdle motors new
  pub change : Option Change
  pub writes : WritesData bay rate (record { key = key; deleted = deleted; content = bytes_from (rig_of old).memory address (content_size key.n) }) change (rig_of old) (told_of outcome) (rig_of new)
  pub costs : CostsFor bay 2 261 29 (rig_of old) (rig_of new)

pub write_done : (motors : Motors) (bay : ℕ) (key : Chrn) (rate : Rate) (address : ℕ) (deleted : Bool) (outcome : Result Done Code) (old new : Board) → IsIdle motors old → bay ≤ 1
    → key.h ≤ 1 → IsSizeCode key.n → address + content_size key.n ≤ user_bytes → address % 65536 + (content_size key.n - 1) < 65536 → in_bay (rig_of old).spun bay ≡ true
    → option_map_or (λ disk. disk.protected) (in_bay (rig_of old).media bay) false ≡ false
    → SendsWriteBytes motors bay key rate address deleted old outcome new → InRange new.first → InRange new.second → IsWritten motors bay key rate address deleted outcome old new
write_done motors bay key rate address deleted outcome old new idle small low coded inside room spun unprotected sends first second =
    let head_drive = key.h * 4 + bay in
    let gap = read_gap_at rate in
    let sent : Sent = record { head_drive = head_drive; key = key; last_sector = key.r } in
    let spelled = spells_write deleted head_drive key key.r gap 0xFF coded.0 coded.1 in
    let (some, few) = size_range key.n coded in
    let last = content_size key.n - 1 in
    let all : last + 1 ≡ content_size key.n = omega arith in
    let ran : IsRun (Write (Window deleted)) sent bay address (last + 1) motors rate 29 old outcome new =
    is_run (Write (Window deleted)) sent bay address (last + 1) motors rate 10 29 (λ b. set_up 0x4A address last (after_write 0x08 0 (channel_of b)))
    (write_code deleted ∷ head_drive ∷ key.c ∷ key.h ∷ key.r ∷ key.n ∷ key.r ∷ []) gap 0xFF old sends.ready sends.set sends.sent outcome new idle small spun (omega arith) sends.prepares
    (λ rests. channel_sets 0x4A address last sends.ready sends.set rests sends.sets) (channel_costs 0x4A address last sends.ready sends.set sends.sets) (omega arith) (spelled.code, (spelled.head, (spelled.c, (spelled.h, (spelled.r, (spelled.n, (spelled.last, tt)))))))
    spelled.gap_length sends.sends sends.finishes (λ disk board. (last, refl, set_from_memory address last (channel_of sends.ready) (omega arith) room))
    (λ disk board takes. record {
      gap = gap;
      length_code = 0xFF;
      whole = takes.whole (Ready (write_of deleted sent gap 0xFF)) (spelled.whole ∙ ap Ready (command_same deleted sent gap 0xFF));
      taking = takes.taking;
      dma = takes.dma;
      no_seek = takes.no_seek;
    }) in
    let scene = scene_of sent bay ran.disk address (last + 1) ran.start in
    let over = ran.run.over in
    let now = over.at in
    let on : IsWriteOn scene = record {
      head = head_of_sent key.h bay low small;
      size = all;
      inside = omega arith;
      unprotected = sym (ap (λ m. option_map_or (λ d. d.protected) m false) (medium_before ran.run)) ∙ unprotected;
    } in
    let same : memory_of now ≡ memory_of ran.start = (only (Window deleted) scene [] now all over.goes.underway).memory in
    let is : WriteEndedIn scene deleted (drive_in now bay) (phase.Result (Long over.results.ending over.results.results 0)) =
    subst (WriteEndedIn scene deleted (drive_in now bay)) over.results.is (ended (Window deleted) scene [] now all over.goes.underway) in
    let after = key_after over.results.ending key key.r in
    let (change, shown) = write_shown ran.run on same after over.results.ending is.1 (overruns ran.run) in
    let told : told_of outcome ≡ told_of (told_as over.results.ending after) =
    ap told_of (outcome_is outcome over.results.ending over.results.results head_drive after (small_drive key.h bay low small) over.outcome_is is.0) in
    record {
      idle = idle_after ran.run first second;
      change = change;
      writes = subst (λ r. WritesData bay rate (record { key = key; deleted = deleted; content = bytes_from (rig_of old).memory address (content_size key.n) }) change (rig_of old) r (rig_of new)) (sym told) shown;
      costs =
          run_costs ran.run 29 ran.uses
          (write_turn bay rate (record { key = key; deleted = deleted; content = bytes_from (rig_of old).memory address (content_size key.n) }) change (rig_of old)
          (told_of (told_as over.results.ending after)) (rig_of new) shown);
    }

pub code_as : (bay : ℕ) (key : Chrn) (rate : Rate) (command code : ℕ) (old new : Board) → command ≡ code → Sends (sector_bytes command bay key rate) old new → Sends (sector_bytes code bay key rate) old new
code_as bay key rate command code old new same sends = subst (λ byte. Sends (sector_bytes byte bay key rate) old new) same sends
