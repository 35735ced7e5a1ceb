-- A command that listens and begins after port accesses.
use Rattle.std.proofs.Common.{◌≡◌, ℕ, ◌+◌, ◌%◌, ◌<◌, ◌≤◌, ◌==◌, Bool, true, false, [], ◌∷◌, ◌++◌, length, min, if◌then◌else◌, refl, sym, ◌∙◌, ap, subst, arith, ◌*◌, None}
use Rattle.laws_machine.proofs.Common.{last_count, Disk, track_words, Channel, writes_memory, answer, Sent, is_listening, Fdc, Task, next_entry, counted, Board, controller_of, channel_of, drive_in, memory_of, Outputs, drive_stays, Turned, HaveTurned, HoldsOn, GoesQuietly, Setting, Stands, Order, Identify, Read, Write, May, IsSetFor, IsLast, CanBegin, seek_bits, is_taking, Command, Scene, IsSet, IsSetForId, id_scene, sent_id, new_past, IsReadyIn, IsSetForRead, scene_of, Chrn, IsAddressAt, HasAddressMark, HasAddress, FindsNoSector, Past, HasNoClear, Ending, Done, NoMark, NoSector, Late, IdMeansIn, Long, Phase, Result, IsHeardFrom, IsWholeFrom, track_met, ends_late, is_late, IdEndedIn, false≢true, IdMeans, mark_heard, address_heard, IsCalm, turn_heard, between_is, IdEndsAs}
use Rattle.dma_8237.specs.SetUp.{IsSetUp}
use Rattle.laws_machine.proofs.OnQuiet.Accesses.{port_takes}
use Rattle.laws_machine.proofs.OnQuiet.Steps.{quietly, drives_on, turned_still}
use Rattle.laws_machine.proofs.OnReads.IdWords.{listens_id}
use Rattle.laws_machine.proofs.OnOrders.Beginning.{HasBegun, begun_as, begun_at}
use Rattle.laws_machine.proofs.OnReads.Steps.{listens_task, gapped, mark_ends}
use Rattle.laws_machine.proofs.OnSteps.Runs.{runs}

-- ---- the channel

pub is_set : (address left : ℕ) (channel : Channel) → IsSetUp 0x46 address left channel → address % 65536 + left < 65536 → IsSet channel address left
is_set address left channel up room = record {
  granting = up.granting;
  writing = ap (λ mode. writes_memory (record channel { mode = mode })) up.mode_is;
  place = up.place;
  count = up.count;
  room = let at = up.address_is in omega arith;
}

-- ---- all but the last byte

pub turned_in : (bay : ℕ) (old new : Board) → HaveTurned old new → Turned (drive_in old bay) (drive_in new bay)
turned_in bay old new turned = by_bay (bay == 0)
  where
    by_bay : (b : Bool) → Turned (if b then old.first else old.second) (if b then new.first else new.second)
    by_bay true = turned.first
    by_bay false = turned.second

-- what the commands that listen have in common
can_begin_at : (order : Order) (start board : Board) (set : Setting) (sent : Sent) (bay address size byte : ℕ) (disk : Disk) → IsReadyIn bay disk start → Stands set start board
    → set.phase ≡ Command → address + size ≤ length (memory_of start) → IsSetFor order (scene_of sent bay disk address size board) (channel_of board)
    → (is_taking (controller_of board) ≡ true → (controller_of board).non_dma ≡ false → seek_bits (controller_of board).seeks ≡ 0 → IsLast order (scene_of sent bay disk address size board) byte (controller_of board))
    → CanBegin order (scene_of sent bay disk address size board) byte board
can_begin_at order start board set sent bay address size byte disk ready stands takes fits channel last =
    let chips = stands.chips in
    let turned = turned_in bay start board stands.drives in
    let words : track_words (drive_in start bay).medium ≡ disk.words_per_track = ap track_words ready.medium in
    record {
      scene_is = record {
        selects = ap (λ dor. dor.0 % 4) chips.controller.dor ∙ ready.selects;
        bay = ready.bay_is;
        disk = ready.disk_is;
        fits = subst (λ memory. address + size ≤ length memory) (sym chips.memory) fits;
      };
      dor = refl;
      rate = refl;
      drive = record {
        medium = turned.medium ∙ ready.medium;
        cylinder = refl;
        motor = turned.motor ∙ ready.motor;
        speed = let before = ready.speed in let more = turned.spin in omega arith;
        place = refl;
        inside = subst (λ n. (drive_in board bay).place < n) words (turned.place (subst (λ n. (drive_in start bay).place < n) (sym words) ready.inside));
        faults = refl;
      };
      memory = refl;
      channel = channel;
      last = last (port_takes start set board stands takes ready.free) (chips.controller.non_dma ∙ ready.dma) (rw chips.controller.quiet.no_seek refl);
    }

pub can_begin : (start board : Board) (set : Setting) (sent : Sent) (bay address left byte : ℕ) (disk : Disk) → IsReadyIn bay disk start → Stands set start board
    → IsSetForRead sent address left byte set → address + (left + 1) ≤ length (memory_of start) → CanBegin Read (scene_of sent bay disk address (left + 1) board) byte board
can_begin start board set sent bay address left byte disk ready stands for fits =
    can_begin_at Read start board set sent bay address (left + 1) byte disk ready stands for.takes fits (left, refl, subst (λ channel. IsSet channel address left) (sym stands.chips.channel) for.channel)
    (λ taking dma none. record {
      gap = for.gap;
      length_code = for.length_code;
      whole = ap (λ bytes. answer (bytes ++ byte ∷ [])) stands.chips.command ∙ for.whole;
      taking = taking;
      dma = dma;
      no_seek = none;
    })

pub id_can_begin : (start board : Board) (set : Setting) (head_drive bay byte : ℕ) (disk : Disk) → IsReadyIn bay disk start → Stands set start board
    → IsSetForId head_drive byte set → CanBegin Identify (id_scene head_drive bay disk board) byte board
id_can_begin start board set head_drive bay byte disk ready stands for =
    can_begin_at Identify start board set (sent_id head_drive) bay 0 0 byte disk ready stands for.takes (omega arith) tt
    (λ taking dma none. record { whole = ap (λ bytes. answer (bytes ++ byte ∷ [])) stands.chips.command ∙ for.whole; taking = taking; dma = dma; no_seek = none })

-- ---- the counts

holds_begun : (order : Order) (count : ℕ) (start old : Fdc) (head_drive : ℕ) (task : Task) → HoldsOn count start old → is_listening task ≡ true
    → HoldsOn (counted count) start (begun_as order head_drive task (record old { command = [] }))
holds_begun order count start old head_drive task was listens = record {
  quiet = record { no_seek = was.quiet.no_seek; listens = listens };
  dor = was.dor;
  non_dma = was.non_dma;
  polling = was.polling;
  cylinders = was.cylinders;
  on = was.on;
  threshold = was.threshold;
  data_commands = ap (λ n. min (n + 1) last_count) was.data_commands;
}

-- a command that listens
abbrev pub Listens : Order → Type 0
Listens (Write laid) = ⊥
Listens _ = Unit {0}

listening : (order : Order) → Listens order → (scene : Scene) (old new : Fdc) → (has : HasBegun order scene old new) → is_listening has.task ≡ true
listening Read is scene old new has = (listens_task new_past scene.sent scene.sent.head_drive 0 has.task false [] (subst (May Read scene new_past) has.after has.may)).1
listening Identify is scene old new has = (listens_id new_past scene.sent.head_drive scene.sent.head_drive 0 has.task (subst (May Identify scene new_past) has.after has.may)).1
listening (Write laid) is scene old new has = absurd is

-- the write of the last byte counts one data command
pub begins_quietly : (order : Order) → Listens order → (count : ℕ) (start : Board) (scene : Scene) (byte : ℕ) (old new : Board) → Outputs 0x3F5 byte old new → CanBegin order scene byte old
    → GoesQuietly count start old → GoesQuietly (counted count) start new
begins_quietly order listens count start scene byte old new access can was =
    let (has, chips_are) = begun_at order scene byte old access.between access.writes can.last in
    let holds : HoldsOn (counted count) (controller_of start) (controller_of access.between) = subst (HoldsOn (counted count) (controller_of start)) (sym has.after)
    (holds_begun order count (controller_of start) (controller_of old) scene.sent.head_drive has.task was.controller (listening order listens scene (controller_of old) (controller_of access.between) has)) in
    runs (GoesQuietly (counted count) start) (quietly (counted count) start) (next_entry access.between.bus.gaps) (gapped access.between) new access.gap.runs (record {
      controller = holds;
      drives = drives_on start old (gapped access.between) was.drives (record {
        first = turned_still old.first access.between.first (drive_stays access.writes.lines.first refl);
        second = turned_still old.second access.between.second (drive_stays access.writes.lines.second refl);
        direct = ap (λ bus. bus.direct) access.writes.bus;
      });
    })

-- ---- from the words that a READ ID heard to the track

module _ (scene : Scene) (past : Past) (faults : ℕ)
    (heard : IsHeardFrom (track_met scene) scene.from past.turns past.seen)
    (whole : IsCalm scene.faults faults → IsWholeFrom (track_met scene) scene.from past.turns past.seen) where
  pub address_ends : (key : Chrn) → HasAddress past key → (p : ℕ) × IsAddressAt (track_met scene) p key
  address_ends key (turn, p, has) =
      let (start, turned, turned_whole) = turn_heard (track_met scene) scene.from past.turns past.seen turn heard has.among in
      (p + 16 * start, address_heard (track_met scene) start turn turned p key has.address)

  sector_ends : FindsNoSector past None → HasAddressMark (track_met scene) × (IsCalm scene.faults faults → HasNoClear None (track_met scene))
  sector_ends ((words, among, (p, mark)), (between, is, none)) =
      let (start, turned, turned_whole) = turn_heard (track_met scene) scene.from past.turns past.seen words heard among in (
        (p + 16 * start, mark_heard (track_met scene) start words turned p mark),
        λ calm. subst (HasNoClear None) (between_is (track_met scene) scene.from past between heard (whole calm) is) none,
      )

  ends : (key : Chrn) (ending : Ending) → ends_late ending ≡ false → IdMeans past key ending → IdEndsAs scene faults key ending
  ends key (Done deleted) calm means = address_ends key means
  ends key NoMark calm means = mark_ends scene past faults [] heard whole means
  ends key NoSector calm means = sector_ends means
  ends key Late calm means = absurd (false≢true (sym calm))
  ends key _ calm means = means

  pub ended : (phase : Phase) → is_late phase ≡ false → IdMeansIn past scene.sent.head_drive phase → IdEndedIn scene faults phase
  ended (Result (Long ending results taken)) calm (is, means) = (is, ends results.key ending calm means)
  ended _ calm means = tt
