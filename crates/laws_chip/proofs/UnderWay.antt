-- A command from its beginning to its results.
pub use Rattle.laws_chip.proofs.Known.{clash, either_way}
use Rattle.std.proofs.Common.{◌≡◌, inl, inr, ℕ, false, List, ◌++◌, refl, sym, ◌∙◌, Bool, true, ◌==◌, Option, Some, None, ap, subst, suc, ◌<◌, ◌^◌, not, if◌then◌else◌, [], ◌∷◌, bit_and, bit_or, arith, nat_le, ◌&&◌}
use Rattle.laws_chip.proofs.Common.{AreWithin, Served, Front, Serves, all_bytes, nothing_moved, Operation, Read, Write, Telling, Transfer, Results, SectorCallsBegins as Begins, SectorCallsCall as Call, false≢true, eqb-true, phase_asks, taken_in, taken_out, resets, with_controller, passed_one, Fdc, MovingSector, GivesAt, TakesAt, WritesFront, count_told, told_front, FrontStage, Through, Seeking, Moving, is_under_way, front_reset_if as reset_if, option_map_or, and_parts, and_from, not-false, not-true, seek_bits, is_begun, whole, Invalid, Command, Phase, Taking, TakesAs, is_taking, main_status, phase_bits, takes_in, is_held, is_idle, Lines, lines_at, Commands, CommandsIf, GivesCommand, is_ready, is_ready_at, status_at, is_size, moves_heads, IsFreeBehind, IsOfFour, ReadyCommand as Ready, CommandFormatTrack as FormatTrack, DriveSeek as Seek, FdcObeys as Obeys, Chrn, IsSizeCode, Dor, ReadData, WriteData, WriteDeleted, BeginsData, seeking, is_gated, TakesWhole, AdapterState, BeginsSector, GivesTransfer, Starts, StartsIf, begun_if, moving_of, told_if, command_for, IsFree, BeginsBehind, WaitsForHeads, FrontTransfersIf as TransfersIf, address_words, heard_words, ReadsSector, sector_alone, History, ServesBehind}
use Rattle.laws_chip.proofs.Called.{calls_serve, passes_of, results_say}
use Rattle.laws_chip.proofs.Served.{begins_serving}
use Rattle.laws_chip.proofs.Free.{free_executes, is_in}
use Rattle.laws_chip.proofs.Started.{in_range, field_carries}

no_bytes : (operation : Operation) (bytes : List ℕ) → all_bytes operation (nothing_moved false) ++ bytes ≡ bytes
no_bytes (Read wanted skip) bytes = refl
no_bytes (Write deleted) bytes = refl

-- a command is served from its beginning on
pub begins_served : (first : Transfer) (start begun : Front) → Begins first start begun → Serves first (nothing_moved false) begun
begins_served first start begun begins = elim (begins_serving first start begun begins.sized begins.ready begins.gives) [
  | inl serves ↦ serves
  | inr refused ↦ absurd (begins.stays refused.through)
]

pub command_served : (first : Transfer) (start begun end : Front) (calls : List Call) (results : Results) → Begins first start begun → (within : AreWithin calls begun end) → end.stage ≡ Telling results
    → Served first calls begun end within results
command_served first start begun end calls results begins are tells =
    let behind = calls_serve calls first (nothing_moved false) begun end are (begins_served first start begun begins) in
    record {
      history = behind.history;
      gather = behind.gather;
      bytes = sym (behind.bytes ∙ no_bytes first.opcode.operation _);
      moved = behind.serves.parts;
      say = results_say first behind.history end results behind.serves tells;
      of_sector = passes_of first behind.history end behind.serves;
      told = behind.told;
    }

-- ---- A front whose command is under way, through the calls that don't end it

pub not_through : (front : Front) → is_under_way front.stage ≡ true → front.stage ≡ Through → ⊥
not_through front under is = false≢true (sym (ap is_under_way is) ∙ under)

-- the whole front stays
pub same_under : (old new : Front) → new ≡ old → is_under_way old.stage ≡ true → is_under_way new.stage ≡ true
same_under old new is under = ap (λ front. is_under_way front.stage) is ∙ under

-- ---- the channel

-- the controller once a byte of its FIFO was taken or given
pub record HasPassed (old new : Fdc) : Type 0 where
  pub phase : new.phase ≡ old.phase
  pub seeks : new.seeks ≡ old.seeks
  pub dor : new.dor ≡ old.dor
  pub non_dma : new.non_dma ≡ old.non_dma
  pub command : new.command ≡ old.command
  pub poll : new.poll_due ≡ old.poll_due
  pub rule : new.asking ≡ phase_asks new.phase old.asking new.fifo

-- the channel finds nothing to do, or a byte passes: the controller's own, or one of a sector
pub data BytePasses (old new : Front) : Type 0 where
  Quiet : new ≡ old → BytePasses old new
  Own : (fdc : Fdc) → old.stage ≡ Through → HasPassed old.adapter.controller fdc → new ≡ record old { adapter = with_controller fdc old.adapter } → BytePasses old new
  OfSector : (moving : MovingSector) (fdc : Fdc) → old.stage ≡ Moving moving → HasPassed old.adapter.controller fdc → new ≡ passed_one moving fdc old → BytePasses old new

pub takes_pass : (stage : FrontStage) (byte : Option ℕ) (old new : Front) → old.stage ≡ stage → TakesAt stage old byte new → BytePasses old new
takes_pass Through (Some byte) old new at ((up, byte_is, same), is) =
    Own (taken_out old.adapter.controller) at (record { phase = refl; seeks = refl; dor = refl; non_dma = refl; command = refl; poll = refl; rule = refl })
    (is ∙ ap (λ (fdc : Fdc). record old { adapter = with_controller fdc old.adapter }) same)
takes_pass Through None old new at ((quiet, same), is) = Quiet (is ∙ ap (λ (fdc : Fdc). record old { adapter = with_controller fdc old.adapter }) same)
takes_pass (Moving moving) (Some byte) old new at (up, byte_is, is) =
    OfSector moving (taken_out old.adapter.controller) at (record { phase = refl; seeks = refl; dor = refl; non_dma = refl; command = refl; poll = refl; rule = refl }) is
takes_pass _ byte old new at takes = Quiet takes.1

pub gives_pass : (stage : FrontStage) (byte : ℕ) (was : Bool) (old new : Front) → old.stage ≡ stage → GivesAt stage byte old was new → BytePasses old new
gives_pass Through byte true old new at ((up, same), is) =
    Own (taken_in byte old.adapter.controller) at (record { phase = refl; seeks = refl; dor = refl; non_dma = refl; command = refl; poll = refl; rule = refl })
    (is ∙ ap (λ (fdc : Fdc). record old { adapter = with_controller fdc old.adapter }) same)
gives_pass Through byte false old new at ((quiet, same), is) = Quiet (is ∙ ap (λ (fdc : Fdc). record old { adapter = with_controller fdc old.adapter }) same)
gives_pass (Moving moving) byte true old new at (up, is) =
    OfSector moving (taken_in byte old.adapter.controller) at (record { phase = refl; seeks = refl; dor = refl; non_dma = refl; command = refl; poll = refl; rule = refl }) is
gives_pass _ byte was old new at (none, is) = Quiet is

pub pass_under : (old new : Front) → BytePasses old new → is_under_way old.stage ≡ true → is_under_way new.stage ≡ true
pass_under old new (Quiet is) under = same_under old new is under
pass_under old new (Own fdc at passed is) under = absurd (not_through old under at)
pass_under old new (OfSector moving fdc at passed is) under = ap (λ front. is_under_way front.stage) is

counted_under : (stage : FrontStage) (old new : Front) → is_under_way stage ≡ true → new ≡ count_told stage old → is_under_way new.stage ≡ true
counted_under (Seeking transfer counted) old new under is = ap (λ front. is_under_way front.stage) is
counted_under (Moving moving) old new under is = ap (λ front. is_under_way front.stage) is
counted_under _ old new under is = absurd (false≢true under)

pub counts_under : (old new : Front) → is_under_way old.stage ≡ true → new ≡ told_front old → is_under_way new.stage ≡ true
counts_under old new under is = counted_under old.stage old new under is

-- ---- ports

-- a byte that is written to the data port is ignored
pub ignored_write : (port byte : ℕ) (front : Front) → (port == 0x3F5) ≡ true → WritesFront port byte front front
ignored_write port byte front here = record { bytes = λ is. refl; others = λ no. clash (port == 0x3F5) no here }

-- a write of another port that doesn't reset leaves the stage
pub port_stage : (port value : ℕ) (old new : Front) → WritesFront port value old new → (port == 0x3F5) ≡ false → resets port value ≡ false → new.stage ≡ old.stage
port_stage port value old new writes no_byte no_reset =
    let (wrote, is) = writes.others no_byte in
    ap (λ front. front.stage) (subst (λ b. new ≡ record (reset_if b old) { adapter = new.adapter }) no_reset is)

pub writes_under : (port value : ℕ) (old new : Front) → is_under_way old.stage ≡ true → WritesFront port value old new → resets port value ≡ false → is_under_way new.stage ≡ true
writes_under port value old new under writes no_reset = either_way (port == 0x3F5)
    (λ here. same_under old new (writes.bytes (eqb-true port 0x3F5 here)) under)
    (λ no_byte. ap is_under_way (port_stage port value old new writes no_byte no_reset) ∙ under)

-- ---- A front whose controller takes a command and executes it, and a command that is given to it

-- the controller takes the first byte of a command, and executes what comes: no seek bit is set, and SPECIFY didn't set
-- ND
pub record Stands (front : Front) : Type 0 where
  pub through : front.stage ≡ Through
  pub takes : front.adapter.controller.phase ≡ Taking
  pub none : front.adapter.controller.command ≡ []
  pub free : is_held front.adapter.controller ≡ false
  pub rests : seek_bits front.adapter.controller.seeks ≡ 0
  pub by_dma : front.adapter.controller.non_dma ≡ false

-- ---- ---- by what this is seen

taking_phase : (phase : Phase) (held : Bool) → takes_in phase held ≡ true → (phase ≡ Taking) × (held ≡ false)
taking_phase Taking held is = (refl, not-true held is)
taking_phase _ held is = absurd (false≢true is)

begun_none : (command : List ℕ) → is_begun command ≡ false → command ≡ []
begun_none [] is = refl
begun_none (byte ∷ rest) is = absurd (false≢true (sym is))

ready_through : (stage : FrontStage) (fdc : Fdc) → is_ready_at stage fdc ≡ true → (stage ≡ Through) × (is_idle fdc ≡ true)
ready_through Through fdc is = (refl, is)
ready_through _ fdc is = absurd (false≢true is)

-- MSR shows that no seek bit is set
no_drive : (drive : ℕ) → drive < 4 → (bit_and (bit_or 0x80 (2 ^ drive)) 0x0F == 0) ≡ true → ⊥
no_drive (suc (suc (suc (suc drive)))) few none = absurd (omega arith)
no_drive _ few none = false≢true none

no_seek : (seek : Option Seek) → IsOfFour seek → (bit_and (bit_or 0x80 (option_map_or (λ (s : Seek). 2 ^ s.drive) seek 0)) 0x0F == 0) ≡ true → option_map_or (λ (s : Seek). 2 ^ s.drive) seek 0 ≡ 0
no_seek None few none = refl
no_seek (Some seek) few none = absurd (no_drive seek.drive few none)

pub status_free : (fdc : Fdc) → is_held fdc ≡ false → fdc.phase ≡ Taking → fdc.command ≡ [] → main_status fdc ≡ bit_or 0x80 (seek_bits fdc.seeks)
status_free fdc free takes none =
    ap (λ held. if held then 0 else bit_or (phase_bits (is_begun fdc.command) fdc.phase) (seek_bits fdc.seeks)) free
    ∙ (ap (λ phase. bit_or (phase_bits (is_begun fdc.command) phase) (seek_bits fdc.seeks)) takes
    ∙ ap (λ command. bit_or (phase_bits (is_begun command) Taking) (seek_bits fdc.seeks)) none)

pub heads_stand : (front : Front) → front.stage ≡ Through → is_held front.adapter.controller ≡ false → front.adapter.controller.phase ≡ Taking → front.adapter.controller.command ≡ []
    → IsOfFour front.adapter.controller.seeks.seek → moves_heads front ≡ false → seek_bits front.adapter.controller.seeks ≡ 0
heads_stand front through free takes none few stands =
    let fdc = front.adapter.controller in
    let status = ap (λ stage. status_at stage fdc) through ∙ status_free fdc free takes none in
    no_seek fdc.seeks.seek few (sym (ap (λ value. bit_and value 0x0F == 0) status) ∙ not-false (bit_and (status_at front.stage fdc) 0x0F == 0) stands)

pub stands_free : (front : Front) → IsFreeBehind front → Stands front
stands_free front free =
    let fdc = front.adapter.controller in
    let (through, idle) = ready_through front.stage fdc free.ready in
    let (taking, first) = and_parts (is_taking fdc) (not (is_begun fdc.command)) idle in
    let (takes, unheld) = taking_phase fdc.phase (is_held fdc) taking in
    let none = begun_none fdc.command (not-true (is_begun fdc.command) first) in
    record {
      through = through;
      takes = takes;
      none = none;
      free = unheld;
      rests = heads_stand front through unheld takes none free.seek free.stands;
      by_dma = free.by_dma;
    }

-- the controller isn't held in reset
pub ready_free : (front : Front) → is_ready front ≡ true → is_held front.adapter.controller ≡ false
ready_free front ready =
    let fdc = front.adapter.controller in
    let (through, idle) = ready_through front.stage fdc ready in
    (taking_phase fdc.phase (is_held fdc) (and_parts (is_taking fdc) (not (is_begun fdc.command)) idle).0).1

-- ---- what follows

pub stands_taking : (front : Front) → Stands front → is_taking front.adapter.controller ≡ true
stands_taking front stands =
    let fdc = front.adapter.controller in
    ap (λ phase. takes_in phase (is_held fdc)) stands.takes ∙ ap not stands.free

pub stands_idle : (front : Front) → Stands front → is_idle front.adapter.controller ≡ true
stands_idle front stands =
    let fdc = front.adapter.controller in
    and_from (is_taking fdc) (not (is_begun fdc.command)) (stands_taking front stands) (ap (λ command. not (is_begun command)) stands.none)

pub stands_ready : (front : Front) → Stands front → is_ready front ≡ true
stands_ready front stands = ap (λ stage. is_ready_at stage front.adapter.controller) stands.through ∙ stands_idle front stands

-- ---- a command that is given

-- the controller obeys the command
pub record IsObeyed (command : Command) (start new : Front) : Type 0 where
  pub through : new.stage ≡ Through
  pub lines : Lines
  pub obeys : Obeys command lines (record start.adapter.controller { command = [] }) new.adapter.controller

-- a command whose size code is in range, or that has none
pub given_obeyed : (command : Command) (start new : Front) → Stands start → whole command ≡ Ready command → GivesCommand command start new → IsObeyed command start new
given_obeyed command start new stands sized gives =
    let given : Commands command start new = subst (λ ready. CommandsIf ready command start new) (stands_ready start stands) gives in
    let fdc = record start.adapter.controller { command = [] } in
    let obeys : Obeys command (lines_at start.adapter) fdc given.between.controller =
    subst (λ accepted. TakesAs accepted (lines_at start.adapter) fdc given.between.controller) sized given.takes.takes in
    subst (IsObeyed command start) (sym given.after) (record { through = stands.through; lines = lines_at start.adapter; obeys = obeys })

pub format_obeyed : (unit n sectors gap fill : ℕ) (start new : Front) → Stands start → is_size n ≡ true → GivesCommand (FormatTrack unit n sectors gap fill) start new → IsObeyed (FormatTrack unit n sectors gap fill) start new
format_obeyed unit n sectors gap fill start new stands size gives =
    let command = FormatTrack unit n sectors gap fill in
    given_obeyed command start new stands (ap (λ b. if b then Ready command else Invalid) size) gives

-- ---- A sector of a command of several sectors begins, or the seek before it: what the beginning leaves of the
-- inner controller. The sequencer serves a command that it is given.

-- ---- what every command leaves

-- DOR and what SPECIFY set stay, and no byte of a command waits
pub record IsBase (old new : Fdc) : Type 0 where
  pub dor : new.dor ≡ old.dor
  pub non_dma : new.non_dma ≡ old.non_dma
  pub command : new.command ≡ []

pub base_held : (old new : Fdc) → IsBase old new → is_held new ≡ is_held old
base_held old new base = ap (λ (dor : Dor). is_held (record old { dor = dor })) base.dor

pub base_gated : (old new : Fdc) → IsBase old new → is_gated new ≡ is_gated old
base_gated old new base = ap (λ (dor : Dor). is_gated (record old { dor = dor })) base.dor

base_as : (old set new : Fdc) → IsBase old set → new ≡ set → IsBase old new
base_as old set new base is = subst (IsBase old) (sym is) base

base_told : (counted : Bool) (old : Fdc) (between : AdapterState) → IsBase old between.controller → IsBase old (told_if counted between).controller
base_told true old between base = record { dor = base.dor; non_dma = base.non_dma; command = base.command }
base_told false old between base = base

-- ---- a sector

module _ (head_drive : ℕ) (key : Chrn) (last_sector gap length_code : ℕ) (lines : Lines) (old new : Fdc) (sized : IsSizeCode key.n) (free : IsFree old) where
  abbrev without : Fdc
  without = record old { command = [] }

  obeyed : (command : Command) → TakesAs (if nat_le 1 key.n && nat_le key.n 6 then Ready command else Invalid) lines without new → Obeys command lines without new
  obeyed command takes = subst (λ b. TakesAs (if b then Ready command else Invalid) lines without new) (is_in key.n sized) takes

  read_base : Obeys (ReadData head_drive key last_sector gap length_code) lines without new → IsBase old new
  read_base obeys =
      let begins : BeginsData (ReadData head_drive key last_sector gap length_code) without new = (obeys.0 free.rests).1 free.by_dma in
      base_as old _ new (record { dor = refl; non_dma = refl; command = refl }) begins.3

  write_base : Obeys (WriteData head_drive key last_sector gap length_code) lines without new → IsBase old new
  write_base obeys =
      let begins : BeginsData (WriteData head_drive key last_sector gap length_code) without new = (obeys.0 free.rests).1 free.by_dma in
      base_as old _ new (record { dor = refl; non_dma = refl; command = refl }) begins.3

  deleted_base : Obeys (WriteDeleted head_drive key last_sector gap length_code) lines without new → IsBase old new
  deleted_base obeys =
      let begins : BeginsData (WriteDeleted head_drive key last_sector gap length_code) without new = (obeys.0 free.rests).1 free.by_dma in
      base_as old _ new (record { dor = refl; non_dma = refl; command = refl }) begins.3

  base_by : (operation : Operation) → TakesWhole (Ready (command_for operation head_drive key last_sector gap length_code)) lines old new → IsBase old new
  base_by (Read wanted skip) takes = read_base (obeyed (ReadData head_drive key last_sector gap length_code) takes)
  base_by (Write false) takes = write_base (obeyed (WriteData head_drive key last_sector gap length_code) takes)
  base_by (Write true) takes = deleted_base (obeyed (WriteDeleted head_drive key last_sector gap length_code) takes)

-- ---- ---- the sector is then under way

pub record IsCarried (old new : Front) : Type 0 where
  pub under_way : is_under_way new.stage ≡ true
  pub waits : WaitsForHeads new.stage new.adapter.controller.phase
  pub base : IsBase old.adapter.controller new.adapter.controller

carried_at : (stage : FrontStage) (old new : Front) → new.stage ≡ stage → is_under_way stage ≡ true → WaitsForHeads stage new.adapter.controller.phase → IsBase old.adapter.controller new.adapter.controller
    → IsCarried old new
carried_at stage old new is under waits base = record {
  under_way = ap is_under_way is ∙ under;
  waits = subst (λ s. WaitsForHeads s new.adapter.controller.phase) (sym is) waits;
  base = base;
}

pub sector_carried : (at : Transfer) (counted passed_over : Bool) (old new : Front) → IsSizeCode at.key.n → IsFree old.adapter.controller → BeginsSector at counted passed_over old new → IsCarried old new
sector_carried at counted passed_over old new sized free begins =
    let fdc = old.adapter.controller in
    let lines = lines_at old.adapter in
    let between = begins.between in
    let busy = free_executes at lines fdc between.controller sized free begins.takes.takes in
    let is : new ≡ record old { adapter = told_if counted between; stage = Moving (moving_of at counted passed_over) } =
    subst (λ b. new ≡ begun_if b at counted passed_over between old) busy begins.begun in
    let base = base_by at.head_drive at.key at.last_sector at.gap at.length lines fdc between.controller sized free at.opcode.operation begins.takes.takes in
    carried_at (Moving (moving_of at counted passed_over)) old new (ap (λ front. front.stage) is) refl tt
    (subst (λ (front : Front). IsBase fdc front.adapter.controller) (sym is) (base_told counted fdc between base))

-- ---- or the heads go to its cylinder

starts_carried : (b : Bool) (first : Transfer) (old new : Front) → IsSizeCode first.key.n → Stands old → StartsIf b first old new → IsCarried old new
starts_carried true first old new sized stands seeks =
    let fdc = old.adapter.controller in
    let between = seeks.between in
    let is : between.controller ≡ seeking first.head_drive first.key.c (record fdc { command = [] }) = seeks.takes.takes.0 stands.rests in
    let again : is_idle between.controller ≡ true = ap is_idle is ∙ and_from (is_taking fdc) true (stands_taking old stands) refl in
    let same : new ≡ record old { adapter = between; stage = Seeking first false } =
    seeks.begun ∙ ap (λ b. record old { adapter = between; stage = if b then Seeking first false else Through }) again in
    carried_at (Seeking first false) old new (ap (λ front. front.stage) same) refl
    (ap (λ (front : Front). front.adapter.controller.phase) same ∙ (ap (λ (fdc : Fdc). fdc.phase) is ∙ stands.takes))
    (subst (λ (front : Front). IsBase fdc front.adapter.controller) (sym same) (base_as fdc _ between.controller (record { dor = refl; non_dma = refl; command = refl }) is))
starts_carried false first old new sized stands begins = sector_carried first false false old new sized (record { rests = stands.rests; by_dma = stands.by_dma }) begins

-- ---- a command that is given

pub first_begins : (first : Transfer) (start new : Front) → Stands start → is_size first.key.n ≡ true → GivesTransfer first start new → BeginsBehind first new × IsCarried start new × Starts first start new
first_begins first start new stands size gives =
    let ready = stands_ready start stands in
    let starts : Starts first start new = subst (λ b. TransfersIf b first start new) ready gives in
    let sized = in_range first.key.n size in
    let carried = starts_carried first.seeks first start new sized stands starts in
    let begins : Begins first start new = record { ready = ready; sized = λ seeks. sized; gives = gives; stays = not_through new carried.under_way } in
    (record { start = start; begins = begins; serves = begins_served first start new begins }, carried, starts)

-- ---- A sector whose address field has just passed is served from then on

-- the address field was heard, and nothing has passed
abbrev field_heard : Chrn → History
field_heard key = record { parts = []; past = heard_words (address_words key); counted = false }

pub field_serves : (unit : ℕ) (key : Chrn) (start new : Front) → Stands start → is_size key.n ≡ true → ReadsSector (sector_alone unit key) start new
    → ServesBehind new × IsBase start.adapter.controller new.adapter.controller
field_serves unit key start new stands size reads =
    let first = sector_alone unit key in
    let fdc = start.adapter.controller in
    let sized = in_range key.n size in
    let carries = field_carries unit key fdc reads.between.controller sized (record { rests = stands.rests; by_dma = stands.by_dma }) reads.reads.reads in
    let is = ap (λ (front : Front). front.adapter.controller) reads.begun ∙ reads.reads.reads.2 in (
      record {
        under_way = ap (λ (front : Front). is_under_way front.stage) reads.begun;
        first = first;
        history = field_heard key;
        serves = subst (Serves first (field_heard key)) (sym reads.begun) (record { sized = sized; parts = tt; now = (refl, refl, carries) });
        waits = subst (λ (front : Front). WaitsForHeads front.stage front.adapter.controller.phase) (sym reads.begun) tt;
      },
      subst (IsBase fdc) (sym is) (record { dor = refl; non_dma = refl; command = stands.none }),
    )
