-- The controller after the byte that begins a data command.
use Rattle.std.proofs.Common.{◌≡◌, ℕ, Bool, true, false, List, [], ◌∷◌, ◌++◌, refl, sym, ◌∙◌, ap, subst}
use Rattle.laws_machine.proofs.Common.{Channel, answer, kept, Ready, ReadData, FormatTrack, emptied, seek_bits, Obeys, TakesAs, WaitsAtFirst, asked, Sent, is_taking, dor_of, Fdc, Lines, Task, Board, controller_of, lines_of, WritesPort, shown_again, Chips, Scene, write_of, Window, Track, Order, Identify, Read, Write, May, Shows, IsDoneBy, IsLast, IsSetFor, false≢true, new_past, BeginsAsking, begun_with, IsWritingData, PortWrites as Writes, Moved as Moves}
use Rattle.fdc_commands.specs.declared.command.Command.{Command}
use Rattle.fdc_commands.specs.declared.command.Command.TheVariants.{ReadId}
use Rattle.laws_machine.proofs.OnWrites.Filling.{none_taken}
use Rattle.laws_machine.proofs.OnReads.Steps as reads

-- a command that writes asks for bytes at once
abbrev pub first_line : Order → Fdc → Bool
first_line (Write laid) begun = (asked begun).asking
first_line _ begun = false

abbrev pub begun_as : Order → ℕ → Task → Fdc → Fdc
begun_as order head_drive task old = record (begun_with head_drive task old) { asking = first_line order (begun_with head_drive task old) }

-- the task is in execution, and nothing was heard, moved or written yet
pub record HasBegun (order : Order) (scene : Scene) (old new : Fdc) : Type 0 where
  pub task : Task
  pub waits : WaitsAtFirst task
  pub may : May order scene new_past new
  pub shows : Shows order scene new
  pub after : new ≡ begun_as order scene.sent.head_drive task (record old { command = [] })

-- with its last byte the command is whole
takes : (byte : ℕ) (lines : Lines) (old new : Fdc) (command : Command) → answer (old.command ++ byte ∷ []) ≡ Ready command → is_taking old ≡ true → Writes 0x3F5 byte lines old new
    → Obeys command lines (record old { command = [] }) new
takes byte lines old new command whole taking writes =
    subst (λ accepted. TakesAs accepted lines (record old { command = kept accepted (old.command ++ byte ∷ []) }) new) whole ((writes.bytes refl).0 taking)

-- the task that begins
begins_write : (deleted : Bool) (sent : Sent) (gap length_code : ℕ) (lines : Lines) (old new : Fdc) → Obeys (write_of deleted sent gap length_code) lines old new → seek_bits old.seeks ≡ 0 → old.non_dma ≡ false
    → BeginsAsking sent.head_drive (IsWritingData sent deleted) old new
begins_write true sent gap length_code lines old new obeys rest dma = (obeys.0 rest).1 dma
begins_write false sent gap length_code lines old new obeys rest dma = (obeys.0 rest).1 dma

shows_begun : (order : Order) (scene : Scene) (task : Task) (old : Fdc) → Shows order scene (begun_as order scene.sent.head_drive task old)
shows_begun Identify scene task old = (refl, refl)
shows_begun Read scene task old = λ _. refl
shows_begun (Write laid) scene task old = λ yes. absurd (false≢true yes)

begins_as : (order : Order) (scene : Scene) (old new : Fdc) (task : Task) → WaitsAtFirst task → May order scene new_past (begun_as order scene.sent.head_drive task (record old { command = [] }))
    → new ≡ begun_as order scene.sent.head_drive task (record old { command = [] }) → HasBegun order scene old new
begins_as order scene old new task waits is after = record {
  task = task;
  waits = waits;
  may = subst (May order scene new_past) (sym after) is;
  shows = subst (Shows order scene) (sym after) (shows_begun order scene task (record old { command = [] }));
  after = after;
}

pub begun : (order : Order) (scene : Scene) (byte : ℕ) (lines : Lines) (old new : Fdc) → IsLast order scene byte old → Writes 0x3F5 byte lines old new → HasBegun order scene old new
begun Identify scene byte lines old new last writes =
    let (task, is, waits, after) = ((takes byte lines old new (ReadId scene.sent.head_drive) last.whole last.taking writes).0 last.no_seek).1 last.dma in
    begins_as Identify scene old new task waits is after
begun Read scene byte lines old new last writes =
    let (task, is, waits, after) = ((takes byte lines old new (ReadData scene.sent.head_drive scene.sent.key scene.sent.last_sector last.gap last.length_code) last.whole last.taking writes).0 last.no_seek).1 last.dma in
    begins_as Read scene old new task waits is after
begun (Write (Window deleted)) scene byte lines old new last writes =
    let (task, is, waits, after) = begins_write deleted scene.sent last.gap last.length_code lines (record old { command = [] }) new
    (takes byte lines old new (write_of deleted scene.sent last.gap last.length_code) last.whole last.taking writes) last.no_seek last.dma in
    begins_as (Write (Window deleted)) scene old new task waits (is (emptied old.fifo.on old.fifo.threshold) false refl) after
begun (Write (Track numbers)) scene byte lines old new last writes =
    let (task, is, waits, after) =
    ((takes byte lines old new (FormatTrack scene.sent.head_drive numbers.n numbers.sectors numbers.gap3 numbers.fill) last.whole last.taking writes).0 last.no_seek).1 last.dma in
    begins_as (Write (Track numbers)) scene old new task waits (is (emptied old.fifo.on old.fifo.threshold) false refl) after

-- ---- on the board

-- the other chips are as they were
pub begun_at : (order : Order) (scene : Scene) (byte : ℕ) (old between : Board) → WritesPort 0x3F5 byte old between → IsLast order scene byte (controller_of old)
    → HasBegun order scene (controller_of old) (controller_of between) × (between.bus.chips ≡ shown_again (record old.bus.chips { controller = controller_of between }))
begun_at order scene byte old between writes last =
    let (controller, does, chips_are) = writes.writes.controllers refl in
    let at : between.bus.chips ≡ shown_again (record old.bus.chips { controller = controller }) = ap (λ bus. bus.chips) writes.bus ∙ chips_are in
    let same : controller ≡ controller_of between = sym (ap (λ chips. chips.controller) at) in (
      subst (HasBegun order scene (controller_of old)) same (begun order scene byte (lines_of old) (controller_of old) controller last does),
      at ∙ ap (λ (c : Fdc). shown_again (record old.bus.chips { controller = c })) same,
    )

-- ---- nothing was heard, moved or written yet

pub none_moved : (order : Order) (scene : Scene) (memory : List ℕ) (channel : Channel) → memory ≡ scene.memory → IsSetFor order scene channel → Moves order scene new_past memory channel
none_moved Identify scene memory channel same set = same
none_moved Read scene memory channel same (left, size, set) = reads.none_moved scene memory channel left same size set
none_moved (Write laid) scene memory channel same (left, size, set) = none_taken scene memory channel left same size set

pub begun_by : (order : Order) (scene : Scene) (old : Chips) (new : Fdc) → dor_of old.controller ≡ scene.dor → old.controller.rate ≡ scene.rate → old.memory ≡ scene.memory
    → IsSetFor order scene old.channel → HasBegun order scene old.controller new → IsDoneBy order scene new_past (shown_again (record old { controller = new }))
begun_by order scene old new dor rate memory channel has = record {
  may = has.may;
  shows = has.shows;
  dor = ap (λ (fdc : Fdc). fdc.dor.0) has.after ∙ dor;
  rate = ap (λ (fdc : Fdc). fdc.rate) has.after ∙ rate;
  moves = none_moved order scene old.memory old.channel memory channel;
}
