-- What each line does, by its call to the machine.
use Rattle.std.specs.Prelude.{◌≡◌, ℕ, Bool, true, false, not, ◌==◌, List, Option, Some, None, Result, Ok, Err, if◌then◌else◌}
use Rattle.std.specs.Option.{MatchOption}
use Rattle.text_commands.specs.Common.{in_bay, with_bay, stored, loaded, unloaded, PortLine, Stop, IsImageOf, StopCause, IsEndStop, Board, drive_in, latch_of, Touches, irq_taken}
use Rattle.flop_base.specs.declared.answers.Code.TheVariants.{BadRequest}
use Rattle.raw_image.specs.Disk.{Disk}
use Rattle.raw_image.specs.Image.{file_of}
use Rattle.floppy_jobs.specs.declared.ports.PortLine.TheVariants as line
use Rattle.floppy_jobs.specs.declared.request.Request.TheVariants as request
use Rattle.sector_model.specs.declared.reply.Reason.{Reason}
use Rattle.sector_model.specs.declared.reply.Reason.TheVariants as reason
use Rattle.sector_model.specs.Orders.{is_bay}
use Rattle.pc_bus.specs.Ports.{Inputs, Outputs}
use Rattle.pc_bus.specs.Steps.{Runs, stirred}
use Rattle.text_commands.specs.declared.ports.answer.LineAnswer.{LineAnswer}
use Rattle.text_commands.specs.declared.ports.answer.LineAnswer.TheVariants as answer
use Rattle.text_commands.specs.Benches.{Bench, Names, is_loaded}

-- names and files are as they were
pub record KeepsMedia (old new : Bench) : Type 0 where
  pub names : new.names ≡ old.names
  pub files : new.files ≡ old.files

-- why a medium isn't put into a bay
abbrev pub insert_refusal : Names → ℕ → Option Reason
insert_refusal names bay =
    if is_bay bay then (if is_loaded names bay then Some reason.Busy else None) else Some (reason.Driver BadRequest)

-- why no medium is taken out
abbrev pub eject_refusal : Names → ℕ → Option Reason
eject_refusal names bay =
    if is_bay bay then (if is_loaded names bay then None else Some reason.Empty) else Some (reason.Driver BadRequest)

-- the image of this name was loaded, and its medium put into the bay
pub record LoadsMedium (bay : ℕ) (name : List ℕ) (old new : Bench) : Type 0 where
  pub disk : Disk
  pub image : IsImageOf old.files name disk
  pub touches : Touches bay old.board new.board
  pub drive : drive_in new.board bay ≡ loaded disk (drive_in old.board bay)
  pub names : new.names ≡ with_bay old.names bay (Some name)
  pub files : new.files ≡ old.files

-- the medium was taken out of the bay
pub record TakesOut (bay : ℕ) (old new : Bench) : Type 0 where
  pub touches : Touches bay old.board new.board
  pub drive : drive_in new.board bay ≡ unloaded (drive_in old.board bay)
  pub names : new.names ≡ with_bay old.names bay None

-- the medium was taken out, and its image stored under its name
pub record StoresMedium (bay : ℕ) (old new : Bench) : Type 0 where
  pub disk : Disk
  pub name : List ℕ
  pub medium : (drive_in old.board bay).medium ≡ Some disk
  pub named : in_bay old.names bay ≡ Some name
  pub takes : TakesOut bay old new
  pub files : new.files ≡ stored old.files name (file_of disk)

-- the medium of a bay was taken out, and its image couldn't be stored
pub record DropsMedium (bay : ℕ) (old new : Bench) : Type 0 where
  pub loaded : is_loaded old.names bay ≡ true
  pub takes : TakesOut bay old new
  pub files : new.files ≡ old.files

-- a line that puts a medium in or takes one out was refused
pub record IsRefused (cause : Reason) (old : Bench) (said : LineAnswer) (new : Bench) : Type 0 where
  pub answered : said ≡ answer.Refused cause
  pub same : new ≡ old

-- a port gave a byte
pub record ReadsPort (port : ℕ) (old : Board) (said : LineAnswer) (new : Board) : Type 0 where
  pub value : ℕ
  pub answered : said ≡ answer.Byte port value
  pub inputs : Inputs port old value new

-- what a line does that doesn't stop the run
abbrev pub DoesLine : PortLine → Bench → LineAnswer → Bench → Type 0
DoesLine (line.In port) old said new = ReadsPort port old.board said new.board × KeepsMedia old new
DoesLine (line.Out port value) old said new =
    (said ≡ answer.Nothing) × Outputs port value old.board new.board × KeepsMedia old new
DoesLine (line.Wait steps) old said new =
    (said ≡ answer.Nothing) × Runs steps (stirred old.board) new.board × KeepsMedia old new
DoesLine line.Irq old said new =
    (said ≡ answer.Latch (latch_of old.board).is_set) × (new.board ≡ record old.board { bus = irq_taken old.board.bus })
    × KeepsMedia old new
DoesLine (line.Insert bay name) old said new =
    MatchOption (insert_refusal old.names bay) ((said ≡ answer.Done) × LoadsMedium bay name old new)
    (λ cause. IsRefused cause old said new)
DoesLine (line.Eject bay) old said new =
    MatchOption (eject_refusal old.names bay) ((said ≡ answer.Done) × StoresMedium bay old new)
    (λ cause. IsRefused cause old said new)

-- a line that isn't refused stops the run: no image was loaded, or the image can't be stored and the medium is dropped
abbrev pub StopsAt : PortLine → Bench → Stop → Bench → Type 0
StopsAt (line.Insert bay name) old cause new =
    (insert_refusal old.names bay ≡ None) × StopCause old.files (request.Insert bay name) cause × (new ≡ old)
StopsAt (line.Eject bay) old cause new =
    (eject_refusal old.names bay ≡ None) × IsEndStop cause × DropsMedium bay old new
StopsAt _ old cause new = ⊥

-- a line is done, or stops the run
abbrev pub LineGoes : PortLine → Bench → Result LineAnswer Stop → Bench → Type 0
LineGoes asked old (Ok said) new = DoesLine asked old said new
LineGoes asked old (Err cause) new = StopsAt asked old cause new

-- the medium of a bay that has one was taken out, and it was stored or dropped
abbrev pub StoresOrDrops : ℕ → Bench → Result (Unit {0}) Stop → Bench → Type 0
StoresOrDrops bay old (Ok done) new = StoresMedium bay old new
StoresOrDrops bay old (Err cause) new = IsEndStop cause × DropsMedium bay old new

-- the answer is a refusal
abbrev pub is_refusal : LineAnswer → Bool
is_refusal answer.Nothing = false
is_refusal (answer.Byte port value) = false
is_refusal (answer.Latch set) = false
is_refusal answer.Done = false
is_refusal (answer.Refused cause) = true

-- the device steps for which a line waits
abbrev pub waits_in : PortLine → ℕ
waits_in (line.In port) = 0
waits_in (line.Out port value) = 0
waits_in (line.Wait steps) = steps
waits_in line.Irq = 0
waits_in (line.Insert bay name) = 0
waits_in (line.Eject bay) = 0

-- the line puts no medium into the bay, and takes none out
abbrev pub leaves_bay : ℕ → PortLine → Bool
leaves_bay bay (line.In port) = true
leaves_bay bay (line.Out port value) = true
leaves_bay bay (line.Wait steps) = true
leaves_bay bay line.Irq = true
leaves_bay bay (line.Insert other name) = not (other == bay)
leaves_bay bay (line.Eject other) = not (other == bay)
