-- WRITE DATA and WRITE DELETED, word by word.
use Rattle.std.specs.Prelude.{◌≡◌, ◌<◌, ℕ, ◌+◌, Bool, true, false, List, [], ◌∷◌, Option, Some, None, if◌then◌else◌, drop}
use Rattle.fdc_core.specs.Common.{DriveState, is_protected, at_index, Writes, InRange, Fifo, wants, Ending, Protected, Overrun, Late, WriteNext, key_after, head_of, write_at, End, Write, Writing}
use Rattle.fdc_stages.specs.Writings.{opens, is_due, needs_byte}
use Rattle.fdc_stages.specs.declared.writing.WriteNext.TheVariants.{On, Ended}
use Rattle.fdc_stages.specs.declared.writing.WriteWord.{WriteWord}
use Rattle.fdc_core.specs.Dma.{gone_on}
use Rattle.fdc_core.specs.State.{finished}
use Rattle.fdc_core.specs.Times.{WordTime, Saw, KeptOut, Wrote, Stopped, IsTime, IsHeardTime, Opens, Closes}
use Rattle.fdc_core.specs.declared.controller.Fdc.{Fdc}
use Rattle.fdc_phases.specs.Writing.{is_ended, StageHearsWord, StageWritesWord}

-- a write after what a word gave
abbrev pub after_next : ℕ → ℕ → Writing → WriteNext → Fdc → Fdc
after_next head_drive steps writing (On stage) old = gone_on head_drive steps (Write (write_at writing stage)) old
after_next head_drive steps writing (Ended ending) old =
    finished ending head_drive (key_after ending writing.wanted.key writing.last_sector) old

-- a command that takes bytes goes on, with DRQ by the FIFO's rule, or is over
abbrev pub gone_or_over : Bool → Option End → Fdc → Fdc
gone_or_over counted None old = record old { asking = wants false old.asking counted old.fifo }
gone_or_over counted (Some over) old = finished over.ending over.head_drive over.key old

abbrev pub is_end : Option End → Bool
is_end None = false
is_end (Some _) = true

-- ---- bytes from the FIFO

abbrev pub oldest_of : Bool → List ℕ → Option ℕ
oldest_of counted (byte ∷ _) = Some byte
oldest_of true [] = Some 0
oldest_of false [] = None

-- the byte of the next word, where it needs one: the oldest in the FIFO, or 00 if the FIFO is empty after the terminal
-- count. None if the byte is missing
abbrev pub byte_taken : Bool → Bool → Fifo → Option ℕ
byte_taken needs counted fifo = if needs then oldest_of counted fifo.bytes else Some 0

abbrev pub without_byte : Bool → Fdc → Fdc
without_byte needs old = if needs then record old { fifo = record old.fifo { bytes = drop 1 old.fifo.bytes } } else old

-- the FIFO without that byte
abbrev pub fifo_without : Bool → Fifo → Fifo
fifo_without needs fifo = if needs then record fifo { bytes = drop 1 fifo.bytes } else fifo

-- ---- ---- a device step after `steps` others, by what its word time is

-- a word is heard
pub record HearsWord (head_drive steps : ℕ) (writing : Writing) (index : Bool) (word : ℕ) (old new : Fdc) : Type 0 where
  pub few : steps < 65535
  pub next : WriteNext
  pub hears : StageHearsWord writing index word next
  pub after_is : new ≡ after_next head_drive (steps + 1) writing next old

-- a word is written
pub record PutsWord (head_drive steps : ℕ) (writing : Writing) (opened closed index : Bool) (word : ℕ) (old new : Fdc) : Type 0 where
  pub few : steps < 65535
  pub due : is_due writing.stage ≡ true
  pub opened_is : opened ≡ opens writing.stage
  pub byte : ℕ
  pub byte_is : byte_taken (needs_byte writing.stage) writing.counted old.fifo ≡ Some byte
  pub given : WriteWord
  pub word_is : word ≡ given.word
  pub next : WriteNext
  pub writes : StageWritesWord writing byte index given next
  pub closed_is : closed ≡ is_ended next
  pub after_is : new ≡ after_next head_drive (steps + 1) writing next (without_byte (needs_byte writing.stage) old)

-- the command ends, for one of three reasons: it is the last step, a protected medium is met in the first step, or a
-- byte is missing
abbrev pub Stops : ℕ → Bool → Option ℕ → Ending → Type 0
Stops steps is_protected byte Late = steps ≡ 65535
Stops steps is_protected byte Protected = (steps ≡ 0) × (is_protected ≡ true)
Stops steps is_protected byte Overrun = (steps < 65535) × (byte ≡ None)
Stops steps is_protected byte _ = ⊥

pub record StopsWriting (head_drive steps : ℕ) (writing : Writing) (old : Fdc) (before : DriveState) (new : Fdc) : Type 0 where
  pub ending : Ending
  pub stops : Stops steps (is_protected before.medium) (byte_taken (needs_byte writing.stage) writing.counted old.fifo) ending
  pub after_is : new ≡ finished ending head_drive writing.wanted.key old

abbrev pub WriteDoes : WordTime → ℕ → ℕ → Writing → Fdc → DriveState → Fdc → Type 0
WriteDoes (Saw index word) head_drive steps writing old before new =
    (is_due writing.stage ≡ false) × HearsWord head_drive steps writing index word old new
WriteDoes (KeptOut index word) head_drive steps writing old before new =
    (opens writing.stage ≡ true) × HearsWord head_drive steps writing index word old new
WriteDoes (Wrote opened closed index word) head_drive steps writing old before new =
    PutsWord head_drive steps writing opened closed index word old new
WriteDoes Stopped head_drive steps writing old before new = StopsWriting head_drive steps writing old before new

-- what the word time is, and what the controller does
pub record IsWriteTime (head_drive steps : ℕ) (writing : Writing) (old : Fdc) (before after : DriveState) (new : Fdc) : Type 0 where
  pub time : WordTime
  pub is : IsTime time old.rate (head_of head_drive) before after
  pub does : WriteDoes time head_drive steps writing old before new

-- a device step of a write: a protected medium is met in the first
pub record IsWriteStep (head_drive steps : ℕ) (writing : Writing) (old : Fdc) (before after : DriveState) (new : Fdc) : Type 0 where
  pub does : IsWriteTime head_drive steps writing old before after new
  pub guards : steps ≡ 0 → is_protected before.medium ≡ true → does.time ≡ Stopped

-- ---- its parts

-- a word is heard
pub record HearsAWord (head_drive steps : ℕ) (writing : Writing) (old : Fdc) (before after : DriveState) (new : Fdc) : Type 0 where
  pub index : Bool
  pub word : ℕ
  pub is : IsHeardTime index word old.rate (head_of head_drive) before after
  pub does : HearsWord head_drive steps writing index word old new

-- a word that records this byte is written. The gate opens before the first word, and closes after the last
pub record PutsByte (head_drive steps : ℕ) (writing : Writing) (byte : ℕ) (old : Fdc) (before after : DriveState) (new : Fdc) : Type 0 where
  pub from : DriveState
  pub mid : DriveState
  pub given : WriteWord
  pub next : WriteNext
  pub writes : StageWritesWord writing byte (at_index before) given next
  pub opens_it : Opens (opens writing.stage) before from
  pub puts : Writes (head_of head_drive) given.word from mid
  pub range_from : InRange from
  pub range_mid : InRange mid
  pub closes : Closes (is_ended next) mid after
  pub after_is : new ≡ after_next head_drive (steps + 1) writing next old
