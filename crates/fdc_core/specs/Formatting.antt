-- FORMAT TRACK, word by word.
use Rattle.std.specs.Prelude.{◌≡◌, ◌<◌, ℕ, ◌+◌, Bool, true, false, Option, Some, None}
use Rattle.fdc_core.specs.Common.{DriveState, is_protected, at_index, Writes, InRange, wants, Ending, opens, is_due, Takes, FormatNext, no_key, head_of, format_at, Format, Formatting, is_ended, StageHearsIndex, StageLaysWord}
use Rattle.fdc_stages.specs.Leads.{HasLead}
use Rattle.fdc_stages.specs.declared.formatting.FormatEnd.{FormatEnd}
use Rattle.fdc_stages.specs.declared.formatting.FormatNext.TheVariants.{On, Ended}
use Rattle.fdc_stages.specs.declared.formatting.FormatWord.{FormatWord}
use Rattle.fdc_core.specs.Dma.{gone_on}
use Rattle.fdc_core.specs.State.{finished}
use Rattle.fdc_core.specs.Times.{WordTime, Saw, KeptOut, Wrote, Stopped, IsTime, IsHeardTime, Opens, Closes}
use Rattle.fdc_core.specs.Writing.{byte_taken, without_byte, Stops}
use Rattle.fdc_core.specs.declared.controller.Fdc.{Fdc}

-- a FORMAT after what a word gave
abbrev pub after_laid : ℕ → ℕ → Formatting → FormatNext → Fdc → Fdc
after_laid head_drive steps formatting (On stage) old = gone_on head_drive steps (Format (format_at formatting stage)) old
after_laid head_drive steps formatting (Ended ending key) old = finished ending head_drive key old

-- the same in place, once the stage is the one after the word. The FORMAT goes on, with DRQ by the FIFO's rule, or is
-- over
abbrev pub format_followed : ℕ → Bool → Option FormatEnd → Fdc → Fdc
format_followed head_drive counted None old = record old { asking = wants false old.asking counted old.fifo }
format_followed head_drive counted (Some over) old = finished over.ending head_drive over.key old

abbrev pub is_over : Option FormatEnd → Bool
is_over None = false
is_over (Some _) = true

-- ---- ---- a device step after `steps` others, by what its word time is

-- a word is heard
pub record HearsFormat (head_drive steps : ℕ) (formatting : Formatting) (index : Bool) (old new : Fdc) : Type 0 where
  pub few : steps < 65535
  pub next : FormatNext
  pub hears : StageHearsIndex formatting index next
  pub after_is : new ≡ after_laid head_drive (steps + 1) formatting next old

-- a word is written. Where it is a byte of a key, that byte is taken
pub record LaysWord (head_drive steps : ℕ) (formatting : Formatting) (opened closed index : Bool) (word : ℕ) (old new : Fdc) : Type 0 where
  pub few : steps < 65535
  pub due : is_due formatting.stage ≡ true
  pub opened_is : opened ≡ opens formatting.stage
  pub needs : Bool
  pub takes : Takes formatting.stage needs
  pub needed : (lead : ℕ) → HasLead formatting.stage lead → needs ≡ true → lead ≡ 0
  pub byte : ℕ
  pub byte_is : byte_taken needs formatting.counted old.fifo ≡ Some byte
  pub given : FormatWord
  pub word_is : word ≡ given.word
  pub next : FormatNext
  pub lays : StageLaysWord formatting needs byte index given next
  pub closed_is : closed ≡ is_ended next
  pub after_is : new ≡ after_laid head_drive (steps + 1) formatting next (without_byte needs old)

-- the command ends. A byte can be missing only where the next word is a byte of a key
pub record StopsFormat (head_drive steps : ℕ) (formatting : Formatting) (old : Fdc) (before : DriveState) (new : Fdc) : Type 0 where
  pub ending : Ending
  pub needs : Bool
  pub takes : needs ≡ true → (is_due formatting.stage ≡ true) × Takes formatting.stage true
  pub needed : (lead : ℕ) → HasLead formatting.stage lead → needs ≡ true → lead ≡ 0
  pub stops : Stops steps (is_protected before.medium) (byte_taken needs formatting.counted old.fifo) ending
  pub after_is : new ≡ finished ending head_drive no_key old

abbrev pub FormatDoes : WordTime → ℕ → ℕ → Formatting → Fdc → DriveState → Fdc → Type 0
FormatDoes (Saw index word) head_drive steps formatting old before new =
    (is_due formatting.stage ≡ false) × HearsFormat head_drive steps formatting index old new
FormatDoes (KeptOut index word) head_drive steps formatting old before new =
    (opens formatting.stage ≡ true) × HearsFormat head_drive steps formatting index old new
FormatDoes (Wrote opened closed index word) head_drive steps formatting old before new =
    LaysWord head_drive steps formatting opened closed index word old new
FormatDoes Stopped head_drive steps formatting old before new = StopsFormat head_drive steps formatting old before new

-- what the word time is, and what the controller does
pub record IsFormatTime (head_drive steps : ℕ) (formatting : Formatting) (old : Fdc) (before after : DriveState) (new : Fdc) : Type 0 where
  pub time : WordTime
  pub is : IsTime time old.rate (head_of head_drive) before after
  pub does : FormatDoes time head_drive steps formatting old before new

-- a device step of a FORMAT: a protected medium is met in the first
pub record IsFormatStep (head_drive steps : ℕ) (formatting : Formatting) (old : Fdc) (before after : DriveState) (new : Fdc) : Type 0 where
  pub does : IsFormatTime head_drive steps formatting old before after new
  pub guards : steps ≡ 0 → is_protected before.medium ≡ true → does.time ≡ Stopped

-- ---- its parts

-- a word is heard
pub record AwaitsIndex (head_drive steps : ℕ) (formatting : Formatting) (old : Fdc) (before after : DriveState) (new : Fdc) : Type 0 where
  pub index : Bool
  pub word : ℕ
  pub is : IsHeardTime index word old.rate (head_of head_drive) before after
  pub does : HearsFormat head_drive steps formatting index old new

-- a word that records this byte is written. The gate opens before the first word, and closes after the last
pub record LaysByte (head_drive steps : ℕ) (formatting : Formatting) (takes : Bool) (byte : ℕ) (old : Fdc) (before after : DriveState) (new : Fdc) : Type 0 where
  pub from : DriveState
  pub mid : DriveState
  pub given : FormatWord
  pub next : FormatNext
  pub lays : StageLaysWord formatting takes byte (at_index before) given next
  pub opens_it : Opens (opens formatting.stage) before from
  pub puts : Writes (head_of head_drive) given.word from mid
  pub range_from : InRange from
  pub range_mid : InRange mid
  pub closes : Closes (is_ended next) mid after
  pub after_is : new ≡ after_laid head_drive (steps + 1) formatting next old
