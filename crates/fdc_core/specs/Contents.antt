-- The bytes of a content in many device steps at once.
use Rattle.std.specs.Prelude.{◌≡◌, ◌≤◌, ℕ, ◌+◌, Bool, true, false, List, [], ◌∷◌, ◌++◌, length}
use Rattle.fdc_core.specs.Common.{LetsPass, AreAhead, DriveState, Fifo, room_of, wants, ReadStage, HearsByte, HearsBytes}

-- the FIFO with more bytes at its end. After the terminal count they are dropped
abbrev pub with_bytes : Bool → List ℕ → Fifo → Fifo
with_bytes true bytes fifo = fifo
with_bytes false bytes fifo = record fifo { bytes = fifo.bytes ++ bytes }

-- a word gives a byte of the content, and the byte goes to the FIFO
pub record TakesByte (word : ℕ) (counted : Bool) (stage next : ReadStage) (before after : Fifo) : Type 0 where
  pub value : ℕ
  pub hears : HearsByte word value stage next
  pub after_is : after ≡ with_bytes counted (value ∷ []) before

-- each of these words gives a byte of the content, and the bytes go to the FIFO
pub record TakesBytes (words : List ℕ) (counted : Bool) (stage final : ReadStage) (before after : Fifo) : Type 0 where
  pub bytes : List ℕ
  pub hears : HearsBytes words bytes stage final
  pub after_is : after ≡ with_bytes counted bytes before

-- the FIFO has room for so many bytes, unless they are dropped
abbrev pub HasSpace : ℕ → Bool → Fifo → Type 0
HasSpace count counted fifo = counted ≡ false → length fifo.bytes + count ≤ room_of fifo.on

-- the FIFO has room for so many bytes, and DRQ stays down while they come
pub record HasRoom (count : ℕ) (counted : Bool) (fifo : Fifo) : Type 0 where
  pub quiet : (bytes : List ℕ) → length bytes ≤ count → wants true false false (with_bytes counted bytes fifo) ≡ false
  pub space : HasSpace count counted fifo

-- so many words in a row give their bytes, in as many device steps of a READ DATA, none of which is its last
pub record TakesMany (head steps last count : ℕ) (counted : Bool) (stage final : ReadStage) (fifo full : Fifo) (before after : DriveState) : Type 0 where
  pub last_is : last ≡ steps + count
  pub few : last ≤ 65535
  pub words : List ℕ
  pub count_is : length words ≡ count
  pub ahead : AreAhead head words before
  pub takes : TakesBytes words counted stage final fifo full
  pub room : HasRoom count counted fifo
  pub passes : LetsPass count before after
