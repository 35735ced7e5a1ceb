-- What a format stream gives next.
use Rattle.std.specs.Prelude.{◌≡◌, ℕ, ◌+◌, ◌-◌, ◌<◌, ◌≤◌, Bool, List, [], ◌++◌, length, map, drop, take}
use Rattle.flop_base.specs.declared.key.Chrn.{Chrn}
use Rattle.track_model.specs.declared.symbol.Symbol.{Symbol}
use Rattle.track_model.specs.declared.symbol.Symbol.TheVariants.{Key}
use Rattle.track_model.specs.Crc.{crc, crc_from}
use Rattle.track_model.specs.Fields.{after_marks}
use Rattle.track_model.specs.Layouts.{gap, symbol_byte, before_sectors, field_symbols, address_content, data_content, sectors_symbols, next_symbol}
use Rattle.track_format.specs.declared.stream.TrackPart.{TrackPart}
use Rattle.track_format.specs.declared.stream.TrackPart.TheVariants.{Start, Address, Data, End}
use Rattle.track_format.specs.declared.stream.FormatStream.{FormatStream}

-- from the first byte of a field on, the CRC so far goes on over the bytes that are left, and comes to the field's CRC
abbrev pub GoesOn : ℕ → ℕ → List Symbol → Type 0
GoesOn place check symbols =
    15 ≤ place → crc_from check (drop (place - 15) (map symbol_byte symbols)) ≡ crc (after_marks (map symbol_byte symbols))

-- these are the symbols of so many sectors
abbrev pub HasSectors : ℕ → ℕ → ℕ → ℕ → List Symbol → Type 0
HasSectors sectors size gap3 fill left =
    (keys : List Chrn) × (length keys ≡ sectors) × (left ≡ sectors_symbols size gap3 fill keys)

-- so many words of what stands before the first sector were given
pub record IsInStart (sectors size gap3 fill given : ℕ) (left : List Symbol) : Type 0 where
  pub keys : List Chrn
  pub count : length keys ≡ sectors
  pub left_is : left ≡ drop given before_sectors ++ sectors_symbols size gap3 fill keys

-- so many words of the address field of a key were given
pub record IsInAddress (sectors size gap3 fill given check : ℕ) (left : List Symbol) : Type 0 where
  pub key : Chrn
  pub keys : List Chrn
  pub count : length keys ≡ sectors
  pub checked : GoesOn given check (address_content key)
  pub left_is : left
      ≡ drop given (field_symbols (address_content key) 22)
      ++ (field_symbols (data_content size fill) gap3 ++ sectors_symbols size gap3 fill keys)

-- so many words of a data field were given
pub record IsInData (sectors size gap3 fill given check : ℕ) (left : List Symbol) : Type 0 where
  pub keys : List Chrn
  pub count : length keys ≡ sectors
  pub checked : GoesOn given check (data_content size fill)
  pub left_is : left ≡ drop given (field_symbols (data_content size fill) gap3) ++ sectors_symbols size gap3 fill keys

-- so many words of a part of the track were given, and these symbols are left
abbrev pub IsInPart : TrackPart → ℕ → ℕ → ℕ → ℕ → ℕ → ℕ → List Symbol → Type 0
IsInPart Start sectors size gap3 fill given check left = IsInStart sectors size gap3 fill given left
IsInPart Address sectors size gap3 fill given check left = IsInAddress sectors size gap3 fill given check left
IsInPart Data sectors size gap3 fill given check left = IsInData sectors size gap3 fill given check left
IsInPart End sectors size gap3 fill given check left = left ≡ []

-- how many words a part has; gap 4b is given one word at a time, so it counts as one word
abbrev pub words_of_part : TrackPart → ℕ → ℕ → ℕ
words_of_part Start size gap3 = 146
words_of_part Address size gap3 = 44
words_of_part Data size gap3 = 18 + size + gap3
words_of_part End size gap3 = 1

-- after a bit `last`, the stream gives the words of these symbols, and then 4E for ever; their key bytes are those that
-- the stream will be handed
pub record Gives (stream : FormatStream) (last : Bool) (left : List Symbol) : Type 0 where
  pub bit : stream.last ≡ last
  pub within : stream.place < words_of_part stream.part stream.size stream.gap3
  pub part : IsInPart stream.part stream.sectors stream.size stream.gap3 stream.fill stream.place stream.check left

-- the next symbols, so many of them; bytes 4E stand behind the last of those that are left
abbrev pub filled : ℕ → List Symbol → List Symbol
filled count left = take count (left ++ gap count)

-- the next symbol is a byte of a key
abbrev pub AsksKey : List Symbol → Type 0
AsksKey left = (key : ℕ) × (next_symbol left ≡ Key key)

-- if the next symbol is a byte of a key, it is this byte
abbrev pub KeyIs : List Symbol → ℕ → Type 0
KeyIs left byte = (key : ℕ) → next_symbol left ≡ Key key → byte ≡ key
