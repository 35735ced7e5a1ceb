-- Windows: the words that are written over a data field, at their place on the track, and writes that stop before the
-- end.
use Rattle.std.specs.Prelude.{◌≡◌, ℕ, ◌+◌, ◌*◌, ◌/◌, ◌≤◌, Bool, true, List, ◌∷◌, ◌++◌, length, take, replicate}
use Rattle.std.specs.Int.Bits.{bit_xor}
use Rattle.flop_base.specs.declared.key.Chrn.{Chrn}
use Rattle.flop_base.specs.Lists.{with_items}
use Rattle.track_model.specs.Bytes.{legal}
use Rattle.track_model.specs.Crc.{crc}
use Rattle.track_model.specs.Marks.{data_byte, IsAddressMark}
use Rattle.track_model.specs.Fields.{after_marks, IsAddressAt, content_size}
use Rattle.track_model.specs.Writing.{sync_and_marks, check_bytes, window}

-- the word at which the window of the address field at p begins. It is the first word that begins 352 cells or more
-- behind the field's end
abbrev pub window_word : ℕ → ℕ
window_word p = (p + 160 + 352 + 15) / 16

-- the first cell of that window
abbrev pub window_place : ℕ → ℕ
window_place p = 16 * window_word p

-- how many words a window for sectors of size code n has
abbrev pub window_words : ℕ → ℕ
window_words n = 18 + content_size n

-- a window whose CRC is wrong: the last bit of the CRC is inverted before the bytes are recorded
abbrev pub damaged_window : Bool → List ℕ → List ℕ
damaged_window deleted content =
    sync_and_marks
    ++ legal true ((data_byte deleted ∷ content) ++ check_bytes (bit_xor (crc (after_marks (data_byte deleted ∷ content))) 1))

-- a window without a data field: bytes 4E alone
abbrev pub empty_window : ℕ → List ℕ
empty_window n = replicate (window_words n) 0x9254

-- the first cell behind that window
abbrev pub window_end : ℕ → ℕ → ℕ
window_end p n = window_place p + 16 * window_words n

-- Cut: the track with the first k of these words at the window's place of the address field at p
abbrev pub cut_of : List ℕ → ℕ → ℕ → List ℕ → List ℕ
cut_of track p k words = with_items track (window_word p) (take k words)

-- the window has k words or more, and its first k are inside the track
pub record IsCuttable (track : List ℕ) (p k : ℕ) (words : List ℕ) : Type 0 where
  pub most : k ≤ length words
  pub inside : window_word p + k ≤ length track

-- `after` is the track with a cut of this window at the place of the address field at p
pub record IsCut (track after : List ℕ) (p k : ℕ) (words : List ℕ) : Type 0 where
  pub cuttable : IsCuttable track p k words
  pub is : after ≡ cut_of track p k words

-- an address field of this key is at p, and the content has the size that it names
pub record IsFieldFor (track : List ℕ) (p : ℕ) (key : Chrn) (content : List ℕ) : Type 0 where
  pub address : IsAddressAt track p key
  pub size : length content ≡ content_size key.n

-- the content has the size that the address field at p names
abbrev pub HasFieldFor : List ℕ → ℕ → List ℕ → Type 0
HasFieldFor track p content = (key : Chrn) × IsFieldFor track p key content

-- Tidy: wherever the write stops, it makes no address mark that wasn't there before
abbrev pub IsTidy : List ℕ → ℕ → Bool → List ℕ → Type 0
IsTidy track p deleted content =
    (k q : ℕ) → IsCuttable track p k (window deleted content)
    → IsAddressMark (cut_of track p k (window deleted content)) q → IsAddressMark track q
