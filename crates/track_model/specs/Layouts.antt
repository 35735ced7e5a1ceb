-- The layout of a formatted track (IBM System 34 format), as the symbols that are recorded on it.
use Rattle.std.specs.Prelude.{ℕ, ◌+◌, ◌*◌, ◌≤◌, Bool, false, List, [], ◌∷◌, ◌++◌, length, map, replicate, take, slice_index, slice_index_or}
use Rattle.std.specs.List.{flat_map}
use Rattle.flop_base.specs.declared.key.Chrn.{Chrn}
use Rattle.track_model.specs.declared.symbol.Symbol.{Symbol}
use Rattle.track_model.specs.declared.symbol.Symbol.TheVariants.{Byte, Key, Mark}
use Rattle.track_model.specs.Bytes.{byte_at, last_bit, legal}
use Rattle.track_model.specs.Crc.{crc}
use Rattle.track_model.specs.Fields.{after_marks, content_size}
use Rattle.track_model.specs.Writing.{check_bytes}

-- the word that records a symbol after a bit `last`
abbrev pub word_after : Bool → Symbol → ℕ
word_after last (Byte byte) = slice_index (legal last (byte ∷ [])) 0
word_after last (Key byte) = slice_index (legal last (byte ∷ [])) 0
word_after last (Mark cells) = cells

-- the last bit of a symbol: the last cell of a mark is a data cell
abbrev pub symbol_bit : Symbol → Bool
symbol_bit (Byte byte) = last_bit byte
symbol_bit (Key byte) = last_bit byte
symbol_bit (Mark cells) = last_bit cells

-- the words that record symbols after a bit `last`, each after the last bit of the one before
unfoldable pub recorded : Bool → List Symbol → List ℕ
recorded last [] = []
recorded last (symbol ∷ rest) = word_after last symbol ∷ recorded (symbol_bit symbol) rest

-- `count` bytes 4E
abbrev pub gap : ℕ → List Symbol
gap count = replicate count (Byte 0x4E)

-- twelve bytes 00
abbrev pub sync : List Symbol
sync = replicate 12 (Byte 0)

-- a mark, three times
abbrev pub marks : ℕ → List Symbol
marks cells = Mark cells ∷ Mark cells ∷ Mark cells ∷ []

-- the byte of a symbol
abbrev pub symbol_byte : Symbol → ℕ
symbol_byte (Byte byte) = byte
symbol_byte (Key byte) = byte
symbol_byte (Mark cells) = byte_at (cells ∷ []) 0

-- the CRC of a field of these symbols
abbrev pub check_symbols : List Symbol → List Symbol
check_symbols symbols = map (λ byte. Byte byte) (check_bytes (crc (after_marks (map symbol_byte symbols))))

-- a field: sync, three marks A1, these symbols and their CRC, with a gap behind it
unfoldable pub field_symbols : List Symbol → ℕ → List Symbol
field_symbols symbols count = sync ++ (marks 0x4489 ++ (symbols ++ (check_symbols symbols ++ gap count)))

-- before the first sector: gap 4a, the index mark and gap 1, together 146 bytes
unfoldable pub before_sectors : List Symbol
before_sectors = gap 80 ++ (sync ++ (marks 0x5224 ++ (Byte 0xFC ∷ gap 50)))

-- what an address field of a key holds
abbrev pub address_content : Chrn → List Symbol
address_content key = Byte 0xFE ∷ Key key.c ∷ Key key.h ∷ Key key.r ∷ Key key.n ∷ []

-- what a data field of `size` bytes `fill` holds
abbrev pub data_content : ℕ → ℕ → List Symbol
data_content size fill = Byte 0xFB ∷ replicate size (Byte fill)

-- a sector: its address field and gap 2, and its data field and gap 3
abbrev pub sector_symbols : ℕ → ℕ → ℕ → Chrn → List Symbol
sector_symbols size gap3 fill key = field_symbols (address_content key) 22 ++ field_symbols (data_content size fill) gap3

-- sectors one after the other
unfoldable pub sectors_symbols : ℕ → ℕ → ℕ → List Chrn → List Symbol
sectors_symbols size gap3 fill keys = flat_map (sector_symbols size gap3 fill) keys

-- a track up to gap 4b
abbrev pub track_symbols : List Chrn → ℕ → ℕ → ℕ → List Symbol
track_symbols keys n gap3 fill = before_sectors ++ sectors_symbols (content_size n) gap3 fill keys

-- the formatted track of `words` words: gap 4b goes up to the index, and a layout that is too long is cut there
unfoldable pub lay : List Chrn → ℕ → ℕ → ℕ → ℕ → List ℕ
lay keys n gap3 fill words = recorded false (take words (track_symbols keys n gap3 fill ++ gap words))

-- how many words are taken by this many sectors and what stands before them
abbrev pub laid_words : ℕ → ℕ → ℕ → ℕ
laid_words sectors n gap3 = 146 + sectors * (62 + content_size n + gap3)

-- the sectors, and what stands before them, fit on a track of `words` words
abbrev pub Fits : List Chrn → ℕ → ℕ → ℕ → Type 0
Fits keys n gap3 words = laid_words (length keys) n gap3 ≤ words

-- the next symbol, or 4E if all were recorded
abbrev pub next_symbol : List Symbol → Symbol
next_symbol symbols = slice_index_or symbols 0 (Byte 0x4E)
