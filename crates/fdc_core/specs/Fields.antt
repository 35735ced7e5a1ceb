-- A READ DATA that begins where the address field of its sector has just passed.
use Rattle.std.specs.Prelude.{◌≡◌, ℕ, false, List, [], ◌∷◌, ◌/◌, ◌%◌, length, slice_index}
use Rattle.fdc_core.specs.Common.{Chrn, address_bytes, Past, new_past, Sent, MayReadTask, Execute, Task}
use Rattle.track_model.specs.Bytes.{last_bit, legal}
use Rattle.track_model.specs.Crc.{crc}
use Rattle.fdc_core.specs.Commands.{begun}
use Rattle.fdc_core.specs.declared.controller.Fdc.{Fdc}

-- the word that records a byte after another
abbrev pub word_behind : ℕ → ℕ → ℕ
word_behind before byte = slice_index (legal (last_bit before) (byte ∷ [])) 0

-- the ten words of an address field: the three marks, its mark byte, the key and the CRC
abbrev pub address_words : Chrn → List ℕ
address_words key =
    let check = crc (address_bytes key) in
    0x4489 ∷ 0x4489 ∷ 0x4489 ∷ word_behind 0xA1 0xFE ∷ word_behind 0xFE key.c ∷ word_behind key.c key.h ∷ word_behind key.h key.r
    ∷ word_behind key.r key.n ∷ word_behind key.n (check / 256) ∷ word_behind (check / 256) (check % 256) ∷ []

-- a command that has heard these words, one in each of its device steps
abbrev pub heard_words : List ℕ → Past
heard_words words = record new_past { seen = words; place = length words; steps = length words }

-- the task is a READ DATA of what was sent. It has heard an address field of its key, and nothing else
abbrev pub HasMetField : Sent → Task → Type 0
HasMetField sent task = MayReadTask (heard_words (address_words sent.key)) sent sent.head_drive 10 task false []

-- such a READ DATA is in execution, after the ten device steps of the address field. All else is as in any data command
-- that begins
abbrev pub ReadsField : Sent → Fdc → Fdc → Type 0
ReadsField sent old new =
    (task : Task) × HasMetField sent task
    × (new ≡ record (begun sent.head_drive task old) { phase = Execute (record { head_drive = sent.head_drive; steps = 10; task = task }) })
