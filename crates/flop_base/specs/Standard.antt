-- The standard formats of diskettes by their rate: 1.44 MB at 500 kbit/s, 720 KB at 250 kbit/s.
use Rattle.std.specs.Prelude.{ℕ}
use Rattle.flop_base.specs.declared.answers.Rate.{Rate}
use Rattle.flop_base.specs.declared.answers.Rate.TheVariants.{R500, R250}

-- the sectors of a track
abbrev pub sectors_at : Rate → ℕ
sectors_at R500 = 18
sectors_at R250 = 9

-- the words that pass in one revolution
abbrev pub words_at : Rate → ℕ
words_at R500 = 12500
words_at R250 = 6250

-- gap 3 as a track is formatted
abbrev pub gap_at : Rate → ℕ
gap_at R500 = 0x6C
gap_at R250 = 0x50

-- gap 3 as a read or a write names it
abbrev pub read_gap_at : Rate → ℕ
read_gap_at R500 = 0x1B
read_gap_at R250 = 0x2A

-- the byte that a format fills its sectors with
abbrev pub standard_fill : ℕ
standard_fill = 0xF6

-- the size code of sectors of 512 bytes
abbrev pub standard_code : ℕ
standard_code = 2
