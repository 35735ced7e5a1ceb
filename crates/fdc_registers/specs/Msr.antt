-- the bits of the main status register
use Rattle.std.specs.Prelude.{ℕ, List, [], ◌∷◌, codes}

-- the data port is ready for a byte (request for master)
abbrev pub rqm : ℕ
rqm = 0x80

-- the byte goes to the host
abbrev pub dio : ℕ
dio = 0x40

-- execution without DMA
abbrev pub non_dma : ℕ
non_dma = 0x20

-- a command is in progress
abbrev pub busy : ℕ
busy = 0x10

-- drive 3 seeks
abbrev pub seeking_3 : ℕ
seeking_3 = 0x08

-- drive 2 seeks
abbrev pub seeking_2 : ℕ
seeking_2 = 0x04

-- drive 1 seeks
abbrev pub seeking_1 : ℕ
seeking_1 = 0x02

-- drive 0 seeks
abbrev pub seeking_0 : ℕ
seeking_0 = 0x01

-- each flag's name and its bits
abbrev pub named_bits : List (List ℕ × ℕ)
named_bits =
    (codes "RQM", rqm)
    ∷ (codes "DIO", dio)
    ∷ (codes "NON_DMA", non_dma)
    ∷ (codes "BUSY", busy)
    ∷ (codes "SEEKING_3", seeking_3)
    ∷ (codes "SEEKING_2", seeking_2)
    ∷ (codes "SEEKING_1", seeking_1)
    ∷ (codes "SEEKING_0", seeking_0)
    ∷ []
