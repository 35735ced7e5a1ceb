-- The command table, and what the bytes of a command come to.
use Rattle.std.specs.Prelude.{◌≤◌, IfSome, ◌==◌, ◌&&◌, ℕ, Bool, true, false, List, [], ◌∷◌, Option, Some, None, if◌then◌else◌, nat_le, slice_index, length, find}
use Rattle.std.specs.Option.{option_map_or}
use Rattle.flop_base.specs.declared.key.Chrn.{Chrn}
use Rattle.fdc_commands.specs.declared.command.Command.{Command}
use Rattle.fdc_commands.specs.declared.command.Command.TheVariants.{Specify, SenseDrive, Recalibrate, SenseInterrupt, Seek, Version, Configure, ReadId, ReadData, WriteData, WriteDeleted, FormatTrack}
use Rattle.fdc_commands.specs.declared.bytes.Accepted.{Accepted}
use Rattle.fdc_commands.specs.declared.bytes.Accepted.TheVariants.{More, Ready, Invalid}

-- a row of the table: the code of a command, how many bytes follow the code, and which command they spell
pub record Row : Type 0 where
  pub code : ℕ
  pub count : ℕ
  pub spells : List ℕ → Command

-- a row in one line
abbrev pub row : ℕ → ℕ → (List ℕ → Command) → Row
row code count spells = record { code = code; count = count; spells = spells }

-- byte i of a command; its code is byte 0
abbrev pub nth : List ℕ → ℕ → ℕ
nth bytes i = slice_index bytes i

-- the sector ID of a data command: the second to the fifth byte after the code
abbrev pub key_of : List ℕ → Chrn
key_of bytes = record { c = nth bytes 2; h = nth bytes 3; r = nth bytes 4; n = nth bytes 5 }

-- the command table
abbrev pub table : List Row
table =
    row 0x03 2 (λ b. Specify (nth b 1) (nth b 2))
    ∷ row 0x04 1 (λ b. SenseDrive (nth b 1))
    ∷ row 0x07 1 (λ b. Recalibrate (nth b 1))
    ∷ row 0x08 0 (λ b. SenseInterrupt)
    ∷ row 0x0F 2 (λ b. Seek (nth b 1) (nth b 2))
    ∷ row 0x10 0 (λ b. Version)
    ∷ row 0x13 3 (λ b. Configure (nth b 1) (nth b 2) (nth b 3))
    ∷ row 0x4A 1 (λ b. ReadId (nth b 1))
    ∷ row 0x46 8 (λ b. ReadData (nth b 1) (key_of b) (nth b 6) (nth b 7) (nth b 8))
    ∷ row 0x45 8 (λ b. WriteData (nth b 1) (key_of b) (nth b 6) (nth b 7) (nth b 8))
    ∷ row 0x49 8 (λ b. WriteDeleted (nth b 1) (key_of b) (nth b 6) (nth b 7) (nth b 8))
    ∷ row 0x4D 5 (λ b. FormatTrack (nth b 1) (nth b 2) (nth b 3) (nth b 4) (nth b 5))
    ∷ []

-- the row with this code, if the table has one
abbrev pub row_of : ℕ → Option Row
row_of code = find (λ r. r.code == code) table

-- the size code of a command that has one
abbrev pub size_code : Command → Option ℕ
size_code (ReadData _ key _ _ _) = Some key.n
size_code (WriteData _ key _ _ _) = Some key.n
size_code (WriteDeleted _ key _ _ _) = Some key.n
size_code (FormatTrack _ n _ _ _) = Some n
size_code _ = None

-- whether a command's size code is 1 to 6, or it has none
abbrev pub is_sized : Command → Bool
is_sized command = option_map_or (λ n. nat_le 1 n && nat_le n 6) (size_code command) true

-- what a whole command comes to
abbrev pub whole : Command → Accepted
whole command = if is_sized command then Ready command else Invalid

-- a command has begun: it has bytes so far
abbrev pub is_begun : List ℕ → Bool
is_begun [] = false
is_begun (_ ∷ _) = true

-- what the bytes so far come to, if their code is in this row
abbrev pub answer_by : Row → List ℕ → Accepted
answer_by r bytes = if nat_le (length bytes) r.count then More else whole (r.spells bytes)

-- what the bytes so far come to: more bytes are wanted, or a whole command is ready, or the code or the size code is
-- invalid
unfoldable pub answer : List ℕ → Accepted
answer bytes = option_map_or (λ r. answer_by r bytes) (row_of (slice_index bytes 0)) Invalid

-- the bytes that are kept: all of them if more are wanted, and none after a command or an invalid one
abbrev pub kept : Accepted → List ℕ → List ℕ
kept More bytes = bytes
kept _ bytes = []

-- the command's size code is from 1 to 6, if it has one
abbrev pub SizeInRange : Command → Type 0
SizeInRange command = IfSome (size_code command) (λ n. (1 ≤ n) × (n ≤ 6))

-- what holds of the command, if it is ready
abbrev pub IfReady : Accepted → (Command → Type 0) → Type 0
IfReady (Ready command) P = P command
IfReady _ P = Unit {0}
