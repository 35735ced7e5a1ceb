-- The registers of a call, and the line that prints the registers after it.
use Rattle.std.specs.Prelude.{ℕ, ◌/◌, Bool, false, List, ◌++◌, codes, if◌then◌else◌}
use Rattle.text_commands.specs.Common.{hex_digit, Regs}

-- the registers of a call; the carry is clear before it
abbrev pub registers : ℕ → ℕ → ℕ → ℕ → ℕ → Regs
registers ax bx cx dx es = record { ax = ax; bx = bx; cx = cx; dx = dx; es = es; carry = false }

-- a register, in four hexadecimal digits
abbrev pub hex4 : ℕ → List ℕ
hex4 n = hex_digit (n / 4096) ++ (hex_digit (n / 256) ++ (hex_digit (n / 16) ++ hex_digit n))

abbrev pub carry_text : Bool → List ℕ
carry_text carry = if carry then codes "1" else codes "0"

-- the line with the registers after a call, and its carry
unfoldable pub call_text : Regs → List ℕ
call_text regs =
    codes "call " ++ (hex4 regs.ax ++ (codes " " ++ (hex4 regs.bx ++ (codes " " ++ (hex4 regs.cx ++ (codes " " ++ (hex4 regs.dx
    ++ (codes " " ++ (carry_text regs.carry ++ codes "\n")))))))))
