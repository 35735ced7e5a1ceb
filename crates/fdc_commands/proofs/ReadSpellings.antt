-- The bytes of READ DATA and READ ID.
use Rattle.std.proofs.Common.{◌≡◌, ℕ, ◌≤◌, ◌&&◌, nat_le, true, refl, arith}
use Rattle.std.proofs.lemmas.Bool.Decides.{nat_tests}
use Rattle.flop_base.specs.declared.key.Chrn.{Chrn}
use Rattle.fdc_commands.specs.Table.{answer}
use Rattle.fdc_commands.specs.Reads.{SpellsRead, SpellsReadId}

within : (n : ℕ) → 1 ≤ n → n ≤ 6 → (nat_le 1 n && nat_le n 6) ≡ true
within n low high = grind (arith, nat_tests)

pub spells_read : (head_drive : ℕ) (key : Chrn) (last_sector gap length_code : ℕ) → 1 ≤ key.n → key.n ≤ 6 → SpellsRead head_drive key last_sector gap length_code
unfolding answer
spells_read head_drive key last_sector gap length_code low high = record {
  code = refl;
  head = refl;
  c = refl;
  h = refl;
  r = refl;
  n = refl;
  last = refl;
  gap_length = refl;
  whole = rw (within key.n low high) refl;
}

pub spells_id : (head_drive : ℕ) → SpellsReadId head_drive
unfolding answer
spells_id head_drive = record { code = refl; whole = refl }
