-- The bytes of WRITE DATA, WRITE DELETED DATA and FORMAT TRACK.
use Rattle.std.proofs.Common.{◌≡◌, ℕ, ◌≤◌, ◌&&◌, Bool, nat_le, true, false, refl, arith}
use Rattle.std.proofs.lemmas.Bool.Decides.{nat_tests}
use Rattle.flop_base.specs.declared.key.Chrn.{Chrn}
use Rattle.fdc_commands.specs.Table.{answer}
use Rattle.fdc_commands.specs.Writes.{SpellsWrite, SpellsFormat}

within : (n : ℕ) → 1 ≤ n → n ≤ 6 → (nat_le 1 n && nat_le n 6) ≡ true
within n low high = grind (arith, nat_tests)

pub spells_write : (deleted : Bool) (head_drive : ℕ) (key : Chrn) (last_sector gap length_code : ℕ) → 1 ≤ key.n → key.n ≤ 6
    → SpellsWrite deleted head_drive key last_sector gap length_code
unfolding answer
spells_write true head_drive key last_sector gap length_code low high = record {
  code = refl;
  head = refl;
  c = refl;
  h = refl;
  r = refl;
  n = refl;
  last = refl;
  gap_length = refl;
  whole = rw (within key.n low high) refl;
}
spells_write false head_drive key last_sector gap length_code low high = record {
  code = refl;
  head = refl;
  c = refl;
  h = refl;
  r = refl;
  n = refl;
  last = refl;
  gap_length = refl;
  whole = rw (within key.n low high) refl;
}

pub spells_format : (head_drive n sectors gap3 fill : ℕ) → 1 ≤ n → n ≤ 6 → SpellsFormat head_drive n sectors gap3 fill
unfolding answer
spells_format head_drive n sectors gap3 fill low high = record {
  code = refl;
  head = refl;
  size = refl;
  many = refl;
  gap = refl;
  whole = rw (within n low high) refl;
}
