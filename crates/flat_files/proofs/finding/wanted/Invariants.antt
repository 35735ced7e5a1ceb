use Rattle.std.specs.Prelude.{◌≡◌, drop, find}
use Rattle.flat_files.proofs.Common.{is_wanted}
use Rattle.flat_files.proofs.finding.wanted.Given as goal

abbrev pub invariant-loop-sector : goal.invariant-loop-sector
invariant-loop-sector l = find (is_wanted l.n l.c l.h l.r) (drop l.sector-index l.sectors) ≡ find (is_wanted l.n l.c l.h l.r) l.sectors
