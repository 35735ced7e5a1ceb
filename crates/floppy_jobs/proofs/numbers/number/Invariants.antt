use Rattle.std.proofs.Common.{◌≡◌, ◌≤◌, drop}
use Rattle.floppy_jobs.proofs.NumberLemmas.{read_on}
use Rattle.floppy_jobs.proofs.numbers.number.Given as goal

-- the number so far isn't too great, and the rest of the word decides as the whole word does
abbrev pub invariant-loop-byte : goal.invariant-loop-byte
invariant-loop-byte l = record {
  bounded : l.value ≤ l.greatest;
  same : read_on l.base l.least l.greatest l.value (drop l.byte-index l.word) ≡ read_on l.base l.least l.greatest 0 l.word;
}
