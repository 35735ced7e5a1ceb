use Rattle.flat_files.proofs.Common.{AddsRecords, cylinder_of, head_of}
use Rattle.flat_files.proofs.filing.add_records.Given as goal

abbrev pub invariant-loop-i : goal.invariant-loop-i
invariant-loop-i l = AddsRecords l.tracks l.form.n (cylinder_of l.form l.track) (head_of l.form l.track) l.i l.initial.bytes.items l.bytes.items
