use Rattle.flat_files.proofs.Common.{AreOfTracks}
use Rattle.flat_files.proofs.filing.file_of.Given as goal

abbrev pub invariant-loop-track : goal.invariant-loop-track
invariant-loop-track l = AreOfTracks l.tracks l.form l.track l.bytes.items
