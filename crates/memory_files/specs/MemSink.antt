-- What a sink in memory shows.
use Rattle.std.specs.Prelude.{ℕ, List}
use Rattle.memory_files.specs.Lines.{lines_in}
use Rattle.memory_files.specs.declared.memory.MemSink.{MemSink}

-- the printed lines, each by one call
abbrev pub lines_of : MemSink → List (List ℕ)
lines_of sink = lines_in sink.lines.bytes.items sink.lines.lengths.items

-- how many calls of put there were
abbrev pub calls_of : MemSink → ℕ
calls_of sink = sink.calls

-- the numbers of the calls that fail
abbrev pub failing_of : MemSink → List ℕ
failing_of sink = sink.failing.items

-- how many calls failed
abbrev pub faults_of : MemSink → ℕ
faults_of sink = sink.faults
