-- What a shelf in memory shows.
use Rattle.std.specs.Prelude.{ℕ, List, map, None, Vec, String, string_bytes}
use Rattle.std.specs.declared.alloc.Global.{Global}
use Rattle.std.specs.FinMap as fin
use Rattle.flop_base.specs.Shelf.{Files}
use Rattle.memory_files.specs.declared.memory.MemShelf.{MemShelf}

-- a kept file as name and bytes
abbrev pub file_of : String Global × Vec ℕ Global → List ℕ × List ℕ
file_of entry = (string_bytes entry.0, entry.1.items)

-- the files of the shelf; it keeps no list of the stores that were made
abbrev pub files_of : MemShelf → Files
files_of shelf = record { held = fin.from_entries (map file_of shelf.files.entries); stores = None }

-- how many calls of load and store there were
abbrev pub calls_of : MemShelf → ℕ
calls_of shelf = shelf.calls

-- the numbers of the calls that fail
abbrev pub failing_of : MemShelf → List ℕ
failing_of shelf = shelf.failing.items

-- how many calls failed
abbrev pub faults_of : MemShelf → ℕ
faults_of shelf = shelf.faults
