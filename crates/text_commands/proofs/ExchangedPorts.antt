-- How a line that exchanges media, or the end of a run, stops.
use Rattle.std.proofs.Common.{rules, ◌≡◌, ℕ, ◌≤◌, List, Option, None, Result, Ok, Err, false, ap, sym, arith}
use Rattle.text_commands.proofs.Common.{Files, Board, StopCause, Stop, Bench, Names, is_loaded, EndsBay, BayGoes, EndGoes, AtSecond, StopsAt, insert_refusal}
use Rattle.floppy_jobs.specs.declared.request.Request.TheVariants as request
use Rattle.floppy_jobs.specs.declared.ports.PortLine.TheVariants as line

free_bay : (names : Names) (bay : ℕ) → bay ≤ 1 → is_loaded names bay ≡ false → insert_refusal names bay ≡ None
free_bay names bay low empty = grind (arith, rules)

abbrev pub bench_with : Board → Names → Option Files → Bench
bench_with board names files = record { board = board; names = names; files = files }

-- an insert stops that loaded no image, and the bench is as it was
pub stops_loading : (board : Board) (names : Names) (told after : Option Files) (bay : ℕ) (name : List ℕ) (cause : Stop) → bay ≤ 1 → false ≡ is_loaded names bay → ((bay : ℕ) → StopCause told (request.Insert bay name) cause) → after ≡ told → StopsAt (line.Insert bay name) (bench_with board names told) cause (bench_with board names after)
stops_loading board names told after bay name cause low empty because same = (free_bay names bay low (sym empty), because bay, ap (bench_with board names) same)

-- bay 1 came to its end, and so did the run; or the end stopped there
pub second_ends : (result : Result (Unit {0}) Stop) (old mid new : Bench) → EndsBay 0 old mid → BayGoes 1 mid result new → EndGoes old result new
second_ends (Ok u) old mid new first second = record { mid = mid; first = first; second = second }
second_ends (Err cause) old mid new first (only, drops) = (only, AtSecond mid first drops)
