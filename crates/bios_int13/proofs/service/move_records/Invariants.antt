use Rattle.std.proofs.Common.{◌≡◌, ◌+◌, ◌≤◌, List, length, Option}
use Rattle.bios_int13.proofs.Common.{Files, SameOutside, Taken, Verify, AreDone, record_requests}
use Rattle.bios_int13.proofs.service.move_records.Given as goal

abbrev pub invariant-loop-i : goal.invariant-loop-i
invariant-loop-i g l = record {
  done : (told : Option Files) → (course : List Taken) × AreDone (record_requests l.fn.kind l.fn.bay l.fn.first l.fn.address l.i) l.fn.session told course l.session;
  outside : l.fn.kind ≡ Verify → l.fn.address + 512 ≤ length l.fn.session.station.memory → SameOutside l.fn.address 512 l.fn.session.station.memory
      l.session.station.memory;
}
