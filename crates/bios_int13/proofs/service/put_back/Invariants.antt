use Rattle.std.proofs.Common.{◌≡◌, List, map, take, Option}
use Rattle.bios_int13.proofs.Common.{range_with_len, Files, with_items, Taken, AreDone, put_request}
use Rattle.bios_int13.proofs.service.put_back.Given as goal

abbrev pub invariant-loop-i : goal.invariant-loop-i
invariant-loop-i g l = record {
  done : (told : Option Files) → (course : List Taken) × AreDone (map (put_request l.fn.address l.kept) (range_with_len 0 l.i)) l.fn.session told course l.session;
  memory : l.session.station.memory ≡ with_items l.fn.session.station.memory l.fn.address (take l.i l.kept);
}
