-- How the controller's own command for a sector begins.
use Rattle.std.proofs.Common.{◌≡◌, Bool, true, false, refl}
use Rattle.fdc_sequencer.proofs.Common.{AdapterState, Front, begun_if, Transfer}

-- the adapter that the front had before doesn't matter
pub begun_over : (executing : Bool) (transfer : Transfer) (counted passed_over : Bool) (between : AdapterState) (old : Front)
    → begun_if executing transfer counted passed_over between (record old { adapter = between }) ≡ begun_if executing transfer counted passed_over between old
begun_over true transfer counted passed_over between old = refl
begun_over false transfer counted passed_over between old = refl
