-- Drives whose list of faults is empty.
use Rattle.std.proofs.Common.{◌≡◌, List, [], Some, ap}
use Rattle.telwyddus_c.proofs.Common.{new_in_bay, total_left, told, Fault}
use Rattle.drive_model.specs.Mechanics.{at_rest}

-- a drive with an empty list of faults is one without faults
pub none_planned : (faults : List Fault) → faults ≡ [] → new_in_bay (told 0 (total_left faults)) ≡ new_in_bay (Some 0)
none_planned faults none = ap (λ (it : List Fault). new_in_bay (told 0 (total_left it))) none

-- the same without the bay around it
pub none_at_rest : (faults : List Fault) → faults ≡ [] → at_rest (told 0 (total_left faults)) ≡ at_rest (Some 0)
none_at_rest faults none = ap (λ (it : List Fault). at_rest (told 0 (total_left it))) none
