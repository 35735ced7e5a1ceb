-- The turns of a loop that appends bytes to an argument.
use Rattle.std.proofs.Common.{◌≡◌, ◌<◌, ◌+◌, List, ℕ, Ok, Err}
use Rattle.disk_commands.proofs.Common.{Status, Part, each, Hand, IsTurning, RanPart, turn_goes, turn_ends, turns_over, amid_goes, amid_ends, amid_over, GoesOn}

-- a turn is gone through
pub bytes_go : {R : Type 0} (hand : R → Hand) (first count i : ℕ) (part : ℕ → List ℕ → Part (List ℕ)) (begun found next : List ℕ) (old mid new : R)
    → IsTurning hand first count part begun old i found mid → RanPart hand (GoesOn (part i found) next) mid (Ok tt) new → i < first + count
    → IsTurning hand first count part begun old (i + 1) next new
bytes_go hand first count i part begun found next old mid new at ran less = record {
  amid = amid_goes hand _ _ _ tt old mid new at.amid ran (turn_goes first count i part begun found next _ _ _ at.amid.at ran.goes less);
}

-- a turn ends the script, whatever the bytes are then
pub bytes_end : {R : Type 0} (hand : R → Hand) (first count i : ℕ) (part : ℕ → List ℕ → Part (List ℕ)) (begun found next : List ℕ) (old mid new : R) (ended : Status)
    → IsTurning hand first count part begun old i found mid → RanPart hand (GoesOn (part i found) next) mid (Err ended) new → i < first + count
    → RanPart hand (GoesOn (each first count part begun) next) old (Err ended) new
bytes_end hand first count i part begun found next old mid new ended at ran less =
    amid_ends hand _ _ _ ended old mid new at.amid ran (turn_ends first count i part begun found _ _ _ ended at.amid.at ran.goes less)

-- all turns are gone through
pub bytes_over : {R : Type 0} (hand : R → Hand) (first count i : ℕ) (part : ℕ → List ℕ → Part (List ℕ)) (begun found : List ℕ) (old now : R)
    → IsTurning hand first count part begun old i found now → i ≡ first + count
    → RanPart hand (GoesOn (each first count part begun) found) old (Ok tt) now
bytes_over hand first count i part begun found old now at all =
    amid_over hand _ _ tt old now at.amid (turns_over first count i part begun found _ _ at.amid.at all)
