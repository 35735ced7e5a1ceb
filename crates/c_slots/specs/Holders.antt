-- What a holder owns: nothing, or a block with the right to free it.
use Rattle.std.specs.Prelude.{Option, None, Some}
use base.Fml.{Fml, ftrue}
use base.Stored.{Coded}
use denote.RattleType.{RattleType}
use denote.RawPtr.{Ptr}
use Rattle.std.specs.Box.Ownership.{box_owns}
use Rattle.std.specs.Global.{Global, Box}
use Rattle.std.specs.contracts.prelude.GlobalAllocator.TheImpl.{ghosts}
use Rattle.std.specs.Coded.{coded_option}

abbrev pub held_owns : (R : RattleType) → Global → Ptr → Option R.Denot → Fml
held_owns R alloc at None = ftrue
held_owns R alloc at (Some value) = box_owns (ghosts.dealloc_token alloc) R at value

abbrev pub held_coded : (R : RattleType) → Coded (Option R.Denot)
held_coded R = coded_option R.coded

-- what a box or none holds
abbrev pub boxed : {V : Type 0} → Option (Box V) → Option V
boxed None = None
boxed (Some box) = Some box.value
