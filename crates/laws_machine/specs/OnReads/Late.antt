-- Results that report that a data command took all its steps.
use Rattle.std.specs.Prelude.{Bool, true, false}
use Rattle.laws_machine.specs.Common.{Ending, Late, Answer, Long, Phase, Result}

-- the ending is MA because all steps were taken
abbrev pub ends_late : Ending → Bool
ends_late Late = true
ends_late _ = false

abbrev pub answers_late : Answer → Bool
answers_late (Long ending _ _) = ends_late ending
answers_late _ = false

abbrev pub is_late : Phase → Bool
is_late (Result answer) = answers_late answer
is_late _ = false
