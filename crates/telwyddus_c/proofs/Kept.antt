-- What stays over two changes of a bay.
use Rattle.std.proofs.Common.{ap, ◌∙◌}
use Rattle.telwyddus_c.proofs.Common.{ChipState, KeepsChip, with_front}

pub keeps_twice : (a b c : ChipState) → KeepsChip a b → KeepsChip b c → KeepsChip a c
keeps_twice a b c first second = record {
  front = record {
    controller = second.front.controller ∙ first.front.controller;
    stage = second.front.stage ∙ first.front.stage;
  };
  rest = second.rest ∙ ap (with_front c.front) first.rest;
}
