use Rattle.std.proofs.Common.{sym, ◌∙◌}
use Rattle.telwyddus_c.proofs.Common.{medium_in}
use Rattle.telwyddus_c.proofs.Bared.{alike_length, alike_none, own_stays}
use Rattle.telwyddus_c.proofs.bare.exchange.Goals as goal

pub replace_medium-requires : goal.replace_medium-requires
replace_medium-requires c = record {
  bay = c.requires.bay;
  alike = alike_length c.args.medium c.in-Some.medium (medium_in c.args.controller.now c.args.bay) c.in-Some.is c.requires.alike;
}

pub returns-in-None : goal.returns-in-None
returns-in-None c =
    let none = alike_none c.args.medium (medium_in c.args.controller.now c.args.bay) c.in-None.is c.requires.alike in
    record { has = own_stays c.args.medium c.args.bay c.args.controller.now (none ∙ sym c.in-None.is); before = sym none }
