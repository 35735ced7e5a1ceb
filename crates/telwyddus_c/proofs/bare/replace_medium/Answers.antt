use Rattle.std.proofs.Common.{◌≡◌, true, Some, sym, ◌∙◌, ap, subst}
use Rattle.telwyddus_c.proofs.Common.{bay_state, BayDrive, same_length}
use Rattle.telwyddus_c.proofs.Bared.{exchanged_there}
use Rattle.telwyddus_c.proofs.bare.replace_medium.Goals as goal

pub trade-before-requires : goal.trade-before-requires
trade-before-requires c =
    subst (λ (drive : BayDrive). same_length c.args.medium (bay_state drive).medium ≡ true) (sym c.swap_drive.ensures.taken) c.requires.alike

pub returns : goal.returns
returns c = record {
  has = exchanged_there c.args.bay (Some c.args.medium) _ _ _ _ _ _ c.swap_drive.ensures.taken c.trade-before.ensures.has
      c.swap_drive-2.ensures.put c.swap_drive.ensures.whole c.swap_drive-2.ensures.whole;
  before = c.trade-before.ensures.before ∙ ap (λ (drive : BayDrive). (bay_state drive).medium) c.swap_drive.ensures.taken;
}
