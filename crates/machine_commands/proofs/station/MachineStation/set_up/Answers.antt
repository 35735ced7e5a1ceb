use Rattle.std.proofs.Common.{length, sym, subst, ap, ◌∙◌}
use Rattle.machine_commands.proofs.Common.{length-map, All-map, All-same, DriveTells, Board, board, IsEmpty, CostsFor, IsReset, CanSetUp, counts_of, rig_of, rig_shown, all_counts}
use Rattle.machine_commands.proofs.Landing.{fresh_can_set_up, flags_free, starts_fresh, starts_so}
use Rattle.machine_commands.proofs.station.MachineStation.set_up.Goals as goal

pub set_up-driver-requires : goal.set_up-driver-requires
set_up-driver-requires g c =
    let state = g.D.Drive.state in
    record { empty = subst (λ (b : Board). CanSetUp (rig_of b)) (sym c.new-machine.ensures) (fresh_can_set_up (board state c.args.machine) c.requires.machine) }

pub returns-clause-fresh : goal.returns-clause-fresh
returns-clause-fresh g c =
    let state = g.D.Drive.state in
    let new = rig_shown state c.set_up-driver.new.machine in
    let items = c.from_vec.result.items in
    let reset = subst (λ (b : Board). IsReset (rig_of b) new) c.new-machine.ensures c.set_up-driver.ensures.resets in
    starts_fresh (board state c.args.machine) c.requires.machine c.set_up-driver.result new c.set_up-driver.ensures.fresh reset (length items) (all_counts state items)
    (length-map items (λ drive. counts_of (state drive)))
    (subst (λ (b : Board). DriveTells (counts_of b.first)) c.machine.ensures c.hear_machine.ensures.first)
    (subst (λ (b : Board). DriveTells (counts_of b.second)) c.machine.ensures c.hear_machine.ensures.second)
    (All-map DriveTells (λ drive. counts_of (state drive)) items (All-same (λ drive. DriveTells (counts_of (state drive))) items c.deref.result.now (c.from_vec.ensures.items ∙ sym c.deref.ensures.value) c.hear_spare.ensures))

pub returns-clause-starts : goal.returns-clause-starts
returns-clause-starts g c =
    let state = g.D.Drive.state in
    let new = rig_shown state c.set_up-driver.new.machine in
    let items = c.from_vec.result.items in
    let reset = subst (λ (b : Board). IsReset (rig_of b) new) c.new-machine.ensures c.set_up-driver.ensures.resets in
    let costs = subst (λ (b : Board). CostsFor 0 0 2 22 (rig_of b) new) c.new-machine.ensures c.set_up-driver.ensures.costs in
    starts_so (board state c.args.machine) c.requires.machine c.set_up-driver.result new c.set_up-driver.ensures.fresh reset (length items) (all_counts state items)
    (all_counts state c.args.spare.items) (ap (all_counts state) c.from_vec.ensures.items) costs

pub returns-clause-ready : goal.returns-clause-ready
returns-clause-ready g c =
    let state = g.D.Drive.state in
    let new = rig_shown state c.set_up-driver.new.machine in
    let items = c.from_vec.result.items in
    let reset = subst (λ (b : Board). IsReset (rig_of b) new) c.new-machine.ensures c.set_up-driver.ensures.resets in
    record {
      idle = c.set_up-driver.ensures.idle;
      attached = c.set_up-driver.ensures.attached;
      flags = c.empty.ensures ∙ sym (flags_free (board state c.args.machine) c.requires.machine c.set_up-driver.result new c.set_up-driver.ensures.fresh reset (length items) (all_counts state items));
      spare = All-same (λ drive. IsEmpty (state drive)) items c.args.spare.items c.from_vec.ensures.items c.requires.spare;
    }
