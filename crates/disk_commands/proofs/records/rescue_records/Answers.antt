use Rattle.std.proofs.Common.{arith, ◌<◌, length}
use Rattle.disk_commands.proofs.Common.{err_from_is_err_and, Chrn, amid_goes, amid_ends, amid_over}
use Rattle.disk_commands.proofs.RescueTurns.{key_goes, key_ends, keys_over}
use Rattle.disk_commands.proofs.records.rescue_records.Goals as goal

-- any key, which stands for reads past the end of the list
abbrev no_key : Chrn
no_key = record { c = 0; h = 0; r = 0; n = 0 }

pub returns-in_err-log : goal.returns-in_err-log
returns-in_err-log g c =
    let within : c.loop-key.key-index < length c.args.keys.now = omega arith in
    let p = err_from_is_err_and c.from_residual.result c.from_residual.ensures.1 in
    rw (p.1, p.2) (amid_ends _ _ _ _ _ _ _ _ c.loop-key.invariant c.in_err-log.ensures
    (key_ends _ _ no_key _ _ _ _ _ _ within c.loop-key.invariant.at c.in_err-log.ensures.goes))

pub loop-key-preserved : goal.loop-key-preserved
loop-key-preserved g c =
    let within : c.loop-key.key-index < length c.args.keys.now = omega arith in
    amid_goes _ _ _ _ _ _ _ _ c.loop-key.invariant c.in_ok-log.ensures
    (key_goes _ _ no_key _ _ _ _ _ _ within c.loop-key.invariant.at c.in_ok-log.ensures.goes)

pub returns : goal.returns
returns g c = amid_over _ _ _ _ _ _ c.loop-key.invariant (keys_over _ _ _ c.loop-key.log _ _ (omega arith) c.loop-key.invariant.at)
