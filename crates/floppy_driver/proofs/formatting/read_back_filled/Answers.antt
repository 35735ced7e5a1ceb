use Rattle.std.proofs.Common.{subst, sym, ◌∙◌, ℕ}
use Rattle.floppy_driver.proofs.Common.{false≢true, err_from_is_err_and, IsFilled}
use Rattle.floppy_driver.proofs.ReadBacks.{read_back_missed, read_back_differs}
use Rattle.floppy_driver.proofs.formatting.read_back_filled.Goals as goal

pub returns-in_err-read_back-clause-reads : goal.returns-in_err-read_back-clause-reads
returns-in_err-read_back-clause-reads g c =
    let p = err_from_is_err_and c.from_residual.result c.from_residual.ensures.1 in
    rw (p.1, p.2)
    (read_back_missed (g.C.Commands.rig c.args.machine.now) c.args.bay c.args.key c.args.rate c.args.fill
    c.in_err-read_back.field-0.0 (g.C.Commands.rig c.read_back.new.self) c.in_err-read_back.ensures.step)

pub returns-else-is_page_filled-clause-reads : goal.returns-else-is_page_filled-clause-reads
returns-else-is_page_filled-clause-reads g c =
    read_back_differs (g.C.Commands.rig c.args.machine.now) c.args.bay c.args.key c.args.rate c.args.fill
    c.in_ok-read_back.field-0 (g.C.Commands.rig c.read_back.new.self) c.in_ok-read_back.ensures.step
    (λ filled.
    let page = (g.C.Commands.rig c.read_back.new.self).page in
    let Filled : ℕ → Type 0 = λ n. IsFilled page n c.args.fill in
    false≢true (sym c.if-is_page_filled.false ∙ c.is_page_filled.ensures.1 (subst Filled (sym c.sector_size.ensures.size) filled)))
