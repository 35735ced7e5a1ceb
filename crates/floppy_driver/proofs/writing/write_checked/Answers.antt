use Rattle.std.proofs.Common.{◌<◌, refl, sym, subst}
use Rattle.floppy_driver.proofs.Common.{err_from_is_err_and, false≢true}
use Rattle.floppy_driver.proofs.CheckedWrites.{ends_written, ends_read, ends_marked, ends_other, ends_same, marks_differ, marks_same}
use Rattle.floppy_driver.proofs.writing.write_checked.Goals as goal

pub returns-in_err-write-clause-checked : goal.returns-in_err-write-clause-checked
returns-in_err-write-clause-checked g c =
    let p = err_from_is_err_and c.from_residual.result c.from_residual.ensures.1 in
    ends_written _ _ _ _ _ (g.C.Commands.rig c.write.new.self) _ _ _ p.0 c.write.ensures.step c.in_err-write.was p.1 p.2

pub returns-in_err-marked-clause-checked : goal.returns-in_err-marked-clause-checked
returns-in_err-marked-clause-checked g c =
    let p = err_from_is_err_and c.from_residual-in_err-marked.result c.from_residual-in_err-marked.ensures.1 in
    ends_read _ _ _ _ (g.C.Commands.rig c.write.new.self) _ _ _ tt c.write.ensures.step c.in_ok-write.was c.read_back.ensures.step _ _ p.0 c.in_err-marked.was p.1 p.2

pub returns-then-marked-deleted-clause-checked : goal.returns-then-marked-deleted-clause-checked
returns-then-marked-deleted-clause-checked g c =
    ends_marked _ _ _ _ (g.C.Commands.rig c.write.new.self) _ _ _ tt c.write.ensures.step c.in_ok-write.was c.read_back.ensures.step _ c.in_ok-marked.was (marks_differ _ _ c.if-marked-deleted.true)

pub returns-then-not-is_page_alike-clause-checked : goal.returns-then-not-is_page_alike-clause-checked
returns-then-not-is_page_alike-clause-checked g c =
    ends_other _ _ _ _ (g.C.Commands.rig c.write.new.self) _ _ _ tt c.write.ensures.step c.in_ok-write.was c.read_back.ensures.step _ c.in_ok-marked.was
    c.args.address refl c.requires.sound.memory c.requires.asked.within
    (λ alike. false≢true (c.if-not-is_page_alike.ensures.1 (λ k h. alike k (subst (λ n. k < n) c.sector_size.ensures.size h))))

pub returns-clause-checked : goal.returns-clause-checked
returns-clause-checked g c =
    ends_same _ _ _ _ (g.C.Commands.rig c.write.new.self) _ _ _ tt c.write.ensures.step c.in_ok-write.was c.read_back.ensures.step _ c.in_ok-marked.was
    c.args.address refl c.requires.sound.memory c.requires.asked.within (marks_same _ _ c.if-marked-deleted.false)
    (λ k h. c.if-not-is_page_alike.ensures.0 refl k (subst (λ n. k < n) (sym c.sector_size.ensures.size) h))
