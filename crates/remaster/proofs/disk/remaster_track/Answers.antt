use Rattle.std.proofs.Common.{rules, arith, sym, ◌∙◌, vec_len}
use Rattle.remaster.proofs.Blanks.{empty_when, blank_remaster}
use Rattle.remaster.proofs.disk.remaster_track.Goals as goal

pub returns-then-is_empty-clause-done : goal.returns-then-is_empty-clause-done
returns-then-is_empty-clause-done c =
    blank_remaster c.args.rate c.args.c c.args.h c.args.words.now c.in_ok-vec.field-0.items c.in_ok-sectors.sectors.items
    (empty_when c.in_ok-sectors.sectors.items (vec_len c.in_ok-sectors.sectors) (omega arith) (sym c.is_empty.ensures ∙ c.if-is_empty.true)) c.in_ok-sectors.ensures.exact (search rules)
