use Rattle.std.proofs.Common.{◌+◌, sym, subst, ◌∙◌}
use Rattle.fdc_core.proofs.Common.{read_outcome, HearsIn, Hears}
use Rattle.fdc_core.proofs.Words.{followed_is}
use Rattle.fdc_core.proofs.controller.Fdc.hear_seen.Goals as goal

pub returns-then-is_in_content : goal.returns-then-is_in_content
returns-then-is_in_content c =
    let old = c.args.self.now in
    let now = c.in-Execute.execution in
    let heard = c.hear-heard.result in
    let after = c.hear-heard.new.self in
    subst (λ phase. HearsIn phase c.args.passing.index c.args.passing.word old c.follow.new.self) (sym c.in-Execute.is)
    (subst (λ task. Hears now.head_drive (now.steps + 1) task c.args.passing.index c.args.passing.word old c.follow.new.self) (sym c.in-Read.is)
    (read_outcome after heard, (c.hear-heard.ensures.hears, c.hear-heard.ensures.well, c.hear-heard.ensures.mark), c.follow.ensures ∙ followed_is now.head_drive (now.steps + 1) c.in-Read.reading after heard old))
