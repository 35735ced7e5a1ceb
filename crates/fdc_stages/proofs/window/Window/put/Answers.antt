use Rattle.std.proofs.Common.{subst, sym}
use Rattle.fdc_stages.proofs.Common.{Gives, is_low, window_behind}
use Rattle.fdc_stages.proofs.window.Window.put.Goals as goal

pub returns-in-Sync : goal.returns-in-Sync
returns-in-Sync c =
    subst (λ part. Gives part c.args.self.now c.args.byte c.give_sync.result (window_behind (is_low part) c.give_sync.new.self)) (sym c.in-Sync.is) (c.give_sync.ensures c.args.byte)

pub returns-in-Marks : goal.returns-in-Marks
returns-in-Marks c =
    subst (λ part. Gives part c.args.self.now c.args.byte c.give_mark_word.result (window_behind (is_low part) c.give_mark_word.new.self)) (sym c.in-Marks.is) (c.give_mark_word.ensures c.args.byte)

pub returns-in-Mark : goal.returns-in-Mark
returns-in-Mark c =
    subst (λ part. Gives part c.args.self.now c.args.byte c.give_mark.result (window_behind (is_low part) c.give_mark.new.self)) (sym c.in-Mark.is) (c.give_mark.ensures c.args.byte)

pub returns-in-Content : goal.returns-in-Content
returns-in-Content c =
    subst (λ part. Gives part c.args.self.now c.args.byte c.give_byte.result (window_behind (is_low part) c.give_byte.new.self)) (sym c.in-Content.is) c.give_byte.ensures

pub returns-in-High : goal.returns-in-High
returns-in-High c =
    subst (λ part. Gives part c.args.self.now c.args.byte c.give_high.result (window_behind (is_low part) c.give_high.new.self)) (sym c.in-High.is) (c.give_high.ensures c.args.byte)

pub returns-in-Low : goal.returns-in-Low
returns-in-Low c =
    subst (λ part. Gives part c.args.self.now c.args.byte c.give_low.result (window_behind (is_low part) c.args.self.now)) (sym c.in-Low.is) (c.give_low.ensures c.args.byte)
