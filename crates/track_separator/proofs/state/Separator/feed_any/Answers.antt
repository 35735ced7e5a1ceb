use Rattle.std.proofs.Common.{refl, sym, ◌∙◌}
use Rattle.track_separator.proofs.Common.{false≢true, with_word, turn_after, WantsIn}
use Rattle.track_separator.proofs.Taken.{inside_feeds}
use Rattle.track_separator.proofs.Told.{fed_more}
use Rattle.track_separator.proofs.Ended.{waits_unfinished, waits_over, reads_unfinished, reads_over}
use Rattle.track_separator.proofs.Started.{stands_of, hunts_not_wants}
use Rattle.track_separator.proofs.state.Separator.feed_any.Goals as goal

pub returns-then-not-index : goal.returns-then-not-index
returns-then-not-index c =
    let took = c.take-seen.ensures in
    inside_feeds c.args.index c.args.word c.args.self.now c.take-seen.new.self c.take-seen.result c.if-not-index.true took.hunts took.waits took.reads took.turn_ended

pub returns-then-wanted : goal.returns-then-wanted
returns-then-wanted c =
    let took = c.take-seen.ensures in
    let last = c.if-not-index.false in
    let wants = c.is_wanted-wanted.ensures.0 c.if-wanted.true in
    record {
      keeps = λ fed h. c.new.ensures.hunts (turn_after c.args.index fed c.args.word);
      stands = λ fed h. hunts_not_wants (with_word fed c.args.word) _ _ _ (took.hunts.keeps fed h) wants;
      address = λ fed h inside. absurd (false≢true (sym inside ∙ last));
      follows = λ fed h. rw last c.new.ensures.follows;
      turns = λ e. c.new.ensures.follows;
      begins = λ e. c.new.ensures.begins;
      gives = λ fed was. absurd (hunts_not_wants (with_word fed c.args.word) _ _ _ (took.hunts.follows fed was).hunts wants);
      waits = λ fed p size waits.
          rw last (waits_unfinished (with_word fed c.args.word) p size _ _ _ c.take-seen.result c.take-seen.new.self.few (took.waits fed p size waits));
      reads = λ fed p q deleted size taken reads.
          rw last (reads_unfinished (with_word fed c.args.word) p q deleted size taken _ _ _ c.take-seen.result c.take-seen.new.self.few wants (took.reads fed p q deleted size taken reads));
      turn_ended = λ ended. (refl, c.new.ensures.hunts);
      any = λ fed h. c.new.ensures.any (turn_after c.args.index fed c.args.word);
      told = λ fed h. tt;
    }

pub returns-else-wanted : goal.returns-else-wanted
returns-else-wanted c =
    let took = c.take-seen.ensures in
    let last = c.if-not-index.false in
    let over : WantsIn c.take-seen.new.self.stage → ⊥ = λ w. false≢true (sym c.if-wanted.false ∙ c.is_wanted-wanted.ensures.1 w) in
    let more = fed_more c.args.self.now c.take-seen.new.self c.args.word c.take-seen.result took.hunts took.waits took.reads took.turn_ended in
    record {
      keeps = λ fed h. c.new.ensures.hunts (turn_after c.args.index fed c.args.word);
      stands = λ fed h. stands_of (with_word fed c.args.word) _ _ _ c.take-seen.result (took.hunts.tells fed h);
      address = λ fed h inside. absurd (false≢true (sym inside ∙ last));
      follows = λ fed h. rw last c.new.ensures.follows;
      turns = λ e. c.new.ensures.follows;
      begins = λ e. c.new.ensures.begins;
      gives = took.hunts.gives;
      waits = λ fed p size waits.
          rw last (waits_over (with_word fed c.args.word) p size _ _ _ c.take-seen.result over (took.waits fed p size waits));
      reads = λ fed p q deleted size taken reads.
          rw last (reads_over (with_word fed c.args.word) p q deleted size taken _ _ _ c.take-seen.result over (took.reads fed p q deleted size taken reads));
      turn_ended = λ ended. ((took.turn_ended ended).0, c.new.ensures.hunts);
      any = λ fed h. c.new.ensures.any (turn_after c.args.index fed c.args.word);
      told = λ fed h. (more fed h).1;
    }
